-- One call of a run after another.
use Rattle.std.proofs.Common.{◌≡◌, ◌≤◌, ◌+◌, ℕ, Bool, List, [], ◌∷◌, ◌++◌, Option, refl, sym, subst, arith, MatchResult, OnOk}
use Rattle.std.specs.Prelude.{Result, Ok, Err, IsErr}
use Rattle.mux_outside.specs.House.{HouseState}
use Rattle.mux_outside.specs.HouseCalls.{HandsOn, HouseCall}
use Rattle.mux_outside.specs.Seen.{Seen}
use Rattle.mux_outside.specs.Streams.{without}
use Rattle.mux_outside.specs.declared.house.HouseReply.{HouseReply}
use Rattle.mux_outside.specs.declared.house_mark.HouseMark.{HouseMark}
use Rattle.mux_outside.specs.declared.mark.Mark.{Mark}
use Rattle.mux_history.specs.declared.limits.TheConstants.{HOUSE}
use Rattle.mux_history.specs.Policy.{Policy}
use Rattle.mux_state.specs.Events.{here}
use Rattle.mux_state.specs.State.{EngineState}
use Rattle.mux_engine.specs.Called.{Handed}
use Rattle.mux_engine.specs.Serving.{IsRunServed, OwnOn, Promised, RunsOn, Scene, ServedWith, Serving, ServesOn, StaysServed}
use Rattle.mux_engine.specs.Sides.{RestsOf, all_marks_noted}
use Rattle.mux_engine.specs.SilentAnswers.{AcceptsAs}
use Rattle.mux_engine.proofs.Arms.{on-err}
use Rattle.mux_engine.proofs.HouseCalls.{no-turns, no-turns-left, none-given, same-noted}
use Rattle.mux_engine.proofs.Runs.{promised-more}
use Rattle.mux_engine.proofs.Stepping.{handed-again, to-flush}

module _ {T : Type 0} (May : HouseReply → Type 0) (state : T → HouseState) (a b : T) (old new : Scene) where
  -- a call that went well, of a forwarder of which all was noted, with so many turns more
  pub record Ran (more : ℕ) (todo rest : List ℕ) : Type 0 where
    pub runs : RunsOn {A = Unit {0}} {E = Unit {0}} {T = T} (Ok tt) May state a b old new more (λ x. more) todo (λ x. rest)

  -- one that was cut short as memory ran out, with so many turns at most
  pub record WasCut (most : ℕ) (todo : List ℕ) : Type 0 where
    pub runs : RunsOn {A = Unit {0}} {E = Unit {0}} {T = T} (Err tt) May state a b old new most (λ x. 0) todo (λ x. [])

module _ {T : Type 0} (May : HouseReply → Type 0) (state : T → HouseState) where
  -- a call, where a forwarder is there so
  abbrev RunsIf : {A E : Type 0} → Bool → Result A E → T → T → Scene → Scene → ℕ → (A → ℕ) → List ℕ → (A → List ℕ) → Type 0
  RunsIf there r a b old new most more todo rest = (first : T) (calls : List HouseCall) (before : Option (List HouseMark)) (policy : Policy) (pid : ℕ) (start : Option (List Mark)) (given : ℕ) → HandsOn (state first).stands (state a).stands calls
      → Serving May (RestsOf state there first) before (all_marks_noted (state a).recorded (state a).known calls) policy pid start old.seen old.held old.failed given todo old.engine
      → MatchResult r (λ x. Handed (state first).stands (state b).stands (λ all. Serving May (RestsOf state there first) before (all_marks_noted (state b).recorded (state b).known all) policy pid start new.seen new.held new.failed (given + more x) (rest x) new.engine))
      (λ e. Promised May (RestsOf state there first) before (state b).recorded policy pid start new.seen.recorded (given + most))

-- streams of the master's own were offered what waits for them, whatever the outcome
pub own-runs : {A E T : Type 0} (r : Result A E) (May : HouseReply → Type 0) (state : T → HouseState) (a b : T) (seen seen' : Seen) (held held' failed failed' todo : List ℕ) (s : EngineState) → (state b).recorded ≡ (state a).recorded → OnOk r ((state b).known ≡ (state a).known) → OwnOn {T = T} r May state a b seen seen' held held' failed failed' → AcceptsAs seen s
    → RunsOn r May state a b (record { seen = seen; held = held; failed = failed; engine = s }) (record { seen = seen'; held = held'; failed = failed'; engine = s }) 0 (λ x. 0) todo (λ x. todo)
own-runs (Ok x) May state a b seen seen' held held' failed failed' todo s recorded known own accepts first calls before policy pid start given hands v =
    let h = own (state a).known.present first before (all_marks_noted (state a).recorded (state a).known calls) policy pid start given todo s accepts refl hands v in
    record { all = h.all; hands = h.hands; so = no-turns (same-noted (state a).recorded (state b).recorded (state a).known (state b).known recorded known h.so) }
own-runs (Err e) May state a b seen seen' held held' failed failed' todo s recorded known own accepts first calls before policy pid start given hands v =
    no-turns-left (subst (λ (marks : Option (List HouseMark)). Promised May (RestsOf state (state a).known.present first) before marks policy pid start seen'.recorded given) (sym recorded)
    (own (state a).known.present first before (all_marks_noted (state a).recorded (state a).known calls) policy pid start given todo s accepts refl hands v))

module _ {T : Type 0} {May : HouseReply → Type 0} {state : T → HouseState} where
  -- first a call that went well, and then this one
  pub runs-then : {A E : Type 0} (r : Result A E) {a b : T} (c : T) {old mid : Scene} (new : Scene) (most : ℕ) (more : A → ℕ) {todo todo' : List ℕ} (rest : A → List ℕ) → (state b).known.present ≡ (state a).known.present
      → Ran May state a b old mid 0 todo todo' → RunsOn r May state b c mid new most more todo' rest → RunsOn r May state a c old new most more todo rest
  runs-then r {a} {b} c {old} {mid} new most more {todo} {todo'} rest same ran next first calls before policy pid start given hands v =
      let h = ran.runs first calls before policy pid start given hands v in
      let there : RunsIf May state (state a).known.present r b c mid new most more todo' rest = subst (λ (p : Bool). RunsIf May state p r b c mid new most more todo' rest) same next in
      there first h.all before policy pid start given h.hands (none-given h.so)

  pub ran-then : {a b c : T} {old mid new : Scene} {more : ℕ} {todo todo' rest : List ℕ} → (state b).known.present ≡ (state a).known.present → Ran May state a b old mid 0 todo todo' → Ran May state b c mid new more todo' rest → Ran May state a c old new more todo rest
  ran-then {c = c} {new = new} {more = more} {rest = rest} same ran next = record { runs = runs-then {A = Unit {0}} {E = Unit {0}} (Ok tt) c new more (λ x. more) (λ x. rest) same ran next.runs }

  pub cut-then : {a b c : T} {old mid new : Scene} {most : ℕ} {todo todo' : List ℕ} → (state b).known.present ≡ (state a).known.present → Ran May state a b old mid 0 todo todo' → WasCut May state b c mid new most todo' → WasCut May state a c old new most todo
  cut-then {c = c} {new = new} {most = most} same ran next = record { runs = runs-then {A = Unit {0}} {E = Unit {0}} (Err tt) c new most (λ x. 0) (λ x. []) same ran next.runs }

  -- a call of which the result is known
  pub ran-as : {A E : Type 0} (r : Result A E) {a b : T} {old new : Scene} (most : ℕ) (more : A → ℕ) {todo : List ℕ} (rest : A → List ℕ) (x : A) → r ≡ Ok x → RunsOn r May state a b old new most more todo rest → Ran May state a b old new (more x) todo (rest x)
  ran-as r {a} {b} {old} {new} most more {todo} rest x is h = record { runs = subst (λ (q : Result _ _). RunsOn q May state a b old new most more todo rest) is h }

  -- running out of memory cuts all short
  pub runs-cut : {A E : Type 0} (r : Result A E) {a b : T} {old new : Scene} {most : ℕ} (most' : ℕ) (more : A → ℕ) {todo : List ℕ} (rest : A → List ℕ) → IsErr r → WasCut May state a b old new most todo → most ≤ most' → RunsOn r May state a b old new most' more todo rest
  runs-cut r {most = most} most' more rest e cut le first calls before policy pid start given hands v =
      on-err r _ _ e (promised-more (given + most) (given + most') (omega arith) (cut.runs first calls before policy pid start given hands v))

  -- ---- the forwarder is not called, or only handed what its streams accepted

  -- nothing happened
  pub ran-none : (a : T) (old : Scene) (todo : List ℕ) → Ran May state a a old old 0 todo todo
  ran-none a old todo = record { runs = λ first calls before policy pid start given hands v. record { all = calls; hands = hands; so = no-turns v } }

  pub own-ran : {a b : T} {seen seen' : Seen} {held held' failed failed' todo : List ℕ} {s : EngineState} → (state b).recorded ≡ (state a).recorded → (state b).known ≡ (state a).known → OwnOn {A = Unit {0}} {E = Unit {0}} {T = T} (Ok tt) May state a b seen seen' held held' failed failed' → AcceptsAs seen s
      → Ran May state a b (record { seen = seen; held = held; failed = failed; engine = s }) (record { seen = seen'; held = held'; failed = failed'; engine = s }) 0 todo todo
  own-ran {a} {b} {todo = todo} {s} recorded known own accepts = record {
    runs = λ first calls before policy pid start given hands v.
        let h = own (state a).known.present first before (all_marks_noted (state a).recorded (state a).known calls) policy pid start given todo s accepts refl hands v in
        record { all = h.all; hands = h.hands; so = no-turns (same-noted (state a).recorded (state b).recorded (state a).known (state b).known recorded known h.so) };
  }

  pub own-cut : {a b : T} {seen seen' : Seen} {held held' failed failed' todo : List ℕ} {s : EngineState} → (state b).recorded ≡ (state a).recorded → OwnOn {A = Unit {0}} {E = Unit {0}} {T = T} (Err tt) May state a b seen seen' held held' failed failed' → AcceptsAs seen s
      → WasCut May state a b (record { seen = seen; held = held; failed = failed; engine = s }) (record { seen = seen'; held = held'; failed = failed'; engine = s }) 0 todo
  own-cut {a} {seen' = seen'} {todo = todo} {s} recorded own accepts = record {
    runs = λ first calls before policy pid start given hands v.
        no-turns-left (subst (λ (marks : Option (List HouseMark)). Promised May (RestsOf state (state a).known.present first) before marks policy pid start seen'.recorded given) (sym recorded)
        (own (state a).known.present first before (all_marks_noted (state a).recorded (state a).known calls) policy pid start given todo s accepts refl hands v));
  }

  pub serves-ran : {a : T} {seen seen' : Seen} {held held' failed todo rest : List ℕ} {s s' : EngineState} → ServesOn {A = Unit {0}} {E = Unit {0}} {T = T} (Ok tt) May state seen seen' held held' todo (λ x. rest) s s'
      → Ran May state a a (record { seen = seen; held = held; failed = failed; engine = s }) (record { seen = seen'; held = held'; failed = failed; engine = s' }) 0 todo rest
  serves-ran {a} {failed = failed} serves = record {
    runs = λ first calls before policy pid start given hands v.
        record { all = calls; hands = hands; so = no-turns (serves (state a).known.present first before (all_marks_noted (state a).recorded (state a).known calls) policy pid start failed given v) };
  }

  pub serves-cut : {a : T} {seen seen' : Seen} {held held' failed todo : List ℕ} {s s' : EngineState} → ServesOn {A = Unit {0}} {E = Unit {0}} {T = T} (Err tt) May state seen seen' held held' todo (λ x. []) s s'
      → WasCut May state a a (record { seen = seen; held = held; failed = failed; engine = s }) (record { seen = seen'; held = held'; failed = failed; engine = s' }) 0 todo
  serves-cut {a} {failed = failed} serves = record {
    runs = λ first calls before policy pid start given hands v.
        no-turns-left (serves (state a).known.present first before (all_marks_noted (state a).recorded (state a).known calls) policy pid start failed given v);
  }

  pub stays-ran : {a : T} {seen seen' : Seen} {held held' failed todo : List ℕ} {s s' : EngineState} → StaysServed May state seen seen' held held' s s'
      → Ran May state a a (record { seen = seen; held = held; failed = failed; engine = s }) (record { seen = seen'; held = held'; failed = failed; engine = s' }) 0 todo todo
  stays-ran {a} {failed = failed} {todo} stays = record {
    runs = λ first calls before policy pid start given hands v.
        record { all = calls; hands = hands; so = no-turns (stays (state a).known.present first before (all_marks_noted (state a).recorded (state a).known calls) policy pid start failed given todo v) };
  }

  -- ---- what is left to be offered

  pub ran-again : {a b : T} {old new : Scene} {more : ℕ} {todo : List ℕ} → Ran May state a b old new more todo (0 ∷ without HOUSE (here new.engine)) → Ran May state a b old new more todo (0 ∷ here new.engine)
  ran-again ran = record {
    runs = λ first calls before policy pid start given hands v.
        let h = ran.runs first calls before policy pid start given hands v in record { all = h.all; hands = h.hands; so = handed-again h.so };
  }

  pub ran-to-flush : {a b : T} {old new : Scene} {todo : List ℕ} → Ran May state a b old new 0 todo (0 ∷ without HOUSE (here new.engine)) → Ran May state a b old new 0 todo (0 ∷ (without HOUSE (here new.engine) ++ []))
  ran-to-flush ran = record {
    runs = λ first calls before policy pid start given hands v.
        let h = ran.runs first calls before policy pid start given hands v in record { all = h.all; hands = h.hands; so = no-turns (to-flush h.so) };
  }

  -- ---- a run that was served

  pub served-then : {a b : T} {old new : Scene} {more : ℕ} {todo rest : List ℕ} → (state b).known.present ≡ (state a).known.present → ServedWith May state a old todo → Ran May state a b old new more todo rest → ServedWith May state b new rest
  served-then {a} {b} {old} {new} {more} {todo} {rest} same w ran =
      let h = ran.runs w.first w.calls w.before w.policy w.pid w.start w.given w.hands w.serving in
      record {
        first = w.first;
        calls = h.all;
        hands = h.hands;
        before = w.before;
        policy = w.policy;
        pid = w.pid;
        start = w.start;
        given = w.given + more;
        serving = subst (λ (p : Bool). Serving May (RestsOf state p w.first) w.before (all_marks_noted (state b).recorded (state b).known h.all) w.policy w.pid w.start new.seen new.held new.failed (w.given + more) rest new.engine) (sym same) h.so;
      }

  pub is-served : {a : T} {now : Scene} {todo : List ℕ} → ServedWith May state a now todo → IsRunServed May state now.seen now.held now.engine
  is-served {a} {now} {todo} w = record {
    present = (state a).known.present;
    first = w.first;
    before = w.before;
    now = all_marks_noted (state a).recorded (state a).known w.calls;
    policy = w.policy;
    pid = w.pid;
    start = w.start;
    failed = now.failed;
    given = w.given;
    todo = todo;
    serving = w.serving;
  }

  -- it was served on
  pub served-on : {seen seen' : Seen} {held held' todo : List ℕ} {s s' : EngineState} (w : IsRunServed May state seen held s) → Serving May (RestsOf state w.present w.first) w.before w.now w.policy w.pid w.start seen' held' w.failed w.given todo s' → IsRunServed May state seen' held' s'
  served-on {todo = todo} w v = record { present = w.present; first = w.first; before = w.before; now = w.now; policy = w.policy; pid = w.pid; start = w.start; failed = w.failed; given = w.given; todo = todo; serving = v }

  -- the blocked streams are those of the wire
  pub runs-held : {A E : Type 0} (r : Result A E) {a : T} (b : T) {old : Scene} (new : Scene) (most : ℕ) (more : A → ℕ) {todo : List ℕ} (rest : A → List ℕ) → ServedWith May state a old todo → RunsOn r May state a b old new most more todo rest → OnOk r (new.held ≡ new.seen.blocked)
  runs-held (Ok x) b new most more rest w runs = (runs w.first w.calls w.before w.policy w.pid w.start w.given w.hands w.serving).so.held_is
  runs-held (Err e) b new most more rest w runs = tt
