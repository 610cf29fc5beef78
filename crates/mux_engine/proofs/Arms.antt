-- The arms of an offer: which calls are counted, how the run may end, and an error handed on.
use Rattle.std.proofs.Common.{◌≡◌, ◌≢◌, ◌≤◌, ◌<◌, ◌+◌, ◌-◌, ◌^◌, ℕ, Bool, true, false, List, [], ◌∷◌, ◌++◌, length, Option, Some, None, refl, sym, ap, ◌∙◌, subst, inl, inr, ◌⊎◌, cond, arith}
use Rattle.std.specs.Prelude.{◌==◌, min, Result, Ok, Err, MatchResult, IsErr, OnOk}
use Rattle.std.proofs.lemmas.Bool.{eqb-true, eq-eqb}
use Rattle.std.proofs.lemmas.Bool.Decides.{eqb_tells}
use Rattle.mux_outside.specs.Counts.{Rose, counted}
use Rattle.mux_outside.specs.CallCounts.{CallCounts, calls_after_one, calls_after_wait, is_starved}
use Rattle.mux_outside.specs.Faults.{FaultOf, Faults}
use Rattle.mux_outside.specs.OwnStreams.{is_own}
use Rattle.mux_outside.specs.Whose.{whose}
use Rattle.mux_outside.specs.declared.mark.Mark.{Mark}
use Rattle.mux_outside.specs.declared.mark.Mark.TheVariants.{WriteFails}
use Rattle.mux_outside.specs.declared.turn.Turn.{Turn}
use Rattle.mux_outside.specs.declared.whose.Whose.{Whose}
use Rattle.mux_outside.specs.declared.whose.Whose.TheVariants.{Server, Client, Own}
use Rattle.mux_history.specs.declared.ended.Ended.{Ended}
use Rattle.mux_history.specs.declared.ended.Ended.TheVariants as ended
use Rattle.mux_state.specs.declared.event.Event.{Event}
use Rattle.mux_state.specs.declared.event.Event.TheVariants.{Accepted, FromClient, ClientEnd, ClientFailed, HouseSays, FromServer, ServerEnd, ServerFailed}
use Rattle.mux_state.specs.State.{EngineState, numbers, queue_in}
use Rattle.mux_state.specs.Events.{EngineKeeps, MayEnd, SameStreams, MarkRecords, here}
use Rattle.mux_engine.specs.Counted.{CountsOfCall, CountsOfCutCall, Waited, CountsOfWholeCall}
use Rattle.mux_engine.proofs.Comes.{StaysBy, came-none, came-one, came-then, came-wait}
use Rattle.mux_engine.specs.Serving.{IsOfferedTo, StaysOrFails}

-- ---- calls

counted-least : (m n : ℕ) → m ≤ n → counted m ≤ counted n
counted-least m n h = omega arith

waited-none : (n : ℕ) → Waited 0 n n
waited-none n = record { most = omega arith; least = omega arith; fits = λ h. h }

waited-one : (n : ℕ) → Waited 1 n (counted n)
waited-one n = record { most = omega arith; least = omega arith; fits = λ h. omega arith }

-- first so many, then so many
waited-on : (m n k a b c : ℕ) → m + n ≡ k → Waited m a b → Waited n b c → Waited k a c
waited-on m n k a b c e v w =
    let f : b ≤ a + m = v.most in let g : c ≤ b + n = w.most in
    let p : min (a + m) (2 ^ 64 - 1) ≤ b = v.least in let q : min (b + n) (2 ^ 64 - 1) ≤ c = w.least in
    record { most = omega arith; least = omega arith; fits = λ h. w.fits (v.fits h) }

pub well-none : (c : CallCounts) → CountsOfWholeCall 0 c c
well-none c = record { waited = waited-none c.waits; wants = refl; late = λ z. refl; came = came-none c }

late-one : (c : CallCounts) (b : Bool) → c.wants ≡ 0 → (calls_after_one b c).late ≡ c.late
late-one c b e = ap (λ t. cond t c.late (counted c.late)) (eq-eqb c.wants 0 e)

pub well-one : (c : CallCounts) → CountsOfWholeCall 0 c (calls_after_one false c)
well-one c = record { waited = waited-none c.waits; wants = refl; late = late-one c false; came = came-one false c }

-- a call of wait that found memory
pub well-wait : (t : Turn) (c : CallCounts) → is_starved t ≡ false → CountsOfWholeCall 1 c (calls_after_wait t c)
well-wait t c e = record { waited = waited-one c.waits; wants = ap (λ b. cond b (counted c.wants) c.wants) e; late = late-one c (is_starved t); came = came-wait t c }

-- first so many waits, then so many
pub well-on : (m n k : ℕ) (a b c : CallCounts) → m + n ≡ k → CountsOfWholeCall m a b → CountsOfWholeCall n b c → CountsOfWholeCall k a c
well-on m n k a b c e v w = record { waited = waited-on m n k a.waits b.waits c.waits e v.waited w.waited; wants = w.wants ∙ v.wants; late = λ z. w.late (v.wants ∙ z) ∙ v.late z; came = came-then a b c v.came w.came }

pub well-then : (a b c : CallCounts) → CountsOfWholeCall 0 a b → CountsOfWholeCall 0 b c → CountsOfWholeCall 0 a c
well-then a b c v w = well-on 0 0 0 a b c (omega arith) v w

-- calls that ended well come before one that was cut short
pub cut-on : (m n k : ℕ) (a b c : CallCounts) → m + n ≡ k → CountsOfWholeCall m a b → CountsOfCutCall n b c → CountsOfCutCall k a c
cut-on m n k a b c e v w = let f : b.waits ≤ a.waits + m = v.waited.most in let g : c.waits ≤ b.waits + n = w.few in let d : b.wants ≡ a.wants = v.wants in let h : c.wants ≤ b.wants + 1 = w.wants in
    record { few = omega arith; wants = omega arith; late = λ z. w.late (v.wants ∙ z) ∙ v.late z; came = came-then a b c v.came w.came }

pub cut-then : (a b c : CallCounts) → CountsOfWholeCall 0 a b → CountsOfCutCall 0 b c → CountsOfCutCall 0 a c
cut-then a b c v w = cut-on 0 0 0 a b c (omega arith) v w

pub counts-on : {A E : Type 0} (m n k : ℕ) (r : Result A E) (a b c : CallCounts) → m + n ≡ k → CountsOfWholeCall m a b → CountsOfCall n r b c → CountsOfCall k r a c
counts-on m n k (Ok x) a b c e v w = well-on m n k a b c e v w
counts-on m n k (Err x) a b c e v w = cut-on m n k a b c e v w

-- a call that found memory is none that was cut short
pub well-cut : (n : ℕ) (a b : CallCounts) → CountsOfWholeCall n a b → CountsOfCutCall n a b
well-cut n a b v = let f : b.waits ≤ a.waits + n = v.waited.most in let d : b.wants ≡ a.wants = v.wants in
    record { few = omega arith; wants = omega arith; late = v.late; came = v.came }

pub counts-well : {A E : Type 0} (n : ℕ) (r : Result A E) (a b : CallCounts) → CountsOfWholeCall n a b → CountsOfCall n r a b
counts-well n (Ok x) a b v = v
counts-well n (Err x) a b v = well-cut n a b v

-- a write that found no memory
pub cut-one : (c : CallCounts) → CountsOfCutCall 0 c (calls_after_one true c)
cut-one c = record { few = omega arith; wants = omega arith; late = late-one c true; came = came-one true c }

-- ---- the end

pub le-of : (a b : ℕ) → a ≡ b → a ≤ b
le-of a b e = omega arith

pub stays : (old new : Option Ended) (faults faults' : ℕ) → new ≡ old → faults' ≡ faults → StaysBy old new faults faults'
stays old new faults faults' e f = inl (e, le-of faults faults' (sym f))

rose-later : (m n o : ℕ) → m ≤ n → Rose n o → Rose m o
rose-later m n o h r = let l : n ≤ o = r.later in let c : counted n ≤ o = r.rose in let d : counted m ≤ counted n = counted-least m n h in
    record { later = omega arith; rose = omega arith }

pub rose-stays : (m n o : ℕ) → Rose m n → n ≤ o → Rose m o
rose-stays m n o r h = let l : m ≤ n = r.later in let c : counted m ≤ n = r.rose in record { later = omega arith; rose = omega arith }

pub then-stays-or-fails : (a b c : Option Ended) (m n o : ℕ) → StaysBy a b m n → StaysBy b c n o → StaysBy a c m o
then-stays-or-fails a b c m n o (inl x) (inl y) = let f : m ≤ n = x.1 in let g : n ≤ o = y.1 in inl (y.0 ∙ x.0, omega arith)
then-stays-or-fails a b c m n o (inl x) (inr y) = inr (y.0, rose-later m n o x.1 y.1)
then-stays-or-fails a b c m n o (inr x) (inl y) = inr (y.0 ∙ x.0, rose-stays m n o x.1 y.1)
then-stays-or-fails a b c m n o (inr x) (inr y) = let r : Rose m n = x.1 in inr (y.0, rose-later m n o r.later y.1)

-- ---- a stream that failed at a write

-- what its event leaves of the engine
pub record Failing (k : ℕ) (old new : EngineState) : Type 0 where
  pub policy : new.core.policy ≡ old.core.policy
  pub pid : new.pid ≡ old.pid
  pub streams : here new ≡ here old
  pub live : new.ended ≡ None → old.ended ≡ None
  pub server : k ≡ 0 → (new.ended ≡ old.ended) ⊎ (new.ended ≡ Some ended.ServerFailed)
  pub over : k ≡ 0 → new.ended ≢ None
  pub client : k ≢ 0 → new.ended ≡ old.ended

same-here : (old new : EngineState) → SameStreams old new → here new ≡ here old
same-here old new s = ap (λ l. l ++ new.refused) s.clients ∙ ap (λ l. numbers old.clients ++ l) s.refused

client-fails : (k j : ℕ) (old new : EngineState) → j ≢ 0 → j ≡ k → EngineKeeps (ClientFailed j) old new → (old.ended ≡ None → new.ended ≡ None) → Failing k old new
client-fails k j old new nz same keeps ends = by_end old.ended refl
  where
    by_end : (o : Option Ended) → old.ended ≡ o → Failing k old new
    by_end None e = record {
      policy = keeps.policy;
      pid = keeps.pid;
      streams = same-here old new (keeps.streams e);
      live = λ l. e;
      server = λ z. absurd (nz (same ∙ z));
      over = λ z. absurd (nz (same ∙ z));
      client = λ z. ends e ∙ sym e;
    }
    by_end (Some cause) e = let s : new ≡ old = keeps.over cause e in record {
      policy = keeps.policy;
      pid = keeps.pid;
      streams = ap here s;
      live = λ l. ap (λ (t : EngineState). t.ended) (sym s) ∙ l;
      server = λ z. absurd (nz (same ∙ z));
      over = λ z. absurd (nz (same ∙ z));
      client = λ z. ap (λ (t : EngineState). t.ended) s;
    }

server-fails : (k : ℕ) (old new : EngineState) → k ≡ 0 → EngineKeeps ServerFailed old new → (old.ended ≡ None → new.ended ≡ Some ended.ServerFailed) → Failing k old new
server-fails k old new zero keeps ends = by_end old.ended refl
  where
    none-some : (cause : Ended) → new.ended ≡ Some cause → new.ended ≢ None
    none-some cause e n = let z : Some cause ≡ None = sym e ∙ n in absurd (cc)

    by_end : (o : Option Ended) → old.ended ≡ o → Failing k old new
    by_end None e = record {
      policy = keeps.policy;
      pid = keeps.pid;
      streams = same-here old new (keeps.streams e);
      live = λ l. e;
      server = λ z. inr (ends e);
      over = λ z. none-some ended.ServerFailed (ends e);
      client = λ nz. absurd (nz zero);
    }
    by_end (Some cause) e = let s : new ≡ old = keeps.over cause e in record {
      policy = keeps.policy;
      pid = keeps.pid;
      streams = ap here s;
      live = λ l. ap (λ (t : EngineState). t.ended) (sym s) ∙ l;
      server = λ z. inl (ap (λ (t : EngineState). t.ended) s);
      over = λ z. none-some cause (ap (λ (t : EngineState). t.ended) s ∙ e);
      client = λ nz. absurd (nz zero);
    }

abbrev stream-of : Mark → ℕ
stream-of (WriteFails k) = k
stream-of mark = 0

pub failing : (e : Event) (k : ℕ) (old new : EngineState) → MarkRecords e (WriteFails k) → EngineKeeps e old new → (old.ended ≡ None → MayEnd e new.ended) → Failing k old new
failing (Accepted j) k old new t keeps ends = absurd (cc)
failing (FromClient j bytes) k old new t keeps ends = absurd (let z = t.1 in cc)
failing (ClientEnd j) k old new t keeps ends = absurd (let z = t.1 in cc)
failing (ClientFailed j) k old new t keeps ends = elim t.1 [ inl m ↦ absurd (cc) | inr m ↦ client-fails k j old new t.0 (sym (ap stream-of m)) keeps ends ]
failing (HouseSays j id reply) k old new t keeps ends = absurd (let z = t.1 in cc)
failing (FromServer bytes) k old new t keeps ends = absurd (cc)
failing ServerEnd k old new t keeps ends = absurd (cc)
failing ServerFailed k old new t keeps ends = elim t [ inl m ↦ absurd (cc) | inr m ↦ server-fails k old new (ap stream-of m) keeps ends ]

-- where a stream failed, the server's count did not fall
later-of : (w : Whose) (f f' : Faults) → FaultOf w f f' → f.server ≤ f'.server
later-of Server f f' r = r.rose.later
later-of (Client k) f f' r = le-of f.server f'.server (sym r.server)
later-of Own f f' r = le-of f.server f'.server (sym r.server)

pub fault-later : (k : ℕ) (f f' : Faults) → FaultOf (whose k) f f' → f.server ≤ f'.server
fault-later k f f' c = later-of (whose k) f f' c

pub whose-server : (k : ℕ) → (k == 0) ≡ true → whose k ≡ Server
whose-server k e = ap (λ (b : Bool). cond b Server (cond (is_own k) Own (Client k))) e

-- the count of the server's side rose where it is the server's stream
pub fault-ended : (k : ℕ) (old new : EngineState) (f f' : Faults) → Failing k old new → FaultOf (whose k) f f' → StaysOrFails old.ended new.ended f f'
fault-ended k old new f f' fails fault = elim (eqb_tells k 0) [
  | inl q ↦ let r : Rose f.server f'.server = of-server q.0 in elim (fails.server q.1) [ inl e ↦ inl (e, r.later) | inr e ↦ inr (e, r) ]
  | inr q ↦ inl (fails.client q.1, fault-later k f f' fault)
]
  where
    of-server : (k == 0) ≡ true → Rose f.server f'.server
    of-server e = let s : FaultOf Server f f' = subst (λ (w : Whose). FaultOf w f f') (whose-server k e) fault in s.rose

-- ---- a stream that was offered what waits

pub offered-none : (k : ℕ) (s : EngineState) (f : Faults) → IsOfferedTo k s s f f
offered-none k s f = record { streams = refl; ended = stays s.ended s.ended f.server f.server refl refl; client = λ nz. refl }

-- where the engine goes on with the same streams and the same end, and no fault was counted
pub offered-same : (k : ℕ) (s t : EngineState) (f g : Faults) → here t ≡ here s → t.ended ≡ s.ended → g ≡ f → IsOfferedTo k s t f g
offered-same k s t f g h e same = record { streams = h; ended = stays s.ended t.ended f.server g.server e (ap (λ (x : Faults). x.server) same); client = λ nz. e }

pub offered-fails : (k : ℕ) (s t : EngineState) (f g : Faults) → Failing k s t → FaultOf (whose k) f g → IsOfferedTo k s t f g
offered-fails k s t f g fails c = record { streams = fails.streams; ended = fault-ended k s t f g fails c; client = fails.client }

pub offered-then : {k : ℕ} {a b c : EngineState} {f g h : Faults} → IsOfferedTo k a b f g → IsOfferedTo k b c g h → IsOfferedTo k a c f h
offered-then {k} {a} {b} {c} {f} {g} {h} v w = record {
  streams = w.streams ∙ v.streams;
  ended = then-stays-or-fails a.ended b.ended c.ended f.server g.server h.server v.ended w.ended;
  client = λ nz. w.client nz ∙ v.client nz;
}

-- ---- where nothing waits

pub empty-is : (bytes : List ℕ) → (length bytes == 0) ≡ true → bytes ≡ []
empty-is [] e = refl
empty-is (b ∷ bytes) e = absurd (let z : length (b ∷ bytes) ≡ 0 = eqb-true (length (b ∷ bytes)) 0 e in omega arith)

pub some-bytes : (bytes : List ℕ) → (length bytes == 0) ≡ false → 0 < length bytes
some-bytes [] e = absurd (let z : true ≡ false = e in cc)
some-bytes (b ∷ bytes) e = omega arith

-- something waits
pub unless-empty : {P : Type 0} (bytes queue : List ℕ) → bytes ≡ queue → (length bytes == 0) ≡ false → queue ≡ [] → P
unless-empty bytes queue same some none = absurd (let z : length bytes ≡ 0 = ap length (same ∙ none) in let s : 0 < length bytes = some-bytes bytes some in omega arith)

-- no place is below the end of nothing
pub none-there : {P : Type 0} (i : ℕ) (xs : List ℕ) → i < length xs → xs ≡ [] → P
none-there i xs less none = absurd (let z : length xs ≡ 0 = ap length none in omega arith)

-- nothing was done, and then nothing
pub unchanged-then : {V : Type 0} (k : ℕ) (s t u : EngineState) (v w x : V) → (queue_in s k ≡ [] → (t ≡ s) × (w ≡ v)) → (queue_in t k ≡ [] → (u ≡ t) × (x ≡ w)) → queue_in s k ≡ [] → (u ≡ s) × (x ≡ v)
unchanged-then k s t u v w x first then none = let a : (t ≡ s) × (w ≡ v) = first none in let b : (u ≡ t) × (x ≡ w) = then (ap (λ (y : EngineState). queue_in y k) a.0 ∙ none) in (b.0 ∙ a.0, b.1 ∙ a.1)

-- ---- errors

pub on-err : {T E : Type 0} (r : Result T E) (P : T → Type 0) (Q : Type 0) → IsErr r → Q → MatchResult r P (λ e. Q)
on-err (Ok x) P Q h q = absurd (let z : false ≡ true = h in cc)
on-err (Err e) P Q h q = q

pub on-ok : {T E P Q : Type 0} (r : Result T E) → (P → Q) → OnOk r P → OnOk r Q
on-ok (Ok x) f p = f p
on-ok (Err e) f p = tt

-- calls that ended well come before
pub counts-then : {A E : Type 0} (r : Result A E) (a b c : CallCounts) → CountsOfWholeCall 0 a b → CountsOfCall 0 r b c → CountsOfCall 0 r a c
counts-then (Ok x) a b c v w = well-then a b c v w
counts-then (Err e) a b c v w = cut-then a b c v w
