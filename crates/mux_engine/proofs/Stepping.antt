-- What a step of the forwarder makes of all that holds while a wire is served.
use Rattle.std.proofs.Common.{◌≡◌, ◌+◌, ℕ, Bool, true, false, ◌||◌, List, [], ◌∷◌, ◌++◌, Option, Some, None, refl, sym, ap, ◌∙◌, subst, inl, inr, arith, append-nil, OnOk}
use Rattle.std.specs.Prelude.{◌==◌, IfOk, IsErr, Result, Ok, Err}
use Rattle.std.proofs.lemmas.Bool.Decides.{eqb_tells}
use Rattle.mux_outside.specs.Counts.{Rose}
use Rattle.mux_outside.specs.Faults.{Faults}
use Rattle.mux_outside.specs.House.{HouseState, IsAtRest, Known, Quiet}
use Rattle.mux_outside.specs.OwnStreams.{numbers_of}
use Rattle.mux_outside.specs.Seen.{Seen}
use Rattle.mux_outside.specs.Streams.{among, without}
use Rattle.mux_outside.specs.WireState.{WireState}
use Rattle.mux_outside.specs.declared.house.HouseReply.{HouseReply}
use Rattle.mux_outside.specs.declared.house_mark.HouseMark.{HouseMark}
use Rattle.mux_outside.specs.declared.mark.Mark.{Mark}
use Rattle.mux_history.specs.declared.ended.Ended.{Ended}
use Rattle.mux_history.specs.declared.ended.Ended.TheVariants as ended
use Rattle.mux_history.specs.declared.limits.TheConstants.{HOUSE}
use Rattle.mux_history.specs.Policy.{Policy}
use Rattle.mux_state.specs.State.{EngineState}
use Rattle.mux_state.specs.Events.{here}
use Rattle.mux_engine.specs.Owned.{IsOwnOffered}
use Rattle.mux_engine.specs.Rests.{EndsByAsk, EndsSo, HasAnswered, HasNoMore, HasNoMoreFor, HasOffered, IsHouseReady, StaysReady, WaitsAlone}
use Rattle.mux_engine.specs.Serving.{Serving, StaysOrFails, is_stream_open}
use Rattle.mux_engine.specs.Sides.{Housed, IsAlone, OrderedNothing, Resting, SentNothing, SameHouse, SameSockets, Side, StaysHouse, Together}
use Rattle.mux_engine.specs.Wires.{NoFault, Works}
use Rattle.mux_engine.specs.declared.room.Lists.{Lists}
use Rattle.mux_engine.proofs.Comes.{over-house, over-live, over-offered}
use Rattle.mux_engine.proofs.Counting.{more-none, stays-by-row}
use Rattle.mux_engine.proofs.Handed.{housed-as}
use Rattle.mux_engine.proofs.Lists.{among-less, among-open, apart-or-left, test-other, true-false, without-other}
use Rattle.mux_engine.proofs.Places.{at-stream}
use Rattle.mux_engine.proofs.Spoken.{row-live}
use Rattle.mux_engine.proofs.Todo.{serve-todo}
use Rattle.mux_engine.proofs.Wired.{works-any}

-- ---- what is left to be offered

-- where there is no forwarder nothing waits for it
pub none-handed : {May : HouseReply → Type 0} {Rest : Resting} {before : Option (List HouseMark)} {now : Side} {policy : Policy} {pid : ℕ} {start : Option (List Mark)} {seen : Seen} {held failed : List ℕ} {given : ℕ} {s : EngineState} (v : Serving May Rest before now policy pid start seen held failed given (0 ∷ here s) s) → now.let_in ≡ false
    → Serving May Rest before now policy pid start seen held failed (given + 0) (0 ∷ without HOUSE (here s)) s
none-handed {May} {Rest} {before} {now} {policy} {pid} {start} {seen} {held} {failed} {given} {s} v out =
    subst (λ (n : ℕ). Serving May Rest before now policy pid start seen held failed n (0 ∷ without HOUSE (here s)) s) (sym (more-none given))
    (serve-todo v (0 ∷ without HOUSE (here s)) (λ t a. inl (elim (eqb_tells HOUSE t) [
      | inl q ↦ ap (λ i. among i (0 ∷ here s)) (sym q.1) ∙ (among-open s HOUSE ∙ by_open (is_stream_open s HOUSE) refl)
      | inr q ↦ ap (λ b. (0 == t) || b) (sym (without-other HOUSE t (here s) q.1)) ∙ a
    ])))
  where
    by_open : (b : Bool) → is_stream_open s HOUSE ≡ b → b ≡ false
    by_open false e = refl
    by_open true e = true-false (sym ((at-stream v.stands HOUSE e).accepted (λ z. absurd (omega (arith, z)))) ∙ (v.house_in ∙ out))

-- the forwarder is to be handed over again what waits for it
pub handed-again : {May : HouseReply → Type 0} {Rest : Resting} {before : Option (List HouseMark)} {now : Side} {policy : Policy} {pid : ℕ} {start : Option (List Mark)} {seen : Seen} {held failed : List ℕ} {given : ℕ} {s : EngineState} (v : Serving May Rest before now policy pid start seen held failed given (0 ∷ without HOUSE (here s)) s)
    → Serving May Rest before now policy pid start seen held failed given (0 ∷ here s) s
handed-again {s = s} v = serve-todo v (0 ∷ here s) (λ t a. inl (let p = apart-or-left 0 t (here s) a in ap (λ b. b || among t (without HOUSE (here s))) (test-other 0 t p.0) ∙ among-less HOUSE t (here s) p.1))

-- all the other streams are
pub to-flush : {May : HouseReply → Type 0} {Rest : Resting} {before : Option (List HouseMark)} {now : Side} {policy : Policy} {pid : ℕ} {start : Option (List Mark)} {seen : Seen} {held failed : List ℕ} {given : ℕ} {s : EngineState} (v : Serving May Rest before now policy pid start seen held failed (given + 0) (0 ∷ without HOUSE (here s)) s)
    → Serving May Rest before now policy pid start seen held failed given (0 ∷ (without HOUSE (here s) ++ [])) s
to-flush {May} {Rest} {before} {now} {policy} {pid} {start} {seen} {held} {failed} {given} {s} v =
    subst (λ (l : List ℕ). Serving May Rest before now policy pid start seen held failed given (0 ∷ l) s) (sym (append-nil (without HOUSE (here s))))
    (subst (λ (n : ℕ). Serving May Rest before now policy pid start seen held failed n (0 ∷ without HOUSE (here s)) s) (more-none given) v)

-- no turn was given
pub a-turn : {May : HouseReply → Type 0} {Rest : Resting} {before : Option (List HouseMark)} {now : Side} {policy : Policy} {pid : ℕ} {start : Option (List Mark)} {seen : Seen} {held failed : List ℕ} {given : ℕ} {todo : List ℕ} {s : EngineState} → Serving May Rest before now policy pid start seen held failed (given + 0) todo s → Serving May Rest before now policy pid start seen held failed given todo s
a-turn {May} {Rest} {before} {now} {policy} {pid} {start} {seen} {held} {failed} {given} {todo} {s} v = subst (λ (n : ℕ). Serving May Rest before now policy pid start seen held failed n todo s) (more-none given) v

-- ---- the forwarder

pub housed-still : (known known' : Known) (seen seen' : Seen) (own : List ℕ) → SameHouse known known' → SameSockets seen seen' → Housed known seen own → Housed known' seen' own
housed-still known known' seen seen' own same places h = housed-as known known' seen seen' own h same.ordering same.listeners same.streams places.listeners places.own places.streams places.last_own

pub present-alone : (known : Known) → known.present ≡ true → IsAlone known
present-alone known e = record { listeners = λ out. true-false (sym e ∙ out); streams = λ out. true-false (sym e ∙ out) }

-- where there is none it has no more
pub none-more : (known : Known) (quiet : Quiet) (queue : ℕ → List ℕ) (seen : Seen) (held failed own : List ℕ) → known.present ≡ false → IsAlone known → Housed known seen own → HasNoMore known quiet queue held failed own
none-more known quiet queue seen held failed own out alone h = record {
  orders = λ present. true-false (sym present ∙ out);
  answers = λ present. true-false (sym present ∙ out);
  offered = λ t a. true-false (sym a ∙ (ap (among t) h.own_is ∙ ap (λ l. among t (numbers_of l)) (sym h.streams ∙ alone.streams out)));
}

-- where its last order and its last answer were applied
pub no-more : (old new : HouseState) (lists lists' : Lists) → HasAnswered old lists → OrderedNothing old new lists lists' → HasNoMoreFor new lists'
no-more old new lists lists' answered ordered = subst (λ (l : Lists). HasNoMoreFor new l) (sym ordered.still) record {
  orders = λ present. ordered.orders;
  answers = λ present. ap (λ (q : Quiet). q.answers) ordered.same.quiet ∙ answered.answers;
  offered = λ t a. subst (λ (l : List ℕ). IsOwnOffered l lists.held lists.failed t) (sym (ordered.same.queues t)) (answered.offered t a);
}

-- what is offered to others leaves it so
pub no-more-held : (house : HouseState) (lists : Lists) (held : List ℕ) → ((t : ℕ) → among t lists.held ≡ true → among t held ≡ true) → HasNoMoreFor house lists → HasNoMore house.known house.quiet house.queue held lists.failed lists.own
no-more-held house lists held holds h = record {
  orders = h.orders;
  answers = h.answers;
  offered = λ t a. elim (h.offered t a) [ inl none ↦ inl none | inr (inl q) ↦ inr (inl (holds t q)) | inr (inr q) ↦ inr (inr q) ];
}

-- where it sends nothing either its streams were offered what waits for them
pub on-unsaid : {E : Type 0} (r : Result Bool E) (old new : HouseState) (seen seen' : Seen) (s s' : EngineState) (lists : Lists) → HasOffered old lists → IfOk r (λ more. more ≡ false → SentNothing old new seen seen' s s') → IfOk r (λ more. more ≡ false → HasOffered new lists)
on-unsaid (Ok b) old new seen seen' s s' lists offered said = λ e t a. subst (λ (l : List ℕ). IsOwnOffered l lists.held lists.failed t) (sym ((said e).same.queues t)) (offered t a)
on-unsaid (Err e) old new seen seen' s s' lists offered said = tt

-- streams of clients are closed: those of the master's own stay as they were
pub offered-closed : {seen seen' : Seen} {held held' : List ℕ} {s s' : EngineState} (house : HouseState) (failed own : List ℕ) → StaysReady seen seen' held held' s s' → Housed house.known seen own → ((t : ℕ) → among t own ≡ true → IsOwnOffered (house.queue t) held failed t) → (t : ℕ) → among t own ≡ true → IsOwnOffered (house.queue t) held' failed t
offered-closed house failed own stays housed offered =
    let absent : Known = record house.known { present = false } in
    let none : Housed absent _ own = record { ordering = housed.ordering; listeners = housed.listeners; streams = housed.streams; own_is = housed.own_is; places = housed.places } in
    ((stays absent house.quiet house.queue failed own none).1 record {
      no_more = record { orders = λ there. true-false (sym there); answers = λ there. true-false (sym there); offered = offered };
      rests = λ there. true-false (sym there);
    }).no_more.offered

-- and it sends nothing: it is at rest
pub no-more-said : (old new : HouseState) (seen seen' : Seen) (s s' : EngineState) (held failed own : List ℕ) → SameHouse old.known new.known → old.known.present ≡ true → HasNoMore old.known old.quiet old.queue held failed own → SentNothing old new seen seen' s s' → IsHouseReady new.known new.quiet new.queue held failed own s'
no-more-said old new seen seen' s s' held failed own known there h said = record {
  no_more = record {
    orders = λ present. ap (λ (q : Quiet). q.orders) said.same.quiet ∙ h.orders there;
    answers = λ present. ap (λ (q : Quiet). q.answers) said.same.quiet ∙ h.answers there;
    offered = λ t a. subst (λ (l : List ℕ). IsOwnOffered l held failed t) (sym (said.same.queues t)) (h.offered t a);
  };
  rests = λ present reads. all-quiet new.quiet said.says (ap (λ (q : Quiet). q.orders) said.same.quiet ∙ h.orders there) (ap (λ (q : Quiet). q.answers) said.same.quiet ∙ h.answers there);
}
  where
    all-quiet : (q : Quiet) → q.says ≡ true → q.orders ≡ true → q.answers ≡ true → IsAtRest q
    all-quiet q says orders answers = ap (λ (b : Bool). record { says = b; orders = q.orders; answers = q.answers }) says ∙ (ap (λ (b : Bool). record { says = true; orders = b; answers = q.answers }) orders ∙ ap (λ (b : Bool). record { says = true; orders = true; answers = b }) answers)

-- ---- all of it together

pub together-still : {old new : HouseState} {wire wire' : WireState} {lists lists' : Lists} → Together old wire lists → SameHouse old.known new.known → SameSockets wire.seen wire'.seen → lists'.own ≡ lists.own → lists'.held ≡ wire'.seen.blocked → Together new wire' lists'
together-still {old} {new} {wire} {wire'} {lists} t known places own held_is = record {
  housed = subst (λ (l : List ℕ). Housed new.known wire'.seen l) (sym own) (housed-still old.known new.known wire.seen wire'.seen lists.own known places t.housed);
  alone = record { listeners = λ out. known.listeners ∙ t.alone.listeners (sym known.present ∙ out); streams = λ out. known.streams ∙ t.alone.streams (sym known.present ∙ out) };
  held_is = held_is;
}

-- after an order
pub together-ordered : {A E : Type 0} (r : Result A E) (old new : HouseState) (wire : WireState) (lists : Lists) → old.known.present ≡ true → OnOk r (Housed new.known wire.seen lists.own) → StaysHouse r old new → OnOk r (lists.held ≡ wire.seen.blocked) → OnOk r (Together new wire lists)
together-ordered (Ok x) old new wire lists there housed stays held_is = record { housed = housed; alone = present-alone new.known (stays.present ∙ there); held_is = held_is }
together-ordered (Err e) old new wire lists there housed stays held_is = tt

-- ---- how a run ends

-- without a forwarder that was admitted no turn is used
pub waits-err : {E : Type 0} (r : Result Bool E) (old new : EngineState) → IsErr r → WaitsAlone r old new
waits-err (Ok x) old new e = true-false (sym e)
waits-err (Err x) old new e = record { waits = λ is. let z : Err x ≡ Ok true = is in cc; idle = λ none. tt }

-- it goes on
pub ends-live : {A E : Type 0} (r : Result A E) (p : Bool) (o : Option Ended) (old new : WireState) (f f' : Faults) → o ≡ None → (p ≡ false → new.seen.last_own ≡ old.seen.last_own) → EndsSo r p o old new f f'
ends-live (Ok x) p o old new f f' live unopened = record { failed = λ over. let z : None ≡ Some ended.ServerFailed = sym live ∙ over in cc; by_row = row-live o live; by_count = over-live p o old.calls new.calls live; unopened = unopened }
ends-live (Err x) p o old new f f' live unopened = record { failed = tt; by_row = tt; by_count = tt; unopened = unopened }

pub ends-err : {A E : Type 0} (r : Result A E) (p : Bool) (o : Option Ended) (old new : WireState) (f f' : Faults) → IsErr r → (p ≡ false → new.seen.last_own ≡ old.seen.last_own) → EndsSo r p o old new f f'
ends-err (Ok x) p o old new f f' e unopened = true-false (sym e)
ends-err (Err x) p o old new f f' e unopened = record { failed = tt; by_row = tt; by_count = tt; unopened = unopened }

rose-as : (a b c : ℕ) → b ≡ a → Rose b c → Rose a c
rose-as a b c e r = subst (λ (n : ℕ). Rose n c) e r

-- what waits was offered to streams
pub ends-offered : {A B E : Type 0} {x : B} (r : Result A E) (p : Bool) (o o' : Option Ended) (old mid new : WireState) (f g h : Faults) → o ≡ None → NoFault f g → StaysOrFails o o' g h → Works {A = B} {E = E} 0 (Ok x) mid new g h → (p ≡ false → new.seen.last_own ≡ old.seen.last_own) → EndsSo r p o' old new f h
ends-offered (Ok y) p o o' old mid new f g h live none stays works unopened = record {
  failed = λ over. elim stays [
    | inl s ↦ absurd (let z : None ≡ Some ended.ServerFailed = sym live ∙ (sym s.0 ∙ over) in cc)
    | inr s ↦ rose-as f.server g.server h.server none.server s.1
  ];
  by_row = stays-by-row o o' g.server h.server stays (row-live o live);
  by_count = over-offered p o o' g.server h.server old.calls mid.calls new.calls stays (over-live p o old.calls mid.calls live) works.calls.came;
  unopened = unopened;
}
ends-offered (Err y) p o o' old mid new f g h live none stays works unopened = record { failed = tt; by_row = tt; by_count = tt; unopened = unopened }

-- a forwarder that is there sent something
pub ends-said : {A E : Type 0} (r : Result A E) (p : Bool) (o : Option Ended) (old new : WireState) (f f' : Faults) → p ≡ true → OnOk r (EndsByAsk o) → EndsSo r p o old new f f'
ends-said (Ok x) p o old new f f' there e = record { failed = λ over. absurd (e.lives over); by_row = e.by_row; by_count = over-house p o old.calls new.calls there e.by_house; unopened = λ out. true-false (sym there ∙ out) }
ends-said (Err x) p o old new f f' there e = record { failed = tt; by_row = tt; by_count = tt; unopened = λ out. true-false (sym there ∙ out) }

-- ---- results

-- what is so of each value
pub all-ok : {A E P : Type 0} (r : Result A E) → P → OnOk r P
all-ok (Ok x) p = p
all-ok (Err e) p = tt

-- what follows where it is false
pub on-false : {E P Q : Type 0} (r : Result Bool E) → (P → Q) → IfOk r (λ more. more ≡ false → P) → IfOk r (λ more. more ≡ false → Q)
on-false (Ok b) f h = λ e. f (h e)
on-false (Err e) f h = tt

-- it sent nothing
pub on-said : {E : Type 0} (r : Result Bool E) (old new : HouseState) (seen seen' : Seen) (s s' : EngineState) (held failed own : List ℕ) → OnOk r (SameHouse old.known new.known) → old.known.present ≡ true → HasNoMore old.known old.quiet old.queue held failed own → IfOk r (λ more. more ≡ false → SentNothing old new seen seen' s s')
    → IfOk r (λ more. more ≡ false → s'.ended ≡ None → IsHouseReady new.known new.quiet new.queue held failed own s')
on-said (Ok b) old new seen seen' s s' held failed own known there h said = λ e live. no-more-said old new seen seen' s s' held failed own known there h (said e)
on-said (Err e) old new seen seen' s s' held failed own known there h said = tt

pub both-ways : {P E : Type 0} (r : Result Bool E) → r ≡ Ok true → r ≡ Ok false → P
both-ways r e f = absurd (let z : Ok true ≡ Ok false = sym e ∙ f in cc)

-- whichever value came
pub works-again : {A B E F : Type 0} {n : ℕ} {x : A} {old new : WireState} {f f' : Faults} (r : Result B F) → Works {A = A} {E = E} n (Ok x) old new f f' → Works n r old new f f'
works-again r w = works-any r (record { keeps = w.keeps; calls = w.calls })
