-- What each call leaves of the wire of a run, in the words of the contracts: of one call, and of
-- one after another.
use Rattle.std.proofs.Common.{◌≡◌, ◌≤◌, ℕ, Bool, true, false, List, Option, refl, sym, ap, ◌∙◌, subst, inl, inr, cond, arith}
use Rattle.std.specs.Prelude.{IsErr, IsTrue, Result, Ok, Err}
use Rattle.std.proofs.lemmas.Bool.Decides.{eqb_tells}
use Rattle.mux_outside.specs.CallCounts.{CallCounts, calls_after_one, is_starved, is_starved_write}
use Rattle.mux_outside.specs.Faults.{FaultOf, Faults, OwnFault}
use Rattle.mux_outside.specs.OwnStreams.{is_own}
use Rattle.mux_outside.specs.Seen.{Seen, seen_after_close, seen_after_connect, seen_after_finish, seen_after_listen, seen_after_note, seen_after_pause, seen_after_silence, seen_after_unlisten}
use Rattle.mux_outside.specs.Whose.{whose}
use Rattle.mux_outside.specs.Wire.{MakeFaults, TurnFaults, WroteFaults}
use Rattle.mux_outside.specs.WireState.{WireState, seeing, state_after_wait, state_after_write}
use Rattle.mux_outside.specs.declared.file_error.FileError.{FileError}
use Rattle.mux_outside.specs.declared.file_error.FileError.TheVariants as file
use Rattle.mux_outside.specs.declared.house_mark.HouseMark.{HouseMark}
use Rattle.mux_outside.specs.declared.house_mark.HouseMark.TheVariants.{HouseOrder}
use Rattle.mux_outside.specs.declared.mark.Mark.TheVariants.{House}
use Rattle.mux_outside.specs.declared.order.Order.{Order}
use Rattle.mux_outside.specs.declared.turn.Turn.{Turn}
use Rattle.mux_outside.specs.declared.turn.Turn.TheVariants as turn
use Rattle.mux_outside.specs.declared.turn.Want.{Want}
use Rattle.mux_outside.specs.declared.turn.Wrote.{Wrote}
use Rattle.mux_outside.specs.declared.turn.Wrote.TheVariants as wrote
use Rattle.mux_outside.specs.declared.whose.Whose.{Whose}
use Rattle.mux_outside.specs.declared.whose.Whose.TheVariants.{Server, Client, Own}
use Rattle.mux_engine.specs.Counted.{CountsOfCall, CountsOfCutCall, CountsOfWholeCall}
use Rattle.mux_engine.specs.OwnFaults.{OrderCounted, is_order_unmade}
use Rattle.mux_engine.specs.Wires.{IsIdleWire, KeepsWire, NoFault, Untouched, Works, WorksOwn}
use Rattle.mux_engine.proofs.Arms.{counts-on, counts-well, cut-one, fault-later, le-of, well-none, well-one, well-wait}
use Rattle.mux_engine.proofs.Counting.{cut-wait}
use Rattle.mux_engine.proofs.OwnFaults.{own-kept, own-note, own-ordered, own-same, own-then, own-turn, own-write}

-- ---- nothing was done

abbrev done : Result (Unit {0}) (Unit {0})
done = Ok tt

-- so many waits and no running out of memory, whatever the outcome
abbrev pub Worked : ℕ → WireState → WireState → Faults → Faults → Type 0
Worked waits old new f f' = Works {A = Unit {0}} {E = Unit {0}} waits (Ok tt) old new f f'

-- and no fault but perhaps of the master's own
abbrev pub WorkedOwn : WireState → WireState → Faults → Faults → Type 0
WorkedOwn old new f f' = WorksOwn {A = Unit {0}} {E = Unit {0}} (Ok tt) old new f f'

pub no-fault-none : (f : Faults) → NoFault f f
no-fault-none f = record { server = refl; client = refl }

pub no-fault-same : {f f' : Faults} → f' ≡ f → NoFault f f'
no-fault-same e = record { server = ap (λ (x : Faults). x.server) e; client = ap (λ (x : Faults). x.client) e }

pub keeps-none : (w : WireState) (f : Faults) → KeepsWire w w f f
keeps-none w f = record { openings = refl; joinings = refl; own_faults = own-same w.seen.recorded f.own; later = le-of f.server f.server refl }

pub untouched-none : (w : WireState) (f : Faults) → Untouched w w f f
untouched-none w f = record { openings = refl; joinings = refl; calls = refl; no_fault = no-fault-none f }

pub idle-none : (w : WireState) (f : Faults) → IsIdleWire w w f f
idle-none w f = record { untouched = untouched-none w f; own_faults = own-same w.seen.recorded f.own }

pub worked-none : (w : WireState) (f : Faults) → Worked 0 w w f f
worked-none w f = record { keeps = keeps-none w f; calls = well-none w.calls }

pub worked-own-none : (w : WireState) (f : Faults) → WorkedOwn w w f f
worked-own-none w f = record { works = worked-none w f; no_fault = no-fault-none f }

-- ---- what holds whatever the outcome of a call

pub works-any : {A E : Type 0} {n : ℕ} {old new : WireState} {f f' : Faults} (r : Result A E) → Worked n old new f f' → Works n r old new f f'
works-any {n = n} {old} {new} r w = record { keeps = w.keeps; calls = counts-well n r old.calls new.calls w.calls }

pub works-own-any : {A E : Type 0} {old new : WireState} {f f' : Faults} (r : Result A E) → WorkedOwn old new f f' → WorksOwn r old new f f'
works-own-any r w = record { works = works-any r w.works; no_fault = w.no_fault }

pub works-none : {A E : Type 0} (r : Result A E) (w : WireState) (f : Faults) → Works 0 r w w f f
works-none r w f = works-any r (worked-none w f)

pub works-own-none : {A E : Type 0} (r : Result A E) (w : WireState) (f : Faults) → WorksOwn r w w f f
works-own-none r w f = works-own-any r (worked-own-none w f)

-- an error that is handed on
pub works-err : {A B E F : Type 0} {n : ℕ} {e : E} {old new : WireState} {f f' : Faults} (r : Result B F) → IsErr r → Works {A = A} {E = E} n (Err e) old new f f' → Works n r old new f f'
works-err (Ok x) h w = absurd (let z : false ≡ true = h in cc)
works-err (Err x) h w = record { keeps = w.keeps; calls = w.calls }

pub works-own-err : {A B E F : Type 0} {e : E} {old new : WireState} {f f' : Faults} (r : Result B F) → IsErr r → WorksOwn {A = A} {E = E} (Err e) old new f f' → WorksOwn r old new f f'
works-own-err r h w = record { works = works-err r h w.works; no_fault = w.no_fault }

-- a call that ended well
pub worked : {A E : Type 0} {x : A} {n : ℕ} {old new : WireState} {f f' : Faults} → Works {A = A} {E = E} n (Ok x) old new f f' → Worked n old new f f'
worked w = record { keeps = w.keeps; calls = w.calls }

pub worked-own : {A E : Type 0} {x : A} {old new : WireState} {f f' : Faults} → WorksOwn {A = A} {E = E} (Ok x) old new f f' → WorkedOwn old new f f'
worked-own w = record { works = worked w.works; no_fault = w.no_fault }

-- ---- one after another

pub no-fault-then : {f g h : Faults} → NoFault f g → NoFault g h → NoFault f h
no-fault-then v w = record { server = w.server ∙ v.server; client = w.client ∙ v.client }

pub keeps-then : {a b c : WireState} {f g h : Faults} → KeepsWire a b f g → KeepsWire b c g h → KeepsWire a c f h
keeps-then {a} {b} {c} {f} {g} {h} v w = let l : f.server ≤ g.server = v.later in let m : g.server ≤ h.server = w.later in record {
  openings = w.openings ∙ v.openings;
  joinings = w.joinings ∙ v.joinings;
  own_faults = own-then a.seen.recorded b.seen.recorded c.seen.recorded f.own g.own h.own v.own_faults w.own_faults;
  later = omega arith;
}

pub untouched-then : {a b c : WireState} {f g h : Faults} → Untouched a b f g → Untouched b c g h → Untouched a c f h
untouched-then v w = record {
  openings = w.openings ∙ v.openings;
  joinings = w.joinings ∙ v.joinings;
  calls = w.calls ∙ v.calls;
  no_fault = no-fault-then v.no_fault w.no_fault;
}

pub idle-then : {a b c : WireState} {f g h : Faults} → IsIdleWire a b f g → IsIdleWire b c g h → IsIdleWire a c f h
idle-then {a} {b} {c} {f} {g} {h} v w = record {
  untouched = untouched-then v.untouched w.untouched;
  own_faults = own-then a.seen.recorded b.seen.recorded c.seen.recorded f.own g.own h.own v.own_faults w.own_faults;
}

pub works-then : {A B E F : Type 0} {n : ℕ} {x : A} {r : Result B F} {a b c : WireState} {f g h : Faults} → Works {A = A} {E = E} 0 (Ok x) a b f g → Works n r b c g h → Works n r a c f h
works-then {n = n} {r = r} {a} {b} {c} v w = record {
  keeps = keeps-then v.keeps w.keeps;
  calls = counts-on 0 n n r a.calls b.calls c.calls (omega arith) v.calls w.calls;
}

pub works-own-then : {A B E F : Type 0} {x : A} {r : Result B F} {a b c : WireState} {f g h : Faults} → WorksOwn {A = A} {E = E} (Ok x) a b f g → WorksOwn r b c g h → WorksOwn r a c f h
works-own-then v w = record { works = works-then v.works w.works; no_fault = no-fault-then v.no_fault w.no_fault }

-- ---- a wire that was idle

pub keeps-idle : {old new : WireState} {f f' : Faults} → IsIdleWire old new f f' → KeepsWire old new f f'
keeps-idle {old} {new} {f} {f'} i = record {
  openings = i.untouched.openings;
  joinings = i.untouched.joinings;
  own_faults = i.own_faults;
  later = le-of f.server f'.server (sym i.untouched.no_fault.server);
}

pub works-idle : {A E : Type 0} {old new : WireState} {f f' : Faults} (r : Result A E) → IsIdleWire old new f f' → Works 0 r old new f f'
works-idle {old = old} {new} r i = record {
  keeps = keeps-idle i;
  calls = subst (λ (x : CallCounts). CountsOfCall 0 r old.calls x) (sym i.untouched.calls) (counts-well 0 r old.calls old.calls (well-none old.calls));
}

pub works-own-idle : {A E : Type 0} {old new : WireState} {f f' : Faults} (r : Result A E) → IsIdleWire old new f f' → WorksOwn r old new f f'
works-own-idle r i = record { works = works-idle r i; no_fault = i.untouched.no_fault }

-- it was idle before
pub works-behind : {A E : Type 0} {n : ℕ} {r : Result A E} {a b c : WireState} {f g h : Faults} → IsIdleWire a b f g → Works n r b c g h → Works n r a c f h
works-behind i w = works-then (works-idle done i) w

pub works-own-behind : {A E : Type 0} {r : Result A E} {a b c : WireState} {f g h : Faults} → IsIdleWire a b f g → WorksOwn r b c g h → WorksOwn r a c f h
works-own-behind i w = works-own-then (works-own-idle done i) w

-- ---- a call that changes only what is seen

pub seen-is : {old new : WireState} → new ≡ old → new.seen ≡ old.seen
seen-is e = ap (λ (x : WireState). x.seen) e

pub untouched-seeing : {f f' : Faults} (change : Seen → Seen) (old new : WireState) → new ≡ seeing change old → NoFault f f' → Untouched old new f f'
untouched-seeing change old new e none = record {
  openings = ap (λ (x : WireState). x.openings) e;
  joinings = ap (λ (x : WireState). x.joinings) e;
  calls = ap (λ (x : WireState). x.calls) e;
  no_fault = none;
}

seen-of : (change : Seen → Seen) (old new : WireState) → new ≡ seeing change old → new.seen ≡ change old.seen
seen-of change old new e = ap (λ (x : WireState). x.seen) e

own-of : {f f' : Faults} → f' ≡ f → f'.own ≡ f.own
own-of e = ap (λ (x : Faults). x.own) e

-- where it records nothing
pub idle-seeing : {f f' : Faults} (change : Seen → Seen) (old new : WireState) → ((s : Seen) → (change s).recorded ≡ s.recorded) → new ≡ seeing change old → f' ≡ f → IsIdleWire old new f f'
idle-seeing {f} {f'} change old new still e same = record {
  untouched = untouched-seeing change old new e (no-fault-same same);
  own_faults = own-kept old.seen.recorded new.seen.recorded f.own f'.own (ap (λ (x : WireState). x.seen.recorded) e ∙ still old.seen) (own-of same);
}

pub idle-close : {old new : WireState} {f f' : Faults} (k : ℕ) → new ≡ seeing (seen_after_close k) old → f' ≡ f → IsIdleWire old new f f'
idle-close {old} {new} k e same = idle-seeing (seen_after_close k) old new (λ s. refl) e same

pub idle-silence : {old new : WireState} {f f' : Faults} → new ≡ seeing seen_after_silence old → f' ≡ f → IsIdleWire old new f f'
idle-silence {old} {new} e same = idle-seeing seen_after_silence old new (λ s. refl) e same

pub idle-unlisten : {old new : WireState} {f f' : Faults} (l : ℕ) → new ≡ seeing (seen_after_unlisten l) old → f' ≡ f → IsIdleWire old new f f'
idle-unlisten {old} {new} l e same = idle-seeing (seen_after_unlisten l) old new (λ s. refl) e same

pub idle-pause : {old new : WireState} {f f' : Faults} (b : Bool) (k : ℕ) → new ≡ seeing (seen_after_pause b k) old → f' ≡ f → IsIdleWire old new f f'
idle-pause {old} {new} b k e same = idle-seeing (seen_after_pause b k) old new (λ s. refl) e same

pub idle-finish : {old new : WireState} {f f' : Faults} (k : ℕ) → new ≡ seeing (seen_after_finish k) old → f' ≡ f → IsIdleWire old new f f'
idle-finish {old} {new} k e same = idle-seeing (seen_after_finish k) old new (λ s. refl) e same

-- ---- a note

pub untouched-note : {E : Type 0} {old new : WireState} {f f' : Faults} (r : Result (Unit {0}) E) (mark : HouseMark) → new ≡ seeing (seen_after_note r mark) old → f' ≡ f → Untouched old new f f'
untouched-note {old = old} {new} r mark e same = untouched-seeing (seen_after_note r mark) old new e (no-fault-same same)

-- of no order that got no number
pub idle-note : {E : Type 0} {old new : WireState} {f f' : Faults} (r : Result (Unit {0}) E) (mark : HouseMark) → is_order_unmade (House mark) ≡ false → new ≡ seeing (seen_after_note r mark) old → f' ≡ f → IsIdleWire old new f f'
idle-note {old = old} {new} {f} {f'} r mark made e same = record {
  untouched = untouched-note r mark e same;
  own_faults = own-note r mark old.seen new.seen f.own f'.own made (seen-of (seen_after_note r mark) old new e) (own-of same);
}

-- of an order that was carried out
pub idle-ordered : {E : Type 0} {old mid new : WireState} {f g h : Faults} (r : Result (Unit {0}) E) (order : Order) (number : Option ℕ) → Untouched old mid f g → mid.seen.recorded ≡ old.seen.recorded → OrderCounted order number f.own g.own → new ≡ seeing (seen_after_note r (HouseOrder order number)) mid → h ≡ g → IsIdleWire old new f h
idle-ordered {old = old} {mid} {new} {f} {g} {h} r order number u still count e same = record {
  untouched = untouched-then u (untouched-note r (HouseOrder order number) e same);
  own_faults = own-ordered r order number old.seen mid.seen new.seen f.own g.own h.own still count (seen-of (seen_after_note r (HouseOrder order number)) mid new e) (own-of same);
}

-- ---- listen and connect

pub made-no-fault : {f f' : Faults} (r : Result ℕ FileError) → MakeFaults r f f' → NoFault f f'
made-no-fault (Ok n) e = no-fault-same e
made-no-fault (Err file.Failed) e = let o : OwnFault _ _ = e in record { server = o.server; client = o.client }
made-no-fault (Err file.OutOfMemory) e = no-fault-same e

pub untouched-listen : {old new : WireState} {f f' : Faults} (r : Result ℕ FileError) (host : List ℕ) (port : ℕ) → new ≡ seeing (seen_after_listen r host port) old → MakeFaults r f f' → Untouched old new f f'
untouched-listen {old} {new} r host port e cause = untouched-seeing (seen_after_listen r host port) old new e (made-no-fault r cause)

pub untouched-connect : {old new : WireState} {f f' : Faults} (r : Result ℕ FileError) (host : List ℕ) (port : ℕ) → new ≡ seeing (seen_after_connect r host port) old → MakeFaults r f f' → Untouched old new f f'
untouched-connect {old} {new} r host port e cause = untouched-seeing (seen_after_connect r host port) old new e (made-no-fault r cause)

-- ---- a write

same-server : (f f' : Faults) → f' ≡ f → f.server ≤ f'.server
same-server f f' e = le-of f.server f'.server (sym (ap (λ (x : Faults). x.server) e))

-- the server's count did not fall
pub wrote-later : (f f' : Faults) (answer : Wrote) (k : ℕ) → WroteFaults answer k f f' → f.server ≤ f'.server
wrote-later f f' wrote.Failed k c = fault-later k f f' c
wrote-later f f' (wrote.Took n) k c = same-server f f' c
wrote-later f f' wrote.Later k c = same-server f f' c
wrote-later f f' wrote.NoMemory k c = same-server f f' c

pub keeps-write : {old new : WireState} {f f' : Faults} (answer : Wrote) (k : ℕ) (bytes : List ℕ) → new ≡ state_after_write answer k bytes new.tally old → WroteFaults answer k f f' → KeepsWire old new f f'
keeps-write {old} {new} {f} {f'} answer k bytes e cause = record {
  openings = ap (λ (x : WireState). x.openings) e;
  joinings = ap (λ (x : WireState). x.joinings) e;
  own_faults = own-write answer k bytes old.seen new.seen f f' (ap (λ (x : WireState). x.seen) e) cause;
  later = wrote-later f f' answer k cause;
}

-- one that found memory
pub worked-write : {old new : WireState} {f f' : Faults} (answer : Wrote) (k : ℕ) (bytes : List ℕ) → is_starved_write answer ≡ false → new ≡ state_after_write answer k bytes new.tally old → WroteFaults answer k f f' → Worked 0 old new f f'
worked-write {old} {new} answer k bytes fed e cause = record {
  keeps = keeps-write answer k bytes e cause;
  calls = subst (λ (x : CallCounts). CountsOfWholeCall 0 old.calls x) (sym (ap (λ (x : WireState). x.calls) e ∙ ap (λ (b : Bool). calls_after_one b old.calls) fed)) (well-one old.calls);
}

pub works-write : {A E : Type 0} {old new : WireState} {f f' : Faults} (r : Result A E) (answer : Wrote) (k : ℕ) (bytes : List ℕ) → is_starved_write answer ≡ false → new ≡ state_after_write answer k bytes new.tally old → WroteFaults answer k f f' → Works 0 r old new f f'
works-write r answer k bytes fed e cause = works-any r (worked-write answer k bytes fed e cause)

-- one that did not
pub works-starved : {A E : Type 0} {old new : WireState} {f f' : Faults} (x : E) (k : ℕ) (bytes : List ℕ) → new ≡ state_after_write wrote.NoMemory k bytes new.tally old → WroteFaults wrote.NoMemory k f f' → Works {A = A} {E = E} 0 (Err x) old new f f'
works-starved {old = old} {new} x k bytes e cause = record {
  keeps = keeps-write wrote.NoMemory k bytes e cause;
  calls = subst (λ (x : CallCounts). CountsOfCutCall 0 old.calls x) (sym (ap (λ (x : WireState). x.calls) e)) (cut-one old.calls);
}

-- to one of the master's own streams
whose-own : (k : ℕ) → IsTrue (is_own k) → whose k ≡ Own
whose-own k own = elim (eqb_tells k 0) [
  | inl q ↦ absurd (let z : true ≡ false = sym own ∙ ap is_own q.1 in cc)
  | inr q ↦ ap (λ (b : Bool). cond b Server (cond (is_own k) Own (Client k))) q.0 ∙ ap (λ (b : Bool). cond b Own (Client k)) own
]

pub own-no-fault : {f f' : Faults} (k : ℕ) → IsTrue (is_own k) → FaultOf (whose k) f f' → NoFault f f'
own-no-fault {f} {f'} k own c = let o : OwnFault f f' = subst (λ (w : Whose). FaultOf w f f') (whose-own k own) c in record { server = o.server; client = o.client }

pub own-write-no-fault : {f f' : Faults} (answer : Wrote) (k : ℕ) → IsTrue (is_own k) → WroteFaults answer k f f' → NoFault f f'
own-write-no-fault wrote.Failed k own c = own-no-fault k own c
own-write-no-fault (wrote.Took n) k own c = no-fault-same c
own-write-no-fault wrote.Later k own c = no-fault-same c
own-write-no-fault wrote.NoMemory k own c = no-fault-same c

pub works-own-write : {A E : Type 0} {old new : WireState} {f f' : Faults} (r : Result A E) (answer : Wrote) (k : ℕ) (bytes : List ℕ) → IsTrue (is_own k) → is_starved_write answer ≡ false → new ≡ state_after_write answer k bytes new.tally old → WroteFaults answer k f f' → WorksOwn r old new f f'
works-own-write r answer k bytes own fed e cause = record { works = works-write r answer k bytes fed e cause; no_fault = own-write-no-fault answer k own cause }

pub works-own-starved : {A E : Type 0} {old new : WireState} {f f' : Faults} (x : E) (k : ℕ) (bytes : List ℕ) → IsTrue (is_own k) → new ≡ state_after_write wrote.NoMemory k bytes new.tally old → WroteFaults wrote.NoMemory k f f' → WorksOwn {A = A} {E = E} (Err x) old new f f'
works-own-starved x k bytes own e cause = record { works = works-starved x k bytes e cause; no_fault = own-write-no-fault wrote.NoMemory k own cause }

-- ---- a wait

pub turn-later : (f f' : Faults) (t : Turn) → TurnFaults t f f' → f.server ≤ f'.server
turn-later f f' (turn.Failed k) c = fault-later k f f' c
turn-later f f' (turn.Accepted k) c = same-server f f' c
turn-later f f' (turn.Got k) c = same-server f f' c
turn-later f f' (turn.End k) c = same-server f f' c
turn-later f f' (turn.Writable k) c = same-server f f' c
turn-later f f' (turn.Joined l k) c = same-server f f' c
turn-later f f' turn.NoMemory c = same-server f f' c

pub keeps-wait : {old new : WireState} {f f' : Faults} (t : Turn) (waiting : List ℕ) (want : Want) (bytes : List ℕ) → new ≡ state_after_wait t waiting want bytes new.tally old → TurnFaults t f f' → KeepsWire old new f f'
keeps-wait {old} {new} {f} {f'} t waiting want bytes e cause = record {
  openings = ap (λ (x : WireState). x.openings) e;
  joinings = ap (λ (x : WireState). x.joinings) e;
  own_faults = own-turn t waiting want bytes old.seen new.seen f f' (ap (λ (x : WireState). x.seen) e) cause;
  later = turn-later f f' t cause;
}

-- one that found memory
pub worked-wait : {old new : WireState} {f f' : Faults} (t : Turn) (waiting : List ℕ) (want : Want) (bytes : List ℕ) → is_starved t ≡ false → new ≡ state_after_wait t waiting want bytes new.tally old → TurnFaults t f f' → Worked 1 old new f f'
worked-wait {old} {new} t waiting want bytes fed e cause = record {
  keeps = keeps-wait t waiting want bytes e cause;
  calls = subst (λ (x : CallCounts). CountsOfWholeCall 1 old.calls x) (sym (ap (λ (x : WireState). x.calls) e)) (well-wait t old.calls fed);
}

pub works-wait : {A E : Type 0} {old new : WireState} {f f' : Faults} (r : Result A E) (t : Turn) (waiting : List ℕ) (want : Want) (bytes : List ℕ) → is_starved t ≡ false → new ≡ state_after_wait t waiting want bytes new.tally old → TurnFaults t f f' → Works 1 r old new f f'
works-wait r t waiting want bytes fed e cause = works-any r (worked-wait t waiting want bytes fed e cause)

-- whether or not it did
pub works-wait-err : {A E : Type 0} {old new : WireState} {f f' : Faults} (x : E) (t : Turn) (waiting : List ℕ) (want : Want) (bytes : List ℕ) → new ≡ state_after_wait t waiting want bytes new.tally old → TurnFaults t f f' → Works {A = A} {E = E} 1 (Err x) old new f f'
works-wait-err {old = old} {new} x t waiting want bytes e cause = record {
  keeps = keeps-wait t waiting want bytes e cause;
  calls = subst (λ (x : CallCounts). CountsOfCutCall 1 old.calls x) (sym (ap (λ (x : WireState). x.calls) e)) (cut-wait t old.calls);
}

-- a wire that only gave something after its wait, and of which all orders that got no number were
-- counted
pub works-recorded : {A E : Type 0} {n : ℕ} {old new : WireState} {f f' : Faults} (r : Result A E) {mid : WireState} {g : Faults} → Works n r old mid f g → IsIdleWire mid new g f' → Works n r old new f f'
works-recorded {n = n} {old} {new} {f} {f'} r {mid} {g} w i = record {
  keeps = keeps-then w.keeps (keeps-idle i);
  calls = subst (λ (x : CallCounts). CountsOfCall n r old.calls x) (sym i.untouched.calls) w.calls;
}
