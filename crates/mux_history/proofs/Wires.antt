-- The marks that a wire's law allows make a lawful journal.
use Rattle.std.proofs.Common.{◌≡◌, ℕ, Some, None, ◌≤◌, ◌<◌, List, [], ◌∷◌, ◌++◌, length, take, true, false, Bool, refl, ◌∙◌, ap, arith, sym, subst, length-take}
use Rattle.std.specs.Prelude.{◌==◌, ◌||◌, ◌&&◌, not, reverse, All, IsTrue, if◌then◌else◌}
use Rattle.std.proofs.lemmas.Bool.Decides.{nat_tests}
use Rattle.mux_outside.specs.Streams.{among, without}
use Rattle.mux_outside.specs.Wire.{IsNewOwn, OwnFits, TurnFits, WroteFits}
use Rattle.mux_outside.specs.Seen.{Seen, blocked_after, blocked_after_write, last_after, open_after, shown_of, wait_marks, write_marks}
use Rattle.mux_outside.specs.OwnStreams.{is_own}
use Rattle.mux_outside.specs.declared.house_mark.HouseMark.{HouseMark}
use Rattle.mux_outside.specs.declared.house_mark.HouseMark.TheVariants.{HouseOrder}
use Rattle.mux_outside.specs.declared.order.Order.TheVariants.{Connect}
use Rattle.mux_outside.specs.declared.own_streams.TheConstants.{LAST_OWN}
use Rattle.mux_outside.specs.declared.mark.Mark.{Mark}
use Rattle.mux_history.specs.declared.limits.TheConstants.{HOUSE}
use Rattle.mux_outside.specs.declared.mark.Mark.TheVariants as wire
use Rattle.mux_outside.specs.declared.shown.Shown.{Shown}
use Rattle.mux_outside.specs.declared.turn.Turn.{Turn}
use Rattle.mux_outside.specs.declared.turn.Turn.TheVariants as turns
use Rattle.mux_outside.specs.declared.turn.Want.{Want}
use Rattle.mux_outside.specs.declared.turn.Want.TheVariants as want
use Rattle.mux_outside.specs.declared.turn.Wrote.{Wrote}
use Rattle.mux_outside.specs.declared.turn.Wrote.TheVariants as wrote
use Rattle.ssh_fields.specs.Fields.{AreBytes}
use Rattle.ssh_fields.proofs.Fields.{AreBytes-take}
use Rattle.mux_history.specs.Journal.{LawfulHouse, orders_connect, is_accepted, is_blocked, is_known, is_own_stream, lets_in}
use Rattle.mux_history.specs.Wires.{FollowsRead, OfWire, ReadsWhenAsked, WireKeeps, is_connect, reads}
use Rattle.mux_history.proofs.Finds.{filter-no, filter-yes}
use Rattle.mux_history.proofs.Bools.{or-yes}

-- ---- lists of streams

-- what is in a list with one more is in the list, or it is that one
among-last : (P : Type 0) (t k : ℕ) (streams : List ℕ) → (IsTrue (among t streams) → P) → ((k == t) ≡ true → P) → among t (streams ++ k ∷ []) ≡ true → P
among-last P t k [] old new there = by_last (k == t) refl there
  where
    by_last : (b : Bool) → (k == t) ≡ b → (b || false) ≡ true → P
    by_last true e some = new e
    by_last false e some = cc
among-last P t k (s ∷ streams) old new there = by_head (λ o h. among-last P t k streams o new h) (s == t) refl there
  where
    by_head : ((IsTrue (among t streams) → P) → among t (streams ++ k ∷ []) ≡ true → P) → (b : Bool) → (s == t) ≡ b → (b || among t (streams ++ k ∷ [])) ≡ true → P
    by_head ih true e some = old (ap (λ b. b || among t streams) e)
    by_head ih false e some = ih (λ h. old (or-yes (s == t) (among t streams) h)) some

-- what is in a list without a number was in it
was-among : (t s : ℕ) (streams : List ℕ) → among s (without t streams) ≡ true → among s streams ≡ true
was-among t s [] there = there
was-among t s (x ∷ streams) there = by_case (λ h. was-among t s streams h) (not (x == t)) refl
  where
    by_same : (b : Bool) → (b || among s (without t streams)) ≡ true → (among s (without t streams) ≡ true → among s streams ≡ true) → (b || among s streams) ≡ true
    by_same true e ih = refl
    by_same false e ih = ih e

    by_case : (among s (without t streams) ≡ true → among s streams ≡ true) → (b : Bool) → not (x == t) ≡ b → among s (x ∷ streams) ≡ true
    by_case ih true e = by_same (x == s) (sym (ap (among s) (filter-yes (λ (y : ℕ). not (y == t)) x streams e)) ∙ there) ih
    by_case ih false e = or-yes (x == s) (among s streams) (ih (sym (ap (among s) (filter-no (λ (y : ℕ). not (y == t)) x streams e)) ∙ there))

-- and is another number
other-than : (t s : ℕ) (streams : List ℕ) → among s (without t streams) ≡ true → (t == s) ≡ false
other-than t s [] there = cc
other-than t s (x ∷ streams) there = by_case (λ h. other-than t s streams h) (not (x == t)) refl
  where
    differs : not (x == t) ≡ true → (x == s) ≡ true → (t == s) ≡ false
    differs e f = grind (arith, nat_tests)

    by_same : not (x == t) ≡ true → (b : Bool) → (x == s) ≡ b → (b || among s (without t streams)) ≡ true → (among s (without t streams) ≡ true → (t == s) ≡ false) → (t == s) ≡ false
    by_same e true f some ih = differs e f
    by_same e false f some ih = ih some

    by_case : (among s (without t streams) ≡ true → (t == s) ≡ false) → (b : Bool) → not (x == t) ≡ b → (t == s) ≡ false
    by_case ih true e = by_same e (x == s) refl (sym (ap (among s) (filter-yes (λ (y : ℕ). not (y == t)) x streams e)) ∙ there) ih
    by_case ih false e = ih (sym (ap (among s) (filter-no (λ (y : ℕ). not (y == t)) x streams e)) ∙ there)

-- ---- streams that are known, and that hold back

known-on : (t : ℕ) (b : Bool) (marks : List Mark) → is_known t marks ≡ true → ((t == 0) || (is_own_stream t || (if b then true else is_accepted t marks))) ≡ true
known-on t b marks known = by_server (t == 0) known
  where
    by_same : (b : Bool) → is_accepted t marks ≡ true → (if b then true else is_accepted t marks) ≡ true
    by_same true e = refl
    by_same false e = e

    by_own : (o : Bool) → (o || is_accepted t marks) ≡ true → (o || (if b then true else is_accepted t marks)) ≡ true
    by_own true e = refl
    by_own false e = by_same b e

    by_server : (s : Bool) → (s || (is_own_stream t || is_accepted t marks)) ≡ true → (s || (is_own_stream t || (if b then true else is_accepted t marks))) ≡ true
    by_server true e = refl
    by_server false e = by_own (is_own_stream t) e

known-before : (t k : ℕ) (marks : List Mark) → is_known t marks ≡ true → is_known t (wire.Accepts k ∷ marks) ≡ true
known-before t k marks known = known-on t (k == t) marks known

known-house : (t : ℕ) (m : HouseMark) (marks : List Mark) → is_known t marks ≡ true → is_known t (wire.House m ∷ marks) ≡ true
known-house t m marks known = known-on t (lets_in t m) marks known

known-new : (t k : ℕ) (marks : List Mark) → (k == t) ≡ true → is_known t (wire.Accepts k ∷ marks) ≡ true
known-new t k marks same = or-yes (t == 0) (is_own_stream t || is_accepted t (wire.Accepts k ∷ marks)) (or-yes (is_own_stream t) (is_accepted t (wire.Accepts k ∷ marks)) (ap (λ b. if b then true else is_accepted t marks) same))

-- the master's own streams are
own-known : (t : ℕ) (marks : List Mark) → is_own_stream t ≡ true → is_known t marks ≡ true
own-known t marks own = or-yes (t == 0) (is_own_stream t || is_accepted t marks) (ap (λ b. b || is_accepted t marks) own)

same-own : (n t : ℕ) → (n == t) ≡ true → is_own_stream n ≡ true → is_own_stream t ≡ true
same-own n t e own = subst (λ (j : ℕ). is_own_stream j ≡ true) (same e) own
  where
    same : (n == t) ≡ true → n ≡ t
    same e = grind (arith, nat_tests)

new-own : (last n : ℕ) → IsNewOwn last n → is_own_stream n ≡ true
new-own last n new = ap (λ b. b && not (n == HOUSE)) new.own ∙ ap not (no_house new.at_most)
  where
    no_house : n ≤ LAST_OWN → (n == HOUSE) ≡ false
    no_house le = grind (arith, nat_tests)

server-known : (t : ℕ) → among t (0 ∷ []) ≡ true → is_known t [] ≡ true
server-known t there = by_case (0 == t) refl there
  where
    turned : (0 == t) ≡ true → (t == 0) ≡ true
    turned e = grind (arith, nat_tests)

    by_case : (b : Bool) → (0 == t) ≡ b → (b || false) ≡ true → is_known t [] ≡ true
    by_case true e some = ap (λ b. b || (is_own_stream t || false)) (turned e)
    by_case false e some = cc

held-more : (t s : ℕ) (marks : List Mark) → is_blocked s marks ≡ true → is_blocked s (wire.Holds t ∷ marks) ≡ true
held-more t s marks held = by_case (t == s)
  where
    by_case : (b : Bool) → (elim b as (λ _. Bool) [ true ↦ true | false ↦ is_blocked s marks ]) ≡ true
    by_case true = refl
    by_case false = held

held-house : (s : ℕ) (m : HouseMark) (marks : List Mark) → is_blocked s marks ≡ true → is_blocked s (wire.House m ∷ marks) ≡ true
held-house s m marks held = by_case (orders_connect s m)
  where
    by_case : (b : Bool) → (elim b as (λ _. Bool) [ true ↦ true | false ↦ is_blocked s marks ]) ≡ true
    by_case true = refl
    by_case false = held

-- ---- what a wire's law gives

still : (before : List Mark) (mark : Mark) → reads mark ≡ false → ReadsWhenAsked before mark
still before mark quiet reading = absurd (let bad : true ≡ false = sym reading ∙ quiet in let h = bad in cc)

read-after : (waiting streams : List ℕ) (wanted : Want) (shown : Shown) (before : List Mark) → wanted ≡ want.Read → FollowsRead (wire.Waits waiting wanted streams shown ∷ before)
read-after waiting streams wanted shown before e = subst (λ (x : Want). FollowsRead (wire.Waits waiting x streams shown ∷ before)) (sym e) tt

module _ (seen : Seen) (marks : List Mark) where
  all-held : OfWire seen.streams seen.blocked seen.last marks → (waiting : List ℕ) → All (λ t. IsTrue (among t seen.blocked)) waiting → All (λ t. IsTrue (is_blocked t marks)) waiting
  all-held of waiting all k d lt = of.holds _ (all k d lt)

  turn-kept : (given : Turn) (waiting : List ℕ) (wanted : Want) (bytes : List ℕ) → AreBytes bytes → All (λ t. IsTrue (among t seen.blocked)) waiting → TurnFits given wanted seen bytes → OwnFits given seen → OfWire seen.streams seen.blocked seen.last marks → OfWire (open_after given seen.streams) (blocked_after given seen.blocked) (last_after given seen.last) (reverse (wait_marks given waiting wanted seen.streams (shown_of seen) bytes) ++ marks)
  turn-kept (turns.Accepted k) waiting wanted bytes are all fits own_fits of =
      let low = of.below in
      let next = fits.2 in
      let most = fits.3 in
      record {
        lawful = ((omega (arith, low, next), omega (arith, next, most)), (all-held of waiting all, of.lawful));
        asked = (λ reading. read-after waiting seen.streams wanted (shown_of seen) marks fits.0, (still marks (wire.Waits waiting wanted seen.streams (shown_of seen)) refl, of.asked));
        known = λ t there. among-last (is_known t (wire.Accepts k ∷ marks) ≡ true) t k seen.streams (λ old. known-before t k marks (of.known t old)) (λ same. known-new t k marks same) there;
        holds = of.holds;
        below = omega arith;
      }
  turn-kept (turns.Got t) waiting wanted bytes are all fits own_fits of = record {
    lawful = ((of.known t fits.1, fits.2, fits.3, are), (all-held of waiting all, of.lawful));
    asked = (λ reading. read-after waiting seen.streams wanted (shown_of seen) marks fits.0, (still marks (wire.Waits waiting wanted seen.streams (shown_of seen)) refl, of.asked));
    known = of.known;
    holds = of.holds;
    below = of.below;
  }
  turn-kept (turns.End t) waiting wanted bytes are all fits own_fits of = record {
    lawful = (of.known t fits.1, (all-held of waiting all, of.lawful));
    asked = (still (wire.Waits waiting wanted seen.streams (shown_of seen) ∷ marks) (wire.Ends t) refl, (still marks (wire.Waits waiting wanted seen.streams (shown_of seen)) refl, of.asked));
    known = of.known;
    holds = of.holds;
    below = of.below;
  }
  turn-kept (turns.Writable t) waiting wanted bytes are all fits own_fits of = record {
    lawful = (of.holds t fits.1, (all-held of waiting all, of.lawful));
    asked = (still (wire.Waits waiting wanted seen.streams (shown_of seen) ∷ marks) (wire.Frees t) refl, (still marks (wire.Waits waiting wanted seen.streams (shown_of seen)) refl, of.asked));
    known = of.known;
    holds = λ s there. ap (λ b. elim b as (λ _. Bool) [ true ↦ false | false ↦ is_blocked s marks ]) (other-than t s seen.blocked there) ∙ of.holds s (was-among t s seen.blocked there);
    below = of.below;
  }
  turn-kept (turns.Failed t) waiting wanted bytes are all fits own_fits of = record {
    lawful = (of.known t fits, (all-held of waiting all, of.lawful));
    asked = (still (wire.Waits waiting wanted seen.streams (shown_of seen) ∷ marks) (wire.Fails t) refl, (still marks (wire.Waits waiting wanted seen.streams (shown_of seen)) refl, of.asked));
    known = of.known;
    holds = of.holds;
    below = of.below;
  }
  turn-kept (turns.Joined l t) waiting wanted bytes are all fits own_fits of = record {
    lawful = (tt, (all-held of waiting all, of.lawful));
    asked = (λ reading. read-after waiting seen.streams wanted (shown_of seen) marks fits, (still marks (wire.Waits waiting wanted seen.streams (shown_of seen)) refl, of.asked));
    known = λ s there. among-last (is_known s marks ≡ true) s t seen.streams (λ old. of.known s old) (λ same. own-known s marks (same-own t s same (new-own seen.last_own t own_fits.1))) there;
    holds = of.holds;
    below = of.below;
  }
  turn-kept turns.NoMemory waiting wanted bytes are all fits own_fits of = of

  some-taken : (n : ℕ) (bytes : List ℕ) → 1 ≤ n → n ≤ length bytes → 0 < length (take n bytes)
  some-taken n bytes some most = omega (arith, length-take n bytes)

  write-kept : (answer : Wrote) (t : ℕ) (bytes : List ℕ) → AreBytes bytes → 0 < length bytes → IsTrue (among t seen.streams) → WroteFits answer (length bytes) → OfWire seen.streams seen.blocked seen.last marks → OfWire seen.streams (blocked_after_write answer t seen.blocked) seen.last (reverse (write_marks answer t bytes seen.listens) ++ marks)
  write-kept (wrote.Took n) t bytes are some there fits of = record {
    lawful = ((of.known t there, some-taken n bytes fits.0 fits.1, AreBytes-take n bytes are), of.lawful);
    asked = (still marks (wire.Takes t (take n bytes) seen.listens) refl, of.asked);
    known = of.known;
    holds = of.holds;
    below = of.below;
  }
  write-kept wrote.Later t bytes are some there fits of = record {
    lawful = (of.known t there, of.lawful);
    asked = (still marks (wire.Holds t) refl, of.asked);
    known = of.known;
    holds = λ s held. among-last (is_blocked s (wire.Holds t ∷ marks) ≡ true) s t seen.blocked (λ old. held-more t s marks (of.holds s old)) (λ same. ap (λ b. elim b as (λ _. Bool) [ true ↦ true | false ↦ is_blocked s marks ]) same) held;
    below = of.below;
  }
  write-kept wrote.Failed t bytes are some there fits of = record {
    lawful = (of.known t there, of.lawful);
    asked = (still marks (wire.WriteFails t) refl, of.asked);
    known = of.known;
    holds = of.holds;
    below = of.below;
  }
  write-kept wrote.NoMemory t bytes are some there fits of = of

  close-kept : (t : ℕ) → OfWire seen.streams seen.blocked seen.last marks → OfWire (without t seen.streams) (without t seen.blocked) seen.last marks
  close-kept t of = record {
    lawful = of.lawful;
    asked = of.asked;
    known = λ s there. of.known s (was-among t s seen.streams there);
    holds = λ s there. of.holds s (was-among t s seen.blocked there);
    below = of.below;
  }

  note-kept : (mark : HouseMark) → LawfulHouse marks mark → is_connect mark ≡ false → OfWire seen.streams seen.blocked seen.last marks → OfWire seen.streams seen.blocked seen.last (wire.House mark ∷ marks)
  note-kept mark lawful other of = record {
    lawful = (lawful, of.lawful);
    asked = (still marks (wire.House mark) refl, of.asked);
    known = λ t there. known-house t mark marks (of.known t there);
    holds = λ t there. held-house t mark marks (of.holds t there);
    below = of.below;
  }

  connect-kept : (host : List ℕ) (port n : ℕ) → is_own_stream n ≡ true → OfWire seen.streams seen.blocked seen.last marks → OfWire (seen.streams ++ n ∷ []) (seen.blocked ++ n ∷ []) seen.last (wire.House (HouseOrder (Connect host port) (Some n)) ∷ marks)
  connect-kept host port n own_n of = record {
    lawful = (tt, of.lawful);
    asked = (still marks (wire.House (HouseOrder (Connect host port) (Some n))) refl, of.asked);
    known = λ t there. among-last (is_known t (wire.House (HouseOrder (Connect host port) (Some n)) ∷ marks) ≡ true) t n seen.streams (λ old. known-house t (HouseOrder (Connect host port) (Some n)) marks (of.known t old)) (λ same. own-known t (wire.House (HouseOrder (Connect host port) (Some n)) ∷ marks) (same-own n t same own_n)) there;
    holds = λ s held. among-last (is_blocked s (wire.House (HouseOrder (Connect host port) (Some n)) ∷ marks) ≡ true) s n seen.blocked (λ old. held-house s (HouseOrder (Connect host port) (Some n)) marks (of.holds s old)) (λ same. ap (λ b. elim b as (λ _. Bool) [ true ↦ true | false ↦ is_blocked s marks ]) same) held;
    below = of.below;
  }

  no-stream : (t : ℕ) → IsTrue (among t []) → IsTrue (is_blocked t [])
  no-stream t there = there

  pub wire-keeps : WireKeeps seen marks
  wire-keeps = record {
    none = record { lawful = tt; asked = tt; known = server-known; holds = no-stream; below = omega arith };
    turn = turn-kept;
    write = write-kept;
    close = close-kept;
    note = note-kept;
    connect = connect-kept;
  }
