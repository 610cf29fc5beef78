-- The requests that are noted after an event are no orders.
use Rattle.std.proofs.Common.{◌≡◌, ◌≢◌, ◌≤◌, ◌<◌, ◌+◌, ℕ, true, false, List, [], length, Option, Some, refl, sym, ap, subst, inl, inr, arith}
use Rattle.std.specs.Prelude.{Result, Ok, Err}
use Rattle.ssh_fields.specs.Fields.{AreBytes}
use Rattle.mux_outside.specs.House.{Known}
use Rattle.mux_outside.specs.OwnStreams.{is_own}
use Rattle.mux_outside.specs.Seen.{Seen}
use Rattle.mux_outside.specs.Streams.{among}
use Rattle.mux_outside.specs.Wire.{TurnFits}
use Rattle.mux_outside.specs.declared.house.HouseReply.{HouseReply}
use Rattle.mux_outside.specs.declared.house_mark.HouseMark.{HouseMark}
use Rattle.mux_outside.specs.declared.house_mark.HouseMark.TheVariants.{HouseIn, HouseSaid, HouseTook, HouseAsked, HouseAnswer, HouseOrder}
use Rattle.mux_outside.specs.declared.mark.Mark.{Mark}
use Rattle.mux_outside.specs.declared.mark.Mark.TheVariants.{Waits, Accepts, Gets, Ends, Frees, Fails, Takes, Holds, WriteFails, Joins, House}
use Rattle.mux_outside.specs.declared.own_streams.TheConstants.{LAST_CLIENT}
use Rattle.mux_outside.specs.declared.turn.Turn.{Turn}
use Rattle.mux_outside.specs.declared.turn.Turn.TheVariants as turn
use Rattle.mux_outside.specs.declared.turn.Want.{Want}
use Rattle.mux_history.specs.declared.limits.TheConstants.{HOUSE}
use Rattle.mux_history.specs.Journal.{is_accepted}
use Rattle.mux_history.specs.Policy.{Policy}
use Rattle.mux_peers.specs.Asked.{RecordsAsks}
use Rattle.mux_state.specs.State.{EngineState}
use Rattle.mux_state.specs.Events.{MarkRecords}
use Rattle.mux_state.specs.declared.event.Event.{Event}
use Rattle.mux_state.specs.Stands.{GoesBy, IsAllowed, RepresentsSoFar}
use Rattle.mux_engine.specs.Asking.{Applied, AppliesSo}
use Rattle.mux_engine.specs.OwnFaults.{OwnCounted}
use Rattle.mux_engine.specs.Serving.{IsUnseen, Serving}
use Rattle.mux_engine.specs.Sides.{Resting, Side}
use Rattle.mux_engine.specs.Turns.{IsEventOf}
use Rattle.mux_engine.proofs.Asks.{EachAsked, SentBy, goes-asked}
use Rattle.mux_engine.proofs.Lists.{not-own-stream}
use Rattle.mux_engine.proofs.OwnFaults.{own-asks, own-still}
use Rattle.mux_engine.proofs.Places.{at-stream, open-stream}
use Rattle.mux_engine.proofs.WireTurns.{client-number}

-- whoever sends something
abbrev Anyone : ℕ → Type 0
Anyone k = Unit {0}

said-by : (mark : Mark) → SentBy Anyone mark
said-by (Gets k bytes) = λ nz. tt
said-by (Waits waiting want streams shown) = tt
said-by (Accepts k) = tt
said-by (Ends k) = tt
said-by (Frees k) = tt
said-by (Fails k) = tt
said-by (Takes k bytes accepts) = tt
said-by (Holds k) = tt
said-by (WriteFails k) = tt
said-by (Joins l k) = tt
said-by (House HouseIn) = tt
said-by (House (HouseSaid bytes)) = tt
said-by (House (HouseTook n)) = tt
said-by (House (HouseAsked client id opening ask reply)) = tt
said-by (House (HouseAnswer client id reply)) = tt
said-by (House (HouseOrder order number)) = tt

asks-are : (asks more : List HouseMark) → RecordsAsks (Some []) (Some asks) more → asks ≡ more
asks-are asks more e = held e
  where
    held : Some asks ≡ Some more → asks ≡ more
    held h = cc

-- an event that a mark records which may come now
pub record MayCome (e : Event) (s : EngineState) (journal : List Mark) : Type 0 where
  pub mark : Mark
  pub records : MarkRecords e mark
  pub allowed : IsAllowed s journal mark

module _ {picked : List ℕ} {replies : List HouseReply} {s : EngineState} {journal : List Mark} {closed : List ℕ} (st : RepresentsSoFar picked replies s journal closed) {e : Event} (comes : MayCome e s journal) where
  applies-counted : {May : HouseReply → Type 0} (s' : EngineState) (asks : List HouseMark) (recorded recorded' : Option (List HouseMark)) (known known' : Known) (seen seen' : Seen) (n : ℕ) (faults faults' : ℕ) → faults' ≡ faults → AppliesSo May e s s' asks recorded recorded' known known' seen seen' n → OwnCounted seen.recorded seen'.recorded faults faults'
  applies-counted {May} s' asks recorded recorded' known known' seen seen' n faults faults' same h =
      let g : GoesBy May (Some []) (Some asks) picked replies s s' comes.mark journal closed = h.goes comes.mark comes.records picked replies journal closed st comes.allowed in
      let each : EachAsked Anyone asks = subst (EachAsked Anyone) (sym (asks-are asks g.asks g.recorded)) (goes-asked Anyone g h.keeps.policy h.keeps.pid (said-by comes.mark)) in
      own-asks Anyone n asks seen seen' faults faults' each h.seen_is same

  pub applied-counted : {A E : Type 0} (r : Result A E) (May : HouseReply → Type 0) (s' : EngineState) (asks : List HouseMark) (recorded recorded' : Option (List HouseMark)) (known known' : Known) (seen seen' : Seen) (faults faults' : ℕ) → faults' ≡ faults → Applied r May e s s' asks recorded recorded' known known' seen seen' → OwnCounted seen.recorded seen'.recorded faults faults'
  applied-counted (Ok x) May s' asks recorded recorded' known known' seen seen' faults faults' same h = applies-counted s' asks recorded recorded' known known' seen seen' (length asks) faults faults' same h
  applied-counted (Err x) May s' asks recorded recorded' known known' seen seen' faults faults' same (inl u) = own-still seen.recorded seen'.recorded faults faults' (ap (λ (y : Seen). y.recorded) u.seen_is) (omega (arith, same))
  applied-counted (Err x) May s' asks recorded recorded' known known' seen seen' faults faults' same (inr p) = applies-counted s' asks recorded recorded' known known' seen seen' p.0 faults faults' same p.1

-- what the forwarder sends as a client
pub house-comes : (e : Event) (s : EngineState) (journal : List Mark) (bytes : List ℕ) → is_accepted HOUSE journal ≡ true → AreBytes bytes → MarkRecords e (Gets HOUSE bytes) → MayCome e s journal
house-comes e s journal bytes within are records = record { mark = Gets HOUSE bytes; records = records; allowed = ((λ nz. within), are, refl) }

-- ---- a turn of the wire

few-clients : (last k : ℕ) → k ≡ last + 1 → last < LAST_CLIENT → k ≤ LAST_CLIENT
few-clients last k e lt = omega arith

module _ {May : HouseReply → Type 0} {Rest : Resting} {before : Option (List HouseMark)} {now : Side} {policy : Policy} {pid : ℕ} {start : Option (List Mark)} {seen : Seen} {held failed : List ℕ} {given : ℕ} {todo : List ℕ} {s : EngineState}
    (v : Serving May Rest before now policy pid start seen held failed given todo s) where
  accepted : (k : ℕ) → is_own k ≡ false → among k seen.streams ≡ true → k ≢ 0 → is_accepted k v.journal ≡ true
  accepted k client found nz = (at-stream v.stands k (open-stream v k client found)).accepted nz

  pub turn-comes : (e : Event) (t : Turn) (want : Want) (bytes got : List ℕ) → AreBytes got → TurnFits t want seen bytes → IsEventOf e t got → MayCome e s v.journal
  turn-comes e (turn.Accepted k) want bytes got are fits next =
      let few : k ≤ LAST_CLIENT = few-clients seen.last k fits.2 fits.3 in
      let new : IsUnseen v.journal seen.blocked k = v.unseen k (let n : k ≡ seen.last + 1 = fits.2 in omega arith) few in
      record { mark = Accepts k; records = next; allowed = ((λ z. let n : k ≡ seen.last + 1 = fits.2 in absurd (omega (arith, z, n))), new.not_accepted, not-own-stream k (client-number k few)) }
  turn-comes e (turn.Got k) want bytes got are fits next = record { mark = Gets k got; records = next.1; allowed = ((λ nz. accepted k next.0 fits.1 nz), are, not-own-stream k next.0) }
  turn-comes e (turn.End k) want bytes got are fits next = record { mark = Ends k; records = next.1; allowed = ((λ nz. accepted k next.0 fits.1 nz), not-own-stream k next.0) }
  turn-comes e (turn.Failed k) want bytes got are fits next = record { mark = Fails k; records = next.1; allowed = ((λ nz. accepted k next.0 fits nz), not-own-stream k next.0) }
  turn-comes e (turn.Writable k) want bytes got are fits next = absurd next
  turn-comes e (turn.Joined l k) want bytes got are fits next = absurd next
  turn-comes e turn.NoMemory want bytes got are fits next = absurd next
