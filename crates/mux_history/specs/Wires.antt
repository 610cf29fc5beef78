-- What any wire does: its marks make a lawful journal, and it reads and accepts only where it was
-- just waited for so.
use Rattle.std.specs.Prelude.{ℕ, ◌≡◌, ◌≤◌, ◌<◌, List, [], ◌∷◌, ◌++◌, Bool, true, false, Some, All, IsTrue, length, reverse}
use Rattle.mux_outside.specs.declared.mark.Mark.{Mark}
use Rattle.mux_outside.specs.declared.mark.Mark.TheVariants.{Accepts, Gets, Joins, Waits, House}
use Rattle.mux_outside.specs.declared.house_mark.HouseMark.{HouseMark}
use Rattle.mux_outside.specs.declared.house_mark.HouseMark.TheVariants.{HouseOrder}
use Rattle.mux_outside.specs.declared.order.Order.{Order}
use Rattle.mux_outside.specs.declared.order.Order.TheVariants.{Connect}
use Rattle.mux_outside.specs.OwnStreams.{is_own}
use Rattle.mux_outside.specs.declared.turn.Turn.{Turn}
use Rattle.mux_outside.specs.declared.turn.Want.{Want}
use Rattle.mux_outside.specs.declared.turn.Want.TheVariants.{Read}
use Rattle.mux_outside.specs.declared.turn.Wrote.{Wrote}
use Rattle.mux_outside.specs.Streams.{among, without}
use Rattle.mux_outside.specs.Wire.{OwnFits, TurnFits, WroteFits}
use Rattle.mux_outside.specs.Seen.{Seen, blocked_after, blocked_after_write, last_after, open_after, shown_of, wait_marks, write_marks}
use Rattle.ssh_fields.specs.Fields.{AreBytes}
use Rattle.mux_history.specs.Journal.{IsLawful, LawfulHouse, is_own_stream, is_blocked, is_known, last_client}
use Rattle.mux_history.specs.Promises.{Throughout}

-- bytes that are read, clients that are accepted, and sockets that are accepted
abbrev pub reads : Mark → Bool
reads (Accepts k) = true
reads (Gets stream bytes) = true
reads (Joins listener stream) = true
reads mark = false

-- the wire was just waited for, to read as well as to write
abbrev pub FollowsRead : List Mark → Type 0
FollowsRead (Waits waiting Read streams shown ∷ before) = Unit {0}
FollowsRead marks = ⊥

-- what is read or accepted comes right after such a wait
abbrev pub ReadsWhenAsked : List Mark → Mark → Type 0
ReadsWhenAsked before mark = reads mark ≡ true → FollowsRead before

-- the marks of a wire of which these streams are open and these hold back, and whose last client
-- has at most this number
pub record OfWire (streams blocked : List ℕ) (last : ℕ) (marks : List Mark) : Type 0 where
  pub lawful : IsLawful marks
  pub asked : Throughout ReadsWhenAsked marks
  pub known : (t : ℕ) → IsTrue (among t streams) → IsTrue (is_known t marks)
  pub holds : (t : ℕ) → IsTrue (among t blocked) → IsTrue (is_blocked t marks)
  pub below : last_client marks ≤ last

-- the forwarder's mark records that a stream was made
abbrev pub is_connect : HouseMark → Bool
is_connect (HouseOrder (Connect host port) (Some stream)) = true
is_connect mark = false

-- The law of each wire keeps this:
--
-- - right after it was opened;
-- - at each turn that it may give, where only streams that hold back are waited for;
-- - at each answer that it may give to a write of some bytes to a stream that is open;
-- - where a stream is closed;
-- - where a forwarder's mark is noted;
-- - and where a stream is made, once that is noted too.
pub record WireKeeps (seen : Seen) (marks : List Mark) : Type 0 where
  pub none : OfWire (0 ∷ []) [] seen.last []
  pub turn : (given : Turn) (waiting : List ℕ) (want : Want) (bytes : List ℕ)
      → AreBytes bytes → All (λ t. IsTrue (among t seen.blocked)) waiting
      → TurnFits given want seen bytes → OwnFits given seen
      → OfWire seen.streams seen.blocked seen.last marks
      → OfWire (open_after given seen.streams) (blocked_after given seen.blocked)
      (last_after given seen.last)
      (reverse (wait_marks given waiting want seen.streams (shown_of seen) bytes) ++ marks)
  pub write : (answer : Wrote) (t : ℕ) (bytes : List ℕ) → AreBytes bytes → 0 < length bytes
      → IsTrue (among t seen.streams) → WroteFits answer (length bytes)
      → OfWire seen.streams seen.blocked seen.last marks
      → OfWire seen.streams (blocked_after_write answer t seen.blocked) seen.last
      (reverse (write_marks answer t bytes seen.listens) ++ marks)
  pub close : (t : ℕ) → OfWire seen.streams seen.blocked seen.last marks
      → OfWire (without t seen.streams) (without t seen.blocked) seen.last marks
  pub note : (mark : HouseMark) → LawfulHouse marks mark → is_connect mark ≡ false
      → OfWire seen.streams seen.blocked seen.last marks
      → OfWire seen.streams seen.blocked seen.last (House mark ∷ marks)
  pub connect : (host : List ℕ) (port n : ℕ) → is_own_stream n ≡ true
      → OfWire seen.streams seen.blocked seen.last marks
      → OfWire (seen.streams ++ n ∷ []) (seen.blocked ++ n ∷ []) seen.last
      (House (HouseOrder (Connect host port) (Some n)) ∷ marks)

-- of every wire
abbrev pub WiresKeepTheLaw : Type 0
WiresKeepTheLaw = (seen : Seen) (marks : List Mark) → WireKeeps seen marks
