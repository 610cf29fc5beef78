-- Where what is read comes right after a wait for it, it is read where there is room.
use Rattle.std.proofs.Common.{◌≡◌, ℕ, ◌≤◌, ◌<◌, List, [], ◌∷◌, refl, sym, subst, true, arith}
use Rattle.std.proofs.lemmas.Bool.Decides.{nat_tests}
use Rattle.mux_outside.specs.declared.house.HouseReply.{HouseReply}
use Rattle.mux_outside.specs.declared.mark.Mark.{Mark}
use Rattle.mux_outside.specs.declared.mark.Mark.TheVariants as wire
use Rattle.mux_outside.specs.declared.turn.Want.TheVariants as want
use Rattle.mux_outside.specs.declared.house_mark.HouseMark.{HouseMark}
use Rattle.mux_outside.specs.declared.house_mark.HouseMark.TheVariants.{HouseIn, HouseSaid}
use Rattle.mux_history.specs.Journal.{IsLawful, LawfulHouse, LawfulMark}
use Rattle.mux_history.specs.Kept.{AtEach}
use Rattle.mux_history.specs.Log.{Setting}
use Rattle.mux_history.specs.Policy.{Policy}
use Rattle.mux_history.specs.Promises.{SpeaksInTime, Throughout, WaitsAt}
use Rattle.mux_history.specs.Right.{AreFresh}
use Rattle.mux_history.specs.Rows.{Row}
use Rattle.mux_history.specs.Settings.{by_lists}
use Rattle.mux_history.specs.Wires.{FollowsRead, ReadsWhenAsked}
use Rattle.mux_bounds.specs.Bounds.{IsLog, ReadsWithRoom, StaysBelow, waiting_up}
use Rattle.mux_bounds.proofs.ServerQueue.{stays-below}

not-less : (n m : ℕ) → (m ≤ n → ⊥) → n < m
not-less n m never = grind (arith, nat_tests, never)

module _ (policy : Policy) (pid : ℕ) (picks : List ℕ) (given : List HouseReply) where
  abbrev setting : Setting
  setting = by_lists policy pid picks given

  room-after : (marks : List Mark) → FollowsRead marks → Throughout (WaitsAt setting) marks → waiting_up setting marks < 4194304
  room-after [] follows waits = absurd follows
  room-after (mark ∷ before) follows waits = by_mark mark follows waits.0
    where
      by_mark : (m : Mark) → FollowsRead (m ∷ before) → WaitsAt setting before m → waiting_up setting (m ∷ before) < 4194304
      by_mark (wire.Waits waiting want.Read streams shown) follows right = not-less (waiting_up setting before) 4194304 (λ le. absurd (let bad = right.write_only.1 le in let h : want.Read ≡ want.WriteOnly = bad in cc))
      by_mark (wire.Waits waiting want.WriteOnly streams shown) follows right = absurd follows
      by_mark m follows right = absurd follows

  room-house : (mark : HouseMark) (before : List Mark) → LawfulHouse before mark → SpeaksInTime setting before (wire.House mark) → ReadsWithRoom setting before (wire.House mark)
  room-house HouseIn before lawful speaks = λ reading. subst (λ (marks : List Mark). waiting_up setting marks < 4194304) (sym lawful) (omega arith)
  room-house (HouseSaid bytes) before lawful speaks = λ reading. speaks.room
  room-house mark before lawful speaks = λ reading. cc

  rooms : (marks : List Mark) → IsLawful marks → Throughout ReadsWhenAsked marks → Throughout (WaitsAt setting) marks → Throughout (SpeaksInTime setting) marks → Throughout (ReadsWithRoom setting) marks
  rooms [] lawful asked waits speaks = tt
  rooms (mark ∷ before) lawful asked waits speaks = (by_mark mark lawful.0 asked.0 speaks.0, rooms before lawful.1 asked.1 waits.1 speaks.1)
    where
      by_mark : (mark : Mark) → LawfulMark before mark → ReadsWhenAsked before mark → SpeaksInTime setting before mark → ReadsWithRoom setting before mark
      by_mark (wire.House m) lawful asked speaks = room-house m before lawful speaks
      by_mark (wire.Accepts k) lawful asked speaks = λ reading. room-after before (asked refl) waits.1
      by_mark (wire.Gets stream bytes) lawful asked speaks = λ reading. room-after before (asked refl) waits.1
      by_mark (wire.Joins listener stream) lawful asked speaks = λ reading. room-after before (asked refl) waits.1
      by_mark m lawful asked speaks = λ reading. cc

  pub runs-bounded : (marks : List Mark) (rows : List Row) → IsLawful marks → IsLog setting marks rows → AreFresh rows → Throughout ReadsWhenAsked marks → Throughout (WaitsAt setting) marks → Throughout (SpeaksInTime setting) marks → AtEach StaysBelow rows
  runs-bounded marks rows lawful is fresh asked waits speaks = stays-below policy pid picks given marks rows lawful is fresh (rooms marks lawful asked waits speaks)
