-- The rooms of a channel go on by one message.
use Rattle.std.proofs.Common.{◌≡◌, ℕ, ◌+◌, ◌-◌, ◌∷◌, arith}
use Rattle.ssh_grammar.specs.declared.side.Side.{Side}
use Rattle.ssh_grammar.specs.declared.side.Side.TheVariants.{Up, Down}
use Rattle.mux_history.specs.Summary.{Carries, Grants}
use Rattle.mux_history.specs.Channels.{Channel}
use Rattle.mux_history.specs.Ledger.{other_side, room}
use Rattle.mux_history.specs.Laws.{with_act, IsWithin, RoomsGoOn}

carries : (way : Side) (n : ℕ) (x : Channel) → room way (with_act way (Carries n) x) ≡ room way x - n
carries Up n x = by_side x.by
  where
    by_side : (side : Side) → room Up (record x { by = side; acts = (Up, Carries n) ∷ x.acts }) ≡ room Up (record x { by = side }) - n
    by_side Up = omega arith
    by_side Down = omega arith
carries Down n x = by_side x.by
  where
    by_side : (side : Side) → room Down (record x { by = side; acts = (Down, Carries n) ∷ x.acts }) ≡ room Down (record x { by = side }) - n
    by_side Up = omega arith
    by_side Down = omega arith

leaves : (way : Side) (n : ℕ) (x : Channel) → room (other_side way) (with_act way (Carries n) x) ≡ room (other_side way) x
leaves Up n x = by_side x.by
  where
    by_side : (side : Side) → room Down (record x { by = side; acts = (Up, Carries n) ∷ x.acts }) ≡ room Down (record x { by = side })
    by_side Up = omega arith
    by_side Down = omega arith
leaves Down n x = by_side x.by
  where
    by_side : (side : Side) → room Up (record x { by = side; acts = (Down, Carries n) ∷ x.acts }) ≡ room Up (record x { by = side })
    by_side Up = omega arith
    by_side Down = omega arith

grants : (way : Side) (n : ℕ) (x : Channel) → IsWithin (other_side way) x → room (other_side way) (with_act way (Grants n) x) ≡ room (other_side way) x + n
grants Up n x within = by_side x.by within
  where
    by_side : (side : Side) → IsWithin Down (record x { by = side }) → room Down (record x { by = side; acts = (Up, Grants n) ∷ x.acts }) ≡ room Down (record x { by = side }) + n
    by_side Up within = omega arith
    by_side Down within = omega arith
grants Down n x within = by_side x.by within
  where
    by_side : (side : Side) → IsWithin Up (record x { by = side }) → room Up (record x { by = side; acts = (Down, Grants n) ∷ x.acts }) ≡ room Up (record x { by = side }) + n
    by_side Up within = omega arith
    by_side Down within = omega arith

keeps : (way : Side) (n : ℕ) (x : Channel) → room way (with_act way (Grants n) x) ≡ room way x
keeps Up n x = by_side x.by
  where
    by_side : (side : Side) → room Up (record x { by = side; acts = (Up, Grants n) ∷ x.acts }) ≡ room Up (record x { by = side })
    by_side Up = omega arith
    by_side Down = omega arith
keeps Down n x = by_side x.by
  where
    by_side : (side : Side) → room Down (record x { by = side; acts = (Down, Grants n) ∷ x.acts }) ≡ room Down (record x { by = side })
    by_side Up = omega arith
    by_side Down = omega arith

pub rooms-go-on : (way : Side) (n : ℕ) (x : Channel) → RoomsGoOn way n x
rooms-go-on way n x = record { carries = carries way n x; leaves = leaves way n x; grants = grants way n x; keeps = keeps way n x }
