-- The greeting of a forwarder: what it sends first as a client.
use Rattle.std.specs.Prelude.{◌≡◌, List, [], ◌∷◌}
use Rattle.mux_outside.specs.HouseCalls.{HouseCall, Marks}
use Rattle.mux_outside.specs.declared.house_mark.HouseMark.TheVariants.{HouseSaid}
use Rattle.mux_outside.specs.declared.greeting.TheConstants.{GREETING}

-- the first piece that was sent, if any was, is the greeting
abbrev pub GreetsFirst : List HouseCall → Type 0
GreetsFirst [] = Unit {0}
GreetsFirst (Marks (HouseSaid bytes) ∷ later) = bytes ≡ GREETING.now
GreetsFirst (call ∷ later) = GreetsFirst later
