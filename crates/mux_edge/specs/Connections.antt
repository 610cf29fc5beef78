-- What a look at a connection that was begun shows of its stream.
use Rattle.std.specs.Prelude.{ℕ, Bool, true, false, Result, Ok, Err, Option, Some, None}
use Rattle.mux_outside.specs.declared.turn.Turn.{Turn}
use Rattle.mux_outside.specs.declared.turn.Turn.TheVariants.{Writable, Failed}

-- it can be written to once it is made, nothing is reported before, and one that won't be has
-- failed
abbrev pub met_turn : {E : Type 0} → Result Bool E → ℕ → Option Turn
met_turn (Ok true) number = Some (Writable number)
met_turn (Ok false) number = None
met_turn (Err e) number = Some (Failed number)
