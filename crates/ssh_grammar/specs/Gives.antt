-- What a reader of the code promises of what it returned.
use Rattle.std.specs.Prelude.{◌≡◌, Result, Ok, Err}

-- what was returned, seen by view, is what reading gives: that very value, or that very fault
abbrev pub Gives : {X Y E : Type 0} → (X → Y) → Result X E → Result Y E → Type 0
Gives view (Ok x) reading = reading ≡ Ok (view x)
Gives view (Err e) reading = reading ≡ Err e
