-- What holds of a result.
use Rattle.std.proofs.Common.{OnErr, Result, Ok, Err, rules}

-- what holds in any case holds of a failure
pub at_errors : {T E P : Type 0} (r : Result T E) → P → OnErr r P
at_errors (Ok x) p = search rules
at_errors (Err e) p = p
