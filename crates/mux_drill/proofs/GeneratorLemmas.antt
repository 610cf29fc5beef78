-- The lengths of messages.
use Rattle.std.proofs.Common.{ℕ, zero, suc, ◌*◌, ◌≤◌, arith}
use Rattle.mux_drill.specs.Generator.{drawn, length_of, total_length}

-- a length is at most 1,024
pub length_short : (x : ℕ) → length_of x ≤ 1024
unfolding length_of
length_short x = omega arith

-- so many of them together are short
pub total_short : (seed n : ℕ) → total_length seed n ≤ 1024 * n
total_short seed zero = omega arith
total_short seed (suc n) = omega (arith, total_short seed n, length_short (drawn seed (suc n)))
