-- Numbers of which no two are the same.
use Rattle.std.proofs.Common.{◌≡◌, ℕ, false, List, [], ◌∷◌}
use Rattle.mux_outside.specs.Streams.{among}

abbrev pub Apart : List ℕ → Type 0
Apart [] = Unit {0}
Apart (n ∷ ns) = (among n ns ≡ false) × Apart ns
