-- Payloads that bring no number: all but a confirmation.
use Rattle.std.proofs.Common.{◌≡◌, ℕ, List, Ok}
use Rattle.mux_history.specs.Summary.{Confirmation, Summary, read_summary}
use Rattle.mux_history.specs.Kept.{Every}
use Rattle.mux_history.proofs.Harmless.{Harmless, IsHarmless, every-of}

abbrev pub IsQuiet : Summary → Type 0
IsQuiet (Confirmation s n w m) = ⊥
IsQuiet m = Unit {0}

abbrev pub Quiet : List ℕ → Type 0
Quiet q = (m : Summary) → read_summary q ≡ Ok m → IsQuiet m

pub quiet-of : (q : List ℕ) → Harmless q → Quiet q
quiet-of q harmless m reads = by_message m (harmless m reads)
  where
    by_message : (m : Summary) → IsHarmless m → IsQuiet m
    by_message (Confirmation s n w m) h = absurd h
    by_message m h = tt

pub quiet-each : (qs : List (List ℕ)) → Every Harmless qs → Every Quiet qs
quiet-each qs each = every-of Harmless Quiet quiet-of qs each
