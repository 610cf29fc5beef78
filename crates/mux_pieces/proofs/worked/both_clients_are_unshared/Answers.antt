use Rattle.std.proofs.Common.{ℕ, ◌<◌, [], ◌∷◌, arith, refl}
use Rattle.mux_history.specs.Policy.{any_policy}
use Rattle.mux_history.specs.Right.{IsAdmitted}
use Rattle.mux_history.specs.Solo.{IsUnshared}
use Rattle.mux_history.specs.Worked.{open_setting, run}
use Rattle.mux_isolation.proofs.AllRuns.{isolation}
use Rattle.mux_pieces.specs.Worked.{intrusion}
use Rattle.mux_pieces.proofs.Intrusion.{is-lawful, is-right}
use Rattle.std.specs.Prelude.{reverse}
use Rattle.mux_pieces.proofs.worked.both_clients_are_unshared.Goals as goal

-- by the law, from its premises
unshared : (k : ℕ) → 0 < k → IsAdmitted k (run intrusion) → IsUnshared open_setting k (run intrusion)
unshared = isolation any_policy 42 (0 ∷ 1 ∷ 2 ∷ 3 ∷ []) [] (reverse intrusion) 0 (run intrusion) is-lawful is-right

pub returns-clause-intruder : goal.returns-clause-intruder
returns-clause-intruder c = unshared 1 (omega arith) refl

pub returns-clause-victim : goal.returns-clause-victim
returns-clause-victim c = unshared 2 (omega arith) refl
