-- The lines of endings, and what was accepted of them.
use Rattle.std.proofs.Common.{◌≡◌, inr, ℕ, List, ◌++◌, Option, Result, Ok, Err, ap, subst, ◌∙◌, append_assoc}
use Rattle.std.specs.Prelude.{IsTrue, OnOk}
use Rattle.conf_rules.specs.Diagnostics as ends
use Rattle.conf_rules.specs.Diagnostics.{Ending, line_of}
use Rattle.ssh_mux.specs.declared.status.Status.{Status}
use Rattle.ssh_mux.specs.declared.status.Status.TheVariants as statuses
use Rattle.ssh_mux.specs.Err.{PutsLine, Reports, is_built}

-- two parts that were added
pub joined : {T E : Type 0} (r : Result T E) (out a b first new : List ℕ) → first ≡ out ++ a → OnOk r (new ≡ first ++ b) → OnOk r (new ≡ out ++ (a ++ b))
joined (Ok x) out a b first new e h = h ∙ (ap (λ s. s ++ b) e ∙ append_assoc out a b)
joined (Err x) out a b first new e h = tt

-- the out-of-memory line was handed over for one that is put together
pub reports_memory : (result : Status) (ending : Ending) (line : List ℕ) (before now : Option (List ℕ)) (f f' : ℕ) → IsTrue (is_built ending) → line ≡ line_of ends.NoMemory → PutsLine result statuses.Memory line before now f f' → Reports result ending before now f f'
reports_memory result ending line before now f f' built el p = inr (built, subst (λ l. PutsLine result statuses.Memory l before now f f') el p)
