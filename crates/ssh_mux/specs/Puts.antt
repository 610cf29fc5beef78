-- How often bytes were handed over.
use Rattle.std.specs.Prelude.{◌≡◌, ◌⊎◌, ℕ, Bool, true, false}
use Rattle.conf_rules.specs.CommandOutcome.{Writes, Drills}
use Rattle.mux_outside.specs.Counts.{counted}
use Rattle.ssh_mux.specs.declared.status.Status.{Status}
use Rattle.ssh_mux.specs.declared.status.Status.TheVariants.{Done, Write, Memory}
use Rattle.ssh_mux.specs.Outcomes.{KnownCommand, Certain, Listing}

-- whether a listing or the summary of a drill may be written
abbrev pub prints : KnownCommand → Bool
prints (Certain (Writes text)) = true
prints (Certain (Drills seed clients messages)) = true
prints Listing = true
prints other = false

-- how many calls of `put` there were: one where a text was handed over or that failed, one or none
-- if memory ran out, and else none
abbrev pub PutsOnce : Status → ℕ → ℕ → Type 0
PutsOnce Done before now = now ≡ counted before
PutsOnce Write before now = now ≡ counted before
PutsOnce Memory before now = (now ≡ before) ⊎ (now ≡ counted before)
PutsOnce status before now = now ≡ before
