-- Where the faults of a resolution come from.
use Rattle.std.specs.Prelude.{◌≡◌, ℕ, Result, Ok, Err}
use Rattle.mux_outside.specs.Counts.{Rose}
use Rattle.conf_rules.specs.declared.causes.Cause.TheVariants as causes
use Rattle.conf_rules.specs.declared.causes.ResolveError.{ResolveError}
use Rattle.conf_rules.specs.declared.causes.ResolveError.TheVariants.{At, OutOfMemory}

-- a read fault comes only if the count of the files' faults rose, and a run fault only if the
-- runner's did; every other answer leaves both counts, out of memory too
abbrev pub HasCauses : {A : Type 0} → Result A ResolveError → ℕ → ℕ → ℕ → ℕ → Type 0
HasCauses (Ok x) files files_now runner runner_now = (files_now ≡ files) × (runner_now ≡ runner)
HasCauses (Err OutOfMemory) files files_now runner runner_now = (files_now ≡ files)
    × (runner_now ≡ runner)
HasCauses (Err (At file line causes.ReadFault)) files files_now runner runner_now =
    Rose files files_now × (runner_now ≡ runner)
HasCauses (Err (At file line causes.RunFault)) files files_now runner runner_now =
    (files_now ≡ files) × Rose runner runner_now
HasCauses (Err (At file line cause)) files files_now runner runner_now = (files_now ≡ files)
    × (runner_now ≡ runner)
