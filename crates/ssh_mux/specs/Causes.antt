-- The counts of faults that are the cause of endings and statuses.
use Rattle.std.specs.Prelude.{◌≡◌, ◌⊎◌, ℕ, Result, Ok, Err}
use Rattle.conf_rules.specs.declared.causes.Cause.TheVariants.{ReadFault, RunFault}
use Rattle.conf_rules.specs.declared.causes.ResolveError.TheVariants.{At}
use Rattle.conf_rules.specs.Diagnostics.{Ending, BadLine}
use Rattle.mux_outside.specs.Counts.{Rose}
use Rattle.ssh_mux.specs.declared.ending.Ending.{Ending as MeantEnding}
use Rattle.ssh_mux.specs.declared.status.Status.{Status}
use Rattle.ssh_mux.specs.declared.status.Status.TheVariants.{Outside, Write, Memory}
use Rattle.ssh_mux.specs.Ending.{ending_shown}

-- Of the counts of the files' and the runner's faults a fault raises its own alone, and any other
-- ending none.
abbrev pub EndCause : Ending → ℕ → ℕ → ℕ → ℕ → Type 0
EndCause (BadLine (At file line ReadFault)) files files' runner runner' =
    Rose files files' × (runner' ≡ runner)
EndCause (BadLine (At file line RunFault)) files files' runner runner' =
    (files' ≡ files) × Rose runner runner'
EndCause ending files files' runner runner' = (files' ≡ files) × (runner' ≡ runner)

-- the same of a call
abbrev pub Caused : {A : Type 0} → Result A MeantEnding → ℕ → ℕ → ℕ → ℕ → Type 0
Caused (Ok x) files files' runner runner' = (files' ≡ files) × (runner' ≡ runner)
Caused (Err ending) files files' runner runner' =
    EndCause (ending_shown ending) files files' runner runner'

-- one of the two counts rose, and the other stays
abbrev pub OneRose : ℕ → ℕ → ℕ → ℕ → Type 0
OneRose files files' runner runner' =
    (Rose files files' × (runner' ≡ runner)) ⊎ ((files' ≡ files) × Rose runner runner')

-- one of both counts rises with its status; with `Memory` only if memory ran out for the very
-- line of a fault; and with no other
abbrev pub FaultCause : Status → ℕ → ℕ → ℕ → ℕ → Type 0
FaultCause Outside files files' runner runner' = OneRose files files' runner runner'
FaultCause Memory files files' runner runner' =
    OneRose files files' runner runner' ⊎ ((files' ≡ files) × (runner' ≡ runner))
FaultCause status files files' runner runner' = (files' ≡ files) × (runner' ≡ runner)

-- the count of what takes the listing rises with its status alone
abbrev pub OutCause : Status → ℕ → ℕ → Type 0
OutCause Write before now = Rose before now
OutCause status before now = now ≡ before
