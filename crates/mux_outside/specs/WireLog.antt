-- What a wire in memory keeps of its calls.
use Rattle.std.specs.Prelude.{◌≡◌, ◌<◌, ◌≤◌, ◌⊎◌, ℕ, Bool, true, false, [], Option, Some, None, Result, Ok, Err}
use Rattle.mux_outside.specs.Faults.{Faults, no_faults}
use Rattle.mux_outside.specs.Wire.{IsNewOwn}
use Rattle.mux_outside.specs.WireState.{WireState, nothing_called, recording}
use Rattle.mux_outside.specs.declared.file_error.FileError.{FileError}
use Rattle.mux_outside.specs.declared.file_error.FileError.TheVariants.{Failed, OutOfMemory as NoMemory}
use Rattle.mux_outside.specs.declared.own_streams.TheConstants.{LAST_OWN}

-- what is known of it, and how often something failed
pub record Logged : Type 0 where
  pub state : WireState
  pub faults : Faults

-- nothing was called
abbrev pub nothing_logged : Logged
nothing_logged = record { state = recording [] [] [] nothing_called; faults = no_faults }

-- a call of open or join succeeds exactly where it is to, unless memory runs out
abbrev pub OpensAs : Bool → Result (Unit {0}) FileError → Type 0
OpensAs opens (Ok x) = opens ≡ true
OpensAs opens (Err Failed) = opens ≡ false
OpensAs opens (Err NoMemory) = Unit {0}

-- the number of what is to be made, where one is left and it isn't to fail
abbrev pub NextOwn : Bool → ℕ → Option ℕ → Type 0
NextOwn fails last (Some n) = IsNewOwn last n × (fails ≡ false) × (last < LAST_OWN)
NextOwn fails last None = (fails ≡ true) ⊎ (LAST_OWN ≤ last)

-- whether a number was left for a listener or a stream that was to be made, and it wasn't to fail
abbrev pub MakesAs : Bool → ℕ → Result ℕ FileError → Type 0
MakesAs fails last (Ok n) = (fails ≡ false) × (last < LAST_OWN)
MakesAs fails last (Err Failed) = (fails ≡ true) ⊎ (LAST_OWN ≤ last)
MakesAs fails last (Err NoMemory) = Unit {0}
