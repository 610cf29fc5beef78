-- Counts, which never fall, and stay at the end of their type.
use Rattle.std.specs.Prelude.{◌≡◌, ℕ, ◌+◌, ◌-◌, ◌^◌, ◌≤◌, min, Result, Ok, Err}
use Rattle.mux_outside.specs.declared.file_error.FileError.{FileError}
use Rattle.mux_outside.specs.declared.file_error.FileError.TheVariants.{Failed, OutOfMemory}

-- a count after one more
abbrev pub counted : ℕ → ℕ
counted count = min (count + 1) (2 ^ 64 - 1)

-- a count rose, or stands at the end of its type
pub record Rose (before now : ℕ) : Type 0 where
  pub later : before ≤ now
  pub rose : counted before ≤ now

-- the count after a call: it rose where the call failed, and stays with any other answer
abbrev pub HasCause : {X : Type 0} → Result X FileError → ℕ → ℕ → Type 0
HasCause (Ok x) before now = now ≡ before
HasCause (Err Failed) before now = Rose before now
HasCause (Err OutOfMemory) before now = now ≡ before
