-- What a sink has accepted of the bytes that it was given.
use Rattle.std.specs.Prelude.{◌≡◌, ℕ, List, ◌++◌, Result, Ok, Err, Option, Some, None}
use Rattle.mux_outside.specs.declared.file_error.FileError.{FileError}
use Rattle.mux_outside.specs.declared.file_error.FileError.TheVariants.{Failed, OutOfMemory}

-- some prefix of the bytes was accepted
pub record TookPrefix (before now bytes : List ℕ) : Type 0 where
  pub prefix : List ℕ
  pub rest : List ℕ
  pub whole : bytes ≡ prefix ++ rest
  pub taken : now ≡ before ++ prefix

-- what was accepted after a call: all bytes, if it failed a prefix, and nothing if memory ran out
abbrev pub SinkTakes : Result (Unit {0}) FileError → List ℕ → List ℕ → List ℕ → Type 0
SinkTakes (Ok x) before now bytes = now ≡ before ++ bytes
SinkTakes (Err Failed) before now bytes = TookPrefix before now bytes
SinkTakes (Err OutOfMemory) before now bytes = now ≡ before

-- the same, if it is recorded
abbrev pub TakesRecorded : Result (Unit {0}) FileError → Option (List ℕ) → Option (List ℕ)
    → List ℕ → Type 0
TakesRecorded answer None None bytes = Unit {0}
TakesRecorded answer None (Some now) bytes = ⊥
TakesRecorded answer (Some before) None bytes = ⊥
TakesRecorded answer (Some before) (Some now) bytes = SinkTakes answer before now bytes

-- a sink in memory accepts all bytes or none
abbrev pub TakesOrNothing : Result (Unit {0}) FileError → List ℕ → List ℕ → List ℕ → Type 0
TakesOrNothing (Ok x) before now bytes = now ≡ before ++ bytes
TakesOrNothing (Err e) before now bytes = now ≡ before
