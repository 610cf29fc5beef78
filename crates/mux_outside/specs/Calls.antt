-- Which calls of an object in memory fail.
use Rattle.std.specs.Prelude.{◌≡◌, ◌↔◌, ℕ, List, IsTrue, IsErrOf, Result, Ok, Err}
use Rattle.mux_outside.specs.Counts.{counted}
use Rattle.mux_outside.specs.declared.file_error.FileError.{FileError}
use Rattle.mux_outside.specs.declared.file_error.FileError.TheVariants.{Failed, OutOfMemory}
use Rattle.mux_outside.specs.Streams.{among}

-- the call after so many calls fails exactly where its number is among those that fail
abbrev pub FailsByNumber : {X : Type 0} → Result X FileError → ℕ → List ℕ → Type 0
FailsByNumber answer calls fails = IsErrOf answer Failed ↔ IsTrue (among (counted calls) fails)

-- how many calls were counted after a call: one for which there was no memory isn't counted
abbrev pub calls_after : {X : Type 0} → Result X FileError → ℕ → ℕ
calls_after (Ok x) calls = counted calls
calls_after (Err Failed) calls = counted calls
calls_after (Err OutOfMemory) calls = calls

-- The same where a call that fails is noted: it answers Failed only if its number is among those
-- that fail, and then always, unless memory runs out.
abbrev pub FailsWhereNoted : {X : Type 0} → Result X FileError → ℕ → List ℕ → Type 0
FailsWhereNoted (Err OutOfMemory) calls fails = Unit {0}
FailsWhereNoted answer calls fails = FailsByNumber answer calls fails

-- a call is counted, where there was memory for it, and which calls fail stays
pub record CountsCall {X : Type 0} (answer : Result X FileError) (calls now : ℕ)
    (fails fails_now : List ℕ) : Type 0 where
  pub counted_so : now ≡ calls_after answer calls
  pub same_fail : fails_now ≡ fails
