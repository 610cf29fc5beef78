-- What the calls of this crate returned, and which commands they ran.
use Rattle.std.specs.Prelude.{◌≡◌, ℕ, Bool, true, false, Option, Result, Ok, Err, List}
use Rattle.std.specs.Bool.{MatchBool}
use Rattle.mux_outside.specs.Counts.{Rose}
use Rattle.conf_rules.specs.declared.causes.Cause.{Cause}
use Rattle.conf_rules.specs.declared.causes.Cause.TheVariants as causes
use Rattle.conf_rules.specs.declared.causes.TokenError.{TokenError}
use Rattle.conf_rules.specs.declared.causes.ResolveError.{ResolveError}
use Rattle.conf_rules.specs.declared.causes.ResolveError.TheVariants.{At, OutOfMemory}
use Rattle.conf_rules.specs.Diagnostics.{is_fault}
use Rattle.conf_rules.specs.Texts.{Bytes}
use Rattle.conf_match.specs.Evaluated.{RanAll, RanSome, FailsOne}
use Rattle.conf_reader.specs.declared.errors.LineError.{LineError}
use Rattle.conf_reader.specs.declared.errors.LineError.TheVariants as line_errors

-- an error is the refusal of the reading, but memory may run out at any time
abbrev pub FailsLine : {Y : Type 0} → LineError → Result Y Cause → Type 0
FailsLine line_errors.OutOfMemory reading = Unit {0}
FailsLine (line_errors.Refused cause) reading = reading ≡ Err cause

-- what was returned of a line is its reading, unless memory ran out
abbrev pub GivesLineReading : {Y : Type 0} → Result Y LineError → Result Y Cause → Type 0
GivesLineReading (Ok x) reading = reading ≡ Ok x
GivesLineReading (Err e) reading = FailsLine e reading

-- an evaluation gave what it should, unless memory or the runner failed
abbrev pub LineEvaluated : Result Bool LineError → Result Bool TokenError → Type 0
LineEvaluated (Ok b) holds = holds ≡ Ok b
LineEvaluated (Err line_errors.OutOfMemory) holds = Unit {0}
LineEvaluated (Err (line_errors.Refused (causes.Token e))) holds = holds ≡ Err e
LineEvaluated (Err (line_errors.Refused cause)) holds = is_fault cause ≡ true

-- ---- commands

-- all of these commands were run, or, where a call broke off, the first of them
abbrev pub RanUnless : Bool → Option (List Bytes) → Option (List Bytes) → List Bytes → Type 0
RanUnless broken old new commands =
    MatchBool broken (RanSome old new commands) (RanAll old new commands)

-- whether a line breaks off before its content is applied: memory or the runner failed
abbrev pub breaks_line : {A : Type 0} → Result A LineError → Bool
breaks_line (Ok x) = false
breaks_line (Err line_errors.OutOfMemory) = true
breaks_line (Err (line_errors.Refused cause)) = is_fault cause

-- the same of a refusal with its place
abbrev pub breaks_off : {A : Type 0} → Result A ResolveError → Bool
breaks_off (Ok x) = false
breaks_off (Err OutOfMemory) = true
breaks_off (Err (At file line cause)) = is_fault cause

-- where the runner failed on a line, it failed at one of these commands
abbrev pub FailsInLine : {A : Type 0} → Result A LineError → Option (List Bytes)
    → Option (List Bytes) → List Bytes → Type 0
FailsInLine (Err (line_errors.Refused causes.RunFault)) old new commands = FailsOne old new commands
FailsInLine result old new commands = Unit {0}

-- the same of a refusal with its place, which is this one
abbrev pub FailsAtLine : {A : Type 0} → Bytes → ℕ → Result A ResolveError → Option (List Bytes)
    → Option (List Bytes) → List Bytes → Type 0
FailsAtLine file number (Err (At f n causes.RunFault)) old new commands = (f ≡ file)
    × ((n ≡ number) × FailsOne old new commands)
FailsAtLine file number result old new commands = Unit {0}

-- ---- faults

-- the runner's fault comes only if its count rose, and every other answer leaves the count, out of
-- memory too
abbrev pub HasLineCause : {A : Type 0} → Result A LineError → ℕ → ℕ → Type 0
HasLineCause (Err (line_errors.Refused causes.RunFault)) before now = Rose before now
HasLineCause (Err (line_errors.Refused causes.ReadFault)) before now = ⊥
HasLineCause result before now = now ≡ before

-- the same of a refusal with its place, and no fault of files comes
abbrev pub HasRunCause : {A : Type 0} → Result A ResolveError → ℕ → ℕ → Type 0
HasRunCause (Ok x) before now = now ≡ before
HasRunCause (Err OutOfMemory) before now = now ≡ before
HasRunCause (Err (At file line causes.RunFault)) before now = Rose before now
HasRunCause (Err (At file line causes.ReadFault)) before now = ⊥
HasRunCause (Err (At file line cause)) before now = now ≡ before
