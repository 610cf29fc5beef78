-- What the calls of this crate returned.
use Rattle.std.specs.Prelude.{◌≡◌, ℕ, Bool, true, false, Result, Ok, Err}
use Rattle.std.specs.Bool.{MatchBool}
use Rattle.mux_outside.specs.declared.file_error.FileError.{FileError}
use Rattle.mux_outside.specs.declared.file_error.FileError.TheVariants as file_errors
use Rattle.mux_outside.specs.Counts.{Rose}
use Rattle.conf_rules.specs.declared.causes.Cause.{Cause}
use Rattle.conf_rules.specs.declared.causes.Cause.TheVariants as causes
use Rattle.conf_rules.specs.declared.causes.LexError.{LexError}
use Rattle.conf_rules.specs.declared.causes.LexError.TheVariants as lex_errors
use Rattle.conf_rules.specs.declared.causes.ValueError.{ValueError}
use Rattle.conf_rules.specs.declared.causes.ValueError.TheVariants as value_errors
use Rattle.conf_rules.specs.declared.causes.MatchError.{MatchError}
use Rattle.conf_rules.specs.declared.causes.MatchError.TheVariants as match_errors
use Rattle.conf_rules.specs.declared.causes.TokenError.{TokenError}
use Rattle.conf_rules.specs.declared.causes.TokenError.TheVariants as token_errors
use Rattle.conf_rules.specs.declared.causes.ResolveError.{ResolveError}
use Rattle.conf_rules.specs.declared.causes.ResolveError.TheVariants.{At, OutOfMemory}
use Rattle.conf_rules.specs.Diagnostics.{is_fault}
use Rattle.conf_rules.specs.Texts.{Bytes}
use Rattle.conf_match.specs.declared.evaluation.EvalError.{EvalError}
use Rattle.conf_match.specs.declared.evaluation.EvalError.TheVariants as eval_errors
use Rattle.conf_reader.specs.declared.errors.LineError.{LineError}
use Rattle.conf_reader.specs.declared.errors.LineError.TheVariants as line_errors

-- a lexer's error as one of a line
abbrev pub of_lex : LexError → LineError
of_lex lex_errors.OutOfMemory = line_errors.OutOfMemory
of_lex e = line_errors.Refused (causes.Lex e)

-- a value's error as one of a line
abbrev pub of_value : ValueError → LineError
of_value value_errors.OutOfMemory = line_errors.OutOfMemory
of_value e = line_errors.Refused (causes.Value e)

-- a criterion's error as one of a line
abbrev pub of_match : MatchError → LineError
of_match match_errors.OutOfMemory = line_errors.OutOfMemory
of_match e = line_errors.Refused (causes.Match e)

-- an evaluation's error as one of a line
abbrev pub of_eval : EvalError → LineError
of_eval eval_errors.OutOfMemory = line_errors.OutOfMemory
of_eval (eval_errors.Token e) = line_errors.Refused (causes.Token e)
of_eval eval_errors.RunFault = line_errors.Refused causes.RunFault

-- a token's error as one of a line
abbrev pub of_token : TokenError → LineError
of_token token_errors.OutOfMemory = line_errors.OutOfMemory
of_token e = line_errors.Refused (causes.Token e)

-- an error of files as one of a line
abbrev pub of_file : FileError → LineError
of_file file_errors.Failed = line_errors.Refused causes.ReadFault
of_file file_errors.OutOfMemory = line_errors.OutOfMemory

-- whether a line's error is a fault of the outside
abbrev pub is_line_fault : LineError → Bool
is_line_fault line_errors.OutOfMemory = false
is_line_fault (line_errors.Refused cause) = is_fault cause

-- a fault is one of reading, and comes only where the files' count rose; every other cause leaves
-- it
abbrev pub IsFilesCause : Cause → ℕ → ℕ → Type 0
IsFilesCause cause before now = MatchBool (is_fault cause) ((cause ≡ causes.ReadFault)
    × Rose before now) (now ≡ before)

-- the same of a line's reading
abbrev pub HasReadCause : {A : Type 0} → Result A LineError → ℕ → ℕ → Type 0
HasReadCause (Ok x) before now = now ≡ before
HasReadCause (Err line_errors.OutOfMemory) before now = now ≡ before
HasReadCause (Err (line_errors.Refused cause)) before now = IsFilesCause cause before now

-- the same of a call that may refuse
abbrev pub HasFilesCause : {A : Type 0} → Result A ResolveError → ℕ → ℕ → Type 0
HasFilesCause (Ok x) before now = now ≡ before
HasFilesCause (Err OutOfMemory) before now = now ≡ before
HasFilesCause (Err (At file line cause)) before now = IsFilesCause cause before now

-- the refusal of a line of a file, unless memory ran out
abbrev pub RefusesLine : LineError → Bytes → ℕ → ResolveError → Type 0
RefusesLine line_errors.OutOfMemory file line error = error ≡ OutOfMemory
RefusesLine (line_errors.Refused cause) file line OutOfMemory = Unit {0}
RefusesLine (line_errors.Refused cause) file line (At f l c) = At f l c ≡ At file line cause

-- the same where the path of the file is given away for it, which wants no memory
abbrev pub resolve_error_at : LineError → Bytes → ℕ → ResolveError
resolve_error_at line_errors.OutOfMemory file line = OutOfMemory
resolve_error_at (line_errors.Refused cause) file line = At file line cause

-- whether a refusal reports that a command failed to run
abbrev pub is_run_fault : ResolveError → Bool
is_run_fault (At file line causes.RunFault) = true
is_run_fault e = false

-- whether a refusal is a fault of the outside
abbrev pub is_fault_at : ResolveError → Bool
is_fault_at OutOfMemory = false
is_fault_at (At file line cause) = is_fault cause
