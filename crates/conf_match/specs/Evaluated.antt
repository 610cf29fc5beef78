-- What an evaluation gave, and what it ran.
use Rattle.std.specs.Prelude.{◌≡◌, ℕ, Bool, List, ◌∷◌, ◌++◌, Option, Some, None, Result, Ok, Err}
use Rattle.std.specs.Option.{option_map}
use Rattle.mux_outside.specs.declared.statuses.CommandStatus.{CommandStatus}
use Rattle.mux_outside.specs.declared.file_error.FileError.{FileError}
use Rattle.mux_outside.specs.declared.file_error.FileError.TheVariants as file_errors
use Rattle.mux_outside.specs.Runner.{runner_status_of}
use Rattle.mux_outside.specs.Counts.{Rose}
use Rattle.conf_rules.specs.declared.causes.TokenError.{TokenError}
use Rattle.conf_rules.specs.declared.causes.TokenError.TheVariants as token_errors
use Rattle.conf_rules.specs.Results.{◌>>=◌}
use Rattle.conf_rules.specs.Texts.{Bytes}
use Rattle.conf_rules.specs.Patterns.{list_takes}
use Rattle.conf_rules.specs.Tokens.{View, fact_of, user_of}
use Rattle.conf_match.specs.declared.evaluation.EvalError.{EvalError}
use Rattle.conf_match.specs.declared.evaluation.EvalError.TheVariants.{RunFault, Token, OutOfMemory}

-- a token's error as one of an evaluation
abbrev pub evaluation_of_token : TokenError → EvalError
evaluation_of_token token_errors.OutOfMemory = OutOfMemory
evaluation_of_token e = Token e

-- a runner's error as one of an evaluation
abbrev pub evaluation_of_file : FileError → EvalError
evaluation_of_file file_errors.Failed = RunFault
evaluation_of_file file_errors.OutOfMemory = OutOfMemory

-- whether a list of patterns takes the user, or else the local user
abbrev pub takes_user : View → Bytes → Result Bool TokenError
takes_user view patterns = user_of 114 view.user view.facts.local_user >>= λ user.
    Ok (list_takes patterns user)

-- whether a list of patterns takes the local user
abbrev pub takes_local_user : View → Bytes → Result Bool TokenError
takes_local_user view patterns = fact_of 117 view.facts.local_user >>= λ user.
    Ok (list_takes patterns user)

-- a runner records that commands end with these statuses
abbrev pub RecordsStatus : Option (List CommandStatus) → (Bytes → ℕ) → Type 0
RecordsStatus None status = ⊥
RecordsStatus (Some statuses) status = status ≡ runner_status_of statuses

-- an evaluation gave what it should, unless memory or the runner failed
abbrev pub Evaluated : Result Bool EvalError → Result Bool TokenError → Type 0
Evaluated (Ok b) holds = holds ≡ Ok b
Evaluated (Err (Token e)) holds = holds ≡ Err e
Evaluated (Err e) holds = Unit {0}

-- these commands were run after those that were run before
abbrev pub RanAll : Option (List Bytes) → Option (List Bytes) → List Bytes → Type 0
RanAll old new commands = new ≡ option_map (λ cs. cs ++ commands) old

-- the first of these commands were run
pub record RanSome (old new : Option (List Bytes)) (commands : List Bytes) : Type 0 where
  pub done : List Bytes
  pub others : List Bytes
  pub parts : commands ≡ done ++ others
  pub ran : RanAll old new done

-- one of these commands could not be run, and all before it were
pub record FailsOne (old new : Option (List Bytes)) (commands : List Bytes) : Type 0 where
  pub done : List Bytes
  pub failed : Bytes
  pub others : List Bytes
  pub parts : commands ≡ done ++ failed ∷ others
  pub ran : RanAll old new done

-- where the runner failed, it failed at one of these commands
abbrev pub FailsIn : Result Bool EvalError → Option (List Bytes) → Option (List Bytes)
    → List Bytes → Type 0
FailsIn (Err RunFault) old new commands = FailsOne old new commands
FailsIn result old new commands = Unit {0}

-- the commands of an evaluation were run, or, where memory or the runner failed, the first of them
abbrev pub Ran : Result Bool EvalError → Option (List Bytes) → Option (List Bytes)
    → List Bytes → Type 0
Ran (Ok b) old new commands = RanAll old new commands
Ran (Err (Token e)) old new commands = RanAll old new commands
Ran (Err e) old new commands = RanSome old new commands

-- the count of faults rose where the runner failed, and stays with any other answer
abbrev pub HasRunnerCause : Result Bool EvalError → ℕ → ℕ → Type 0
HasRunnerCause (Err RunFault) before now = Rose before now
HasRunnerCause result before now = now ≡ before
