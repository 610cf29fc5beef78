-- How commands end, by what a runner records.
use Rattle.std.specs.Prelude.{◌≡◌, ℕ, if◌then◌else◌, List, [], ◌∷◌, Option, Some, None, Result, Ok, Err}
use Rattle.std.specs.Str.{bytes_eq}
use Rattle.mux_outside.specs.declared.file_error.FileError.{FileError}
use Rattle.mux_outside.specs.declared.statuses.CommandStatus.{CommandStatus}

-- the status of a command, of equal commands the first; a command that isn't there has 127
abbrev pub runner_status_of : List CommandStatus → List ℕ → ℕ
runner_status_of [] command = 127
runner_status_of (s ∷ ss) command =
    let later = runner_status_of ss command in
    if bytes_eq s.command command then s.status else later

-- the answer of a run
abbrev pub EndsWith : Option (List CommandStatus) → List ℕ → Result ℕ FileError → Type 0
EndsWith None command status = Unit {0}
EndsWith (Some statuses) command (Err e) = Unit {0}
EndsWith (Some statuses) command (Ok status) = status ≡ runner_status_of statuses command

-- the commands that a call has run: one that failed ran none
abbrev pub commands_run : Result ℕ FileError → List ℕ → List (List ℕ)
commands_run (Ok status) command = command ∷ []
commands_run (Err e) command = []
