-- Where faults are recorded, from the outcome of a resolution.
use Rattle.std.proofs.Common.{◌≡◌, List, Option, Some, None, Ok, refl, ap}
use Rattle.conf_command.specs.declared.reader.WordsError.{WordsError}
use Rattle.conf_command.specs.declared.reader.WordsError.TheVariants as words_errors
use Rattle.conf_match.specs.Evaluated.{RecordsStatus}
use Rattle.conf_reader.specs.Known.{RecordsFiles}
use Rattle.conf_resolve.specs.Faults.{FailedPaths, FaultStands}
use Rattle.conf_rules.specs.declared.asked.Asked.{Asked}
use Rattle.conf_rules.specs.declared.causes.ListError.{ListError}
use Rattle.conf_rules.specs.declared.causes.ListError.TheVariants as list_errors
use Rattle.conf_rules.specs.declared.causes.ResolveError.{ResolveError}
use Rattle.conf_rules.specs.declared.causes.ResolveError.TheVariants as errors
use Rattle.conf_rules.specs.declared.command.Command.TheVariants as commands
use Rattle.conf_rules.specs.declared.control.MasterCommand.{MasterCommand}
use Rattle.conf_rules.specs.Diagnostics.{NoControlPath}
use Rattle.conf_rules.specs.CommandOutcome.{Machine}
use Rattle.conf_rules.specs.Reading.{reading}
use Rattle.conf_rules.specs.Resolution.{all_rows}
use Rattle.conf_rules.specs.Texts.{Bytes}
use Rattle.conf_rules.specs.Recorded.{Recorded}
use Rattle.conf_tokens.specs.Known.{known}
use Rattle.mux_outside.specs.declared.facts.Facts.{Facts}
use Rattle.mux_outside.specs.declared.pairs.Pair.{Pair}
use Rattle.mux_outside.specs.declared.statuses.CommandStatus.{CommandStatus}
use Rattle.ssh_mux.specs.Ending.{ending_shown, misread_as, refused_as, unlisted_as}
use Rattle.ssh_mux.specs.Outcomes.{machine}
use Rattle.ssh_mux.specs.Places.{EndPlace, recorded_over, recorded_by_words, recorded_for}
use Rattle.conf_rules.specs.declared.command.Permissions.{Permissions}

-- a resolution that failed
pub failed-place : (files : Option (List Pair)) (statuses : Option (List CommandStatus)) (facts : Facts) (asked : Asked) (e : ResolveError) (before now : Option (List Bytes)) (failed failed-now : FailedPaths)
    → ((recorded : Recorded) → recorded.asked ≡ asked → recorded.facts ≡ known facts → RecordsFiles files recorded → RecordsStatus statuses recorded.status → FaultStands recorded (all_rows recorded) e before now failed failed-now)
    → EndPlace (recorded_over (machine files statuses facts) asked) (ending_shown (refused_as e)) before now failed failed-now
unfolding machine
failed-place None None facts asked e before now failed failed-now f = tt
failed-place None (Some statuses) facts asked e before now failed failed-now f = tt
failed-place (Some files) None facts asked e before now failed failed-now f = tt
failed-place (Some files) (Some statuses) facts asked errors.OutOfMemory before now failed failed-now f = tt
failed-place (Some files) (Some statuses) facts asked (errors.At file number cause) before now failed failed-now f = f _ refl refl (refl, refl) refl

-- a listing that failed
pub unlisted-place : (recorded : Option Recorded) (e : ListError) (before now : Option (List Bytes)) (failed failed-now : FailedPaths) → EndPlace recorded (ending_shown (unlisted_as e)) before now failed failed-now
unlisted-place None e before now failed failed-now = tt
unlisted-place (Some recorded) (list_errors.Token key error) before now failed failed-now = tt
unlisted-place (Some recorded) list_errors.OutOfMemory before now failed failed-now = tt

-- words that have no reading
pub misread-place : (recorded : Option Recorded) (e : WordsError) (before now : Option (List Bytes)) (failed failed-now : FailedPaths) → EndPlace recorded (ending_shown (misread_as e)) before now failed failed-now
misread-place None e before now failed failed-now = tt
misread-place (Some recorded) (words_errors.Refused e) before now failed failed-now = tt
misread-place (Some recorded) words_errors.OutOfMemory before now failed failed-now = tt

-- what is recorded of words that ask for a listing, for a master or for a client
pub list-recorded : (m : Option Machine) (words : List Bytes) (asked : Asked) → reading words ≡ Ok (commands.List asked) → recorded_for m words ≡ recorded_over m asked
unfolding recorded_for
list-recorded m words asked e = ap (recorded_by_words m) e

pub master-recorded : (m : Option Machine) (words : List Bytes) (asked : Asked) (transport : Bytes) (permits : Permissions) → reading words ≡ Ok (commands.Master asked transport permits) → recorded_for m words ≡ recorded_over m asked
unfolding recorded_for
master-recorded m words asked transport permits e = ap (recorded_by_words m) e

pub client-recorded : (m : Option Machine) (words : List Bytes) (asked : Asked) (what : MasterCommand) → reading words ≡ Ok (commands.Control asked what) → recorded_for m words ≡ recorded_over m asked
unfolding recorded_for
client-recorded m words asked what e = ap (recorded_by_words m) e

-- settings without a control path
pub unset-place : (recorded : Option Recorded) (before now : Option (List Bytes)) (failed failed-now : FailedPaths) → EndPlace recorded NoControlPath before now failed failed-now
unset-place None before now failed failed-now = tt
unset-place (Some recorded) before now failed failed-now = tt
