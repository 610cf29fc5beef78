-- Which files are read, from what a resolution read.
use Rattle.std.proofs.Common.{◌≡◌, ℕ, List, Option, Some, None, Ok, Err, refl, sym, ap, subst}
use Rattle.conf_command.specs.declared.reader.WordsError.{WordsError}
use Rattle.conf_command.specs.declared.reader.WordsError.TheVariants as words_errors
use Rattle.conf_command.specs.Results.{CommandFails}
use Rattle.conf_match.specs.Evaluated.{RecordsStatus}
use Rattle.conf_reader.specs.Known.{RecordsFiles}
use Rattle.conf_reader.specs.ToRead.{ReadsSome}
use Rattle.conf_reader.proofs.ToReadLemmas.{none-read}
use Rattle.conf_resolve.specs.Readings.{Readings, ReadsAll}
use Rattle.conf_resolve.proofs.ReadingLemmas.{all-some}
use Rattle.conf_rules.specs.declared.asked.Asked.{Asked}
use Rattle.conf_rules.specs.declared.causes.Cause.TheVariants.{ReadFault, RunFault}
use Rattle.conf_rules.specs.declared.causes.ResolveError.{ResolveError}
use Rattle.conf_rules.specs.declared.causes.ResolveError.TheVariants as errors
use Rattle.conf_rules.specs.declared.command.Command.TheVariants as commands
use Rattle.conf_rules.specs.declared.usage.UsageError.{UsageError}
use Rattle.conf_rules.specs.Diagnostics.{Ending}
use Rattle.conf_rules.specs.CommandOutcome.{Machine}
use Rattle.conf_rules.specs.Reading.{reading}
use Rattle.conf_rules.specs.ReadOrder.{all_reads}
use Rattle.conf_rules.specs.Recorded.{Recorded}
use Rattle.conf_tokens.specs.Known.{known}
use Rattle.mux_outside.specs.declared.facts.Facts.{Facts}
use Rattle.mux_outside.specs.declared.pairs.Pair.{Pair}
use Rattle.mux_outside.specs.declared.statuses.CommandStatus.{CommandStatus}
use Rattle.ssh_mux.specs.declared.status.Status.{Status}
use Rattle.ssh_mux.specs.declared.status.Status.TheVariants as statuses
use Rattle.ssh_mux.specs.Ending.{ending_shown, misread_as, refused_as}
use Rattle.ssh_mux.specs.Err.{Reports}
use Rattle.ssh_mux.specs.Outcomes.{machine}
use Rattle.ssh_mux.specs.Places.{recorded_over, recorded_by_words, recorded_for}
use Rattle.ssh_mux.specs.Reads.{RunReadsFor, RunReadsUnless}
use Rattle.ssh_mux.specs.Status.{status_of}
use Rattle.ssh_mux.proofs.EndLemmas.{carried, reported}

-- a resolution that failed
refused-with : (recorded : Recorded) (e : ResolveError) (before now : Readings) → ReadsSome (all_reads recorded) before now → RunReadsFor (Some recorded) (status_of (ending_shown (refused_as e))) before now
refused-with recorded errors.OutOfMemory before now h = h
refused-with recorded (errors.At file number ReadFault) before now h = h
refused-with recorded (errors.At file number RunFault) before now h = h
refused-with recorded (errors.At file number cause) before now h = h

pub refused-reads : (files : Option (List Pair)) (ends_with : Option (List CommandStatus)) (facts : Facts) (asked : Asked) (e : ResolveError) (before now : Readings)
    → ((recorded : Recorded) → recorded.asked ≡ asked → recorded.facts ≡ known facts → RecordsFiles files recorded → RecordsStatus ends_with recorded.status → ReadsSome (all_reads recorded) before now)
    → RunReadsFor (recorded_over (machine files ends_with facts) asked) (status_of (ending_shown (refused_as e))) before now
unfolding machine
refused-reads None None facts asked e before now h = tt
refused-reads None (Some ends_with) facts asked e before now h = tt
refused-reads (Some files) None facts asked e before now h = tt
refused-reads (Some files) (Some ends_with) facts asked e before now h = refused-with _ e before now (h _ refl refl (refl, refl) refl)

-- one that gave settings
pub resolved-reads : {A : Type 0} (x : A) (files : Option (List Pair)) (ends_with : Option (List CommandStatus)) (facts : Facts) (asked : Asked) (before now : Readings)
    → ((recorded : Recorded) → recorded.asked ≡ asked → recorded.facts ≡ known facts → RecordsFiles files recorded → RecordsStatus ends_with recorded.status → ReadsAll (all_reads recorded) before now)
    → RunReadsUnless (recorded_over (machine files ends_with facts) asked) (Ok x) before now
unfolding machine
resolved-reads x None None facts asked before now h = tt
resolved-reads x None (Some ends_with) facts asked before now h = tt
resolved-reads x (Some files) None facts asked before now h = tt
resolved-reads x (Some files) (Some ends_with) facts asked before now h = h _ refl refl (refl, refl) refl

-- once all were read, any status may follow
pub all-read : {A : Type 0} (x : A) (recorded : Option Recorded) (status : Status) (before now : Readings) → RunReadsUnless recorded (Ok x) before now → RunReadsFor recorded status before now
all-read x None status before now h = tt
all-read x (Some recorded) statuses.Config before now h = all-some (all_reads recorded) before now h
all-read x (Some recorded) statuses.Outside before now h = all-some (all_reads recorded) before now h
all-read x (Some recorded) statuses.Memory before now h = all-some (all_reads recorded) before now h
all-read x (Some recorded) status before now h = h

reads-starved : (recorded : Option Recorded) (status : Status) (before now : Readings) → RunReadsFor recorded status before now → RunReadsFor recorded statuses.Memory before now
reads-starved None status before now h = tt
reads-starved (Some recorded) statuses.Config before now h = h
reads-starved (Some recorded) statuses.Outside before now h = h
reads-starved (Some recorded) statuses.Memory before now h = h
reads-starved (Some recorded) status before now h = all-some (all_reads recorded) before now h

-- after the line
pub reads_after : (recorded : Option Recorded) (status : Status) (ending : Ending) (b n : Option (List ℕ)) (f f' : ℕ) (before now : Readings) → Reports status ending b n f f' → RunReadsFor recorded (status_of ending) before now → RunReadsFor recorded status before now
reads_after recorded status ending b n f f' before now r h = carried (λ s. RunReadsFor recorded s before now) status ending (reported status ending b n f f' r) (reads-starved recorded (status_of ending) before now h) h

-- words that have no reading
starved-reads : (recorded : Option Recorded) (before : Readings) → RunReadsFor recorded statuses.Memory before before
starved-reads None before = tt
starved-reads (Some recorded) before = none-read (all_reads recorded) before before refl

none-recorded : (m : Option Machine) (words : List (List ℕ)) (e : UsageError) → reading words ≡ Err e → recorded_for m words ≡ None
unfolding recorded_for
none-recorded m words e is = ap (recorded_by_words m) is

pub misread-reads : (m : Option Machine) (words : List (List ℕ)) (e : WordsError) (before : Readings) → CommandFails e (reading words) → RunReadsFor (recorded_for m words) (status_of (ending_shown (misread_as e))) before before
misread-reads m words words_errors.OutOfMemory before h = starved-reads (recorded_for m words) before
misread-reads m words (words_errors.Refused e) before h = subst (λ t. RunReadsFor t statuses.Usage before before) (sym (none-recorded m words e h)) tt

-- words of a drill
drill-recorded : (m : Option Machine) (words : List (List ℕ)) (seed clients messages : ℕ) → reading words ≡ Ok (commands.Drill seed clients messages) → recorded_for m words ≡ None
unfolding recorded_for
drill-recorded m words seed clients messages is = ap (recorded_by_words m) is

pub drilled-reads : (m : Option Machine) (words : List (List ℕ)) (seed clients messages : ℕ) (status : Status) (before : Readings) → reading words ≡ Ok (commands.Drill seed clients messages) → RunReadsFor (recorded_for m words) status before before
drilled-reads m words seed clients messages status before is = subst (λ t. RunReadsFor t status before before) (sym (drill-recorded m words seed clients messages is)) tt
