-- Words without a command to obey, and the commands that were run for them.
use Rattle.std.proofs.Common.{◌≡◌, ◌⊎◌, inl, inr, ℕ, List, [], Option, Some, None, Ok, Err, refl, sym, ap, subst, arith}
use Rattle.std.proofs.lemmas.List.{append-nil}
use Rattle.conf_rules.specs.declared.command.Command.{Command}
use Rattle.conf_rules.specs.declared.command.Command.TheVariants as commands
use Rattle.conf_rules.specs.declared.usage.UsageError.{UsageError}
use Rattle.conf_rules.specs.CommandLine.{ReadCommand}
use Rattle.conf_rules.specs.Diagnostics as ends
use Rattle.conf_rules.specs.CommandOutcome.{CommandOutcome, Ends, Drills, Machine, command_execs, command_outcome}
use Rattle.conf_rules.specs.Reading.{reading}
use Rattle.conf_rules.specs.Texts.{Bytes}
use Rattle.conf_command.specs.declared.reader.WordsError.{WordsError}
use Rattle.conf_command.specs.declared.reader.WordsError.TheVariants as words_errors
use Rattle.conf_command.specs.Results.{CommandFails}
use Rattle.conf_match.specs.Evaluated.{RanAll, RanSome}
use Rattle.ssh_mux.specs.declared.status.Status.{Status}
use Rattle.ssh_mux.specs.declared.status.Status.TheVariants as statuses
use Rattle.ssh_mux.specs.Answers.{IsRunRefused}
use Rattle.ssh_mux.specs.Causes.{EndCause}
use Rattle.ssh_mux.specs.Commands.{RunsFor, commands_of, commands_for}
use Rattle.ssh_mux.specs.Ending.{ending_shown, misread_as}
use Rattle.ssh_mux.specs.Outcomes.{Certain, of_command, of_words, untold_words}
use Rattle.ssh_mux.specs.Status.{status_of}

-- ---- words without a command to obey

-- the outcome of a reading
abbrev outcome_by : Machine → ReadCommand → CommandOutcome
outcome_by m r = elim r [ Ok command ↦ command_outcome m command | Err e ↦ Ends (ends.BadWords e) ]

-- the commands that are run for it
abbrev execs_by : Machine → ReadCommand → List Bytes
execs_by m r = elim r [ Ok command ↦ command_execs m command | Err e ↦ [] ]

pub of-read : (m : Option Machine) (words : List Bytes) (command : Command) → reading words ≡ Ok command → of_words m words ≡ of_command m command
unfolding of_words of_command
of-read None words command e = ap untold_words e
of-read (Some m) words command e = ap (λ r. Certain (outcome_by m r)) e

pub for-read : (m : Option Machine) (words : List Bytes) (command : Command) → reading words ≡ Ok command → commands_for m words ≡ commands_of m command
unfolding commands_for commands_of
for-read None words command e = refl
for-read (Some m) words command e = ap (λ r. Some (execs_by m r)) e

of-refused : (m : Option Machine) (words : List Bytes) (e : UsageError) → reading words ≡ Err e → of_words m words ≡ Certain (Ends (ends.BadWords e))
unfolding of_words
of-refused None words e is = ap untold_words is
of-refused (Some m) words e is = ap (λ r. Certain (outcome_by m r)) is

pub of-drill : (m : Option Machine) (words : List Bytes) (seed clients messages : ℕ) → reading words ≡ Ok (commands.Drill seed clients messages) → of_words m words ≡ Certain (Drills seed clients messages)
unfolding of_words
of-drill None words seed clients messages is = ap untold_words is
of-drill (Some m) words seed clients messages is = ap (λ r. Certain (outcome_by m r)) is

pub misread : (m : Option Machine) (words : List Bytes) (e : WordsError) → CommandFails e (reading words) → IsRunRefused (of_words m words) (ending_shown (misread_as e))
misread m words words_errors.OutOfMemory h = tt
misread m words (words_errors.Refused e) h = subst (λ k. IsRunRefused k (ends.BadWords e)) (sym (of-refused m words e h)) refl

-- ---- commands that were run

none-more : (before : Option (List Bytes)) → RanAll before before []
none-more None = refl
none-more (Some cs) = ap (λ x. Some x) (sym (append-nil cs))

pub some-ran : (before now : Option (List Bytes)) (cs : List Bytes) → RanAll before now cs → RanSome before now cs
some-ran before now cs h = record { done = cs; others = []; parts = sym (append-nil cs); ran = h }

none-ran : (before : Option (List Bytes)) (cs : List Bytes) → RanSome before before cs
none-ran before cs = record { done = []; others = cs; parts = refl; ran = none-more before }

starved-runs : (cs : Option (List Bytes)) (before : Option (List Bytes)) → RunsFor cs statuses.Memory before before
starved-runs None before = tt
starved-runs (Some cs) before = none-ran before cs

-- where a reading reaches no command
idle-runs : (m : Option Machine) (words : List Bytes) (status : Status) (before : Option (List Bytes)) → (commands_for m words ≡ None) ⊎ (commands_for m words ≡ Some []) → RunsFor (commands_for m words) status before before
idle-runs m words status before (inl e) = subst (λ cs. RunsFor cs status before before) (sym e) tt
idle-runs m words status before (inr e) = subst (λ cs. RunsFor cs status before before) (sym e) (by_status status) where
  by_status : (s : Status) → RunsFor (Some []) s before before
  by_status statuses.Outside = none-ran before []
  by_status statuses.Memory = none-ran before []
  by_status s = none-more before

no-commands : (m : Option Machine) (words : List Bytes) (e : UsageError) → reading words ≡ Err e → (commands_for m words ≡ None) ⊎ (commands_for m words ≡ Some [])
unfolding commands_for
no-commands None words e is = inl refl
no-commands (Some m) words e is = inr (ap (λ r. Some (execs_by m r)) is)

no-drill-commands : (m : Option Machine) (words : List Bytes) (seed clients messages : ℕ) → reading words ≡ Ok (commands.Drill seed clients messages) → (commands_for m words ≡ None) ⊎ (commands_for m words ≡ Some [])
unfolding commands_for
no-drill-commands None words seed clients messages is = inl refl
no-drill-commands (Some m) words seed clients messages is = inr (ap (λ r. Some (execs_by m r)) is)

pub misread-runs : (m : Option Machine) (words : List Bytes) (e : WordsError) (before : Option (List Bytes)) → CommandFails e (reading words) → RunsFor (commands_for m words) (status_of (ending_shown (misread_as e))) before before
misread-runs m words words_errors.OutOfMemory before h = starved-runs (commands_for m words) before
misread-runs m words (words_errors.Refused e) before h = idle-runs m words statuses.Usage before (no-commands m words e h)

pub drilled-runs : (m : Option Machine) (words : List Bytes) (seed clients messages : ℕ) (status : Status) (before : Option (List Bytes)) → reading words ≡ Ok (commands.Drill seed clients messages) → RunsFor (commands_for m words) status before before
drilled-runs m words seed clients messages status before is = idle-runs m words status before (no-drill-commands m words seed clients messages is)

pub misread-cause : (e : WordsError) (f r : ℕ) → EndCause (ending_shown (misread_as e)) f f r r
misread-cause words_errors.OutOfMemory f r = (omega arith, omega arith)
misread-cause (words_errors.Refused e) f r = (refl, refl)
