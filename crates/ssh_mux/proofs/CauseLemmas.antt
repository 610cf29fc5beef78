-- The counts of faults, and the commands, of a call and of what is made of its answer.
use Rattle.std.proofs.Common.{◌≡◌, inl, inr, ℕ, true, List, Option, Some, None, Result, Ok, Err, refl, sym, subst}
use Rattle.conf_rules.specs.declared.asked.Asked.{Asked}
use Rattle.conf_rules.specs.declared.command.Command.{Command}
use Rattle.conf_rules.specs.declared.causes.Cause.TheVariants.{ReadFault, RunFault}
use Rattle.conf_rules.specs.declared.causes.ListError.{ListError}
use Rattle.conf_rules.specs.declared.causes.ListError.TheVariants as list_errors
use Rattle.conf_rules.specs.declared.causes.ResolveError.{ResolveError}
use Rattle.conf_rules.specs.declared.causes.ResolveError.TheVariants.{At, OutOfMemory}
use Rattle.conf_rules.specs.Diagnostics as ends
use Rattle.conf_rules.specs.Diagnostics.{Ending}
use Rattle.conf_rules.specs.CommandOutcome.{Machine, recorded_of, command_execs}
use Rattle.conf_rules.specs.Resolution.{execs}
use Rattle.conf_rules.specs.Texts.{Bytes}
use Rattle.conf_fold.specs.Results.{RanUnless, breaks_off}
use Rattle.conf_match.specs.Evaluated.{RanAll}
use Rattle.conf_options.specs.Kept.{Given}
use Rattle.conf_resolve.specs.Causes.{HasCauses}
use Rattle.mux_outside.specs.declared.facts.Facts.{Facts}
use Rattle.mux_outside.specs.declared.pairs.Pair.{Pair}
use Rattle.mux_outside.specs.declared.statuses.CommandStatus.{CommandStatus}
use Rattle.ssh_mux.specs.declared.ending.Ending.{Ending as MeantEnding}
use Rattle.ssh_mux.specs.declared.ending.Ending.TheVariants as endings
use Rattle.ssh_mux.specs.declared.status.Status.{Status}
use Rattle.ssh_mux.specs.declared.status.Status.TheVariants as statuses
use Rattle.ssh_mux.specs.Answers.{may_write, so_far}
use Rattle.ssh_mux.specs.Causes.{EndCause, Caused, FaultCause}
use Rattle.ssh_mux.specs.Commands.{RunsFor, RunsUnless, commands_of}
use Rattle.ssh_mux.specs.Ending.{ending_shown, refused_as, unlisted_as}
use Rattle.ssh_mux.specs.Master.{EndsMaster}
use Rattle.ssh_mux.specs.Outcomes.{machine, machine_of}
use Rattle.ssh_mux.specs.Status.{status_of}
use Rattle.ssh_mux.proofs.RefusalLemmas.{Promise}
use Rattle.ssh_mux.proofs.MisreadLemmas.{some-ran}

-- ---- counts

-- of a configuration that is refused
pub refused-cause : (e : ResolveError) (f f' r r' : ℕ) → HasCauses {A = List Given} (Err e) f f' r r' → EndCause (ending_shown (refused_as e)) f f' r r'
refused-cause OutOfMemory f f' r r' h = h
refused-cause (At file line ReadFault) f f' r r' h = h
refused-cause (At file line RunFault) f f' r r' h = h
refused-cause (At file line cause) f f' r r' h = h

-- of settings that can't be listed
pub unlisted-cause : (e : ListError) (f f' r r' : ℕ) → (f' ≡ f) × (r' ≡ r) → EndCause (ending_shown (unlisted_as e)) f f' r r'
unlisted-cause list_errors.OutOfMemory f f' r r' h = h
unlisted-cause (list_errors.Token key error) f f' r r' h = h

-- of a listing that was handed over
pub written-cause : (result : Result Status MeantEnding) (f f' r r' : ℕ) → may_write (so_far result) ≡ true → (f' ≡ f) × (r' ≡ r) → Caused result f f' r r'
written-cause (Ok status) f f' r r' e h = h
written-cause (Err (endings.BadLine file line ReadFault)) f f' r r' e h = absurd cc
written-cause (Err (endings.BadLine file line RunFault)) f f' r r' e h = absurd cc
written-cause (Err ending) f f' r r' e h = h

-- of a master that was opened
pub shared-cause : (result : Result Status MeantEnding) (f f' r r' : ℕ) → EndsMaster result → (f' ≡ f) × (r' ≡ r) → Caused result f f' r r'
shared-cause (Ok status) f f' r r' e h = h
shared-cause (Err (endings.BadLine file line ReadFault)) f f' r r' e h = absurd cc
shared-cause (Err (endings.BadLine file line RunFault)) f f' r r' e h = absurd cc
shared-cause (Err ending) f f' r r' e h = h

-- of a status
pub fault-cause : (ending : Ending) (f f' r r' : ℕ) → EndCause ending f f' r r' → FaultCause (status_of ending) f f' r r'
fault-cause (ends.BadLine (At file line ReadFault)) f f' r r' h = inl h
fault-cause (ends.BadLine (At file line RunFault)) f f' r r' h = inr h
fault-cause (ends.BadLine (At file line cause)) f f' r r' h = h
fault-cause (ends.BadLine OutOfMemory) f f' r r' h = inr h
fault-cause (ends.BadListing list_errors.OutOfMemory) f f' r r' h = inr h
fault-cause (ends.BadListing (list_errors.Token key error)) f f' r r' h = h
fault-cause ends.NoMemory f f' r r' h = inr h
fault-cause ending f f' r r' h = h

-- where there was no memory for its line
pub fault-later : (status : Status) (f f' r r' : ℕ) → FaultCause status f f' r r' → FaultCause statuses.Memory f f' r r'
fault-later statuses.Outside f f' r r' h = inl h
fault-later statuses.Memory f f' r r' h = h
fault-later status f f' r r' h = inr h

-- ---- commands

-- the commands that the lines of what is asked reach, if the machine is recorded
abbrev pub Reaches : Command → Asked → Type 0
Reaches command asked = (m : Machine) → command_execs m command ≡ execs (recorded_of m asked)

ran-refused : (e : ResolveError) (commands : List Bytes) (before now : Option (List Bytes)) → RanUnless (breaks_off {A = List Given} (Err e)) before now commands → RunsFor (Some commands) (status_of (ending_shown (refused_as e))) before now
ran-refused OutOfMemory commands before now h = h
ran-refused (At file line ReadFault) commands before now h = h
ran-refused (At file line RunFault) commands before now h = h
ran-refused (At file line cause) commands before now h = h

pub refused-runs : (files : Option (List Pair)) (ends_with : Option (List CommandStatus)) (facts : Facts) (asked : Asked) (command : Command) (e : ResolveError) (before now : Option (List Bytes)) → Reaches command asked → Promise files ends_with facts asked (λ recorded. RanUnless (breaks_off {A = List Given} (Err e)) before now (execs recorded)) → RunsFor (commands_of (machine files ends_with facts) command) (status_of (ending_shown (refused_as e))) before now
unfolding commands_of machine
refused-runs None ends_with facts asked command e before now is h = tt
refused-runs (Some files) None facts asked command e before now is h = tt
refused-runs (Some files) (Some ends_with) facts asked command e before now is h =
    let m = machine_of files ends_with facts in
    subst (λ cs. RunsFor (Some cs) (status_of (ending_shown (refused_as e))) before now) (sym (is m)) (ran-refused e (execs (recorded_of m asked)) before now (h (recorded_of m asked) refl refl (refl, refl) refl))

pub resolved-runs : {A : Type 0} (x : A) (files : Option (List Pair)) (ends_with : Option (List CommandStatus)) (facts : Facts) (asked : Asked) (command : Command) (before now : Option (List Bytes)) → Reaches command asked → Promise files ends_with facts asked (λ recorded. RanAll before now (execs recorded)) → RunsUnless (commands_of (machine files ends_with facts) command) (Ok x) before now
unfolding commands_of machine
resolved-runs x None ends_with facts asked command before now is h = tt
resolved-runs x (Some files) None facts asked command before now is h = tt
resolved-runs x (Some files) (Some ends_with) facts asked command before now is h =
    let m = machine_of files ends_with facts in
    subst (λ cs. RanAll before now cs) (sym (is m)) (h (recorded_of m asked) refl refl (refl, refl) refl)

-- once all were run, any status may follow
pub all-ran : {A : Type 0} (x : A) (commands : Option (List Bytes)) (status : Status) (before now : Option (List Bytes)) → RunsUnless commands (Ok x) before now → RunsFor commands status before now
all-ran x None status before now h = tt
all-ran x (Some cs) statuses.Outside before now h = some-ran before now cs h
all-ran x (Some cs) statuses.Memory before now h = some-ran before now cs h
all-ran x (Some cs) status before now h = h

pub runs-starved : (commands : Option (List Bytes)) (status : Status) (before now : Option (List Bytes)) → RunsFor commands status before now → RunsFor commands statuses.Memory before now
runs-starved None status before now h = tt
runs-starved (Some cs) statuses.Outside before now h = h
runs-starved (Some cs) statuses.Memory before now h = h
runs-starved (Some cs) status before now h = some-ran before now cs h
