use Rattle.std.proofs.Common.{◌≡◌, refl}
use Rattle.std.proofs.lemmas.Result.{err_from_is_err_and}
use Rattle.conf_rules.specs.declared.command.Command.TheVariants as commands
use Rattle.conf_rules.specs.CommandOutcome.{Drills}
use Rattle.ssh_mux.specs.Answers.{may_have_joined, may_open_wire, may_write, so_far, touches}
use Rattle.ssh_mux.specs.Looks.{coming, coming_of_words, machine_of_sources}
use Rattle.ssh_mux.specs.Outcomes.{Certain, drills, opens}
use Rattle.ssh_mux.specs.Sharing.{pid_of}
use Rattle.ssh_mux.specs.World.{output, sockets, sources}
use Rattle.ssh_mux.proofs.DrillLemmas.{drill-touches}
use Rattle.ssh_mux.proofs.EndLemmas.{same_recorded}
use Rattle.ssh_mux.proofs.JoinLemmas.{client-looks, unlisted-client}
use Rattle.ssh_mux.proofs.MisreadLemmas.{for-read, of-drill, of-read}
use Rattle.ssh_mux.proofs.NamedLemmas.{names-forwards}
use Rattle.ssh_mux.proofs.Obeyed.{client-obeyed, drill-obeyed, list-obeyed, master-obeyed, misread-obeyed, obeyed-runs}
use Rattle.ssh_mux.proofs.PlaceLemmas.{client-recorded, list-recorded, master-recorded}
use Rattle.ssh_mux.proofs.PolicyLemmas.{are-permitted}
use Rattle.ssh_mux.proofs.RefusalLemmas.{list-looks, master-looks}
use Rattle.ssh_mux.proofs.StillLemmas.{both-shown, else-or, first-still, not_false, on_false, or-else, second-still, untouched}
use Rattle.ssh_mux.proofs.program.obey.Goals as goal

pub returns-in_err-command-clause-runs : goal.returns-in_err-command-clause-runs
returns-in_err-command-clause-runs g c = let p = err_from_is_err_and c.from_residual.result c.from_residual.ensures.1 in rw (p.1, p.2) (obeyed-runs c.args.words.now c.args.facts.now c.args.turns g.H.Asks.may g.H.Asks.state (sources g.F.Files g.R.Runner c.args.files.now c.args.runner.now) (sources g.F.Files g.R.Runner c.args.files.now c.args.runner.now) (sockets g.W.Wire g.H.Asks c.args.wire.now c.args.house.now) (sockets g.W.Wire g.H.Asks c.args.wire.now c.args.house.now) (output g.S.Sink c.args.out.now) (output g.S.Sink c.args.out.now) _ _ _ _ refl refl refl (misread-obeyed c.args.words.now (pid_of c.args.facts.now.pid) c.args.turns g.H.Asks.may g.H.Asks.state (machine_of_sources (sources g.F.Files g.R.Runner c.args.files.now c.args.runner.now) c.args.facts.now) _ (sources g.F.Files g.R.Runner c.args.files.now c.args.runner.now) (sockets g.W.Wire g.H.Asks c.args.wire.now c.args.house.now) (output g.S.Sink c.args.out.now) c.in_err-command.ensures.exact))

pub returns-in_err-command-clause-leaves : goal.returns-in_err-command-clause-leaves
returns-in_err-command-clause-leaves g c = record {
  unwritten = on_false _ _;
  unlisted = on_false _ _;
  files = on_false _ _;
  runner = on_false _ _;
  wire = on_false _ _;
  house = on_false _ _;
}
