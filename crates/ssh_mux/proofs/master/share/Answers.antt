use Rattle.std.proofs.Common.{Err, refl, ◌∙◌}
use Rattle.std.proofs.lemmas.Result.{err_from_is_err_and}
use Rattle.conf_rules.specs.declared.command.Command.TheVariants as commands
use Rattle.conf_rules.specs.Diagnostics as ends
use Rattle.ssh_mux.specs.declared.ending.Ending.TheVariants as endings
use Rattle.ssh_mux.specs.Looks.{coming, machine_of_sources}
use Rattle.ssh_mux.specs.Places.{recorded_over}
use Rattle.ssh_mux.specs.Sharing.{pid_of}
use Rattle.ssh_mux.specs.World.{sockets, sources}
use Rattle.ssh_mux.proofs.CauseLemmas.{shared-cause}
use Rattle.ssh_mux.proofs.LooksLemmas.{found-looks, looks-on, master-placed}
use Rattle.ssh_mux.proofs.MasterLemmas.{refused-leaves, served-leaves}
use Rattle.ssh_mux.proofs.SharingLemmas.{master-comes, master-shares, pid_is}
use Rattle.ssh_mux.proofs.StillLemmas.{both-still, not_false, starved-due, still-due}
use Rattle.ssh_mux.proofs.master.share.Goals as goal

pub returns-in_err-found-clause-looks : goal.returns-in_err-found-clause-looks
returns-in_err-found-clause-looks g c = let p = err_from_is_err_and c.from_residual.result c.from_residual.ensures.1 in rw (p.1, p.2) (found-looks _ _ _ _ _ _ _ _ (c.in_err-found.ensures.master c.args.transport.now c.args.permits.now))

pub returns-in_err-found-clause-leaves : goal.returns-in_err-found-clause-leaves
returns-in_err-found-clause-leaves g c = let p = err_from_is_err_and c.from_residual.result c.from_residual.ensures.1 in rw (p.1, p.2) (refused-leaves g.H.Asks.may g.H.Asks.state (coming (sources g.F.Files g.R.Runner c.args.files.now c.args.runner.now) c.args.facts.now (commands.Master c.args.asked.now c.args.transport.now c.args.permits.now)) (recorded_over (machine_of_sources (sources g.F.Files g.R.Runner c.args.files.now c.args.runner.now) c.args.facts.now) c.args.asked.now) (pid_of c.args.facts.now.pid) c.args.turns _ (sockets g.W.Wire g.H.Asks c.args.wire.now c.args.house.now) (c.in_err-found.ensures.master c.args.transport.now c.args.permits.now).exact)

pub returns-in_err-found-clause-untouched : goal.returns-in_err-found-clause-untouched
returns-in_err-found-clause-untouched g c = both-still _ _ _

pub returns-in_err-grants-clause-looks : goal.returns-in_err-grants-clause-looks
returns-in_err-grants-clause-looks g c = let p = err_from_is_err_and c.from_residual-in_err-grants.result c.from_residual-in_err-grants.ensures.1 in let e = c.in_err-grants.ensures.err in rw (p.1, p.2, e) (looks-on _ _ _ _ _ _ _ _ (Err endings.NoMemory) (c.in_ok-found.ensures.master c.args.transport.now c.args.permits.now) (still-due (coming (sources g.F.Files g.R.Runner c.args.files.now c.args.runner.now) c.args.facts.now (commands.Master c.args.asked.now c.args.transport.now c.args.permits.now)) ends.NoMemory (starved-due (coming (sources g.F.Files g.R.Runner c.args.files.now c.args.runner.now) c.args.facts.now (commands.Master c.args.asked.now c.args.transport.now c.args.permits.now)))) (master-placed _ (Err endings.NoMemory) _ _ _ _ refl) (shared-cause (Err endings.NoMemory) _ _ _ _ refl (c.in_ok-found.ensures.master c.args.transport.now c.args.permits.now).cause))

pub returns-in_err-grants-clause-leaves : goal.returns-in_err-grants-clause-leaves
returns-in_err-grants-clause-leaves g c = let p = err_from_is_err_and c.from_residual-in_err-grants.result c.from_residual-in_err-grants.ensures.1 in let e = c.in_err-grants.ensures.err in rw (p.1, p.2, e) (refused-leaves g.H.Asks.may g.H.Asks.state (coming (sources g.F.Files g.R.Runner c.args.files.now c.args.runner.now) c.args.facts.now (commands.Master c.args.asked.now c.args.transport.now c.args.permits.now)) (recorded_over (machine_of_sources (sources g.F.Files g.R.Runner c.args.files.now c.args.runner.now) c.args.facts.now) c.args.asked.now) (pid_of c.args.facts.now.pid) c.args.turns endings.NoMemory (sockets g.W.Wire g.H.Asks c.args.wire.now c.args.house.now) (starved-due (coming (sources g.F.Files g.R.Runner c.args.files.now c.args.runner.now) c.args.facts.now (commands.Master c.args.asked.now c.args.transport.now c.args.permits.now))))

pub returns-in_err-grants-clause-untouched : goal.returns-in_err-grants-clause-untouched
returns-in_err-grants-clause-untouched g c = both-still _ _ _

pub returns-clause-looks : goal.returns-clause-looks
returns-clause-looks g c = looks-on _ _ _ _ _ _ _ _ c.begin_and_serve.result (c.in_ok-found.ensures.master c.args.transport.now c.args.permits.now) (master-comes (coming (sources g.F.Files g.R.Runner c.args.files.now c.args.runner.now) c.args.facts.now (commands.Master c.args.asked.now c.args.transport.now c.args.permits.now)) _ _ _ _ (c.in_ok-found.ensures.master c.args.transport.now c.args.permits.now).exact c.begin_and_serve.ensures.ends) (master-placed _ _ _ _ _ _ c.begin_and_serve.ensures.ends) (shared-cause _ _ _ _ _ c.begin_and_serve.ensures.ends (c.in_ok-found.ensures.master c.args.transport.now c.args.permits.now).cause)

pub returns-clause-leaves : goal.returns-clause-leaves
returns-clause-leaves g c = served-leaves g.H.Asks.may g.H.Asks.state (machine_of_sources (sources g.F.Files g.R.Runner c.args.files.now c.args.runner.now) c.args.facts.now) c.args.asked.now c.args.transport.now c.args.permits.now _ (recorded_over (machine_of_sources (sources g.F.Files g.R.Runner c.args.files.now c.args.runner.now) c.args.facts.now) c.args.asked.now) _ (pid_of c.args.facts.now.pid) c.args.turns c.begin_and_serve.result (sockets g.W.Wire g.H.Asks c.args.wire.now c.args.house.now) (sockets g.W.Wire g.H.Asks c.begin_and_serve.new.wire c.begin_and_serve.new.house) (c.in_ok-found.ensures.master c.args.transport.now c.args.permits.now).exact c.in_ok-found.ensures.settled c.begin_and_serve.ensures.ends c.begin_and_serve.ensures.opened (rw (c.in_ok-grants.ensures.policy, c.in_ok-grants.ensures.here, c.unwrap_or-pid.ensures ∙ pid_is c.args.facts.now.pid) at c.begin_and_serve.ensures.served) c.begin_and_serve.ensures.start c.begin_and_serve.ensures.must c.begin_and_serve.ensures.wire

pub returns-clause-untouched : goal.returns-clause-untouched
returns-clause-untouched g c = not_false _ _ (master-shares (coming (sources g.F.Files g.R.Runner c.args.files.now c.args.runner.now) c.args.facts.now (commands.Master c.args.asked.now c.args.transport.now c.args.permits.now)) _ _ _ _ (c.in_ok-found.ensures.master c.args.transport.now c.args.permits.now).exact c.begin_and_serve.ensures.ends)
