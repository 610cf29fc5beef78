use Rattle.std.proofs.Common.{Err}
use Rattle.std.proofs.lemmas.Result.{err_from_is_err_and}
use Rattle.conf_rules.specs.declared.command.Command.TheVariants as commands
use Rattle.ssh_mux.specs.Looks.{coming}
use Rattle.ssh_mux.specs.World.{output, sources}
use Rattle.ssh_mux.proofs.ClientLemmas.{asked-leaves, bad-asks-cause, bad-asks-come, bad-asks-joined, bad-asks-unjoined, client-asks, client-cause, client-comes, unasked-leaves}
use Rattle.ssh_mux.proofs.LooksLemmas.{client-placed, found-looks, looks-on}
use Rattle.ssh_mux.proofs.StillLemmas.{both-still, not_false}
use Rattle.ssh_mux.proofs.TalkLemmas.{refused-unjoined, still-joined}
use Rattle.ssh_mux.proofs.ClientLemmas.{bad-asks-placed}
use Rattle.ssh_mux.proofs.client.ask_master.Goals as goal

pub returns-in_err-path-clause-looks : goal.returns-in_err-path-clause-looks
returns-in_err-path-clause-looks g c = let p = err_from_is_err_and c.from_residual.result c.from_residual.ensures.1 in rw (p.1, p.2) (found-looks _ _ _ _ _ _ _ _ (c.in_err-path.ensures.client c.args.control))

pub returns-in_err-path-clause-leaves : goal.returns-in_err-path-clause-leaves
returns-in_err-path-clause-leaves g c = let p = err_from_is_err_and c.from_residual.result c.from_residual.ensures.1 in let f = c.in_err-path.ensures.client c.args.control in rw (p.1, p.2) (unasked-leaves _ _ _ _ _ _ (still-joined _ _ _ f.exact) (refused-unjoined _ _ f.exact))

pub returns-in_err-path-clause-untouched : goal.returns-in_err-path-clause-untouched
returns-in_err-path-clause-untouched g c = both-still _ _ _

pub returns-in_err-asks-clause-looks : goal.returns-in_err-asks-clause-looks
returns-in_err-asks-clause-looks g c = let p = err_from_is_err_and c.from_residual-in_err-asks.result c.from_residual-in_err-asks.ensures.1 in let f = c.in_ok-path.ensures.client c.args.control in rw (p.1, p.2) (looks-on _ _ _ _ _ _ _ _ (Err _) f (bad-asks-come _ c.args.asked.now c.args.control _ _ f.exact c.in_err-asks.ensures.exact) (bad-asks-placed _ _ _ _ _ _ _ c.in_err-asks.ensures.exact) (bad-asks-cause _ _ _ _ _ _ c.in_err-asks.ensures.exact f.cause))

pub returns-in_err-asks-clause-leaves : goal.returns-in_err-asks-clause-leaves
returns-in_err-asks-clause-leaves g c = let p = err_from_is_err_and c.from_residual-in_err-asks.result c.from_residual-in_err-asks.ensures.1 in let f = c.in_ok-path.ensures.client c.args.control in rw (p.1, p.2) (unasked-leaves (coming (sources g.F.Files g.R.Runner c.args.files.now c.args.runner.now) c.args.facts.now (commands.Control c.args.asked.now c.args.control)) _ _ _ _ _ (bad-asks-joined (coming (sources g.F.Files g.R.Runner c.args.files.now c.args.runner.now) c.args.facts.now (commands.Control c.args.asked.now c.args.control)) c.args.asked.now c.args.control _ _ _ f.exact c.in_err-asks.ensures.exact) (bad-asks-unjoined (coming (sources g.F.Files g.R.Runner c.args.files.now c.args.runner.now) c.args.facts.now (commands.Control c.args.asked.now c.args.control)) _ _ c.in_err-asks.ensures.exact))

pub returns-in_err-asks-clause-untouched : goal.returns-in_err-asks-clause-untouched
returns-in_err-asks-clause-untouched g c = both-still _ _ _

pub returns-clause-looks : goal.returns-clause-looks
returns-clause-looks g c = let f = c.in_ok-path.ensures.client c.args.control in looks-on _ _ _ _ _ _ _ _ c.join_and_talk.result f (client-comes _ c.args.asked.now c.args.control _ _ _ f.exact c.in_ok-asks.ensures.exact c.join_and_talk.ensures.ends) (client-placed _ _ _ _ _ _ c.join_and_talk.ensures.ends) (client-cause _ _ _ _ _ c.join_and_talk.ensures.ends f.cause)

pub returns-clause-leaves : goal.returns-clause-leaves
returns-clause-leaves g c = let f = c.in_ok-path.ensures.client c.args.control in asked-leaves (coming (sources g.F.Files g.R.Runner c.args.files.now c.args.runner.now) c.args.facts.now (commands.Control c.args.asked.now c.args.control)) c.args.asked.now c.args.control _ _ c.args.turns c.join_and_talk.result _ _ _ _ (output g.S.Sink c.args.out.now) (output g.S.Sink c.join_and_talk.new.out) f.exact c.in_ok-asks.ensures.exact c.join_and_talk.ensures.ends c.join_and_talk.ensures.joined c.join_and_talk.ensures.talked c.join_and_talk.ensures.out_cause c.join_and_talk.ensures.wire

pub returns-clause-untouched : goal.returns-clause-untouched
returns-clause-untouched g c = let f = c.in_ok-path.ensures.client c.args.control in not_false _ _ (client-asks (coming (sources g.F.Files g.R.Runner c.args.files.now c.args.runner.now) c.args.facts.now (commands.Control c.args.asked.now c.args.control)) c.args.asked.now c.args.control _ _ f.exact c.join_and_talk.ensures.ends)
