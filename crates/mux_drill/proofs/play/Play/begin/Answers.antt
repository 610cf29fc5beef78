use Rattle.std.proofs.Common.{◌≡◌, refl, true, arith}
use Rattle.std.proofs.lemmas.Grind.{common_steps}
use Rattle.mux_drill.specs.Play.{is_met}
use Rattle.mux_drill.proofs.StepLemmas.{begin_fits, begin_owns}
use Rattle.mux_drill.proofs.play.Play.begin.Goals as goal

pub returns-clause-fits : goal.returns-clause-fits
returns-clause-fits c =
    let play = c.args.self.now in
    let met : c.is_met.result ≡ true = grind (arith, common_steps) in
    let is : is_met c.in-Ok.step c.args.log.now.state.seen play.unread ≡ true = cc (met, c.is_met.ensures) in
    begin_fits c.in-Ok.step c.args.log.now.state.seen play.unread play.picks c.at.result.now play.trace.plan play.trace.stage _ c.in-Ok.ensures.exact is refl

pub returns-clause-own_turn : goal.returns-clause-own_turn
returns-clause-own_turn c =
    let met : c.is_met.result ≡ true = grind (arith, common_steps) in
    let is : is_met c.in-Ok.step c.args.log.now.state.seen c.args.self.now.unread ≡ true = cc (met, c.is_met.ensures) in
    begin_owns c.in-Ok.step c.args.log.now.state.seen c.args.self.now.unread is
