use Rattle.std.proofs.Common.{Some, sym, ap, ◌∙◌}
use Rattle.mux_state.specs.Shown.{state_of}
use Rattle.mux_state.specs.State.{EngineState}
use Rattle.mux_state.proofs.TakingIn.{over-takes, takes-shown}
use Rattle.mux_peers.proofs.Heeding.{applies_none}
use Rattle.mux_peers.proofs.Starved.{on-err}
use Rattle.mux_state.proofs.Bounded.{short}
use Rattle.mux_state.proofs.Starved.{cut-alone, cut-shown}
use Rattle.mux_state.proofs.engine.Engine.event.Goals as goal

pub returns-in-Some-clause-takes : goal.returns-in-Some-clause-takes
returns-in-Some-clause-takes g c = over-takes g.H.Asks.may (Some c.args.asks.now) c.args.self.now c.args.e c.in-Some.cause (sym (ap (λ (x : EngineState). x.ended) c.self.view_is) ∙ c.in-Some.is)

pub returns-clause-takes : goal.returns-clause-takes
returns-clause-takes g c = takes-shown g.H.Asks.may (Some c.args.asks.now) (Some c.step.new.asks) (state_of c.self.inside) c.args.self.now (state_of c.self-2.inside) c.step.new.self c.args.e c.self.view_is c.self-2.view_is c.in_ok-step.ensures.takes

pub returns-then-self-clause-applies : goal.returns-then-self-clause-applies
returns-then-self-clause-applies g c = applies_none _ c.args.asks.now (g.H.Asks.state c.args.house.now)

pub returns-then-self-clause-cut : goal.returns-then-self-clause-cut
returns-then-self-clause-cut g c = λ mark t. cut-alone g.H.Asks.may (g.H.Asks.state c.args.house.now).recorded c.args.self.now mark

pub returns-in_err-step-clause-cut : goal.returns-in_err-step-clause-cut
returns-in_err-step-clause-cut g c = on-err c.from_residual.result (λ mark t. cut-shown g.H.Asks.may (g.H.Asks.state c.args.house.now).recorded (g.H.Asks.state c.step.new.house).recorded (state_of c.self.inside) c.args.self.now mark c.self.view_is (c.in_err-step.ensures.cut mark t))

pub returns-in-Some-clause-bounded : goal.returns-in-Some-clause-bounded
returns-in-Some-clause-bounded g c = short _

pub returns-clause-bounded : goal.returns-clause-bounded
returns-clause-bounded g c = short _
