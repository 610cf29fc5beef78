use Rattle.std.proofs.Common.{true, false, refl}
use Rattle.mux_state.specs.Shown.{state_of}
use Rattle.mux_state.proofs.Taken.{goes-take, sound-take, take-parts}
use Rattle.mux_state.proofs.engine.Engine.took.Goals as goal

pub invariant_of-self : goal.invariant_of-self
invariant_of-self c = sound-take (state_of c.self.inside) c.args.stream c.args.n c.take.new.clients c.take.new.up c.take.result c.remove.new.self c.self.invariant
    (take-parts _ _ _ _ _ _ true _ c.take.ensures.up c.take.ensures.clients c.take.ensures.leaving c.take.ensures.left c.if-take.true c.remove.ensures)

pub invariant_of-self-else-take : goal.invariant_of-self-else-take
invariant_of-self-else-take c = sound-take (state_of c.self.inside) c.args.stream c.args.n c.take.new.clients c.take.new.up c.take.result c.self.inside.waiting c.self.invariant
    (take-parts _ _ _ _ _ _ false _ c.take.ensures.up c.take.ensures.clients c.take.ensures.leaving c.take.ensures.left c.if-take.false refl)

pub returns-then-take-clause-stands : goal.returns-then-take-clause-stands
returns-then-take-clause-stands c = goes-take c.args.self.now (state_of c.self.inside) c.args.stream c.args.n c.take.new.clients c.take.new.up c.take.result c.remove.new.self c.self.view_is
    (take-parts _ _ _ _ _ _ true _ c.take.ensures.up c.take.ensures.clients c.take.ensures.leaving c.take.ensures.left c.if-take.true c.remove.ensures)

pub returns-else-take-clause-stands : goal.returns-else-take-clause-stands
returns-else-take-clause-stands c = goes-take c.args.self.now (state_of c.self.inside) c.args.stream c.args.n c.take.new.clients c.take.new.up c.take.result c.self.inside.waiting c.self.view_is
    (take-parts _ _ _ _ _ _ false _ c.take.ensures.up c.take.ensures.clients c.take.ensures.leaving c.take.ensures.left c.if-take.false refl)
