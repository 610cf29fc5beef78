use Rattle.std.proofs.Common.{sym, ap, ◌∙◌, subst}
use Rattle.mux_state.specs.Ready.{IsEngineSound}
use Rattle.mux_state.specs.Shown.{state_of}
use Rattle.mux_state.specs.State.{EngineState, closed_by}
use Rattle.mux_state.specs.Stands.{Closes}
use Rattle.mux_state.proofs.Closes.{closes}
use Rattle.mux_state.proofs.Sound.{sound-closed}
use Rattle.mux_state.proofs.Taken.{close-written}
use Rattle.mux_state.proofs.engine.Engine.closed.Goals as goal

pub invariant_of-self : goal.invariant_of-self
invariant_of-self c =
    let parts : EngineState = state_of c.self.inside in
    subst IsEngineSound (sym (close-written parts c.args.client c.close.new.self.all c.remove.new.self c.close.new.self.leaving c.remove-2.new.self c.close.ensures.clients c.remove.ensures c.close.ensures.leaving c.remove-2.ensures)) (sound-closed parts c.args.client c.self.invariant)

pub returns-clause-stands : goal.returns-clause-stands
returns-clause-stands c =
    let parts : EngineState = state_of c.self.inside in
    subst (λ (x : EngineState). Closes c.args.self.now x c.args.client) (sym (close-written parts c.args.client c.close.new.self.all c.remove.new.self c.close.new.self.leaving c.remove-2.new.self c.close.ensures.clients c.remove.ensures c.close.ensures.leaving c.remove-2.ensures ∙ ap (λ (x : EngineState). closed_by x c.args.client) c.self.view_is)) (closes c.args.self.now c.args.client c.requires)
