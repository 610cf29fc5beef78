use Rattle.std.proofs.Common.{◌≡◌, ap, ◌∙◌}
use Rattle.mux_core.specs.State.{CoreState}
use Rattle.mux_core.specs.Settling.{client_settled}
use Rattle.mux_core.specs.Losing.{lost_clients, lost_core}
use Rattle.mux_core.proofs.Losses.{on-recorded, on-unsent}
use Rattle.mux_core.proofs.state.Core.gone.Goals as goal

pub returns-clause-unsent : goal.returns-clause-unsent
returns-clause-unsent c =
    let after : c.settle.new.self ≡ client_settled (lost_core c.args.self.now c.args.client) c.args.client =
    c.settle.ensures ∙ ap (λ (s : CoreState). client_settled s c.args.client) (c.lose.ensures ∙ ap (λ (s : CoreState). let t : CoreState = record s { clients = lost_clients c.args.client s.clients } in t) c.leave.ensures.exact) in
    on-unsent c.args.self.now c.settle.new.self c.args.client c.args.up.now c.leave.new.up c.leave.ensures.sent after

pub returns-clause-recorded : goal.returns-clause-recorded
returns-clause-recorded c =
    let after : c.settle.new.self ≡ client_settled (lost_core c.args.self.now c.args.client) c.args.client =
    c.settle.ensures ∙ ap (λ (s : CoreState). client_settled s c.args.client) (c.lose.ensures ∙ ap (λ (s : CoreState). let t : CoreState = record s { clients = lost_clients c.args.client s.clients } in t) c.leave.ensures.exact) in
    on-recorded c.args.self.now c.settle.new.self c.args.client c.args.up.now c.leave.new.up c.leave.ensures.sent after
