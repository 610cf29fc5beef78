use Rattle.std.proofs.Common.{◌∙◌, sym}
use Rattle.house_forward.specs.ForwardingState.{forwarding_state_of}
use Rattle.house_forward.proofs.Going.{on-ok}
use Rattle.house_forward.proofs.Leading.{grants-frame, proxy-frame}
use Rattle.house_forward.proofs.forwarder_state.ForwarderState.receive_frame.Goals as goal

pub returns-then-grants-clause-receives : goal.returns-then-grants-clause-receives
returns-then-grants-clause-receives c =
    let now = c.args.self.now in
    grants-frame now.framer.current c.content.result.now now.relays.all.items now.framer c.switch.new.self now.stage
    (forwarding_state_of now.rules now.greeted now.forwardings now.asks) c.in-Control.is c.content.ensures
    (sym c.grants.ensures ∙ c.if-grants.true) c.switch.ensures.exact

pub returns-in-Proxy-clause-receives : goal.returns-in-Proxy-clause-receives
returns-in-Proxy-clause-receives c =
    let now = c.args.self.now in
    on-ok c.receive.result (λ goes. proxy-frame now.framer.current c.content-in-Proxy.result.now now.relays now.forwardings now.asks
    c.receive.new.relays c.receive.new.forwardings c.receive.new.asks now.framer now.stage now.rules now.greeted
    c.in-Proxy.is c.content-in-Proxy.ensures goes) c.receive.ensures.goes
