use Rattle.house_forward.specs.ForwardingState.{forwarding_state_of}
use Rattle.house_forward.specs.State.{held_in}
use Rattle.house_forward.proofs.Leading.{next-receives}
use Rattle.house_forward.proofs.forwarder_state.ForwarderState.receive.Goals as goal

pub returns-in_ok-receive_frame-in-Frame-clause-receives :
    goal.returns-in_ok-receive_frame-in-Frame-clause-receives
returns-in_ok-receive_frame-in-Frame-clause-receives c =
    let now = c.args.self.now in
    next-receives c.next.result now.relays.all.items now.framer c.next.new.self now.stage (forwarding_state_of now.rules now.greeted now.forwardings now.asks)
    (held_in c.receive_frame.new.self)
    c.next.ensures.answer c.in-Frame.is c.next.ensures.exact c.in_ok-receive_frame-in-Frame.ensures.receives
