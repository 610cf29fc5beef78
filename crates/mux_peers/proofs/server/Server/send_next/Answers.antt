use Rattle.std.proofs.Common.{refl}
use Rattle.proxy_frames.specs.Steps.{with_written}
use Rattle.mux_peers.specs.State.{clients_and_queue}
use Rattle.mux_peers.proofs.Serving.{server_frame, written-rest}
use Rattle.mux_peers.proofs.server.Server.send_next.Goals as goal

pub returns-in_ok-ended-in-Frame-clause-next : goal.returns-in_ok-ended-in-Frame-clause-next
returns-in_ok-ended-in-Frame-clause-next c = server_frame (clients_and_queue c.args.clients.now c.args.core.now c.args.up.now) (clients_and_queue c.deliver.new.clients c.deliver.new.core c.deliver.new.up) c.self.inside.framer c.next.new.self (with_written c.next.new.self c.deliver.new.payload) c.args.self.now
    c.self.inside.index c.saturating_add-self-inside.result c.frame.result.now c.args.ended.now _ c.self.view_is c.requires.cuts c.requires.well c.in-Frame.ensures.answer c.in-Frame.ensures.exact c.frame.ensures.value
    (written-rest c.next.new.self c.frame.result.now c.deliver.new.payload c.frame.ensures.value c.deliver.auto.payload) refl refl c.in_ok-ended-in-Frame.ensures.receives c.in_ok-ended-in-Frame.ensures.present c.saturating_add-self-inside.ensures
