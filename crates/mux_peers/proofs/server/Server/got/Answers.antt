use Rattle.std.proofs.Common.{◌≡◌, ◌++◌, None, not, ap, ◌∙◌, subst, Option, true}
use Rattle.proxy_frames.specs.State.{FramerState}
use Rattle.mux_history.specs.declared.ended.Ended.{Ended}
use Rattle.mux_peers.specs.State.{clients_and_queue}
use Rattle.mux_peers.specs.Server.{ReceivingAll, ServerState}
use Rattle.mux_peers.proofs.Serving.{server_of}
use Rattle.mux_peers.proofs.ServerPieces.{receiving-first, receiving-goes, none-then, turn}
use Rattle.mux_peers.proofs.server.Server.got.Goals as goal

pub loop-self-init : goal.loop-self-init
loop-self-init c = record {
  receiving = receiving-first (c.args.self.now.rest ++ c.args.bytes.now) (clients_and_queue c.args.clients.now c.args.core.now c.args.up.now) c.args.self.now (server_of c.push.new.self c.self.inside.index)
      (ap (λ (f : FramerState). f.framing) c.in_ok-push.ensures.ok ∙ ap (λ (s : ServerState). s.framing) c.self.view_is)
      (ap (λ (f : FramerState). f.fault) c.in_ok-push.ensures.ok ∙ (ap (λ (s : ServerState). s.fault) c.self.view_is ∙ c.requires.well))
      (ap (λ (f : FramerState). f.rest) c.in_ok-push.ensures.ok ∙ ap (λ (s : ServerState). s.rest ++ c.args.bytes.now) c.self.view_is)
      (ap (λ (s : ServerState). s.index) c.self.view_is);
  room = c.requires.room;
}

pub loop-self-preserved : goal.loop-self-preserved
loop-self-preserved c =
    let on : c.loop-self.ended ≡ None = none-then c.loop-self.ended (c.is_none.ensures ∙ ap not c.loop-self-test.true) in
    record {
      receiving = receiving-goes (c.args.self.now.rest ++ c.args.bytes.now) (clients_and_queue c.args.clients.now c.args.core.now c.args.up.now) (clients_and_queue c.loop-self.clients c.loop-self.core c.loop-self.up) (clients_and_queue c.send_next.new.clients c.send_next.new.core c.send_next.new.up)
          c.args.self.now c.loop-self.self c.send_next.new.self c.send_next.new.ended c.in_ok-send_next.ensures.policy
          (subst (λ (o : Option Ended). ReceivingAll (c.args.self.now.rest ++ c.args.bytes.now) (clients_and_queue c.args.clients.now c.args.core.now c.args.up.now) (clients_and_queue c.loop-self.clients c.loop-self.core c.loop-self.up) c.args.self.now c.loop-self.self o) on c.loop-self.invariant.receiving)
          (turn c.in_ok-send_next.field-0 true (clients_and_queue c.loop-self.clients c.loop-self.core c.loop-self.up) (clients_and_queue c.send_next.new.clients c.send_next.new.core c.send_next.new.up) c.loop-self.self c.send_next.new.self c.loop-self.ended c.send_next.new.ended c.if-not-branch.false on c.in_ok-send_next.ensures.next);
      room = c.in_ok-send_next.ensures.room c.loop-self.invariant.room;
    }
