use Rattle.std.proofs.Common.{sym, ◌∙◌, ◌∷◌}
use Rattle.ssh_grammar.specs.Frames.{frame_payload}
use Rattle.mux_peers.specs.State.{refusals_of}
use Rattle.mux_peers.proofs.Heards.{receives-on, receives-full}
use Rattle.mux_peers.proofs.peer.Peer.deliver.Goals as goal

pub returns-in-None-clause-stands : goal.returns-in-None-clause-stands
returns-in-None-clause-stands c = receives-on (frame_payload c.args.payload.now ∷ refusals_of c.args.refusals) c.args.core.now c.args.self.now c.record_all.new.self c.args.up.now c.in_ok-record_all.ensures.queue (sym c.in_ok-record_all.ensures.full ∙ c.in-None.is)

pub returns-in-Some-clause-stands : goal.returns-in-Some-clause-stands
returns-in-Some-clause-stands c = receives-full (frame_payload c.args.payload.now ∷ refusals_of c.args.refusals) c.in-Some.why c.args.core.now c.drop_for.new.core c.args.self.now c.record_all.new.self c.drop_for.new.self c.args.up.now c.drop_for.new.up
    c.in_ok-record_all.ensures.queue (sym c.in_ok-record_all.ensures.full ∙ c.in-Some.is) c.drop_for.ensures.peer c.drop_for.ensures.recorded
