use Rattle.mux_peers.proofs.Bodied.{faults-drop}
use Rattle.mux_peers.proofs.peer.Peer.fails.Goals as goal

pub returns-clause-faults : goal.returns-clause-faults
returns-clause-faults c = λ change. faults-drop c.args.fault c.args.core.now c.drop_for.new.core c.args.self.now c.drop_for.new.self c.args.up.now c.drop_for.new.up change c.drop_for.ensures.peer c.drop_for.ensures.unsent
