use Rattle.mux_peers.proofs.ServerJournaled.{pieces-of-the-server}
use Rattle.mux_peers.proofs.laws.pieces_of_the_server.Goals as goal

pub returns : goal.returns
returns c = pieces-of-the-server
