use Rattle.mux_peers.proofs.Journaled.{pieces-of-a-client}
use Rattle.mux_peers.proofs.laws.pieces_of_a_client.Goals as goal

pub returns : goal.returns
returns c = pieces-of-a-client
