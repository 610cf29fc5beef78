use Rattle.mux_pieces.proofs.Sayings.{heard-are, sayings-are}
use Rattle.mux_pieces.proofs.laws.sayings_are_of_bytes.Goals as goal

pub returns-clause-clients : goal.returns-clause-clients
returns-clause-clients c = sayings-are

pub returns-clause-server : goal.returns-clause-server
returns-clause-server c = heard-are
