use Rattle.client_teardown.proofs.Meaning.{farewells-sent, table-left}
use Rattle.client_teardown.proofs.laws.farewell_of_a_history.Goals as goal

pub returns : goal.returns
returns c = record { sent = farewells-sent; left = table-left }
