use Rattle.mux_state.proofs.Twins.{house-client, own-silent, stands-alike}
use Rattle.mux_state.proofs.laws.the_house_is_a_client.Goals as goal

pub returns : goal.returns
returns c = record { alike = stands-alike; client = house-client; own = own-silent }
