use Rattle.mux_state.proofs.Others.{kept-by-own-rows}
use Rattle.mux_state.proofs.laws.a_client_follows_from_its_rows.Goals as goal

pub returns : goal.returns
returns c = kept-by-own-rows
