use Rattle.mux_state.proofs.Closes.{closes}
use Rattle.mux_state.proofs.laws.a_stream_is_closed.Goals as goal

pub returns : goal.returns
returns c = closes
