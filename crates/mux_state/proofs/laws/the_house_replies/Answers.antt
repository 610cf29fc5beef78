use Rattle.mux_state.proofs.Replied.{goes-replied}
use Rattle.mux_state.proofs.laws.the_house_replies.Goals as goal

pub returns : goal.returns
returns c = goes-replied
