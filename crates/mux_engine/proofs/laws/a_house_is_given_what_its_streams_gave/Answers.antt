use Rattle.mux_engine.proofs.CallLaws.{given-all}
use Rattle.mux_engine.proofs.laws.a_house_is_given_what_its_streams_gave.Goals as goal

pub returns : goal.returns
returns c = given-all
