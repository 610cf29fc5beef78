use Rattle.mux_engine.proofs.CallLaws.{recorded-all}
use Rattle.mux_engine.proofs.laws.a_house_is_recorded_what_its_streams_took.Goals as goal

pub returns : goal.returns
returns c = recorded-all
