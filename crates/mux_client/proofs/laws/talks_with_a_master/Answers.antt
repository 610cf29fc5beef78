use Rattle.mux_client.proofs.Talks.{talk-grows, talk-stays, talk-ends}
use Rattle.mux_client.proofs.laws.talks_with_a_master.Goals as goal

pub returns : goal.returns
returns c = record { grow = talk-grows; stay = talk-stays; ends = talk-ends }
