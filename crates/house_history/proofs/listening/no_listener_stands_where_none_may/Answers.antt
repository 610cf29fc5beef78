use Rattle.house_history.proofs.Permitted.{runs-listen}
use Rattle.house_history.proofs.listening.no_listener_stands_where_none_may.Goals as goal

pub returns : goal.returns
returns c s = runs-listen c.H.Asks.may c.H.Asks.state _
