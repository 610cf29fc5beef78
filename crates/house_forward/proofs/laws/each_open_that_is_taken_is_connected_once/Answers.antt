use Rattle.house_forward.proofs.Connecting.{one-connect-each}
use Rattle.house_forward.proofs.laws.each_open_that_is_taken_is_connected_once.Goals as goal

pub returns : goal.returns
returns c = one-connect-each
