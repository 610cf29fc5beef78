use Rattle.house_forward.proofs.Confirming.{confirms-connected, refuses-unconnected}
use Rattle.house_forward.proofs.laws.each_open_is_answered_by_its_socket.Goals as goal

pub returns : goal.returns
returns c = record { confirms = confirms-connected; refuses = refuses-unconnected }
