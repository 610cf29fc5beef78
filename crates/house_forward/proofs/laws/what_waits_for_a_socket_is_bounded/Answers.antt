use Rattle.house_forward.proofs.Lived.{each-is-bounded}
use Rattle.house_forward.proofs.laws.what_waits_for_a_socket_is_bounded.Goals as goal

pub returns : goal.returns
returns c = each-is-bounded
