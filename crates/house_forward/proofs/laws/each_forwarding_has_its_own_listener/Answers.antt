use Rattle.house_forward.proofs.Listened.{listeners-are-theirs, each-listener-is-new}
use Rattle.house_forward.proofs.Resolving.{listeners-differ}
use Rattle.house_forward.proofs.laws.each_forwarding_has_its_own_listener.Goals as goal

pub returns : goal.returns
returns c = record { listeners = listeners-are-theirs; new = each-listener-is-new; apart = listeners-differ }
