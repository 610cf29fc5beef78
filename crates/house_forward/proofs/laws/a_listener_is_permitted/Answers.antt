use Rattle.house_forward.proofs.Permitting.{each-may-listen, each-listen-is-permitted, each-order-is-permitted}
use Rattle.house_forward.proofs.laws.a_listener_is_permitted.Goals as goal

pub returns : goal.returns
returns c = record { forwardings = each-may-listen; listens = each-listen-is-permitted; orders = each-order-is-permitted }
