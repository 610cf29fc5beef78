use Rattle.house_forward.proofs.Finding.{owned}
use Rattle.house_forward.proofs.relays.Relays.owns.Goals as goal

pub returns : goal.returns
returns c = rw (c.is_some.ensures, c.place_with.ensures) (owned c.args.self.now.all.items c.args.stream)
