use Rattle.std.proofs.Common.{sym, refl}
use Rattle.std.specs.Prelude.{◌==◌}
use Rattle.std.specs.List.{position}
use Rattle.house_forward.specs.Going.{RelayReceivesOn}
use Rattle.house_forward.specs.declared.link.Link.{Link}
use Rattle.house_forward.proofs.Going.{leaves}
use Rattle.house_forward.proofs.relays.Relays.receive.Goals as goal

pub returns-in_default-clause-receives : goal.returns-in_default-clause-receives
returns-in_default-clause-receives c = rw (sym c.in_default.ensures) refl

pub returns-clause-receives : goal.returns-clause-receives
returns-clause-receives c =
    leaves (position (λ (l : Link). l.relay.number == c.args.number) c.args.self.now.all.items) c.in-Some.i (RelayReceivesOn c.args.message.now) c.args.self.now.all.items _ _ (sym c.in-Some.ensures) c.in_ok-receive_at.ensures.receives c.sweep.ensures.all
