use Rattle.std.specs.Prelude.{◌==◌}
use Rattle.house_forward.specs.declared.link.Link.{Link}
use Rattle.house_forward.proofs.Changes.{fits-at, changes-at}
use Rattle.house_forward.specs.Going.{RelayReceivesOn}
use Rattle.house_forward.proofs.Going.{went-at, on-ok, on-both}
use Rattle.house_forward.proofs.relays.Relays.receive_at.Goals as goal

pub invariant_of-self : goal.invariant_of-self
invariant_of-self c =
    let x = c.index_mut-link.result.now in
    let p = λ (l : Link). l.relay.number == c.args.number in
    let fits = fits-at p c.args.self.now.all.items c.args.i x c.requires c.index_mut-link.ensures.value c.args.self.now.few in
    let k = changes-at p c.args.self.now.all.items c.args.i x c.receives.new.self c.requires c.index_mut-link.ensures.value c.args.self.now.few c.args.self.now.distinct (rw c.receives.ensures.held fits) c.receives.ensures.stream in
    record { few = k.few; distinct = k.distinct }

pub returns-clause-streams : goal.returns-clause-streams
returns-clause-streams c =
    let x = c.index_mut-link.result.now in
    let p = λ (l : Link). l.relay.number == c.args.number in
    let fits = fits-at p c.args.self.now.all.items c.args.i x c.requires c.index_mut-link.ensures.value c.args.self.now.few in
    let k = changes-at p c.args.self.now.all.items c.args.i x c.receives.new.self c.requires c.index_mut-link.ensures.value c.args.self.now.few c.args.self.now.distinct (rw c.receives.ensures.held fits) c.receives.ensures.stream in
    k.streams

pub returns-clause-receives : goal.returns-clause-receives
returns-clause-receives c =
    let both = on-both _ _ c.receives.result c.receives.ensures.heard c.receives.ensures.goes in
    on-ok c.receives.result (λ heard. went-at c.args.i (RelayReceivesOn c.args.message.now) c.args.self.now.all.items c.index_mut-link.result.now c.receives.new.self c.index_mut-link.ensures.value c.receives.ensures.stream heard) both
