use Rattle.std.proofs.Common.{refl, sym, ap, take}
use Rattle.std.specs.Prelude.{find}
use Rattle.house_relay.specs.declared.relay.Relay.{Relay}
use Rattle.house_forward.specs.Links.{is_relay_stream, link_queue_in}
use Rattle.house_forward.specs.declared.link.Link.{Link}
use Rattle.house_forward.proofs.Changes.{fits-at, changes-at}
use Rattle.house_forward.proofs.Queues.{Took, took-queues, none-took, queue-first, takes-of}
use Rattle.std.specs.List.{position}
use Rattle.house_forward.specs.Going.{TakesOf}
use Rattle.house_forward.proofs.Going.{goes-at}
use Rattle.house_forward.proofs.relays.Relays.took.Goals as goal

pub returns-in_default-clause-queues : goal.returns-in_default-clause-queues
returns-in_default-clause-queues c =
    none-took c.args.self.now.all.items c.args.stream c.args.n (sym c.in_default.ensures)

pub took-requires : goal.took-requires
took-requires c =
    rw (queue-first c.args.self.now.all.items c.in-Some.i c.args.stream c.index_mut-link.result.now (sym c.in-Some.ensures) c.index_mut-link.ensures.value) at c.requires

pub invariant_of-self : goal.invariant_of-self
invariant_of-self c =
    let x = c.index_mut-link.result.now in
    let y : Link = record { relay = c.took.new.self; stream = x.stream } in
    let fits = fits-at (is_relay_stream c.args.stream) c.args.self.now.all.items c.in-Some.i x (sym c.in-Some.ensures) c.index_mut-link.ensures.value c.args.self.now.few in
    let k = changes-at (is_relay_stream c.args.stream) c.args.self.now.all.items c.in-Some.i x y (sym c.in-Some.ensures) c.index_mut-link.ensures.value c.args.self.now.few c.args.self.now.distinct (rw c.took.ensures.others fits) refl in
    record { few = k.few; distinct = k.distinct }

pub returns-clause-streams : goal.returns-clause-streams
returns-clause-streams c =
    let x = c.index_mut-link.result.now in
    let y : Link = record { relay = c.took.new.self; stream = x.stream } in
    let fits = fits-at (is_relay_stream c.args.stream) c.args.self.now.all.items c.in-Some.i x (sym c.in-Some.ensures) c.index_mut-link.ensures.value c.args.self.now.few in
    let k = changes-at (is_relay_stream c.args.stream) c.args.self.now.all.items c.in-Some.i x y (sym c.in-Some.ensures) c.index_mut-link.ensures.value c.args.self.now.few c.args.self.now.distinct (rw c.took.ensures.others fits) refl in
    k.streams

pub returns-clause-queues : goal.returns-clause-queues
returns-clause-queues c =
    let x = c.index_mut-link.result.now in
    let y : Link = record { relay = c.took.new.self; stream = x.stream } in
    let took : Took c.args.n x y = record {
      stream = refl;
      socket = ap (λ (r : Relay). r.socket) c.took.ensures.others;
      queue = ap (λ (r : Relay). r.queue.waiting) c.took.ensures.others;
      held = ap (λ (r : Relay). r.held) c.took.ensures.others;
      stuck = c.took.ensures.stuck;
    } in
    took-queues c.args.self.now.all.items c.in-Some.i c.args.stream c.args.n x y (sym c.in-Some.ensures) c.index_mut-link.ensures.value took

pub returns-in_default-clause-takes : goal.returns-in_default-clause-takes
returns-in_default-clause-takes c = rw (sym c.in_default.ensures) refl

pub returns-clause-takes : goal.returns-clause-takes
returns-clause-takes c =
    let ls = c.args.self.now.all.items in
    let x = c.index_mut-link.result.now in
    let queued = queue-first ls c.in-Some.i c.args.stream x (sym c.in-Some.ensures) c.index_mut-link.ensures.value in
    goes-at (position (is_relay_stream c.args.stream) ls) c.in-Some.i (TakesOf (take c.args.n (link_queue_in (find (is_relay_stream c.args.stream) ls)))) ls x c.took.new.self (sym c.in-Some.ensures) c.index_mut-link.ensures.value
    (takes-of x.relay c.took.new.self c.args.n (link_queue_in (find (is_relay_stream c.args.stream) ls)) queued c.requires
    (λ small. (c.took.ensures.exact small, c.took.ensures.stands small)))
