use Rattle.std.proofs.Common.{refl, arith, ◌≤◌, length}
use Rattle.mux_outside.specs.declared.piece.TheConstants.{LONGEST_PIECE}
use Rattle.house_forward.specs.Links.{has_sending}
use Rattle.house_forward.specs.declared.link.Link.{Link}
use Rattle.house_forward.proofs.Changes.{fits-at, changes-at, passes-at}
use Rattle.house_relay.specs.Next.{sends_of}
use Rattle.house_forward.specs.Going.{RelaySendsOn}
use Rattle.house_forward.proofs.Changes.{first-is}
use Rattle.house_forward.proofs.Going.{goes-at, on-ok, on-both, said-one}
use Rattle.house_forward.proofs.relays.Relays.send_at.Goals as goal

pub invariant_of-self : goal.invariant_of-self
invariant_of-self c =
    let x = c.index_mut-link.result.now in
    let y : Link = record { relay = c.send.new.relay; stream = x.stream } in
    let most = fits-at has_sending c.args.self.now.all.items c.args.i x c.requires c.index_mut-link.ensures.value c.args.self.now.few in
    let fits : length c.send.new.relay.held.waiting ≤ LONGEST_PIECE = omega (arith, most, c.send.ensures.few) in
    let k = changes-at has_sending c.args.self.now.all.items c.args.i x y c.requires c.index_mut-link.ensures.value c.args.self.now.few c.args.self.now.distinct fits refl in
    record { few = k.few; distinct = k.distinct }

pub returns-clause-streams : goal.returns-clause-streams
returns-clause-streams c =
    let x = c.index_mut-link.result.now in
    let y : Link = record { relay = c.send.new.relay; stream = x.stream } in
    let most = fits-at has_sending c.args.self.now.all.items c.args.i x c.requires c.index_mut-link.ensures.value c.args.self.now.few in
    let fits : length c.send.new.relay.held.waiting ≤ LONGEST_PIECE = omega (arith, most, c.send.ensures.few) in
    let k = changes-at has_sending c.args.self.now.all.items c.args.i x y c.requires c.index_mut-link.ensures.value c.args.self.now.few c.args.self.now.distinct fits refl in
    k.streams

pub returns-clause-exact : goal.returns-clause-exact
returns-clause-exact c =
    let is = passes-at has_sending c.args.self.now.all.items c.args.i c.index_mut-link.result.now c.requires c.index_mut-link.ensures.value in
    rw is at c.send.ensures.exact

pub returns-clause-says : goal.returns-clause-says
returns-clause-says c =
    let both = on-both _ _ c.send.result c.send.ensures.said c.send.ensures.goes in
    on-ok c.send.result (λ said. goes-at _ c.args.i RelaySendsOn c.args.self.now.all.items c.index_mut-link.result.now c.send.new.relay refl c.index_mut-link.ensures.value said) both

pub returns-clause-spelled : goal.returns-clause-spelled
returns-clause-spelled c =
    let x = c.index_mut-link.result.now in
    let is = passes-at has_sending c.args.self.now.all.items c.args.i x c.requires c.index_mut-link.ensures.value in
    let found = first-is has_sending c.args.self.now.all.items c.args.i x c.requires c.index_mut-link.ensures.value in
    rw found (on-ok c.send.result (λ spelled. said-one x.relay (sends_of x.relay) c.send.new.into is spelled) c.send.ensures.spelled)
