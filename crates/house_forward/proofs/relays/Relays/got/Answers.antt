use Rattle.std.proofs.Common.{◌≡◌, refl, sym, ap, ◌≤◌, length, arith}
use Rattle.house_relay.specs.declared.relay.Relay.{Relay}
use Rattle.mux_outside.specs.declared.piece.TheConstants.{LONGEST_PIECE}
use Rattle.house_forward.specs.Links.{is_relay_stream}
use Rattle.house_forward.specs.declared.link.Link.{Link}
use Rattle.house_forward.proofs.Changes.{changes-at}
use Rattle.house_forward.proofs.Queues.{rests-first}
use Rattle.std.specs.Prelude.{not}
use Rattle.std.specs.List.{position}
use Rattle.house_forward.specs.Going.{Gets}
use Rattle.house_forward.specs.Links.{has_all_channels}
use Rattle.house_forward.proofs.Going.{goes-at, on-ok, on-three}
use Rattle.house_forward.proofs.relays.Relays.got.Goals as goal

pub invariant_of-self : goal.invariant_of-self
invariant_of-self c =
    let x = c.index_mut-link.result.now in
    let y : Link = record { relay = c.got.new.self; stream = x.stream } in
    let none = ap length (rests-first c.args.self.now.all.items c.in-Some.i c.args.stream x (sym c.in-Some.ensures) c.index_mut-link.ensures.value c.requires.rests) in
    let fits : length c.got.new.self.held.waiting ≤ LONGEST_PIECE = omega (arith, none, c.got.ensures.few, c.requires.short) in
    let k = changes-at (is_relay_stream c.args.stream) c.args.self.now.all.items c.in-Some.i x y (sym c.in-Some.ensures) c.index_mut-link.ensures.value c.args.self.now.few c.args.self.now.distinct fits refl in
    record { few = k.few; distinct = k.distinct }

pub returns-clause-streams : goal.returns-clause-streams
returns-clause-streams c =
    let x = c.index_mut-link.result.now in
    let y : Link = record { relay = c.got.new.self; stream = x.stream } in
    let none = ap length (rests-first c.args.self.now.all.items c.in-Some.i c.args.stream x (sym c.in-Some.ensures) c.index_mut-link.ensures.value c.requires.rests) in
    let fits : length c.got.new.self.held.waiting ≤ LONGEST_PIECE = omega (arith, none, c.got.ensures.few, c.requires.short) in
    let k = changes-at (is_relay_stream c.args.stream) c.args.self.now.all.items c.in-Some.i x y (sym c.in-Some.ensures) c.index_mut-link.ensures.value c.args.self.now.few c.args.self.now.distinct fits refl in
    k.streams

pub returns-in_default-clause-reads : goal.returns-in_default-clause-reads
returns-in_default-clause-reads c = rw (sym c.in_default.ensures) refl

pub returns-clause-reads : goal.returns-clause-reads
returns-clause-reads c =
    let ls = c.args.self.now.all.items in
    let x = c.index_mut-link.result.now in
    let both = on-three _ _ (c.got.new.self.number ≡ x.relay.number) c.got.result (rw c.is_full-free.ensures at c.got.ensures.dials) c.got.ensures.stands
    (on-ok c.got.result (λ e. ap (λ (r : Relay). r.number) e) c.got.ensures.others) in
    on-ok c.got.result (λ gets. goes-at (position (is_relay_stream c.args.stream) ls) c.in-Some.i (Gets (not (has_all_channels ls)) c.args.bytes.now) ls x c.got.new.self (sym c.in-Some.ensures) c.index_mut-link.ensures.value gets) both
