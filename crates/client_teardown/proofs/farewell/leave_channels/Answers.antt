use Rattle.std.proofs.Common.{sym, ◌∙◌, arith}
use Rattle.client_teardown.specs.Leaving.{channel_farewells}
use Rattle.client_teardown.proofs.Leaves.{none-left}
use Rattle.client_teardown.proofs.Stepping.{IsStep, all-said, freed-step, held-step, no-nth, past-nth}
use Rattle.client_teardown.proofs.farewell.leave_channels.Goals as goal
use Rattle.client_teardown.proofs.farewell.leave_channels.Goals.{else-leave_channel, then-leave_channel}

pub loop-preserved : goal.loop-preserved
loop-preserved c =
    let k = c.args.client in
    let e = c.leave_channel.ensures in
    let apart = e.sound.apart in
    let step : IsStep k c.loop.i c.if-leave_channel.i c.loop.table c.leave_channel.new.table c.loop.up c.leave_channel.new.up =
    elim c.if-leave_channel.branch [
      | then-leave_channel w ↦ held-step k c.loop.i c.if-leave_channel.i c.in-Some.number c.loop.table c.leave_channel.new.table c.loop.up c.leave_channel.new.up apart c.in-Some.ensures (let next = w.i-is in omega (arith, next)) (sym w.if-leave_channel.true ∙ e.held) e.entries e.sent
      | else-leave_channel w ↦ freed-step k c.loop.i c.if-leave_channel.i c.in-Some.number c.loop.table c.leave_channel.new.table c.loop.up c.leave_channel.new.up apart c.in-Some.ensures w.i-is (sym w.if-leave_channel.false ∙ e.held) e.entries e.sent
    ] in
    let before = c.loop.invariant in
    let more = c.loop-test.true in
    record {
      sent = step.sent ∙ before.sent;
      entries = step.entries ∙ before.entries;
      remaining = omega (arith, step.count, before.remaining, more);
      within = omega (arith, more);
      spare = omega (arith, before.spare, e.spare);
    }

pub returns-after-loop-clause-entries : goal.returns-after-loop-clause-entries
returns-after-loop-clause-entries c =
    let before = c.loop.invariant in
    let none = past-nth c.loop.table c.args.client c.loop.i (omega (arith, before.remaining, c.loop-test.false)) in
    sym (none-left c.args.client c.loop.i c.loop.table none) ∙ before.entries

pub returns-in_default-clause-sent : goal.returns-in_default-clause-sent
returns-in_default-clause-sent c =
    all-said c.args.client c.loop.i c.loop.table c.args.up.now c.loop.up (channel_farewells c.args.client c.args.table.now) (no-nth c.loop.table c.args.client c.loop.i c.in_default.ensures) c.loop.invariant.sent

pub returns-in_default-clause-entries : goal.returns-in_default-clause-entries
returns-in_default-clause-entries c =
    sym (none-left c.args.client c.loop.i c.loop.table (no-nth c.loop.table c.args.client c.loop.i c.in_default.ensures)) ∙ c.loop.invariant.entries
