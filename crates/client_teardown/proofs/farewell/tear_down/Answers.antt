use Rattle.client_teardown.specs.Leaving.{channel_farewells, forward_farewells}
use Rattle.client_teardown.proofs.Sending.{sends-more}
use Rattle.client_teardown.proofs.farewell.tear_down.Goals as goal

pub returns-clause-sent : goal.returns-clause-sent
returns-clause-sent c =
    sends-more (channel_farewells c.args.client c.args.table.now) (forward_farewells c.args.client c.args.forwards.now) c.args.up.now c.leave_channels.new.up c.leave_forwards.new.up c.leave_channels.ensures.sent c.leave_forwards.ensures.sent
