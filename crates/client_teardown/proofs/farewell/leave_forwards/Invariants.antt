use Rattle.std.proofs.Common.{◌≡◌, ◌≤◌, ◌+◌, ◌*◌, ◌++◌}
use Rattle.forward_rules.specs.Step.{forward_count_of, forwards_without_client}
use Rattle.forward_rules.specs.Taking.{recorded_one_by_one}
use Rattle.client_teardown.specs.Leaving.{forward_farewells}
use Rattle.client_teardown.proofs.Cancels.{cancels_recorded}
use Rattle.client_teardown.proofs.Sending.{frames}
use Rattle.client_teardown.proofs.farewell.leave_forwards.Given as goal

abbrev pub invariant-loop : goal.invariant-loop
invariant-loop l = record {
  sent : l.up.waiting ++ frames (cancels_recorded (recorded_one_by_one l.client l.forwards)) ≡ l.initial.up.waiting ++ frames (forward_farewells l.client l.initial.forwards);
  others : forwards_without_client l.client l.forwards ≡ forwards_without_client l.client l.initial.forwards;
  remaining : forward_count_of l.forwards l.client + l.counter ≡ l.end;
  spare : l.initial.up.spare ≤ l.up.spare + 308 * l.counter;
}
