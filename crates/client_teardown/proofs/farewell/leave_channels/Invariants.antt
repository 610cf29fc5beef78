use Rattle.std.proofs.Common.{◌≡◌, ◌≤◌, ◌+◌, ◌-◌, ◌*◌, ◌++◌, drop, filter}
use Rattle.std.specs.Prelude.{flat_map}
use Rattle.channel_table.specs.Entries.{channel_count_of, is_channel_of}
use Rattle.client_teardown.specs.Leaving.{channel_farewells, farewell_of, left_entries}
use Rattle.client_teardown.proofs.Leaves.{left_from}
use Rattle.client_teardown.proofs.Sending.{frames}
use Rattle.client_teardown.proofs.farewell.leave_channels.Given as goal

abbrev pub invariant-loop : goal.invariant-loop
invariant-loop l = record {
  sent : l.up.waiting ++ frames (flat_map farewell_of (drop l.i (filter (is_channel_of l.client) l.table))) ≡ l.initial.up.waiting ++ frames (channel_farewells l.client l.initial.table);
  entries : left_from l.client l.i l.table ≡ left_entries l.client l.initial.table;
  remaining : l.i + (l.end - l.counter) ≡ channel_count_of l.table l.client;
  within : l.counter ≤ l.end;
  spare : l.initial.up.spare ≤ l.up.spare + 36 * l.counter;
}
