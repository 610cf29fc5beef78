-- What a core becomes when a client is lost.
use Rattle.std.specs.Prelude.{ℕ, ◌==◌, ◌||◌, List, map}
use Rattle.client_teardown.specs.Leaving.{left_entries}
use Rattle.forward_rules.specs.Step.{forwards_without_client}
use Rattle.mux_core.specs.State.{MemberState, CoreState}

-- the client is lost
abbrev pub lose : ℕ → MemberState → MemberState
lose k c = record c { lost = c.lost || (c.number == k) }

abbrev pub lost_clients : ℕ → List MemberState → List MemberState
lost_clients k cs = map (lose k) cs

-- its tables after a farewell, and the client is lost
abbrev pub left_core : CoreState → ℕ → CoreState
left_core s k = record s {
  channels = left_entries k s.channels;
  forwards =
      forwards_without_client k s.forwards;
}

abbrev pub lost_core : CoreState → ℕ → CoreState
lost_core s k = record (left_core s k) { clients = lost_clients k s.clients }
