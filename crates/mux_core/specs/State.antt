-- What a core keeps.
use Rattle.std.specs.Prelude.{ℕ, ◌==◌, ◌&&◌, Bool, not, List, []}
use Rattle.mux_history.specs.Rows.{any_of}
use Rattle.mux_history.specs.Policy.{Policy}
use Rattle.mux_history.specs.Requests.{Ask}
use Rattle.channel_table.specs.Entries.{TableEntry}
use Rattle.forward_rules.specs.State.{Forward}

-- a client with open matters: whether it is lost, and what it is still to be answered, for each of
-- its requests from the first on that was sent and has no reply, whether it was sent
pub record MemberState : Type 0 where
  pub number : ℕ
  pub lost : Bool
  pub waiting : List Bool

-- the channels that are held, the requests without a reply, the clients with open matters, and the
-- forwardings that are asked or live
pub record CoreState : Type 0 where
  pub policy : Policy
  pub channels : List TableEntry
  pub asks : List Ask
  pub clients : List MemberState
  pub forwards : List Forward

abbrev pub new_state : Policy → CoreState
new_state policy = record { policy = policy; channels = []; asks = []; clients = []; forwards = [] }

-- the client is there and not lost
abbrev pub is_member_served : List MemberState → ℕ → Bool
is_member_served cs k = any_of (λ c. (c.number == k) && not c.lost) cs
