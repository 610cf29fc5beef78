-- What is sent for a client that is lost, at once and later, and what it leaves in the tables.
use Rattle.std.specs.Prelude.{◌≡◌, ◌==◌, ◌&&◌, ◌||◌, ℕ, Bool, true, false, not, List, [], ◌∷◌, ◌++◌, filter, map, flat_map, is_none}
use Rattle.ssh_grammar.specs.declared.numbers.TheConstants.{CONNECT_FAILED}
use Rattle.ssh_grammar.specs.Frames.{frame_payload}
use Rattle.ssh_grammar.specs.SpellMessage.{cancel_forward, client_is_gone, close, open_failure}
use Rattle.proxy_frames.specs.State.{QueueState}
use Rattle.mux_history.specs.Channels.{is_up}
use Rattle.mux_history.specs.Farewell.{to_number}
use Rattle.mux_history.specs.Pending.{joined}
use Rattle.window_ledger.specs.declared.ledger.Ledger.{Ledger}
use Rattle.window_ledger.specs.Leaving as account
use Rattle.window_ledger.specs.Stands.{is_open_confirmed}
use Rattle.channel_table.specs.declared.channel.Channel.{Channel}
use Rattle.channel_table.specs.Entries.{TableEntry, changed_at, is_channel_of}
use Rattle.conn_messages.specs.Keys.{IsShort, key_of}
use Rattle.forward_rules.specs.State.{Forward}
use Rattle.forward_rules.specs.Step as forwards
use Rattle.client_teardown.specs.declared.message.Late.{Late}
use Rattle.client_teardown.specs.declared.message.Late.TheVariants.{CancelFailed, Confirmed, Forwarded}

-- ---- what goes up

-- a queue with these payloads after what waits
abbrev pub with_payloads : List (List ℕ) → QueueState → QueueState
with_payloads payloads q = record q { waiting = q.waiting ++ joined (map frame_payload payloads) }

-- the proxy frames of these payloads wait after what waited
abbrev pub SendsFarewell : List (List ℕ) → QueueState → QueueState → Type 0
SendsFarewell payloads up up' = up'.waiting ≡ up.waiting ++ joined (map frame_payload payloads)

-- in one channel: CLOSE where it is confirmed and the client has not sent it, OPEN_FAILURE on a
-- server's open without an answer
abbrev pub farewell_for : Channel → Ledger → List (List ℕ)
farewell_for c ledger = elim (is_open_confirmed ledger) [
  | true ↦ elim (account.has_sent_close ledger) [ true ↦ [] | false ↦ to_number c.remote close ]
  | false ↦ elim (is_up c.by)
      [ true ↦ [] | false ↦ to_number c.remote (λ s. open_failure s CONNECT_FAILED client_is_gone) ]
]

abbrev pub farewell_of : TableEntry → List (List ℕ)
farewell_of e = farewell_for e.channel e.ledger

-- of a client's channels, in the order in which they began
abbrev pub channel_farewells : ℕ → List TableEntry → List (List ℕ)
channel_farewells k es = flat_map farewell_of (filter (is_channel_of k) es)

-- a cancel without reply of a live forwarding that no unanswered cancel means
abbrev pub farewell_cancel_of : Forward → List (List ℕ)
farewell_cancel_of f = elim (f.live && is_none f.cancel) [ true ↦ cancel_forward f.key ∷ [] | false ↦ [] ]

-- of a client's forwardings, in order of asking
abbrev pub forward_farewells : ℕ → List Forward → List (List ℕ)
forward_farewells k fs = flat_map farewell_cancel_of (filter (forwards.is_forward_of k) fs)

-- ---- what stays in the table

-- CLOSE is sent, where the channel is confirmed
abbrev pub entry_after_close : TableEntry → TableEntry
entry_after_close e = record e { ledger = account.ledger_after_close e.ledger }

-- in a channel of this client
abbrev pub left_entry : ℕ → TableEntry → TableEntry
left_entry k e = elim (e.channel.client == k) [ true ↦ entry_after_close e | false ↦ e ]

-- it is still held: the server has not closed it yet, or has not answered the client's open
abbrev pub is_open_in : Channel → Ledger → Bool
is_open_in c ledger =
    elim (is_open_confirmed ledger) [ true ↦ not (account.is_account_over ledger) | false ↦ is_up c.by ]

abbrev pub is_channel_open : TableEntry → Bool
is_channel_open e = is_open_in e.channel e.ledger

-- it is of another client, or still held
abbrev pub stays : ℕ → TableEntry → Bool
stays k e = not (e.channel.client == k) || is_channel_open e

-- all channels, when this client is lost
abbrev pub left_entries : ℕ → List TableEntry → List TableEntry
left_entries k es = filter (stays k) (map (left_entry k) es)

-- ---- later

-- the address or path of what is cancelled isn't too long
abbrev pub IsShortLate : Late → Type 0
IsShortLate (Confirmed number remote) = Unit {0}
IsShortLate (Forwarded key) = IsShort (key_of key)
IsShortLate (CancelFailed key) = IsShort (key_of key)

-- CLOSE after a confirmation, and a cancel without reply after a success or after the failure of a
-- cancel
abbrev pub late_payload : Late → List ℕ
late_payload (Confirmed number remote) = close remote
late_payload (Forwarded key) = cancel_forward (key_of key)
late_payload (CancelFailed key) = cancel_forward (key_of key)

-- the CLOSE is noted in the account
abbrev pub late_entries : Late → List TableEntry → List TableEntry
late_entries (Confirmed number remote) es = changed_at number entry_after_close es
late_entries (Forwarded key) es = es
late_entries (CancelFailed key) es = es
