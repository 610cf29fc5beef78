-- What is sent for a client that is lost, and what it leaves, in the words of the history.
use Rattle.std.specs.Prelude.{◌≡◌, ◌==◌, ℕ, true, false, List, [], ◌∷◌, ◌++◌, filter, flat_map, map}
use Rattle.ssh_grammar.specs.declared.side.Side.TheVariants.{Up}
use Rattle.ssh_grammar.specs.Messages as grammar
use Rattle.mux_history.specs.Channels.{Channel, any_by, is_closes, is_confirmed, is_channel_held, is_up}
use Rattle.mux_history.specs.Farewell as history
use Rattle.mux_history.specs.Forwardings.{Forwarding}
use Rattle.mux_history.specs.Summary.{Closes, Confirmation, Fails}
use Rattle.mux_history.specs.Keys.{bound}
use Rattle.mux_history.specs.Laws.{with_act}
use Rattle.mux_history.specs.Rows.{Row}
use Rattle.channel_table.specs.Entries.{TableEntry}
use Rattle.channel_table.specs.Stands.{ChannelsFit}
use Rattle.conn_messages.specs.Keys.{key_of}
use Rattle.forward_rules.specs.State.{Forward}
use Rattle.forward_rules.specs.Stands.{AreForwardsListed}
use Rattle.conn_messages.specs.declared.key.Key.{Key}
use Rattle.client_teardown.specs.Leaving.{channel_farewells, forward_farewells, late_payload, left_entries}
use Rattle.client_teardown.specs.declared.message.Late.TheVariants as late

-- ---- at once

-- a client's channels, and its forwardings
abbrev pub client_channels_of : ℕ → List Channel → List Channel
client_channels_of k xs = filter (λ x. x.client == k) xs

abbrev pub client_forwardings_of : ℕ → List Forwarding → List Forwarding
client_forwardings_of k gs = filter (λ g. g.client == k) gs

-- wherever the tables represent the channels and the forwardings of a history, a client's farewell
-- is what the history sends for each of its channels, and then for each of its forwardings
abbrev pub FarewellsAreTheHistorys : Type 0
FarewellsAreTheHistorys =
    (k : ℕ) (es : List TableEntry) (xs : List Channel) (fs : List Forward) (gs : List Forwarding)
    → ChannelsFit es xs → AreForwardsListed fs gs
    → channel_farewells k es ++ forward_farewells k fs
    ≡ flat_map history.leave_channel (client_channels_of k xs)
    ++ flat_map history.leave_forwarding (client_forwardings_of k gs)

-- what a farewell makes of a channel: CLOSE is sent in one that is confirmed, and a server's open
-- that waits has failed
abbrev pub channel_after_farewell : Channel → Channel
channel_after_farewell x = elim (is_confirmed x) [
  | true ↦ elim (any_by Up is_closes x.acts) [ true ↦ x | false ↦ with_act Up Closes x ]
  | false ↦ elim (is_up x.by) [ true ↦ x | false ↦ with_act Up Fails x ]
]

-- of one of this client's
abbrev pub left_by : ℕ → Channel → Channel
left_by k x = elim (x.client == k) [ true ↦ channel_after_farewell x | false ↦ x ]

-- those that are held then
abbrev pub left_channels : ℕ → List Channel → List Channel
left_channels k xs = filter is_channel_held (map (left_by k) xs)

-- the table represents them afterwards
abbrev pub TableIsLeft : Type 0
TableIsLeft = (k : ℕ) (es : List TableEntry) (xs : List Channel) → ChannelsFit es xs
    → ChannelsFit (left_entries k es) (left_channels k xs)

-- ---- later

-- a late message is answered by the payload that the history says
pub record LateIsTheHistorys : Type 0 where
  pub confirmed : (number remote window maximum : ℕ) (own : List Row)
      → late_payload (late.Confirmed number remote) ∷ []
      ≡ history.late (Confirmation number remote window maximum) own
  pub forwarded : (key : Key) (asked : grammar.Key) (rest : List ℕ) → key_of key ≡ bound asked rest
      → late_payload (late.Forwarded key) ∷ [] ≡ history.late_success rest (grammar.Forward asked)
  pub cancel_failed : (key : Key) (asked : grammar.Key) → key_of key ≡ asked
      → late_payload (late.CancelFailed key) ∷ [] ≡ history.late_refusal (grammar.Cancel asked)
