-- The table represents the channels of a history that are held, in the order in which they began.
use Rattle.std.specs.Prelude.{◌≡◌, ℕ, List, [], ◌∷◌, Option, Some, None, true, false}
use Rattle.mux_history.specs.Channels as history
use Rattle.window_ledger.specs.Stands as ledger
use Rattle.channel_table.specs.Entries.{TableEntry, is_shown}

-- the number, where it represents the channel towards the server
abbrev pub shown_number : TableEntry → Option ℕ
shown_number e = elim (is_shown e.channel) [ true ↦ Some e.number | false ↦ None ]

-- an entry represents a channel that is held
pub record EntryFits (e : TableEntry) (x : history.Channel) : Type 0 where
  pub client : e.channel.client ≡ x.client
  pub by : e.channel.by ≡ x.by
  pub own : e.channel.own ≡ x.own
  pub number : shown_number e ≡ x.number
  pub remote : e.channel.remote ≡ x.remote
  pub ledger : ledger.LedgerRepresents e.ledger x
  pub held : history.is_channel_held x ≡ true

-- one by one
abbrev pub ChannelsFit : List TableEntry → List history.Channel → Type 0
ChannelsFit [] [] = Unit {0}
ChannelsFit [] (x ∷ xs) = ⊥
ChannelsFit (e ∷ es) [] = ⊥
ChannelsFit (e ∷ es) (x ∷ xs) = EntryFits e x × ChannelsFit es xs
