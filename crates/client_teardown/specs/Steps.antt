-- What is sent for one channel of a client that is lost, and what it leaves in the table.
use Rattle.std.specs.Prelude.{ℕ, Bool, true, false, List, [], ◌∷◌, Option, Some, None}
use Rattle.channel_table.specs.Entries.{TableEntry, changed_at, entry_at, freed}
use Rattle.client_teardown.specs.Leaving.{entry_after_close, farewell_of, is_channel_open}

-- a payload, where there is one
abbrev pub payload_list : Option (List ℕ) → List (List ℕ)
payload_list None = []
payload_list (Some p) = p ∷ []

-- what is sent for the channel under a number, where there is one
abbrev pub farewell_in : Option TableEntry → List (List ℕ)
farewell_in None = []
farewell_in (Some e) = farewell_of e

abbrev pub farewell_at : List TableEntry → ℕ → List (List ℕ)
farewell_at es n = farewell_in (entry_at es n)

-- whether it is still held then
abbrev pub stays_in : Option TableEntry → Bool
stays_in None = true
stays_in (Some e) = is_channel_open (entry_after_close e)

abbrev pub stays_at : List TableEntry → ℕ → Bool
stays_at es n = stays_in (entry_at es n)

-- the table after it
abbrev pub left_at : ℕ → List TableEntry → List TableEntry
left_at n es = elim (stays_at es n) [ true ↦ changed_at n entry_after_close es | false ↦ freed n es ]
