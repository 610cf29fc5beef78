-- How a core looks a channel up for a client.
use Rattle.std.specs.Prelude.{◌≡◌, ℕ, ◌==◌, ◌&&◌, Bool, true, false, List, Option, Some, None, is_some, not, filter}
use Rattle.window_ledger.specs.declared.ledger.Ledger.{Ledger}
use Rattle.mux_history.specs.Channels as history
use Rattle.window_ledger.specs.Stands.{is_open_confirmed}
use Rattle.window_ledger.specs.Stands as ledger
use Rattle.mux_core.specs.State.{CoreState}
use Rattle.channel_table.specs.declared.channel.Channel.{Channel}
use Rattle.channel_table.specs.Entries.{TableEntry}
use Rattle.channel_table.specs.Entries.{channel_at, changed_at, with_ledger, admitted_at, ledger_at, number_of_own, number_of_remote}

-- the number and the account, where the channel is the client's and confirmed
abbrev pub if_confirmed : ℕ → ℕ → Option Channel → Option Ledger → Option (ℕ × Ledger)
if_confirmed k n (Some c) (Some l) =
    elim ((c.client == k) && is_open_confirmed l) [ true ↦ Some (n, l) | false ↦ None ]
if_confirmed k n _ _ = None

-- of the channel that the server names so
abbrev pub confirmed_under : List TableEntry → ℕ → Option ℕ → Option (ℕ × Ledger)
confirmed_under es k None = None
confirmed_under es k (Some n) = if_confirmed k n (admitted_at es n) (ledger_at es n)

abbrev pub confirmed_for : List TableEntry → ℕ → ℕ → Option (ℕ × Ledger)
confirmed_for es k remote = confirmed_under es k (number_of_remote es remote)

-- ---- and how an account is put back

-- the entry is out where its account is closed
abbrev pub entry_stays_in : ℕ → Bool → TableEntry → Bool
entry_stays_in n over e = not (over && (e.number == n))

abbrev pub acted : ℕ → Ledger → Bool → List TableEntry → List TableEntry
acted n l over es = filter (entry_stays_in n over) (changed_at n (with_ledger l) es)

pub record PutsLedger (old new : CoreState) (n : ℕ) (l : Ledger) : Type 0 where
  pub over : Bool
  pub closed : (x : history.Channel) → ledger.LedgerRepresents l x → over ≡ ledger.both_closed x
  pub after : new ≡ record old { channels = acted n l over old.channels }

-- ---- the channel for which a number stands

abbrev pub both : Option Channel → Option Ledger → Option (Channel × Ledger)
both (Some c) (Some l) = Some (c, l)
both _ _ = None

abbrev pub channel_for : List TableEntry → ℕ → Option (Channel × Ledger)
channel_for es n = both (channel_at es n) (ledger_at es n)

-- ---- a client's open that has no answer

abbrev pub waits : Channel → Ledger → Bool
waits c l = history.is_up c.by && not (is_open_confirmed l)

-- ---- a server's open that has no answer

abbrev pub awaits_answer : Channel → Ledger → Bool
awaits_answer c l = not (history.is_up c.by) && not (is_open_confirmed l)

-- the number and the account, where it is the client's to answer
abbrev pub if_waiting : ℕ → ℕ → Option Channel → Option Ledger → Option (ℕ × Ledger)
if_waiting k n (Some c) (Some l) =
    elim ((c.client == k) && awaits_answer c l) [ true ↦ Some (n, l) | false ↦ None ]
if_waiting k n _ _ = None

-- of the channel that the server names so
abbrev pub waiting_under : List TableEntry → ℕ → Option ℕ → Option (ℕ × Ledger)
waiting_under es k None = None
waiting_under es k (Some n) = if_waiting k n (admitted_at es n) (ledger_at es n)

abbrev pub open_waiting_for : List TableEntry → ℕ → ℕ → Option (ℕ × Ledger)
open_waiting_for es k remote = waiting_under es k (number_of_remote es remote)

-- ---- the other side's number of a channel that is confirmed

-- the client of a channel uses the number for another one
abbrev pub own_is_used : List TableEntry → Option Channel → ℕ → Bool
own_is_used es None own = false
own_is_used es (Some c) own = is_some (number_of_own es c.client own)

abbrev pub uses_own : List TableEntry → ℕ → ℕ → Bool
uses_own es n own = own_is_used es (admitted_at es n) own

-- an entry changed, where it may be
abbrev pub changed_if : Bool → ℕ → (TableEntry → TableEntry) → List TableEntry → List TableEntry
changed_if true n f es = changed_at n f es
changed_if false n f es = es
