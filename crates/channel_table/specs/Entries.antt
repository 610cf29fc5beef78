-- The table as one list of channels, in the order in which they began: its look-ups and its
-- changes.
use Rattle.std.specs.Prelude.{◌≡◌, ◌<◌, ◌≤◌, ◌^◌, ℕ, ◌==◌, ◌&&◌, ◌||◌, Bool, true, false, not, nat_lt, List, [], ◌∷◌, length, filter, find, map, slice_get, Option, Some, None, is_some, option_map, Result, Ok, Err}
use Rattle.std.specs.List.{AllByRecursion}
use Rattle.ssh_grammar.specs.declared.side.Side.TheVariants.{Up, Down}
use Rattle.mux_history.specs.declared.limits.TheConstants.{MAX_CHANNELS, NUMBERS_END}
use Rattle.mux_history.specs.Channels.{is_number, is_up}
use Rattle.window_ledger.specs.declared.ledger.Ledger.{Ledger}
use Rattle.channel_table.specs.declared.channel.Channel.{Channel}
use Rattle.channel_table.specs.declared.channel.Refused.{Refused}
use Rattle.channel_table.specs.declared.channel.Refused.TheVariants as refused

-- a channel with the number under which it was admitted, and its account
pub record TableEntry : Type 0 where
  pub number : ℕ
  pub channel : Channel
  pub ledger : Ledger

-- ---- look-ups

-- it was admitted under this number
abbrev pub is_at : ℕ → TableEntry → Bool
is_at n e = e.number == n

-- it is a channel of this client
abbrev pub is_channel_of : ℕ → TableEntry → Bool
is_channel_of k e = e.channel.client == k

-- the client uses this own number for it
abbrev pub has_own : (client own : ℕ) → TableEntry → Bool
has_own k c e = (e.channel.client == k) && is_number e.channel.own c

-- the server uses this number for it
abbrev pub has_remote : (remote : ℕ) → TableEntry → Bool
has_remote s e = is_number e.channel.remote s

-- its number represents it towards the server: of a server's open only once the client has
-- confirmed it
abbrev pub is_shown : Channel → Bool
is_shown c = is_up c.by || is_some c.own

abbrev pub shown_at : ℕ → TableEntry → Bool
shown_at n e = (e.number == n) && is_shown e.channel

-- the entry under a number
abbrev pub entry_at : List TableEntry → ℕ → Option TableEntry
entry_at es n = find (is_at n) es

-- its channel
abbrev pub admitted_at : List TableEntry → ℕ → Option Channel
admitted_at es n = option_map (λ e. e.channel) (find (is_at n) es)

-- its account
abbrev pub ledger_at : List TableEntry → ℕ → Option Ledger
ledger_at es n = option_map (λ e. e.ledger) (find (is_at n) es)

-- the channel for which a number stands towards the server
abbrev pub channel_at : List TableEntry → ℕ → Option Channel
channel_at es n = option_map (λ e. e.channel) (find (shown_at n) es)

-- the number of the channel that a client names so
abbrev pub number_of_own : List TableEntry → (client own : ℕ) → Option ℕ
number_of_own es k c = option_map (λ e. e.number) (find (has_own k c) es)

-- the number of the channel that the server names so
abbrev pub number_of_remote : List TableEntry → (remote : ℕ) → Option ℕ
number_of_remote es s = option_map (λ e. e.number) (find (has_remote s) es)

-- whose channel the server names so
abbrev pub holder_of : List TableEntry → (remote : ℕ) → Option ℕ
holder_of es s = option_map (λ e. e.channel.client) (find (has_remote s) es)

-- how many channels a client has
abbrev pub channel_count_of : List TableEntry → (client : ℕ) → ℕ
channel_count_of es k = length (filter (is_channel_of k) es)

-- the entry of a client's channel, in the order in which they began
abbrev pub nth_entry : List TableEntry → (client i : ℕ) → Option TableEntry
nth_entry es k i = slice_get (filter (is_channel_of k) es) i

abbrev pub nth_number : List TableEntry → (client i : ℕ) → Option ℕ
nth_number es k i = option_map (λ e. e.number) (nth_entry es k i)

-- ---- changes

-- an entry, changed where it is the one under this number
abbrev pub at_number : ℕ → (TableEntry → TableEntry) → TableEntry → TableEntry
at_number n f e = elim (e.number == n) [ true ↦ f e | false ↦ e ]

abbrev pub with_ledger : Ledger → TableEntry → TableEntry
with_ledger ledger e = record e { ledger = ledger }

abbrev pub entry_with_own : ℕ → TableEntry → TableEntry
entry_with_own own e = record e { channel = record e.channel { own = Some own } }

abbrev pub with_remote : ℕ → TableEntry → TableEntry
with_remote remote e = record e { channel = record e.channel { remote = Some remote } }

-- with the entry under a number changed
abbrev pub changed_at : ℕ → (TableEntry → TableEntry) → List TableEntry → List TableEntry
changed_at n f es = map (at_number n f) es

-- without the entry under a number
abbrev pub freed : ℕ → List TableEntry → List TableEntry
freed n es = filter (λ e. not (e.number == n)) es

-- a channel that its client has opened, and one that the server has opened
abbrev pub own_entry : (number client own : ℕ) → Ledger → TableEntry
own_entry n k own ledger =
    record {
      number = n;
      channel = record { client = k; own = Some own; remote = None; by = Up };
      ledger = ledger;
    }

abbrev pub remote_entry : (number client remote : ℕ) → Ledger → TableEntry
remote_entry n k remote ledger =
    record {
      number = n;
      channel =
          record { client = k; own = None; remote = Some remote; by = Down };
      ledger = ledger;
    }

-- ---- refusals, the first that fits

-- a refusal where the test is passed, or else another
abbrev pub unless : Bool → Refused → Option Refused → Option Refused
unless true why later = Some why
unless false why later = later

-- a refusal where there is a holder, or else another
abbrev pub unless_held : Option ℕ → Option Refused → Option Refused
unless_held None later = later
unless_held (Some holder) later = Some (refused.RemoteInUse holder)

-- the client has all the channels that it may have
abbrev pub full_refusal : List TableEntry → (client : ℕ) → Option Refused
full_refusal es k = unless (not (nat_lt (channel_count_of es k) MAX_CHANNELS))
    (refused.Full (channel_count_of es k)) None

-- of a channel that a client opens under an own number
abbrev pub own_refusal : List TableEntry → (client own : ℕ) → Option Refused
own_refusal es k own =
    unless (is_some (number_of_own es k own)) refused.OwnInUse (full_refusal es k)

-- of a channel that the server opens to a client
abbrev pub remote_refusal : List TableEntry → (client remote : ℕ) → Option Refused
remote_refusal es k remote = unless_held (holder_of es remote) (full_refusal es k)

-- of an own number for a channel, where there is one
abbrev pub own_in_use : List TableEntry → Option Channel → (own : ℕ) → Option Refused
own_in_use es None own = None
own_in_use es (Some c) own = unless (is_some (number_of_own es c.client own)) refused.OwnInUse None

-- of a number of the server's
abbrev pub remote_in_use : List TableEntry → (remote : ℕ) → Option Refused
remote_in_use es remote = unless_held (holder_of es remote) None

-- a call answers with the refusal exactly where there is one; memory is asked for last
abbrev pub RefusesAs : {A : Type 0} → Result A Refused → Option Refused → Type 0
RefusesAs (Ok a) why = why ≡ None
RefusesAs (Err refused.OutOfMemory) why = why ≡ None
RefusesAs (Err other) why = why ≡ Some other

-- a number of the client's, or of the server's, is admitted, or refused
abbrev pub SetsOwn : {A : Type 0} → List TableEntry → (number own : ℕ) → Result A Refused → Type 0
SetsOwn es n own result = RefusesAs result (own_in_use es (admitted_at es n) own)

abbrev pub SetsRemote : {A : Type 0} → List TableEntry → (remote : ℕ) → Result A Refused → Type 0
SetsRemote es remote result = RefusesAs result (remote_in_use es remote)

-- ---- numbers

-- no channel was admitted under this number, which is below 16,384
pub record IsNumberFree (es : List TableEntry) (n : ℕ) : Type 0 where
  pub below : n < NUMBERS_END
  pub unused : find (is_at n) es ≡ None

-- two entries share no number of any kind
pub record AreTwo (e f : TableEntry) : Type 0 where
  pub number : (e.number == f.number) ≡ false
  pub remote : (s : ℕ) → is_number e.channel.remote s ≡ true → is_number f.channel.remote s ≡ false
  pub own : (c : ℕ) → (e.channel.client == f.channel.client) ≡ true
      → is_number e.channel.own c ≡ true → is_number f.channel.own c ≡ false

-- no number names two channels
abbrev pub AreApart : List TableEntry → Type 0
AreApart [] = Unit {0}
AreApart (e ∷ es) = AllByRecursion (AreTwo e) es × AreApart es

-- its number is below 16,384, and the others fit in four bytes
pub record HasSmallNumbers (e : TableEntry) : Type 0 where
  pub number : e.number < NUMBERS_END
  pub own : (c : ℕ) → e.channel.own ≡ Some c → c < 2 ^ 32
  pub remote : (s : ℕ) → e.channel.remote ≡ Some s → s < 2 ^ 32

-- what holds of every table: no number names two channels, no client has more than 256, and each
-- number is small
pub record AreSound (es : List TableEntry) : Type 0 where
  pub apart : AreApart es
  pub few : (k : ℕ) → channel_count_of es k ≤ MAX_CHANNELS
  pub small : AllByRecursion HasSmallNumbers es
