-- A ledger represents a channel of the history (RFC 4254, section 5).
use Rattle.std.specs.Prelude.{◌≡◌, ◌+◌, ◌&&◌, ℕ, Bool, true, false, [], Option, Some, None, Result, Ok, Err}
use Rattle.ssh_grammar.specs.declared.side.Side.{Side}
use Rattle.ssh_grammar.specs.declared.side.Side.TheVariants.{Up, Down}
use Rattle.ssh_grammar.specs.declared.fault.Breach.{Breach}
use Rattle.mux_history.specs.Summary.{Act, Confirms}
use Rattle.mux_history.specs.Channels.{Channel, any_by, is_closes, is_confirmed, is_ends}
use Rattle.mux_history.specs.Ledger.{breach, carried, granted_size, initial, maximum_of, other_side, room, sum_of, unanswered}
use Rattle.mux_history.specs.Laws.{IsAccounted, with_act}
use Rattle.window_ledger.specs.declared.account.Account.{Account}
use Rattle.window_ledger.specs.declared.account.Speech.{Speech}
use Rattle.window_ledger.specs.declared.account.Speech.TheVariants.{Speaking, Ended, Closed}
use Rattle.window_ledger.specs.declared.ledger.Ledger.{Ledger}
use Rattle.window_ledger.specs.declared.ledger.State.{State}
use Rattle.window_ledger.specs.declared.ledger.State.TheVariants.{Opened, Confirmed}

-- what the sender of a direction has ended
abbrev pub speech_of : Side → Channel → Speech
speech_of way x = elim (any_by way is_closes x.acts)
    [ true ↦ Closed | false ↦ elim (any_by way is_ends x.acts) [ true ↦ Ended | false ↦ Speaking ] ]

-- the account of a direction: the sums over all that was done in the channel
abbrev pub account_of : Side → Channel → Account
account_of way x = record {
  room = room way x;
  maximum = maximum_of way x;
  unanswered =
      unanswered way x;
  speech = speech_of way x;
}

-- a side has opened the channel with this window and this maximum, and nothing was done in it yet
pub record IsSideBegun (by : Side) (window maximum : ℕ) (x : Channel) : Type 0 where
  pub opener : x.by ≡ by
  pub first : x.window ≡ window
  pub longest : x.maximum ≡ maximum
  pub fresh : x.acts ≡ []

-- the channel is confirmed, these are its accounts, and no more was carried than granted, nor
-- answered than asked
pub record AreAccounts (up down : Account) (x : Channel) : Type 0 where
  pub answered : is_confirmed x ≡ true
  pub upward : up ≡ account_of Up x
  pub downward : down ≡ account_of Down x
  pub sound : (way : Side) → IsAccounted way x

abbrev pub IsStateOf : State → Channel → Type 0
IsStateOf (Opened by window maximum) x = IsSideBegun by window maximum x
IsStateOf (Confirmed up down) x = AreAccounts up down x

-- a ledger represents a channel
abbrev pub LedgerRepresents : Ledger → Channel → Type 0
LedgerRepresents ledger x = IsStateOf ledger.state x

abbrev pub is_answered : State → Bool
is_answered (Opened by window maximum) = false
is_answered (Confirmed up down) = true

-- the open of its channel was confirmed
abbrev pub is_open_confirmed : Ledger → Bool
is_open_confirmed ledger = is_answered ledger.state

-- a call answers with the breach, where there is one
abbrev pub AnswersBreach : {A : Type 0} → Result A Breach → Option Breach → Type 0
AnswersBreach (Ok a) broken = broken ≡ None
AnswersBreach (Err breach) broken = broken ≡ Some breach

-- of each channel for which a ledger stands, a call answers with what one more act would break
-- there
abbrev pub Judges : {A : Type 0} → Ledger → Side → Act → Result A Breach → Type 0
Judges ledger way act result = (x : Channel) → LedgerRepresents ledger x → AnswersBreach result (breach way act x)

-- of each channel for which a ledger stood before, it stands afterwards for the channel with one
-- more act
abbrev pub LedgerGoesOn : Ledger → Ledger → Side → Act → Type 0
LedgerGoesOn old new way act = (x : Channel) → LedgerRepresents old x → LedgerRepresents new (with_act way act x)

-- and for the channel that the other side has confirmed with this window and this maximum
abbrev pub IsConfirmed : Ledger → Ledger → (window maximum : ℕ) → Type 0
IsConfirmed old new window maximum = (x : Channel) → LedgerRepresents old x
    → LedgerRepresents new (with_act (other_side x.by) (Confirms window maximum) x)

-- what is left for a direction and what was carried in it make up all that was granted for it
abbrev pub AccountAddsUp : (left : ℕ) → Side → Channel → Type 0
AccountAddsUp left way x = left + sum_of carried way x.acts
    ≡ initial way x + sum_of granted_size (other_side way) x.acts

-- both sides have sent CLOSE
abbrev pub both_closed : Channel → Bool
both_closed x = any_by Up is_closes x.acts && any_by Down is_closes x.acts
