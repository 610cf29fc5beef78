-- What a client that is lost leaves of an account: CLOSE is sent in a channel that is confirmed.
use Rattle.std.specs.Prelude.{◌&&◌, Bool, true, false}
use Rattle.window_ledger.specs.declared.account.Speech.{Speech}
use Rattle.window_ledger.specs.declared.account.Speech.TheVariants.{Speaking, Ended, Closed}
use Rattle.window_ledger.specs.declared.ledger.Ledger.{Ledger}
use Rattle.window_ledger.specs.declared.ledger.State.{State}
use Rattle.window_ledger.specs.declared.ledger.State.TheVariants.{Opened, Confirmed}

-- the sender of a direction has sent CLOSE
abbrev pub is_speech_closed : Speech → Bool
is_speech_closed Speaking = false
is_speech_closed Ended = false
is_speech_closed Closed = true

abbrev pub sent_close_in : State → Bool
sent_close_in (Opened by window maximum) = false
sent_close_in (Confirmed up down) = is_speech_closed up.speech

-- the client has sent CLOSE
abbrev pub has_sent_close : Ledger → Bool
has_sent_close ledger = sent_close_in ledger.state

abbrev pub is_over_in : State → Bool
is_over_in (Opened by window maximum) = false
is_over_in (Confirmed up down) = is_speech_closed up.speech && is_speech_closed down.speech

-- both sides have sent CLOSE
abbrev pub is_account_over : Ledger → Bool
is_account_over ledger = is_over_in ledger.state

abbrev pub left_state : State → State
left_state (Opened by window maximum) = Opened by window maximum
left_state (Confirmed up down) = Confirmed (record up { speech = Closed }) down

-- the account after the client's CLOSE, where its channel is confirmed
abbrev pub ledger_after_close : Ledger → Ledger
ledger_after_close ledger = record ledger { state = left_state ledger.state }
