-- One act in a confirmed channel, from the accounts of both directions.
use Rattle.std.specs.Prelude.{◌+◌, ◌-◌, ◌==◌, nat_lt, true, false, Option, Some, None, Result, Ok, Err}
use Rattle.ssh_grammar.specs.declared.side.Side.{Side}
use Rattle.ssh_grammar.specs.declared.side.Side.TheVariants.{Up, Down}
use Rattle.ssh_grammar.specs.declared.fault.Breach.{Breach}
use Rattle.ssh_grammar.specs.declared.fault.Breach.TheVariants.{NotOpen, AfterClose, AfterEof, Overflow, Unasked, TooManyAsks}
use Rattle.mux_history.specs.declared.limits.TheConstants.{MAX_CHANNEL_REQUESTS, MAX_WINDOW}
use Rattle.mux_history.specs.Ledger.{packet_breach}
use Rattle.window_ledger.specs.declared.account.Account.{Account}
use Rattle.window_ledger.specs.declared.account.Speech.{Speech}
use Rattle.window_ledger.specs.declared.account.Speech.TheVariants.{Speaking, Ended, Closed}
use Rattle.window_ledger.specs.declared.act.Act.{Act}
use Rattle.window_ledger.specs.declared.act.Act.TheVariants.{Data, Grant, Eof, Close, Request, Reply}
use Rattle.window_ledger.specs.declared.ledger.State.{State}
use Rattle.window_ledger.specs.declared.ledger.State.TheVariants.{Opened, Confirmed}

-- a value, or the breach that keeps it from being
abbrev pub judged : {A : Type 0} → Option Breach → A → Result A Breach
judged None a = Ok a
judged (Some breach) a = Err breach

-- a breach of one who has sent EOF, or else another
abbrev pub while_speaking : Speech → Option Breach → Option Breach
while_speaking Speaking other = other
while_speaking Ended other = Some AfterEof
while_speaking Closed other = Some AfterEof

-- a breach of one who has sent CLOSE, or else another
abbrev pub while_open : Speech → Option Breach → Option Breach
while_open Speaking other = other
while_open Ended other = other
while_open Closed other = Some AfterClose

-- what an act breaks in the account of its own direction
abbrev pub own_act_breach : Act → Account → Option Breach
own_act_breach (Data size) own = while_speaking own.speech (packet_breach own.maximum own.room size)
own_act_breach Eof own = while_speaking own.speech None
own_act_breach (Request true) own =
    elim (nat_lt own.unanswered MAX_CHANNEL_REQUESTS)
    [ true ↦ None | false ↦ Some (TooManyAsks own.unanswered) ]
own_act_breach _ own = None

abbrev pub own_breach : Act → Account → Option Breach
own_breach act own = while_open own.speech (own_act_breach act own)

-- and in that of the other direction
abbrev pub other_breach : Act → Account → Option Breach
other_breach (Grant add) other =
    elim (nat_lt MAX_WINDOW (other.room + add)) [
      | true ↦ Some (Overflow other.room add)
      | false ↦ None
    ]
other_breach Reply other = elim (other.unanswered == 0) [ true ↦ Some Unasked | false ↦ None ]
other_breach _ other = None

-- the account of its own direction after an act
abbrev pub account_after : Act → Account → Account
account_after (Data size) own = record own { room = own.room - size }
account_after Eof own = record own { speech = Ended }
account_after Close own = record own { speech = Closed }
account_after (Request true) own = record own { unanswered = own.unanswered + 1 }
account_after _ own = own

-- and that of the other direction
abbrev pub other_after : Act → Account → Account
other_after (Grant add) other = record other { room = other.room + add }
other_after Reply other = record other { unanswered = other.unanswered - 1 }
other_after _ other = other

abbrev pub first_breach : Option Breach → Option Breach → Option Breach
first_breach None later = later
first_breach (Some breach) later = Some breach

-- what an act breaks between the accounts of its own and of the other direction
abbrev pub between : Act → Account → Account → Option Breach
between act own other = first_breach (own_breach act own) (other_breach act other)

abbrev pub breach_in : Side → Act → State → Option Breach
breach_in way act (Opened by window maximum) = Some NotOpen
breach_in Up act (Confirmed up down) = between act up down
breach_in Down act (Confirmed up down) = between act down up

abbrev pub state_after : Side → Act → State → State
state_after way act (Opened by window maximum) = Opened by window maximum
state_after Up act (Confirmed up down) = Confirmed (account_after act up) (other_after act down)
state_after Down act (Confirmed up down) = Confirmed (other_after act up) (account_after act down)
