-- For the crates above: a ledger looks at no number of its channel, and knows whether it is
-- confirmed.
use Rattle.std.proofs.Common.{◌≡◌, ℕ, sym, ap, Option}
use Rattle.mux_history.specs.Channels.{Channel, any_act, is_confirmed, is_confirms}
use Rattle.window_ledger.specs.Stands.{IsStateOf, LedgerRepresents, is_open_confirmed, is_answered}
use Rattle.window_ledger.specs.declared.ledger.Ledger.{Ledger}
use Rattle.window_ledger.specs.declared.ledger.State.{State}
use Rattle.window_ledger.specs.declared.ledger.State.TheVariants.{Confirmed, Opened}

state-named : (own number remote : Option ℕ) (state : State) (x : Channel) → IsStateOf state x → IsStateOf state (record x { own = own; number = number; remote = remote })
state-named own number remote (Opened by window maximum) x is = record { opener = is.opener; first = is.first; longest = is.longest; fresh = is.fresh }
state-named own number remote (Confirmed up down) x is = record { answered = is.answered; upward = is.upward; downward = is.downward; sound = λ way. record { within = (is.sound way).within; answered = (is.sound way).answered } }

pub stands-named : (own number remote : Option ℕ) (ledger : Ledger) (x : Channel) → LedgerRepresents ledger x → LedgerRepresents ledger (record x { own = own; number = number; remote = remote })
stands-named own number remote ledger x stands = state-named own number remote ledger.state x stands

answered-is : (state : State) (x : Channel) → IsStateOf state x → is_answered state ≡ is_confirmed x
answered-is (Opened by window maximum) x is = ap (λ acts. any_act is_confirms acts) (sym is.fresh)
answered-is (Confirmed up down) x is = sym is.answered

pub confirmed-is : (ledger : Ledger) (x : Channel) → LedgerRepresents ledger x → is_open_confirmed ledger ≡ is_confirmed x
confirmed-is ledger x stands = answered-is ledger.state x stands
