-- For the crates above: what a client that is lost leaves of an account.
use Rattle.std.proofs.Common.{◌≡◌, true, false, Bool, refl, sym, ap, ◌∙◌, Option, Some, None}
use Rattle.std.specs.Prelude.{◌&&◌}
use Rattle.ssh_grammar.specs.declared.side.Side.{Side}
use Rattle.ssh_grammar.specs.declared.side.Side.TheVariants.{Up, Down}
use Rattle.ssh_grammar.specs.declared.fault.Breach.{Breach}
use Rattle.ssh_grammar.specs.declared.fault.Breach.TheVariants.{AfterClose, NotOpen}
use Rattle.mux_history.specs.Summary.{Closes}
use Rattle.mux_history.specs.Channels.{Channel, any_by, is_closes, is_confirmed, is_ends}
use Rattle.mux_history.specs.Ledger.{breach}
use Rattle.mux_history.specs.Laws.{with_act}
use Rattle.mux_history.proofs.RoomActs.{accounted-act, may-of}
use Rattle.window_ledger.specs.Stands.{IsStateOf, account_of, both_closed, is_answered, speech_of}
use Rattle.window_ledger.specs.Leaving.{is_speech_closed, is_over_in, left_state, sent_close_in}
use Rattle.window_ledger.specs.declared.account.Account.{Account}
use Rattle.window_ledger.specs.declared.account.Speech.{Speech}
use Rattle.window_ledger.specs.declared.account.Speech.TheVariants.{Closed, Ended, Speaking}
use Rattle.window_ledger.specs.declared.act.Act.TheVariants.{Close}
use Rattle.window_ledger.specs.declared.ledger.State.{State}
use Rattle.window_ledger.specs.declared.ledger.State.TheVariants.{Confirmed, Opened}
use Rattle.window_ledger.proofs.Accounts.{other-goes, own-goes}

speech-closed : (way : Side) (x : Channel) → is_speech_closed (speech_of way x) ≡ any_by way is_closes x.acts
speech-closed way x = by_case (any_by way is_closes x.acts) (any_by way is_ends x.acts)
  where
    by_case : (b c : Bool) → is_speech_closed (elim b as (λ _. Speech) [ true ↦ Closed | false ↦ elim c as (λ _. Speech) [ true ↦ Ended | false ↦ Speaking ] ]) ≡ b
    by_case true c = refl
    by_case false true = refl
    by_case false false = refl

pub said-is : (state : State) (x : Channel) → IsStateOf state x → sent_close_in state ≡ any_by Up is_closes x.acts
said-is (Opened by window maximum) x is = ap (any_by Up is_closes) (sym is.fresh)
said-is (Confirmed up down) x is = ap (λ (a : Account). is_speech_closed a.speech) is.upward ∙ speech-closed Up x

pub over-is : (state : State) (x : Channel) → IsStateOf state x → is_over_in state ≡ both_closed x
over-is (Opened by window maximum) x is = ap (λ acts. any_by Up is_closes acts && any_by Down is_closes acts) (sym is.fresh)
over-is (Confirmed up down) x is =
    ap (λ (a : Account). is_speech_closed a.speech && is_speech_closed down.speech) is.upward
    ∙ (ap (λ (a : Account). is_speech_closed (speech_of Up x) && is_speech_closed a.speech) is.downward
    ∙ (ap (λ b. b && is_speech_closed (speech_of Down x)) (speech-closed Up x) ∙ ap (λ b. any_by Up is_closes x.acts && b) (speech-closed Down x)))

-- CLOSE breaks nothing in a confirmed channel in which it wasn't sent
fine : (x : Channel) → is_confirmed x ≡ true → any_by Up is_closes x.acts ≡ false → breach Up Closes x ≡ None
fine x so not_yet = ap (λ b. elim b as (λ _. Option Breach) [ false ↦ Some NotOpen | true ↦ elim (any_by Up is_closes x.acts) as (λ _. Option Breach) [ true ↦ Some AfterClose | false ↦ None ] ]) so ∙ ap (λ b. elim b as (λ _. Option Breach) [ true ↦ Some AfterClose | false ↦ None ]) not_yet

same-closed : (a : Account) (x : Channel) → a ≡ account_of Up x → any_by Up is_closes x.acts ≡ true → (let b : Account = record a { speech = Closed } in b) ≡ account_of Up x
same-closed a x is closed =
    ap (λ (c : Account). let b : Account = record c { speech = Closed } in b) is
    ∙ ap (λ s. let b : Account = record (account_of Up x) { speech = s } in b) (sym (ap (λ b. elim b as (λ _. Speech) [ true ↦ Closed | false ↦ elim (any_by Up is_ends x.acts) as (λ _. Speech) [ true ↦ Ended | false ↦ Speaking ] ]) closed))

-- where the client has sent CLOSE already the account stays
pub left-said : (state : State) (x : Channel) → IsStateOf state x → any_by Up is_closes x.acts ≡ true → IsStateOf (left_state state) x
left-said (Opened by window maximum) x is closed = is
left-said (Confirmed up down) x is closed = record { answered = is.answered; upward = same-closed up x is.upward closed; downward = is.downward; sound = is.sound }

-- else it is that of the channel with CLOSE
pub left-now : (state : State) (x : Channel) → IsStateOf state x → is_answered state ≡ true → any_by Up is_closes x.acts ≡ false → IsStateOf (left_state state) (with_act Up Closes x)
left-now (Opened by window maximum) x is so not_yet = absurd (cc)
left-now (Confirmed up down) x is so not_yet = record {
  answered = is.answered;
  upward = ap (λ (a : Account). let b : Account = record a { speech = Closed } in b) is.upward ∙ own-goes Up Close x tt (is.sound Up);
  downward = is.downward ∙ other-goes Up Close x (is.sound Down).within;
  sound = accounted-act Up Closes x (may-of Up Closes x (fine x is.answered not_yet)) is.sound;
}

pub left-answered : (state : State) → is_answered (left_state state) ≡ is_answered state
left-answered (Opened by window maximum) = refl
left-answered (Confirmed up down) = refl

-- one that isn't confirmed stays
pub left-opened : (state : State) → is_answered state ≡ false → left_state state ≡ state
left-opened (Opened by window maximum) h = refl
left-opened (Confirmed up down) h = absurd (cc)
