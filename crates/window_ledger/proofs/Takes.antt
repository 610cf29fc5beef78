-- One act that breaks nothing: the accounts represent the channel with that act.
use Rattle.std.proofs.Common.{◌≡◌, true, false, Bool, refl, sym, ap, ◌∙◌, subst, Option, Some, None, Ok, Err}
use Rattle.ssh_grammar.specs.declared.side.Side.{Side}
use Rattle.ssh_grammar.specs.declared.side.Side.TheVariants.{Up, Down}
use Rattle.ssh_grammar.specs.declared.fault.Breach.{Breach}
use Rattle.ssh_grammar.specs.declared.fault.Breach.TheVariants.{AfterClose, AfterEof, NotOpen}
use Rattle.mux_history.specs.Channels.{Channel, any_by, is_closes, is_confirmed, is_ends}
use Rattle.mux_history.specs.Ledger.{breach}
use Rattle.mux_history.specs.Laws.{with_act}
use Rattle.mux_history.proofs.RoomActs.{accounted-act, may-of}
use Rattle.window_ledger.specs.Act.{summary_act_of}
use Rattle.window_ledger.specs.Stands.{IsStateOf, is_answered}
use Rattle.window_ledger.specs.Step.{breach_in, judged, other_after, account_after, state_after}
use Rattle.window_ledger.specs.declared.act.Act.{Act}
use Rattle.window_ledger.specs.declared.act.Act.TheVariants.{Close, Data, Eof, Grant, Reply, Request}
use Rattle.window_ledger.specs.declared.ledger.State.{State}
use Rattle.window_ledger.specs.declared.ledger.State.TheVariants.{Confirmed, Opened}
use Rattle.window_ledger.proofs.Accounts.{MayEnd, other-goes, own-goes}
use Rattle.window_ledger.proofs.Breaches.{breach-is}

may-end : (way : Side) (act : Act) (x : Channel) → breach way (summary_act_of act) x ≡ None → MayEnd act way x
may-end way Eof x fine = by_case (is_confirmed x) (any_by way is_closes x.acts) (any_by way is_ends x.acts) fine
  where
    by_case : (a b c : Bool) → (elim a as (λ _. Option Breach) [ false ↦ Some NotOpen | true ↦ elim b as (λ _. Option Breach) [ true ↦ Some AfterClose | false ↦ elim c as (λ _. Option Breach) [ true ↦ Some AfterEof | false ↦ None ] ] ]) ≡ None → b ≡ false
    by_case true false c fine = refl
    by_case true true c fine = cc
    by_case false b c fine = cc
may-end way Close x fine = tt
may-end way (Data size) x fine = tt
may-end way (Grant add) x fine = tt
may-end way (Request want) x fine = tt
may-end way Reply x fine = tt

stays-confirmed : (way : Side) (act : Act) (x : Channel) → is_confirmed x ≡ true → is_confirmed (with_act way (summary_act_of act) x) ≡ true
stays-confirmed way Eof x so = so
stays-confirmed way Close x so = so
stays-confirmed way (Data size) x so = so
stays-confirmed way (Grant add) x so = so
stays-confirmed way (Request want) x so = so
stays-confirmed way Reply x so = so

goes : (way : Side) (act : Act) (state : State) (x : Channel) → IsStateOf state x → breach way (summary_act_of act) x ≡ None → IsStateOf (state_after way act state) (with_act way (summary_act_of act) x)
goes way act (Opened by window maximum) x stands fine = absurd (never (breach-is way act (Opened by window maximum) x stands ∙ fine))
  where
    never : Some NotOpen ≡ None → ⊥
    never e = cc
goes Up act (Confirmed up down) x stands fine = record {
  answered = stays-confirmed Up act x stands.answered;
  upward = ap (account_after act) stands.upward ∙ own-goes Up act x (may-end Up act x fine) (stands.sound Up);
  downward = ap (other_after act) stands.downward ∙ other-goes Up act x (stands.sound Down).within;
  sound = accounted-act Up (summary_act_of act) x (may-of Up (summary_act_of act) x fine) stands.sound;
}
goes Down act (Confirmed up down) x stands fine = record {
  answered = stays-confirmed Down act x stands.answered;
  upward = ap (other_after act) stands.upward ∙ other-goes Down act x (stands.sound Up).within;
  downward = ap (account_after act) stands.downward ∙ own-goes Down act x (may-end Down act x fine) (stands.sound Down);
  sound = accounted-act Down (summary_act_of act) x (may-of Down (summary_act_of act) x fine) stands.sound;
}

-- ---- the answer of a step

none-of : {A : Type 0} (b : Option Breach) (made given : A) → Ok given ≡ judged b made → b ≡ None
none-of None made given is = refl
none-of (Some breach) made given is = cc

made-of : {A : Type 0} (b : Option Breach) (made given : A) → Ok given ≡ judged b made → made ≡ given
made-of None made given is = cc
made-of (Some breach) made given is = cc

some-of : {A : Type 0} (b : Option Breach) (made : A) (e : Breach) → Err e ≡ judged b made → b ≡ Some e
some-of None made e is = cc
some-of (Some breach) made e is = cc

pub takes : (way : Side) (act : Act) (old new : State) → Ok new ≡ judged (breach_in way act old) (state_after way act old) → (x : Channel) → IsStateOf old x → breach way (summary_act_of act) x ≡ None
takes way act old new is x stands = sym (breach-is way act old x stands) ∙ none-of (breach_in way act old) (state_after way act old) new is

pub refuses : (way : Side) (act : Act) (old : State) (e : Breach) → Err e ≡ judged (breach_in way act old) (state_after way act old) → (x : Channel) → IsStateOf old x → breach way (summary_act_of act) x ≡ Some e
refuses way act old e is x stands = sym (breach-is way act old x stands) ∙ some-of (breach_in way act old) (state_after way act old) e is

pub goes-on : (way : Side) (act : Act) (old new : State) → Ok new ≡ judged (breach_in way act old) (state_after way act old) → (x : Channel) → IsStateOf old x → IsStateOf new (with_act way (summary_act_of act) x)
goes-on way act old new is x stands = subst (λ s. IsStateOf s (with_act way (summary_act_of act) x)) (made-of (breach_in way act old) (state_after way act old) new is) (goes way act old x stands (takes way act old new is x stands))
