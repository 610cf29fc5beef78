-- What holds between the forwardings before and after what is asked for, at the start and by clients.
use Rattle.std.proofs.Common.{◌≡◌, sym, ap, subst, arith, ℕ, zero, suc, ◌≤◌, Bool, true, false, List, [], ◌∷◌, ◌++◌, length, map, Option, Some, None}
use Rattle.std.specs.Prelude.{slice_get}
use Rattle.mux_outside.specs.declared.start_ask.StartAsk.{StartAsk}
use Rattle.house_forward.specs.Forwardings.{AskedAtStart, StartsIf, Standing, OpensForwarding, forwarding_changed, standing, closes_of, after_close, EndsLeave, ComesIf, ComesUnless, is_first}
use Rattle.house_forward.specs.Rules.{is_ruled_out}
use Rattle.house_forward.specs.declared.asks.ImmediateOutcome.{ImmediateOutcome}
use Rattle.house_forward.specs.declared.asks.ImmediateOutcome.TheVariants.{Now, Later}
use Rattle.house_forward.specs.declared.forwarding.Change.TheVariants as change
use Rattle.house_forward.specs.declared.forwarding.Forwarding.{Forwarding}
use Rattle.house_forward.specs.declared.rules.Ends.{Ends}
use Rattle.house_forward.specs.declared.rules.ListenRules.{ListenRules}
use Rattle.house_forward.proofs.Causing.{in-range, there-is}

-- it holds where nothing changes, where one is added for which nothing was done yet, and where one is
-- closed; and where it holds twice it does so in all
pub record HoldsOnAsk (R : List Forwarding → List Forwarding → Type 0) : Type 0 where
  pub same : (fs : List Forwarding) → R fs fs
  pub both : (a b c : List Forwarding) → R a b → R b c → R a c
  pub more : (fs : List Forwarding) (f : Forwarding) → is_first f.stage ≡ true → R fs (fs ++ f ∷ [])
  pub closes : (serial : ℕ) (fs : List Forwarding) → R fs (map (forwarding_changed change.Close serial) fs)

on-same : (R : List Forwarding → List Forwarding → Type 0) → HoldsOnAsk R → (old new : List Forwarding) → new ≡ old → R old new
on-same R h old new e = subst (R old) (sym e) (h.same old)

on-opens : (R : List Forwarding → List Forwarding → Type 0) → HoldsOnAsk R → (b : Bool) (ends : Ends) (serial : ℕ) (start : Option ℕ)
    (old new : List Forwarding) → OpensForwarding b ends serial start old new → R old new
on-opens R h false ends serial start old new o = on-same R h old new o
on-opens R h true ends serial start old new o = subst (R old) (sym o.2) (h.more old o.0 o.1.first)

on-start : (R : List Forwarding → List Forwarding → Type 0) → HoldsOnAsk R → (b : Bool) (rules : ListenRules) (ask : StartAsk) (i : ℕ)
    (old new : Standing) → StartsIf b rules ask i old new → R old.all new.all
on-start R h true rules ask i old new s = on-same R h old.all new.all (ap (λ (t : Standing). t.all) s)
on-start R h false rules ask i old new s = on-opens R h _ s.0 old.serials (Some i) old.all new.all s.2.all

-- all that is asked for at the start
pub on-starts : (R : List Forwarding → List Forwarding → Type 0) → HoldsOnAsk R → (rules : ListenRules) (asks : List StartAsk) (i : ℕ)
    (old new : Standing) → i ≤ length asks → AskedAtStart rules asks i old new → R old.all new.all
on-starts R h rules asks zero old new l b = on-same R h old.all new.all (ap (λ (t : Standing). t.all) b)
on-starts R h rules asks (suc i) old new l b =
    let at = in-range asks i (omega arith) in
    let starts = there-is (λ (ask : StartAsk). StartsIf (is_ruled_out rules ask) rules ask i b.0 new) (slice_get asks i) at.0 at.1 b.2 in
    h.both old.all b.0.all new.all (on-starts R h rules asks i old b.0 (omega arith) b.1)
    (on-start R h (is_ruled_out rules at.0) rules at.0 i b.0 new starts)

on-closed : (R : List Forwarding → List Forwarding → Type 0) → HoldsOnAsk R → (comes : ImmediateOutcome) (old new : List Forwarding)
    → new ≡ after_close comes old → R old new
on-closed R h (Now o) old new e = on-same R h old new e
on-closed R h (Later serial) old new e = subst (R old) (sym e) (h.closes serial old)

on-ends : (R : List Forwarding → List Forwarding → Type 0) → HoldsOnAsk R → (opening : Bool) (serial : ℕ) (ends : Ends)
    (old new : List Forwarding) → EndsLeave opening serial ends old new → R old new
on-ends R h true serial ends old new e = on-opens R h _ ends serial None old new e
on-ends R h false serial ends old new e = on-closed R h (closes_of (standing ends old)) old new e

on-if : (R : List Forwarding → List Forwarding → Type 0) → HoldsOnAsk R → (alone : Bool) (rules : ListenRules) (opening : Bool) (ask : StartAsk) (serial : ℕ)
    (old new : List Forwarding) (comes : ImmediateOutcome) → ComesIf alone rules opening ask serial old new comes → R old new
on-if R h true rules opening ask serial old new comes c = on-same R h old new c.1
on-if R h false rules opening ask serial old new comes c = on-ends R h opening serial c.0 old new c.3

-- a client's ask
pub on-ask : (R : List Forwarding → List Forwarding → Type 0) → HoldsOnAsk R → (away : Bool) (rules : ListenRules) (opening : Bool) (ask : StartAsk) (serial : ℕ)
    (old new : List Forwarding) (comes : ImmediateOutcome) → ComesUnless away rules opening ask serial old new comes → R old new
on-ask R h true rules opening ask serial old new comes c = on-same R h old new c.1
on-ask R h false rules opening ask serial old new comes c = on-if R h (is_ruled_out rules ask) rules opening ask serial old new comes c
