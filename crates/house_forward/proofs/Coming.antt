-- The outcome of a request.
use Rattle.std.proofs.Common.{◌≡◌, ◌∙◌, refl, ap, ℕ, Bool, true, false, List, Some, None, arith}
use Rattle.std.specs.Prelude.{not, length, Result, Ok, Err, IfOk, OnOk}
use Rattle.mux_outside.specs.House.{order_marks}
use Rattle.mux_outside.specs.declared.order.Order.{Order}
use Rattle.mux_outside.specs.declared.order.Order.TheVariants as order
use Rattle.mux_outside.specs.declared.start_ask.StartAsk.{StartAsk}
use Rattle.house_forward.specs.Forwardings.{ComesIf, ComesUnless, EndsLeave, OpensForwarding, is_new, after_close, comes_of_ends, standing, opens_of, closes_of, ListensFirst}
use Rattle.house_forward.specs.Links.{ConnectsFirst}
use Rattle.house_forward.specs.Rules.{AreEnds, is_ruled_out}
use Rattle.house_forward.specs.declared.asks.ImmediateOutcome.{ImmediateOutcome}
use Rattle.house_forward.specs.declared.asks.ImmediateOutcome.TheVariants.{Now}
use Rattle.house_forward.specs.declared.asks.RequestOutcome.TheVariants.{Refused}
use Rattle.house_forward.specs.declared.forwarding.Forwarding.{Forwarding}
use Rattle.house_forward.specs.declared.link.Link.{Link}
use Rattle.house_forward.specs.declared.rules.Ends.{Ends}
use Rattle.house_forward.specs.declared.rules.ListenRules.{ListenRules}

-- ---- requests

refused-if : (b : Bool) (rules : ListenRules) (opening : Bool) (ask : StartAsk) (serial : ℕ) (fs : List Forwarding) → false ≡ not b
    → ComesIf b rules opening ask serial fs fs (Now Refused)
refused-if true rules opening ask serial fs e = (refl, refl)
refused-if false rules opening ask serial fs e = cc

ends-if : (b : Bool) (rules : ListenRules) (opening : Bool) (ask : StartAsk) (serial : ℕ) (fs new : List Forwarding) → true ≡ not b
    → (ends : Ends) → AreEnds rules ask ends → (asked : ImmediateOutcome) → asked ≡ comes_of_ends opening serial ends fs
    → EndsLeave opening serial ends fs new → ComesIf b rules opening ask serial fs new asked
ends-if true rules opening ask serial fs new e ends are asked same leaves = cc
ends-if false rules opening ask serial fs new e ends are asked same leaves = (ends, are, same, leaves)

unless : (away : Bool) (rules : ListenRules) (opening : Bool) (ask : StartAsk) (serial : ℕ) (fs new : List Forwarding) (asked : ImmediateOutcome) → away ≡ false
    → ComesIf (is_ruled_out rules ask) rules opening ask serial fs new asked → ComesUnless away rules opening ask serial fs new asked
unless true rules opening ask serial fs new asked e h = cc
unless false rules opening ask serial fs new asked e h = h

-- the client has an open ask with its id, or as many wait as may
pub turned-away : (away : Bool) (rules : ListenRules) (opening : Bool) (ask : StartAsk) (serial : ℕ) (fs : List Forwarding) → away ≡ true
    → ComesUnless away rules opening ask serial fs fs (Now Refused)
turned-away true rules opening ask serial fs e = (refl, refl)
turned-away false rules opening ask serial fs e = cc

-- it is refused whatever stands
pub refused-alone : (away : Bool) (rules : ListenRules) (opening : Bool) (ask : StartAsk) (serial : ℕ) (fs : List Forwarding) → away ≡ false
    → false ≡ not (is_ruled_out rules ask) → ComesUnless away rules opening ask serial fs fs (Now Refused)
refused-alone away rules opening ask serial fs e alone =
    unless away rules opening ask serial fs fs (Now Refused) e (refused-if (is_ruled_out rules ask) rules opening ask serial fs alone)

-- its two ends are looked at
pub by-ends : (away : Bool) (rules : ListenRules) (opening : Bool) (ask : StartAsk) (serial : ℕ) (fs new : List Forwarding) → away ≡ false
    → true ≡ not (is_ruled_out rules ask) → (ends : Ends) → AreEnds rules ask ends → (asked : ImmediateOutcome)
    → asked ≡ comes_of_ends opening serial ends fs → EndsLeave opening serial ends fs new
    → ComesUnless away rules opening ask serial fs new asked
by-ends away rules opening ask serial fs new e alone ends are asked same leaves =
    unless away rules opening ask serial fs new asked e
    (ends-if (is_ruled_out rules ask) rules opening ask serial fs new alone ends are asked same leaves)

pub opens-there : (opening : Bool) (serial : ℕ) (ends : Ends) (fs : List Forwarding) (asked : ImmediateOutcome) → opening ≡ true
    → asked ≡ opens_of serial ends fs (standing ends fs) → asked ≡ comes_of_ends opening serial ends fs
opens-there true serial ends fs asked e h = h
opens-there false serial ends fs asked e h = cc

pub opens-leaves : (opening : Bool) (serial : ℕ) (ends : Ends) (fs new : List Forwarding) → opening ≡ true
    → OpensForwarding (is_new ends fs (standing ends fs)) ends serial None fs new → EndsLeave opening serial ends fs new
opens-leaves true serial ends fs new e h = h
opens-leaves false serial ends fs new e h = cc

pub closes-there : (opening : Bool) (serial : ℕ) (ends : Ends) (fs : List Forwarding) (asked : ImmediateOutcome) → opening ≡ false
    → asked ≡ closes_of (standing ends fs) → asked ≡ comes_of_ends opening serial ends fs
closes-there true serial ends fs asked e h = cc
closes-there false serial ends fs asked e h = h

pub closes-leaves : (opening : Bool) (serial : ℕ) (ends : Ends) (fs new : List Forwarding) (asked : ImmediateOutcome) → opening ≡ false
    → asked ≡ closes_of (standing ends fs) → new ≡ after_close asked fs → EndsLeave opening serial ends fs new
closes-leaves true serial ends fs new asked e is h = cc
closes-leaves false serial ends fs new asked e is h = h ∙ ap (λ a. after_close a fs) is

pub if-ok : {X E : Type 0} (P Q : X → Type 0) (F : Type 0) (o : Result X E) → ((x : X) → P x → F → Q x) → IfOk o P → OnOk o F
    → IfOk o Q
if-ok P Q F (Ok x) f h k = f x h k
if-ok P Q F (Err e) f h k = tt

-- ---- orders

-- an order that has its mark at once is no Connect
pub connects-none : (o : Order) (ls : List Link) → length (order_marks (Some o)) ≡ 1 → ConnectsFirst (Some o) ls
connects-none (order.Listen host port) ls e = tt
connects-none (order.Connect host port) ls e = absurd (omega (arith, e))
connects-none (order.Unlisten l) ls e = tt
connects-none (order.Pause t) ls e = tt
connects-none (order.Resume t) ls e = tt
connects-none (order.Finish t) ls e = tt
connects-none (order.Close t) ls e = tt

-- and no Listen
pub listens-none : (o : Order) (fs : List Forwarding) → length (order_marks (Some o)) ≡ 1 → ListensFirst (Some o) fs
listens-none (order.Listen host port) fs e = absurd (omega (arith, e))
listens-none (order.Connect host port) fs e = tt
listens-none (order.Unlisten l) fs e = tt
listens-none (order.Pause t) fs e = tt
listens-none (order.Resume t) fs e = tt
listens-none (order.Finish t) fs e = tt
listens-none (order.Close t) fs e = tt
