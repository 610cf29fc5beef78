-- The greeting is sent once and first.
use Rattle.std.proofs.Common.{◌≡◌, ◌∙◌, refl, sym, ap, subst, ℕ, Bool, true, false, List, [], ◌∷◌, ◌++◌, Option, Some, None, inl, inr}
use Rattle.std.specs.Prelude.{◌⊎◌, find, Result, Ok, Err}
use Rattle.std.specs.List.{All}
use Rattle.std.proofs.lemmas.List.Elements.{All-nil, All-cons}
use Rattle.ssh_grammar.specs.Messages.{Message as Said, Plain, To}
use Rattle.ssh_grammar.specs.Messages as grammar
use Rattle.ssh_grammar.specs.ReadMessage.{read_message as reading}
use Rattle.ssh_grammar.specs.declared.fault.Bad.{Bad}
use Rattle.mux_outside.specs.HouseCalls.{HouseCall}
use Rattle.mux_outside.specs.HouseCalls.{Begins as IsBegun, Marks, Receives, Turns, Takes}
use Rattle.mux_outside.specs.declared.house_mark.HouseMark.{HouseMark}
use Rattle.mux_outside.specs.declared.house_mark.HouseMark.TheVariants.{HouseIn, HouseSaid, HouseTook, HouseAsked, HouseAnswer, HouseOrder}
use Rattle.mux_outside.specs.declared.order.Order.{Order}
use Rattle.mux_outside.specs.declared.order.Order.TheVariants as order
use Rattle.house_forward.specs.ForwarderEvents.{ForwarderEvent, Does, Leave, HappenBy, events_of_message, events_recorded_by, recorded_in, recorded_if, stage_next, ordered_by, AreMarked}
use Rattle.house_forward.specs.ForwarderEvents.{Begins, Asks, Answers, Greets, Requests, Replies, Listens, Unlistens}
use Rattle.house_forward.specs.ForwardingState.{ForwardingState}
use Rattle.house_forward.specs.Forwardings.{has_request}
use Rattle.house_forward.specs.Greeting.{IsFrame, GreetsOnce, sent_in, sent_on, sent_at, EachGreets}
use Rattle.house_forward.specs.RelayTraces.{Trace, first_trace, Follows, TraceReaches, SendsBy, RelaySendsIn}
use Rattle.house_forward.specs.declared.forwarding.Forwarding.{Forwarding}
use Rattle.house_forward.specs.declared.forwarder_state.ForwarderStage.{ForwarderStage}
use Rattle.house_forward.specs.declared.forwarder_state.ForwarderStage.TheVariants.{Control, Proxy}
use Rattle.mux_outside.specs.declared.greeting.TheConstants.{GREETING}
use Rattle.house_forward.proofs.Doing.{happens}

-- ---- who greets

abbrev greets : ForwarderEvent → Bool
greets (Begins starts) = false
greets (Asks client id opening ask reply) = false
greets (Answers client id reply) = false
greets Greets = true
greets (Requests f) = false
greets (Replies success port) = false
greets (Listens host port number) = false
greets (Unlistens l) = false

-- whether all the events leave it as it was
abbrev Silent : List ForwarderEvent → Type 0
Silent [] = Unit {0}
Silent (forwarder_event ∷ forwarder_events) = (greets forwarder_event ≡ false) × Silent forwarder_events

silent-both : (a b : List ForwarderEvent) → Silent a → Silent b → Silent (a ++ b)
silent-both [] b h k = k
silent-both (forwarder_event ∷ a) b h k = (h.0, silent-both a b h.1 k)

keeps-greeting : (forwarder_event : ForwarderEvent) (old new : ForwardingState) → greets forwarder_event ≡ false → Does forwarder_event old new → new.greeted ≡ old.greeted
keeps-greeting (Begins starts) old new e d = ap (λ (x : ForwardingState). x.greeted) d.others
keeps-greeting (Asks client id opening ask reply) old new e d = ap (λ (x : ForwardingState). x.greeted) d.others
keeps-greeting (Answers client id reply) old new e d = ap (λ (x : ForwardingState). x.greeted) d.others
keeps-greeting Greets old new e d = cc
keeps-greeting (Requests f) old new e d = ap (λ (x : ForwardingState). x.greeted) d.2
keeps-greeting (Replies success port) old new e d = ap (λ (x : ForwardingState). x.greeted) d
keeps-greeting (Listens host port number) old new e d =
    ap (λ (x : ForwardingState). x.greeted) d.makes.others ∙ ap (λ (x : ForwardingState). x.greeted) d.orders.others
keeps-greeting (Unlistens l) old new e d = ap (λ (x : ForwardingState). x.greeted) d.others

-- whether it greeted, by what happened
abbrev greeted_in : List ForwarderEvent → Bool
greeted_in [] = false
greeted_in (Begins starts ∷ forwarder_events) = greeted_in forwarder_events
greeted_in (Asks client id opening ask reply ∷ forwarder_events) = greeted_in forwarder_events
greeted_in (Answers client id reply ∷ forwarder_events) = greeted_in forwarder_events
greeted_in (Greets ∷ forwarder_events) = true
greeted_in (Requests f ∷ forwarder_events) = greeted_in forwarder_events
greeted_in (Replies success port ∷ forwarder_events) = greeted_in forwarder_events
greeted_in (Listens host port number ∷ forwarder_events) = greeted_in forwarder_events
greeted_in (Unlistens l ∷ forwarder_events) = greeted_in forwarder_events

known-greeting : (forwarder_events : List ForwarderEvent) (d : ForwardingState) → Leave forwarder_events d → d.greeted ≡ greeted_in forwarder_events
known-greeting [] d h = ap (λ (x : ForwardingState). x.greeted) h
known-greeting (Begins starts ∷ forwarder_events) d h = keeps-greeting (Begins starts) h.0 d refl h.2 ∙ known-greeting forwarder_events h.0 h.1
known-greeting (Asks client id opening ask reply ∷ forwarder_events) d h =
    keeps-greeting (Asks client id opening ask reply) h.0 d refl h.2 ∙ known-greeting forwarder_events h.0 h.1
known-greeting (Answers client id reply ∷ forwarder_events) d h =
    keeps-greeting (Answers client id reply) h.0 d refl h.2 ∙ known-greeting forwarder_events h.0 h.1
known-greeting (Greets ∷ forwarder_events) d h = ap (λ (x : ForwardingState). x.greeted) h.2.1
known-greeting (Requests f ∷ forwarder_events) d h = keeps-greeting (Requests f) h.0 d refl h.2 ∙ known-greeting forwarder_events h.0 h.1
known-greeting (Replies success port ∷ forwarder_events) d h =
    keeps-greeting (Replies success port) h.0 d refl h.2 ∙ known-greeting forwarder_events h.0 h.1
known-greeting (Listens host port number ∷ forwarder_events) d h =
    keeps-greeting (Listens host port number) h.0 d refl h.2 ∙ known-greeting forwarder_events h.0 h.1
known-greeting (Unlistens l ∷ forwarder_events) d h = keeps-greeting (Unlistens l) h.0 d refl h.2 ∙ known-greeting forwarder_events h.0 h.1

silent-in : (a forwarder_events : List ForwarderEvent) → Silent a → greeted_in (a ++ forwarder_events) ≡ greeted_in forwarder_events
silent-in [] forwarder_events h = refl
silent-in (Begins starts ∷ a) forwarder_events h = silent-in a forwarder_events h.1
silent-in (Asks client id opening ask reply ∷ a) forwarder_events h = silent-in a forwarder_events h.1
silent-in (Answers client id reply ∷ a) forwarder_events h = silent-in a forwarder_events h.1
silent-in (Greets ∷ a) forwarder_events h = let e = h.0 in cc
silent-in (Requests f ∷ a) forwarder_events h = silent-in a forwarder_events h.1
silent-in (Replies success port ∷ a) forwarder_events h = silent-in a forwarder_events h.1
silent-in (Listens host port number ∷ a) forwarder_events h = silent-in a forwarder_events h.1
silent-in (Unlistens l ∷ a) forwarder_events h = silent-in a forwarder_events h.1

-- ---- what is received greets not

recorded-silent : (m : Said) → Silent (events_of_message m)
recorded-silent (Plain (grammar.Transport number rest)) = tt
recorded-silent (Plain (grammar.GlobalRequest name want rest what)) = tt
recorded-silent (Plain (grammar.RequestSuccess rest)) = (refl, tt)
recorded-silent (Plain grammar.RequestFailure) = (refl, tt)
recorded-silent (Plain (grammar.Open kind sender window maximum rest what)) = tt
recorded-silent (To recipient m) = tt

if-silent : (r : Result Said Bad) → Silent (recorded_if r)
if-silent (Ok m) = recorded-silent m
if-silent (Err bad) = tt

by-silent : (s : ForwarderStage) (content : List ℕ) → Silent (events_recorded_by s content)
by-silent Control content = tt
by-silent Proxy content = if-silent (reading content)

in-silent : (s : ForwarderStage) (contents : List (List ℕ)) → Silent (recorded_in s contents)
in-silent s [] = tt
in-silent s (content ∷ more) =
    silent-both (recorded_in (stage_next s content) more) (events_recorded_by s content) (in-silent (stage_next s content) more) (by-silent s content)

order-silent : (o : Order) (number : Option ℕ) → Silent (ordered_by o number)
order-silent (order.Listen host port) number = (refl, tt)
order-silent (order.Connect host port) number = tt
order-silent (order.Unlisten l) number = (refl, tt)
order-silent (order.Pause t) number = tt
order-silent (order.Resume t) number = tt
order-silent (order.Finish t) number = tt
order-silent (order.Close t) number = tt

is-silent : (a b : List ForwarderEvent) → a ≡ b → Silent b → Silent a
is-silent a b e h = subst Silent (sym e) h

-- a call by which nothing is sent
mark-silent : (mark : HouseMark) (more : List ForwarderEvent) → sent_at mark ≡ [] → AreMarked mark more → Silent more
mark-silent HouseIn more e h = is-silent more [] h tt
mark-silent (HouseSaid bytes) more e h = cc
mark-silent (HouseTook size) more e h = is-silent more [] h tt
mark-silent (HouseAsked client id opening ask reply) more e h = is-silent more (Asks client id opening ask reply ∷ []) h (refl, tt)
mark-silent (HouseAnswer client id reply) more e h = is-silent more (Answers client id reply ∷ []) h (refl, tt)
mark-silent (HouseOrder o number) more e h = is-silent more (ordered_by o number) h (order-silent o number)

call-silent : (call : HouseCall) (old new : Trace) (more : List ForwarderEvent) → sent_on call ≡ [] → HappenBy call old more new → Silent more
call-silent (IsBegun starts) old new more e h = is-silent more (Begins starts ∷ []) h (refl, tt)
call-silent (Marks mark) old new more e h = mark-silent mark more e h
call-silent (Receives bytes) old new more e h = is-silent more (recorded_in old.stage h.0) h.2 (in-silent old.stage h.0)
call-silent (Turns happening) old new more e h = is-silent more [] h tt
call-silent (Takes t bytes) old new more e h = is-silent more [] h tt

same-greeting : (call : HouseCall) (forwarder_events : List ForwarderEvent) (old new : Trace) → sent_on call ≡ [] → Leave forwarder_events old.forwarding_state
    → Follows call old new → new.forwarding_state.greeted ≡ old.forwarding_state.greeted
same-greeting call forwarder_events old new e left h =
    let went = happens call forwarder_events old new left h in
    known-greeting (went.0 ++ forwarder_events) new.forwarding_state went.2
    ∙ silent-in went.0 forwarder_events (call-silent call old new went.0 e went.1)
    ∙ sym (known-greeting forwarder_events old.forwarding_state left)

-- ---- what is sent

record Speaks (bytes : List ℕ) (new : Trace) : Type 0 where
  frame : IsFrame bytes
  greeted : new.forwarding_state.greeted ≡ true

speaks : (o : Option Forwarding) (bytes : List ℕ) (old new : Trace) → old.forwarding_state.greeted ≡ true → SendsBy true o bytes old new
    → Speaks bytes new
speaks (Some f) bytes old new e h =
    record { frame = inl (f, h.0); greeted = ap (λ (c : Trace). c.forwarding_state.greeted) h.1 ∙ e }
speaks None bytes old new e h = record {
  frame = inr (h.1.life.relay, h.1.is, h.1.goes.0);
  greeted = ap (λ (c : Trace). c.forwarding_state.greeted) h.2 ∙ e;
}

says-frame : (bytes : List ℕ) (old new : Trace) → old.forwarding_state.greeted ≡ true → RelaySendsIn bytes old new → Speaks bytes new
says-frame bytes old new e h =
    speaks (find has_request old.forwarding_state.all) bytes old new e
    (subst (λ (b : Bool). SendsBy b (find has_request old.forwarding_state.all) bytes old new) e h)

says-greeting : (bytes : List ℕ) (old new : Trace) → old.forwarding_state.greeted ≡ false → RelaySendsIn bytes old new
    → (bytes ≡ GREETING.now) × (new.forwarding_state.greeted ≡ true)
says-greeting bytes old new e h =
    let greets : SendsBy false (find has_request old.forwarding_state.all) bytes old new =
    subst (λ (b : Bool). SendsBy b (find has_request old.forwarding_state.all) bytes old new) e h in
    (greets.0, ap (λ (c : Trace). c.forwarding_state.greeted) greets.1)

-- a call sends one thing, or nothing
is-said : (call : HouseCall) → (sent_on call ≡ []) ⊎ ((bytes : List ℕ) × (call ≡ Marks (HouseSaid bytes)))
is-said (IsBegun starts) = inl refl
is-said (Marks HouseIn) = inl refl
is-said (Marks (HouseSaid bytes)) = inr (bytes, refl)
is-said (Marks (HouseTook size)) = inl refl
is-said (Marks (HouseAsked client id opening ask reply)) = inl refl
is-said (Marks (HouseAnswer client id reply)) = inl refl
is-said (Marks (HouseOrder o number)) = inl refl
is-said (Receives bytes) = inl refl
is-said (Turns happening) = inl refl
is-said (Takes t bytes) = inl refl

-- after the greeting
frames : (calls : List HouseCall) (forwarder_events : List ForwarderEvent) (old new : Trace) → Leave forwarder_events old.forwarding_state → old.forwarding_state.greeted ≡ true
    → TraceReaches old calls new → All IsFrame (sent_in calls)
frames [] forwarder_events old new left e h = All-nil IsFrame
frames (call ∷ calls) forwarder_events old new left e h =
    let went = happens call forwarder_events old h.0 left h.1 in
    elim (is-said call) [
      | inl none ↦ subst (λ (s : List (List ℕ)). All IsFrame (s ++ sent_in calls)) (sym none)
          (frames calls (went.0 ++ forwarder_events) h.0 new went.2 (same-greeting call forwarder_events old h.0 none left h.1 ∙ e) h.2)
      | inr one ↦ (let follows : Follows (Marks (HouseSaid one.0)) old h.0 = subst (λ (c : HouseCall). Follows c old h.0) one.1 h.1 in
          let said = says-frame one.0 old h.0 e follows in
          subst (λ (c : HouseCall). All IsFrame (sent_on c ++ sent_in calls)) (sym one.1)
          (All-cons IsFrame one.0 (sent_in calls) said.frame
          (frames calls (went.0 ++ forwarder_events) h.0 new went.2 said.greeted h.2)))
    ]

first : (calls : List HouseCall) (forwarder_events : List ForwarderEvent) (old new : Trace) → Leave forwarder_events old.forwarding_state → old.forwarding_state.greeted ≡ false
    → TraceReaches old calls new → GreetsOnce (sent_in calls)
first [] forwarder_events old new left e h = tt
first (call ∷ calls) forwarder_events old new left e h =
    let went = happens call forwarder_events old h.0 left h.1 in
    elim (is-said call) [
      | inl none ↦ subst (λ (s : List (List ℕ)). GreetsOnce (s ++ sent_in calls)) (sym none)
          (first calls (went.0 ++ forwarder_events) h.0 new went.2 (same-greeting call forwarder_events old h.0 none left h.1 ∙ e) h.2)
      | inr one ↦ (let follows : Follows (Marks (HouseSaid one.0)) old h.0 = subst (λ (c : HouseCall). Follows c old h.0) one.1 h.1 in
          let said = says-greeting one.0 old h.0 e follows in
          subst (λ (c : HouseCall). GreetsOnce (sent_on c ++ sent_in calls)) (sym one.1)
          (said.0, frames calls (went.0 ++ forwarder_events) h.0 new went.2 said.1 h.2))
    ]

pub each-greets : EachGreets
each-greets calls trace reached = first calls [] first_trace trace refl refl reached
