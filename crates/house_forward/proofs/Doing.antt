-- What the calls leave of the forwardings, of clients' requests and of those to the server is what
-- happened.
use Rattle.std.proofs.Common.{◌≡◌, ◌∙◌, refl, sym, ap, subst, ℕ, Bool, true, false, List, [], ◌∷◌, ◌++◌, append_assoc, append-nil, Option, Some, None, inl, inr}
use Rattle.std.specs.Prelude.{find, if◌then◌else◌, Result, Ok, Err}
use Rattle.ssh_fields.specs.Fields.{take_u32}
use Rattle.ssh_grammar.specs.Messages.{Message as Said}
use Rattle.ssh_grammar.specs.ReadMessage.{read_message as reading}
use Rattle.ssh_grammar.specs.declared.fault.Bad.{Bad}
use Rattle.ssh_grammar.specs.Frames.{Frame}
use Rattle.ssh_grammar.specs.declared.framing.Framing.TheVariants as framing
use Rattle.conn_messages.specs.Message.{message_of}
use Rattle.conn_messages.specs.declared.message.Message.{Message}
use Rattle.conn_messages.specs.declared.message.Message.TheVariants as message
use Rattle.conn_messages.specs.declared.message.Opening.{Opening}
use Rattle.conn_messages.specs.declared.message.Opening.TheVariants as opens
use Rattle.conn_messages.specs.declared.key.Key.TheVariants as keys
use Rattle.proxy_frames.specs.Steps.{switched}
use Rattle.mux_outside.specs.HouseCalls.{HouseCall}
use Rattle.mux_outside.specs.HouseCalls.{Begins as IsBegun, Marks, Receives, Turns, Takes}
use Rattle.mux_outside.specs.declared.house_mark.HouseMark.{HouseMark}
use Rattle.mux_outside.specs.declared.house_mark.HouseMark.TheVariants.{HouseIn, HouseSaid, HouseTook, HouseAsked, HouseAnswer, HouseOrder}
use Rattle.mux_outside.specs.declared.order.Order.{Order}
use Rattle.mux_outside.specs.declared.order.Order.TheVariants as order
use Rattle.house_forward.specs.ForwarderEvents.{ForwarderEvent, Does, Leave, events_of_message, recorded_if, events_recorded_by, recorded_in, stage_next, IsSentAs, AreMarked, ordered_by, HappenBy, Happen, EachHappens}
use Rattle.house_forward.specs.ForwarderEvents.{Begins, Asks, Answers, Greets, Requests, Replies, Listens, Unlistens}
use Rattle.house_forward.specs.ForwardingState.{ForwardingState, reply_received}
use Rattle.house_forward.specs.Forwardings.{has_request, served_at}
use Rattle.house_forward.specs.RelayTraces.{Trace, first_trace, OnForwardingState, SendsBy, RelayReceivesAt, OpensFor, ReceivesOpen, ReceivesMessage, ReceivesReading, ReceivesFrame, RelaysReceiveFrames, OrdersInTrace, MarksIn, Follows, TraceReaches, is_grant, with_received, cut_off}
use Rattle.house_forward.specs.declared.forwarding.Forwarding.{Forwarding}
use Rattle.house_forward.specs.declared.forwarder_state.ForwarderStage.{ForwarderStage}
use Rattle.house_forward.specs.declared.forwarder_state.ForwarderStage.TheVariants.{Control, Proxy}

-- ---- one event, or none

one : (forwarder_event : ForwarderEvent) (forwarder_events : List ForwarderEvent) (old new : Trace) → Leave forwarder_events old.forwarding_state → OnForwardingState (Does forwarder_event) old new
    → Leave (forwarder_event ∷ forwarder_events) new.forwarding_state
one forwarder_event forwarder_events old new left h =
    (old.forwarding_state, left, subst (λ (d : ForwardingState). Does forwarder_event old.forwarding_state d) (sym (ap (λ (c : Trace). c.forwarding_state) h.2)) h.1)

same : (forwarder_events : List ForwarderEvent) (old new : Trace) → Leave forwarder_events old.forwarding_state → new.forwarding_state ≡ old.forwarding_state → Leave forwarder_events new.forwarding_state
same forwarder_events old new left e = subst (Leave forwarder_events) (sym e) left

-- what happens, and what that leaves
abbrev pub Goes : (List ForwarderEvent → Type 0) → List ForwarderEvent → ForwardingState → Type 0
Goes so forwarder_events forwarding_state = (more : List ForwarderEvent) × so more × Leave (more ++ forwarder_events) forwarding_state

-- ---- what is received

record Heard (more forwarder_events : List ForwarderEvent) (stage : ForwarderStage) (new : Trace) : Type 0 where
  left : Leave (more ++ forwarder_events) new.forwarding_state
  stage_is : new.stage ≡ stage

nothing : (forwarder_events : List ForwarderEvent) (old new : Trace) → Leave forwarder_events old.forwarding_state → new ≡ old → Heard [] forwarder_events old.stage new
nothing forwarder_events old new left e = record {
  left = same forwarder_events old new left (ap (λ (c : Trace). c.forwarding_state) e);
  stage_is = ap (λ (c : Trace). c.stage) e;
}

receives-at : (n : ℕ) (m : Message) (forwarder_events : List ForwarderEvent) (old new : Trace) → Leave forwarder_events old.forwarding_state → RelayReceivesAt n m old new
    → Heard [] forwarder_events old.stage new
receives-at n m forwarder_events old new left (inl h) = record {
  left = same forwarder_events old new left (ap (λ (c : Trace). c.forwarding_state) h.2);
  stage_is = ap (λ (c : Trace). c.stage) h.2;
}
receives-at n m forwarder_events old new left (inr h) = nothing forwarder_events old new left h.1

opens-for : (o : Option Forwarding) (remote window maximum : ℕ) (forwarder_events : List ForwarderEvent) (old new : Trace) → Leave forwarder_events old.forwarding_state
    → OpensFor o remote window maximum old new → Heard [] forwarder_events old.stage new
opens-for None remote window maximum forwarder_events old new left h = nothing forwarder_events old new left h
opens-for (Some f) remote window maximum forwarder_events old new left h = record {
  left = same forwarder_events old new left (ap (λ (c : Trace). c.forwarding_state) h.more);
  stage_is = ap (λ (c : Trace). c.stage) h.more;
}

receives-open : (what : Opening) (remote window maximum : ℕ) (forwarder_events : List ForwarderEvent) (old new : Trace) → Leave forwarder_events old.forwarding_state
    → ReceivesOpen what remote window maximum old new → Heard [] forwarder_events old.stage new
receives-open (opens.Forwarded (keys.Tcp address port)) remote window maximum forwarder_events old new left h =
    opens-for (find (served_at address.now port) old.forwarding_state.all) remote window maximum forwarder_events old new left h
receives-open opens.Session remote window maximum forwarder_events old new left h = nothing forwarder_events old new left h
receives-open (opens.Direct key) remote window maximum forwarder_events old new left h = nothing forwarder_events old new left h
receives-open (opens.Forwarded (keys.Path path)) remote window maximum forwarder_events old new left h = nothing forwarder_events old new left h
receives-open opens.Other remote window maximum forwarder_events old new left h = nothing forwarder_events old new left h

replies : (success : Bool) (port : Option ℕ) (forwarder_events : List ForwarderEvent) (old new : Trace) → Leave forwarder_events old.forwarding_state
    → new ≡ record old { forwarding_state = reply_received success port old.forwarding_state }
    → Heard (Replies success port ∷ []) forwarder_events old.stage new
replies success port forwarder_events old new left h = record {
  left = (old.forwarding_state, left, ap (λ (c : Trace). c.forwarding_state) h);
  stage_is = ap (λ (c : Trace). c.stage) h;
}

receives-message : (m : Message) (forwarder_events : List ForwarderEvent) (old new : Trace) → Leave forwarder_events old.forwarding_state → ReceivesMessage m old new
    → Heard (events_of_message (message_of m)) forwarder_events old.stage new
receives-message (message.Transport number rest) forwarder_events old new left h = nothing forwarder_events old new left h
receives-message (message.GlobalRequest name want rest what) forwarder_events old new left h = nothing forwarder_events old new left h
receives-message (message.RequestSuccess rest) forwarder_events old new left h = replies true _ forwarder_events old new left h
receives-message message.RequestFailure forwarder_events old new left h = replies false None forwarder_events old new left h
receives-message (message.Open kind sender window maximum rest what) forwarder_events old new left h =
    receives-open what sender window maximum forwarder_events old new left h
receives-message (message.Confirmation recipient sender window maximum rest) forwarder_events old new left h =
    receives-at recipient (message.Confirmation recipient sender window maximum rest) forwarder_events old new left h
receives-message (message.OpenFailure recipient reason text language) forwarder_events old new left h =
    receives-at recipient (message.OpenFailure recipient reason text language) forwarder_events old new left h
receives-message (message.Adjust recipient add) forwarder_events old new left h =
    receives-at recipient (message.Adjust recipient add) forwarder_events old new left h
receives-message (message.Data recipient bytes) forwarder_events old new left h =
    receives-at recipient (message.Data recipient bytes) forwarder_events old new left h
receives-message (message.Extended recipient code bytes) forwarder_events old new left h =
    receives-at recipient (message.Extended recipient code bytes) forwarder_events old new left h
receives-message (message.Eof recipient) forwarder_events old new left h =
    receives-at recipient (message.Eof recipient) forwarder_events old new left h
receives-message (message.Close recipient) forwarder_events old new left h =
    receives-at recipient (message.Close recipient) forwarder_events old new left h
receives-message (message.Request recipient kind want rest) forwarder_events old new left h =
    receives-at recipient (message.Request recipient kind want rest) forwarder_events old new left h
receives-message (message.Success recipient) forwarder_events old new left h =
    receives-at recipient (message.Success recipient) forwarder_events old new left h
receives-message (message.Failure recipient) forwarder_events old new left h =
    receives-at recipient (message.Failure recipient) forwarder_events old new left h

receives-reading : (r : Result Said Bad) (forwarder_events : List ForwarderEvent) (old new : Trace) → Leave forwarder_events old.forwarding_state → ReceivesReading r old new
    → Heard (recorded_if r) forwarder_events old.stage new
receives-reading (Err bad) forwarder_events old new left h = nothing forwarder_events old new left h
receives-reading (Ok said) forwarder_events old new left h =
    subst (λ (s : Said). Heard (events_of_message s) forwarder_events old.stage new) h.1 (receives-message h.0 forwarder_events old new left h.2)

grants : (b : Bool) (forwarder_events : List ForwarderEvent) (old to new : Trace) → Leave forwarder_events old.forwarding_state → old.stage ≡ Control
    → to.forwarding_state ≡ old.forwarding_state → to.stage ≡ Proxy → new ≡ (if b then to else old) → Heard [] forwarder_events (if b then Proxy else Control) new
grants true forwarder_events old to new left e forwarding_state stage h = record {
  left = same forwarder_events old new left (ap (λ (c : Trace). c.forwarding_state) h ∙ forwarding_state);
  stage_is = ap (λ (c : Trace). c.stage) h ∙ stage;
}
grants false forwarder_events old to new left e forwarding_state stage h = record {
  left = same forwarder_events old new left (ap (λ (c : Trace). c.forwarding_state) h);
  stage_is = ap (λ (c : Trace). c.stage) h ∙ e;
}

receives-frame : (stage : ForwarderStage) (content : List ℕ) (forwarder_events : List ForwarderEvent) (old new : Trace) → old.stage ≡ stage
    → Leave forwarder_events old.forwarding_state → ReceivesFrame stage content old new → Heard (events_recorded_by stage content) forwarder_events (stage_next stage content) new
receives-frame Control content forwarder_events old new e left h =
    grants (is_grant (take_u32 content)) forwarder_events old
    (record old { stage = Proxy; framer = switched framing.Proxy old.framer }) new left e refl refl h
receives-frame Proxy content forwarder_events old new e left h =
    subst (λ (s : ForwarderStage). Heard (events_recorded_by Proxy content) forwarder_events s new) e (receives-reading (reading content) forwarder_events old new left h)

receives-frames : (contents : List (List ℕ)) (stage : ForwarderStage) (forwarder_events : List ForwarderEvent) (old new : Trace) → old.stage ≡ stage
    → Leave forwarder_events old.forwarding_state → RelaysReceiveFrames contents old new → Leave (recorded_in stage contents ++ forwarder_events) new.forwarding_state
receives-frames [] stage forwarder_events old new e left h = same forwarder_events old new left (ap (λ (c : Trace). c.forwarding_state) h.1)
receives-frames (content ∷ more) stage forwarder_events old new e left h =
    let middle = h.2.0 in
    let frame : ReceivesFrame stage content (cut_off (Frame content h.0) old) middle =
    subst (λ (s : ForwarderStage). ReceivesFrame s content (cut_off (Frame content h.0) old) middle) e h.2.1 in
    let first = receives-frame stage content forwarder_events (cut_off (Frame content h.0) old) middle e left frame in
    let rest = receives-frames more (stage_next stage content) (events_recorded_by stage content ++ forwarder_events) middle new first.stage_is
    first.left h.2.2 in
    subst (λ (ds : List ForwarderEvent). Leave ds new.forwarding_state)
    (sym (append_assoc (recorded_in (stage_next stage content) more) (events_recorded_by stage content) forwarder_events)) rest

-- ---- by a call

says : (greeted : Bool) (first : Option Forwarding) (bytes : List ℕ) (forwarder_events : List ForwarderEvent) (old new : Trace)
    → old.forwarding_state.greeted ≡ greeted → find has_request old.forwarding_state.all ≡ first → Leave forwarder_events old.forwarding_state
    → SendsBy greeted first bytes old new → Goes (IsSentAs bytes) forwarder_events new.forwarding_state
says false first bytes forwarder_events old new e f left h =
    (Greets ∷ [], h.0, (old.forwarding_state, left, (e, ap (λ (c : Trace). c.forwarding_state) h.1)))
says true (Some f) bytes forwarder_events old new e first left h =
    (Requests f ∷ [], h.0, (old.forwarding_state, left, (e, first, ap (λ (c : Trace). c.forwarding_state) h.1)))
says true None bytes forwarder_events old new e first left h =
    ([], (h.1.life.relay, h.1.is, h.1.goes.0), same forwarder_events old new left (ap (λ (c : Trace). c.forwarding_state) h.2))

orders : (o : Order) (number : Option ℕ) (forwarder_events : List ForwarderEvent) (old new : Trace) → Leave forwarder_events old.forwarding_state
    → OrdersInTrace o number old new → Leave (ordered_by o number ++ forwarder_events) new.forwarding_state
orders (order.Listen host port) number forwarder_events old new left h = one (Listens host port number) forwarder_events old new left h
orders (order.Connect host port) number forwarder_events old new left h = same forwarder_events old new left (ap (λ (c : Trace). c.forwarding_state) h.are)
orders (order.Unlisten l) number forwarder_events old new left h = one (Unlistens l) forwarder_events old new left h
orders (order.Pause t) number forwarder_events old new left h = same forwarder_events old new left (ap (λ (c : Trace). c.forwarding_state) h.1)
orders (order.Resume t) number forwarder_events old new left h = same forwarder_events old new left (ap (λ (c : Trace). c.forwarding_state) h.1)
orders (order.Finish t) number forwarder_events old new left h = same forwarder_events old new left (ap (λ (c : Trace). c.forwarding_state) h.1)
orders (order.Close t) number forwarder_events old new left h = same forwarder_events old new left (ap (λ (c : Trace). c.forwarding_state) h.1)

marks : (mark : HouseMark) (forwarder_events : List ForwarderEvent) (old new : Trace) → Leave forwarder_events old.forwarding_state → MarksIn mark old new
    → Goes (AreMarked mark) forwarder_events new.forwarding_state
marks HouseIn forwarder_events old new left h = ([], refl, same forwarder_events old new left (ap (λ (c : Trace). c.forwarding_state) h))
marks (HouseSaid bytes) forwarder_events old new left h =
    says old.forwarding_state.greeted (find has_request old.forwarding_state.all) bytes forwarder_events old new refl refl left h
marks (HouseTook size) forwarder_events old new left h = ([], refl, same forwarder_events old new left (ap (λ (c : Trace). c.forwarding_state) h))
marks (HouseAsked client id opening ask reply) forwarder_events old new left h =
    (Asks client id opening ask reply ∷ [], refl, one (Asks client id opening ask reply) forwarder_events old new left h)
marks (HouseAnswer client id reply) forwarder_events old new left h =
    (Answers client id reply ∷ [], refl, one (Answers client id reply) forwarder_events old new left h)
marks (HouseOrder o number) forwarder_events old new left h = (ordered_by o number, refl, orders o number forwarder_events old new left h)

pub happens : (call : HouseCall) (forwarder_events : List ForwarderEvent) (old new : Trace) → Leave forwarder_events old.forwarding_state → Follows call old new
    → Goes (λ more. HappenBy call old more new) forwarder_events new.forwarding_state
happens (IsBegun starts) forwarder_events old new left h = (Begins starts ∷ [], refl, one (Begins starts) forwarder_events old new left h)
happens (Marks mark) forwarder_events old new left h = marks mark forwarder_events old new left h
happens (Receives bytes) forwarder_events old new left h =
    (recorded_in old.stage h.0, (h.0, h.1, refl), receives-frames h.0 old.stage forwarder_events (with_received bytes old) new refl left h.1)
happens (Turns happening) forwarder_events old new left h = ([], refl, same forwarder_events old new left (ap (λ (c : Trace). c.forwarding_state) h.2))
happens (Takes t bytes) forwarder_events old new left h = ([], refl, same forwarder_events old new left (ap (λ (c : Trace). c.forwarding_state) h.2))

-- ---- by all of them

happen : (calls : List HouseCall) (forwarder_events : List ForwarderEvent) (old new : Trace) → Leave forwarder_events old.forwarding_state → TraceReaches old calls new
    → Goes (λ more. Happen old calls more new) forwarder_events new.forwarding_state
happen [] forwarder_events old new left h = ([], (h, refl), same forwarder_events old new left (ap (λ (c : Trace). c.forwarding_state) h))
happen (call ∷ calls) forwarder_events old new left h =
    let first = happens call forwarder_events old h.0 left h.1 in
    let rest = happen calls (first.0 ++ forwarder_events) h.0 new first.2 h.2 in (
      rest.0 ++ first.0,
      (h.0, first.0, rest.0, h.1, first.1, rest.1, refl),
      subst (λ (ds : List ForwarderEvent). Leave ds new.forwarding_state) (sym (append_assoc rest.0 first.0 forwarder_events)) rest.2,
    )

pub each-happens : EachHappens
each-happens calls trace reached =
    let all = happen calls [] first_trace trace refl reached in
    (all.0, all.1, subst (λ (ds : List ForwarderEvent). Leave ds trace.forwarding_state) (append-nil all.0) all.2)
