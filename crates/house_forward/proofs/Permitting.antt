-- The forwarder listens on this machine only where the list of its start permits it.
use Rattle.std.proofs.Common.{◌≡◌, ◌∙◌, refl, sym, ap, subst, arith, ℕ, zero, suc, ◌≤◌, Bool, true, false, List, [], ◌∷◌, ◌++◌, length, get_or, set, take, drop, map, filter, Option, Some, None}
use Rattle.std.specs.Prelude.{◌&&◌, not, find, slice_get, if◌then◌else◌, Result, Ok, Err}
use Rattle.std.specs.List.{All, position, remove}
use Rattle.std.proofs.lemmas.Bool.{or_parts}
use Rattle.std.proofs.lemmas.List.Elements.{All-nil, All-head, All-tail, All-set, All-append, All-take, All-drop, All-filter, All-map, All-push}
use Rattle.mux_outside.specs.HouseCalls.{HouseCall, Marks, Receives, Turns, Takes}
use Rattle.mux_outside.specs.HouseCalls as call
use Rattle.mux_outside.specs.declared.house_mark.HouseMark.{HouseMark}
use Rattle.mux_outside.specs.declared.house_mark.HouseMark.TheVariants.{HouseIn, HouseSaid, HouseTook, HouseAsked, HouseAnswer, HouseOrder}
use Rattle.mux_outside.specs.declared.order.Order.{Order}
use Rattle.mux_outside.specs.declared.order.Order.TheVariants as order
use Rattle.mux_outside.specs.declared.start_ask.StartAsk.{StartAsk}
use Rattle.mux_outside.specs.declared.starts.ListenPermit.{ListenPermit}
use Rattle.mux_outside.specs.declared.starts.Starts.{Starts}
use Rattle.ssh_grammar.specs.Messages.{Message, Plain, To, PlainMessage}
use Rattle.ssh_grammar.specs.Messages as grammar
use Rattle.ssh_grammar.specs.ReadMessage.{read_message as reading}
use Rattle.ssh_grammar.specs.declared.fault.Bad.{Bad}
use Rattle.house_forward.specs.Asks.{turns_away}
use Rattle.house_forward.specs.ForwarderEvents.{ForwarderEvent, Does, Leave, HappenBy, Happen, IsSentAs, AreMarked, ordered_by, events_of_message, recorded_if, recorded_plain, recorded_in, events_recorded_by, stage_next}
use Rattle.house_forward.specs.ForwarderEvents.{Begins, Asks, Answers, Greets, Requests, Replies, Listens, Unlistens}
use Rattle.house_forward.specs.ForwardingState.{ForwardingState, GetsListener, standing_at}
use Rattle.house_forward.specs.Forwardings.{AskedAtStart as BeginsAt, StartsIf, Standing, OpensForwarding, IsAskedFor, MadeAt, forwarding_changed, standing, closes_of, after_close, EndsLeave, ComesIf, ComesUnless, forwarding_request_of, first_forwarding_request, has_listener, to_listen}
use Rattle.house_forward.specs.Permitted.{StartsNone, MayListen, EachMayListen, EachListenIsPermitted, BeginsNone, EachOrderIsPermitted}
use Rattle.house_forward.specs.RelayTraces.{Trace, TraceReaches, first_trace}
use Rattle.house_forward.specs.Rules.{AreEnds, is_permitted_here, is_refused_alone, is_ruled_out, is_unpermitted, is_unpermitted_of, listen_host, listens_here, rules_of}
use Rattle.house_forward.specs.declared.asks.ImmediateOutcome.{ImmediateOutcome as Comes}
use Rattle.house_forward.specs.declared.asks.ImmediateOutcome.TheVariants.{Now, Later}
use Rattle.house_forward.specs.declared.forwarder_state.ForwarderStage.{ForwarderStage as Reads}
use Rattle.house_forward.specs.declared.forwarder_state.ForwarderStage.TheVariants.{Control, Proxy}
use Rattle.house_forward.specs.declared.forwarding.Change.{Change}
use Rattle.house_forward.specs.declared.forwarding.Change.TheVariants as change
use Rattle.house_forward.specs.declared.forwarding.Forwarding.{Forwarding}
use Rattle.house_forward.specs.declared.forwarding.Stage.TheVariants.{Ordered, Listening}
use Rattle.house_forward.specs.declared.rules.Ends.{Ends}
use Rattle.house_forward.specs.declared.rules.ForwardingKind.{ForwardingKind}
use Rattle.house_forward.specs.declared.rules.ListenRules.{ListenRules}
use Rattle.house_forward.proofs.Causing.{knows, placed, there-is, in-range, listens-there}
use Rattle.house_forward.proofs.Doing.{each-happens}
use Rattle.house_forward.proofs.Replying.{HoldsOnReply, on-outgoing, on-reply}
use Rattle.house_forward.proofs.Serving.{Stands}

-- ---- lists

abbrev Each : ListenPermit → List Forwarding → Type 0
Each here fs = All (MayListen here) fs

changed-if : (here : ListenPermit) (b : Bool) (f g : Forwarding) → MayListen here g → MayListen here f → MayListen here (if b then g else f)
changed-if here true f g h k = h
changed-if here false f g h k = k

each-changed : (here : ListenPermit) (c : Change) (serial : ℕ) (fs : List Forwarding) → Each here fs → Each here (map (forwarding_changed c serial) fs)
each-changed here c serial fs h = All-map (MayListen here) (forwarding_changed c serial) fs (λ i d l. changed-if here _ (get_or fs i d) _ (h i d l) (h i d l))

each-removed : (here : ListenPermit) (fs : List Forwarding) (i : ℕ) → Each here fs → Each here (remove fs i)
each-removed here fs i h = All-append (MayListen here) (take i fs) (drop (suc i) fs) (All-take (MayListen here) i fs h) (All-drop (MayListen here) (suc i) fs h)

abbrev Stays : ListenPermit → List Forwarding → List Forwarding → Type 0
Stays here old new = Each here old → Each here new

-- so it stays where a reply comes, and where a request is sent
on-reply-each : (here : ListenPermit) → HoldsOnReply (Stays here)
on-reply-each here = record {
  same = λ fs h. h;
  changes = λ c serial fs h. each-changed here c serial fs h;
  refused = λ serial fs i e h. each-removed here fs i h;
  granted = λ serial fs i e h. each-removed here fs i h;
}

-- ---- what is asked for

abbrev EndsMay : ListenPermit → Ends → Type 0
EndsMay here ends = listens_here ends.kind ≡ true → is_permitted_here here ends.listen_host.now ends.listen_port ≡ true

permitted-if : (a b : Bool) → (a && not b) ≡ false → a ≡ true → b ≡ true
permitted-if true true e f = refl
permitted-if true false e f = cc
permitted-if false b e f = cc

-- what isn't refused whatever stands may listen where it is to
ends-may : (rules : ListenRules) (ask : StartAsk) (ends : Ends) → AreEnds rules ask ends → is_ruled_out rules ask ≡ false → EndsMay rules.here ends
ends-may rules ask ends are out here =
    let unpermitted = (or_parts (is_refused_alone ask) (is_unpermitted rules ask) out).1 in
    let its : is_unpermitted_of (Some ends.kind) rules ask ≡ false = subst (λ (k : Option ForwardingKind). is_unpermitted_of k rules ask ≡ false) are.kind unpermitted in
    let host = listen_host ends.kind rules.gateway ask.listen_host in
    let may = permitted-if (listens_here ends.kind) (is_permitted_here rules.here host ask.listen_port) its here in
    ap (λ h. is_permitted_here rules.here h ends.listen_port) are.listens ∙ ap (λ p. is_permitted_here rules.here host p) are.listen_port ∙ may

new-may : (here : ListenPermit) (ends : Ends) (serial : ℕ) (start : Option ℕ) (f : Forwarding) → IsAskedFor ends serial start f → EndsMay here ends → MayListen here f
new-may here ends serial start f a may listens =
    ap (λ h. is_permitted_here here h f.listen_port) a.listens ∙ ap (λ p. is_permitted_here here ends.listen_host.now p) a.listen_port_is
    ∙ may (sym (ap listens_here a.kind_is) ∙ listens)

each-opens : (here : ListenPermit) (b : Bool) (ends : Ends) (serial : ℕ) (start : Option ℕ) (old new : List Forwarding) → OpensForwarding b ends serial start old new
    → EndsMay here ends → Each here old → Each here new
each-opens here false ends serial start old new o may h = subst (Each here) (sym o) h
each-opens here true ends serial start old new o may h =
    subst (Each here) (sym o.2) (All-push (MayListen here) old o.0 h (new-may here ends serial start o.0 o.1 may))

-- ---- the start

each-start : (b : Bool) (rules : ListenRules) (ask : StartAsk) (i : ℕ) (old new : Standing) → is_ruled_out rules ask ≡ b → StartsIf b rules ask i old new
    → Each rules.here old.all → Each rules.here new.all
each-start true rules ask i old new e s h = subst (λ (t : Standing). Each rules.here t.all) (sym s) h
each-start false rules ask i old new e s h = each-opens rules.here _ s.0 old.serials (Some i) old.all new.all s.2.all (ends-may rules ask s.0 s.1 e) h

each-starts : (rules : ListenRules) (asks : List StartAsk) (i : ℕ) (old new : Standing) → i ≤ length asks → BeginsAt rules asks i old new
    → Each rules.here old.all → Each rules.here new.all
each-starts rules asks zero old new l b h = subst (λ (t : Standing). Each rules.here t.all) (sym b) h
each-starts rules asks (suc i) old new l b h =
    let first = each-starts rules asks i old b.0 (omega arith) b.1 h in
    let at = in-range asks i (omega arith) in
    let starts = there-is (λ (ask : StartAsk). StartsIf (is_ruled_out rules ask) rules ask i b.0 new) (slice_get asks i) at.0 at.1 b.2 in
    each-start (is_ruled_out rules at.0) rules at.0 i b.0 new refl starts first

-- ---- a client's request

each-closed : (here : ListenPermit) (comes : Comes) (old new : List Forwarding) → new ≡ after_close comes old → Each here old → Each here new
each-closed here (Now o) old new e h = subst (Each here) (sym e) h
each-closed here (Later serial) old new e h = subst (Each here) (sym e) (each-changed here change.Close serial old h)

each-ends : (opening : Bool) (here : ListenPermit) (serial : ℕ) (ends : Ends) (old new : List Forwarding) → EndsLeave opening serial ends old new
    → EndsMay here ends → Each here old → Each here new
each-ends true here serial ends old new e may h = each-opens here _ ends serial None old new e may h
each-ends false here serial ends old new e may h = each-closed here (closes_of (standing ends old)) old new e h

each-if : (out : Bool) (rules : ListenRules) (opening : Bool) (ask : StartAsk) (serial : ℕ) (old new : List Forwarding) (comes : Comes)
    → is_ruled_out rules ask ≡ out → ComesIf out rules opening ask serial old new comes → Each rules.here old → Each rules.here new
each-if true rules opening ask serial old new comes e c h = subst (Each rules.here) (sym c.1) h
each-if false rules opening ask serial old new comes e c h = each-ends opening rules.here serial c.0 old new c.3 (ends-may rules ask c.0 c.1 e) h

each-ask : (away : Bool) (rules : ListenRules) (opening : Bool) (ask : StartAsk) (serial : ℕ) (old new : List Forwarding) (comes : Comes)
    → ComesUnless away rules opening ask serial old new comes → Each rules.here old → Each rules.here new
each-ask true rules opening ask serial old new comes c h = subst (Each rules.here) (sym c.1) h
each-ask false rules opening ask serial old new comes c h = each-if (is_ruled_out rules ask) rules opening ask serial old new comes refl c h

-- ---- a listener

each-made : (here : ListenPermit) (number : Option ℕ) (i : ℕ) (old new : List Forwarding) → position to_listen old ≡ Some i → MadeAt number i old new
    → Each here old → Each here new
each-made here None i old new e m h = subst (Each here) (sym m) (each-removed here old i h)
each-made here (Some l) i old new e m h =
    subst (Each here) (sym m.2)
    (All-set (MayListen here) old i (record m.0 { stage = Listening l }) (placed (MayListen here) to_listen old i m.0 e m.1 h).0 h)

each-listened : (here : ListenPermit) (host : List ℕ) (port : ℕ) (number : Option ℕ) (old new : ForwardingState) → GetsListener host port number old new
    → Each here old.all → Each here new.all
each-listened here host port number old new h each =
    let o = h.orders in
    let may = (placed (MayListen here) to_listen old.all o.place o.ordered.0 o.first o.ordered.1 each).0 in
    each-made here number h.makes.place h.between.all new.all h.makes.first h.makes.made
    (subst (Each here) (sym o.ordered.2) (All-set (MayListen here) old.all o.place (record o.ordered.0 { stage = Ordered }) may each))

-- ---- by all that happened

-- the rules are those of the start, and each forwarding may listen
record Permits (starts : Starts) (d : ForwardingState) : Type 0 where
  rules : d.rules ≡ rules_of starts
  each : Each starts.here d.all

after : (starts : Starts) (forwarder_event : ForwarderEvent) (old new : ForwardingState) → StartsNone forwarder_event → Does forwarder_event old new
    → Permits starts old → Permits starts new
after starts (Begins more) old new none d p = absurd none
after starts (Asks client id opening ask answer) old new none d p = record {
  rules = ap (λ (x : ForwardingState). x.rules) d.others ∙ p.rules;
  each = each-ask (turns_away client id old.waiting) (rules_of starts) opening ask old.serials old.all new.all d.came_to
      (subst (λ (r : ListenRules). ComesUnless (turns_away client id old.waiting) r opening ask old.serials old.all new.all d.came_to) p.rules d.comes) p.each;
}
after starts (Answers client id answer) old new none d p = record {
  rules = ap (λ (x : ForwardingState). x.rules) d.others ∙ p.rules;
  each = subst (Each starts.here) (sym (ap (λ (x : ForwardingState). x.all) d.others)) p.each;
}
after starts Greets old new none d p = record {
  rules = ap (λ (x : ForwardingState). x.rules) d.1 ∙ p.rules;
  each = subst (Each starts.here) (sym (ap (λ (x : ForwardingState). x.all) d.1)) p.each;
}
after starts (Requests f) old new none d p = record {
  rules = ap (λ (x : ForwardingState). x.rules) d.2 ∙ p.rules;
  each = subst (Each starts.here) (sym (ap (λ (x : ForwardingState). x.all) d.2))
      (on-outgoing (Stays starts.here) (on-reply-each starts.here) (forwarding_request_of f) old.all p.each);
}
after starts (Replies success port) old new none d p = record {
  rules = ap (λ (x : ForwardingState). x.rules) d ∙ p.rules;
  each = subst (Each starts.here) (sym (ap (λ (x : ForwardingState). x.all) d))
      (on-reply (Stays starts.here) (on-reply-each starts.here) success port (first_forwarding_request old.requests) old.all p.each);
}
after starts (Listens host port number) old new none d p = record {
  rules = ap (λ (x : ForwardingState). x.rules) d.makes.others ∙ ap (λ (x : ForwardingState). x.rules) d.orders.others ∙ p.rules;
  each = each-listened starts.here host port number old new d p.each;
}
after starts (Unlistens l) old new none d p = record {
  rules = ap (λ (x : ForwardingState). x.rules) d.others ∙ p.rules;
  each = subst (Each starts.here) (sym (ap (λ (x : ForwardingState). x.all) d.others))
      (All-filter (λ f. not (has_listener l f)) (MayListen starts.here) old.all p.each);
}

begun : (starts : Starts) (d : ForwardingState) → Leave (Begins starts ∷ []) d → Permits starts d
begun starts d left = record {
  rules = ap (λ (x : ForwardingState). x.rules) left.2.others;
  each = each-starts (rules_of starts) starts.asks (length starts.asks) (standing_at left.0) (standing_at d) (omega arith) left.2.begins
      (subst (λ (x : ForwardingState). Each starts.here x.all) (sym left.1) (All-nil (MayListen starts.here)));
}

permits : (starts : Starts) (later : List ForwarderEvent) (d : ForwardingState) → All StartsNone later → Leave (later ++ Begins starts ∷ []) d
    → Permits starts d
permits starts [] d none left = begun starts d left
permits starts (forwarder_event ∷ later) d none left =
    after starts forwarder_event left.0 d (All-head StartsNone forwarder_event later none) left.2
    (permits starts later left.0 (All-tail StartsNone forwarder_event later none) left.1)

pub each-may-listen : EachMayListen
each-may-listen starts later d none left = (permits starts later d none left).each

pub each-listen-is-permitted : EachListenIsPermitted
each-listen-is-permitted starts later host port number old new none left h =
    let k = knows (later ++ Begins starts ∷ []) old left in
    let o = h.orders in
    let f = o.ordered.0 in
    let at = placed (Stands k.home old.serials (later ++ Begins starts ∷ [])) to_listen old.all o.place f o.first o.ordered.1 k.all in
    let ends = there-is (λ (x : Forwarding). (host ≡ x.listen_host) × (port ≡ x.listen_port)) (find to_listen old.all) f at.2 o.there in
    let listens = listens-there f.stage (k.home f.serial) (later ++ Begins starts ∷ []) at.1 at.0.stage in
    let may = (placed (MayListen starts.here) to_listen old.all o.place f o.first o.ordered.1 (permits starts later old none left).each).0 in
    ap (λ h. is_permitted_here starts.here h port) ends.0 ∙ ap (λ p. is_permitted_here starts.here f.listen_host p) ends.1
    ∙ may (sym (ap listens_here at.0.same.kind) ∙ listens)

-- ---- by the calls

none-one : (forwarder_event : ForwarderEvent) → StartsNone forwarder_event → All StartsNone (forwarder_event ∷ [])
none-one forwarder_event h = All-push StartsNone [] forwarder_event (All-nil StartsNone) h

none-plain : (m : PlainMessage) → All StartsNone (recorded_plain m)
none-plain (grammar.Transport number rest) = All-nil StartsNone
none-plain (grammar.GlobalRequest name want rest what) = All-nil StartsNone
none-plain (grammar.RequestSuccess rest) = none-one _ tt
none-plain grammar.RequestFailure = none-one _ tt
none-plain (grammar.Open kind sender window maximum rest what) = All-nil StartsNone

none-recorded : (m : Message) → All StartsNone (events_of_message m)
none-recorded (Plain m) = none-plain m
none-recorded (To recipient m) = All-nil StartsNone

none-if : (r : Result Message Bad) → All StartsNone (recorded_if r)
none-if (Ok m) = none-recorded m
none-if (Err bad) = All-nil StartsNone

none-by : (stage : Reads) (content : List ℕ) → All StartsNone (events_recorded_by stage content)
none-by Control content = All-nil StartsNone
none-by Proxy content = none-if (reading content)

none-in : (stage : Reads) (contents : List (List ℕ)) → All StartsNone (recorded_in stage contents)
none-in stage [] = All-nil StartsNone
none-in stage (content ∷ more) =
    All-append StartsNone (recorded_in (stage_next stage content) more) (events_recorded_by stage content)
    (none-in (stage_next stage content) more) (none-by stage content)

none-sent : (bytes : List ℕ) (forwarder_events : List ForwarderEvent) → IsSentAs bytes forwarder_events → All StartsNone forwarder_events
none-sent bytes [] h = All-nil StartsNone
none-sent bytes (Begins starts ∷ more) h = absurd h
none-sent bytes (Asks client id opening ask answer ∷ more) h = absurd h
none-sent bytes (Answers client id answer ∷ more) h = absurd h
none-sent bytes (Greets ∷ []) h = none-one Greets tt
none-sent bytes (Greets ∷ next ∷ more) h = absurd h
none-sent bytes (Requests f ∷ []) h = none-one (Requests f) tt
none-sent bytes (Requests f ∷ next ∷ more) h = absurd h
none-sent bytes (Replies success port ∷ more) h = absurd h
none-sent bytes (Listens host port number ∷ more) h = absurd h
none-sent bytes (Unlistens l ∷ more) h = absurd h

none-ordered : (o : Order) (number : Option ℕ) → All StartsNone (ordered_by o number)
none-ordered (order.Listen host port) number = none-one _ tt
none-ordered (order.Connect host port) number = All-nil StartsNone
none-ordered (order.Unlisten l) number = none-one _ tt
none-ordered (order.Pause t) number = All-nil StartsNone
none-ordered (order.Resume t) number = All-nil StartsNone
none-ordered (order.Finish t) number = All-nil StartsNone
none-ordered (order.Close t) number = All-nil StartsNone

none-marked : (mark : HouseMark) (forwarder_events : List ForwarderEvent) → AreMarked mark forwarder_events → All StartsNone forwarder_events
none-marked HouseIn forwarder_events h = subst (All StartsNone) (sym h) (All-nil StartsNone)
none-marked (HouseSaid bytes) forwarder_events h = none-sent bytes forwarder_events h
none-marked (HouseTook size) forwarder_events h = subst (All StartsNone) (sym h) (All-nil StartsNone)
none-marked (HouseAsked client id opening ask answer) forwarder_events h = subst (All StartsNone) (sym h) (none-one _ tt)
none-marked (HouseAnswer client id answer) forwarder_events h = subst (All StartsNone) (sym h) (none-one _ tt)
none-marked (HouseOrder o number) forwarder_events h = subst (All StartsNone) (sym h) (none-ordered o number)

none-called : (one : HouseCall) (old : Trace) (forwarder_events : List ForwarderEvent) (new : Trace) → BeginsNone one
    → HappenBy one old forwarder_events new → All StartsNone forwarder_events
none-called (call.Begins starts) old forwarder_events new none h = absurd none
none-called (Marks mark) old forwarder_events new none h = none-marked mark forwarder_events h
none-called (Receives bytes) old forwarder_events new none h = subst (All StartsNone) (sym h.2) (none-in old.stage h.0)
none-called (Turns happening) old forwarder_events new none h = subst (All StartsNone) (sym h) (All-nil StartsNone)
none-called (Takes t bytes) old forwarder_events new none h = subst (All StartsNone) (sym h) (All-nil StartsNone)

none-happens : (calls : List HouseCall) (old : Trace) (forwarder_events : List ForwarderEvent) (new : Trace) → All BeginsNone calls
    → Happen old calls forwarder_events new → All StartsNone forwarder_events
none-happens [] old forwarder_events new none h = subst (All StartsNone) (sym h.1) (All-nil StartsNone)
none-happens (one ∷ calls) old forwarder_events new none h =
    subst (All StartsNone) (sym h.6) (All-append StartsNone h.2 h.1
    (none-happens calls h.0 h.2 new (All-tail BeginsNone one calls none) h.5)
    (none-called one old h.1 h.0 (All-head BeginsNone one calls none) h.4))

pub each-order-is-permitted : EachOrderIsPermitted
each-order-is-permitted starts calls host port number old new none reached follows =
    let h = each-happens (call.Begins starts ∷ calls) old reached in
    let s = h.1 in
    let are : h.0 ≡ s.2 ++ Begins starts ∷ [] = s.6 ∙ ap (λ (es : List ForwarderEvent). s.2 ++ es) s.4 in
    each-listen-is-permitted starts s.2 host port number old.forwarding_state follows.0 (none-happens calls s.0 s.2 old none s.5)
    (subst (λ (es : List ForwarderEvent). Leave es old.forwarding_state) are h.2) follows.1
