-- How what the forwarder has besides its relays goes on.
use Rattle.std.proofs.Common.{◌≡◌, ◌∙◌, refl, sym, ap, subst, ℕ, Bool, true, false, List, [], ◌∷◌, ◌++◌, drop, Option, Some, None}
use Rattle.std.specs.Prelude.{not, filter, find, is_some, IfSome, IsSomeAnd}
use Rattle.std.specs.List.{position}
use Rattle.std.proofs.lemmas.Bool.{false≢true}
use Rattle.proxy_frames.specs.State.{FramerState}
use Rattle.mux_outside.specs.House.{Known, HouseNumberFits}
use Rattle.mux_outside.specs.Streams.{among}
use Rattle.mux_outside.specs.declared.house.HouseReply.{HouseReply}
use Rattle.house_forward.specs.Asks.{next_answer, after_answer, requests_settled, one_more_outcome}
use Rattle.house_forward.specs.ForwardingState.{ForwardingState, forwarding_state_of, GivesFirstAnswer, greeting_sent, request_sent, reply_received, OrdersListener, MakesListener, EndsListener, OrdersBy, ForwardingsGo, ChangesList}
use Rattle.house_forward.specs.Forwardings.{is_first_to_listen, is_ordered_first, ListensFor, has_request, forwarding_request_of, after_request_sent}
use Rattle.house_forward.specs.Forwardings.{next_listener_order, to_listen, OrderedAt, MadeAt, has_listener, made_refused, ordered_asks, ordered_done, serial_of}
use Rattle.house_forward.specs.Forwardings.{first_forwarding_request, replied_all, replied_asks, replied_done, replied_refused}
use Rattle.house_forward.specs.RelayTraces.{Held, ForwardingStateGoes, GoesFurther, RelaySendsIn, as_held, forwarder_held_of}
use Rattle.house_forward.specs.Said.{framed, request_payload}
use Rattle.house_forward.specs.declared.asks.PendingRequests.{PendingRequests}
use Rattle.house_forward.specs.declared.asks.RequestOutcome.TheVariants.{Done}
use Rattle.house_forward.specs.declared.forwarding.Forwarding.{Forwarding}
use Rattle.house_forward.specs.declared.forwarding.ForwardingRequest.{ForwardingRequest}
use Rattle.house_forward.specs.declared.forwardings.Forwardings.{Forwardings}
use Rattle.house_forward.specs.declared.forwardings.ListenerOrder.{ListenerOrder}
use Rattle.house_forward.specs.declared.forwardings.ListenerOrder.TheVariants.{Listen as ListensAt, Unlisten as Unlistens}
use Rattle.house_forward.specs.declared.forwardings.ForwardingWant.TheVariants as want
use Rattle.house_forward.specs.declared.forwarder_state.ForwarderStage.{ForwarderStage}
use Rattle.house_forward.specs.declared.relays.Relays.{Relays}
use Rattle.house_forward.specs.declared.rules.ListenRules.{ListenRules}
use Rattle.mux_outside.specs.declared.greeting.TheConstants.{GREETING}
use Rattle.house_forward.specs.declared.two_texts.TwoTexts.{TwoTexts}
use Rattle.house_forward.proofs.Traces.{greets, requests}
use Rattle.house_forward.proofs.InOrder.{none-waits, listens-first}
use Rattle.house_forward.proofs.Lists.{none-passes, none-found}
use Rattle.house_forward.proofs.Placed.{listens-first as listens-there}

-- two are the same whose parts are
pub same-forwarding_states : (a b : ForwardingState) → a.rules ≡ b.rules → a.greeted ≡ b.greeted → a.all ≡ b.all → a.serials ≡ b.serials
    → a.refused ≡ b.refused → a.requests ≡ b.requests → a.waiting ≡ b.waiting → a.done ≡ b.done → a ≡ b
same-forwarding_states a b rules greeted all serials refused requests waiting done =
    let x : ForwardingState = record {
      rules = a.rules;
      greeted = a.greeted;
      all = a.all;
      serials = a.serials;
      refused = a.refused;
      requests = a.requests;
      waiting = a.waiting;
      done = a.done;
    } in
    ap (λ g. record x { rules = g }) rules
    ∙ ap (λ g. record x { rules = b.rules; greeted = g }) greeted
    ∙ ap (λ fs. record x { rules = b.rules; greeted = b.greeted; all = fs }) all
    ∙ ap (λ n. record x { rules = b.rules; greeted = b.greeted; all = b.all; serials = n }) serials
    ∙ ap (λ o. record x { rules = b.rules; greeted = b.greeted; all = b.all; serials = b.serials; refused = o }) refused
    ∙ ap (λ rs. record b { requests = rs; waiting = a.waiting; done = a.done }) requests
    ∙ ap (λ ws. record b { waiting = ws; done = a.done }) waiting
    ∙ ap (λ n. record b { done = n }) done

-- ---- listeners

-- one that is next to be closed is closed
pub ends-listener : (l serial : ℕ) (fs : Forwardings) (asks : PendingRequests) (fs' : Forwardings) (asks' : PendingRequests)
    → next_listener_order asks.waiting.items fs.all.items ≡ Some (want.Unlisten serial l)
    → fs'.all.items ≡ filter (λ f. not (has_listener l f)) fs.all.items → ChangesList fs fs'
    → asks'.waiting.items ≡ requests_settled serial false asks.done Done asks.waiting.items → asks'.done ≡ one_more_outcome asks.done
    → ForwardingsGo (EndsListener l) fs asks fs' asks'
ends-listener l serial fs asks fs' asks' next all others waiting done rules greeted =
    let old = forwarding_state_of rules greeted fs asks in record {
      serial = serial;
      next = next;
      others = same-forwarding_states (forwarding_state_of rules greeted fs' asks') (record old {
        all = filter (λ f. not (has_listener l f)) old.all;
        waiting = requests_settled serial false old.done Done old.waiting;
        done = one_more_outcome old.done;
      }) refl refl all others.serials others.refused (ap (λ q. q.items) others.requests) waiting done;
    }

never-ends : (l : ℕ) (first : Option Forwarding) → ListensFor (Unlistens l) first → ⊥
never-ends l None h = h
never-ends l (Some f) h = h

orders-at : (o : Option ℕ) (texts : TwoTexts) (port : ℕ) (fs : Forwardings) (asks : PendingRequests) (fs' : Forwardings) → position to_listen fs.all.items ≡ o
    → next_listener_order asks.waiting.items fs.all.items ≡ Some want.Listen → ListensFor (ListensAt texts port) (find to_listen fs.all.items)
    → IfSome o (λ i. OrderedAt i fs.all.items fs'.all.items) → ChangesList fs fs'
    → ForwardingsGo (OrdersListener texts.one port) fs asks fs' asks
orders-at None texts port fs asks fs' e next there ordered others rules greeted =
    let none = none-found to_listen fs.all.items (none-passes to_listen fs.all.items e) in
    absurd (false≢true (ap is_first_to_listen (sym none) ∙ listens-first asks.waiting.items fs.all.items next))
orders-at (Some i) texts port fs asks fs' e next there ordered others rules greeted =
    let old = forwarding_state_of rules greeted fs asks in record {
      place = i;
      first = e;
      next = next;
      there = listens-there texts port (find to_listen fs.all.items) there;
      ordered = ordered;
      others = same-forwarding_states (forwarding_state_of rules greeted fs' asks) (record old { all = fs'.all.items }) refl refl refl others.serials others.refused
          (ap (λ q. q.items) others.requests) refl refl;
    }

-- the first that has none yet is ordered
pub orders-listener : (o : Option ListenerOrder) (fs : Forwardings) (asks : PendingRequests) (fs' : Forwardings)
    → next_listener_order asks.waiting.items fs.all.items ≡ Some want.Listen → IsSomeAnd o (λ x. ListensFor x (find to_listen fs.all.items))
    → IfSome (position to_listen fs.all.items) (λ i. OrderedAt i fs.all.items fs'.all.items) → ChangesList fs fs'
    → IfSome o (λ x. ForwardingsGo (OrdersBy x) fs asks fs' asks)
orders-listener None fs asks fs' next there ordered others = tt
orders-listener (Some (ListensAt texts port)) fs asks fs' next there ordered others =
    orders-at (position to_listen fs.all.items) texts port fs asks fs' refl next there ordered others
orders-listener (Some (Unlistens l)) fs asks fs' next there ordered others = absurd (never-ends l (find to_listen fs.all.items) there)

makes-at : (o : Option ℕ) (number : Option ℕ) (old new : ForwardingState) → position to_listen old.all ≡ o
    → is_ordered_first (find to_listen old.all) ≡ true → IfSome o (λ i. MadeAt number i old.all new.all)
    → new ≡ record old {
      all = new.all;
      refused = made_refused number (find to_listen old.all) old.refused;
      waiting = ordered_asks number (serial_of (find to_listen old.all)) old.done old.waiting;
      done = ordered_done number old.done;
    } → MakesListener number old new
makes-at None number old new e is made others = absurd (none-waits old.all e is)
makes-at (Some i) number old new e is made others = record { place = i; first = e; made = made; others = others }

-- it is made, or couldn't be
pub makes-listener : (number : Option ℕ) (old new : ForwardingState) → is_ordered_first (find to_listen old.all) ≡ true
    → IfSome (position to_listen old.all) (λ i. MadeAt number i old.all new.all)
    → new ≡ record old {
      all = new.all;
      refused = made_refused number (find to_listen old.all) old.refused;
      waiting = ordered_asks number (serial_of (find to_listen old.all)) old.done old.waiting;
      done = ordered_done number old.done;
    } → MakesListener number old new
makes-listener number old new is made others = makes-at (position to_listen old.all) number old new refl is made others

-- a number that fits is that of no other listener
pub fits-fresh : (number : Option ℕ) (known : Known) → HouseNumberFits number known → IfSome number (λ l. among l known.listeners ≡ false)
fits-fresh None known h = tt
fits-fresh (Some l) known h = h.no_listener

-- ---- a reply of the server

pub receives-reply : (success : Bool) (port : Option ℕ) (fs : Forwardings) (asks : PendingRequests) (fs' : Forwardings) (asks' : PendingRequests)
    → fs'.all.items ≡ replied_all success port (first_forwarding_request fs.requests.items) fs.all.items → fs'.serials ≡ fs.serials
    → fs'.refused ≡ replied_refused success (first_forwarding_request fs.requests.items) fs.all.items fs.refused
    → fs'.requests.items ≡ drop 1 fs.requests.items
    → asks'.waiting.items ≡ replied_asks success port (first_forwarding_request fs.requests.items) fs.all.items asks.done asks.waiting.items
    → asks'.done ≡ replied_done success port (first_forwarding_request fs.requests.items) fs.all.items asks.done
    → ForwardingsGo (λ old new. new ≡ reply_received success port old) fs asks fs' asks'
receives-reply success port fs asks fs' asks' all serials refused requests waiting done rules greeted =
    same-forwarding_states (forwarding_state_of rules greeted fs' asks') (reply_received success port (forwarding_state_of rules greeted fs asks))
    refl refl all serials refused requests waiting done

-- ---- requests

-- a request gets its answer
pub gives-answer : (client id : ℕ) (reply : HouseReply) (o : Option (ℕ × ℕ × HouseReply)) (relays : Relays) (framer : FramerState) (stage : ForwarderStage)
    (rules : ListenRules) (greeted : Bool) (fs : Forwardings) (asks asks' : PendingRequests) → o ≡ Some (client, id, reply) → o ≡ next_answer asks.waiting.items
    → asks'.waiting.items ≡ after_answer o asks.waiting.items → asks'.done ≡ asks.done
    → ForwardingStateGoes (GivesFirstAnswer client id reply) (forwarder_held_of relays framer stage rules greeted fs asks) (forwarder_held_of relays framer stage rules greeted fs asks')
gives-answer client id reply o relays framer stage rules greeted fs asks asks' e is waiting done =
    let old = forwarding_state_of rules greeted fs asks in (
      refl,
      record {
        answer = sym is ∙ e;
        others = same-forwarding_states (forwarding_state_of rules greeted fs asks') (record old { waiting = after_answer (Some (client, id, reply)) old.waiting })
            refl refl refl refl refl refl (waiting ∙ ap (λ (a : Option (ℕ × ℕ × HouseReply)). after_answer a asks.waiting.items) e) done;
      },
    )

-- ---- what is sent

requests-by : (o : Option Forwarding) (said : Option ForwardingRequest) (r : ForwardingRequest) (bytes : List ℕ) (relays : Relays) (framer : FramerState) (stage : ForwarderStage)
    (rules : ListenRules) (greeted : Bool) (fs fs' : Forwardings) (asks : PendingRequests) → find has_request fs.all.items ≡ o → greeted ≡ true → said ≡ Some r
    → is_some said ≡ is_some o → IfSome o (λ f. said ≡ Some (forwarding_request_of f)) → IfSome o (λ f. bytes ≡ framed (request_payload f))
    → fs'.all.items ≡ after_request_sent r fs.all.items → fs'.requests.items ≡ fs.requests.items ++ r ∷ []
    → fs'.serials ≡ fs.serials → fs'.refused ≡ fs.refused
    → GoesFurther (RelaySendsIn bytes) (forwarder_held_of relays framer stage rules greeted fs asks) (forwarder_held_of relays framer stage rules greeted fs' asks)
requests-by None said r bytes relays framer stage rules greeted fs fs' asks e first is exact which spelled all more serials refused = cc
requests-by (Some f) said r bytes relays framer stage rules greeted fs fs' asks e first is exact which spelled all more serials refused =
    let old = forwarder_held_of relays framer stage rules greeted fs asks in
    let same : r ≡ forwarding_request_of f = cc in
    let forwarding_state = same-forwarding_states (forwarding_state_of rules greeted fs' asks) (request_sent f (forwarding_state_of rules greeted fs asks)) refl refl
    (all ∙ ap (λ (q : ForwardingRequest). after_request_sent q fs.all.items) same) serials refused
    (more ∙ ap (λ (q : ForwardingRequest). fs.requests.items ++ q ∷ []) same) refl refl in
    subst (λ (d : ForwardingState). GoesFurther (RelaySendsIn bytes) old (as_held relays.all.items framer stage d)) (sym forwarding_state)
    (subst (λ (b : List ℕ). GoesFurther (RelaySendsIn b) old (record old { forwarding_state = request_sent f old.forwarding_state })) (sym spelled) (requests f old first e))

-- the first request is sent
pub requests-one : (said : Option ForwardingRequest) (r : ForwardingRequest) (bytes : List ℕ) (relays : Relays) (framer : FramerState) (stage : ForwarderStage)
    (rules : ListenRules) (greeted : Bool) (fs fs' : Forwardings) (asks : PendingRequests) → greeted ≡ true → said ≡ Some r
    → is_some said ≡ is_some (find has_request fs.all.items) → IfSome (find has_request fs.all.items) (λ f. said ≡ Some (forwarding_request_of f))
    → IfSome (find has_request fs.all.items) (λ f. bytes ≡ framed (request_payload f))
    → fs'.all.items ≡ after_request_sent r fs.all.items → fs'.requests.items ≡ fs.requests.items ++ r ∷ []
    → fs'.serials ≡ fs.serials → fs'.refused ≡ fs.refused
    → GoesFurther (RelaySendsIn bytes) (forwarder_held_of relays framer stage rules greeted fs asks) (forwarder_held_of relays framer stage rules greeted fs' asks)
requests-one said r bytes relays framer stage rules greeted fs fs' asks first is exact which spelled all more serials refused =
    requests-by (find has_request fs.all.items) said r bytes relays framer stage rules greeted fs fs' asks refl first is exact which spelled all more
    serials refused

-- there is none
pub no-request : (o : Option Forwarding) (said : Option ForwardingRequest) → said ≡ None → is_some said ≡ is_some o → o ≡ None
no-request None said is e = refl
no-request (Some f) said is e = cc

-- it greets
pub greets-first : (bytes : List ℕ) (h : Held) → bytes ≡ GREETING.now → h.forwarding_state.greeted ≡ false
    → GoesFurther (RelaySendsIn bytes) h (record h { forwarding_state = greeting_sent h.forwarding_state })
greets-first bytes h e none =
    subst (λ (b : List ℕ). GoesFurther (RelaySendsIn b) h (record h { forwarding_state = greeting_sent h.forwarding_state })) (sym e) (greets h none)
