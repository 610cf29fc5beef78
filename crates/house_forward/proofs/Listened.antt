-- The forwardings have the listeners that were made and not closed since.
use Rattle.std.proofs.Common.{◌≡◌, ◌∙◌, refl, sym, ap, subst, arith, ℕ, true, false, List, [], ◌∷◌, ◌++◌, length, map, Option, Some, None}
use Rattle.std.specs.Prelude.{not, IfSome}
use Rattle.std.specs.List.{position}
use Rattle.mux_outside.specs.Streams.{among, without}
use Rattle.house_forward.specs.Asks.{turns_away}
use Rattle.house_forward.specs.Causes.{ListenersAreTheirs, EachListenerIsNew, listened}
use Rattle.house_forward.specs.ForwarderEvents.{ForwarderEvent, Does, Leave}
use Rattle.house_forward.specs.ForwarderEvents.{Begins, Asks, Answers, Greets, Requests, Replies, Listens, Unlistens}
use Rattle.house_forward.specs.ForwardingState.{ForwardingState, GetsListener, standing_at}
use Rattle.house_forward.specs.Forwardings.{forwarding_changed, forwarding_request_of, first_forwarding_request, to_listen, is_in_order, listeners_of, has_listener}
use Rattle.house_forward.specs.Rules.{rules_of}
use Rattle.house_forward.specs.declared.forwarding.Change.{Change}
use Rattle.house_forward.specs.declared.forwarding.Change.TheVariants as change
use Rattle.house_forward.specs.declared.forwarding.Forwarding.{Forwarding}
use Rattle.house_forward.specs.declared.forwarding.Stage.TheVariants.{Ordered, Listening}
use Rattle.house_forward.proofs.Adding.{HoldsOnAsk, on-starts, on-ask}
use Rattle.house_forward.proofs.InOrder.{changed-listeners, changed-order, listeners_more, order_more, order-remove, order-filter, listeners-without, first_listens, asked-there, cancelled-there, made as made-in, fails, orders}
use Rattle.house_forward.proofs.Replying.{HoldsOnReply, on-outgoing, on-reply}
use Rattle.house_forward.proofs.Resolving.{MadeOf, listener-made}

-- ---- those that have them stay, in the order in which these were made

record Stays (old new : List Forwarding) : Type 0 where
  order : is_in_order old ≡ true → is_in_order new ≡ true
  listeners : listeners_of new ≡ listeners_of old

stays-same : (fs : List Forwarding) → Stays fs fs
stays-same fs = record { order = λ o. o; listeners = refl }

stays-changed : (c : Change) (serial : ℕ) (fs : List Forwarding) → Stays fs (map (forwarding_changed c serial) fs)
stays-changed c serial fs = record { order = λ o. changed-order c serial fs ∙ o; listeners = changed-listeners c serial fs }

on-ask-stays : HoldsOnAsk Stays
on-ask-stays = record {
  same = stays-same;
  both = λ a b c first second. record {
    order = λ o. second.order (first.order o);
    listeners = second.listeners ∙ first.listeners;
  };
  more = λ fs f first. record {
    order = λ k. order_more fs f (first_listens f first) ∙ k;
    listeners = listeners_more fs f (first_listens f first);
  };
  closes = stays-changed change.Close;
}

on-reply-stays : HoldsOnReply Stays
on-reply-stays = record {
  same = stays-same;
  changes = stays-changed;
  refused = λ serial fs i e. record { order = order-remove fs i; listeners = asked-there serial fs i e };
  granted = λ serial fs i e. record { order = order-remove fs i; listeners = cancelled-there serial fs i e };
}

stays-all : (old new : List Forwarding) → new ≡ old → Stays old new
stays-all old new e = subst (Stays old) (sym e) (stays-same old)

-- ---- by all that happened

record Have (forwarder_events : List ForwarderEvent) (all : List Forwarding) : Type 0 where
  order : is_in_order all ≡ true
  listeners : listeners_of all ≡ listened forwarder_events

have : (forwarder_events more : List ForwarderEvent) (old new : List Forwarding) → listened more ≡ listened forwarder_events → Stays old new → Have forwarder_events old → Have more new
have forwarder_events more old new same s h = record { order = s.order h.order; listeners = s.listeners ∙ h.listeners ∙ sym same }

made : (number : Option ℕ) (host : List ℕ) (port : ℕ) (forwarder_events : List ForwarderEvent) (i : ℕ) (f : Forwarding) (old new : List Forwarding)
    → position to_listen old ≡ Some i → MadeOf number i f old new → Have forwarder_events old → Have (Listens host port number ∷ forwarder_events) new
made None host port forwarder_events i f old new first m h =
    subst (Have (Listens host port None ∷ forwarder_events)) (sym m) (record {
      order = order-remove old i h.order;
      listeners = (fails old i f first).listeners ∙ ap (λ ls. ls ++ []) h.listeners;
    })
made (Some l) host port forwarder_events i f old new first m h =
    let it = made-in old i l (record f { stage = Listening l }) f first h.order refl in
    subst (Have (Listens host port (Some l) ∷ forwarder_events)) (sym m) (record {
      order = it.in_order;
      listeners = it.listeners ∙ ap (λ ls. ls ++ l ∷ []) h.listeners;
    })

after-listen : (host : List ℕ) (port : ℕ) (number : Option ℕ) (forwarder_events : List ForwarderEvent) (old new : ForwardingState) → GetsListener host port number old new
    → Have forwarder_events old.all → Have (Listens host port number ∷ forwarder_events) new.all
after-listen host port number forwarder_events old new h k =
    let l = listener-made host port number old new h in
    made number host port forwarder_events l.place l.forwarding old.all new.all l.first l.made k

after : (forwarder_event : ForwarderEvent) (forwarder_events : List ForwarderEvent) (old new : ForwardingState) → Does forwarder_event old new → Have forwarder_events old.all → Have (forwarder_event ∷ forwarder_events) new.all
after (Begins starts) forwarder_events old new d h = have forwarder_events (Begins starts ∷ forwarder_events) old.all new.all refl
    (on-starts Stays on-ask-stays (rules_of starts) starts.asks (length starts.asks) (standing_at old) (standing_at new) (omega arith) d.begins) h
after (Asks client id opening ask answer) forwarder_events old new d h = have forwarder_events (Asks client id opening ask answer ∷ forwarder_events) old.all new.all refl
    (on-ask Stays on-ask-stays (turns_away client id old.waiting) old.rules opening ask old.serials old.all new.all d.came_to d.comes) h
after (Answers client id answer) forwarder_events old new d h = have forwarder_events (Answers client id answer ∷ forwarder_events) old.all new.all refl
    (stays-all old.all new.all (ap (λ (x : ForwardingState). x.all) d.others)) h
after Greets forwarder_events old new d h = have forwarder_events (Greets ∷ forwarder_events) old.all new.all refl
    (stays-all old.all new.all (ap (λ (x : ForwardingState). x.all) d.1)) h
after (Requests f) forwarder_events old new d h = have forwarder_events (Requests f ∷ forwarder_events) old.all new.all refl
    (subst (Stays old.all) (sym (ap (λ (x : ForwardingState). x.all) d.2)) (on-outgoing Stays on-reply-stays (forwarding_request_of f) old.all)) h
after (Replies success port) forwarder_events old new d h = have forwarder_events (Replies success port ∷ forwarder_events) old.all new.all refl
    (subst (Stays old.all) (sym (ap (λ (x : ForwardingState). x.all) d)) (on-reply Stays on-reply-stays success port (first_forwarding_request old.requests) old.all)) h
after (Listens host port number) forwarder_events old new d h = after-listen host port number forwarder_events old new d h
after (Unlistens l) forwarder_events old new d h =
    subst (Have (Unlistens l ∷ forwarder_events)) (sym (ap (λ (x : ForwardingState). x.all) d.others)) (record {
      order = order-filter (λ f. not (has_listener l f)) old.all h.order;
      listeners = listeners-without l old.all ∙ ap (without l) h.listeners;
    })

they-have : (forwarder_events : List ForwarderEvent) (forwarding_state : ForwardingState) → Leave forwarder_events forwarding_state → Have forwarder_events forwarding_state.all
they-have [] forwarding_state left = subst (λ (d : ForwardingState). Have [] d.all) (sym left) (record { order = refl; listeners = refl })
they-have (forwarder_event ∷ forwarder_events) forwarding_state left = after forwarder_event forwarder_events left.0 forwarding_state left.2 (they-have forwarder_events left.0 left.1)

pub listeners-are-theirs : ListenersAreTheirs
listeners-are-theirs forwarder_events d left = (they-have forwarder_events d left).listeners

-- ---- each is new

pub each-listener-is-new : EachListenerIsNew
each-listener-is-new host port number forwarder_events old new left h =
    let k = they-have forwarder_events old left in
    let f = h.orders.ordered.0 in
    let ordered = orders old.all h.orders.place f (record f { stage = Ordered }) h.orders.first h.orders.ordered.1 k.order refl in
    subst (λ (ls : List ℕ). IfSome number (λ l. among l ls ≡ false))
    (ap listeners_of h.orders.ordered.2 ∙ ordered.listeners ∙ k.listeners) h.fresh
