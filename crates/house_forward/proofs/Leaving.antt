-- What is known of the forwardings and the requests after what happened to them.
use Rattle.std.proofs.Common.{◌≡◌, ◌∙◌, refl, sym, ap, subst, arith, ℕ, ◌+◌, ◌<◌, ◌≤◌, Bool, true, false, List, [], ◌∷◌, ◌++◌, length, length-append, map, filter, Option, Some, None}
use Rattle.std.specs.Prelude.{if◌then◌else◌, find, not, OnOk, OnErr, Result, Ok, Err}
use Rattle.std.specs.List.{sum_by, position, remove}
use Rattle.std.proofs.lemmas.List.{length-map, map-append}
use Rattle.std.proofs.lemmas.List.Edits.{length-remove}
use Rattle.std.proofs.lemmas.List.Quantifiers.{position-Some}
use Rattle.mux_outside.specs.Streams.{among, without}
use Rattle.mux_outside.specs.declared.start_ask.StartAsk.{StartAsk}
use Rattle.house_forward.specs.Rules.{AreEnds, first_rules}
use Rattle.house_forward.specs.Asks.{requests_settled, settle_one, ask_settled_at, is_ask_about, all_requests_refused, one_more_outcome}
use Rattle.house_forward.specs.ForwardingState.{ForwardingState, reply_received, ForwardingsGo, OrdersListener, MakesListener, EndsListener}
use Rattle.house_forward.specs.Due.{forwarding_due}
use Rattle.house_forward.specs.Forwardings.{listeners_of, listeners_made, to_listen, is_in_order, has_listener, forwarding_changed, is_listen_unanswered, is_cancelled, MadeAt, ordered_asks, serial_of, after_close, after_request_sent, OpensForwarding}
use Rattle.house_forward.specs.Forwardings.{Standing, StartsAt, StartsIf, opened_asks, live_outcome_in, replied_asks, replied_all, first_forwarding_request}
use Rattle.house_forward.specs.Known.{open_ask, open_asks}
use Rattle.house_forward.specs.declared.asks.ImmediateOutcome.{ImmediateOutcome}
use Rattle.house_forward.specs.declared.asks.ImmediateOutcome.TheVariants.{Now, Later}
use Rattle.house_forward.specs.declared.asks.PendingRequests.{PendingRequests}
use Rattle.house_forward.specs.declared.asks.RequestOutcome.{RequestOutcome}
use Rattle.house_forward.specs.declared.asks.RequestOutcome.TheVariants.{Done, Refused}
use Rattle.house_forward.specs.declared.asks.Waiting.{Waiting}
use Rattle.house_forward.specs.declared.forwarding.Change.{Change}
use Rattle.house_forward.specs.declared.forwarding.Change.TheVariants as change
use Rattle.house_forward.specs.declared.forwarding.Forwarding.{Forwarding}
use Rattle.house_forward.specs.declared.forwarding.ForwardingRequest.{ForwardingRequest}
use Rattle.house_forward.specs.declared.forwarding.ForwardingRequest.TheVariants.{Listen, Cancel}
use Rattle.house_forward.specs.declared.forwarding.Stage.TheVariants.{Ordered, Listening}
use Rattle.house_forward.specs.declared.forwardings.Forwardings.{Forwardings}
use Rattle.house_forward.specs.declared.rules.Ends.{Ends}
use Rattle.house_forward.specs.declared.rules.ListenRules.{ListenRules}
use Rattle.house_forward.proofs.InOrder.{first_listens, listeners_more, IsOrdered, orders, made, fails, unlistens, listeners-without, changed-listeners, asked-there, cancelled-there}
use Rattle.house_forward.proofs.Replying.{HoldsOnReply, on-reply}

-- ---- requests have an outcome

open-if : (b : Bool) (w : Waiting) (o : Option (ℕ × RequestOutcome)) → open_ask (if b then record w { outcome = o } else w) ≡ open_ask w
open-if true w o = refl
open-if false w o = refl

pub settled-open : (serial : ℕ) (opening : Bool) (at : ℕ) (outcome : RequestOutcome) (ws : List Waiting)
    → open_asks (requests_settled serial opening at outcome ws) ≡ open_asks ws
settled-open serial opening at outcome [] = refl
settled-open serial opening at outcome (w ∷ ws) =
    ap (λ a. a ∷ open_asks (requests_settled serial opening at outcome ws))
    (open-if (is_ask_about serial opening w) w (ask_settled_at at outcome w.outcome))
    ∙ ap (λ rest. open_ask w ∷ rest) (settled-open serial opening at outcome ws)

pub settled-count : (serial : ℕ) (opening : Bool) (at : ℕ) (outcome : RequestOutcome) (ws : List Waiting)
    → length (requests_settled serial opening at outcome ws) ≡ length ws
settled-count serial opening at outcome ws = length-map ws (settle_one serial opening at outcome)

-- the same requests wait, whatever their outcome
pub record SameAsks (old new : List Waiting) : Type 0 where
  pub asks : open_asks new ≡ open_asks old
  pub count : length new ≡ length old

same-asks : (ws : List Waiting) → SameAsks ws ws
same-asks ws = record { asks = refl; count = refl }

pub settles : (serial : ℕ) (opening : Bool) (at : ℕ) (outcome : RequestOutcome) (ws : List Waiting)
    → SameAsks ws (requests_settled serial opening at outcome ws)
settles serial opening at outcome ws = record {
  asks = settled-open serial opening at outcome ws;
  count = settled-count serial opening at outcome ws;
}

refuses : (serial at : ℕ) (ws : List Waiting) → SameAsks ws (all_requests_refused serial at ws)
refuses serial at ws =
    let first = requests_settled serial true at Refused ws in record {
      asks = settled-open serial false (one_more_outcome at) Refused first ∙ settled-open serial true at Refused ws;
      count = settled-count serial false (one_more_outcome at) Refused first ∙ settled-count serial true at Refused ws;
    }

opens : (o : Option RequestOutcome) (serial at : ℕ) (ws : List Waiting) → SameAsks ws (opened_asks o serial at ws)
opens None serial at ws = same-asks ws
opens (Some outcome) serial at ws = settles serial true at outcome ws

replied-asks : (success : Bool) (port : Option ℕ) (r : Option ForwardingRequest) (fs : List Forwarding) (at : ℕ) (ws : List Waiting)
    → SameAsks ws (replied_asks success port r fs at ws)
replied-asks true port None fs at ws = same-asks ws
replied-asks false port None fs at ws = same-asks ws
replied-asks true port (Some (Listen serial)) fs at ws = opens (live_outcome_in port (find (is_listen_unanswered serial) fs)) serial at ws
replied-asks false port (Some (Listen serial)) fs at ws = refuses serial at ws
replied-asks true port (Some (Cancel serial)) fs at ws = settles serial false at Done ws
replied-asks false port (Some (Cancel serial)) fs at ws = settles serial false at Refused ws

made-asks : (number : Option ℕ) (serial at : ℕ) (ws : List Waiting) → SameAsks ws (ordered_asks number serial at ws)
made-asks None serial at ws = refuses serial at ws
made-asks (Some l) serial at ws = settles serial true at Done ws

-- one that waits more
pub waits-open : (ws : List Waiting) (w : Waiting) → open_asks (ws ++ w ∷ []) ≡ open_asks ws ++ open_ask w ∷ []
waits-open ws w = map-append open_ask ws (w ∷ [])

-- ---- a request to open

-- the same listeners, and one forwarding more at most
pub record AddsOne (old new : List Forwarding) : Type 0 where
  pub listeners : listeners_of new ≡ listeners_of old
  pub count : length new ≤ length old + 1

adds-none : (old new : List Forwarding) → new ≡ old → AddsOne old new
adds-none old new e = subst (AddsOne old) (sym e) (record { listeners = refl; count = omega arith })

pub opens-one : (b : Bool) (ends : Ends) (serial : ℕ) (start : Option ℕ) (old new : List Forwarding) → OpensForwarding b ends serial start old new
    → AddsOne old new
opens-one false ends serial start old new h = adds-none old new h
opens-one true ends serial start old new h =
    let more = length-append old (h.0 ∷ []) in
    subst (AddsOne old) (sym h.2) (record {
      listeners = listeners_more old h.0 (first_listens h.0 h.1.first);
      count = omega (arith, more);
    })

-- or none, where it wanted memory
pub opens-most : {E : Type 0} (r : Result ImmediateOutcome E) (b : Bool) (ends : Ends) (serial : ℕ) (start : Option ℕ) (old new : List Forwarding)
    → OnOk r (OpensForwarding b ends serial start old new) → OnErr r (new ≡ old) → AddsOne old new
opens-most (Ok asked) b ends serial start old new h none = opens-one b ends serial start old new h
opens-most (Err e) b ends serial start old new h none = adds-none old new none

-- ---- a request to close, and a request to the server that is sent

-- as many forwardings, and the same listeners
pub record SameListeners (old new : List Forwarding) : Type 0 where
  pub listeners : listeners_of new ≡ listeners_of old
  pub count : length new ≡ length old

changes : (c : Change) (serial : ℕ) (fs : List Forwarding) → SameListeners fs (map (forwarding_changed c serial) fs)
changes c serial fs = record { listeners = changed-listeners c serial fs; count = length-map fs (forwarding_changed c serial) }

pub closes-same : (comes : ImmediateOutcome) (fs : List Forwarding) → SameListeners fs (after_close comes fs)
closes-same (Now outcome) fs = record { listeners = refl; count = refl }
closes-same (Later serial) fs = changes change.Close serial fs

pub says-same : (r : ForwardingRequest) (fs : List Forwarding) → SameListeners fs (after_request_sent r fs)
says-same (Listen serial) fs = changes change.ForwardingRequest serial fs
says-same (Cancel serial) fs = changes change.Cancel serial fs

-- ---- a reply of the server

-- the same listeners, and no more forwardings
record KeepsListeners (old new : List Forwarding) : Type 0 where
  pub listeners : listeners_of new ≡ listeners_of old
  pub fewer : length new ≤ length old

remove-fewer : (fs : List Forwarding) (i : ℕ) → i < length fs → length (remove fs i) ≤ length fs
remove-fewer fs i lt = let one = length-remove fs i lt in omega (arith, one)

found-in : (p : Forwarding → Bool) (fs : List Forwarding) (i : ℕ) → position p fs ≡ Some i → i < length fs
found-in p [] i e = cc
found-in p (f ∷ fs) i e = (position-Some p (f ∷ fs) i f e).0

on-reply-keeps : HoldsOnReply KeepsListeners
on-reply-keeps = record {
  same = λ fs. record { listeners = refl; fewer = omega arith };
  changes = λ c serial fs.
      let s = changes c serial fs in
      let same = s.count in
      record { listeners = s.listeners; fewer = omega (arith, same) };
  refused = λ serial fs i e. record {
    listeners = asked-there serial fs i e;
    fewer = remove-fewer fs i (found-in (is_listen_unanswered serial) fs i e);
  };
  granted = λ serial fs i e. record {
    listeners = cancelled-there serial fs i e;
    fewer = remove-fewer fs i (found-in (is_cancelled serial) fs i e);
  };
}

-- what is known stays as it was
pub record RepliedMore (fs : Forwardings) (asks : PendingRequests) (fs' : Forwardings) (asks' : PendingRequests) : Type 0 where
  pub same : SameAsks asks.waiting.items asks'.waiting.items
  pub listeners : listeners_of fs'.all.items ≡ listeners_of fs.all.items
  pub fewer : length fs'.all.items ≤ length fs.all.items

pub replied-more : (success : Bool) (port : Option ℕ) (fs : Forwardings) (asks : PendingRequests) (fs' : Forwardings) (asks' : PendingRequests)
    → ForwardingsGo (λ old new. new ≡ reply_received success port old) fs asks fs' asks' → RepliedMore fs asks fs' asks'
replied-more success port fs asks fs' asks' goes =
    let e = goes first_rules false in
    let r = first_forwarding_request fs.requests.items in
    let all : fs'.all.items ≡ replied_all success port r fs.all.items = ap (λ (d : ForwardingState). d.all) e in
    let waiting : asks'.waiting.items ≡ replied_asks success port r fs.all.items asks.done asks.waiting.items = ap (λ (d : ForwardingState). d.waiting) e in
    let keeps = subst (KeepsListeners fs.all.items) (sym all) (on-reply KeepsListeners on-reply-keeps success port r fs.all.items) in record {
      same = subst (SameAsks asks.waiting.items) (sym waiting) (replied-asks success port r fs.all.items asks.done asks.waiting.items);
      listeners = keeps.listeners;
      fewer = keeps.fewer;
    }

-- ---- orders about listeners

-- the first that has no listener yet is ordered
pub ordered-more : (host : List ℕ) (port : ℕ) (old new : ForwardingState) → OrdersListener host port old new → is_in_order old.all ≡ true
    → IsOrdered old.all new.all
ordered-more host port old new h order =
    let f = h.ordered.0 in
    subst (IsOrdered old.all) (sym h.ordered.2) (orders old.all h.place f (record f { stage = Ordered }) h.first h.ordered.1 order refl)

-- a listener is closed
pub record EndedMore (l : ℕ) (old new : ForwardingState) : Type 0 where
  pub among : among l (listeners_of old.all) ≡ true
  pub listeners : listeners_of new.all ≡ without l (listeners_of old.all)
  pub due : sum_by forwarding_due new.all + 1 ≤ sum_by forwarding_due old.all
  pub same : SameAsks old.waiting new.waiting

pub ended-more : (l : ℕ) (old new : ForwardingState) → EndsListener l old new → EndedMore l old new
ended-more l old new h =
    let all : new.all ≡ filter (λ f. not (has_listener l f)) old.all = ap (λ (d : ForwardingState). d.all) h.others in
    let waiting : new.waiting ≡ requests_settled h.serial false old.done Done old.waiting = ap (λ (d : ForwardingState). d.waiting) h.others in
    let u = unlistens old.waiting old.all h.serial l h.next in record {
      among = u.among;
      listeners = ap listeners_of all ∙ listeners-without l old.all;
      due = rw all u.due;
      same = subst (SameAsks old.waiting) (sym waiting) (settles h.serial false old.done Done old.waiting);
    }

-- one is made, or couldn't be
pub record MadeMore (number : Option ℕ) (old new : ForwardingState) : Type 0 where
  pub listeners : listeners_of new.all ≡ listeners_of old.all ++ listeners_made number
  pub due : sum_by forwarding_due new.all + 1 ≤ sum_by forwarding_due old.all
  pub same : SameAsks old.waiting new.waiting

made-all : (number : Option ℕ) (i : ℕ) (old new : List Forwarding) → position to_listen old ≡ Some i → is_in_order old ≡ true
    → MadeAt number i old new
    → (listeners_of new ≡ listeners_of old ++ listeners_made number) × (sum_by forwarding_due new + 1 ≤ sum_by forwarding_due old)
made-all None i [] new e order h = cc
made-all None i (f ∷ fs) new e order h =
    let n = fails (f ∷ fs) i f e in
    rw h (n.listeners, n.due)
made-all (Some l) i old new e order h =
    let f = h.0 in
    let n = made old i l (record f { stage = Listening l }) f e order refl in
    rw h.2 (n.listeners, n.due)

pub made-more : (number : Option ℕ) (old new : ForwardingState) → MakesListener number old new → is_in_order old.all ≡ true
    → MadeMore number old new
made-more number old new h order =
    let n = made-all number h.place old.all new.all h.first order h.made in
    let waiting : new.waiting ≡ ordered_asks number (serial_of (find to_listen old.all)) old.done old.waiting =
    ap (λ (d : ForwardingState). d.waiting) h.others in record {
      listeners = n.0;
      due = n.1;
      same = subst (SameAsks old.waiting) (sym waiting)
          (made-asks number (serial_of (find to_listen old.all)) old.done old.waiting);
    }

-- a request of the start that isn't ruled out starts at its two ends
pub starts-at-ends : (b : Bool) (rules : ListenRules) (ask : StartAsk) (i : ℕ) (old new : Standing) (ends : Ends) → true ≡ not b
    → AreEnds rules ask ends → StartsAt ends i old new → StartsIf b rules ask i old new
starts-at-ends true rules ask i old new ends e are at = absurd (cc)
starts-at-ends false rules ask i old new ends e are at = (ends, are, at)
