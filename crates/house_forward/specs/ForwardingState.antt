-- What the forwarder has besides its relays, as its calls go on: the forwardings, the requests to
-- the server and those of clients.
use Rattle.std.specs.Prelude.{◌≡◌, ◌+◌, ◌-◌, ℕ, Bool, true, false, not, List, [], ◌∷◌, ◌++◌, drop, length, filter, find, IfSome, Option, Some, None}
use Rattle.std.specs.List.{position}
use Rattle.mux_outside.specs.Streams.{among}
use Rattle.mux_outside.specs.declared.house.HouseReply.{HouseReply}
use Rattle.mux_outside.specs.declared.start_ask.StartAsk.{StartAsk}
use Rattle.mux_outside.specs.declared.starts.Starts.{Starts}
use Rattle.house_forward.specs.Asks.{turns_away, next_answer, after_answer, requests_settled, one_more_outcome}
use Rattle.house_forward.specs.Forwardings.{AskedAtStart, Standing, what_stands, ComesUnless, reply_to, waiting_after, forwarding_request_of, after_request_sent}
use Rattle.house_forward.specs.Forwardings.{first_forwarding_request, replied_all, replied_asks, replied_done, replied_refused}
use Rattle.house_forward.specs.Forwardings.{next_listener_order, to_listen, listeners_of, OrderedAt, MadeAt, has_listener, made_refused, ordered_asks, ordered_done, serial_of}
use Rattle.house_forward.specs.Rules.{rules_of, first_rules}
use Rattle.house_forward.specs.declared.asks.ImmediateOutcome.{ImmediateOutcome}
use Rattle.house_forward.specs.declared.asks.PendingRequests.{PendingRequests}
use Rattle.house_forward.specs.declared.asks.RequestOutcome.TheVariants.{Done}
use Rattle.house_forward.specs.declared.asks.Waiting.{Waiting}
use Rattle.house_forward.specs.declared.forwarding.Forwarding.{Forwarding}
use Rattle.house_forward.specs.declared.forwarding.ForwardingRequest.{ForwardingRequest}
use Rattle.house_forward.specs.declared.forwardings.Forwardings.{Forwardings}
use Rattle.house_forward.specs.declared.forwardings.ListenerOrder.{ListenerOrder}
use Rattle.house_forward.specs.declared.forwardings.ListenerOrder.TheVariants.{Listen as ListensAt, Unlisten as Unlistens}
use Rattle.house_forward.specs.declared.forwardings.ForwardingWant.TheVariants as want
use Rattle.house_forward.specs.declared.rules.ListenRules.{ListenRules}

-- - How it listens on this machine, and whether the forwarder greeted.
-- - The forwardings, in order of asking, how many there were so far, and the first of those asked
--   for at the start that was refused.
-- - The requests to the server that were sent and have no reply yet.
-- - The requests of clients that have no answer yet, and how many had an outcome.
pub record ForwardingState : Type 0 where
  pub rules : ListenRules
  pub greeted : Bool
  pub all : List Forwarding
  pub serials : ℕ
  pub refused : Option ℕ
  pub requests : List ForwardingRequest
  pub waiting : List Waiting
  pub done : ℕ

-- nothing happened yet
abbrev pub empty_forwarding_state : ForwardingState
empty_forwarding_state = record {
  rules = first_rules;
  greeted = false;
  all = [];
  serials = 0;
  refused = None;
  requests = [];
  waiting = [];
  done = 0;
}

-- that of the forwarder, by what it has
abbrev pub forwarding_state_of : ListenRules → Bool → Forwardings → PendingRequests → ForwardingState
forwarding_state_of rules greeted forwardings asks = record {
  rules = rules;
  greeted = greeted;
  all = forwardings.all.items;
  serials = forwardings.serials;
  refused = forwardings.refused;
  requests = forwardings.requests.items;
  waiting = asks.waiting.items;
  done = asks.done;
}

-- ---- requests

-- its forwardings as the start sees them
abbrev pub standing_at : ForwardingState → Standing
standing_at d = what_stands d.all d.serials d.refused

-- all that is asked for at the start was asked for, one after another
pub record BeginsWith (starts : Starts) (old new : ForwardingState) : Type 0 where
  pub begins : AskedAtStart (rules_of starts) starts.asks (length starts.asks)
      (standing_at old) (standing_at new)
  pub others : new ≡ record old {
    rules = rules_of starts;
    all = new.all;
    serials = new.serials;
    refused = new.refused;
  }

-- A client requests to open or close a forwarding, and this is the reply. Its outcome is known by
-- what stands and by those that wait. It waits where it has no reply yet, and a new forwarding gets
-- the next serial.
pub record IsClientAsk (client id : ℕ) (opening : Bool) (ask : StartAsk) (reply : HouseReply)
    (old new : ForwardingState) : Type 0 where
  pub came_to : ImmediateOutcome
  pub comes : ComesUnless (turns_away client id old.waiting) old.rules opening ask old.serials
      old.all new.all came_to
  pub replies : reply ≡ reply_to came_to
  pub others : new ≡ record old {
    all = new.all;
    serials = old.serials + (length new.all - length old.all);
    waiting = waiting_after came_to client id opening old.waiting;
  }

-- the request that had an outcome first gets its answer, and waits no longer
pub record GivesFirstAnswer (client id : ℕ) (reply : HouseReply) (old new : ForwardingState) : Type 0 where
  pub answer : next_answer old.waiting ≡ Some (client, id, reply)
  pub others : new ≡ record old { waiting = after_answer (Some (client, id, reply)) old.waiting }

-- ---- what is sent, and the server's replies

-- the greeting is sent
abbrev pub greeting_sent : ForwardingState → ForwardingState
greeting_sent d = record d { greeted = true }

-- the request of this forwarding is sent, and is unanswered
abbrev pub request_sent : Forwarding → ForwardingState → ForwardingState
request_sent f d = record d {
  all = after_request_sent (forwarding_request_of f) d.all;
  requests = d.requests ++ forwarding_request_of f ∷ [];
}

-- the server's reply to the earliest request that has none: a success, maybe with a port, or a
-- failure
abbrev pub reply_received : Bool → Option ℕ → ForwardingState → ForwardingState
reply_received success port d = record d {
  all = replied_all success port (first_forwarding_request d.requests) d.all;
  refused = replied_refused success (first_forwarding_request d.requests) d.all d.refused;
  requests = drop 1 d.requests;
  waiting = replied_asks success port (first_forwarding_request d.requests) d.all d.done d.waiting;
  done = replied_done success port (first_forwarding_request d.requests) d.all d.done;
}

-- ---- listeners

-- the listener of the first forwarding that has none yet is ordered where that is to listen, and it
-- is the next order about a listener
pub record OrdersListener (host : List ℕ) (port : ℕ) (old new : ForwardingState) : Type 0 where
  pub place : ℕ
  pub first : position to_listen old.all ≡ Some place
  pub next : next_listener_order old.waiting old.all ≡ Some want.Listen
  pub there : IfSome (find to_listen old.all) (λ f. (host ≡ f.listen_host) × (port ≡ f.listen_port))
  pub ordered : OrderedAt place old.all new.all
  pub others : new ≡ record old { all = new.all }

-- it is made, with this number, or couldn't be: those that requested it have that outcome
pub record MakesListener (number : Option ℕ) (old new : ForwardingState) : Type 0 where
  pub place : ℕ
  pub first : position to_listen old.all ≡ Some place
  pub made : MadeAt number place old.all new.all
  pub others : new ≡ record old {
    all = new.all;
    refused = made_refused number (find to_listen old.all) old.refused;
    waiting = ordered_asks number (serial_of (find to_listen old.all)) old.done old.waiting;
    done = ordered_done number old.done;
  }

-- both, one after the other; no other listener has the number
pub record GetsListener (host : List ℕ) (port : ℕ) (number : Option ℕ)
    (old new : ForwardingState) : Type 0 where
  pub between : ForwardingState
  pub orders : OrdersListener host port old between
  pub fresh : IfSome number (λ l. among l (listeners_of between.all) ≡ false)
  pub makes : MakesListener number between new

-- a listener that is next to be closed is closed: its forwarding is gone, and those that requested
-- to close it have that outcome
pub record EndsListener (l : ℕ) (old new : ForwardingState) : Type 0 where
  pub serial : ℕ
  pub next : next_listener_order old.waiting old.all ≡ Some (want.Unlisten serial l)
  pub others : new ≡ record old {
    all = filter (λ f. not (has_listener l f)) old.all;
    waiting = requests_settled serial false old.done Done old.waiting;
    done = one_more_outcome old.done;
  }

-- an order about a listener is given
abbrev pub OrdersBy : ListenerOrder → ForwardingState → ForwardingState → Type 0
OrdersBy (ListensAt host port) old new = OrdersListener host.one port old new
OrdersBy (Unlistens l) old new = EndsListener l old new

-- ---- by what the forwarder has

-- all but the list of its forwardings stays
pub record ChangesList (old new : Forwardings) : Type 0 where
  pub serials : new.serials ≡ old.serials
  pub requests : new.requests ≡ old.requests
  pub refused : new.refused ≡ old.refused

-- its forwardings and requests go on so, whatever else it has
abbrev pub ForwardingsGo : (ForwardingState → ForwardingState → Type 0) → Forwardings → PendingRequests → Forwardings → PendingRequests → Type 0
ForwardingsGo so forwardings asks forwardings' asks' = (rules : ListenRules) (greeted : Bool)
    → so (forwarding_state_of rules greeted forwardings asks) (forwarding_state_of rules greeted forwardings' asks')
