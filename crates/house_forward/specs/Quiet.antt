-- When the forwarder has nothing to send, to order and to answer.
use Rattle.std.specs.Prelude.{Bool, not, ◌&&◌, List, is_some, find}
use Rattle.std.specs.List.{list_any}
use Rattle.mux_outside.specs.House.{Quiet}
use Rattle.house_forward.specs.Asks.{has_outcome}
use Rattle.house_forward.specs.Forwardings.{has_request, next_listener_order}
use Rattle.house_forward.specs.Links.{has_sending, has_order, is_offered}
use Rattle.house_forward.specs.declared.asks.Waiting.{Waiting}
use Rattle.house_forward.specs.declared.forwarding.Forwarding.{Forwarding}
use Rattle.house_forward.specs.declared.link.Link.{Link}

-- it has greeted, and neither a forwarding nor a relay has something to send
abbrev pub sends_none : Bool → List Forwarding → List Link → Bool
sends_none greeted forwardings links =
    greeted && (not (is_some (find has_request forwardings)) && not (list_any has_sending links))

-- no relay has an order of its stream, no socket is to be connected, and there is no order about a
-- listener
abbrev pub orders_none : List Forwarding → List Link → List Waiting → Bool
orders_none forwardings links waiting = not (list_any has_order links)
    && (not (list_any is_offered links) && not (is_some (next_listener_order waiting forwardings)))

-- no request has an outcome
abbrev pub answers_none : List Waiting → Bool
answers_none waiting = not (list_any has_outcome waiting)

abbrev pub quiet_of : Bool → List Forwarding → List Link → List Waiting → Quiet
quiet_of greeted forwardings links waiting = record {
  says = sends_none greeted forwardings links;
  orders = orders_none forwardings links waiting;
  answers = answers_none waiting;
}
