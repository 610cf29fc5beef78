-- What is known of the forwarder by its own lists.
use Rattle.std.specs.Prelude.{ℕ, Bool, true, List, map, find, Option, Some, None}
use Rattle.std.specs.List.{list_any}
use Rattle.mux_outside.specs.House.{OpenAsk, Known, without_ask}
use Rattle.mux_outside.specs.declared.house.HouseReply.{HouseReply}
use Rattle.mux_outside.specs.declared.order.Order.{Order}
use Rattle.mux_outside.specs.declared.order.Order.TheVariants as order
use Rattle.house_forward.specs.Forwardings.{listeners_of, to_listen, is_ordered_first}
use Rattle.house_forward.specs.Links.{streams_of, is_awaited}
use Rattle.house_forward.specs.declared.asks.Waiting.{Waiting}
use Rattle.house_forward.specs.declared.forwarding.Forwarding.{Forwarding}
use Rattle.house_forward.specs.declared.link.Link.{Link}
use Rattle.house_forward.specs.declared.ordering.Ordering.{Ordering}
use Rattle.house_forward.specs.declared.ordering.Ordering.TheVariants.{Listen, Connect}

-- a request that waits
abbrev pub open_ask : Waiting → OpenAsk
open_ask w = record { client = w.client; id = w.id; opening = w.opening }

-- those that wait
abbrev pub open_asks : List Waiting → List OpenAsk
open_asks waiting = map open_ask waiting

-- those that wait after this answer
abbrev pub asks_after_answer : Option (ℕ × ℕ × HouseReply) → List OpenAsk → List OpenAsk
asks_after_answer None asks = asks
asks_after_answer (Some a) asks = without_ask a.0 a.1 asks

-- the order whose number is awaited
abbrev pub ordering_of : Option Ordering → Option Order
ordering_of None = None
ordering_of (Some (Listen host port)) = Some (order.Listen host port)
ordering_of (Some (Connect host port)) = Some (order.Connect host port)

-- what is known of the forwarder
abbrev pub known_of : List Forwarding → List Link → List Waiting → Option Ordering → Known
known_of forwardings links waiting ordering = record {
  present = true;
  listeners = listeners_of forwardings;
  streams = streams_of links;
  asks = open_asks waiting;
  ordering = ordering_of ordering;
}

-- what a number is awaited for is there: the forwarding is the first that has no listener, or a relay
-- has no stream yet
abbrev pub is_there : Option Ordering → List Forwarding → List Link → Bool
is_there None forwardings links = true
is_there (Some (Listen host port)) forwardings links = is_ordered_first (find to_listen forwardings)
is_there (Some (Connect host port)) forwardings links = list_any is_awaited links
