-- What is known of the forwarder as it gives an order about a listener, and as what it ordered gets
-- its number.
use Rattle.std.proofs.Common.{◌≡◌, refl, sym, ap, ℕ, ◌+◌, true, List, ◌++◌, Option, Some, None}
use Rattle.std.specs.Prelude.{find}
use Rattle.std.specs.List.{sum_by}
use Rattle.std.proofs.lemmas.List.{append-nil}
use Rattle.mux_outside.specs.House.{Known, OpenAsk, with_number}
use Rattle.mux_outside.specs.declared.order.Order.{Order}
use Rattle.mux_outside.specs.declared.own_streams.OwnStream.{OwnStream}
use Rattle.house_forward.specs.Rules.{first_rules}
use Rattle.house_forward.specs.ForwardingState.{ForwardingState, forwarding_state_of, ForwardingsGo, OrdersListener}
use Rattle.house_forward.specs.Due.{forwarding_due}
use Rattle.house_forward.specs.Forwardings.{listeners_of, listeners_made, to_listen, is_in_order, is_ordered_first}
use Rattle.house_forward.specs.Known.{ordering_of}
use Rattle.house_forward.specs.Links.{made_streams}
use Rattle.house_forward.specs.declared.asks.PendingRequests.{PendingRequests}
use Rattle.house_forward.specs.declared.forwardings.Forwardings.{Forwardings}
use Rattle.house_forward.specs.declared.ordering.Ordering.{Ordering}
use Rattle.house_forward.specs.declared.ordering.Ordering.TheVariants as ordering
use Rattle.house_forward.proofs.Leading.{connects, listens}
use Rattle.house_forward.proofs.Leaving.{ordered-more}

-- a forwarder that has these is known by them
abbrev pub known_by : List ℕ → List OwnStream → List OpenAsk → Option Order → Known
known_by listeners streams asks ordering =
    record { present = true; listeners = listeners; streams = streams; asks = asks; ordering = ordering }

pub same-known : (ls ls' : List ℕ) (ts ts' : List OwnStream) (ws ws' : List OpenAsk) (o o' : Option Order) → ls' ≡ ls → ts' ≡ ts → ws' ≡ ws
    → o' ≡ o → known_by ls' ts' ws' o' ≡ known_by ls ts ws o
same-known ls ls' ts ts' ws ws' o o' e f g h = rw (e, f, g, h) refl

-- ---- a listener is ordered

pub record ListenKnown (fs : Forwardings) (asks : PendingRequests) (fs' : Forwardings) (asks' : PendingRequests) : Type 0 where
  pub listeners : listeners_of fs'.all.items ≡ listeners_of fs.all.items
  pub first : is_ordered_first (find to_listen fs'.all.items) ≡ true
  pub due : sum_by forwarding_due fs'.all.items ≡ sum_by forwarding_due fs.all.items
  pub waiting : asks'.waiting.items ≡ asks.waiting.items

pub listen-known : (host : List ℕ) (port : ℕ) (fs : Forwardings) (asks : PendingRequests) (fs' : Forwardings) (asks' : PendingRequests)
    → ForwardingsGo (OrdersListener host port) fs asks fs' asks' → is_in_order fs.all.items ≡ true → ListenKnown fs asks fs' asks'
listen-known host port fs asks fs' asks' goes order =
    let old = forwarding_state_of first_rules true fs asks in
    let new = forwarding_state_of first_rules true fs' asks' in
    let h = goes first_rules true in
    let m = ordered-more host port old new h order in record {
      listeners = m.listeners;
      first = m.first;
      due = m.due;
      waiting = ap (λ (d : ForwardingState). d.waiting) h.others;
    }

-- ---- what was ordered gets its number

pub listen-numbered : (o : Option Ordering) (number : Option ℕ) (k : Known) → listens o ≡ true
    → with_number (ordering_of o) number k ≡ record k { listeners = k.listeners ++ listeners_made number; ordering = None }
listen-numbered None number k is = cc
listen-numbered (Some (ordering.Listen host port)) None k is =
    ap (λ (ls : List ℕ). record k { listeners = ls; ordering = None }) (sym (append-nil k.listeners))
listen-numbered (Some (ordering.Listen host port)) (Some n) k is = refl
listen-numbered (Some (ordering.Connect host port)) number k is = cc

pub connect-numbered : (o : Option Ordering) (number : Option ℕ) (k : Known) → connects o ≡ true
    → with_number (ordering_of o) number k ≡ record k { streams = k.streams ++ made_streams number; ordering = None }
connect-numbered None number k is = cc
connect-numbered (Some (ordering.Listen host port)) number k is = cc
connect-numbered (Some (ordering.Connect host port)) None k is =
    ap (λ (ts : List OwnStream). record k { streams = ts; ordering = None }) (sym (append-nil k.streams))
connect-numbered (Some (ordering.Connect host port)) (Some n) k is = refl
