-- What the relays' own laws give of all relays of the forwarder.
use Rattle.std.proofs.Common.{◌≡◌, ◌∙◌, refl, sym, ap, subst, arith, ℕ, ◌+◌, ◌-◌, ◌≤◌, Bool, true, false, length, length-append, length-drop, List, [], ◌∷◌, ◌++◌, Option}
use Rattle.std.specs.Prelude.{not, is_some, IfSome}
use Rattle.std.specs.List.{All, list_any}
use Rattle.std.proofs.lemmas.Bool.{and_parts, or_parts, eq-eqb, not-true}
use Rattle.std.proofs.lemmas.List.Elements.{All-nil, All-cons, All-append, All-weaker}
use Rattle.mux_outside.specs.declared.own_streams.OwnStream.{OwnStream}
use Rattle.house_relay.specs.Acts.{RelayAct, Relays, adjusted, delivered, dialog_replies, accepted_length, to_take}
use Rattle.house_relay.specs.Next.{sends_of, orders_of}
use Rattle.house_relay.specs.Relay.{RelayRepresents, RelayKeeps, SilentIn, IsResting, socket_stream_of}
use Rattle.house_relay.specs.declared.TheConstants.{WINDOW}
use Rattle.house_relay.specs.declared.relay.Relay.{Relay}
use Rattle.house_relay.proofs.Resting.{silent, rests}
use Rattle.house_relay.proofs.Whole.{relays, keeps}
use Rattle.house_forward.specs.Laws.{EachRelays, EachKeeps, EachIsBounded, EachRests, IsBounded, KeepsWindow, Rests}
use Rattle.house_forward.specs.Links.{own_stream_of, is_link_number, order_in, has_order, has_sending}
use Rattle.house_forward.specs.RelayTraces.{Life, IsLife, AreRelayTraces, IsSocketOf}
use Rattle.house_forward.specs.declared.link.Link.{Link}
use Rattle.house_forward.specs.declared.link.LinkStream.{LinkStream}
use Rattle.house_forward.specs.declared.link.LinkStream.TheVariants.{Offered, Awaited, Made, Gone}
use Rattle.house_forward.proofs.Resting.{none-of, no-order}

-- ---- all of them

-- each represents what happened in it
stands-in : (most : ℕ) (relay_traces : List Life) (links : List Link) → AreRelayTraces most relay_traces links
    → All (λ (l : Life). RelayRepresents l.dials l.acts l.relay) relay_traces
stands-in most [] [] are = All-nil (λ (l : Life). RelayRepresents l.dials l.acts l.relay)
stands-in most [] (link ∷ links) are = absurd are
stands-in most (life ∷ relay_traces) [] are = absurd are
stands-in most (life ∷ relay_traces) (link ∷ links) are =
    All-cons (λ (l : Life). RelayRepresents l.dials l.acts l.relay) life relay_traces
    (subst (λ (r : Relay). RelayRepresents life.dials life.acts r) (sym are.0.relay_is) are.0.stands)
    (stands-in most relay_traces links are.1)

pub each-relays : EachRelays
each-relays calls h lived =
    All-weaker (λ (l : Life). RelayRepresents l.dials l.acts l.relay) (λ (l : Life). Relays l.dials l.acts)
    (λ l stands. relays l.dials l.acts l.relay stands) (lived.trace.relay_traces ++ lived.trace.past)
    (All-append (λ (l : Life). RelayRepresents l.dials l.acts l.relay) lived.trace.relay_traces lived.trace.past
    (stands-in _ lived.trace.relay_traces h.links lived.is.relay_traces) lived.is.past)

pub each-keeps : EachKeeps
each-keeps calls h lived =
    All-weaker (λ (l : Life). RelayRepresents l.dials l.acts l.relay) (λ (l : Life). RelayKeeps l.dials l.acts l.relay)
    (λ l stands. keeps l.dials l.acts l.relay stands) (lived.trace.relay_traces ++ lived.trace.past)
    (All-append (λ (l : Life). RelayRepresents l.dials l.acts l.relay) lived.trace.relay_traces lived.trace.past
    (stands-in _ lived.trace.relay_traces h.links lived.is.relay_traces) lived.is.past)

-- ---- what waits

bound-by : (window replied came took room : ℕ) → room ≤ took - replied → came ≤ window + room
    → (replied + came) - took ≤ window + (replied - took)
bound-by window replied came took room granted kept = omega arith

bounded : (dials : Bool) (acts : List RelayAct) (r : Relay) → RelayRepresents dials acts r → KeepsWindow acts
    → length r.queue.waiting ≤ WINDOW + (length (dialog_replies dials acts) - accepted_length acts)
bounded dials acts r stands kept =
    let size : length r.queue.waiting ≡ (length (dialog_replies dials acts) + length (delivered acts)) - accepted_length acts =
    ap length (keeps dials acts r stands).waits
    ∙ length-drop (accepted_length acts) (to_take dials acts)
    ∙ ap (λ n. n - accepted_length acts) (length-append (dialog_replies dials acts) (delivered acts)) in
    subst (λ n. n ≤ WINDOW + (length (dialog_replies dials acts) - accepted_length acts)) (sym size)
    (bound-by WINDOW (length (dialog_replies dials acts)) (length (delivered acts)) (accepted_length acts) (adjusted acts)
    (relays dials acts r stands).granted kept)

pub each-is-bounded : EachIsBounded
each-is-bounded calls h lived =
    All-weaker (λ (l : Life). RelayRepresents l.dials l.acts l.relay) IsBounded
    (λ l stands. bounded l.dials l.acts l.relay stands) (lived.trace.relay_traces ++ lived.trace.past)
    (All-append (λ (l : Life). RelayRepresents l.dials l.acts l.relay) lived.trace.relay_traces lived.trace.past
    (stands-in _ lived.trace.relay_traces h.links lived.is.relay_traces) lived.is.past)

-- ---- at rest

stream-rests : (s : LinkStream) (r : Relay) → IsSocketOf s r → is_some (order_in s r) ≡ false
    → IfSome (own_stream_of s) (λ own. IsResting r own)
stream-rests (Offered host port) r is order = tt
stream-rests Awaited r is order = tt
stream-rests (Made own) r is order =
    let its : is_link_number own.number (socket_stream_of r.socket) ≡ true =
    ap (is_link_number own.number) is.0 ∙ eq-eqb own.number own.number refl in
    rests r own is.0 (no-order (is_link_number own.number (socket_stream_of r.socket)) (orders_of r own) its order)
stream-rests Gone r is order = tt

life-rests : (most : ℕ) (life : Life) (link : Link) → IsLife most life link → has_sending link ≡ false
    → has_order link ≡ false → Rests life
life-rests most life link is outgoing order = record {
  silent = subst (λ (r : Relay). SilentIn r.line r) (sym is.relay_is)
      (silent link.relay (none-of (sends_of link.relay) outgoing));
  resting = subst (λ (r : Relay). IfSome life.own (λ own. IsResting r own)) (sym is.relay_is)
      (subst (λ (o : Option OwnStream). IfSome o (λ own. IsResting link.relay own)) (sym is.own_is)
      (stream-rests link.stream link.relay is.socket order));
}

rest-in : (most : ℕ) (relay_traces : List Life) (links : List Link) → AreRelayTraces most relay_traces links
    → list_any has_sending links ≡ false → list_any has_order links ≡ false → All Rests relay_traces
rest-in most [] [] are outgoing order = All-nil Rests
rest-in most [] (link ∷ links) are outgoing order = absurd are
rest-in most (life ∷ relay_traces) [] are outgoing order = absurd are
rest-in most (life ∷ relay_traces) (link ∷ links) are outgoing order =
    let says = or_parts (has_sending link) (list_any has_sending links) outgoing in
    let orders = or_parts (has_order link) (list_any has_order links) order in
    All-cons Rests life relay_traces (life-rests most life link are.0 says.0 orders.0)
    (rest-in most relay_traces links are.1 says.1 orders.1)

pub each-rests : EachRests
each-rests calls h lived outgoing order =
    let says = and_parts _ (not (list_any has_sending h.links)) (and_parts h.forwarding_state.greeted _ outgoing).1 in
    let orders = and_parts (not (list_any has_order h.links)) _ order in
    rest-in _ lived.trace.relay_traces h.links lived.is.relay_traces (not-true (list_any has_sending h.links) says.1)
    (not-true (list_any has_order h.links) orders.0)
