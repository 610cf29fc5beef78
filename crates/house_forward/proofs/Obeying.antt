-- An order is of a stream of the forwarder, and uses one mark's room.
use Rattle.std.proofs.Common.{◌≡◌, ◌∙◌, refl, sym, ap, subst, ℕ, zero, suc, ◌+◌, ◌<◌, ◌≤◌, Bool, true, false, List, [], ◌∷◌, length, get_or, map, Some, arith}
use Rattle.std.specs.Prelude.{◌&&◌, ◌==◌, not, if◌then◌else◌, IsTrue}
use Rattle.std.specs.List.{sum_by, Any}
use Rattle.std.proofs.lemmas.Bool.{eq-eqb, ne_eqb}
use Rattle.std.proofs.lemmas.List.Sums.{sum_by-cons}
use Rattle.mux_outside.specs.House.{Known, OrderFits, known_after_order, order_marks}
use Rattle.mux_outside.specs.OwnStreams.{is_one, with_pause, with_finish, without_stream}
use Rattle.mux_outside.specs.declared.order.Order.{Order}
use Rattle.mux_outside.specs.declared.order.Order.TheVariants as order
use Rattle.mux_outside.specs.declared.own_streams.OwnStream.{OwnStream}
use Rattle.house_relay.specs.Relay.{stuck_in, is_stuck}
use Rattle.house_relay.specs.declared.line.ChannelState.{ChannelState}
use Rattle.house_relay.specs.declared.relay.Relay.{Relay}
use Rattle.house_forward.specs.Due.{stream_due, link_due, turns}
use Rattle.house_forward.specs.Links.{streams_of, are_distinct, numbered, has_number, link_after, stream_after, relay_after, obeyed, OrdersInLink, IsOrderOf}
use Rattle.house_forward.specs.declared.link.Link.{Link}
use Rattle.house_forward.specs.declared.link.LinkStep.{LinkStep}
use Rattle.house_forward.specs.declared.link.LinkStep.TheVariants.{Pause, Finish, Close}
use Rattle.house_forward.specs.declared.link.LinkStream.{LinkStream}
use Rattle.house_forward.specs.declared.link.LinkStream.TheVariants.{Offered, Awaited, Made, Gone}
use Rattle.house_forward.proofs.Streams.{has-stream, moves-first, moves-later, rest-distinct, paused-streams, finished-streams, closed-streams}

-- ---- one link

-- what is needed of a link to make a step: it has the stream, and needs one mark's room less then
record Takes (step : LinkStep) (t : ℕ) (s : LinkStream) (r : Relay) : Type 0 where
  has : numbered t s ≡ true
  less : stream_due (stream_after step s) (relay_after step r) + 1 ≤ stream_due s r

not-empty : (x : ℕ) (xs : List ℕ) → (length (x ∷ xs) == 0) ≡ false
not-empty x xs = ne_eqb (length (x ∷ xs)) 0 (λ e. absurd (omega arith))

stuck-turn : (held : List ℕ) (line : ChannelState) (paused : Bool) → IsTrue (is_stuck line held)
    → (if length held == 0 then paused else (stuck_in line && not paused)) ≡ not paused
stuck-turn [] line paused stuck = cc
stuck-turn (x ∷ xs) line paused stuck = rw (not-empty x xs, stuck) refl

free-turn : (held : List ℕ) (line : ChannelState) (paused : Bool) → held ≡ []
    → (if length held == 0 then paused else (stuck_in line && not paused)) ≡ paused
free-turn held line paused e = rw e refl

pauses : (t : ℕ) (s : LinkStream) (r : Relay) → OrdersInLink (order.Pause t) s r → Takes (Pause true) t s r
pauses t (Offered host port) r o = absurd o
pauses t Awaited r o = absurd o
pauses t (Made own) r o = record {
  has = eq-eqb own.number t (sym o.0);
  less =
      let before : turns r own ≡ true = stuck-turn r.held.waiting r.line own.paused o.2 ∙ ap (λ b. not b) o.1 in
      let after : turns r (record own { paused = true }) ≡ false = stuck-turn r.held.waiting r.line true o.2 in
      rw (before, after) (omega arith);
}
pauses t Gone r o = absurd o

resumes : (t : ℕ) (s : LinkStream) (r : Relay) → OrdersInLink (order.Resume t) s r → Takes (Pause false) t s r
resumes t (Offered host port) r o = absurd o
resumes t Awaited r o = absurd o
resumes t (Made own) r o = record {
  has = eq-eqb own.number t (sym o.0);
  less =
      let before : turns r own ≡ true = free-turn r.held.waiting r.line own.paused o.2 ∙ o.1 in
      let after : turns r (record own { paused = false }) ≡ false = free-turn r.held.waiting r.line false o.2 in
      rw (before, after) (omega arith);
}
resumes t Gone r o = absurd o

finishes : (t : ℕ) (s : LinkStream) (r : Relay) → OrdersInLink (order.Finish t) s r → Takes Finish t s r
finishes t (Offered host port) r o = absurd o
finishes t Awaited r o = absurd o
finishes t (Made own) r o = record {
  has = eq-eqb own.number t (sym o.0);
  less = rw o.1 (omega arith);
}
finishes t Gone r o = absurd o

closes : (t : ℕ) (s : LinkStream) (r : Relay) → OrdersInLink (order.Close t) s r → Takes Close t s r
closes t (Offered host port) r o = absurd o
closes t Awaited r o = absurd o
closes t (Made own) r o = record {
  has = eq-eqb own.number t (sym o.0);
  less = omega arith;
}
closes t Gone r o = absurd o

-- ---- all links

after-it : (step : LinkStep) (t : ℕ) (x : Link) → has_number t x ≡ true
    → link_due (link_after step t x) ≡ stream_due (stream_after step x.stream) (relay_after step x.relay)
after-it step t x n = rw n refl

less-due : (step : LinkStep) (t : ℕ) (ls : List Link) (k : ℕ) (x : Link) → are_distinct (streams_of ls) ≡ true
    → k < length ls → get_or ls k x ≡ x → Takes step t x.stream x.relay
    → sum_by link_due (map (link_after step t) ls) + 1 ≤ sum_by link_due ls
less-due step t [] k x d l e takes = absurd (omega arith)
less-due step t (y ∷ ls) zero x d l e takes =
    let same : y ≡ x = e in
    let has : has_number t y ≡ true = subst (λ (z : Link). has_number t z ≡ true) (sym same) takes.has in
    let rest = moves-first step t y ls d has in
    let less : link_due (link_after step t y) + 1 ≤ link_due y =
    subst (λ (z : Link). link_due (link_after step t z) + 1 ≤ link_due z) (sym same) (rw (after-it step t x takes.has) takes.less) in
    let one = sum_by-cons link_due (link_after step t y) (map (link_after step t) ls) in
    let two = sum_by-cons link_due y ls in
    let three = ap (λ zs. sum_by link_due zs) rest in
    omega (arith, one, two, three, less)
less-due step t (y ∷ ls) (suc k) x d l e takes =
    let is = has-stream ls k t x (omega arith) e takes.has in
    let first = ap link_due (moves-later step t y ls d is) in
    let more = less-due step t ls k x (rest-distinct y ls d) (omega arith) e takes in
    let one = sum_by-cons link_due (link_after step t y) (map (link_after step t) ls) in
    let two = sum_by-cons link_due y ls in
    omega (arith, one, two, first, more)

-- ---- orders

none-listens : (host : List ℕ) (port : ℕ) (s : LinkStream) (r : Relay) → OrdersInLink (order.Listen host port) s r → ⊥
none-listens host port (Offered h p) r o = o
none-listens host port Awaited r o = o
none-listens host port (Made own) r o = o
none-listens host port Gone r o = o

none-connects : (host : List ℕ) (port : ℕ) (s : LinkStream) (r : Relay) → OrdersInLink (order.Connect host port) s r → ⊥
none-connects host port (Offered h p) r o = o
none-connects host port Awaited r o = o
none-connects host port (Made own) r o = o
none-connects host port Gone r o = o

none-unlistens : (l : ℕ) (s : LinkStream) (r : Relay) → OrdersInLink (order.Unlisten l) s r → ⊥
none-unlistens l (Offered h p) r o = o
none-unlistens l Awaited r o = o
none-unlistens l (Made own) r o = o
none-unlistens l Gone r o = o

-- an order of one of the relays of its own stream
pub record Obeys (o : Order) (ls : List Link) : Type 0 where
  pub fits : (known : Known) → known.streams ≡ streams_of ls → OrderFits (Some o) known
  pub known : (known : Known) → known.streams ≡ streams_of ls
      → known_after_order (Some o) known ≡ record known { streams = streams_of (obeyed o ls) }
  pub due : sum_by link_due (obeyed o ls) + 1 ≤ sum_by link_due ls
  pub marks : length (order_marks (Some o)) ≡ 1

one-of : (t : ℕ) (ls : List Link) (k : ℕ) (x : Link) → k < length ls → get_or ls k x ≡ x → numbered t x.stream ≡ true
    → (ss : List OwnStream) → ss ≡ streams_of ls → IsTrue (is_one t ss)
one-of t ls k x l e n ss same = rw same (has-stream ls k t x l e n)

pub obeys : (o : Order) (ls : List Link) → are_distinct (streams_of ls) ≡ true → Any (IsOrderOf o) ls → Obeys o ls
obeys (order.Listen host port) ls d at = absurd (none-listens host port at.1.stream at.1.relay at.4)
obeys (order.Connect host port) ls d at = absurd (none-connects host port at.1.stream at.1.relay at.4)
obeys (order.Unlisten l) ls d at = absurd (none-unlistens l at.1.stream at.1.relay at.4)
obeys (order.Pause t) ls d at =
    let takes = pauses t at.1.stream at.1.relay at.4 in
    record {
      fits = λ known same. one-of t ls at.0 at.1 at.2 at.3 takes.has known.streams same;
      known = λ known same. ap (λ ss. record known { streams = ss }) (ap (with_pause true t) same ∙ sym (paused-streams true t ls));
      due = less-due (Pause true) t ls at.0 at.1 d at.2 at.3 takes;
      marks = refl;
    }
obeys (order.Resume t) ls d at =
    let takes = resumes t at.1.stream at.1.relay at.4 in
    record {
      fits = λ known same. one-of t ls at.0 at.1 at.2 at.3 takes.has known.streams same;
      known = λ known same. ap (λ ss. record known { streams = ss }) (ap (with_pause false t) same ∙ sym (paused-streams false t ls));
      due = less-due (Pause false) t ls at.0 at.1 d at.2 at.3 takes;
      marks = refl;
    }
obeys (order.Finish t) ls d at =
    let takes = finishes t at.1.stream at.1.relay at.4 in
    record {
      fits = λ known same. one-of t ls at.0 at.1 at.2 at.3 takes.has known.streams same;
      known = λ known same. ap (λ ss. record known { streams = ss }) (ap (with_finish t) same ∙ sym (finished-streams t ls));
      due = less-due Finish t ls at.0 at.1 d at.2 at.3 takes;
      marks = refl;
    }
obeys (order.Close t) ls d at =
    let takes = closes t at.1.stream at.1.relay at.4 in
    record {
      fits = λ known same. one-of t ls at.0 at.1 at.2 at.3 takes.has known.streams same;
      known = λ known same. ap (λ ss. record known { streams = ss }) (ap (without_stream t) same ∙ sym (closed-streams t ls));
      due = less-due Close t ls at.0 at.1 d at.2 at.3 takes;
      marks = refl;
    }
