-- A relay that wants nothing is at rest.
use Rattle.std.proofs.Common.{◌≡◌, ◌∙◌, refl, sym, ap, subst, arith, ℕ, ◌≤◌, ◌<◌, Bool, true, false, List, [], length, Option, Some, None, IsTrue}
use Rattle.std.specs.Prelude.{◌&&◌, ◌||◌, ◌==◌, not, min, nat_lt, if◌then◌else◌}
use Rattle.std.proofs.lemmas.Bool.{lt-ltb, ltb-false, eqb-false, or_from}
use Rattle.mux_outside.specs.declared.order.Order.TheVariants as order
use Rattle.mux_outside.specs.declared.own_streams.OwnStream.{OwnStream}
use Rattle.house_relay.specs.ChannelState.{takes, has_no_more, receives_end}
use Rattle.house_relay.specs.Next.{chunk, sends_held, sends_live, sends_offered, sends_in, sends_of, orders_open, orders_in, orders_of}
use Rattle.house_relay.specs.Relay.{SilentIn, IsResting, is_broken, is_to_be_closed, is_stuck, socket_stream_of}
use Rattle.house_relay.specs.declared.line.ChannelState.{ChannelState}
use Rattle.house_relay.specs.declared.line.ChannelState.TheVariants.{Dialing, Asked, Opened, Offered, Live, Over}
use Rattle.house_relay.specs.declared.line.Live.{Live as LiveState}
use Rattle.house_relay.specs.declared.relay.Relay.{Relay}
use Rattle.house_relay.specs.declared.relay.Outgoing.{Outgoing}
use Rattle.house_relay.specs.declared.relay.Outgoing.TheVariants as outgoing
use Rattle.house_relay.specs.declared.relay.RelaySocket.{RelaySocket}
use Rattle.house_relay.specs.declared.relay.RelaySocket.TheVariants as socket

-- where the first of two choices isn't taken, the second gives nothing either
passed : {X : Type 0} (b : Bool) (x : X) (o : Option X) → (if b then Some x else o) ≡ None → (b ≡ false) × (o ≡ None)
passed true x o e = cc
passed false x o e = (refl, e)

behind : {X : Type 0} (b : Bool) (o : Option X) → b ≡ false → (if b then None else o) ≡ None → o ≡ None
behind true o f e = cc
behind false o f e = e

-- ---- sends

offered : (s : RelaySocket) → sends_offered s ≡ None → is_broken s ≡ false
offered (socket.Open t) e = cc
offered socket.Unmade e = refl
offered (socket.Connecting t) e = refl
offered (socket.Failed t) e = cc
offered (socket.NoChannelLeft t) e = cc
offered socket.Closed e = cc

none-taken : {X : Type 0} (some takes : Bool) (x : X) (o : Option X) → some ≡ true
    → (if some then (if takes then Some x else None) else o) ≡ None → takes ≡ false
none-taken true true x o s e = cc
none-taken true false x o s e = refl
none-taken false takes x o s e = cc

ends-said : {X : Type 0} (some ended said : Bool) (x : X) (o : Option X) → some ≡ false
    → (if some then o else (if ended && not said then Some x else None)) ≡ None → ended ≡ true → said ≡ true
ends-said true ended said x o s e is = cc
ends-said false true true x o s e is = refl
ends-said false true false x o s e is = cc
ends-said false false said x o s e is = cc

-- where bytes are held and none is sent, the channel accepts none
takes-none : (r : Relay) (live : LiveState) → sends_held r live ≡ None → 0 < length r.held.waiting → takes live ≡ 0
takes-none r live e some =
    let is = lt-ltb 0 (length r.held.waiting) some in
    let none = ltb-false 0 (chunk r live) (none-taken (nat_lt 0 (length r.held.waiting)) (nat_lt 0 (chunk r live)) (outgoing.Data (chunk r live)) _ is e) in
    omega (arith, none, some)

end-said : (r : Relay) (live : LiveState) → sends_held r live ≡ None → r.ended ≡ true → r.held.waiting ≡ [] → live.eof_sent ≡ true
end-said r live e ended none =
    let is : nat_lt 0 (length r.held.waiting) ≡ false = ap (λ (h : List ℕ). nat_lt 0 (length h)) none in
    ends-said (nat_lt 0 (length r.held.waiting)) r.ended live.eof_sent outgoing.Eof _ is e ended

live-silent : (r : Relay) (live : LiveState) → sends_live r live ≡ None → SilentIn (Live live) r
live-silent r live e = λ unsaid.
    let close = passed (is_to_be_closed r.socket r.queue.waiting live) outgoing.Close _ (behind live.close_sent _ unsaid e) in
    let failure = passed (nat_lt 0 live.failures) outgoing.Failure _ close.1 in
    let adjust = passed (nat_lt 0 live.owed) _ _ failure.1 in
    let answered = ltb-false 0 live.failures failure.0 in
    let given = ltb-false 0 live.owed adjust.0 in
    (close.0, omega (arith, answered), omega (arith, given), takes-none r live adjust.1, end-said r live adjust.1)

silent-in : (line : ChannelState) (r : Relay) → sends_in line r ≡ None → SilentIn line r
silent-in (Dialing dialog) r e = tt
silent-in (Asked host port version) r e = cc
silent-in (Opened version) r e = tt
silent-in (Offered remote window maximum) r e = offered r.socket e
silent-in (Live live) r e = live-silent r live e
silent-in Over r e = tt

-- it has nothing to send
pub silent : (r : Relay) → sends_of r ≡ None → SilentIn r.line r
silent r e = silent-in r.line r e

-- ---- orders

-- its socket is whole, and gets no order
whole : (s : RelaySocket) (r : Relay) (stream : OwnStream) → socket_stream_of s ≡ Some stream.number → orders_in s r stream ≡ None
    → (is_broken s ≡ false) × (orders_open r stream ≡ None)
whole (socket.Open t) r stream has e = (refl, e)
whole socket.Unmade r stream has e = cc
whole (socket.Connecting t) r stream has e = (refl, e)
whole (socket.Failed t) r stream has e = cc
whole (socket.NoChannelLeft t) r stream has e = cc
whole socket.Closed r stream has e = cc

is-so : (b said : Bool) → (b && not said) ≡ false → b ≡ true → said ≡ true
is-so true true e is = refl
is-so true false e is = cc
is-so false said e is = cc

is-finished : (heard empty said : Bool) → (heard && (empty && not said)) ≡ false → heard ≡ true → empty ≡ true → said ≡ true
is-finished true empty said e is none = is-so empty said e none
is-finished false empty said e is none = cc

not-both : (a b : Bool) → (a && b) ≡ false → b ≡ true → a ≡ false
not-both true true e is = cc
not-both true false e is = cc
not-both false b e is = refl

-- it has nothing to order
pub rests : (r : Relay) (stream : OwnStream) → socket_stream_of r.socket ≡ Some stream.number → orders_of r stream ≡ None
    → IsResting r stream
rests r stream has e =
    let open_yet = whole r.socket r stream has e in
    let close = passed (has_no_more r.ended r.line && (length r.queue.waiting == 0)) _ _ open_yet.1 in
    let finish = passed (receives_end r.line && ((length r.queue.waiting == 0) && not stream.finished)) _ _ close.1 in
    let pause = passed (is_stuck r.line r.held.waiting && not stream.paused) _ _ finish.1 in
    let resume = passed ((length r.held.waiting == 0) && stream.paused) _ _ pause.1 in
    record {
      stays = or_from _ _ open_yet.0 close.0;
      finished = λ heard none. is-finished (receives_end r.line) (length r.queue.waiting == 0) stream.finished finish.0 heard
          (ap (λ (q : List ℕ). length q == 0) none);
      paused = is-so (is_stuck r.line r.held.waiting) stream.paused pause.0;
      holds = λ is.
          let some = eqb-false (length r.held.waiting) 0 (not-both (length r.held.waiting == 0) stream.paused resume.0 is) in
          omega (arith, some);
    }
