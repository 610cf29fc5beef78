-- A link is that of a life, as both go on.
use Rattle.std.proofs.Common.{◌≡◌, ◌∙◌, refl, sym, ap, subst, arith, ℕ, ◌+◌, ◌<◌, ◌≤◌, ◌^◌, Bool, true, false, List, [], ◌∷◌, length, Option, Some, None}
use Rattle.std.specs.Prelude.{◌&&◌, ◌||◌, ◌==◌, not, if◌then◌else◌}
use Rattle.std.proofs.lemmas.Bool.{and_left, and_parts, false≢true}
use Rattle.conn_messages.specs.declared.message.Message.{Message}
use Rattle.mux_outside.specs.declared.own_streams.OwnStream.{OwnStream}
use Rattle.mux_outside.specs.declared.piece.TheConstants.{LONGEST_PIECE}
use Rattle.house_relay.specs.Acts.{RelayAct, Reads, Takes, accepted_length}
use Rattle.house_relay.specs.ChannelState.{owed_in, is_counted_channel}
use Rattle.house_relay.specs.Next.{sends_of}
use Rattle.house_relay.specs.Relay.{RelayGoesOn, RelayMayRead, socket_stream_of}
use Rattle.house_relay.specs.Steps.{is_socket_closed, is_gone, made_as, relay_taken_of}
use Rattle.house_relay.specs.declared.relay.Relay.{Relay}
use Rattle.house_relay.specs.declared.relay.RelaySocket.{RelaySocket}
use Rattle.house_relay.specs.declared.relay.RelaySocket.TheVariants as socket
use Rattle.house_forward.specs.Going.{Gets, GetsOn, TakesOf, TakesOn, RelaySendsOn, RelayReceivesOn, act_of_sending}
use Rattle.house_forward.specs.Heard.{act_received}
use Rattle.house_forward.specs.Links.{own_stream_of, numbered, is_link_number, has_number, is_relay_stream, is_without, is_left, is_offered, is_awaited, awaits_stream, offers, made_stream, relay_after, stream_after, link_after}
use Rattle.house_forward.specs.RelayTraces.{Life, RelayGoesBy, IsLife, IsSocketOf, IsEndOf, is_stream, has_stream, link_own_after, own_made, relay_act_of, life_stepped, made_life, is_socket_unmade, unmade}
use Rattle.house_forward.specs.declared.link.Link.{Link}
use Rattle.house_forward.specs.declared.link.LinkStep.{LinkStep}
use Rattle.house_forward.specs.declared.link.LinkStep.TheVariants.{Pause, Finish, End, Close, Writable, Failed as Fail}
use Rattle.house_forward.specs.declared.link.LinkStream.{LinkStream}
use Rattle.house_forward.specs.declared.link.LinkStream.TheVariants.{Offered, Awaited, Made, Gone}
use Rattle.house_forward.proofs.Keeping.{Stays, stays-heard, none-heard, stays-after, none-after, keeps-stream, owed-takes, connected-stream, failing-stream}
use Rattle.house_forward.proofs.Standing.{goes-other, goes-after}

-- ---- what is known of a life by its link

pub stream-in : (t : ℕ) (s : LinkStream) → is_stream t (own_stream_of s) ≡ numbered t s
stream-in t (Offered host port) = refl
stream-in t Awaited = refl
stream-in t (Made own) = refl
stream-in t Gone = refl

pub has-number : (t most : ℕ) (life : Life) (link : Link) → IsLife most life link → has_stream t life ≡ has_number t link
has-number t most life link is = ap (is_stream t) is.own_is ∙ stream-in t link.stream

and-same : (b : Bool) → b ≡ (b && b)
and-same true = refl
and-same false = refl

of-in : (t : ℕ) (s : LinkStream) (r : Relay) → IsSocketOf s r → numbered t s ≡ (numbered t s && is_link_number t (socket_stream_of r.socket))
of-in t (Offered host port) r h = refl
of-in t Awaited r h = refl
of-in t (Made own) r h = and-same (own.number == t) ∙ ap (λ o. (own.number == t) && is_link_number t o) (sym h.0)
of-in t Gone r h = refl

pub is-of : (t most : ℕ) (life : Life) (link : Link) → IsLife most life link → has_stream t life ≡ is_relay_stream t link
is-of t most life link is = has-number t most life link is ∙ of-in t link.stream link.relay is.socket

pub has-channel : (n most : ℕ) (life : Life) (link : Link) → IsLife most life link
    → (life.relay.number == n) ≡ (link.relay.number == n)
has-channel n most life link is = ap (λ (r : Relay). r.number == n) is.relay_is

not-closed : (s : RelaySocket) (t : ℕ) → socket_stream_of s ≡ Some t → is_socket_closed s ≡ false
not-closed (socket.Connecting stream) t e = refl
not-closed (socket.Open stream) t e = refl
not-closed socket.Unmade t e = refl
not-closed (socket.Failed stream) t e = refl
not-closed (socket.NoChannelLeft stream) t e = refl
not-closed socket.Closed t e = cc

left-in : (s : LinkStream) (r : Relay) → IsSocketOf s r → is_gone r ≡ (is_without s && is_gone r)
left-in (Offered host port) r h = and_left (is_socket_closed r.socket) (not (is_counted_channel r.line)) (ap is_socket_closed h.0)
left-in Awaited r h = and_left (is_socket_closed r.socket) (not (is_counted_channel r.line)) (ap is_socket_closed h.0)
left-in (Made own) r h = and_left (is_socket_closed r.socket) (not (is_counted_channel r.line)) (not-closed r.socket own.number h.0)
left-in Gone r h = refl

-- nothing is left of both
pub is-gone : (most : ℕ) (life : Life) (link : Link) → IsLife most life link → is_gone life.relay ≡ is_left link
is-gone most life link is = ap is_gone is.relay_is ∙ left-in link.stream link.relay is.socket

-- ---- it goes on

socket-same : (s : LinkStream) (old new : Relay) → new.socket ≡ old.socket → new.ended ≡ old.ended → IsSocketOf s old
    → IsSocketOf s new
socket-same (Offered host port) old new e f h = (e ∙ h.0, f ∙ h.1)
socket-same Awaited old new e f h = (e ∙ h.0, f ∙ h.1)
socket-same (Made own) old new e f h = (ap socket_stream_of e ∙ h.0, f ∙ h.1)
socket-same Gone old new e f h = e ∙ h

-- a life goes on as its link does
pub record Onward (so : Relay → Relay → Type 0) (act : Relay → RelayAct) (most : ℕ) (life : Life) (link : Link) : Type 0 where
  pub next : Life
  pub goes : RelayGoesBy so (act life.relay) life next
  pub is : IsLife most next link

onward : (so : Relay → Relay → Type 0) (act : Relay → RelayAct) (least most : ℕ) (life : Life) (link : Link) (r : Relay)
    → IsLife least life link → so link.relay r → RelayGoesOn link.relay r (act link.relay) → IsSocketOf link.stream r
    → owed_in r.line ≤ accepted_length (act link.relay ∷ life.acts) → accepted_length (act link.relay ∷ life.acts) ≤ most
    → Onward so act most life (record link { relay = r })
onward so act least most life link r is goes on socket owed few = record {
  next = record life { relay = r; acts = act link.relay ∷ life.acts };
  goes = record {
    relay = subst (λ (z : Relay). so z r) (sym is.relay_is) goes;
    own = refl;
    dials = refl;
    joined = refl;
    to = refl;
    acts = ap (λ (z : Relay). act z ∷ life.acts) (sym is.relay_is);
  };
  is = record {
    relay_is = refl;
    own_is = is.own_is;
    socket = socket;
    end = is.end;
    stands = on life.dials life.acts is.stands;
    owed = owed;
    few = few;
  };
}

-- where its socket stays and nothing is written to it
onward-same : (so : Relay → Relay → Type 0) (act : Relay → RelayAct) (most : ℕ) (life : Life) (link : Link) (r : Relay)
    → IsLife most life link → so link.relay r → RelayGoesOn link.relay r (act link.relay) → Stays link.relay r
    → accepted_length (act link.relay ∷ life.acts) ≡ accepted_length life.acts → Onward so act most life (record link { relay = r })
onward-same so act most life link r is goes on stays none =
    let owed = is.owed in
    let few = is.few in
    let less = stays.owes in
    onward so act most most life link r is goes on
    (socket-same link.stream link.relay r stays.socket_is stays.ended_is is.socket)
    (omega (arith, owed, less, none)) (omega (arith, few, none))

pub receives : (m : Message) (most : ℕ) (life : Life) (link : Link) (r : Relay) → IsLife most life link → RelayReceivesOn m link.relay r
    → Onward (RelayReceivesOn m) (act_received m) most life (record link { relay = r })
receives m most life link r is h =
    onward-same (RelayReceivesOn m) (act_received m) most life link r is h h.1
    (subst (λ (z : Relay). Stays link.relay z) (sym h.0) (stays-heard m link.relay)) (none-heard m link.relay life.acts)

pub says : (most : ℕ) (life : Life) (link : Link) (r : Relay) → IsLife most life link → RelaySendsOn link.relay r
    → Onward RelaySendsOn (λ (z : Relay). act_of_sending (sends_of z) z) most life (record link { relay = r })
says most life link r is h =
    onward-same RelaySendsOn (λ (z : Relay). act_of_sending (sends_of z) z) most life link r is h h.1
    (subst (λ (z : Relay). Stays link.relay z) (sym h.0) (stays-after (sends_of link.relay) link.relay))
    (none-after (sends_of link.relay) link.relay life.acts)

-- ---- what its socket gives

-- a stream that isn't silent hasn't ended
pub loud : (own : OwnStream) (t : ℕ) → (own.number == t) ≡ true → ((own.number == t) && (own.paused || own.ended)) ≡ false
    → own.ended ≡ false
loud own t is e = second own.paused own.ended (rest (own.number == t) (own.paused || own.ended) is e)
  where
    rest : (a b : Bool) → a ≡ true → (a && b) ≡ false → b ≡ false
    rest true b e f = f
    rest false b e f = cc

    second : (a b : Bool) → (a || b) ≡ false → b ≡ false
    second true b e = cc
    second false b e = e

socket-kept : (t : ℕ) (s : LinkStream) (old new : Relay) → numbered t s ≡ true → socket_stream_of new.socket ≡ socket_stream_of old.socket
    → new.ended ≡ old.ended → IsSocketOf s old → IsSocketOf s new
socket-kept t (Offered host port) old new n e f h = cc
socket-kept t Awaited old new n e f h = cc
socket-kept t (Made own) old new n e f h = (e ∙ h.0, f ∙ h.1)
socket-kept t Gone old new n e f h = cc

unended : (t : ℕ) (s : LinkStream) (r : Relay) → numbered t s ≡ true → IsSocketOf s r
    → ((own : OwnStream) → own_stream_of s ≡ Some own → own.ended ≡ false) → r.ended ≡ false
unended t (Offered host port) r n h f = h.1
unended t Awaited r n h f = h.1
unended t (Made own) r n h f = h.1 ∙ f own refl
unended t Gone r n h f = cc

pub gets : (free : Bool) (bytes : List ℕ) (t most : ℕ) (life : Life) (link : Link) (r : Relay) → IsLife most life link
    → is_relay_stream t link ≡ true → ((own : OwnStream) → own_stream_of link.stream ≡ Some own → own.ended ≡ false)
    → link.relay.held.waiting ≡ [] → length bytes ≤ LONGEST_PIECE → Gets free bytes link.relay r
    → Onward (GetsOn free bytes) (λ (z : Relay). Reads bytes) most life (record link { relay = r })
gets free bytes t most life link r is of going rests short h =
    let n = (and_parts (has_number t link) (is_link_number t (socket_stream_of link.relay.socket)) of).0 in
    let none = ap length rests in
    let may : RelayMayRead bytes link.relay = record {
      unended = unended t link.stream link.relay n is.socket going;
      room = omega (arith, none, short);
    } in
    let on : RelayGoesOn link.relay r (Reads bytes) = h.1 may in
    let keeps = keeps-stream life.dials free life.acts bytes link.relay r is.stands h.0 in
    let ended : r.ended ≡ link.relay.ended = (on life.dials life.acts is.stands).ends ∙ sym is.stands.ends in
    let owed = is.owed in
    let less = keeps.owes in
    onward (GetsOn free bytes) (λ (z : Relay). Reads bytes) most most life link r is (h.0, may, on, h.2) on
    (socket-kept t link.stream link.relay r n keeps.stream_is ended is.socket)
    (omega (arith, owed, less)) is.few

-- ---- what is written to its socket

pub takes : (bytes : List ℕ) (least : ℕ) (life : Life) (link : Link) (r : Relay) → length bytes + least < 2 ^ 64 → IsLife least life link
    → TakesOf bytes link.relay r → Onward (TakesOn bytes) (λ (z : Relay). Takes bytes) (length bytes + least) life (record link { relay = r })
takes bytes least life link r small is h =
    let n = length bytes in
    let owed = is.owed in
    let few = is.few in
    let both = h (omega (arith, owed, few, small)) in
    let more = owed-takes n link.relay.line in
    let line : owed_in r.line ≡ owed_in (relay_taken_of n link.relay).line = ap (λ (z : Relay). owed_in z.line) both.0 in
    onward (TakesOn bytes) (λ (z : Relay). Takes bytes) least (n + least) life link r is both both.1
    (socket-same link.stream link.relay r (ap (λ (z : Relay). z.socket) both.0) (ap (λ (z : Relay). z.ended) both.0) is.socket)
    (omega (arith, owed, more, line)) (omega (arith, few))

-- ---- steps

own-after : (step : LinkStep) (s : LinkStream) → link_own_after step (own_stream_of s) ≡ own_stream_of (stream_after step s)
own-after step (Offered host port) = refl
own-after step Awaited = refl
own-after (Pause b) (Made own) = refl
own-after Finish (Made own) = refl
own-after End (Made own) = refl
own-after Close (Made own) = refl
own-after Writable (Made own) = refl
own-after Fail (Made own) = refl
own-after step Gone = refl

socket-made : (step : LinkStep) (own : OwnStream) (r : Relay) → IsSocketOf (Made own) r
    → IsSocketOf (stream_after step (Made own)) (relay_after step r)
socket-made (Pause b) own r h = h
socket-made Finish own r h = h
socket-made End own r h = (h.0, refl)
socket-made Close own r h = refl
socket-made Writable own r h = (connected-stream r.socket ∙ h.0, h.1)
socket-made Fail own r h = (failing-stream r.socket ∙ h.0, h.1)

socket-after : (t : ℕ) (step : LinkStep) (s : LinkStream) (r : Relay) → numbered t s ≡ true → IsSocketOf s r
    → IsSocketOf (stream_after step s) (relay_after step r)
socket-after t step (Offered host port) r n h = cc
socket-after t step Awaited r n h = cc
socket-after t step (Made own) r n h = socket-made step own r h
socket-after t step Gone r n h = cc

end-made : (step : LinkStep) (own : OwnStream) (to : Option (List ℕ × ℕ)) → IsEndOf (stream_after step (Made own)) to
end-made (Pause b) own to = tt
end-made Finish own to = tt
end-made End own to = tt
end-made Close own to = tt
end-made Writable own to = tt
end-made Fail own to = tt

end-after : (t : ℕ) (step : LinkStep) (s : LinkStream) (to : Option (List ℕ × ℕ)) → numbered t s ≡ true
    → IsEndOf (stream_after step s) to
end-after t step (Offered host port) to n = cc
end-after t step Awaited to n = cc
end-after t step (Made own) to n = end-made step own to
end-after t step Gone to n = cc

owed-after : (step : LinkStep) (r : Relay) → owed_in (relay_after step r).line ≡ owed_in r.line
owed-after (Pause b) r = refl
owed-after Finish r = refl
owed-after End r = refl
owed-after Close r = refl
owed-after Writable r = refl
owed-after Fail r = refl

none-after-step : (step : LinkStep) (acts : List RelayAct) → accepted_length (relay_act_of step ∷ acts) ≡ accepted_length acts
none-after-step (Pause b) acts = refl
none-after-step Finish acts = refl
none-after-step End acts = refl
none-after-step Close acts = refl
none-after-step Writable acts = refl
none-after-step Fail acts = refl

steps-if : (b : Bool) (step : LinkStep) (t most : ℕ) (life : Life) (link : Link) → has_number t link ≡ b → IsLife most life link
    → IsLife most
    (if b then record life { relay = relay_after step life.relay; own = link_own_after step life.own; acts = relay_act_of step ∷ life.acts } else life)
    (if b then record link { relay = relay_after step link.relay; stream = stream_after step link.stream } else link)
steps-if true step t most life link n is =
    let owed = is.owed in
    let few = is.few in
    let same = owed-after step link.relay in
    let none = none-after-step step life.acts in
    record {
      relay_is = ap (relay_after step) is.relay_is;
      own_is = ap (link_own_after step) is.own_is ∙ own-after step link.stream;
      socket = socket-after t step link.stream link.relay n is.socket;
      end = end-after t step link.stream life.to n;
      stands = goes-after step link.relay life.dials life.acts is.stands;
      owed = omega (arith, owed, same, none);
      few = omega (arith, few, none);
    }
steps-if false step t most life link n is = is

pub steps : (step : LinkStep) (t most : ℕ) (life : Life) (link : Link) → IsLife most life link
    → IsLife most (life_stepped step t life) (link_after step t link)
steps step t most life link is =
    subst (λ (b : Bool). IsLife most
    (if b then record life { relay = relay_after step life.relay; own = link_own_after step life.own; acts = relay_act_of step ∷ life.acts } else life)
    (link_after step t link))
    (sym (has-number t most life link is)) (steps-if (has_number t link) step t most life link refl is)

-- ---- its socket is made

not-unmade : (s : RelaySocket) (t : ℕ) → socket_stream_of s ≡ Some t → unmade s ≡ false
not-unmade (socket.Connecting stream) t e = refl
not-unmade (socket.Open stream) t e = refl
not-unmade socket.Unmade t e = cc
not-unmade (socket.Failed stream) t e = refl
not-unmade (socket.NoChannelLeft stream) t e = refl
not-unmade socket.Closed t e = refl

unmade-in : (s : LinkStream) (r : Relay) (to : Option (List ℕ × ℕ)) → IsSocketOf s r → IsEndOf s to
    → unmade r.socket ≡ offers s
unmade-in (Offered host port) r to h end = ap unmade h.0
unmade-in Awaited r to h end = absurd end
unmade-in (Made own) r to h end = not-unmade r.socket own.number h.0
unmade-in Gone r to h end = ap unmade h

-- its socket is to be made where it is to be connected
pub is-unmade : (most : ℕ) (life : Life) (link : Link) → IsLife most life link → is_socket_unmade life ≡ is_offered link
is-unmade most life link is =
    ap (λ (r : Relay). unmade r.socket) is.relay_is ∙ unmade-in link.stream link.relay life.to is.socket is.end

none-awaits : (s : LinkStream) (to : Option (List ℕ × ℕ)) → IsEndOf s to → awaits_stream s ≡ false
none-awaits (Offered host port) to end = refl
none-awaits Awaited to end = absurd end
none-awaits (Made own) to end = refl
none-awaits Gone to end = refl

-- none is awaited
pub not-awaited : (most : ℕ) (life : Life) (link : Link) → IsLife most life link → is_awaited link ≡ false
not-awaited most life link is = none-awaits link.stream life.to is.end

own-made : (number : Option ℕ) → own_made number ≡ own_stream_of (made_stream number)
own-made None = refl
own-made (Some t) = refl

unended-in : (s : LinkStream) (r : Relay) → offers s ≡ true → IsSocketOf s r → r.ended ≡ false
unended-in (Offered host port) r e h = h.1
unended-in Awaited r e h = absurd (false≢true e)
unended-in (Made own) r e h = absurd (false≢true e)
unended-in Gone r e h = absurd (false≢true e)

socket-new : (number : Option ℕ) (r : Relay) → r.ended ≡ false
    → IsSocketOf (made_stream number) (record r { socket = made_as number })
socket-new None r e = refl
socket-new (Some t) r e = (refl, e)

end-new : (number : Option ℕ) (to : Option (List ℕ × ℕ)) → IsEndOf (made_stream number) to
end-new None to = tt
end-new (Some t) to = tt

pub makes : (number : Option ℕ) (most : ℕ) (life : Life) (link : Link) → offers link.stream ≡ true → IsLife most life link
    → IsLife most (made_life number life)
    (record { relay = record link.relay { socket = made_as number }; stream = made_stream number })
makes number most life link offered is = record {
  relay_is = ap (λ (r : Relay). record r { socket = made_as number }) is.relay_is;
  own_is = own-made number;
  socket = socket-new number link.relay (unended-in link.stream link.relay offered is.socket);
  end = end-new number life.to;
  stands = goes-other link.relay (made_as number) life.dials life.acts is.stands;
  owed = is.owed;
  few = is.few;
}
