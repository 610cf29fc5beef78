-- Why CLOSE is sent in a channel, and what is lost then.
use Rattle.std.proofs.Common.{◌≡◌, ◌∙◌, refl, sym, ap, subst, inl, inr, ℕ, Bool, true, false, length, List, ◌∷◌, Option, Some, None}
use Rattle.std.specs.Prelude.{◌==◌, ◌&&◌, ◌||◌, ◌⊎◌, find, nat_lt, if◌then◌else◌}
use Rattle.std.proofs.lemmas.Bool.{and_parts, both_ways, eqb-true}
use Rattle.std.proofs.lemmas.List.{nil_from_length}
use Rattle.ssh_grammar.specs.SpellMessage.{close}
use Rattle.mux_outside.specs.HouseCalls.{HouseCall, Marks}
use Rattle.mux_outside.specs.declared.house_mark.HouseMark.TheVariants.{HouseSaid}
use Rattle.house_relay.specs.Acts.{RelayAct, received_close}
use Rattle.house_relay.specs.Next.{chunk, sends_live}
use Rattle.house_relay.specs.Relay.{IsLive, LineStands, is_broken, is_to_be_closed}
use Rattle.house_relay.specs.declared.line.ChannelState.{ChannelState}
use Rattle.house_relay.specs.declared.line.ChannelState.TheVariants.{Asked, Dialing, Live, Offered, Opened, Over}
use Rattle.house_relay.specs.declared.line.Live.{Live as LiveState}
use Rattle.house_relay.specs.declared.relay.Outgoing.{Outgoing}
use Rattle.house_relay.specs.declared.relay.Outgoing.TheVariants as outgoing
use Rattle.house_relay.specs.declared.relay.Relay.{Relay}
use Rattle.house_relay.specs.declared.relay.RelaySocket.{RelaySocket}
use Rattle.house_relay.specs.declared.relay.RelaySocket.TheVariants as socket
use Rattle.house_forward.specs.Forwardings.{has_request}
use Rattle.house_forward.specs.RelayTraces.{Follows, Life, SendsBy, Trace, TraceReaches, first_trace}
use Rattle.house_forward.specs.Said.{framed, payload_if, relay_sent_by}
use Rattle.house_forward.specs.declared.forwarding.Forwarding.{Forwarding}
use Rattle.house_forward.proofs.Sound.{Each, Sound, all-sound, each-back}
use Rattle.house_history.specs.RunsRelay.{HasFinished, IsChannelCloseOf, is_close}

-- ---- what a relay sends is a CLOSE

abbrev with-line : ChannelState → Relay → Relay
with-line line r = record r { line = line }

abbrev with-socket : RelaySocket → Relay → Relay
with-socket s r = record r { socket = s }

-- it is that of a channel that is confirmed and is to end
record EndsNow (r : Relay) : Type 0 where
  live : LiveState
  line : r.line ≡ Live live
  words : relay_sent_by r ≡ close live.remote
  done : is_to_be_closed r.socket r.queue.waiting live ≡ true

-- what is sent in a channel that is confirmed
abbrev EndsBy : LiveState → Relay → Option Outgoing → Type 0
EndsBy live r o = is_close (framed (payload_if r o)) ≡ true
    → (payload_if r o ≡ close live.remote) × (is_to_be_closed r.socket r.queue.waiting live ≡ true)

if-either : {X : Type 0} (P : X → Type 0) (b : Bool) (x y : X) → (b ≡ true → P x) → P y → P (if b then x else y)
if-either P true x y p q = p refl
if-either P false x y p q = q

-- what is sent in a channel that is confirmed: CLOSE only where it is to end
live-says : (P : Option Outgoing → Type 0) (r : Relay) (live : LiveState) → P None
    → (is_to_be_closed r.socket r.queue.waiting live ≡ true → P (Some outgoing.Close)) → P (Some outgoing.Failure)
    → ((n : ℕ) → P (Some (outgoing.Adjust n))) → ((n : ℕ) → P (Some (outgoing.Data n))) → P (Some outgoing.Eof) → P (sends_live r live)
live-says P r live none close-it failure adjust data-of eof =
    if-either P live.close_sent _ _ (λ e. none)
    (if-either P (is_to_be_closed r.socket r.queue.waiting live) _ _ close-it
    (if-either P (nat_lt 0 live.failures) _ _ (λ e. failure)
    (if-either P (nat_lt 0 live.owed) _ _ (λ e. adjust _)
    (if-either P (nat_lt 0 (length r.held.waiting)) _ _
    (λ e. if-either P (nat_lt 0 (chunk r live)) _ _ (λ e. data-of _) none)
    (if-either P _ _ _ (λ e. eof) none)))))

no-close : (live : LiveState) (r : Relay) (o : Option Outgoing) → is_close (framed (payload_if r o)) ≡ false → EndsBy live r o
no-close live r o none is = absurd (both_ways (is_close (framed (payload_if r o))) none is)

ends-live : (r : Relay) (live : LiveState) → EndsBy live (with-line (Live live) r) (sends_live (with-line (Live live) r) live)
ends-live r live =
    let now = with-line (Live live) r in
    live-says (EndsBy live now) now live (no-close live now None refl) (λ done is. (refl, done)) (no-close live now (Some outgoing.Failure) refl)
    (λ n. no-close live now (Some (outgoing.Adjust n)) refl) (λ n. no-close live now (Some (outgoing.Data n)) refl)
    (no-close live now (Some outgoing.Eof) refl)

-- an answer to the server's OPEN is none
offer-none : (s : RelaySocket) (remote window maximum : ℕ) (r : Relay)
    → is_close (framed (relay_sent_by (with-socket s (with-line (Offered remote window maximum) r)))) ≡ false
offer-none (socket.Open t) remote window maximum r = refl
offer-none socket.Unmade remote window maximum r = refl
offer-none (socket.Connecting t) remote window maximum r = refl
offer-none (socket.Failed t) remote window maximum r = refl
offer-none (socket.NoChannelLeft t) remote window maximum r = refl
offer-none socket.Closed remote window maximum r = refl

ends-now : (line : ChannelState) (r : Relay) → is_close (framed (relay_sent_by (with-line line r))) ≡ true → EndsNow (with-line line r)
ends-now (Dialing dialog) r is = absurd (both_ways (is_close (framed (relay_sent_by (with-line (Dialing dialog) r)))) refl is)
ends-now (Asked host port version) r is = absurd (both_ways (is_close (framed (relay_sent_by (with-line (Asked host port version) r)))) refl is)
ends-now (Opened version) r is = absurd (both_ways (is_close (framed (relay_sent_by (with-line (Opened version) r)))) refl is)
ends-now (Offered remote window maximum) r is =
    absurd (both_ways (is_close (framed (relay_sent_by (with-line (Offered remote window maximum) r)))) (offer-none r.socket remote window maximum r) is)
ends-now (Live live) r is =
    let both = ends-live r live is in
    record { live = live; line = refl; words = both.0; done = both.1 }
ends-now Over r is = absurd (both_ways (is_close (framed (relay_sent_by (with-line Over r)))) refl is)

-- ---- its cause

either : (a b : Bool) → (a || b) ≡ true → (a ≡ true) ⊎ (b ≡ true)
either true b e = inl refl
either false b e = inr e

live-of : (line : ChannelState) (live : LiveState) (dials : Bool) (acts : List RelayAct) → line ≡ Live live → LineStands line dials acts → IsLive live dials acts
live-of line live dials acts e stands = subst (λ (l : ChannelState). LineStands l dials acts) e stands

cause-of : (l : Life) (live : LiveState) → IsLive live l.dials l.acts → is_to_be_closed l.relay.socket l.relay.queue.waiting live ≡ true
    → (is_broken l.relay.socket ≡ true) ⊎ ((received_close l.acts ≡ true) ⊎ HasFinished l)
cause-of l live is done = by_socket (either (is_broken l.relay.socket) _ done)
  where
    finished : (live.eof_sent && (live.eof_received && (length l.relay.queue.waiting == 0))) ≡ true → HasFinished l
    finished e =
        let sent = and_parts live.eof_sent (live.eof_received && (length l.relay.queue.waiting == 0)) e in
        let rest = and_parts live.eof_received (length l.relay.queue.waiting == 0) sent.1 in
        record {
          eof_sent_so = sym is.eof_sent ∙ sent.0;
          eof_received_so = sym is.eof_received ∙ rest.0;
          none_waits = nil_from_length l.relay.queue.waiting (eqb-true (length l.relay.queue.waiting) 0 rest.1);
        }

    by_close : (live.close_received ≡ true) ⊎ ((live.eof_sent && (live.eof_received && (length l.relay.queue.waiting == 0))) ≡ true)
        → (received_close l.acts ≡ true) ⊎ HasFinished l
    by_close (inl e) = inl (sym is.close_received ∙ e)
    by_close (inr e) = inr (finished e)

    by_socket : (is_broken l.relay.socket ≡ true) ⊎ ((live.close_received || (live.eof_sent && (live.eof_received && (length l.relay.queue.waiting == 0)))) ≡ true)
        → (is_broken l.relay.socket ≡ true) ⊎ ((received_close l.acts ≡ true) ⊎ HasFinished l)
    by_socket (inl e) = inl e
    by_socket (inr e) = inr (by_close (either live.close_received _ e))

-- ---- by the calls

close-by : (b : Bool) (o : Option Forwarding) (bytes : List ℕ) (old new : Trace) → SendsBy b o bytes old new → Each Sound old.relay_traces
    → is_close bytes ≡ true → IsChannelCloseOf old.relay_traces bytes
close-by false o bytes old new h sounds is = absurd (both_ways (is_close bytes) (ap is_close h.0) is)
close-by true (Some f) bytes old new h sounds is = absurd (both_ways (is_close bytes) (ap is_close h.0) is)
close-by true None bytes old new h sounds is =
    let one = h.1 in
    let sound = (each-back Sound one.before (one.life ∷ one.behind) (subst (Each Sound) one.were sounds)).0 in
    let now = ends-now one.life.relay.line one.life.relay (sym (ap is_close one.goes.0) ∙ is) in
    record {
      front = one.before;
      life = one.life;
      others = one.behind;
      live = now.live;
      were = one.were;
      line = now.line;
      says = one.goes.0 ∙ ap framed now.words;
      cause = cause-of one.life now.live (live-of one.life.relay.line now.live one.life.dials one.life.acts now.line sound.stands.line) now.done;
      lost = sym sound.stands.sends;
      few = sound.stands.few;
    }

pub closes-channel : (calls : List HouseCall) (old new : Trace) (bytes : List ℕ) → TraceReaches first_trace calls old → Follows (Marks (HouseSaid bytes)) old new
    → is_close bytes ≡ true → IsChannelCloseOf old.relay_traces bytes
closes-channel calls old new bytes reached follows is =
    close-by old.forwarding_state.greeted (find has_request old.forwarding_state.all) bytes old new follows (all-sound calls old reached).relay_traces is
