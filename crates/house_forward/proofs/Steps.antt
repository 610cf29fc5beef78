-- What a step leaves of what is held, and of the numbers of the streams.
use Rattle.std.proofs.Common.{◌≡◌, ◌∙◌, refl, ℕ, ◌≤◌, Bool, true, false, List, length, map}
use Rattle.std.specs.Prelude.{◌==◌, not, if◌then◌else◌}
use Rattle.std.specs.List.{All}
use Rattle.std.proofs.lemmas.List.Elements.{All-map, All-weaker}
use Rattle.mux_outside.specs.OwnStreams.{pause_one, finish_one, end_one}
use Rattle.mux_outside.specs.declared.own_streams.OwnStream.{OwnStream}
use Rattle.mux_outside.specs.declared.piece.TheConstants.{LONGEST_PIECE}
use Rattle.house_relay.specs.declared.relay.Relay.{Relay}
use Rattle.house_forward.specs.Links.{streams_of, are_distinct, link_after, relay_after, has_number, stream_after}
use Rattle.house_forward.specs.declared.link.Link.{Link}
use Rattle.house_forward.specs.declared.link.LinkStep.{LinkStep}
use Rattle.house_forward.specs.declared.link.LinkStep.TheVariants.{Pause, Finish, End, Close, Writable, Failed}
use Rattle.house_forward.proofs.Streams.{paused-streams, finished-streams, ended-streams, closed-streams, writable-streams, failed-streams, distinct-map, distinct-filter}

-- no more than one piece has at most is held
pub record IsFew (l : Link) : Type 0 where
  pub few : length l.relay.held.waiting ≤ LONGEST_PIECE

held-relay : (step : LinkStep) (r : Relay) → (relay_after step r).held ≡ r.held
held-relay (Pause b) r = refl
held-relay Finish r = refl
held-relay End r = refl
held-relay Close r = refl
held-relay Writable r = refl
held-relay Failed r = refl

held-if : (b : Bool) (x y : Link) → x.relay.held ≡ y.relay.held → (if b then x else y).relay.held ≡ y.relay.held
held-if true x y e = e
held-if false x y e = refl

held-after : (step : LinkStep) (t : ℕ) (l : Link) → (link_after step t l).relay.held ≡ l.relay.held
held-after step t l = held-if (has_number t l)
    (record l { relay = relay_after step l.relay; stream = stream_after step l.stream }) l (held-relay step l.relay)

pub few-after : (step : LinkStep) (t : ℕ) (ls : List Link) → All (λ l. length l.relay.held.waiting ≤ LONGEST_PIECE) ls
    → All (λ l. length l.relay.held.waiting ≤ LONGEST_PIECE) (map (link_after step t) ls)
few-after step t ls few = All-map (λ l. length l.relay.held.waiting ≤ LONGEST_PIECE) (link_after step t) ls
    (All-weaker (λ l. length l.relay.held.waiting ≤ LONGEST_PIECE) (λ l. length (link_after step t l).relay.held.waiting ≤ LONGEST_PIECE)
    (λ l fits. rw (held-after step t l) fits) ls few)

number-if : (b : Bool) (x y : OwnStream) → x.number ≡ y.number → (if b then x else y).number ≡ y.number
number-if true x y e = e
number-if false x y e = refl

pub distinct-after : (step : LinkStep) (t : ℕ) (ls : List Link) → are_distinct (streams_of ls) ≡ true
    → are_distinct (streams_of (map (link_after step t) ls)) ≡ true
distinct-after (Pause b) t ls d = rw (paused-streams b t ls)
    (distinct-map (pause_one b t) (λ s. number-if (s.number == t) (record s { paused = b }) s refl) (streams_of ls) ∙ d)
distinct-after Finish t ls d = rw (finished-streams t ls)
    (distinct-map (finish_one t) (λ s. number-if (s.number == t) (record s { finished = true }) s refl) (streams_of ls) ∙ d)
distinct-after End t ls d = rw (ended-streams t ls)
    (distinct-map (end_one t) (λ s. number-if (s.number == t) (record s { ended = true }) s refl) (streams_of ls) ∙ d)
distinct-after Close t ls d = rw (closed-streams t ls)
    (distinct-filter (λ s. not (s.number == t)) (streams_of ls) d)
distinct-after Writable t ls d = rw (writable-streams t ls) d
distinct-after Failed t ls d = rw (failed-streams t ls) d
