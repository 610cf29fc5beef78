-- What waits for a stream, as another or this one takes some of it.
use Rattle.std.proofs.Common.{◌≡◌, ◌∙◌, refl, sym, ap, subst, ℕ, zero, suc, ◌+◌, ◌<◌, ◌≤◌, Bool, true, false, List, [], ◌∷◌, length, get_or, set, take, drop, length-take, Option, Some, None, arith, inl, inr}
use Rattle.std.specs.Prelude.{◌==◌, ◌&&◌, ◌^◌, not, find, if◌then◌else◌, IfSome}
use Rattle.std.specs.List.{position, sum_by}
use Rattle.std.proofs.lemmas.Grind.{common_steps}
use Rattle.std.proofs.lemmas.Bool.{cases_Bool, eqb-true, eqb-false, ne_eqb, and_parts, and_left}
use Rattle.std.proofs.lemmas.List.Folds.{find_past}
use Rattle.std.proofs.lemmas.List.Sums.{sum_by-set}
use Rattle.std.proofs.lemmas.List.Quantifiers.{position-Some}
use Rattle.mux_outside.specs.House.{queue_after_took}
use Rattle.mux_outside.specs.OwnStreams.{is_one, is_finished}
use Rattle.house_relay.specs.Acts.{Takes}
use Rattle.house_relay.specs.ChannelState.{owed_in}
use Rattle.house_relay.specs.Relay.{RelayGoesOn, socket_stream_of, stuck_in}
use Rattle.house_relay.specs.Steps.{relay_taken_of}
use Rattle.house_relay.specs.declared.relay.Relay.{Relay}
use Rattle.house_forward.specs.Due.{stream_due, link_due}
use Rattle.house_forward.specs.Going.{TakesOf}
use Rattle.house_forward.specs.Links.{is_relay_stream, has_number, numbered, is_link_number, link_queue_in, queue_at, streams_of}
use Rattle.house_forward.specs.declared.link.Link.{Link}
use Rattle.house_forward.specs.declared.link.LinkStream.{LinkStream}
use Rattle.house_forward.specs.declared.link.LinkStream.TheVariants.{Offered, Awaited, Made, Gone}
use Rattle.house_forward.proofs.Lists.{found-first, none-found, none-passes}

found-set : {X : Type 0} (p : X → Bool) (xs : List X) (i : ℕ) (y d : X) → i < length xs → p y ≡ true
    → ((k : ℕ) → k < i → p (get_or xs k d) ≡ false) → find p (set xs i y) ≡ Some y
found-set p [] i y d l e before = absurd (omega arith)
found-set p (x ∷ xs) zero y d l e before = rw e refl
found-set p (x ∷ xs) (suc i) y d l e before =
    rw (before 0 (omega arith)) (found-set p xs i y d (omega arith) e (λ k lt. before (suc k) (omega arith)))

other-in : (s : LinkStream) (stream t : ℕ) → numbered stream s ≡ true → (t == stream) ≡ false → numbered t s ≡ false
other-in (Offered host port) stream t is ne = refl
other-in Awaited stream t is ne = refl
other-in (Made own) stream t is ne = ne_eqb own.number t (λ same. eqb-false t stream ne (sym same ∙ eqb-true own.number stream is))
other-in Gone stream t is ne = refl

-- what a link is after its socket accepted so many bytes
pub record Took (n : ℕ) (x y : Link) : Type 0 where
  pub stream : y.stream ≡ x.stream
  pub socket : y.relay.socket ≡ x.relay.socket
  pub queue : y.relay.queue.waiting ≡ drop n x.relay.queue.waiting
  pub held : y.relay.held ≡ x.relay.held
  pub stuck : stuck_in y.relay.line ≡ stuck_in x.relay.line

same-of : (t n : ℕ) (x y : Link) → Took n x y → is_relay_stream t y ≡ is_relay_stream t x
same-of t n x y took =
    ap (λ s. numbered t s && is_link_number t (socket_stream_of y.relay.socket)) took.stream
    ∙ ap (λ s. numbered t x.stream && is_link_number t (socket_stream_of s)) took.socket

taken-if : (b : Bool) (n : ℕ) (q : List ℕ) → b ≡ true → (if b then drop n q else q) ≡ drop n q
taken-if true n q e = refl
taken-if false n q e = cc

pub took-queues : (ls : List Link) (i stream n : ℕ) (x y : Link) → position (is_relay_stream stream) ls ≡ Some i → x ≡ get_or ls i x
    → Took n x y → (t : ℕ) → link_queue_in (find (is_relay_stream t) (set ls i y)) ≡ queue_after_took stream n t (link_queue_in (find (is_relay_stream t) ls))
took-queues ls i stream n x y e at took t =
    let first = position-Some (is_relay_stream stream) ls i x e in
    let is : is_relay_stream stream x ≡ true = subst (λ (z : Link). is_relay_stream stream z ≡ true) (sym at) first.1 in
    elim (cases_Bool (t == stream)) [
      | inl same ↦ (let it : t ≡ stream = eqb-true t stream same in
          let new : find (is_relay_stream t) (set ls i y) ≡ Some y = subst (λ (k : ℕ). find (is_relay_stream k) (set ls i y) ≡ Some y) (sym it)
          (found-set (is_relay_stream stream) ls i y x first.0 (same-of stream n x y took ∙ is) first.2) in
          let old : find (is_relay_stream t) ls ≡ Some (get_or ls i x) = subst (λ (k : ℕ). find (is_relay_stream k) ls ≡ Some (get_or ls i x)) (sym it)
          (found-first (is_relay_stream stream) ls i x first.0 first.1 first.2) in
          let left : link_queue_in (find (is_relay_stream t) (set ls i y)) ≡ drop n x.relay.queue.waiting = ap link_queue_in new ∙ took.queue in
          let right : link_queue_in (find (is_relay_stream t) ls) ≡ x.relay.queue.waiting = ap link_queue_in old ∙ ap (λ (z : Link). z.relay.queue.waiting) (sym at) in
          left ∙ sym (ap (λ q. queue_after_took stream n t q) right ∙ taken-if (t == stream) n x.relay.queue.waiting same))
      | inr other ↦ (let not-it : is_relay_stream t x ≡ false = and_left _ _ (other-in x.stream stream t (and_parts (has_number stream x) (is_link_number stream (socket_stream_of x.relay.socket)) is).0 other) in
          rw (other, find_past (is_relay_stream t) ls i y x (subst (λ (z : Link). is_relay_stream t z ≡ false) at not-it) (same-of t n x y took ∙ not-it)) refl)
    ]

nil : (n : ℕ) → drop {A = ℕ} n [] ≡ []
nil zero = refl
nil (suc n) = refl

none-if : (b : Bool) (n : ℕ) → [] ≡ (if b then drop {A = ℕ} n [] else [])
none-if true n = sym (nil n)
none-if false n = refl

pub none-took : (ls : List Link) (stream n : ℕ) → position (is_relay_stream stream) ls ≡ None → (t : ℕ)
    → link_queue_in (find (is_relay_stream t) ls) ≡ queue_after_took stream n t (link_queue_in (find (is_relay_stream t) ls))
none-took ls stream n e t =
    elim (cases_Bool (t == stream)) [
      | inl same ↦ (let it : t ≡ stream = eqb-true t stream same in
          let none = none-found (is_relay_stream stream) ls (none-passes (is_relay_stream stream) ls e) in
          let here : find (is_relay_stream t) ls ≡ None = subst (λ (k : ℕ). find (is_relay_stream k) ls ≡ None) (sym it) none in
          rw here (none-if (t == stream) n))
      | inr other ↦ rw other refl
    ]

due-same : (s : LinkStream) (r r' : Relay) → r'.held ≡ r.held → stuck_in r'.line ≡ stuck_in r.line → stream_due s r' ≡ stream_due s r
due-same (Offered host port) r r' h l = refl
due-same Awaited r r' h l = refl
due-same (Made own) r r' h l = rw (h, l) refl
due-same Gone r r' h l = refl

took-one : (n : ℕ) (x y : Link) → Took n x y → link_due y ≡ link_due x
took-one n x y took = ap (λ s. stream_due s y.relay) took.stream ∙ due-same x.stream x.relay y.relay took.held took.stuck

pub took-due : (ls : List Link) (i n : ℕ) (x y : Link) → i < length ls → x ≡ get_or ls i x → Took n x y
    → sum_by link_due (set ls i y) ≡ sum_by link_due ls
took-due ls i n x y l at took =
    let one = sum_by-set link_due ls i y x l in
    let two = took-one n x y took in
    let three : link_due (get_or ls i x) ≡ link_due x = ap link_due (sym at) in
    omega (arith, one, two, three)

-- what waits for the stream of the first that has it
pub queue-first : (ls : List Link) (i stream : ℕ) (x : Link) → position (is_relay_stream stream) ls ≡ Some i → x ≡ get_or ls i x
    → link_queue_in (find (is_relay_stream stream) ls) ≡ x.relay.queue.waiting
queue-first ls i stream x e at =
    let first = position-Some (is_relay_stream stream) ls i x e in
    ap link_queue_in (found-first (is_relay_stream stream) ls i x first.0 first.1 first.2) ∙ ap (λ (z : Link). z.relay.queue.waiting) (sym at)

-- nothing is held of it
pub rests-first : (ls : List Link) (i stream : ℕ) (x : Link) → position (is_relay_stream stream) ls ≡ Some i → x ≡ get_or ls i x
    → IfSome (find (is_relay_stream stream) ls) (λ l. l.relay.held.waiting ≡ []) → x.relay.held.waiting ≡ []
rests-first ls i stream x e at rests =
    let first = position-Some (is_relay_stream stream) ls i x e in
    let found = found-first (is_relay_stream stream) ls i x first.0 first.1 first.2 in
    ap (λ (z : Link). z.relay.held.waiting) at
    ∙ subst (λ (o : Option Link). IfSome o (λ l. l.relay.held.waiting ≡ [])) found rests

-- ---- the bytes that are accepted

-- the first of those that wait
pub takes-of : (old new : Relay) (n : ℕ) (queue : List ℕ) → queue ≡ old.queue.waiting → n ≤ length queue
    → (owed_in old.line + n < 2 ^ 64 → (new ≡ relay_taken_of n old) × RelayGoesOn old new (Takes (take n old.queue.waiting)))
    → TakesOf (take n queue) old new
takes-of old new n queue is few h = λ small.
    let size : length (take n queue) ≡ n = grind (arith, common_steps, length-take) in
    let both = h (subst (λ k. owed_in old.line + k < 2 ^ 64) size small) in (
      both.0 ∙ ap (λ k. relay_taken_of k old) (sym size),
      subst (λ q. RelayGoesOn old new (Takes (take n q))) (sym is) both.1,
      ap (take n) is ∙ ap (λ k. take k old.queue.waiting) (sym size),
    )

-- none, where no stream is that one
pub none-taken : (ls : List Link) (stream n : ℕ) (queue : List ℕ) → queue ≡ link_queue_in (find (is_relay_stream stream) ls)
    → position (is_relay_stream stream) ls ≡ None → take n queue ≡ []
none-taken ls stream n queue is e =
    let none = none-found (is_relay_stream stream) ls (none-passes (is_relay_stream stream) ls e) in
    ap (take n) (is ∙ ap link_queue_in none) ∙ taken-nil n
  where
    taken-nil : (k : ℕ) → take {A = ℕ} k [] ≡ []
    taken-nil zero = refl
    taken-nil (suc k) = refl

-- as many wait where the stream is finished or isn't one of the forwarder's: none
pub front-at : (ls : List Link) (stream n : ℕ) → n ≤ length (queue_at ls stream)
    → take n (queue_at ls stream) ≡ take n (link_queue_in (find (is_relay_stream stream) ls))
front-at ls stream n few =
    front-if (is_one stream (streams_of ls) && not (is_finished stream (streams_of ls))) (link_queue_in (find (is_relay_stream stream) ls)) few
  where
    front-if : (b : Bool) (q : List ℕ) → n ≤ length (if b then q else []) → take n (if b then q else []) ≡ take n q
    front-if true q few = refl
    front-if false q few = by_size n few
      where
        by_size : (k : ℕ) → k ≤ length {A = ℕ} [] → take {A = ℕ} k [] ≡ take k q
        by_size zero few = refl
        by_size (suc k) few = absurd (omega arith)
