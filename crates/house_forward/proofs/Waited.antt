-- The streams for which something waits, one link after another.
use Rattle.std.proofs.Common.{◌≡◌, ◌∙◌, refl, sym, ap, ℕ, ◌+◌, ◌<◌, Bool, true, false, not, ◌&&◌, List, [], ◌∷◌, ◌++◌, length, get_or, take, map, cond, Option, Some, None, arith}
use Rattle.std.specs.Prelude.{◌==◌, find, filter, is_some, if◌then◌else◌}
use Rattle.std.specs.List.{cons_option, position}
use Rattle.std.proofs.lemmas.Bool.{eq-eqb, ne_eqb}
use Rattle.std.proofs.lemmas.List.{take_more}
use Rattle.std.proofs.lemmas.List.Elements.{filter-append}
use mathlib.Core.List.{map-append}
use Rattle.mux_outside.specs.House.{has_waiting}
use Rattle.mux_outside.specs.OwnStreams.{is_one, is_finished, numbers_of}
use Rattle.mux_outside.specs.Streams.{among}
use Rattle.mux_outside.specs.declared.own_streams.OwnStream.{OwnStream}
use Rattle.house_forward.specs.Links.{streams_of, own_stream_of, are_distinct, has_number, numbered, stream_number_in, is_relay_stream, is_stream_finished, link_queue_in, queue_at, waiting_in_link, stream_waiting, unless_among}
use Rattle.house_forward.specs.declared.link.Link.{Link}
use Rattle.house_forward.specs.declared.link.LinkStream.{LinkStream}
use Rattle.house_forward.specs.declared.link.LinkStream.TheVariants.{Offered, Awaited, Made, Gone}
use Rattle.house_forward.proofs.Changes.{streams_more}
use Rattle.house_forward.proofs.Finding.{finished-there, found-nowhere, has-there, of-none, of-there, owned}
use Rattle.house_forward.proofs.Queues.{queue-first}

-- ---- what waits for the stream of a link

queue-if : (ls : List Link) (i t : ℕ) (x : Link) → are_distinct (streams_of ls) ≡ true → position (has_number t) ls ≡ Some i → x ≡ get_or ls i x
    → (b : Bool) → is_relay_stream t x ≡ b → link_queue_in (find (is_relay_stream t) ls) ≡ (if b then x.relay.queue.waiting else [])
queue-if ls i t x d p at true is = queue-first ls i t x (of-there ls i t x p at is) at
queue-if ls i t x d p at false isnt = ap link_queue_in (found-nowhere ls t (of-none ls i t x d p at isnt))

shape : (of finished : Bool) (queue : List ℕ) → (if not finished then (if of then queue else []) else []) ≡ (if of && not finished then queue else [])
shape true true queue = refl
shape true false queue = refl
shape false true queue = refl
shape false false queue = refl

queue-there : (ls : List Link) (i t : ℕ) (x : Link) → are_distinct (streams_of ls) ≡ true → i < length ls → x ≡ get_or ls i x → has_number t x ≡ true
    → queue_at ls t ≡ (if is_relay_stream t x && not (is_stream_finished t x.stream) then x.relay.queue.waiting else [])
queue-there ls i t x d l at n =
    let p : position (has_number t) ls ≡ Some i = has-there ls i t x d l at n in
    let queue : List ℕ = link_queue_in (find (is_relay_stream t) ls) in
    let one : is_one t (streams_of ls) ≡ true = sym (owned ls t) ∙ ap is_some p in
    ap (λ (b : Bool). if b && not (is_finished t (streams_of ls)) then queue else []) one
    ∙ (ap (λ (b : Bool). if not b then queue else []) (sym (finished-there ls i t x d p at))
    ∙ (ap (λ (q : List ℕ). if not (is_stream_finished t x.stream) then q else []) (queue-if ls i t x d p at (is_relay_stream t x) refl)
    ∙ shape (is_relay_stream t x) (is_stream_finished t x.stream) x.relay.queue.waiting))

-- ---- whether it is listed

abbrev listed : Option ℕ → List ℕ
listed None = []
listed (Some t) = t ∷ []

number-listed : (s : LinkStream) → numbers_of (cons_option (own_stream_of s) []) ≡ listed (stream_number_in s)
number-listed (Offered host port) = refl
number-listed Awaited = refl
number-listed (Made own) = refl
number-listed Gone = refl

abbrev number-or : Option ℕ → ℕ
number-or None = 0
number-or (Some t) = t

number-has : (s : LinkStream) (t : ℕ) → stream_number_in s ≡ Some t → numbered t s ≡ true
number-has (Offered host port) t e = let no : None ≡ Some t = e in cc
number-has Awaited t e = let no : None ≡ Some t = e in cc
number-has (Made own) t e = eq-eqb own.number t (ap number-or e)
number-has Gone t e = let no : None ≡ Some t = e in cc

never : (failed : Bool) (t : ℕ) → cond (not failed && false) (t ∷ []) [] ≡ []
never true t = refl
never false t = refl

unless : (failed : Bool) (t : ℕ) → cond (not failed && true) (t ∷ []) [] ≡ (if not failed then t ∷ [] else [])
unless true t = refl
unless false t = refl

by-tests : (failed : List ℕ) (t : ℕ) (of finished : Bool) (queue : List ℕ)
    → cond (not (among t failed) && not (length (if of && not finished then queue else []) == 0)) (t ∷ []) []
    ≡ unless_among failed (if of && not finished && not (length queue == 0) then Some t else None)
by-tests failed t false finished queue = never (among t failed) t
by-tests failed t true true queue = never (among t failed) t
by-tests failed t true false [] = never (among t failed) t
by-tests failed t true false (b ∷ queue) =
    let some : (length (b ∷ queue) == 0) ≡ false = ne_eqb (length (b ∷ queue)) 0 (λ e. absurd (omega (arith, e))) in
    ap (λ (e : Bool). cond (not (among t failed) && not e) (t ∷ []) []) some
    ∙ (unless (among t failed) t
    ∙ ap (λ (e : Bool). unless_among failed (if not e then Some t else None)) (sym some))

listed-one : (ls : List Link) (failed : List ℕ) (i : ℕ) (x : Link) → are_distinct (streams_of ls) ≡ true → i < length ls → x ≡ get_or ls i x
    → (o : Option ℕ) → stream_number_in x.stream ≡ o → filter (has_waiting (queue_at ls) failed) (listed o) ≡ unless_among failed (waiting_in_link x o)
listed-one ls failed i x d l at None e = refl
listed-one ls failed i x d l at (Some t) e =
    ap (λ (q : List ℕ). cond (not (among t failed) && not (length q == 0)) (t ∷ []) []) (queue-there ls i t x d l at (number-has x.stream t e))
    ∙ by-tests failed t (is_relay_stream t x) (is_stream_finished t x.stream) x.relay.queue.waiting

-- one link more
pub listed-more : (ls : List Link) (failed : List ℕ) (i : ℕ) (x : Link) → are_distinct (streams_of ls) ≡ true → i < length ls → x ≡ get_or ls i x
    → filter (has_waiting (queue_at ls) failed) (numbers_of (streams_of (take (i + 1) ls)))
    ≡ filter (has_waiting (queue_at ls) failed) (numbers_of (streams_of (take i ls))) ++ unless_among failed (stream_waiting x)
listed-more ls failed i x d l at =
    let waits : ℕ → Bool = has_waiting (queue_at ls) failed in
    let before : List OwnStream = streams_of (take i ls) in
    let one : List OwnStream = cons_option (own_stream_of x.stream) [] in
    let items : take (i + 1) ls ≡ take i ls ++ x ∷ [] = take_more ls i x l ∙ ap (λ (z : Link). take i ls ++ z ∷ []) (sym at) in
    ap (λ (l : List Link). filter waits (numbers_of (streams_of l))) items
    ∙ (ap (λ (s : List OwnStream). filter waits (numbers_of s)) (streams_more (take i ls) x)
    ∙ (ap (filter waits) (map-append (λ (s : OwnStream). s.number) before one)
    ∙ (filter-append waits (numbers_of before) (numbers_of one)
    ∙ ap (λ (l : List ℕ). filter waits (numbers_of before) ++ l)
    (ap (filter waits) (number-listed x.stream) ∙ listed-one ls failed i x d l at (stream_number_in x.stream) refl))))
