-- The place of a stream in the list of the relays: where one has its number, it is the only one.
use Rattle.std.proofs.Common.{◌≡◌, ◌∙◌, refl, sym, ap, subst, ℕ, zero, suc, ◌<◌, Bool, true, false, List, [], ◌∷◌, length, get_or, Option, Some, None, arith}
use Rattle.std.specs.Prelude.{◌||◌, find, is_some}
use Rattle.std.specs.List.{list_any, position, position_or_len}
use Rattle.std.proofs.lemmas.Bool.{and_parts, and_left, or_parts, or_from, both_ways, cond_below}
use Rattle.std.proofs.lemmas.List.{get_or_default}
use Rattle.std.proofs.lemmas.List.Quantifiers.{position-Some}
use Rattle.std.proofs.lemmas.List.Sums.{position_or_len_is}
use Rattle.mux_outside.specs.OwnStreams.{is_one, is_finished}
use Rattle.house_relay.specs.Relay.{socket_stream_of}
use Rattle.house_forward.specs.Links.{streams_of, are_distinct, has_number, numbered, is_link_number, is_relay_stream, is_stream_finished}
use Rattle.house_forward.specs.declared.link.Link.{Link}
use Rattle.house_forward.specs.declared.link.LinkStream.{LinkStream}
use Rattle.house_forward.specs.declared.link.LinkStream.TheVariants.{Offered, Awaited, Made, Gone}
use Rattle.house_forward.proofs.Changes.{one-there, first-is}
use Rattle.house_forward.proofs.Lists.{none-passes, none-found}
use Rattle.house_forward.proofs.Streams.{has-stream, differs-in, rest-distinct, alone, one_of_links, finished_of_links}

-- ---- first places

first-of : (p : Link → Bool) (ls : List Link) (i : ℕ) (d : Link) → i < length ls → p (get_or ls i d) ≡ true
    → ((k : ℕ) → k < i → p (get_or ls k d) ≡ false) → position p ls ≡ Some i
first-of p ls i d l is before =
    let at : position_or_len p ls ≡ i = position_or_len_is p ls i d (omega arith) before (λ _. is) in
    rw at (sym (cond_below i (length ls) (Some i) None l))

none-of : (o : Option ℕ) → ((i : ℕ) → o ≡ Some i → ⊥) → o ≡ None
none-of None f = refl
none-of (Some i) f = absurd (f i refl)

none-at : (p : Link → Bool) (ls : List Link) → list_any p ls ≡ false → position p ls ≡ None
none-at p ls e = none-of (position p ls) (λ i at. both_ways (list_any p ls) e (one-there p ls i at))

none-weaker : (p q : Link → Bool) → ((l : Link) → p l ≡ false → q l ≡ false) → (ls : List Link) → list_any p ls ≡ false
    → list_any q ls ≡ false
none-weaker p q f [] e = refl
none-weaker p q f (x ∷ ls) e =
    let both = or_parts (p x) (list_any p ls) e in
    or_from (q x) (list_any q ls) (f x both.0) (none-weaker p q f ls both.1)

-- ---- the one with a number

before-in : (ls : List Link) (i t : ℕ) (x : Link) → are_distinct (streams_of ls) ≡ true → i < length ls → get_or ls i x ≡ x
    → has_number t x ≡ true → (k : ℕ) → k < i → has_number t (get_or ls k x) ≡ false
before-in [] i t x d l e n k lt = absurd (omega arith)
before-in (y ∷ ls) zero t x d l e n k lt = absurd (omega arith)
before-in (y ∷ ls) (suc i) t x d l e n zero lt =
    differs-in y.stream (streams_of ls) t _ refl d (has-stream ls i t x (omega arith) e n)
before-in (y ∷ ls) (suc i) t x d l e n (suc k) lt =
    before-in ls i t x (rest-distinct y ls d) (omega arith) e n k (omega arith)

-- where one has the number, that is its place
pub has-there : (ls : List Link) (i t : ℕ) (x : Link) → are_distinct (streams_of ls) ≡ true → i < length ls → x ≡ get_or ls i x
    → has_number t x ≡ true → position (has_number t) ls ≡ Some i
has-there ls i t x d l at n = first-of (has_number t) ls i x l (subst (λ (z : Link). has_number t z ≡ true) at n)
    (before-in ls i t x d l (sym at) n)

not-of : (t : ℕ) (l : Link) → has_number t l ≡ false → is_relay_stream t l ≡ false
not-of t l e = and_left (has_number t l) (is_link_number t (socket_stream_of l.relay.socket)) e

-- it is that of its relay too
pub of-there : (ls : List Link) (i t : ℕ) (x : Link) → position (has_number t) ls ≡ Some i → x ≡ get_or ls i x
    → is_relay_stream t x ≡ true → position (is_relay_stream t) ls ≡ Some i
of-there ls i t x e at is =
    let first = position-Some (has_number t) ls i x e in
    first-of (is_relay_stream t) ls i x first.0 (subst (λ (z : Link). is_relay_stream t z ≡ true) at is)
    (λ k lt. not-of t (get_or ls k x) (first.2 k lt))

same-place : (i k : ℕ) (o : Option ℕ) → o ≡ Some i → o ≡ Some k → i ≡ k
same-place i k None a b = cc
same-place i k (Some j) a b = cc

-- or isn't
pub of-none : (ls : List Link) (i t : ℕ) (x : Link) → are_distinct (streams_of ls) ≡ true → position (has_number t) ls ≡ Some i
    → x ≡ get_or ls i x → is_relay_stream t x ≡ false → position (is_relay_stream t) ls ≡ None
of-none ls i t x d e at isnt = none-of (position (is_relay_stream t) ls) (λ k there.
    let first = position-Some (is_relay_stream t) ls k x there in
    let z : Link = get_or ls k x in
    let has : has_number t z ≡ true = (and_parts (has_number t z) (is_link_number t (socket_stream_of z.relay.socket)) first.1).0 in
    let same : i ≡ k = same-place i k (position (has_number t) ls) e
    (has-there ls k t z d first.0 (get_or_default ls k x z first.0) has) in
    both_ways (is_relay_stream t x) isnt (subst (λ (y : Link). is_relay_stream t y ≡ true) (sym at)
    (subst (λ (j : ℕ). is_relay_stream t (get_or ls j x) ≡ true) (sym same) first.1)))

-- none has the number
pub of-nowhere : (ls : List Link) (t : ℕ) → position (has_number t) ls ≡ None → position (is_relay_stream t) ls ≡ None
of-nowhere ls t e = none-at (is_relay_stream t) ls (none-weaker (has_number t) (is_relay_stream t) (not-of t) ls (none-passes (has_number t) ls e))

-- ---- what is reported of a stream

pub found-of : (ls : List Link) (i t : ℕ) (x : Link) → position (is_relay_stream t) ls ≡ Some i → x ≡ get_or ls i x
    → find (is_relay_stream t) ls ≡ Some x
found-of ls i t x e at = first-is (is_relay_stream t) ls i x e at

pub found-nowhere : (ls : List Link) (t : ℕ) → position (is_relay_stream t) ls ≡ None → find (is_relay_stream t) ls ≡ None
found-nowhere ls t e = none-found (is_relay_stream t) ls (none-passes (is_relay_stream t) ls e)

owned-there : (ls : List Link) (i t : ℕ) → position (has_number t) ls ≡ Some i → is_one t (streams_of ls) ≡ true
owned-there ls i t e = sym (one_of_links t ls) ∙ one-there (has_number t) ls i e

owned-nowhere : (ls : List Link) (t : ℕ) → position (has_number t) ls ≡ None → is_one t (streams_of ls) ≡ false
owned-nowhere ls t e = sym (one_of_links t ls) ∙ none-passes (has_number t) ls e

owned-if : (ls : List Link) (t : ℕ) (o : Option ℕ) → position (has_number t) ls ≡ o → is_some o ≡ is_one t (streams_of ls)
owned-if ls t None e = sym (owned-nowhere ls t e)
owned-if ls t (Some i) e = sym (owned-there ls i t e)

pub owned : (ls : List Link) (t : ℕ) → is_some (position (has_number t) ls) ≡ is_one t (streams_of ls)
owned ls t = owned-if ls t (position (has_number t) ls) refl

not-finished : (s : LinkStream) (t : ℕ) → numbered t s ≡ false → is_stream_finished t s ≡ false
not-finished (Offered host port) t e = refl
not-finished Awaited t e = refl
not-finished (Made own) t e = and_left _ own.finished e
not-finished Gone t e = refl

none-finished : (ls : List Link) (t : ℕ) → list_any (has_number t) ls ≡ false → list_any (λ l. is_stream_finished t l.stream) ls ≡ false
none-finished ls t e = none-weaker (has_number t) (λ (l : Link). is_stream_finished t l.stream) (λ l n. not-finished l.stream t n) ls e

or-none : (a b : Bool) → b ≡ false → (a || b) ≡ a
or-none true b e = refl
or-none false b e = e

or-last : (a b : Bool) → a ≡ false → (a || b) ≡ b
or-last true b e = cc
or-last false b e = refl

finished-at : (ls : List Link) (i t : ℕ) (x : Link) → are_distinct (streams_of ls) ≡ true → i < length ls → get_or ls i x ≡ x
    → has_number t x ≡ true → list_any (λ l. is_stream_finished t l.stream) ls ≡ is_stream_finished t x.stream
finished-at [] i t x d l e n = absurd (omega arith)
finished-at (y ∷ ls) zero t x d l e n =
    let is : has_number t y ≡ true = subst (λ (z : Link). has_number t z ≡ true) (sym e) n in
    let others = none-finished ls t (one_of_links t ls ∙ alone y.stream (streams_of ls) t d is) in
    or-none (is_stream_finished t y.stream) _ others ∙ ap (λ (z : Link). is_stream_finished t z.stream) e
finished-at (y ∷ ls) (suc i) t x d l e n =
    let isnt : has_number t y ≡ false = differs-in y.stream (streams_of ls) t _ refl d (has-stream ls i t x (omega arith) e n) in
    or-last (is_stream_finished t y.stream) _ (not-finished y.stream t isnt)
    ∙ finished-at ls i t x (rest-distinct y ls d) (omega arith) e n

-- whether it accepts no more bytes
pub finished-there : (ls : List Link) (i t : ℕ) (x : Link) → are_distinct (streams_of ls) ≡ true → position (has_number t) ls ≡ Some i
    → x ≡ get_or ls i x → is_stream_finished t x.stream ≡ is_finished t (streams_of ls)
finished-there ls i t x d e at =
    let first = position-Some (has_number t) ls i x e in
    sym (finished-at ls i t x d first.0 (sym at) (subst (λ (z : Link). has_number t z ≡ true) (sym at) first.1))
    ∙ finished_of_links t ls

pub finished-nowhere : (ls : List Link) (t : ℕ) → position (has_number t) ls ≡ None → is_finished t (streams_of ls) ≡ false
finished-nowhere ls t e = sym (finished_of_links t ls) ∙ none-finished ls t (none-passes (has_number t) ls e)
