-- The streams of the relays, as these take steps.
use Rattle.std.proofs.Common.{◌≡◌, ◌∙◌, refl, sym, ap, subst, ℕ, zero, suc, ◌<◌, Bool, true, false, cond, List, [], ◌∷◌, ◌++◌, length, get_or, map, filter, Option, Some, None, arith}
use Rattle.std.specs.Prelude.{◌||◌, ◌&&◌, ◌==◌, not, if◌then◌else◌}
use Rattle.std.specs.List.{list_any, cons_option}
use Rattle.std.proofs.lemmas.Bool.{or_left, or_right, or_parts, or_from, and_parts, and_from, both_ways, eqb-true, not-true, not_from_false, ne_eqb, eqb-false}
use Rattle.mux_outside.specs.OwnStreams.{is_one, is_finished, with_pause, with_finish, with_end, without_stream, pause_one, finish_one, end_one}
use Rattle.mux_outside.specs.declared.own_streams.OwnStream.{OwnStream}
use Rattle.house_forward.specs.Links.{own_stream_of, streams_of, are_distinct, numbered, has_number, link_after, stream_after, is_stream_finished}
use Rattle.house_forward.specs.declared.link.Link.{Link}
use Rattle.house_forward.specs.declared.link.LinkStep.{LinkStep}
use Rattle.house_forward.specs.declared.link.LinkStep.TheVariants.{Pause, Finish, End, Close, Writable, Failed}
use Rattle.house_forward.specs.declared.link.LinkStream.{LinkStream}
use Rattle.house_forward.specs.declared.link.LinkStream.TheVariants.{Offered, Awaited, Made, Gone}

-- ---- one link and the streams after it

has-one : (s : LinkStream) (ss : List OwnStream) (t : ℕ) → numbered t s ≡ true → is_one t (cons_option (own_stream_of s) ss) ≡ true
has-one (Offered host port) ss t n = cc
has-one Awaited ss t n = cc
has-one (Made own) ss t n = or_left _ (is_one t ss) n
has-one Gone ss t n = cc

behind-one : (o : Option OwnStream) (ss : List OwnStream) (t : ℕ) → is_one t ss ≡ true → is_one t (cons_option o ss) ≡ true
behind-one None ss t n = n
behind-one (Some own) ss t n = or_right (own.number == t) _ n

pub lacks-one : (s : LinkStream) (ss : List OwnStream) (t : ℕ) → is_one t (cons_option (own_stream_of s) ss) ≡ false
    → (numbered t s ≡ false) × (is_one t ss ≡ false)
lacks-one (Offered host port) ss t e = (refl, e)
lacks-one Awaited ss t e = (refl, e)
lacks-one (Made own) ss t e = or_parts (own.number == t) (is_one t ss) e
lacks-one Gone ss t e = (refl, e)

distinct-tail : (o : Option OwnStream) (ss : List OwnStream) → are_distinct (cons_option o ss) ≡ true → are_distinct ss ≡ true
distinct-tail None ss e = e
distinct-tail (Some own) ss e = (and_parts (not (is_one own.number ss)) (are_distinct ss) e).1

pub alone : (s : LinkStream) (ss : List OwnStream) (t : ℕ) → are_distinct (cons_option (own_stream_of s) ss) ≡ true
    → numbered t s ≡ true → is_one t ss ≡ false
alone (Offered host port) ss t e n = cc
alone Awaited ss t e n = cc
alone (Made own) ss t e n =
    let none : is_one own.number ss ≡ false = not-true (is_one own.number ss) (and_parts (not (is_one own.number ss)) (are_distinct ss) e).0 in
    subst (λ k. is_one k ss ≡ false) (eqb-true own.number t n) none
alone Gone ss t e n = cc

pub differs-in : (s : LinkStream) (ss : List OwnStream) (t : ℕ) (b : Bool) → numbered t s ≡ b → are_distinct (cons_option (own_stream_of s) ss) ≡ true
    → is_one t ss ≡ true → b ≡ false
differs-in s ss t true n e is = absurd (both_ways (is_one t ss) (alone s ss t e n) is)
differs-in s ss t false n e is = refl

-- ---- the one that has a number

pub has-stream : (ls : List Link) (k t : ℕ) (x : Link) → k < length ls → get_or ls k x ≡ x → has_number t x ≡ true
    → is_one t (streams_of ls) ≡ true
has-stream [] k t x l e n = absurd (omega arith)
has-stream (y ∷ ls) zero t x l e n = has-one y.stream (streams_of ls) t (subst (λ (z : Link). has_number t z ≡ true) (sym e) n)
has-stream (y ∷ ls) (suc k) t x l e n = behind-one (own_stream_of y.stream) (streams_of ls) t (has-stream ls k t x (omega arith) e n)

-- where none has it no link makes the step
pub unmoved : (step : LinkStep) (t : ℕ) (ls : List Link) → is_one t (streams_of ls) ≡ false → map (link_after step t) ls ≡ ls
unmoved step t [] e = refl
unmoved step t (y ∷ ls) e =
    let both = lacks-one y.stream (streams_of ls) t e in
    rw both.0 (ap (λ zs. y ∷ zs) (unmoved step t ls both.1))

pub moves-first : (step : LinkStep) (t : ℕ) (y : Link) (ls : List Link) → are_distinct (streams_of (y ∷ ls)) ≡ true
    → has_number t y ≡ true → map (link_after step t) ls ≡ ls
moves-first step t y ls e n = unmoved step t ls (alone y.stream (streams_of ls) t e n)

pub moves-later : (step : LinkStep) (t : ℕ) (y : Link) (ls : List Link) → are_distinct (streams_of (y ∷ ls)) ≡ true
    → is_one t (streams_of ls) ≡ true → link_after step t y ≡ y
moves-later step t y ls e is = rw (differs-in y.stream (streams_of ls) t _ refl e is) refl

pub rest-distinct : (y : Link) (ls : List Link) → are_distinct (streams_of (y ∷ ls)) ≡ true → are_distinct (streams_of ls) ≡ true
rest-distinct y ls e = distinct-tail (own_stream_of y.stream) (streams_of ls) e

-- ---- the streams after a step

own-if : (b : Bool) (x y : Link) → own_stream_of (if b then x else y).stream ≡ (if b then own_stream_of x.stream else own_stream_of y.stream)
own-if true x y = refl
own-if false x y = refl

abbrev link_own_after : LinkStep → ℕ → LinkStream → Option OwnStream
link_own_after step t s = if numbered t s then own_stream_of (stream_after step s) else own_stream_of s

own-after : (step : LinkStep) (t : ℕ) (l : Link) → own_stream_of (link_after step t l).stream ≡ link_own_after step t l.stream
own-after step t l = own-if (numbered t l.stream) _ l

abbrev option_f : (OwnStream → OwnStream) → Option OwnStream → Option OwnStream
option_f f None = None
option_f f (Some own) = Some (f own)

-- a change of the streams that a step makes
pub record Makes (step : LinkStep) (t : ℕ) (f : OwnStream → OwnStream) : Type 0 where
  pub at : (own : OwnStream) → link_own_after step t (Made own) ≡ Some (f own)

after-one : (step : LinkStep) (t : ℕ) (f : OwnStream → OwnStream) → Makes step t f → (s : LinkStream) → link_own_after step t s ≡ option_f f (own_stream_of s)
after-one step t f m (Offered host port) = refl
after-one step t f m Awaited = refl
after-one step t f m (Made own) = m.at own
after-one step t f m Gone = refl

cons-map : (f : OwnStream → OwnStream) (o : Option OwnStream) (ss : List OwnStream)
    → cons_option (option_f f o) (map f ss) ≡ map f (cons_option o ss)
cons-map f None ss = refl
cons-map f (Some own) ss = refl

pub mapped-streams : (step : LinkStep) (t : ℕ) (f : OwnStream → OwnStream) → Makes step t f → (ls : List Link)
    → streams_of (map (link_after step t) ls) ≡ map f (streams_of ls)
mapped-streams step t f m [] = refl
mapped-streams step t f m (l ∷ ls) =
    ap (λ o. cons_option o (streams_of (map (link_after step t) ls))) (own-after step t l ∙ after-one step t f m l.stream)
    ∙ ap (λ ss. cons_option (option_f f (own_stream_of l.stream)) ss) (mapped-streams step t f m ls)
    ∙ cons-map f (own_stream_of l.stream) (streams_of ls)

some-if : (b : Bool) (x y : OwnStream) → (if b then Some x else Some y) ≡ Some (if b then x else y)
some-if true x y = refl
some-if false x y = refl

same-if : (b : Bool) (x : OwnStream) → (if b then Some x else Some x) ≡ Some x
same-if true x = refl
same-if false x = refl

pub paused-streams : (b : Bool) (t : ℕ) (ls : List Link) → streams_of (map (link_after (Pause b) t) ls) ≡ with_pause b t (streams_of ls)
paused-streams b t ls = mapped-streams (Pause b) t (pause_one b t) (record { at = λ own. some-if (own.number == t) (record own { paused = b }) own }) ls

pub finished-streams : (t : ℕ) (ls : List Link) → streams_of (map (link_after Finish t) ls) ≡ with_finish t (streams_of ls)
finished-streams t ls = mapped-streams Finish t (finish_one t) (record { at = λ own. some-if (own.number == t) (record own { finished = true }) own }) ls

pub ended-streams : (t : ℕ) (ls : List Link) → streams_of (map (link_after End t) ls) ≡ with_end t (streams_of ls)
ended-streams t ls = mapped-streams End t (end_one t) (record { at = λ own. some-if (own.number == t) (record own { ended = true }) own }) ls

map-same : (ss : List OwnStream) → map (λ s. s) ss ≡ ss
map-same [] = refl
map-same (s ∷ ss) = ap (λ zs. s ∷ zs) (map-same ss)

pub writable-streams : (t : ℕ) (ls : List Link) → streams_of (map (link_after Writable t) ls) ≡ streams_of ls
writable-streams t ls = mapped-streams Writable t (λ s. s) (record { at = λ own. same-if (own.number == t) own }) ls ∙ map-same (streams_of ls)

pub failed-streams : (t : ℕ) (ls : List Link) → streams_of (map (link_after Failed t) ls) ≡ streams_of ls
failed-streams t ls = mapped-streams Failed t (λ s. s) (record { at = λ own. same-if (own.number == t) own }) ls ∙ map-same (streams_of ls)

close-in : (b : Bool) (own : OwnStream) (ss : List OwnStream)
    → cons_option (if b then None else Some own) ss ≡ cond (not b) (own ∷ ss) ss
close-in true own ss = refl
close-in false own ss = refl

close-one : (t : ℕ) (s : LinkStream) (ss : List OwnStream)
    → cons_option (link_own_after Close t s) (without_stream t ss) ≡ without_stream t (cons_option (own_stream_of s) ss)
close-one t (Offered host port) ss = refl
close-one t Awaited ss = refl
close-one t (Made own) ss = close-in (own.number == t) own (without_stream t ss)
close-one t Gone ss = refl

pub closed-streams : (t : ℕ) (ls : List Link) → streams_of (map (link_after Close t) ls) ≡ without_stream t (streams_of ls)
closed-streams t [] = refl
closed-streams t (l ∷ ls) =
    ap (λ o. cons_option o (streams_of (map (link_after Close t) ls))) (own-after Close t l)
    ∙ ap (λ ss. cons_option (link_own_after Close t l.stream) ss) (closed-streams t ls)
    ∙ close-one t l.stream (streams_of ls)

-- ---- distinct numbers

one-map : (f : OwnStream → OwnStream) → ((s : OwnStream) → (f s).number ≡ s.number) → (t : ℕ) (ss : List OwnStream)
    → is_one t (map f ss) ≡ is_one t ss
one-map f same t [] = refl
one-map f same t (s ∷ ss) = ap (λ k. (k == t) || is_one t (map f ss)) (same s) ∙ ap (λ b. (s.number == t) || b) (one-map f same t ss)

pub distinct-map : (f : OwnStream → OwnStream) → ((s : OwnStream) → (f s).number ≡ s.number) → (ss : List OwnStream)
    → are_distinct (map f ss) ≡ are_distinct ss
distinct-map f same [] = refl
distinct-map f same (s ∷ ss) =
    ap (λ k. not (is_one k (map f ss)) && are_distinct (map f ss)) (same s)
    ∙ ap (λ b. not b && are_distinct (map f ss)) (one-map f same s.number ss)
    ∙ ap (λ b. not (is_one s.number ss) && b) (distinct-map f same ss)

filtered-one : (b : Bool) (s : OwnStream) (t : ℕ) (ss : List OwnStream) → (s.number == t) ≡ false → is_one t ss ≡ false
    → is_one t (cond b (s ∷ ss) ss) ≡ false
filtered-one true s t ss e n = or_from (s.number == t) (is_one t ss) e n
filtered-one false s t ss e n = n

filtered-distinct : (b : Bool) (s : OwnStream) (ss : List OwnStream) → is_one s.number ss ≡ false → are_distinct ss ≡ true
    → are_distinct (cond b (s ∷ ss) ss) ≡ true
filtered-distinct true s ss e d = and_from _ _ (not_from_false (is_one s.number ss) e) d
filtered-distinct false s ss e d = d

one-filter : (p : OwnStream → Bool) (t : ℕ) (ss : List OwnStream) → is_one t ss ≡ false → is_one t (filter p ss) ≡ false
one-filter p t [] e = refl
one-filter p t (s ∷ ss) e =
    let both = or_parts (s.number == t) (is_one t ss) e in
    filtered-one (p s) s t (filter p ss) both.0 (one-filter p t ss both.1)

pub distinct-filter : (p : OwnStream → Bool) (ss : List OwnStream) → are_distinct ss ≡ true → are_distinct (filter p ss) ≡ true
distinct-filter p [] e = refl
distinct-filter p (s ∷ ss) e =
    let both = and_parts (not (is_one s.number ss)) (are_distinct ss) e in
    filtered-distinct (p s) s (filter p ss) (one-filter p s.number ss (not-true (is_one s.number ss) both.0))
    (distinct-filter p ss both.1)

swapped : (m n : ℕ) → (m == n) ≡ false → (n == m) ≡ false
swapped m n e = ne_eqb n m (λ same. eqb-false m n e (sym same))

one-more : (t : ℕ) (ss : List OwnStream) (own : OwnStream) → is_one t ss ≡ false → (own.number == t) ≡ false
    → is_one t (ss ++ own ∷ []) ≡ false
one-more t [] own e n = or_from (own.number == t) false n refl
one-more t (s ∷ ss) own e n =
    let both = or_parts (s.number == t) (is_one t ss) e in
    or_from (s.number == t) _ both.0 (one-more t ss own both.1 n)

pub distinct-more : (ss : List OwnStream) (own : OwnStream) → are_distinct ss ≡ true → is_one own.number ss ≡ false
    → are_distinct (ss ++ own ∷ []) ≡ true
distinct-more [] own e n = refl
distinct-more (s ∷ ss) own e n =
    let both = and_parts (not (is_one s.number ss)) (are_distinct ss) e in
    let others = or_parts (s.number == own.number) (is_one own.number ss) n in
    and_from _ _ (not_from_false _ (one-more s.number ss own (not-true (is_one s.number ss) both.0) (swapped s.number own.number others.0)))
    (distinct-more ss own both.1 others.1)

-- ---- tests of the streams

one-in : (s : LinkStream) (t : ℕ) (ss : List OwnStream) → is_one t (cons_option (own_stream_of s) ss) ≡ (numbered t s || is_one t ss)
one-in (Offered host port) t ss = refl
one-in Awaited t ss = refl
one-in (Made own) t ss = refl
one-in Gone t ss = refl

pub one_of_links : (t : ℕ) (ls : List Link) → list_any (has_number t) ls ≡ is_one t (streams_of ls)
one_of_links t [] = refl
one_of_links t (l ∷ ls) = ap (λ b. numbered t l.stream || b) (one_of_links t ls) ∙ sym (one-in l.stream t (streams_of ls))

finished-in : (s : LinkStream) (t : ℕ) (ss : List OwnStream) → is_finished t (cons_option (own_stream_of s) ss) ≡ (is_stream_finished t s || is_finished t ss)
finished-in (Offered host port) t ss = refl
finished-in Awaited t ss = refl
finished-in (Made own) t ss = refl
finished-in Gone t ss = refl

pub finished_of_links : (t : ℕ) (ls : List Link) → list_any (λ l. is_stream_finished t l.stream) ls ≡ is_finished t (streams_of ls)
finished_of_links t [] = refl
finished_of_links t (l ∷ ls) = ap (λ b. is_stream_finished t l.stream || b) (finished_of_links t ls) ∙ sym (finished-in l.stream t (streams_of ls))
