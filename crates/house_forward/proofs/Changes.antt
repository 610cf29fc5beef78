-- What becomes of the relays as one of them changes, comes or goes.
use Rattle.std.proofs.Common.{◌≡◌, ◌∙◌, refl, sym, ap, subst, ℕ, zero, suc, ◌+◌, ◌<◌, ◌≤◌, Bool, true, false, List, [], ◌∷◌, ◌++◌, length, get_or, set, take, drop, Option, Some, None, arith}
use Rattle.std.specs.Prelude.{◌&&◌, not, IfSome, is_some, find}
use Rattle.std.specs.List.{All, list_any, filter_map, cons_option, position, remove, sum_by}
use Rattle.std.proofs.lemmas.Bool.{or_left, or_right}
use Rattle.std.proofs.lemmas.List.Elements.{All-set, All-append, All-take, All-drop, All-push, filter_map-append}
use Rattle.std.proofs.lemmas.List.Sums.{sum_by-set, sum_by-remove, sum_by_push}
use Rattle.std.proofs.lemmas.List.Quantifiers.{position-Some}
use Rattle.mux_outside.specs.OwnStreams.{is_one}
use Rattle.mux_outside.specs.declared.own_streams.OwnStream.{OwnStream}
use Rattle.mux_outside.specs.declared.piece.TheConstants.{LONGEST_PIECE}
use Rattle.house_relay.specs.declared.relay.Relay.{Relay}
use Rattle.house_forward.specs.Due.{stream_due, link_due, count_if, turns}
use Rattle.house_forward.specs.Links.{own_stream_of, streams_of, are_distinct, is_left, is_without, is_offered, is_awaited, offers, awaits_stream, is_taken, made_stream, made_streams}
use Rattle.house_forward.specs.declared.link.Link.{Link}
use Rattle.house_forward.specs.declared.link.LinkStream.{LinkStream}
use Rattle.house_forward.specs.declared.link.LinkStream.TheVariants.{Offered, Awaited, Made, Gone}
use Rattle.mux_outside.specs.House.{gives_none}
use Rattle.house_forward.proofs.Lists.{kept-set, kept-remove, one-passes, found-first}
use Rattle.house_forward.proofs.Streams.{distinct-more}

abbrev Few : List Link → Type 0
Few ls = All (λ l. length l.relay.held.waiting ≤ LONGEST_PIECE) ls

-- the same streams, and no more held than may be
pub record Keeps (old new : List Link) : Type 0 where
  pub few : All (λ l. length l.relay.held.waiting ≤ LONGEST_PIECE) new
  pub distinct : are_distinct (streams_of new) ≡ true
  pub streams : streams_of new ≡ streams_of old

pub changes : (ls : List Link) (i : ℕ) (y d : Link) → i < length ls → Few ls → are_distinct (streams_of ls) ≡ true
    → length y.relay.held.waiting ≤ LONGEST_PIECE → own_stream_of y.stream ≡ own_stream_of (get_or ls i d).stream → Keeps ls (set ls i y)
changes ls i y d l few distinct fits same =
    let streams = kept-set (λ (x : Link). own_stream_of x.stream) ls i y d l same in
    record {
      few = All-set (λ (x : Link). length x.relay.held.waiting ≤ LONGEST_PIECE) ls i y fits few;
      distinct = ap are_distinct streams ∙ distinct;
      streams = streams;
    }

-- the one at the first place that passes a test holds no more than may be held
pub fits-at : (p : Link → Bool) (ls : List Link) (i : ℕ) (x : Link) → position p ls ≡ Some i → x ≡ get_or ls i x → Few ls
    → length x.relay.held.waiting ≤ LONGEST_PIECE
fits-at p ls i x e at few =
    let first = position-Some p ls i x e in
    subst (λ (z : Link). length z.relay.held.waiting ≤ LONGEST_PIECE) (sym at) (few i x first.0)

-- it changes, and not its stream
pub changes-at : (p : Link → Bool) (ls : List Link) (i : ℕ) (x y : Link) → position p ls ≡ Some i → x ≡ get_or ls i x → Few ls
    → are_distinct (streams_of ls) ≡ true → length y.relay.held.waiting ≤ LONGEST_PIECE → y.stream ≡ x.stream → Keeps ls (set ls i y)
changes-at p ls i x y e at few distinct fits same =
    let first = position-Some p ls i x e in
    changes ls i y x first.0 few distinct fits (ap own_stream_of same ∙ ap (λ (z : Link). own_stream_of z.stream) at)

few-remove : (ls : List Link) (i : ℕ) → Few ls → Few (remove ls i)
few-remove ls i few = All-append (λ (x : Link). length x.relay.held.waiting ≤ LONGEST_PIECE) (take i ls) (drop (suc i) ls)
    (All-take (λ (x : Link). length x.relay.held.waiting ≤ LONGEST_PIECE) i ls few)
    (All-drop (λ (x : Link). length x.relay.held.waiting ≤ LONGEST_PIECE) (suc i) ls few)

removes : (ls : List Link) (i : ℕ) (d : Link) → i < length ls → Few ls → are_distinct (streams_of ls) ≡ true
    → own_stream_of (get_or ls i d).stream ≡ None → Keeps ls (remove ls i)
removes ls i d l few distinct none =
    let streams = kept-remove (λ (x : Link). own_stream_of x.stream) ls i d l none in
    record {
      few = few-remove ls i few;
      distinct = ap are_distinct streams ∙ distinct;
      streams = streams;
    }

-- ---- nothing is left of one

left-none : (s : LinkStream) (b : Bool) → (is_without s && b) ≡ true → own_stream_of s ≡ None
left-none (Offered host port) b e = cc
left-none Awaited b e = cc
left-none (Made own) b e = cc
left-none Gone b e = refl

left-due : (s : LinkStream) (r : Relay) (b : Bool) → (is_without s && b) ≡ true → stream_due s r ≡ 0
left-due (Offered host port) r b e = cc
left-due Awaited r b e = cc
left-due (Made own) r b e = cc
left-due Gone r b e = refl

pub swept : (ls : List Link) (i : ℕ) (d : Link) → position is_left ls ≡ Some i → Few ls → are_distinct (streams_of ls) ≡ true
    → Keeps ls (remove ls i)
swept ls i d e few distinct =
    let at = position-Some is_left ls i d e in
    removes ls i d at.0 few distinct (left-none (get_or ls i d).stream _ at.1)

pub swept-due : (ls : List Link) (i : ℕ) (d : Link) → position is_left ls ≡ Some i
    → sum_by link_due (remove ls i) ≡ sum_by link_due ls
swept-due ls i d e =
    let at = position-Some is_left ls i d e in
    let one = sum_by-remove link_due ls i d at.0 in
    let two = left-due (get_or ls i d).stream (get_or ls i d).relay _ at.1 in
    omega (arith, one, two)

-- ---- a socket is ordered

offers-none : (s : LinkStream) → offers s ≡ true → own_stream_of s ≡ None
offers-none (Offered host port) e = refl
offers-none Awaited e = cc
offers-none (Made own) e = cc
offers-none Gone e = cc

offers-due : (s : LinkStream) (r : Relay) → offers s ≡ true → stream_due s r ≡ 4
offers-due (Offered host port) r e = refl
offers-due Awaited r e = cc
offers-due (Made own) r e = cc
offers-due Gone r e = cc

set-passes : (p : Link → Bool) (ls : List Link) (i : ℕ) (y : Link) → i < length ls → p y ≡ true → list_any p (set ls i y) ≡ true
set-passes p [] i y l e = absurd (omega arith)
set-passes p (x ∷ ls) zero y l e = or_left (p y) (list_any p ls) e
set-passes p (x ∷ ls) (suc i) y l e = or_right (p x) _ (set-passes p ls i y (omega arith) e)

-- one that is offered is ordered
pub record Orders (old new : List Link) : Type 0 where
  pub keeps : Keeps old new
  pub due : sum_by link_due new ≡ sum_by link_due old
  pub awaited : list_any is_awaited new ≡ true

pub ordered : (ls : List Link) (i : ℕ) (x y : Link) → position is_offered ls ≡ Some i → x ≡ get_or ls i x → Few ls
    → are_distinct (streams_of ls) ≡ true → y ≡ record x { stream = Awaited } → Orders ls (set ls i y)
ordered ls i x y e at few distinct is =
    let first = position-Some is_offered ls i x e in
    let offered : offers x.stream ≡ true = subst (λ (z : Link). offers z.stream ≡ true) (sym at) first.1 in
    let fits : length x.relay.held.waiting ≤ LONGEST_PIECE = subst (λ (z : Link). length z.relay.held.waiting ≤ LONGEST_PIECE) (sym at) (few i x first.0) in
    let none : own_stream_of (get_or ls i x).stream ≡ None = offers-none (get_or ls i x).stream first.1 in
    rw is (record {
      keeps = changes ls i (record x { stream = Awaited }) x first.0 few distinct fits (sym none);
      due =
          let one = sum_by-set link_due ls i (record x { stream = Awaited }) x first.0 in
          let two = offers-due (get_or ls i x).stream (get_or ls i x).relay first.1 in
          omega (arith, one, two);
      awaited = set-passes is_awaited ls i (record x { stream = Awaited }) first.0 refl;
    })

-- ---- a stream is made

awaits-none : (s : LinkStream) → awaits_stream s ≡ true → own_stream_of s ≡ None
awaits-none (Offered host port) e = cc
awaits-none Awaited e = refl
awaits-none (Made own) e = cc
awaits-none Gone e = cc

awaits-due : (s : LinkStream) (r : Relay) → awaits_stream s ≡ true → stream_due s r ≡ 4
awaits-due (Offered host port) r e = cc
awaits-due Awaited r e = refl
awaits-due (Made own) r e = cc
awaits-due Gone r e = cc

one-most : (b : Bool) → count_if b ≤ 1
one-most true = omega arith
one-most false = omega arith

made-due : (o : Option ℕ) (r : Relay) → stream_due (made_stream o) r ≤ 3
made-due None r = omega arith
made-due (Some t) r = let one = one-most (turns r (record { number = t; paused = false; finished = false; ended = false })) in omega (arith, one)

made-last : (o : Option ℕ) → cons_option (own_stream_of (made_stream o)) [] ≡ made_streams o
made-last None = refl
made-last (Some t) = refl

nil-last : (ss : List OwnStream) → ss ++ [] ≡ ss
nil-last [] = refl
nil-last (s ∷ ss) = ap (λ zs. s ∷ zs) (nil-last ss)

made-distinct : (o : Option ℕ) (ss : List OwnStream) → are_distinct ss ≡ true → IfSome o (λ t. is_one t ss ≡ false)
    → are_distinct (ss ++ made_streams o) ≡ true
made-distinct None ss d free = ap are_distinct (nil-last ss) ∙ d
made-distinct (Some t) ss d free = distinct-more ss (record { number = t; paused = false; finished = false; ended = false }) d free

pub record Makes (o : Option ℕ) (old new : List Link) : Type 0 where
  pub few : All (λ l. length l.relay.held.waiting ≤ LONGEST_PIECE) new
  pub distinct : are_distinct (streams_of new) ≡ true
  pub streams : streams_of new ≡ streams_of old ++ made_streams o
  pub due : sum_by link_due new + 1 ≤ sum_by link_due old

pub made : (ls : List Link) (i : ℕ) (x y : Link) (o : Option ℕ) → position is_awaited ls ≡ Some i → x ≡ get_or ls i x → Few ls
    → are_distinct (streams_of ls) ≡ true → IfSome o (λ t. is_one t (streams_of ls) ≡ false)
    → y.stream ≡ made_stream o → y.relay.held ≡ x.relay.held → Makes o ls (remove ls i ++ y ∷ [])
made ls i x y o e at few distinct free is held =
    let first = position-Some is_awaited ls i x e in
    let fits : length y.relay.held.waiting ≤ LONGEST_PIECE = rw held (subst (λ (z : Link). length z.relay.held.waiting ≤ LONGEST_PIECE) (sym at) (few i x first.0)) in
    let none = awaits-none (get_or ls i x).stream first.1 in
    let gone = removes ls i x first.0 few distinct none in
    let last : filter_map (λ (l : Link). own_stream_of l.stream) (y ∷ []) ≡ made_streams o = ap (λ s. cons_option (own_stream_of s) []) is ∙ made-last o in
    let streams = filter_map-append (λ (l : Link). own_stream_of l.stream) (remove ls i) (y ∷ [])
    ∙ ap (λ ss. ss ++ filter_map (λ (l : Link). own_stream_of l.stream) (y ∷ [])) gone.streams ∙ ap (λ ss. streams_of ls ++ ss) last in
    record {
      few = All-push (λ (l : Link). length l.relay.held.waiting ≤ LONGEST_PIECE) (remove ls i) y gone.few fits;
      distinct = ap are_distinct streams ∙ made-distinct o (streams_of ls) distinct free;
      streams = streams;
      due =
          let one = sum_by-remove link_due ls i x first.0 in
          let two = awaits-due (get_or ls i x).stream (get_or ls i x).relay first.1 in
          let three = sum_by_push link_due (remove ls i) y in
          let four : link_due y ≤ 3 = subst (λ (s : LinkStream). stream_due s y.relay ≤ 3) (sym is) (made-due o y.relay) in
          omega (arith, one, two, three, four);
    }

-- ---- one more comes

taken-distinct : (s : LinkStream) (ss : List OwnStream) → are_distinct ss ≡ true → is_taken s ss ≡ false
    → are_distinct (ss ++ cons_option (own_stream_of s) []) ≡ true
taken-distinct (Offered host port) ss d free = ap are_distinct (nil-last ss) ∙ d
taken-distinct Awaited ss d free = ap are_distinct (nil-last ss) ∙ d
taken-distinct (Made own) ss d free = distinct-more ss own d free
taken-distinct Gone ss d free = ap are_distinct (nil-last ss) ∙ d

pub more_distinct : (ls : List Link) (y : Link) → are_distinct (streams_of ls) ≡ true → is_taken y.stream (streams_of ls) ≡ false
    → are_distinct (streams_of (ls ++ y ∷ [])) ≡ true
more_distinct ls y d free = ap are_distinct (filter_map-append (λ (l : Link). own_stream_of l.stream) ls (y ∷ []))
    ∙ taken-distinct y.stream (streams_of ls) d free

-- ---- the first that passes a test

pub passes-at : (p : Link → Bool) (ls : List Link) (i : ℕ) (x : Link) → position p ls ≡ Some i → x ≡ get_or ls i x → p x ≡ true
passes-at p ls i x e at = subst (λ (z : Link). p z ≡ true) (sym at) (position-Some p ls i x e).1

-- it is found
pub first-is : (p : Link → Bool) (ls : List Link) (i : ℕ) (x : Link) → position p ls ≡ Some i → x ≡ get_or ls i x → find p ls ≡ Some x
first-is p ls i x e at =
    let first = position-Some p ls i x e in
    found-first p ls i x first.0 first.1 first.2 ∙ ap (λ (z : Link). Some z) (sym at)

pub one-at : (p : Link → Bool) (ls : List Link) (i : ℕ) (d : Link) → position p ls ≡ Some i → list_any p ls ≡ true
one-at p ls i d e = let first = position-Some p ls i d e in one-passes p ls i d first.0 first.1

pub gives-one : {X : Type 0} (o : Option X) (b : Bool) → is_some o ≡ true → b ≡ true → gives_none o ≡ not b
gives-one None b e f = cc
gives-one (Some x) b e f = rw f refl

pub if-some : {X : Type 0} (o : Option X) (P : Type 0) → P → IfSome o (λ x. P)
if-some None P h = tt
if-some (Some x) P h = h

pub one-there : (p : Link → Bool) (ls : List Link) (i : ℕ) → position p ls ≡ Some i → list_any p ls ≡ true
one-there p [] i e = cc
one-there p (l ∷ ls) i e = one-at p (l ∷ ls) i l e

pub offered_more : (ls : List Link) (l : Link) → own_stream_of l.stream ≡ None → streams_of (ls ++ l ∷ []) ≡ streams_of ls
offered_more ls l e = filter_map-append (λ (x : Link). own_stream_of x.stream) ls (l ∷ [])
    ∙ ap (λ o. streams_of ls ++ cons_option o []) e ∙ nil-last (streams_of ls)

pub streams_more : (ls : List Link) (l : Link) → streams_of (ls ++ l ∷ []) ≡ streams_of ls ++ cons_option (own_stream_of l.stream) []
streams_more ls l = filter_map-append (λ (x : Link). own_stream_of x.stream) ls (l ∷ [])
