-- What is known of a forwarder once its order was carried out is what the wire has seen of it.
use Rattle.std.proofs.Common.{◌≡◌, ◌≢◌, ◌≤◌, ◌<◌, ℕ, Bool, true, false, not, ◌||◌, List, [], ◌∷◌, ◌++◌, map, Option, Some, None, refl, sym, ap, ◌∙◌, subst, inl, inr, ◌⊎◌, cond, arith}
use Rattle.std.specs.Prelude.{◌==◌, OnOk, Result, Ok, Err}
use Rattle.std.proofs.lemmas.Bool.Decides.{eqb_tells}
use Rattle.std.proofs.lemmas.List.{map-append}
use Rattle.std.proofs.lemmas.List.Folds.{list_any-append}
use Rattle.mux_outside.specs.House.{Known, known_after_order}
use Rattle.mux_outside.specs.OwnStreams.{finish_one, is_one, is_own, new_stream, numbers_of, pause_one, without_stream}
use Rattle.mux_outside.specs.Seen.{Seen, seen_after_note}
use Rattle.mux_outside.specs.declared.house_mark.HouseMark.{HouseMark}
use Rattle.mux_outside.specs.Streams.{among, without}
use Rattle.mux_outside.specs.declared.order.Order.{Order}
use Rattle.mux_outside.specs.declared.order.Order.TheVariants.{Listen, Connect, Unlisten, Pause, Resume, Finish, Close}
use Rattle.mux_outside.specs.declared.own_streams.OwnStream.{OwnStream}
use Rattle.mux_engine.specs.Orders.{HasOrdered, OrderMadeBy, known_carried, own_carried, seen_carried}
use Rattle.mux_engine.specs.Sides.{Housed}
use Rattle.mux_engine.proofs.Closed.{was-among}
use Rattle.mux_engine.proofs.Lists.{among-last, among-other-last, or-last, test-other, test-same, true-false, without-other}
use Rattle.mux_engine.proofs.Owns.{less-numbers, same-numbers}

-- ---- lists of streams

one-last : (t n : ℕ) (own : List OwnStream) → is_one t (own ++ new_stream n ∷ []) ≡ (is_one t own || ((n == t) || false))
one-last t n own = list_any-append (λ (s : OwnStream). s.number == t) own (new_stream n ∷ [])

either-one : (t n : ℕ) (own : List OwnStream) → is_one t (own ++ new_stream n ∷ []) ≡ true → (is_one t own ≡ true) ⊎ (n ≡ t)
either-one t n own h = split (is_one t own) refl (eqb_tells n t)
  where
    split : (b : Bool) → is_one t own ≡ b → (((n == t) ≡ true) × (n ≡ t)) ⊎ (((n == t) ≡ false) × (n ≢ t)) → (is_one t own ≡ true) ⊎ (n ≡ t)
    split true e q = inl e
    split false e (inl q) = inr q.1
    split false e (inr q) = true-false (sym (sym (one-last t n own) ∙ h) ∙ (ap (λ b. b || ((n == t) || false)) e ∙ ap (λ b. b || false) q.0))

one-more : (t n : ℕ) (own : List OwnStream) → is_one t own ≡ true → is_one t (own ++ new_stream n ∷ []) ≡ true
one-more t n own e = one-last t n own ∙ ap (λ b. b || ((n == t) || false)) e

-- a change that keeps the numbers
same-one : (f : OwnStream → OwnStream) → ((s : OwnStream) → (f s).number ≡ s.number) → (t : ℕ) (own : List OwnStream) → is_one t (map f own) ≡ is_one t own
same-one f h t [] = refl
same-one f h t (s ∷ own) = ap (λ n. (n == t) || is_one t (map f own)) (h s) ∙ ap (λ b. (s.number == t) || b) (same-one f h t own)

pause-number : (b : Bool) (t : ℕ) (s : OwnStream) → (pause_one b t s).number ≡ s.number
pause-number b t s = by_test (s.number == t)
  where
    by_test : (c : Bool) → (cond c (record s { paused = b }) s).number ≡ s.number
    by_test true = refl
    by_test false = refl

finish-number : (t : ℕ) (s : OwnStream) → (finish_one t s).number ≡ s.number
finish-number t s = by_test (s.number == t)
  where
    by_test : (c : Bool) → (cond c (record s { finished = true }) s).number ≡ s.number
    by_test true = refl
    by_test false = refl

one-less : (k t : ℕ) (own : List OwnStream) → is_one t (without_stream k own) ≡ true → (is_one t own ≡ true) × (k ≢ t)
one-less k t [] h = true-false (sym h)
one-less k t (s ∷ own) h = by_test (one-less k t own) (eqb_tells s.number k) h
  where
    later : (is_one t own ≡ true) × (k ≢ t) → (((s.number == t) || is_one t own) ≡ true) × (k ≢ t)
    later p = (ap (λ b. (s.number == t) || b) p.0 ∙ or-true' (s.number == t), p.1)
      where
        or-true' : (b : Bool) → (b || true) ≡ true
        or-true' true = refl
        or-true' false = refl

    head : (is_one t (without_stream k own) ≡ true → (is_one t own ≡ true) × (k ≢ t)) → s.number ≢ k → (b : Bool) → (s.number == t) ≡ b → (b || is_one t (without_stream k own)) ≡ true → (((s.number == t) || is_one t own) ≡ true) × (k ≢ t)
    head ih ne true e g = (ap (λ b. b || is_one t own) e, λ q. true-false (sym e ∙ test-other s.number t (λ r. ne (r ∙ sym q))))
    head ih ne false e g = later (ih g)

    by_test : (is_one t (without_stream k own) ≡ true → (is_one t own ≡ true) × (k ≢ t)) → (((s.number == k) ≡ true) × (s.number ≡ k)) ⊎ (((s.number == k) ≡ false) × (s.number ≢ k)) → is_one t (cond (not (s.number == k)) (s ∷ without_stream k own) (without_stream k own)) ≡ true → (((s.number == t) || is_one t own) ≡ true) × (k ≢ t)
    by_test ih (inl q) g = later (ih (sym (ap (λ b. is_one t (cond (not b) (s ∷ without_stream k own) (without_stream k own))) q.0) ∙ g))
    by_test ih (inr q) g = head ih q.1 (s.number == t) refl (sym (ap (λ b. is_one t (cond (not b) (s ∷ without_stream k own) (without_stream k own))) q.0) ∙ g)

less-one : (k t : ℕ) (own : List OwnStream) → is_one t own ≡ true → k ≢ t → is_one t (without_stream k own) ≡ true
less-one k t [] h ne = h
less-one k t (s ∷ own) h ne = by_test (eqb_tells s.number k) (less-one k t own)
  where
    by_test : (((s.number == k) ≡ true) × (s.number ≡ k)) ⊎ (((s.number == k) ≡ false) × (s.number ≢ k)) → (is_one t own ≡ true → k ≢ t → is_one t (without_stream k own) ≡ true) → is_one t (cond (not (s.number == k)) (s ∷ without_stream k own) (without_stream k own)) ≡ true
    by_test (inl q) ih = ap (λ b. is_one t (cond (not b) (s ∷ without_stream k own) (without_stream k own))) q.0 ∙ ih (sym (ap (λ b. b || is_one t own) (test-other s.number t (λ r. ne (sym q.1 ∙ r)))) ∙ h) ne
    by_test (inr q) ih = ap (λ b. is_one t (cond (not b) (s ∷ without_stream k own) (without_stream k own))) q.0 ∙ by_head (s.number == t) h (λ g. ih g ne)
      where
        by_head : (b : Bool) → (b || is_one t own) ≡ true → (is_one t own ≡ true → is_one t (without_stream k own) ≡ true) → (b || is_one t (without_stream k own)) ≡ true
        by_head true g ih = refl
        by_head false g ih = ih g

-- ---- the places

changed : (f : OwnStream → OwnStream) → ((s : OwnStream) → (f s).number ≡ s.number) → (known : Known) (seen : Seen) (own : List ℕ) → Housed known seen own → Housed (record known { streams = map f known.streams }) (record seen { own = map f seen.own }) own
changed f h known seen own o = record {
  ordering = o.ordering;
  listeners = o.listeners;
  streams = ap (map f) o.streams;
  own_is = o.own_is ∙ sym (same-numbers f h seen.own);
  places = record {
    opened = λ t one. o.places.opened t (sym (same-one f h t seen.own) ∙ one);
    numbered = λ t one. o.places.numbered t (sym (same-one f h t seen.own) ∙ one);
    listed = λ t a is. same-one f h t seen.own ∙ o.places.listed t a is;
    given = λ t one. o.places.given t (sym (same-one f h t seen.own) ∙ one);
    listening = o.places.listening;
  };
}

pub order-housed : (order : Order) (number : Option ℕ) (known : Known) (seen : Seen) (own : List ℕ) → Housed known seen own → OrderMadeBy order number seen → Housed (known_carried order number (known_after_order (Some order) known)) (seen_carried order number seen) (own_carried order number own)
order-housed (Listen host port) (Some n) known seen own o new = record {
  ordering = refl;
  listeners = ap (λ l. l ++ n ∷ []) o.listeners;
  streams = o.streams;
  own_is = o.own_is;
  places = record {
    opened = o.places.opened;
    numbered = o.places.numbered;
    listed = o.places.listed;
    given = λ t one. let a : t ≤ seen.last_own = o.places.given t one in let b : seen.last_own < n = new.above in omega arith;
    listening = λ l a. elim (eqb_tells n l) [
      | inl q ↦ let e : n ≡ l = q.1 in omega arith
      | inr q ↦ let b : l ≤ seen.last_own = o.places.listening l (sym (among-other-last n l seen.listeners q.1) ∙ a) in let c : seen.last_own < n = new.above in omega arith
    ];
  };
}
order-housed (Listen host port) None known seen own o new = record { ordering = refl; listeners = o.listeners; streams = o.streams; own_is = o.own_is; places = o.places }
order-housed (Connect host port) (Some n) known seen own o new = record {
  ordering = refl;
  listeners = o.listeners;
  streams = ap (λ l. l ++ new_stream n ∷ []) o.streams;
  own_is = ap (λ l. l ++ n ∷ []) o.own_is ∙ sym (map-append (λ (s : OwnStream). s.number) seen.own (new_stream n ∷ []));
  places = record {
    opened = λ t one. elim (either-one t n seen.own one) [
      | inl old ↦ among-last n t seen.streams ∙ ap (λ b. b || ((n == t) || false)) (o.places.opened t old)
      | inr e ↦ among-last n t seen.streams ∙ (ap (λ b. among t seen.streams || (b || false)) (ap (λ i. i == t) e ∙ test-same t) ∙ or-last (among t seen.streams))
    ];
    numbered = λ t one. elim (either-one t n seen.own one) [ inl old ↦ o.places.numbered t old | inr e ↦ ap is_own (sym e) ∙ new.own ];
    listed = λ t a is. elim (eqb_tells n t) [
      | inl q ↦ one-last t n seen.own ∙ (ap (λ b. is_one t seen.own || (b || false)) q.0 ∙ or-last (is_one t seen.own))
      | inr q ↦ one-more t n seen.own (o.places.listed t (sym (among-other-last n t seen.streams q.1) ∙ a) is)
    ];
    given = λ t one. elim (either-one t n seen.own one) [
      | inl old ↦ let a : t ≤ seen.last_own = o.places.given t old in let b : seen.last_own < n = new.above in omega arith
      | inr e ↦ omega (arith, e)
    ];
    listening = λ l a. let b : l ≤ seen.last_own = o.places.listening l a in let c : seen.last_own < n = new.above in omega arith;
  };
}
order-housed (Connect host port) None known seen own o new = record { ordering = refl; listeners = o.listeners; streams = o.streams; own_is = o.own_is; places = o.places }
order-housed (Unlisten l) number known seen own o new = record {
  ordering = o.ordering;
  listeners = ap (without l) o.listeners;
  streams = o.streams;
  own_is = o.own_is;
  places = record { opened = o.places.opened; numbered = o.places.numbered; listed = o.places.listed; given = o.places.given; listening = λ j a. o.places.listening j (was-among l j seen.listeners a).0 };
}
order-housed (Pause k) number known seen own o new = changed (pause_one true k) (pause-number true k) known seen own o
order-housed (Resume k) number known seen own o new = changed (pause_one false k) (pause-number false k) known seen own o
order-housed (Finish k) number known seen own o new = changed (finish_one k) (finish-number k) known seen own o
order-housed (Close k) number known seen own o new = record {
  ordering = o.ordering;
  listeners = o.listeners;
  streams = ap (without_stream k) o.streams;
  own_is = ap (without k) o.own_is ∙ less-numbers k seen.own;
  places = record {
    opened = λ t one. let p = one-less k t seen.own one in without-other k t seen.streams p.1 ∙ o.places.opened t p.0;
    numbered = λ t one. o.places.numbered t (one-less k t seen.own one).0;
    listed = λ t a is. let w = was-among k t seen.streams a in less-one k t seen.own (o.places.listed t w.0 is) w.1;
    given = λ t one. o.places.given t (one-less k t seen.own one).0;
    listening = o.places.listening;
  };
}

-- and once it is noted, which changes nothing of it
pub housed-done : (order : Order) (number : Option ℕ) (known known' : Known) (seen seen0 seen' : Seen) (own own' : List ℕ) → HasOrdered order known seen own → OrderMadeBy order number seen → known' ≡ known_carried order number known → seen0 ≡ seen_carried order number seen → own' ≡ own_carried order number own
    → seen'.listeners ≡ seen0.listeners → seen'.own ≡ seen0.own → seen'.streams ≡ seen0.streams → seen'.last_own ≡ seen0.last_own → Housed known' seen' own'
housed-done order number known known' seen seen0 seen' own own' h made e f i ls os ss last =
    let a : Housed (known_carried order number (known_after_order (Some order) h.before)) (seen_carried order number seen) (own_carried order number own) = order-housed order number h.before seen own h.housed made in
    let b : Housed known' seen0 own' = subst (λ (k : Known). Housed k seen0 own') (sym (e ∙ ap (known_carried order number) h.known_is)) (subst (λ (x : Seen). Housed (known_carried order number (known_after_order (Some order) h.before)) x own') (sym f) (subst (λ (l : List ℕ). Housed (known_carried order number (known_after_order (Some order) h.before)) (seen_carried order number seen) l) (sym i) a)) in
    record {
      ordering = b.ordering;
      listeners = b.listeners ∙ sym ls;
      streams = b.streams ∙ sym os;
      own_is = b.own_is ∙ ap numbers_of (sym os);
      places = record {
        opened = λ t one. ap (among t) ss ∙ b.places.opened t (ap (is_one t) (sym os) ∙ one);
        numbered = λ t one. b.places.numbered t (ap (is_one t) (sym os) ∙ one);
        listed = λ t x is. ap (is_one t) os ∙ b.places.listed t (ap (among t) (sym ss) ∙ x) is;
        given = λ t one. subst (λ (n : ℕ). t ≤ n) (sym last) (b.places.given t (ap (is_one t) (sym os) ∙ one));
        listening = λ l x. subst (λ (n : ℕ). l ≤ n) (sym last) (b.places.listening l (ap (among l) (sym ls) ∙ x));
      };
    }

pub housed-noted : {E : Type 0} (r : Result (Unit {0}) E) (order : Order) (number : Option ℕ) (known known' : Known) (seen seen0 seen' : Seen) (own own' : List ℕ) (m : HouseMark) → HasOrdered order known seen own → OrderMadeBy order number seen → known' ≡ known_carried order number known → seen0 ≡ seen_carried order number seen → own' ≡ own_carried order number own
    → seen' ≡ seen_after_note r m seen0 → OnOk r (Housed known' seen' own')
housed-noted (Ok x) order number known known' seen seen0 seen' own own' m h made e f i after =
    housed-done order number known known' seen seen0 seen' own own' h made e f i (ap (λ (x : Seen). x.listeners) after) (ap (λ (x : Seen). x.own) after) (ap (λ (x : Seen). x.streams) after) (ap (λ (x : Seen). x.last_own) after)
housed-noted (Err x) order number known known' seen seen0 seen' own own' m h made e f i after = tt
