-- Lists of clients: one that is there or not, and one less.
use Rattle.std.proofs.Common.{◌≡◌, ◌≢◌, ℕ, Bool, true, false, not, ◌||◌, List, [], ◌∷◌, refl, sym, ap, ◌∙◌, inl, inr, cond}
use Rattle.std.specs.Prelude.{◌==◌}
use Rattle.std.proofs.lemmas.Bool.{eqb-true}
use Rattle.std.proofs.lemmas.Bool.Decides.{eqb_tells}
use Rattle.mux_outside.specs.Streams.{among, without}
use Rattle.mux_history.specs.Rows.{Row}
use Rattle.mux_history.specs.Promises.{is_empty}
use Rattle.mux_peers.specs.State.{ClientState}
use Rattle.mux_peers.specs.Stands.{is_standing_lost}
use Rattle.mux_peers.specs.Among.{ArePeersApart, EachFits, InFits, is_present}
use Rattle.mux_state.specs.State.{served_in, waiting_clients, without_client}

-- the head of a list is there, or else one after it
abbrev pub either : Bool → Bool → Bool
either b rest = elim b as (λ _. Bool) [ true ↦ true | false ↦ rest ]

pub true_false : {A : Type 0} → true ≡ false → A
true_false e = absurd (cc)

pub test_other : (a b : ℕ) → a ≢ b → (a == b) ≡ false
test_other a b ne = elim (eqb_tells a b) [ inl p ↦ absurd (ne p.1) | inr p ↦ p.0 ]

-- a client of a number that is not there
pub not_here : (k : ℕ) (c : ClientState) (cs : List ClientState) → is_present (c ∷ cs) k ≡ false → (c.peer.number ≢ k) × (is_present cs k ≡ false)
not_here k c cs p = elim (eqb_tells c.peer.number k) [
  | inl q ↦ true_false (sym (ap (λ b. either b (is_present cs k)) q.0) ∙ p)
  | inr q ↦ (q.1, sym (ap (λ b. either b (is_present cs k)) q.0) ∙ p)
]

pub without_head : (k j : ℕ) (js : List ℕ) (b : Bool) → (j == k) ≡ b → without k (j ∷ js) ≡ cond (not b) (j ∷ without k js) (without k js)
without_head k j js b e = ap (λ t. cond (not t) (j ∷ without k js) (without k js)) e

-- ---- a client less

pub present_less : (k j : ℕ) (cs : List ClientState) → k ≢ j → is_present (without_client k cs) j ≡ is_present cs j
present_less k j [] ne = refl
present_less k j (c ∷ cs) ne = elim (eqb_tells c.peer.number k) [
  | inl q ↦ ap (λ b. is_present (cond (not b) (c ∷ without_client k cs) (without_client k cs)) j) q.0
      ∙ (present_less k j cs ne ∙ sym (ap (λ b. either b (is_present cs j)) (test_other c.peer.number j (λ e. ne (sym q.1 ∙ e)))))
  | inr q ↦ ap (λ b. is_present (cond (not b) (c ∷ without_client k cs) (without_client k cs)) j) q.0
      ∙ ap (either (c.peer.number == j)) (present_less k j cs ne)
]

pub gone_less : (k : ℕ) (cs : List ClientState) → is_present (without_client k cs) k ≡ false
gone_less k [] = refl
gone_less k (c ∷ cs) = elim (eqb_tells c.peer.number k) [
  | inl q ↦ ap (λ b. is_present (cond (not b) (c ∷ without_client k cs) (without_client k cs)) k) q.0 ∙ gone_less k cs
  | inr q ↦ ap (λ b. is_present (cond (not b) (c ∷ without_client k cs) (without_client k cs)) k) q.0
      ∙ (ap (λ b. either b (is_present (without_client k cs) k)) q.0 ∙ gone_less k cs)
]

still_gone : (k j : ℕ) (cs : List ClientState) → is_present cs j ≡ false → is_present (without_client k cs) j ≡ false
still_gone k j cs h = elim (eqb_tells k j) [
  | inl q ↦ ap (is_present (without_client k cs)) (sym q.1) ∙ gone_less k cs
  | inr q ↦ present_less k j cs q.1 ∙ h
]

pub apart_less : (k : ℕ) (cs : List ClientState) → ArePeersApart cs → ArePeersApart (without_client k cs)
apart_less k [] a = tt
apart_less k (c ∷ cs) a = by_test (not (c.peer.number == k)) (still_gone k c.peer.number cs a.0) (apart_less k cs a.1)
  where
    by_test : (b : Bool) → is_present (without_client k cs) c.peer.number ≡ false → ArePeersApart (without_client k cs) → ArePeersApart (cond b (c ∷ without_client k cs) (without_client k cs))
    by_test true p h = (p, h)
    by_test false p h = h

pub each_less : (rows : List Row) (k : ℕ) (cs : List ClientState) → EachFits rows cs → EachFits rows (without_client k cs)
each_less rows k [] each = tt
each_less rows k (c ∷ cs) each = by_test (not (c.peer.number == k)) (each_less rows k cs each.1)
  where
    by_test : (b : Bool) → EachFits rows (without_client k cs) → EachFits rows (cond b (c ∷ without_client k cs) (without_client k cs))
    by_test true h = (each.0, h)
    by_test false h = h

pub waiting_less : (k : ℕ) (cs : List ClientState) → without k (waiting_clients cs) ≡ waiting_clients (without_client k cs)
waiting_less k [] = refl
waiting_less k (c ∷ cs) = by_test (c.peer.number == k) refl (waiting_less k cs)
  where
    by_empty : (e : Bool) → (c.peer.number == k) ≡ false → without k (waiting_clients cs) ≡ waiting_clients (without_client k cs) → without k (cond e (waiting_clients cs) (c.peer.number ∷ waiting_clients cs)) ≡ cond e (waiting_clients (without_client k cs)) (c.peer.number ∷ waiting_clients (without_client k cs))
    by_empty true t ih = ih
    by_empty false t ih = without_head k c.peer.number (waiting_clients cs) false t ∙ ap (λ l. c.peer.number ∷ l) ih

    own_empty : (e : Bool) → (c.peer.number == k) ≡ true → without k (waiting_clients cs) ≡ waiting_clients (without_client k cs) → without k (cond e (waiting_clients cs) (c.peer.number ∷ waiting_clients cs)) ≡ waiting_clients (without_client k cs)
    own_empty true t ih = ih
    own_empty false t ih = without_head k c.peer.number (waiting_clients cs) true t ∙ ih

    by_test : (b : Bool) → (c.peer.number == k) ≡ b → without k (waiting_clients cs) ≡ waiting_clients (without_client k cs)
        → without k (cond (is_empty c.peer.queue) (waiting_clients cs) (c.peer.number ∷ waiting_clients cs)) ≡ waiting_clients (cond (not b) (c ∷ without_client k cs) (without_client k cs))
    by_test true t ih = own_empty (is_empty c.peer.queue) t ih
    by_test false t ih = by_empty (is_empty c.peer.queue) t ih

pub lost_less : (rows : List Row) (k : ℕ) (cs : List ClientState) → ((c : ClientState) → c.peer.number ≡ k → InFits rows c → is_standing_lost c.peer.standing ≡ true) → EachFits rows cs → served_in (without_client k cs) ≡ served_in cs
lost_less rows k [] h each = refl
lost_less rows k (c ∷ cs) h each = by_test (c.peer.number == k) refl (lost_less rows k cs h each.1)
  where
    by_test : (b : Bool) → (c.peer.number == k) ≡ b → served_in (without_client k cs) ≡ served_in cs → served_in (cond (not b) (c ∷ without_client k cs) (without_client k cs)) ≡ cond (is_standing_lost c.peer.standing) (served_in cs) (c.peer.number ∷ served_in cs)
    by_test true t ih = ih ∙ sym (ap (λ b. cond b (served_in cs) (c.peer.number ∷ served_in cs)) (h c (eqb-true c.peer.number k t) each.0))
    by_test false t ih = ap (λ s. cond (is_standing_lost c.peer.standing) s (c.peer.number ∷ s)) ih

-- ---- a number less

pub among-gone : (k : ℕ) (js : List ℕ) → among k (without k js) ≡ false
among-gone k [] = refl
among-gone k (j ∷ js) = elim (eqb_tells j k) [
  | inl q ↦ ap (among k) (without_head k j js true q.0) ∙ among-gone k js
  | inr q ↦ ap (among k) (without_head k j js false q.0) ∙ (ap (λ b. b || among k (without k js)) q.0 ∙ among-gone k js)
]

pub among-less : (k i : ℕ) (js : List ℕ) → k ≢ i → among i (without k js) ≡ among i js
among-less k i [] ne = refl
among-less k i (j ∷ js) ne = elim (eqb_tells j k) [
  | inl q ↦ ap (among i) (without_head k j js true q.0) ∙ (among-less k i js ne ∙ sym (ap (λ b. b || among i js) (test_other j i (λ e. ne (sym q.1 ∙ e)))))
  | inr q ↦ ap (among i) (without_head k j js false q.0) ∙ ap (λ b. (j == i) || b) (among-less k i js ne)
]

pub among-was : (k i : ℕ) (js : List ℕ) → among i (without k js) ≡ true → among i js ≡ true
among-was k i js h = elim (eqb_tells k i) [
  | inl q ↦ true_false (sym h ∙ (ap (λ j. among j (without k js)) (sym q.1) ∙ among-gone k js))
  | inr q ↦ sym (among-less k i js q.1) ∙ h
]
