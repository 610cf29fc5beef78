-- A client at its place among all.
use Rattle.std.proofs.Common.{◌≡◌, ◌<◌, ◌≤◌, ℕ, zero, suc, get_or, set, arith, Bool, true, false, List, [], ◌∷◌, length, refl, sym, ap, ◌∙◌, cond}
use Rattle.std.specs.Prelude.{◌==◌, MatchBool, Result, Ok, Err, IfOk, OnOk}
use Rattle.mux_peers.specs.State.{ClientState}
use Rattle.mux_peers.specs.Among.{ChangesOne, client_index, is_present, numbers}

pub set-changes : (k i : ℕ) (R : ClientState → ClientState → Type 0) (x y : ClientState) (cs : List ClientState) → i ≡ client_index k cs → i < length cs → R (get_or cs i x) y → ChangesOne k R cs (set cs i y)
set-changes k i R x y [] e lt r = absurd (omega arith)
set-changes k i R x y (c ∷ cs) e lt r = by_head (c.peer.number == k) refl i e lt r (λ j f l q. set-changes k j R x y cs f l q)
  where
    by_head : (b : Bool) → (c.peer.number == k) ≡ b → (i : ℕ) → i ≡ cond b 0 (suc (client_index k cs)) → i < suc (length cs) → R (get_or (c ∷ cs) i x) y
        → ((j : ℕ) → j ≡ client_index k cs → j < length cs → R (get_or cs j x) y → ChangesOne k R cs (set cs j y))
        → MatchBool b ((c' : ClientState) × (R c c' × (set (c ∷ cs) i y ≡ c' ∷ cs))) ((cs' : List ClientState) × (ChangesOne k R cs cs' × (set (c ∷ cs) i y ≡ c ∷ cs')))
    by_head true t zero e lt r ih = (y, (r, refl))
    by_head true t (suc j) e lt r ih = absurd (omega (arith, e))
    by_head false t zero e lt r ih = absurd (omega (arith, e))
    by_head false t (suc j) e lt r ih = (set cs j y, (ih j (omega (arith, e)) (omega arith) r, refl))

pub if-ok : {T E : Type 0} {P Q : T → Type 0} (r : Result T E) → ((x : T) → P x → Q x) → IfOk r P → IfOk r Q
if-ok (Ok x) f p = f x p
if-ok (Err e) f p = tt

pub on-ok : {T E P Q : Type 0} (r : Result T E) → (P → Q) → OnOk r P → OnOk r Q
on-ok (Ok x) f p = f p
on-ok (Err e) f p = tt

-- ---- whether it is here

pub placed-present : (k i : ℕ) (cs : List ClientState) → i ≡ client_index k cs → i < length cs → is_present cs k ≡ true
placed-present k i [] e lt = absurd (omega arith)
placed-present k i (c ∷ cs) e lt = by_head (c.peer.number == k) refl e (λ j f l. placed-present k j cs f l)
  where
    by_head : (b : Bool) → (c.peer.number == k) ≡ b → i ≡ cond b 0 (suc (client_index k cs)) → ((j : ℕ) → j ≡ client_index k cs → j < length cs → is_present cs k ≡ true) → (elim b as (λ _. Bool) [ true ↦ true | false ↦ is_present cs k ]) ≡ true
    by_head true t f ih = refl
    by_head false t f ih = ih (client_index k cs) refl (omega (arith, f, lt))

pub placed-absent : (k : ℕ) (cs : List ClientState) → length cs ≤ client_index k cs → is_present cs k ≡ false
placed-absent k [] le = refl
placed-absent k (c ∷ cs) le = by_head (c.peer.number == k) refl le (λ l. placed-absent k cs l)
  where
    by_head : (b : Bool) → (c.peer.number == k) ≡ b → suc (length cs) ≤ cond b 0 (suc (client_index k cs)) → (length cs ≤ client_index k cs → is_present cs k ≡ false) → (elim b as (λ _. Bool) [ true ↦ true | false ↦ is_present cs k ]) ≡ false
    by_head true t l ih = absurd (omega arith)
    by_head false t l ih = ih (omega arith)

-- ---- who is here

-- a client that keeps its number leaves who is here
pub present-set : (i : ℕ) (x y : ClientState) (cs : List ClientState) → i < length cs → y.peer.number ≡ (get_or cs i x).peer.number → (j : ℕ) → is_present (set cs i y) j ≡ is_present cs j
present-set i x y [] lt e j = absurd (omega arith)
present-set zero x y (c ∷ cs) lt e j = ap (λ n. elim (n == j) as (λ _. Bool) [ true ↦ true | false ↦ is_present cs j ]) e
present-set (suc i) x y (c ∷ cs) lt e j = ap (λ (b : Bool). elim (c.peer.number == j) as (λ _. Bool) [ true ↦ true | false ↦ b ]) (present-set i x y cs (omega arith) e j)

-- and their order
pub numbers-set : (i : ℕ) (x y : ClientState) (cs : List ClientState) → i < length cs → y.peer.number ≡ (get_or cs i x).peer.number → numbers (set cs i y) ≡ numbers cs
numbers-set i x y [] lt e = absurd (omega arith)
numbers-set zero x y (c ∷ cs) lt e = ap (λ n. n ∷ numbers cs) e
numbers-set (suc i) x y (c ∷ cs) lt e = ap (λ l. c.peer.number ∷ l) (numbers-set i x y cs (omega arith) e)

-- ---- one that is not here is none at its place

pub placed-here : {A : Type 0} (k i : ℕ) (cs : List ClientState) → i ≡ client_index k cs → i < length cs → is_present cs k ≡ false → A
placed-here k i cs e lt gone = absurd (let here : is_present cs k ≡ true = placed-present k i cs e lt in let d : false ≡ true = sym gone ∙ here in cc)
