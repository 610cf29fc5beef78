-- How many requests of a client wait, as some have their outcome, and as one has its answer.
use Rattle.std.proofs.Common.{◌≡◌, refl, ap, ℕ, zero, suc, ◌≤◌, ◌==◌, Bool, true, false, cond, List, [], ◌∷◌, ◌++◌, length, map, filter, take, drop, Option, arith}
use Rattle.std.specs.Prelude.{if◌then◌else◌}
use Rattle.std.specs.List.{remove}
use Rattle.house_forward.specs.Asks.{how_many_of, settle_one, requests_settled, is_ask_about, ask_settled_at}
use Rattle.house_forward.specs.declared.asks.RequestOutcome.{RequestOutcome}
use Rattle.house_forward.specs.declared.asks.Waiting.{Waiting}
use Rattle.house_forward.specs.declared.rules.TheConstants.{MOST_ASKS}

-- ---- of any list

one-more : {X : Type 0} (b : Bool) (x : X) (xs : List X) → length xs ≤ length (cond b (x ∷ xs) xs)
one-more true x xs = omega arith
one-more false x xs = omega arith

both-more : {X : Type 0} (b : Bool) (x : X) (xs ys : List X) → length xs ≤ length ys → length (cond b (x ∷ xs) xs) ≤ length (cond b (x ∷ ys) ys)
both-more true x xs ys h = omega (arith, h)
both-more false x xs ys h = h

fewer : {X : Type 0} (p : X → Bool) (xs : List X) (i : ℕ) → length (filter p (take i xs ++ drop (suc i) xs)) ≤ length (filter p xs)
fewer p [] zero = omega arith
fewer p [] (suc i) = omega arith
fewer p (x ∷ xs) zero = one-more (p x) x (filter p xs)
fewer p (x ∷ xs) (suc i) = both-more (p x) x (filter p (take i xs ++ drop (suc i) xs)) (filter p xs) (fewer p xs i)

same-more : {X : Type 0} (b c : Bool) (x y : X) (xs ys : List X) → b ≡ c → length xs ≡ length ys → length (cond b (x ∷ xs) xs) ≡ length (cond c (y ∷ ys) ys)
same-more true true x y xs ys e h = ap suc h
same-more false false x y xs ys e h = h
same-more true false x y xs ys e h = absurd cc
same-more false true x y xs ys e h = absurd cc

mapped : {X : Type 0} (p : X → Bool) (f : X → X) → ((x : X) → p (f x) ≡ p x) → (xs : List X) → length (filter p (map f xs)) ≡ length (filter p xs)
mapped p f same [] = refl
mapped p f same (x ∷ xs) = same-more (p (f x)) (p x) (f x) x (filter p (map f xs)) (filter p xs) (same x) (mapped p f same xs)

-- ---- of requests

-- at most so many are of one client
abbrev pub AreFew : List Waiting → Type 0
AreFew ws = (client : ℕ) → how_many_of client ws ≤ MOST_ASKS

if-settled : (b : Bool) (o : Option (ℕ × RequestOutcome)) (w : Waiting) → (if b then record w { outcome = o } else w).client ≡ w.client
if-settled true o w = refl
if-settled false o w = refl

-- as some have an outcome
pub few-settled : (serial : ℕ) (opening : Bool) (at : ℕ) (outcome : RequestOutcome) (ws : List Waiting) → AreFew ws → AreFew (requests_settled serial opening at outcome ws)
few-settled serial opening at outcome ws few client =
    let same = mapped (λ (w : Waiting). w.client == client) (settle_one serial opening at outcome)
    (λ w. ap (λ (c : ℕ). c == client) (if-settled (is_ask_about serial opening w) (ask_settled_at at outcome w.outcome) w)) ws in
    let most = few client in
    omega (arith, same, most)

-- as one has its answer
pub few-removed : (ws : List Waiting) (i : ℕ) → AreFew ws → AreFew (remove ws i)
few-removed ws i few client =
    let less = fewer (λ (w : Waiting). w.client == client) ws i in
    let most = few client in
    omega (arith, less, most)
