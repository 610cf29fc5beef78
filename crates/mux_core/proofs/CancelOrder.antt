-- A cancel that wants a reply is sent: both lists change alike, and stay in order.
use Rattle.std.proofs.Common.{◌≡◌, ◌<◌, ℕ, List, [], ◌∷◌, true, false, Bool, refl, ◌∙◌, ap, sym, subst, Option, Some, arith}
use Rattle.std.specs.Prelude.{nat_lt}
use Rattle.std.specs.List.{AllByRecursion}
use Rattle.std.proofs.lemmas.Bool.Decides.{nat_tests}
use Rattle.ssh_grammar.specs.Messages.{Key}
use Rattle.mux_history.specs.Forwardings.{Forwarding}
use Rattle.mux_history.specs.Forwardings as history
use Rattle.forward_rules.specs.State.{Forward}
use Rattle.forward_rules.specs.Step.{change_first_forward, is_free_at}
use Rattle.forward_rules.specs.Stands.{AreForwardingsInOrder, AreForwardsListed, InOrder, InOrderWith}
use Rattle.mux_core.proofs.Pairs.{free-is, free-same}

-- what becomes of the one that is meant
abbrev pub ranked_at : ℕ → Forward → Forward
ranked_at r f = record f { cancel = Some r }

abbrev pub placed_at : ℕ → Forwarding → Forwarding
placed_at place g = record g { cancel = Some place }

-- the cancels of this client were sent before
abbrev pub Before : ℕ → ℕ → Forward → Type 0
Before k r f = f.client ≡ k → (q : ℕ) → f.cancel ≡ Some q → q < r

abbrev pub Earlier : ℕ → ℕ → Forwarding → Type 0
Earlier k place g = g.client ≡ k → (q : ℕ) → g.cancel ≡ Some q → q < place

-- ---- both lists by the test of their first

pub kept-at : (k : ℕ) (key : Key) (r : ℕ) (f : Forward) (fs : List Forward) (b : Bool) → is_free_at k key f ≡ b → change_first_forward (is_free_at k key) (ranked_at r) (f ∷ fs) ≡ elim b as (λ _. List Forward) [ true ↦ ranked_at r f ∷ fs | false ↦ f ∷ change_first_forward (is_free_at k key) (ranked_at r) fs ]
kept-at k key r f fs b h = ap (λ (c : Bool). elim c as (λ _. List Forward) [ true ↦ ranked_at r f ∷ fs | false ↦ f ∷ change_first_forward (is_free_at k key) (ranked_at r) fs ]) h

pub recorded-at : (k : ℕ) (key : Key) (place : ℕ) (g : Forwarding) (gs : List Forwarding) (b : Bool) → history.is_forwarding_free_at k key g ≡ b → history.change_first (history.is_forwarding_free_at k key) (placed_at place) (g ∷ gs) ≡ elim b as (λ _. List Forwarding) [ true ↦ placed_at place g ∷ gs | false ↦ g ∷ history.change_first (history.is_forwarding_free_at k key) (placed_at place) gs ]
recorded-at k key place g gs b h = ap (λ (c : Bool). elim c as (λ _. List Forwarding) [ true ↦ placed_at place g ∷ gs | false ↦ g ∷ history.change_first (history.is_forwarding_free_at k key) (placed_at place) gs ]) h

pub listed-changed : (k : ℕ) (key : Key) (r place : ℕ) (fs : List Forward) (gs : List Forwarding) → AreForwardsListed fs gs → AreForwardsListed (change_first_forward (is_free_at k key) (ranked_at r) fs) (history.change_first (history.is_forwarding_free_at k key) (placed_at place) gs)
listed-changed k key r place [] [] all = tt
listed-changed k key r place [] (g ∷ gs) all = absurd all
listed-changed k key r place (f ∷ fs) [] all = absurd all
listed-changed k key r place (f ∷ fs) (g ∷ gs) all = by_case (listed-changed k key r place fs gs all.1) (is_free_at k key f) refl
  where
    same : is_free_at k key f ≡ history.is_forwarding_free_at k key g
    same = free-same k key f g all.0

    by_case : AreForwardsListed (change_first_forward (is_free_at k key) (ranked_at r) fs) (history.change_first (history.is_forwarding_free_at k key) (placed_at place) gs) → (b : Bool) → is_free_at k key f ≡ b → AreForwardsListed (change_first_forward (is_free_at k key) (ranked_at r) (f ∷ fs)) (history.change_first (history.is_forwarding_free_at k key) (placed_at place) (g ∷ gs))
    by_case ih true h = subst (λ xs. AreForwardsListed xs (history.change_first (history.is_forwarding_free_at k key) (placed_at place) (g ∷ gs))) (sym (kept-at k key r f fs true h)) (subst (AreForwardsListed (ranked_at r f ∷ fs)) (sym (recorded-at k key place g gs true (sym same ∙ h)))
        (record { client = all.0.client; key = all.0.key; live = all.0.live; cancel = refl; on = all.0.on }, all.1))
    by_case ih false h = subst (λ xs. AreForwardsListed xs (history.change_first (history.is_forwarding_free_at k key) (placed_at place) (g ∷ gs))) (sym (kept-at k key r f fs false h)) (subst (AreForwardsListed (f ∷ change_first_forward (is_free_at k key) (ranked_at r) fs)) (sym (recorded-at k key place g gs false (sym same ∙ h)))
        (all.0, ih))

-- ---- the order

lt-no : (a b : ℕ) → b < a → nat_lt a b ≡ false
lt-no a b h = grind (arith, nat_tests)

lt-yes : (a b : ℕ) → a < b → nat_lt a b ≡ true
lt-yes a b h = grind (arith, nat_tests)

pub some-is : (a b : ℕ) → (let x : Option ℕ = Some a in x) ≡ Some b → a ≡ b
some-is a b h = cc

-- one that was sent before
order-later : (k r place : ℕ) (f : Forward) (g : Forwarding) (f' : Forward) (g' : Forwarding) → g.client ≡ k → f'.client ≡ g'.client → Before k r f' → Earlier k place g' → InOrder (ranked_at r f) (placed_at place g) f' g'
order-later k r place f g f' g' mine fits before earlier = λ a q a' q' same x y z w.
    let of : g'.client ≡ k = sym same ∙ mine in
    let lt : a' < r = before (fits ∙ of) a' z in
    let lt' : q' < place = earlier of q' w in
    let ra : r ≡ a = some-is r a x in
    let pq : place ≡ q = some-is place q y in
    let low : a' < a = subst (λ n. a' < n) ra lt in
    let low' : q' < q = subst (λ n. q' < n) pq lt' in
    (lt-no a a' low ∙ sym (lt-no q q' low'), lt-yes a' a low ∙ sym (lt-yes q' q low'))

order-sooner : (k r place : ℕ) (f : Forward) (g : Forwarding) (f' : Forward) (g' : Forwarding) → g'.client ≡ k → f.client ≡ g.client → Before k r f → Earlier k place g → InOrder f g (ranked_at r f') (placed_at place g')
order-sooner k r place f g f' g' mine fits before earlier = λ a q a' q' same x y z w.
    let of : g.client ≡ k = same ∙ mine in
    let lt : a < r = before (fits ∙ of) a x in
    let lt' : q < place = earlier of q y in
    let ra : r ≡ a' = some-is r a' z in
    let pq : place ≡ q' = some-is place q' w in
    let low : a < a' = subst (λ n. a < n) ra lt in
    let low' : q < q' = subst (λ n. q < n) pq lt' in
    (lt-yes a a' low ∙ sym (lt-yes q q' low'), lt-no a' a low ∙ sym (lt-no q' q low'))

order-later-all : (k r place : ℕ) (f : Forward) (g : Forwarding) → g.client ≡ k → (fs : List Forward) (gs : List Forwarding) → AreForwardsListed fs gs → AllByRecursion (Before k r) fs → AllByRecursion (Earlier k place) gs → InOrderWith (ranked_at r f) (placed_at place g) fs gs
order-later-all k r place f g mine [] gs listed bs es = tt
order-later-all k r place f g mine (f' ∷ fs) [] listed bs es = absurd listed
order-later-all k r place f g mine (f' ∷ fs) (g' ∷ gs) listed bs es = (order-later k r place f g f' g' mine listed.0.client bs.0 es.0, order-later-all k r place f g mine fs gs listed.1 bs.1 es.1)

order-with : (k : ℕ) (key : Key) (r place : ℕ) (f : Forward) (g : Forwarding) → f.client ≡ g.client → Before k r f → Earlier k place g → (fs : List Forward) (gs : List Forwarding) → AreForwardsListed fs gs → InOrderWith f g fs gs → InOrderWith f g (change_first_forward (is_free_at k key) (ranked_at r) fs) (history.change_first (history.is_forwarding_free_at k key) (placed_at place) gs)
order-with k key r place f g fits before earlier [] [] listed all = tt
order-with k key r place f g fits before earlier [] (g' ∷ gs) listed all = absurd listed
order-with k key r place f g fits before earlier (f' ∷ fs) [] listed all = absurd listed
order-with k key r place f g fits before earlier (f' ∷ fs) (g' ∷ gs) listed all = by_case (order-with k key r place f g fits before earlier fs gs listed.1 all.1) (is_free_at k key f') refl
  where
    same : is_free_at k key f' ≡ history.is_forwarding_free_at k key g'
    same = free-same k key f' g' listed.0

    by_case : InOrderWith f g (change_first_forward (is_free_at k key) (ranked_at r) fs) (history.change_first (history.is_forwarding_free_at k key) (placed_at place) gs) → (b : Bool) → is_free_at k key f' ≡ b → InOrderWith f g (change_first_forward (is_free_at k key) (ranked_at r) (f' ∷ fs)) (history.change_first (history.is_forwarding_free_at k key) (placed_at place) (g' ∷ gs))
    by_case ih true h = subst (λ xs. InOrderWith f g xs (history.change_first (history.is_forwarding_free_at k key) (placed_at place) (g' ∷ gs))) (sym (kept-at k key r f' fs true h)) (subst (InOrderWith f g (ranked_at r f' ∷ fs)) (sym (recorded-at k key place g' gs true (sym same ∙ h)))
        (order-sooner k r place f g f' g' (free-is k key g' (sym same ∙ h)).client fits before earlier, all.1))
    by_case ih false h = subst (λ xs. InOrderWith f g xs (history.change_first (history.is_forwarding_free_at k key) (placed_at place) (g' ∷ gs))) (sym (kept-at k key r f' fs false h)) (subst (InOrderWith f g (f' ∷ change_first_forward (is_free_at k key) (ranked_at r) fs)) (sym (recorded-at k key place g' gs false (sym same ∙ h)))
        (all.0, ih))

pub order-changed : (k : ℕ) (key : Key) (r place : ℕ) (fs : List Forward) (gs : List Forwarding) → AreForwardsListed fs gs → AllByRecursion (Before k r) fs → AllByRecursion (Earlier k place) gs → AreForwardingsInOrder fs gs → AreForwardingsInOrder (change_first_forward (is_free_at k key) (ranked_at r) fs) (history.change_first (history.is_forwarding_free_at k key) (placed_at place) gs)
order-changed k key r place [] [] listed bs es all = tt
order-changed k key r place [] (g ∷ gs) listed bs es all = absurd listed
order-changed k key r place (f ∷ fs) [] listed bs es all = absurd listed
order-changed k key r place (f ∷ fs) (g ∷ gs) listed bs es all = by_case (order-changed k key r place fs gs listed.1 bs.1 es.1 all.1) (is_free_at k key f) refl
  where
    same : is_free_at k key f ≡ history.is_forwarding_free_at k key g
    same = free-same k key f g listed.0

    by_case : AreForwardingsInOrder (change_first_forward (is_free_at k key) (ranked_at r) fs) (history.change_first (history.is_forwarding_free_at k key) (placed_at place) gs) → (b : Bool) → is_free_at k key f ≡ b → AreForwardingsInOrder (change_first_forward (is_free_at k key) (ranked_at r) (f ∷ fs)) (history.change_first (history.is_forwarding_free_at k key) (placed_at place) (g ∷ gs))
    by_case ih true h = subst (λ xs. AreForwardingsInOrder xs (history.change_first (history.is_forwarding_free_at k key) (placed_at place) (g ∷ gs))) (sym (kept-at k key r f fs true h)) (subst (AreForwardingsInOrder (ranked_at r f ∷ fs)) (sym (recorded-at k key place g gs true (sym same ∙ h)))
        (order-later-all k r place f g (free-is k key g (sym same ∙ h)).client fs gs listed.1 bs.1 es.1, all.1))
    by_case ih false h = subst (λ xs. AreForwardingsInOrder xs (history.change_first (history.is_forwarding_free_at k key) (placed_at place) (g ∷ gs))) (sym (kept-at k key r f fs false h)) (subst (AreForwardingsInOrder (f ∷ change_first_forward (is_free_at k key) (ranked_at r) fs)) (sym (recorded-at k key place g gs false (sym same ∙ h)))
        (order-with k key r place f g listed.0.client bs.0 es.0 fs gs listed.1 all.0, ih))
