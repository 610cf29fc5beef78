-- Forwardings one by one with those that are kept: what each test and change is on either side.
use Rattle.std.proofs.Common.{◌≡◌, ℕ, List, [], ◌∷◌, ◌++◌, true, false, Bool, refl, ◌∙◌, ap, sym, Option, Some, None}
use Rattle.std.specs.Prelude.{filter, find, ◌==◌, ◌&&◌, ◌||◌, not, is_some, is_none, unwrap_or}
use Rattle.ssh_grammar.specs.Messages.{Key}
use Rattle.mux_history.specs.Keys.{has_key, is_key}
use Rattle.mux_history.specs.Rows.{any_of}
use Rattle.mux_history.specs.Forwardings.{Forwarding, stopped}
use Rattle.mux_history.specs.Forwardings as history
use Rattle.mux_history.proofs.Bools.{same-number}
use Rattle.mux_history.proofs.SameKeys.{key-is}
use Rattle.mux_history.proofs.Finds.{filter-no, filter-yes, find-no, find-yes}
use Rattle.mux_history.proofs.Sends.{and-left, and-right}
use Rattle.forward_rules.specs.State.{Forward}
use Rattle.forward_rules.specs.Step.{is_free_at, some_free}
use Rattle.forward_rules.specs.Stands.{AreForwardsListed, ForwardingFits}

-- ---- booleans

pub or-found : (a b : Bool) → (a || b) ≡ true → (a ≡ false → b ≡ true)
or-found true b e n = absurd (cc)
or-found false b e n = e

pub none-of : (o : Option ℕ) → is_none o ≡ true → o ≡ None
none-of None h = refl
none-of (Some n) h = absurd (cc)

-- ---- what is found among those that are kept

pub find-any : {X : Type 0} (keep test : X → Bool) (xs : List X) → is_some (find test (filter keep xs)) ≡ any_of (λ x. keep x && test x) xs
find-any keep test [] = refl
find-any {X} keep test (x ∷ xs) = by_case (find-any keep test xs) (keep x) refl (test x) refl
  where
    head : (b : Bool) → (keep x && test x) ≡ b → any_of (λ y. keep y && test y) (x ∷ xs) ≡ (b || any_of (λ y. keep y && test y) xs)
    head b h = ap (λ c. c || any_of (λ y. keep y && test y) xs) h

    by_case : is_some (find test (filter keep xs)) ≡ any_of (λ y. keep y && test y) xs → (b : Bool) → keep x ≡ b → (t : Bool) → test x ≡ t → is_some (find test (filter keep (x ∷ xs))) ≡ any_of (λ y. keep y && test y) (x ∷ xs)
    by_case ih false k t h = ap (λ ys. is_some (find test ys)) (filter-no keep x xs k) ∙ (ih ∙ sym (head false (ap (λ b. b && test x) k)))
    by_case ih true k false h = ap (λ ys. is_some (find test ys)) (filter-yes keep x xs k) ∙ (ap is_some (find-no test x (filter keep xs) h) ∙ (ih ∙ sym (head false (ap (λ b. b && test x) k ∙ h))))
    by_case ih true k true h = ap (λ ys. is_some (find test ys)) (filter-yes keep x xs k) ∙ (ap is_some (find-yes test x (filter keep xs) h) ∙ sym (head true (ap (λ b. b && test x) k ∙ h)))

pub any-append : {X : Type 0} (test : X → Bool) (xs ys : List X) → any_of test (xs ++ ys) ≡ (any_of test xs || any_of test ys)
any-append test [] ys = refl
any-append test (x ∷ xs) ys = ap (λ b. test x || b) (any-append test xs ys) ∙ sym (or-assoc (test x) (any_of test xs) (any_of test ys))
  where
    or-assoc : (a b c : Bool) → ((a || b) || c) ≡ (a || (b || c))
    or-assoc true b c = refl
    or-assoc false b c = refl

pub or-first : (a b : Bool) → a ≡ true → (a || b) ≡ true
or-first true b e = refl
or-first false b e = cc

pub or-second : (a b : Bool) → b ≡ true → (a || b) ≡ true
or-second true b e = refl
or-second false b e = e

-- what passes in a list passes after a change that lets each go on passing
pub any-changed : (pass test : Forwarding → Bool) (change : Forwarding → Forwarding) → ((g : Forwarding) → test g ≡ true → pass g ≡ true → pass (change g) ≡ true) → (gs : List Forwarding) → any_of pass gs ≡ true → any_of pass (history.change_first test change gs) ≡ true
any-changed pass test change goes [] there = cc
any-changed pass test change goes (g ∷ gs) there = by_case (any-changed pass test change goes gs) (test g) refl (pass g) refl
  where
    at : (t : Bool) → test g ≡ t → history.change_first test change (g ∷ gs) ≡ elim t as (λ _. List Forwarding) [ true ↦ change g ∷ gs | false ↦ g ∷ history.change_first test change gs ]
    at t h = ap (λ (b : Bool). elim b as (λ _. List Forwarding) [ true ↦ change g ∷ gs | false ↦ g ∷ history.change_first test change gs ]) h

    by_case : (any_of pass gs ≡ true → any_of pass (history.change_first test change gs) ≡ true) → (t : Bool) → test g ≡ t → (p : Bool) → pass g ≡ p → any_of pass (history.change_first test change (g ∷ gs)) ≡ true
    by_case ih true t true p = ap (any_of pass) (at true t) ∙ or-first (pass (change g)) (any_of pass gs) (goes g t p)
    by_case ih true t false p = ap (any_of pass) (at true t) ∙ or-second (pass (change g)) (any_of pass gs) (or-found (pass g) (any_of pass gs) there p)
    by_case ih false t true p = ap (any_of pass) (at false t) ∙ or-first (pass g) (any_of pass (history.change_first test change gs)) p
    by_case ih false t false p = ap (any_of pass) (at false t) ∙ or-second (pass g) (any_of pass (history.change_first test change gs)) (ih (or-found (pass g) (any_of pass gs) there p))

-- the one that is changed passes
pub any-first : (pass test : Forwarding → Bool) (change : Forwarding → Forwarding) → ((g : Forwarding) → test g ≡ true → pass (change g) ≡ true) → (gs : List Forwarding) → any_of test gs ≡ true → any_of pass (history.change_first test change gs) ≡ true
any-first pass test change now [] there = cc
any-first pass test change now (g ∷ gs) there = by_case (any-first pass test change now gs) (test g) refl
  where
    at : (t : Bool) → test g ≡ t → history.change_first test change (g ∷ gs) ≡ elim t as (λ _. List Forwarding) [ true ↦ change g ∷ gs | false ↦ g ∷ history.change_first test change gs ]
    at t h = ap (λ (b : Bool). elim b as (λ _. List Forwarding) [ true ↦ change g ∷ gs | false ↦ g ∷ history.change_first test change gs ]) h

    by_case : (any_of test gs ≡ true → any_of pass (history.change_first test change gs) ≡ true) → (t : Bool) → test g ≡ t → any_of pass (history.change_first test change (g ∷ gs)) ≡ true
    by_case ih true t = ap (any_of pass) (at true t) ∙ or-first (pass (change g)) (any_of pass gs) (now g t)
    by_case ih false t = ap (any_of pass) (at false t) ∙ or-second (pass g) (any_of pass (history.change_first test change gs)) (ih (or-found (test g) (any_of test gs) there t))

-- ---- the test of a free one

live-key : (o : Option Key) (asked key : Key) → (is_some o && is_key (unwrap_or o asked) key) ≡ has_key o key
live-key None asked key = refl
live-key (Some q) asked key = refl

none-some : (o : Option ℕ) → is_none o ≡ not (is_some o)
none-some None = refl
none-some (Some n) = refl

pub free-same : (k : ℕ) (key : Key) (f : Forward) (g : Forwarding) → ForwardingFits f g → is_free_at k key f ≡ history.is_forwarding_free_at k key g
free-same k key f g fit =
    ap (λ i. (i == k) && (is_none f.cancel && (f.live && is_key f.key key))) fit.client
    ∙ (ap (λ b. (g.client == k) && (b && (f.live && is_key f.key key))) (none-some f.cancel ∙ (ap not fit.cancel ∙ sym (none-some g.cancel)))
    ∙ (ap (λ b. (g.client == k) && (is_none g.cancel && (b && is_key f.key key))) fit.live
    ∙ (ap (λ q. (g.client == k) && (is_none g.cancel && (is_some g.live && is_key q key))) fit.key
    ∙ (ap (λ b. (g.client == k) && (is_none g.cancel && b)) (live-key g.live g.key key)
    ∙ ap (λ b. (g.client == k) && (not b && (is_none g.cancel && has_key g.live key))) (sym fit.on)))))

pub some-same : (k : ℕ) (key : Key) (fs : List Forward) (gs : List Forwarding) → AreForwardsListed fs gs → some_free k key fs ≡ any_of (history.is_forwarding_free_at k key) gs
some-same k key [] [] all = refl
some-same k key [] (g ∷ gs) all = absurd all
some-same k key (f ∷ fs) [] all = absurd all
some-same k key (f ∷ fs) (g ∷ gs) all = by_case (some-same k key fs gs all.1) (is_free_at k key f) refl
  where
    same : is_free_at k key f ≡ history.is_forwarding_free_at k key g
    same = free-same k key f g all.0

    by_case : some_free k key fs ≡ any_of (history.is_forwarding_free_at k key) gs → (b : Bool) → is_free_at k key f ≡ b → some_free k key (f ∷ fs) ≡ any_of (history.is_forwarding_free_at k key) (g ∷ gs)
    by_case ih true h = ap is_some (find-yes (is_free_at k key) f fs h) ∙ sym (ap (λ b. b || any_of (history.is_forwarding_free_at k key) gs) (sym same ∙ h))
    by_case ih false h = ap is_some (find-no (is_free_at k key) f fs h) ∙ (ih ∙ sym (ap (λ b. b || any_of (history.is_forwarding_free_at k key) gs) (sym same ∙ h)))

-- ---- what is known of one that is free

pub record IsFree (k : ℕ) (key : Key) (g : Forwarding) : Type 0 where
  pub client : g.client ≡ k
  pub cancel : g.cancel ≡ None
  pub live : g.live ≡ Some key

pub free-is : (k : ℕ) (key : Key) (g : Forwarding) → history.is_forwarding_free_at k key g ≡ true → IsFree k key g
free-is k key g h =
    let a = and-right (g.client == k) _ h in
    let b = and-right (not g.over) _ a in
    record {
      client = same-number g.client k (and-left (g.client == k) _ h);
      cancel = none-of g.cancel (and-left (is_none g.cancel) _ b);
      live = at g.live (and-right (is_none g.cancel) _ b);
    }
  where
    at : (o : Option Key) → has_key o key ≡ true → o ≡ Some key
    at None e = absurd (cc)
    at (Some q) e = ap (λ x. Some x) (key-is q key e)
