-- Forwardings of which neither the client nor the cancel changes: their order, and how many there
-- are.
use Rattle.std.proofs.Common.{◌≡◌, ◌<◌, ℕ, List, [], ◌∷◌, length, map, true, false, Bool, refl, ◌∙◌, ap, sym, subst, suc}
use Rattle.std.specs.Prelude.{filter, ◌==◌, ◌&&◌, is_some}
use Rattle.std.specs.List.{AllByRecursion}
use Rattle.ssh_grammar.specs.Messages as full
use Rattle.mux_history.specs.Rows.{any_of}
use Rattle.mux_history.specs.Forwardings.{Forwarding}
use Rattle.mux_history.proofs.Finds.{filter-no, filter-yes}
use Rattle.forward_rules.specs.State.{Forward}
use Rattle.forward_rules.specs.Step.{unanswered_cancels, change_first_forward, forward_count_of, is_leaving, is_forward_of}
use Rattle.forward_rules.specs.Stands.{AreForwardingsInOrder, AreTwoPlaces, EachTwo, HasAt, InOrder, InOrderWith, IsRanked, request_waits_at, cancel_waits_at}
use Rattle.mux_core.proofs.Pairs.{find-any, or-first, or-found, or-second}

-- ---- of the kept ones

pub record Alike (f f' : Forward) : Type 0 where
  pub client : f'.client ≡ f.client
  pub cancel : f'.cancel ≡ f.cancel

abbrev pub AreAlike : List Forward → List Forward → Type 0
AreAlike [] [] = Unit {0}
AreAlike [] (f ∷ fs) = ⊥
AreAlike (f ∷ fs) [] = ⊥
AreAlike (f ∷ fs) (f' ∷ fs') = Alike f f' × AreAlike fs fs'

alike-self : (fs : List Forward) → AreAlike fs fs
alike-self [] = tt
alike-self (f ∷ fs) = (record { client = refl; cancel = refl }, alike-self fs)

pub alike-first : (test : Forward → Bool) (change : Forward → Forward) → ((f : Forward) → Alike f (change f)) → (fs : List Forward) → AreAlike fs (change_first_forward test change fs)
alike-first test change each [] = tt
alike-first test change each (f ∷ fs) = by_test (alike-first test change each fs) (test f)
  where
    by_test : AreAlike fs (change_first_forward test change fs) → (b : Bool) → AreAlike (f ∷ fs) (elim b as (λ _. List Forward) [ true ↦ change f ∷ fs | false ↦ f ∷ change_first_forward test change fs ])
    by_test ih true = (each f, alike-self fs)
    by_test ih false = (record { client = refl; cancel = refl }, ih)

pub all-alike : (P Q : Forward → Type 0) → ((f f' : Forward) → Alike f f' → P f → Q f') → (fs fs' : List Forward) → AreAlike fs fs' → AllByRecursion P fs → AllByRecursion Q fs'
all-alike P Q each [] [] alike all = tt
all-alike P Q each [] (f' ∷ fs') alike all = absurd alike
all-alike P Q each (f ∷ fs) [] alike all = absurd alike
all-alike P Q each (f ∷ fs) (f' ∷ fs') alike all = (each f f' alike.0 all.0, all-alike P Q each fs fs' alike.1 all.1)

-- as many pass
count-alike : (test : Forward → Bool) → ((f f' : Forward) → Alike f f' → test f' ≡ test f) → (fs fs' : List Forward) → AreAlike fs fs' → length (filter test fs') ≡ length (filter test fs)
count-alike test same [] [] alike = refl
count-alike test same [] (f' ∷ fs') alike = absurd alike
count-alike test same (f ∷ fs) [] alike = absurd alike
count-alike test same (f ∷ fs) (f' ∷ fs') alike = by_test (count-alike test same fs fs' alike.1) (test f) refl
  where
    by_test : length (filter test fs') ≡ length (filter test fs) → (b : Bool) → test f ≡ b → length (filter test (f' ∷ fs')) ≡ length (filter test (f ∷ fs))
    by_test ih true h = ap length (filter-yes test f' fs' (same f f' alike.0 ∙ h)) ∙ (ap suc ih ∙ sym (ap length (filter-yes test f fs h)))
    by_test ih false h = ap length (filter-no test f' fs' (same f f' alike.0 ∙ h)) ∙ (ih ∙ sym (ap length (filter-no test f fs h)))

pub few-alike : (k : ℕ) (fs fs' : List Forward) → AreAlike fs fs' → forward_count_of fs' k ≡ forward_count_of fs k
few-alike k fs fs' alike = count-alike (is_forward_of k) (λ f f' a. ap (λ i. i == k) a.client) fs fs' alike

pub cancels-alike : (k : ℕ) (fs fs' : List Forward) → AreAlike fs fs' → unanswered_cancels k fs' ≡ unanswered_cancels k fs
cancels-alike k fs fs' alike = count-alike (is_leaving k) (λ f f' a. ap (λ i. (i == k) && is_some f'.cancel) a.client ∙ ap (λ o. (f.client == k) && is_some o) a.cancel) fs fs' alike

pub ranked-alike : (fs fs' : List Forward) → AreAlike fs fs' → AllByRecursion (IsRanked fs) fs → AllByRecursion (IsRanked fs') fs'
ranked-alike fs fs' alike ranked = all-alike (IsRanked fs) (IsRanked fs') (λ f f' a is r e. subst (λ n. r < n) (sym (ap (λ i. unanswered_cancels i fs') a.client ∙ cancels-alike f.client fs fs' alike)) (is r (sym a.cancel ∙ e))) fs fs' alike ranked

-- ---- of those of the history, each changed

pub record Marked (g h : Forwarding) : Type 0 where
  pub client : h.client ≡ g.client
  pub cancel : h.cancel ≡ g.cancel

one-order : (f f' : Forward) (g g' : Forwarding) (e e' : Forward) (h h' : Forwarding) → Alike f f' → Marked g g' → Alike e e' → Marked h h' → InOrder f g e h → InOrder f' g' e' h'
one-order f f' g g' e e' h h' af mg ae mh order = λ r q r' q' same a b c d.
    order r q r' q' (sym mg.client ∙ (same ∙ mh.client)) (sym af.cancel ∙ a) (sym mg.cancel ∙ b) (sym ae.cancel ∙ c) (sym mh.cancel ∙ d)

with-order : (change : Forwarding → Forwarding) → ((g : Forwarding) → Marked g (change g)) → (f f' : Forward) (g : Forwarding) → Alike f f' → (fs fs' : List Forward) (gs : List Forwarding) → AreAlike fs fs' → InOrderWith f g fs gs → InOrderWith f' (change g) fs' (map change gs)
with-order change each f f' g af [] [] gs alike all = tt
with-order change each f f' g af [] (e' ∷ es') gs alike all = absurd alike
with-order change each f f' g af (e ∷ es) [] gs alike all = absurd alike
with-order change each f f' g af (e ∷ es) (e' ∷ es') [] alike all = tt
with-order change each f f' g af (e ∷ es) (e' ∷ es') (h ∷ hs) alike all = (one-order f f' g (change g) e e' h (change h) af (each g) alike.0 (each h) all.0, with-order change each f f' g af es es' hs alike.1 all.1)

pub order-alike : (change : Forwarding → Forwarding) → ((g : Forwarding) → Marked g (change g)) → (fs fs' : List Forward) (gs : List Forwarding) → AreAlike fs fs' → AreForwardingsInOrder fs gs → AreForwardingsInOrder fs' (map change gs)
order-alike change each [] [] gs alike all = tt
order-alike change each [] (f' ∷ fs') gs alike all = absurd alike
order-alike change each (f ∷ fs) [] gs alike all = absurd alike
order-alike change each (f ∷ fs) (f' ∷ fs') [] alike all = tt
order-alike change each (f ∷ fs) (f' ∷ fs') (g ∷ gs) alike all = (with-order change each f f' g alike.0 fs fs' gs alike.1 all.0, order-alike change each fs fs' gs alike.1 all.1)

-- ---- no two at one place

two-with : (change : Forwarding → Forwarding) → ((a b : Forwarding) → AreTwoPlaces a b → AreTwoPlaces (change a) (change b)) → (g : Forwarding) (hs : List Forwarding) → AllByRecursion (AreTwoPlaces g) hs → AllByRecursion (AreTwoPlaces (change g)) (map change hs)
two-with change each g [] all = tt
two-with change each g (h ∷ hs) all = (each g h all.0, two-with change each g hs all.1)

pub two-map : (change : Forwarding → Forwarding) → ((a b : Forwarding) → AreTwoPlaces a b → AreTwoPlaces (change a) (change b)) → (gs : List Forwarding) → EachTwo gs → EachTwo (map change gs)
two-map change each [] two = tt
two-map change each (g ∷ gs) two = (two-with change each g gs two.0, two-map change each gs two.1)

-- ---- who waits at a place still does

any-map : (test : Forwarding → Bool) (change : Forwarding → Forwarding) → ((g : Forwarding) → test g ≡ true → test (change g) ≡ true) → (gs : List Forwarding) → any_of test gs ≡ true → any_of test (map change gs) ≡ true
any-map test change each [] there = cc
any-map test change each (g ∷ gs) there = by_test (any-map test change each gs) (test g) refl
  where
    by_test : (any_of test gs ≡ true → any_of test (map change gs) ≡ true) → (b : Bool) → test g ≡ b → any_of test (map change (g ∷ gs)) ≡ true
    by_test ih true h = or-first (test (change g)) (any_of test (map change gs)) (each g h)
    by_test ih false h = or-second (test (change g)) (any_of test (map change gs)) (ih (or-found (test g) (any_of test gs) there h))

-- those of a client that wait at a place
pub record StaysAt (j place : ℕ) (change : Forwarding → Forwarding) (g : Forwarding) : Type 0 where
  pub asked : ((g.client == j) && request_waits_at place g) ≡ true → (((change g).client == j) && request_waits_at place (change g)) ≡ true
  pub leaving : ((g.client == j) && cancel_waits_at place g) ≡ true → (((change g).client == j) && cancel_waits_at place (change g)) ≡ true

pub has-map : (place : ℕ) (what : full.Global) (j : ℕ) (change : Forwarding → Forwarding) (gs : List Forwarding) → ((g : Forwarding) → StaysAt j place change g) → HasAt place what (filter (λ g. g.client == j) gs) → HasAt place what (filter (λ g. g.client == j) (map change gs))
has-map place (full.Forward key) j change gs each h = find-any (λ (g : Forwarding). g.client == j) (request_waits_at place) (map change gs) ∙ any-map (λ (g : Forwarding). (g.client == j) && request_waits_at place g) change (λ g. (each g).asked) gs (sym (find-any (λ (g : Forwarding). g.client == j) (request_waits_at place) gs) ∙ h)
has-map place (full.Cancel key) j change gs each h = find-any (λ (g : Forwarding). g.client == j) (cancel_waits_at place) (map change gs) ∙ any-map (λ (g : Forwarding). (g.client == j) && cancel_waits_at place g) change (λ g. (each g).leaving) gs (sym (find-any (λ (g : Forwarding). g.client == j) (cancel_waits_at place) gs) ∙ h)
has-map place full.KeepAlive j change gs each h = tt
has-map place full.OtherName j change gs each h = tt
