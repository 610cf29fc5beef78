-- How many cancels a client has left when one was answered, and how they are ranked.
use Rattle.std.proofs.Common.{◌≡◌, ◌<◌, ◌-◌, ℕ, List, [], ◌∷◌, length, map, true, false, Bool, refl, ◌∙◌, ap, sym, subst, Option, Some, None, arith, suc}
use Rattle.std.specs.Prelude.{◌==◌, ◌&&◌, is_some, nat_lt}
use Rattle.std.specs.List.{AllByRecursion}
use Rattle.std.proofs.lemmas.Bool.Decides.{nat_tests}
use Rattle.mux_history.specs.Channels.{is_number}
use Rattle.mux_history.specs.Rows.{any_of}
use Rattle.mux_history.specs.Forwardings.{Forwarding}
use Rattle.mux_history.proofs.Bools.{same-number}
use Rattle.mux_history.proofs.Finds.{filter-no, filter-yes}
use Rattle.mux_history.proofs.Sends.{and-left, and-right}
use Rattle.forward_rules.specs.State.{Forward}
use Rattle.forward_rules.specs.Step.{unanswered_cancels, forward_count_of, is_leaving, is_forward_of, moved_up, without_cancel_of}
use Rattle.forward_rules.specs.Stands.{AreForwardsListed, AreTwoPlaces, EachTwo, IsRanked}
use Rattle.mux_core.proofs.CancelAnswered.{Later, Meant, Other, Seen, moved-some, some-is, up, up-some}
use Rattle.mux_core.proofs.Pairs.{or-found}
use Rattle.mux_core.proofs.Ranking.{AllPairs, leaves_at}
use Rattle.mux_core.proofs.Replied.{never, number-is}

-- ---- how many

pub client-after : (k rank : ℕ) (f : Forward) → (without_cancel_of k rank f).client ≡ f.client
client-after k rank f = by_client (is_forward_of k f) (is_number f.cancel rank)
  where
    by_client : (b c : Bool) → (elim b as (λ _. Forward) [ true ↦ elim c as (λ _. Forward) [ true ↦ record f { cancel = None } | false ↦ record f { cancel = moved_up rank f.cancel } ] | false ↦ f ]).client ≡ f.client
    by_client true true = refl
    by_client true false = refl
    by_client false c = refl

pub count-after : (j k rank : ℕ) (fs : List Forward) → forward_count_of (map (without_cancel_of k rank) fs) j ≡ forward_count_of fs j
count-after j k rank [] = refl
count-after j k rank (f ∷ fs) = by_test (count-after j k rank fs) (is_forward_of j f) refl
  where
    mine : is_forward_of j (without_cancel_of k rank f) ≡ is_forward_of j f
    mine = ap (λ i. i == j) (client-after k rank f)

    by_test : forward_count_of (map (without_cancel_of k rank) fs) j ≡ forward_count_of fs j → (b : Bool) → is_forward_of j f ≡ b → forward_count_of (map (without_cancel_of k rank) (f ∷ fs)) j ≡ forward_count_of (f ∷ fs) j
    by_test ih true h = ap length (filter-yes (is_forward_of j) (without_cancel_of k rank f) (map (without_cancel_of k rank) fs) (mine ∙ h)) ∙ (ap suc ih ∙ sym (ap length (filter-yes (is_forward_of j) f fs h)))
    by_test ih false h = ap length (filter-no (is_forward_of j) (without_cancel_of k rank f) (map (without_cancel_of k rank) fs) (mine ∙ h)) ∙ (ih ∙ sym (ap length (filter-no (is_forward_of j) f fs h)))

-- one that isn't the meant one leaves after it as it did
leaves-same : (j k place rank : ℕ) (f : Forward) (g : Forwarding) → Seen k place rank f g → f.client ≡ g.client → ((g.client == k) ≡ true → is_number g.cancel place ≡ true → (k == j) ≡ false) → is_leaving j (without_cancel_of k rank f) ≡ is_leaving j f
leaves-same j k place rank f g (Other h a b) client apart = ap (is_leaving j) a
leaves-same j k place rank f g (Meant h x y a b) client apart =
    ap (is_leaving j) a ∙ (ap (λ b. b && false) none ∙ sym (ap (λ b. b && is_some f.cancel) none))
  where
    away : (i : ℕ) → (i == k) ≡ true → (k == j) ≡ false → (i == j) ≡ false
    away i p q = grind (arith, nat_tests)

    at : (n : ℕ) → (n == n) ≡ true
    at n = grind (arith, nat_tests)

    none : (f.client == j) ≡ false
    none = ap (λ i. i == j) client ∙ away g.client h (apart h (ap (λ o. is_number o place) y ∙ at place))
leaves-same j k place rank f g (Later h x y a b) client apart = ap (is_leaving j) a ∙ ap (λ b. (f.client == j) && b) (moved-some rank f.cancel)

-- of another client as many as before
pub cancels-other : (j k place rank : ℕ) → (k == j) ≡ false → (fs : List Forward) (gs : List Forwarding) → AllPairs (Seen k place rank) fs gs → AreForwardsListed fs gs → unanswered_cancels j (map (without_cancel_of k rank) fs) ≡ unanswered_cancels j fs
cancels-other j k place rank apart [] gs all listed = refl
cancels-other j k place rank apart (f ∷ fs) [] all listed = absurd all
cancels-other j k place rank apart (f ∷ fs) (g ∷ gs) all listed = by_test (cancels-other j k place rank apart fs gs all.1 listed.1) (is_leaving j f) refl
  where
    same : is_leaving j (without_cancel_of k rank f) ≡ is_leaving j f
    same = leaves-same j k place rank f g all.0 listed.0.client (λ m at. apart)

    by_test : unanswered_cancels j (map (without_cancel_of k rank) fs) ≡ unanswered_cancels j fs → (b : Bool) → is_leaving j f ≡ b → unanswered_cancels j (map (without_cancel_of k rank) (f ∷ fs)) ≡ unanswered_cancels j (f ∷ fs)
    by_test ih true h = ap length (filter-yes (is_leaving j) (without_cancel_of k rank f) (map (without_cancel_of k rank) fs) (same ∙ h)) ∙ (ap suc ih ∙ sym (ap length (filter-yes (is_leaving j) f fs h)))
    by_test ih false h = ap length (filter-no (is_leaving j) (without_cancel_of k rank f) (map (without_cancel_of k rank) fs) (same ∙ h)) ∙ (ih ∙ sym (ap length (filter-no (is_leaving j) f fs h)))

-- of this client as many where the meant one isn't there, and one fewer where it is
none-meant : (k place : ℕ) (g : Forwarding) (gs : List Forwarding) → leaves_at k place g ≡ true → AllByRecursion (AreTwoPlaces g) gs → AllByRecursion (λ h. leaves_at k place h ≡ false) gs
none-meant k place g [] at two = tt
none-meant k place g (h ∷ hs) at two = (never (leaves_at k place h) (λ t. two.0.leaving place (same-number g.client k (and-left (g.client == k) _ at) ∙ sym (same-number h.client k (and-left (h.client == k) _ t))) (number-is g.cancel place (and-right (g.client == k) _ at)) (number-is h.cancel place (and-right (h.client == k) _ t))), none-meant k place g hs at two.1)

cancels-none : (k place rank : ℕ) (fs : List Forward) (gs : List Forwarding) → AllPairs (Seen k place rank) fs gs → AreForwardsListed fs gs → AllByRecursion (λ h. leaves_at k place h ≡ false) gs → unanswered_cancels k (map (without_cancel_of k rank) fs) ≡ unanswered_cancels k fs
cancels-none k place rank [] gs all listed miss = refl
cancels-none k place rank (f ∷ fs) [] all listed miss = absurd all
cancels-none k place rank (f ∷ fs) (g ∷ gs) all listed miss = by_test (cancels-none k place rank fs gs all.1 listed.1 miss.1) (is_leaving k f) refl
  where
    same : is_leaving k (without_cancel_of k rank f) ≡ is_leaving k f
    same = leaves-same k k place rank f g all.0 listed.0.client (λ m at. absurd (let x : true ≡ false = sym (ap (λ b. b && is_number g.cancel place) m ∙ at) ∙ miss.0 in cc))

    by_test : unanswered_cancels k (map (without_cancel_of k rank) fs) ≡ unanswered_cancels k fs → (b : Bool) → is_leaving k f ≡ b → unanswered_cancels k (map (without_cancel_of k rank) (f ∷ fs)) ≡ unanswered_cancels k (f ∷ fs)
    by_test ih true h = ap length (filter-yes (is_leaving k) (without_cancel_of k rank f) (map (without_cancel_of k rank) fs) (same ∙ h)) ∙ (ap suc ih ∙ sym (ap length (filter-yes (is_leaving k) f fs h)))
    by_test ih false h = ap length (filter-no (is_leaving k) (without_cancel_of k rank f) (map (without_cancel_of k rank) fs) (same ∙ h)) ∙ (ih ∙ sym (ap length (filter-no (is_leaving k) f fs h)))

meant-leaves : (k place rank : ℕ) (f : Forward) (g : Forwarding) → Seen k place rank f g → f.client ≡ g.client → leaves_at k place g ≡ true → (is_leaving k f ≡ true) × (is_leaving k (without_cancel_of k rank f) ≡ false)
meant-leaves k place rank f g (Other h a b) client at = absurd (let x : true ≡ false = sym (and-left (g.client == k) _ at) ∙ h in cc)
meant-leaves k place rank f g (Meant h x y a b) client at = (ap (λ i. (i == k) && is_some f.cancel) client ∙ (ap (λ t. t && is_some f.cancel) h ∙ ap is_some x), ap (is_leaving k) a ∙ no-one (f.client == k))
  where
    no-one : (b : Bool) → (b && false) ≡ false
    no-one true = refl
    no-one false = refl
meant-leaves k place rank f g (Later h x y a b) client at = absurd (let z : true ≡ false = sym (and-right (g.client == k) _ at) ∙ y in cc)

pub one-fewer : (k place rank : ℕ) (fs : List Forward) (gs : List Forwarding) → AllPairs (Seen k place rank) fs gs → AreForwardsListed fs gs → EachTwo gs → any_of (leaves_at k place) gs ≡ true → suc (unanswered_cancels k (map (without_cancel_of k rank) fs)) ≡ unanswered_cancels k fs
one-fewer k place rank [] [] all listed two there = absurd (cc)
one-fewer k place rank [] (g ∷ gs) all listed two there = absurd all
one-fewer k place rank (f ∷ fs) [] all listed two there = absurd all
one-fewer k place rank (f ∷ fs) (g ∷ gs) all listed two there = by_test (one-fewer k place rank fs gs all.1 listed.1 two.1) (leaves_at k place g) refl (is_leaving k f) refl
  where
    same : leaves_at k place g ≡ false → is_leaving k (without_cancel_of k rank f) ≡ is_leaving k f
    same miss = leaves-same k k place rank f g all.0 listed.0.client (λ m at. absurd (let x : true ≡ false = sym (ap (λ b. b && is_number g.cancel place) m ∙ at) ∙ miss in cc))

    by_test : (any_of (leaves_at k place) gs ≡ true → suc (unanswered_cancels k (map (without_cancel_of k rank) fs)) ≡ unanswered_cancels k fs) → (b : Bool) → leaves_at k place g ≡ b → (t : Bool) → is_leaving k f ≡ t → suc (unanswered_cancels k (map (without_cancel_of k rank) (f ∷ fs))) ≡ unanswered_cancels k (f ∷ fs)
    by_test ih true h t e =
        let m = meant-leaves k place rank f g all.0 listed.0.client h in
        ap suc (ap length (filter-no (is_leaving k) (without_cancel_of k rank f) (map (without_cancel_of k rank) fs) m.1) ∙ cancels-none k place rank fs gs all.1 listed.1 (none-meant k place g gs h two.0)) ∙ sym (ap length (filter-yes (is_leaving k) f fs m.0))
    by_test ih false h true e =
        ap suc (ap length (filter-yes (is_leaving k) (without_cancel_of k rank f) (map (without_cancel_of k rank) fs) (same h ∙ e)))
        ∙ (ap suc (ih (or-found (leaves_at k place g) (any_of (leaves_at k place) gs) there h)) ∙ sym (ap length (filter-yes (is_leaving k) f fs e)))
    by_test ih false h false e =
        ap suc (ap length (filter-no (is_leaving k) (without_cancel_of k rank f) (map (without_cancel_of k rank) fs) (same h ∙ e)))
        ∙ (ih (or-found (leaves_at k place g) (any_of (leaves_at k place) gs) there h) ∙ sym (ap length (filter-no (is_leaving k) f fs e)))

-- ---- ranks

-- the rank of the one that is meant
pub rank-low : (k place rank : ℕ) (all fs : List Forward) (gs : List Forwarding) → AllPairs (Seen k place rank) fs gs → AreForwardsListed fs gs → AllByRecursion (IsRanked all) fs → any_of (leaves_at k place) gs ≡ true → rank < unanswered_cancels k all
rank-low k place rank all [] [] seen_ listed ranked there = absurd (cc)
rank-low k place rank all [] (g ∷ gs) seen_ listed ranked there = absurd seen_
rank-low k place rank all (f ∷ fs) [] seen_ listed ranked there = absurd seen_
rank-low k place rank all (f ∷ fs) (g ∷ gs) seen_ listed ranked there = by_test (rank-low k place rank all fs gs seen_.1 listed.1 ranked.1) (leaves_at k place g) refl seen_.0
  where
    by_test : (any_of (leaves_at k place) gs ≡ true → rank < unanswered_cancels k all) → (b : Bool) → leaves_at k place g ≡ b → Seen k place rank f g → rank < unanswered_cancels k all
    by_test ih true h (Other m a b) = absurd (let x : true ≡ false = sym (and-left (g.client == k) _ h) ∙ m in cc)
    by_test ih true h (Meant m x y a b) = subst (λ i. rank < unanswered_cancels i all) (listed.0.client ∙ same-number g.client k m) (ranked.0 rank x)
    by_test ih true h (Later m x y a b) = absurd (let z : true ≡ false = sym (and-right (g.client == k) _ h) ∙ y in cc)
    by_test ih false h s = ih (or-found (leaves_at k place g) (any_of (leaves_at k place) gs) there h)

up-low : (rank a n : ℕ) → (a == rank) ≡ false → a < suc n → rank < suc n → up rank a < n
up-low rank a n p la lr = by_test (nat_lt rank a) refl
  where
    above : (i : ℕ) → nat_lt rank i ≡ true → rank < i
    above i h = grind (arith, nat_tests)

    below : (i : ℕ) → nat_lt rank i ≡ false → (i == rank) ≡ false → i < rank
    below i h m = grind (arith, nat_tests)

    by_test : (x : Bool) → nat_lt rank a ≡ x → up rank a < n
    by_test true h = let l = above a h in subst (λ i. i < n) (sym (ap (λ (c : Bool). elim c as (λ _. ℕ) [ true ↦ a - 1 | false ↦ a ]) h)) (omega arith)
    by_test false h = let l = below a h p in subst (λ i. i < n) (sym (ap (λ (c : Bool). elim c as (λ _. ℕ) [ true ↦ a - 1 | false ↦ a ]) h)) (omega arith)

pub ranked-after : (k place rank : ℕ) (all all' fs : List Forward) (gs : List Forwarding) → AllPairs (Seen k place rank) fs gs → AreForwardsListed fs gs → suc (unanswered_cancels k all') ≡ unanswered_cancels k all → ((j : ℕ) → (k == j) ≡ false → unanswered_cancels j all' ≡ unanswered_cancels j all) → rank < unanswered_cancels k all → AllByRecursion (IsRanked all) fs → AllByRecursion (IsRanked all') (map (without_cancel_of k rank) fs)
ranked-after k place rank all all' [] gs seen_ listed mine others low ranked = tt
ranked-after k place rank all all' (f ∷ fs) [] seen_ listed mine others low ranked = absurd seen_
ranked-after k place rank all all' (f ∷ fs) (g ∷ gs) seen_ listed mine others low ranked = (by_seen seen_.0, ranked-after k place rank all all' fs gs seen_.1 listed.1 mine others low ranked.1)
  where
    turned : (a b : ℕ) → (a == b) ≡ false → (b == a) ≡ false
    turned a b h = grind (arith, nat_tests)

    by_seen : Seen k place rank f g → IsRanked all' (without_cancel_of k rank f)
    by_seen (Other m a b) = λ r e.
        subst (λ i. r < unanswered_cancels i all') (sym (ap (λ (u : Forward). u.client) a))
        (subst (λ n. r < n) (sym (others f.client (turned f.client k (ap (λ i. i == k) listed.0.client ∙ m)))) (ranked.0 r (sym (ap (λ (u : Forward). u.cancel) a) ∙ e)))
    by_seen (Meant m x y a b) = λ r e. absurd (let n : None ≡ Some r = sym (ap (λ (u : Forward). u.cancel) a) ∙ e in cc)
    by_seen (Later m x y a b) = λ r e. by_cancel r e f.cancel refl
      where
        client : f.client ≡ k
        client = listed.0.client ∙ same-number g.client k m

        by_cancel : (r : ℕ) → (without_cancel_of k rank f).cancel ≡ Some r → (o : Option ℕ) → f.cancel ≡ o → r < unanswered_cancels (without_cancel_of k rank f).client all'
        by_cancel r e None c = absurd (let n : None ≡ Some r = sym (ap (moved_up rank) c) ∙ (sym (ap (λ (u : Forward). u.cancel) a) ∙ e) in cc)
        by_cancel r e (Some before) c =
            let is : up rank before ≡ r = some-is (up rank before) r (sym (up-some rank before) ∙ (sym (ap (moved_up rank) c) ∙ (sym (ap (λ (u : Forward). u.cancel) a) ∙ e))) in
            let b1 : before < suc (unanswered_cancels k all') = subst (λ n. before < n) (sym mine) (subst (λ i. before < unanswered_cancels i all) client (ranked.0 before c)) in
            let b2 : rank < suc (unanswered_cancels k all') = subst (λ n. rank < n) (sym mine) low in
            subst (λ i. r < unanswered_cancels i all') (sym (ap (λ (u : Forward). u.client) a ∙ client)) (subst (λ n. n < unanswered_cancels k all') is (up-low rank before (unanswered_cancels k all') (sym (ap (λ o. is_number o rank) c) ∙ x) b1 b2))
