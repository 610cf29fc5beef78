-- Forwardings that end, out of both lists at the same places.
use Rattle.std.proofs.Common.{◌≡◌, ◌≤◌, ◌<◌, ℕ, List, [], ◌∷◌, length, true, false, Bool, refl, ◌∙◌, ap, sym, subst, Option, Some, None, arith, suc}
use Rattle.std.specs.Prelude.{filter, ◌==◌, ◌&&◌, not, is_some, is_none}
use Rattle.std.specs.List.{AllByRecursion}
use Rattle.ssh_grammar.specs.Messages.{Key}
use Rattle.ssh_grammar.specs.Messages as full
use Rattle.mux_history.specs.Channels.{is_number}
use Rattle.mux_history.specs.Rows.{any_of}
use Rattle.mux_history.specs.Forwardings.{Forwarding, stopped}
use Rattle.mux_history.specs.Forwardings as history
use Rattle.mux_history.proofs.CurrentSteps.{is_on}
use Rattle.mux_history.proofs.Finds.{filter-no, filter-yes}
use Rattle.mux_history.proofs.Sends.{and-left, and-right}
use Rattle.forward_rules.specs.State.{Forward}
use Rattle.forward_rules.specs.Step.{forward_cancelled, unanswered_cancels, is_free_at, is_leaving, is_forward_of, without_first_forward}
use Rattle.forward_rules.specs.Stands.{AreFit, AreForwardingsInOrder, AreForwardsListed, AreTwoPlaces, EachTwo, HasAt, InOrderWith, IsAwaited, IsRanked, Places, request_waits_at, cancel_waits_at}
use Rattle.mux_core.proofs.Pairs.{find-any, free-is, free-same, or-first, or-found, or-second}
use Rattle.mux_core.proofs.Asked.{all-map}

-- those at whose places true stands
abbrev pub kept_by : {X : Type 0} → List Bool → List X → List X
kept_by [] xs = xs
kept_by (b ∷ bs) [] = []
kept_by (b ∷ bs) (x ∷ xs) = elim b [ true ↦ x ∷ kept_by bs xs | false ↦ kept_by bs xs ]

pub all-by : {X : Type 0} (P : X → Type 0) (bs : List Bool) (xs : List X) → AllByRecursion P xs → AllByRecursion P (kept_by bs xs)
all-by P [] xs all = all
all-by P (b ∷ bs) [] all = tt
all-by P (true ∷ bs) (x ∷ xs) all = (all.0, all-by P bs xs all.1)
all-by P (false ∷ bs) (x ∷ xs) all = all-by P bs xs all.1

pub listed-by : (bs : List Bool) (fs : List Forward) (gs : List Forwarding) → AreForwardsListed fs gs → AreForwardsListed (kept_by bs fs) (kept_by bs gs)
listed-by [] fs gs all = all
listed-by (b ∷ bs) [] [] all = tt
listed-by (b ∷ bs) [] (g ∷ gs) all = absurd all
listed-by (b ∷ bs) (f ∷ fs) [] all = absurd all
listed-by (true ∷ bs) (f ∷ fs) (g ∷ gs) all = (all.0, listed-by bs fs gs all.1)
listed-by (false ∷ bs) (f ∷ fs) (g ∷ gs) all = listed-by bs fs gs all.1

order-with-by : (f : Forward) (g : Forwarding) (bs : List Bool) (fs : List Forward) (gs : List Forwarding) → AreForwardsListed fs gs → InOrderWith f g fs gs → InOrderWith f g (kept_by bs fs) (kept_by bs gs)
order-with-by f g [] fs gs listed all = all
order-with-by f g (b ∷ bs) [] [] listed all = tt
order-with-by f g (b ∷ bs) [] (h ∷ hs) listed all = absurd listed
order-with-by f g (b ∷ bs) (e ∷ es) [] listed all = absurd listed
order-with-by f g (true ∷ bs) (e ∷ es) (h ∷ hs) listed all = (all.0, order-with-by f g bs es hs listed.1 all.1)
order-with-by f g (false ∷ bs) (e ∷ es) (h ∷ hs) listed all = order-with-by f g bs es hs listed.1 all.1

pub order-by : (bs : List Bool) (fs : List Forward) (gs : List Forwarding) → AreForwardsListed fs gs → AreForwardingsInOrder fs gs → AreForwardingsInOrder (kept_by bs fs) (kept_by bs gs)
order-by [] fs gs listed all = all
order-by (b ∷ bs) [] [] listed all = tt
order-by (b ∷ bs) [] (g ∷ gs) listed all = absurd listed
order-by (b ∷ bs) (f ∷ fs) [] listed all = absurd listed
order-by (true ∷ bs) (f ∷ fs) (g ∷ gs) listed all = (order-with-by f g bs fs gs listed.1 all.0, order-by bs fs gs listed.1 all.1)
order-by (false ∷ bs) (f ∷ fs) (g ∷ gs) listed all = order-by bs fs gs listed.1 all.1

pub two-by : (bs : List Bool) (gs : List Forwarding) → EachTwo gs → EachTwo (kept_by bs gs)
two-by [] gs two = two
two-by (b ∷ bs) [] two = tt
two-by (true ∷ bs) (g ∷ gs) two = (all-by (AreTwoPlaces g) bs gs two.0, two-by bs gs two.1)
two-by (false ∷ bs) (g ∷ gs) two = two-by bs gs two.1

-- no more pass
pub count-by : (test : Forward → Bool) (bs : List Bool) (fs : List Forward) → length (filter test (kept_by bs fs)) ≤ length (filter test fs)
count-by test [] fs = omega arith
count-by test (b ∷ bs) [] = omega arith
count-by test (true ∷ bs) (f ∷ fs) = by_case (count-by test bs fs) (test f) refl
  where
    by_case : length (filter test (kept_by bs fs)) ≤ length (filter test fs) → (t : Bool) → test f ≡ t → length (filter test (f ∷ kept_by bs fs)) ≤ length (filter test (f ∷ fs))
    by_case ih true h = subst (λ n. n ≤ length (filter test (f ∷ fs))) (sym (ap length (filter-yes test f (kept_by bs fs) h))) (subst (λ n. suc (length (filter test (kept_by bs fs))) ≤ n) (sym (ap length (filter-yes test f fs h))) (omega arith))
    by_case ih false h = subst (λ n. n ≤ length (filter test (f ∷ fs))) (sym (ap length (filter-no test f (kept_by bs fs) h))) (subst (λ n. length (filter test (kept_by bs fs)) ≤ n) (sym (ap length (filter-no test f fs h))) ih)
count-by test (false ∷ bs) (f ∷ fs) = by_case (count-by test bs fs) (test f) refl
  where
    by_case : length (filter test (kept_by bs fs)) ≤ length (filter test fs) → (t : Bool) → test f ≡ t → length (filter test (kept_by bs fs)) ≤ length (filter test (f ∷ fs))
    by_case ih true h = subst (λ n. length (filter test (kept_by bs fs)) ≤ n) (sym (ap length (filter-yes test f fs h))) (omega arith)
    by_case ih false h = subst (λ n. length (filter test (kept_by bs fs)) ≤ n) (sym (ap length (filter-no test f fs h))) ih

-- ---- the first of a test is out

abbrev pub first_out : (Forwarding → Bool) → List Forwarding → List Bool
first_out test [] = []
first_out test (g ∷ gs) = elim (test g) [ true ↦ false ∷ [] | false ↦ true ∷ first_out test gs ]

out-at : (test : Forwarding → Bool) (g : Forwarding) (gs : List Forwarding) (b : Bool) → test g ≡ b → first_out test (g ∷ gs) ≡ elim b as (λ _. List Bool) [ true ↦ false ∷ [] | false ↦ true ∷ first_out test gs ]
out-at test g gs b h = ap (λ (c : Bool). elim c as (λ _. List Bool) [ true ↦ false ∷ [] | false ↦ true ∷ first_out test gs ]) h

-- what passes in a list still does, where the one that is out doesn't
pub any-out : (pass test : Forwarding → Bool) → ((g : Forwarding) → test g ≡ true → pass g ≡ true → ⊥) → (gs : List Forwarding) → any_of pass gs ≡ true → any_of pass (kept_by (first_out test gs) gs) ≡ true
any-out pass test never [] there = there
any-out pass test never (g ∷ gs) there = by_case (any-out pass test never gs) (test g) refl (pass g) refl
  where
    by_case : (any_of pass gs ≡ true → any_of pass (kept_by (first_out test gs) gs) ≡ true) → (b : Bool) → test g ≡ b → (p : Bool) → pass g ≡ p → any_of pass (kept_by (first_out test (g ∷ gs)) (g ∷ gs)) ≡ true
    by_case ih true t true p = absurd (never g t p)
    by_case ih true t false p = ap (λ bs. any_of pass (kept_by bs (g ∷ gs))) (out-at test g gs true t) ∙ or-found (pass g) (any_of pass gs) there p
    by_case ih false t true p = ap (λ bs. any_of pass (kept_by bs (g ∷ gs))) (out-at test g gs false t) ∙ or-first (pass g) (any_of pass (kept_by (first_out test gs) gs)) p
    by_case ih false t false p = ap (λ bs. any_of pass (kept_by bs (g ∷ gs))) (out-at test g gs false t) ∙ or-second (pass g) (any_of pass (kept_by (first_out test gs) gs)) (ih (or-found (pass g) (any_of pass gs) there p))

pub on-all : (gs : List Forwarding) → AllByRecursion (λ g. is_on g ≡ true) gs → filter is_on gs ≡ gs
on-all [] all = refl
on-all (g ∷ gs) all = filter-yes is_on g gs all.0 ∙ ap (λ hs. g ∷ hs) (on-all gs all.1)

pub on-listed : (fs : List Forward) (gs : List Forwarding) → AreForwardsListed fs gs → AllByRecursion (λ g. is_on g ≡ true) gs
on-listed [] [] all = tt
on-listed [] (g ∷ gs) all = absurd all
on-listed (f ∷ fs) [] all = absurd all
on-listed (f ∷ fs) (g ∷ gs) all = (ap not all.0.on, on-listed fs gs all.1)

-- in the history the one that is meant is over
pub stopped-out : (test : Forwarding → Bool) (place : ℕ) (gs : List Forwarding) → AllByRecursion (λ g. is_on g ≡ true) gs → filter is_on (history.change_first test (stopped false place) gs) ≡ kept_by (first_out test gs) gs
stopped-out test place [] all = refl
stopped-out test place (g ∷ gs) all = by_case (stopped-out test place gs all.1) (test g) refl
  where
    by_case : filter is_on (history.change_first test (stopped false place) gs) ≡ kept_by (first_out test gs) gs → (b : Bool) → test g ≡ b → filter is_on (history.change_first test (stopped false place) (g ∷ gs)) ≡ kept_by (first_out test (g ∷ gs)) (g ∷ gs)
    by_case ih true h =
        ap (λ (c : Bool). filter is_on (elim c as (λ _. List Forwarding) [ true ↦ stopped false place g ∷ gs | false ↦ g ∷ history.change_first test (stopped false place) gs ])) h
        ∙ (filter-no is_on (stopped false place g) gs refl ∙ (on-all gs all.1 ∙ sym (ap (λ bs. kept_by bs (g ∷ gs)) (out-at test g gs true h))))
    by_case ih false h =
        ap (λ (c : Bool). filter is_on (elim c as (λ _. List Forwarding) [ true ↦ stopped false place g ∷ gs | false ↦ g ∷ history.change_first test (stopped false place) gs ])) h
        ∙ (filter-yes is_on g (history.change_first test (stopped false place) gs) all.0 ∙ (ap (λ hs. g ∷ hs) ih ∙ sym (ap (λ bs. kept_by bs (g ∷ gs)) (out-at test g gs false h))))

-- ---- a cancel that wants no reply

kept-out : (k : ℕ) (key : Key) (fs : List Forward) (gs : List Forwarding) → AreForwardsListed fs gs → without_first_forward (is_free_at k key) fs ≡ kept_by (first_out (history.is_forwarding_free_at k key) gs) fs
kept-out k key [] [] listed = refl
kept-out k key [] (g ∷ gs) listed = absurd listed
kept-out k key (f ∷ fs) [] listed = absurd listed
kept-out k key (f ∷ fs) (g ∷ gs) listed = by_case (kept-out k key fs gs listed.1) (is_free_at k key f) refl
  where
    same : is_free_at k key f ≡ history.is_forwarding_free_at k key g
    same = free-same k key f g listed.0

    by_case : without_first_forward (is_free_at k key) fs ≡ kept_by (first_out (history.is_forwarding_free_at k key) gs) fs → (b : Bool) → is_free_at k key f ≡ b → without_first_forward (is_free_at k key) (f ∷ fs) ≡ kept_by (first_out (history.is_forwarding_free_at k key) (g ∷ gs)) (f ∷ fs)
    by_case ih true h =
        ap (λ (c : Bool). elim c as (λ _. List Forward) [ true ↦ fs | false ↦ f ∷ without_first_forward (is_free_at k key) fs ]) h
        ∙ sym (ap (λ bs. kept_by bs (f ∷ fs)) (out-at (history.is_forwarding_free_at k key) g gs true (sym same ∙ h)))
    by_case ih false h =
        ap (λ (c : Bool). elim c as (λ _. List Forward) [ true ↦ fs | false ↦ f ∷ without_first_forward (is_free_at k key) fs ]) h
        ∙ (ap (λ es. f ∷ es) ih ∙ sym (ap (λ bs. kept_by bs (f ∷ fs)) (out-at (history.is_forwarding_free_at k key) g gs false (sym same ∙ h))))

-- no cancel goes along
no-cancel : (k : ℕ) (key : Key) (j : ℕ) (fs : List Forward) (gs : List Forwarding) → AreForwardsListed fs gs → unanswered_cancels j (kept_by (first_out (history.is_forwarding_free_at k key) gs) fs) ≡ unanswered_cancels j fs
no-cancel k key j [] [] listed = refl
no-cancel k key j [] (g ∷ gs) listed = absurd listed
no-cancel k key j (f ∷ fs) [] listed = absurd listed
no-cancel k key j (f ∷ fs) (g ∷ gs) listed = by_case (no-cancel k key j fs gs listed.1) (history.is_forwarding_free_at k key g) refl (is_leaving j f) refl
  where
    never : (b : Bool) → (b && false) ≡ false
    never true = refl
    never false = refl

    idle : history.is_forwarding_free_at k key g ≡ true → is_leaving j f ≡ false
    idle h = ap (λ b. (f.client == j) && b) (listed.0.cancel ∙ ap is_some (free-is k key g h).cancel) ∙ never (f.client == j)

    by_case : unanswered_cancels j (kept_by (first_out (history.is_forwarding_free_at k key) gs) fs) ≡ unanswered_cancels j fs → (b : Bool) → history.is_forwarding_free_at k key g ≡ b → (p : Bool) → is_leaving j f ≡ p → unanswered_cancels j (kept_by (first_out (history.is_forwarding_free_at k key) (g ∷ gs)) (f ∷ fs)) ≡ unanswered_cancels j (f ∷ fs)
    by_case ih true h p e = ap (λ bs. unanswered_cancels j (kept_by bs (f ∷ fs))) (out-at (history.is_forwarding_free_at k key) g gs true h) ∙ sym (ap length (filter-no (is_leaving j) f fs (idle h)))
    by_case ih false h true e = ap (λ bs. unanswered_cancels j (kept_by bs (f ∷ fs))) (out-at (history.is_forwarding_free_at k key) g gs false h) ∙ (ap length (filter-yes (is_leaving j) f (kept_by (first_out (history.is_forwarding_free_at k key) gs) fs) e) ∙ (ap suc ih ∙ sym (ap length (filter-yes (is_leaving j) f fs e))))
    by_case ih false h false e = ap (λ bs. unanswered_cancels j (kept_by bs (f ∷ fs))) (out-at (history.is_forwarding_free_at k key) g gs false h) ∙ (ap length (filter-no (is_leaving j) f (kept_by (first_out (history.is_forwarding_free_at k key) gs) fs) e) ∙ (ih ∙ sym (ap length (filter-no (is_leaving j) f fs e))))

pub stopped-fit : (k : ℕ) (key : Key) (place : ℕ) (fs : List Forward) (gs : List Forwarding) (own : ℕ → Places) (lost : ℕ → Bool) → AreFit fs gs own lost → AreFit (forward_cancelled k key false fs) (filter is_on (history.change_first (history.is_forwarding_free_at k key) (stopped false place) gs)) own lost
stopped-fit k key place fs gs own lost fit =
    subst (λ xs. AreFit xs (filter is_on (history.change_first (history.is_forwarding_free_at k key) (stopped false place) gs)) own lost) (sym (kept-out k key fs gs fit.listed))
    (subst (λ ys. AreFit (kept_by (first_out (history.is_forwarding_free_at k key) gs) fs) ys own lost) (sym (stopped-out (history.is_forwarding_free_at k key) place gs (on-listed fs gs fit.listed))) (record {
      listed = listed-by (first_out (history.is_forwarding_free_at k key) gs) fs gs fit.listed;
      in_order = order-by (first_out (history.is_forwarding_free_at k key) gs) fs gs fit.listed fit.in_order;
      awaited = all-by (λ g. IsAwaited (own g.client) g) (first_out (history.is_forwarding_free_at k key) gs) gs fit.awaited;
      two = two-by (first_out (history.is_forwarding_free_at k key) gs) gs fit.two;
      few = λ j. let a = count-by (is_forward_of j) (first_out (history.is_forwarding_free_at k key) gs) fs in let b = fit.few j in omega arith;
      each = λ j lives at a past got. goes_on at a.what j (fit.each j lives at a past got);
      ranked = all-by (IsRanked (kept_by (first_out (history.is_forwarding_free_at k key) gs) fs)) (first_out (history.is_forwarding_free_at k key) gs) fs (all-map (IsRanked fs) (IsRanked (kept_by (first_out (history.is_forwarding_free_at k key) gs) fs)) (λ f is q e. subst (λ n. q < n) (sym (no-cancel k key f.client fs gs fit.listed)) (is q e)) fs fit.ranked);
    }))
  where
    absent : (o : Option ℕ) (n : ℕ) → o ≡ None → is_number o n ≡ true → ⊥
    absent o n none h = let x : is_number None n ≡ true = ap (λ p. is_number p n) (sym none) ∙ h in cc

    present : (o : Option Key) (n : Key) → o ≡ Some n → is_none o ≡ true → ⊥
    present o n some h = let x : is_none (let y : Option Key = Some n in y) ≡ true = ap is_none (sym some) ∙ h in cc

    goes_on : (at : ℕ) (what : full.Global) (j : ℕ) → HasAt at what (filter (λ g. g.client == j) gs) → HasAt at what (filter (λ g. g.client == j) (kept_by (first_out (history.is_forwarding_free_at k key) gs) gs))
    goes_on at (full.Forward q) j h = find-any (λ (g : Forwarding). g.client == j) (request_waits_at at) _ ∙ any-out (λ (g : Forwarding). (g.client == j) && request_waits_at at g) (history.is_forwarding_free_at k key) (λ g t p. present g.live key (free-is k key g t).live (and-left (is_none g.live) _ (and-right (g.client == j) _ p))) gs (sym (find-any (λ (g : Forwarding). g.client == j) (request_waits_at at) gs) ∙ h)
    goes_on at (full.Cancel q) j h = find-any (λ (g : Forwarding). g.client == j) (cancel_waits_at at) _ ∙ any-out (λ (g : Forwarding). (g.client == j) && cancel_waits_at at g) (history.is_forwarding_free_at k key) (λ g t p. absent g.cancel at (free-is k key g t).cancel (and-right (g.client == j) _ p)) gs (sym (find-any (λ (g : Forwarding). g.client == j) (cancel_waits_at at) gs) ∙ h)
    goes_on at full.KeepAlive j h = tt
    goes_on at full.OtherName j h = tt
