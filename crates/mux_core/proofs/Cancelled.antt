-- A cancel that wants a reply is sent: the forwarding that it means waits for its end.
use Rattle.std.proofs.Common.{◌≡◌, ◌≤◌, ◌<◌, ℕ, List, [], ◌∷◌, ◌++◌, length, true, false, Bool, refl, ◌∙◌, ap, sym, subst, Option, Some, None, arith, suc}
use Rattle.std.specs.Prelude.{filter, ◌==◌, ◌&&◌, ◌⊎◌, is_some, unwrap_or, slice_get}
use Rattle.std.proofs.Common.{inl, inr}
use Rattle.std.specs.List.{AllByRecursion}
use Rattle.std.proofs.lemmas.Option.{slice_get_within}
use Rattle.ssh_grammar.specs.Messages.{Key}
use Rattle.ssh_grammar.specs.Messages as full
use Rattle.mux_history.specs.declared.limits.TheConstants.{MAX_FORWARDINGS}
use Rattle.mux_history.specs.Channels.{is_number}
use Rattle.mux_history.specs.Rows.{any_of}
use Rattle.mux_history.specs.Requests.{Ask}
use Rattle.mux_history.specs.Forwardings.{Forwarding, stopped}
use Rattle.mux_history.specs.Forwardings as history
use Rattle.mux_history.proofs.Bools.{is-of, same-number, self}
use Rattle.mux_history.proofs.Finds.{filter-no, filter-yes}
use Rattle.mux_history.proofs.Sends.{and-left, and-right}
use Rattle.forward_rules.specs.State.{Forward}
use Rattle.forward_rules.specs.Step.{forward_cancelled, unanswered_cancels, change_first_forward, is_free_at, is_leaving, is_forward_of, some_free}
use Rattle.forward_rules.specs.Stands.{AreFit, AreForwardsListed, AreTwoPlaces, EachHas, EachTwo, HasAt, IsAwaited, IsRanked, Places, request_waits_at, cancel_waits_at}
use Rattle.mux_core.proofs.Answering.{asked_more}
use Rattle.mux_core.proofs.CancelOrder.{Before, Earlier, kept-at, listed-changed, order-changed, placed_at, ranked_at, some-is, recorded-at}
use Rattle.mux_core.proofs.Pairs.{IsFree, any-changed, any-first, find-any, free-is, free-same, or-found, some-same}
use Rattle.mux_core.proofs.Requested.{awaited-more}
use Rattle.mux_core.proofs.Asked.{all-map, get-last, place-back}

-- ---- each of the history's

all-changed : (P Q : Forwarding → Type 0) (test : Forwarding → Bool) (change : Forwarding → Forwarding) → ((g : Forwarding) → P g → Q g) → ((g : Forwarding) → test g ≡ true → P g → Q (change g)) → (gs : List Forwarding) → AllByRecursion P gs → AllByRecursion Q (history.change_first test change gs)
all-changed P Q test change stay now [] all = tt
all-changed P Q test change stay now (g ∷ gs) all = by_case (all-changed P Q test change stay now gs all.1) (test g) refl
  where
    by_case : AllByRecursion Q (history.change_first test change gs) → (b : Bool) → test g ≡ b → AllByRecursion Q (history.change_first test change (g ∷ gs))
    by_case ih true h = subst (AllByRecursion Q) (sym (ap (λ (c : Bool). elim c as (λ _. List Forwarding) [ true ↦ change g ∷ gs | false ↦ g ∷ history.change_first test change gs ]) h)) (now g h all.0, all-map P Q stay gs all.1)
    by_case ih false h = subst (AllByRecursion Q) (sym (ap (λ (c : Bool). elim c as (λ _. List Forwarding) [ true ↦ change g ∷ gs | false ↦ g ∷ history.change_first test change gs ]) h)) (stay g all.0, ih)

two-changed : (k : ℕ) (key : Key) (place : ℕ) (gs : List Forwarding) → AllByRecursion (Earlier k place) gs → EachTwo gs → EachTwo (history.change_first (history.is_forwarding_free_at k key) (placed_at place) gs)
two-changed k key place [] es two = tt
two-changed k key place (g ∷ gs) es two = by_case (two-changed k key place gs es.1 two.1) (history.is_forwarding_free_at k key g) refl
  where
    self-less : (n : ℕ) → n < n → ⊥
    self-less n h = omega arith

    by_case : EachTwo (history.change_first (history.is_forwarding_free_at k key) (placed_at place) gs) → (b : Bool) → history.is_forwarding_free_at k key g ≡ b → EachTwo (history.change_first (history.is_forwarding_free_at k key) (placed_at place) (g ∷ gs))
    by_case ih true h = subst EachTwo (sym (recorded-at k key place g gs true h)) (each gs es.1 two.0, two.1)
      where
        each : (hs : List Forwarding) → AllByRecursion (Earlier k place) hs → AllByRecursion (AreTwoPlaces g) hs → AllByRecursion (AreTwoPlaces (placed_at place g)) hs
        each [] later all = tt
        each (i ∷ is) later all = (
          record {
            asked = all.0.asked;
            leaving = λ q same p n. self-less q (subst (λ m. q < m) (some-is place q p) (later.0 (sym same ∙ (free-is k key g h).client) q n));
          },
          each is later.1 all.1,
        )
    by_case ih false h = subst EachTwo (sym (recorded-at k key place g gs false h)) (
      all-changed (AreTwoPlaces g) (AreTwoPlaces g) (history.is_forwarding_free_at k key) (placed_at place) (λ i two. two) (λ i free two. record {
        asked = two.asked;
        leaving = λ q same p n. self-less q (subst (λ m. q < m) (some-is place q n) (es.0 (same ∙ (free-is k key i free).client) q p));
      }) gs two.0,
      ih,
    )

-- ---- counts

-- how many pass where the first of a test is changed
count-same : (pass test : Forward → Bool) (change : Forward → Forward) → ((f : Forward) → pass (change f) ≡ pass f) → (fs : List Forward) → length (filter pass (change_first_forward test change fs)) ≡ length (filter pass fs)
count-same pass test change same [] = refl
count-same pass test change same (f ∷ fs) = by_case (count-same pass test change same fs) (test f) refl (pass f) refl
  where
    at : (b : Bool) → test f ≡ b → change_first_forward test change (f ∷ fs) ≡ elim b as (λ _. List Forward) [ true ↦ change f ∷ fs | false ↦ f ∷ change_first_forward test change fs ]
    at b h = ap (λ (c : Bool). elim c as (λ _. List Forward) [ true ↦ change f ∷ fs | false ↦ f ∷ change_first_forward test change fs ]) h

    by_case : length (filter pass (change_first_forward test change fs)) ≡ length (filter pass fs) → (b : Bool) → test f ≡ b → (p : Bool) → pass f ≡ p → length (filter pass (change_first_forward test change (f ∷ fs))) ≡ length (filter pass (f ∷ fs))
    by_case ih true h true p = ap (λ xs. length (filter pass xs)) (at true h) ∙ (ap length (filter-yes pass (change f) fs (same f ∙ p)) ∙ sym (ap length (filter-yes pass f fs p)))
    by_case ih true h false p = ap (λ xs. length (filter pass xs)) (at true h) ∙ (ap length (filter-no pass (change f) fs (same f ∙ p)) ∙ sym (ap length (filter-no pass f fs p)))
    by_case ih false h true p = ap (λ xs. length (filter pass xs)) (at false h) ∙ (ap length (filter-yes pass f (change_first_forward test change fs) p) ∙ (ap suc ih ∙ sym (ap length (filter-yes pass f fs p))))
    by_case ih false h false p = ap (λ xs. length (filter pass xs)) (at false h) ∙ (ap length (filter-no pass f (change_first_forward test change fs) p) ∙ (ih ∙ sym (ap length (filter-no pass f fs p))))

-- no fewer leave, and where one of the client's is changed one more does
no-fewer : (k : ℕ) (key : Key) (r j : ℕ) (fs : List Forward) → unanswered_cancels j fs ≤ unanswered_cancels j (change_first_forward (is_free_at k key) (ranked_at r) fs)
no-fewer k key r j [] = omega arith
no-fewer k key r j (f ∷ fs) = by_case (no-fewer k key r j fs) (is_free_at k key f) refl (is_leaving j f) refl (f.client == j) refl
  where
    never : (b : Bool) → (b && false) ≡ false
    never true = refl
    never false = refl

    by_case : unanswered_cancels j fs ≤ unanswered_cancels j (change_first_forward (is_free_at k key) (ranked_at r) fs) → (b : Bool) → is_free_at k key f ≡ b → (p : Bool) → is_leaving j f ≡ p → (m : Bool) → (f.client == j) ≡ m → unanswered_cancels j (f ∷ fs) ≤ unanswered_cancels j (change_first_forward (is_free_at k key) (ranked_at r) (f ∷ fs))
    by_case ih true h p e true m = subst (λ xs. unanswered_cancels j (f ∷ fs) ≤ unanswered_cancels j xs) (sym (kept-at k key r f fs true h)) (subst (λ n. unanswered_cancels j (f ∷ fs) ≤ n) (sym (ap length (filter-yes (is_leaving j) (ranked_at r f) fs (ap (λ b. b && true) m)))) (at-most p e))
      where
        at-most : (p : Bool) → is_leaving j f ≡ p → unanswered_cancels j (f ∷ fs) ≤ suc (unanswered_cancels j fs)
        at-most true e = subst (λ n. n ≤ suc (unanswered_cancels j fs)) (sym (ap length (filter-yes (is_leaving j) f fs e))) (omega arith)
        at-most false e = subst (λ n. n ≤ suc (unanswered_cancels j fs)) (sym (ap length (filter-no (is_leaving j) f fs e))) (omega arith)
    by_case ih true h p e false m = subst (λ xs. unanswered_cancels j (f ∷ fs) ≤ unanswered_cancels j xs) (sym (kept-at k key r f fs true h)) (subst (λ n. unanswered_cancels j (f ∷ fs) ≤ n) (sym (ap length (filter-no (is_leaving j) (ranked_at r f) fs (ap (λ b. b && true) m)))) (subst (λ n. n ≤ unanswered_cancels j fs) (sym (ap length (filter-no (is_leaving j) f fs (ap (λ b. b && is_some f.cancel) m)))) (omega arith)))
    by_case ih false h true e b m = subst (λ xs. unanswered_cancels j (f ∷ fs) ≤ unanswered_cancels j xs) (sym (kept-at k key r f fs false h)) (subst (λ n. unanswered_cancels j (f ∷ fs) ≤ n) (sym (ap length (filter-yes (is_leaving j) f (change_first_forward (is_free_at k key) (ranked_at r) fs) e))) (subst (λ n. n ≤ suc (unanswered_cancels j (change_first_forward (is_free_at k key) (ranked_at r) fs))) (sym (ap length (filter-yes (is_leaving j) f fs e))) (omega arith)))
    by_case ih false h false e b m = subst (λ xs. unanswered_cancels j (f ∷ fs) ≤ unanswered_cancels j xs) (sym (kept-at k key r f fs false h)) (subst (λ n. unanswered_cancels j (f ∷ fs) ≤ n) (sym (ap length (filter-no (is_leaving j) f (change_first_forward (is_free_at k key) (ranked_at r) fs) e))) (subst (λ n. n ≤ unanswered_cancels j (change_first_forward (is_free_at k key) (ranked_at r) fs)) (sym (ap length (filter-no (is_leaving j) f fs e))) ih))

-- where one is free one more leaves
one-more : (k : ℕ) (key : Key) (r : ℕ) (fs : List Forward) (gs : List Forwarding) → AreForwardsListed fs gs → any_of (history.is_forwarding_free_at k key) gs ≡ true → unanswered_cancels k (change_first_forward (is_free_at k key) (ranked_at r) fs) ≡ suc (unanswered_cancels k fs)
one-more k key r [] [] listed there = cc
one-more k key r [] (g ∷ gs) listed there = absurd listed
one-more k key r (f ∷ fs) [] listed there = absurd listed
one-more k key r (f ∷ fs) (g ∷ gs) listed there = by_case (one-more k key r fs gs listed.1) (is_free_at k key f) refl (is_leaving k f) refl
  where
    same : is_free_at k key f ≡ history.is_forwarding_free_at k key g
    same = free-same k key f g listed.0

    idle : history.is_forwarding_free_at k key g ≡ true → is_leaving k f ≡ false
    idle h = ap (λ b. (f.client == k) && b) (listed.0.cancel ∙ ap is_some (free-is k key g h).cancel) ∙ never (f.client == k)
      where
        never : (b : Bool) → (b && false) ≡ false
        never true = refl
        never false = refl

    by_case : (any_of (history.is_forwarding_free_at k key) gs ≡ true → unanswered_cancels k (change_first_forward (is_free_at k key) (ranked_at r) fs) ≡ suc (unanswered_cancels k fs)) → (b : Bool) → is_free_at k key f ≡ b → (p : Bool) → is_leaving k f ≡ p → unanswered_cancels k (change_first_forward (is_free_at k key) (ranked_at r) (f ∷ fs)) ≡ suc (unanswered_cancels k (f ∷ fs))
    by_case ih true h p e =
        ap (unanswered_cancels k) (kept-at k key r f fs true h)
        ∙ (ap length (filter-yes (is_leaving k) (ranked_at r f) fs (ap (λ b. b && true) (is-of f.client k (listed.0.client ∙ (free-is k key g (sym same ∙ h)).client))))
        ∙ ap suc (sym (ap length (filter-no (is_leaving k) f fs (idle (sym same ∙ h))))))
    by_case ih false h true e =
        ap (unanswered_cancels k) (kept-at k key r f fs false h)
        ∙ (ap length (filter-yes (is_leaving k) f (change_first_forward (is_free_at k key) (ranked_at r) fs) e)
        ∙ (ap suc (ih (or-found (history.is_forwarding_free_at k key g) (any_of (history.is_forwarding_free_at k key) gs) there (sym same ∙ h))) ∙ ap suc (sym (ap length (filter-yes (is_leaving k) f fs e)))))
    by_case ih false h false e =
        ap (unanswered_cancels k) (kept-at k key r f fs false h)
        ∙ (ap length (filter-no (is_leaving k) f (change_first_forward (is_free_at k key) (ranked_at r) fs) e)
        ∙ (ih (or-found (history.is_forwarding_free_at k key g) (any_of (history.is_forwarding_free_at k key) gs) there (sym same ∙ h)) ∙ ap suc (sym (ap length (filter-no (is_leaving k) f fs e)))))

all-kept : (P Q : Forward → Type 0) (test : Forward → Bool) (change : Forward → Forward) → ((f : Forward) → P f → Q f) → ((f : Forward) → test f ≡ true → P f → Q (change f)) → (fs : List Forward) → AllByRecursion P fs → AllByRecursion Q (change_first_forward test change fs)
all-kept P Q test change stay now [] all = tt
all-kept P Q test change stay now (f ∷ fs) all = by_case (all-kept P Q test change stay now fs all.1) (test f) refl
  where
    by_case : AllByRecursion Q (change_first_forward test change fs) → (b : Bool) → test f ≡ b → AllByRecursion Q (change_first_forward test change (f ∷ fs))
    by_case ih true h = subst (AllByRecursion Q) (sym (ap (λ (c : Bool). elim c as (λ _. List Forward) [ true ↦ change f ∷ fs | false ↦ f ∷ change_first_forward test change fs ]) h)) (now f h all.0, all-map P Q stay fs all.1)
    by_case ih false h = subst (AllByRecursion Q) (sym (ap (λ (c : Bool). elim c as (λ _. List Forward) [ true ↦ change f ∷ fs | false ↦ f ∷ change_first_forward test change fs ]) h)) (stay f all.0, ih)

-- ---- all of it

pub cancelled-fit : (k : ℕ) (key : Key) (fs : List Forward) (gs : List Forwarding) (own own' : ℕ → Places) (lost : ℕ → Bool) → AreFit fs gs own lost → some_free k key fs ≡ true → (own k).replied ≤ length (own k).asked → ((j : ℕ) → (k == j) ≡ true → own' j ≡ asked_more (own j) (record { client = k; what = full.Cancel key })) → ((j : ℕ) → (k == j) ≡ false → own' j ≡ own j) → AreFit (forward_cancelled k key true fs) (history.change_first (history.is_forwarding_free_at k key) (stopped true (length (own k).asked)) gs) own' lost
cancelled-fit k key fs gs own own' lost fit free le mine others = record {
  listed = listed-changed k key r place fs gs fit.listed;
  in_order = order-changed k key r place fs gs fit.listed before earlier fit.in_order;
  awaited = all-changed (λ g. IsAwaited (own g.client) g) (λ g. IsAwaited (own' g.client) g) (history.is_forwarding_free_at k key) (placed_at place) (λ g w. one g w (k == g.client) refl) (λ g h w. meant g (free-is k key g h)) gs fit.awaited;
  two = two-changed k key place gs earlier fit.two;
  few = λ j. subst (λ n. n ≤ MAX_FORWARDINGS) (sym (count-same (is_forward_of j) (is_free_at k key) (ranked_at (unanswered_cancels k fs)) (λ f. refl) fs)) (fit.few j);
  each = λ j lives. each j lives (k == j) refl;
  ranked = all-kept (IsRanked fs) (IsRanked (change_first_forward (is_free_at k key) (ranked_at (unanswered_cancels k fs)) fs)) (is_free_at k key) (ranked_at (unanswered_cancels k fs)) (λ f is q e. let a = is q e in let b = no-fewer k key (unanswered_cancels k fs) f.client fs in omega arith) (λ f h is q e. newest f h q e) fs fit.ranked;
}
  where
    r : ℕ
    r = unanswered_cancels k fs

    place : ℕ
    place = length (own k).asked

    any : any_of (history.is_forwarding_free_at k key) gs ≡ true
    any = sym (some-same k key fs gs fit.listed) ∙ free

    before : AllByRecursion (Before k (unanswered_cancels k fs)) fs
    before = all-map (IsRanked fs) (Before k (unanswered_cancels k fs)) (λ f is of q e. subst (λ i. q < unanswered_cancels i fs) of (is q e)) fs fit.ranked

    earlier : AllByRecursion (Earlier k (length (own k).asked)) gs
    earlier = all-map (λ g. IsAwaited (own g.client) g) (Earlier k (length (own k).asked)) (λ g w of q e. subst (λ i. q < length (own i).asked) of (slice_get_within (own g.client).asked q _ (w.leaving q e).1)) gs fit.awaited

    one : (g : Forwarding) → IsAwaited (own g.client) g → (b : Bool) → (k == g.client) ≡ b → IsAwaited (own' g.client) g
    one g w true h = subst (λ x. IsAwaited x g) (sym (mine g.client h)) (awaited-more (own g.client) (record { client = k; what = full.Cancel key }) g w)
    one g w false h = subst (λ x. IsAwaited x g) (sym (others g.client h)) w

    meant : (g : Forwarding) → IsFree k key g → IsAwaited (own' g.client) (placed_at (length (own k).asked) g)
    meant g is = subst (λ i. IsAwaited (own' i) (placed_at (length (own k).asked) g)) (sym is.client) (subst (λ x. IsAwaited x (placed_at (length (own k).asked) g)) (sym (mine k (self k))) (record {
      asked = λ none. absurd (let x : None ≡ Some key = sym none ∙ is.live in cc);
      leaving = λ q h. subst (λ i. ((own k).replied ≤ i) × (slice_get ((own k).asked ++ record { client = k; what = full.Cancel key } ∷ []) i ≡ Some (record { client = g.client; what = full.Cancel (unwrap_or g.live g.key) }))) (some-is (length (own k).asked) q h) (le, get-last (own k).asked (record { client = k; what = full.Cancel key }) ∙ (ap (λ (i : ℕ). let a : Ask = record { client = i; what = full.Cancel key } in Some a) (sym is.client) ∙ ap (λ (x : Key). let a : Ask = record { client = g.client; what = full.Cancel x } in Some a) (sym (ap (λ o. unwrap_or o g.key) is.live))));
      either = λ none. absurd (let x : None ≡ Some key = sym none ∙ is.live in cc);
    }))

    newest : (f : Forward) → is_free_at k key f ≡ true → (q : ℕ) → (let x : Option ℕ = Some (unanswered_cancels k fs) in x) ≡ Some q → q < unanswered_cancels f.client (change_first_forward (is_free_at k key) (ranked_at (unanswered_cancels k fs)) fs)
    newest f h q e =
        let of : f.client ≡ k = same-number f.client k (and-left (f.client == k) _ h) in
        subst (λ i. q < unanswered_cancels i (change_first_forward (is_free_at k key) (ranked_at (unanswered_cancels k fs)) fs)) (sym of) (let a = one-more k key (unanswered_cancels k fs) fs gs fit.listed any in let b = some-is (unanswered_cancels k fs) q e in omega arith)

    absent : (o : Option ℕ) (n : ℕ) → o ≡ None → is_number o n ≡ true → ⊥
    absent o n none h = let x : is_number None n ≡ true = ap (λ p. is_number p n) (sym none) ∙ h in cc

    goes_on : (at : ℕ) (what : full.Global) (j : ℕ) → HasAt at what (filter (λ g. g.client == j) gs) → HasAt at what (filter (λ g. g.client == j) (history.change_first (history.is_forwarding_free_at k key) (placed_at (length (own k).asked)) gs))
    goes_on at (full.Forward q) j h = find-any (λ (g : Forwarding). g.client == j) (request_waits_at at) _ ∙ any-changed (λ (g : Forwarding). (g.client == j) && request_waits_at at g) (history.is_forwarding_free_at k key) (placed_at (length (own k).asked)) (λ g t p. p) gs (sym (find-any (λ (g : Forwarding). g.client == j) (request_waits_at at) gs) ∙ h)
    goes_on at (full.Cancel q) j h = find-any (λ (g : Forwarding). g.client == j) (cancel_waits_at at) _ ∙ any-changed (λ (g : Forwarding). (g.client == j) && cancel_waits_at at g) (history.is_forwarding_free_at k key) (placed_at (length (own k).asked)) (λ g t p. absurd (absent g.cancel at (free-is k key g t).cancel (and-right (g.client == j) _ p))) gs (sym (find-any (λ (g : Forwarding). g.client == j) (cancel_waits_at at) gs) ∙ h)
    goes_on at full.KeepAlive j h = tt
    goes_on at full.OtherName j h = tt

    each : (j : ℕ) → lost j ≡ false → (b : Bool) → (k == j) ≡ b → EachHas (own' j) (filter (λ g. g.client == j) (history.change_first (history.is_forwarding_free_at k key) (placed_at (length (own k).asked)) gs))
    each j lives false h = subst (λ x. EachHas x (filter (λ g. g.client == j) (history.change_first (history.is_forwarding_free_at k key) (placed_at (length (own k).asked)) gs))) (sym (others j h)) (λ at b past got. goes_on at b.what j (fit.each j lives at b past got))
    each j lives true h = subst (λ x. EachHas x (filter (λ g. g.client == j) (history.change_first (history.is_forwarding_free_at k key) (placed_at (length (own k).asked)) gs))) (sym (mine j h)) (λ at b past got. by_place at b past (place-back (own j).asked (record { client = k; what = full.Cancel key }) b at got))
      where
        last : (at : ℕ) → at ≡ length (own j).asked → HasAt at (full.Cancel key) (filter (λ g. g.client == j) (history.change_first (history.is_forwarding_free_at k key) (placed_at (length (own k).asked)) gs))
        last at is =
            let there : (length (own k).asked == at) ≡ true = is-of (length (own k).asked) at (ap (λ i. length (own i).asked) (same-number k j h) ∙ sym is) in
            find-any (λ (g : Forwarding). g.client == j) (cancel_waits_at at) _
            ∙ any-first (λ (g : Forwarding). (g.client == j) && cancel_waits_at at g) (history.is_forwarding_free_at k key) (placed_at (length (own k).asked)) (λ g t. ap (λ b. b && (length (own k).asked == at)) (is-of g.client j ((free-is k key g t).client ∙ same-number k j h)) ∙ there) gs any

        by_place : (at : ℕ) (b : Ask) → (own j).replied ≤ at → (slice_get (own j).asked at ≡ Some b) ⊎ ((at ≡ length (own j).asked) × (record { client = k; what = full.Cancel key } ≡ b)) → HasAt at b.what (filter (λ g. g.client == j) (history.change_first (history.is_forwarding_free_at k key) (placed_at (length (own k).asked)) gs))
        by_place at b past (inl old) = goes_on at b.what j (fit.each j lives at b past old)
        by_place at b past (inr new) = subst (λ (u : Ask). HasAt at u.what (filter (λ g. g.client == j) (history.change_first (history.is_forwarding_free_at k key) (placed_at (length (own k).asked)) gs))) new.1 (last at new.0)
