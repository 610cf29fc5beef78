-- The server's failure of a request for a forwarding.
use Rattle.std.proofs.Common.{◌≡◌, ◌≤◌, ◌<◌, ℕ, List, [], ◌∷◌, map, true, false, Bool, refl, ◌∙◌, ap, sym, subst, Option, Some, None, arith}
use Rattle.std.specs.Prelude.{filter, find, ◌==◌, ◌&&◌, not, is_some, is_none, slice_get}
use Rattle.std.specs.List.{AllByRecursion}
use Rattle.std.proofs.lemmas.Bool.Decides.{nat_tests}
use Rattle.ssh_grammar.specs.Messages.{Key}
use Rattle.ssh_grammar.specs.Messages as full
use Rattle.mux_history.specs.Channels.{is_number}
use Rattle.mux_history.specs.Summary.{Refuses}
use Rattle.mux_history.specs.Keys.{is_key}
use Rattle.mux_history.specs.Forwardings.{Forwarding, is_request}
use Rattle.mux_history.proofs.Bools.{same-number}
use Rattle.mux_history.proofs.CurrentSteps.{is_on}
use Rattle.mux_history.proofs.Finds.{filter-no, filter-yes, find-no}
use Rattle.mux_history.proofs.Sends.{and-left, and-right}
use Rattle.forward_rules.specs.State.{Forward}
use Rattle.forward_rules.specs.Step.{forward_answered, is_asked_with_key, without_first_forward}
use Rattle.forward_rules.specs.Stands.{AreFit, AreForwardsListed, AreTwoPlaces, EachHas, EachTwo, IsAwaited, Places}
use Rattle.forward_rules.specs.Stands as stands
use Rattle.mux_core.proofs.Dropped.{Drops, WaitsNot, drops-map, has-kept, kept-fit}
use Rattle.mux_core.proofs.Granted.{Waiting, asked-key, asks_at, before, none-is}
use Rattle.mux_core.proofs.Granting.{asked-there, asks-is, no-cancel-at, replied-sooner, waits-for}
use Rattle.mux_core.proofs.Removed.{all-by, first_out, kept_by, on-all, on-listed}
use Rattle.mux_core.proofs.Replied.{IsBystander, Replies, after, awaited-all, each-next, idle-after, idle-all, never}

-- ---- the first that was asked with a key is the one at the place

abbrev out_of : (Forward → Bool) → List Forward → List Bool
out_of test [] = []
out_of test (f ∷ fs) = elim (test f) [ true ↦ false ∷ [] | false ↦ true ∷ out_of test fs ]

without-kept : (test : Forward → Bool) (fs : List Forward) → without_first_forward test fs ≡ kept_by (out_of test fs) fs
without-kept test [] = refl
without-kept test (f ∷ fs) = by_test (without-kept test fs) (test f)
  where
    by_test : without_first_forward test fs ≡ kept_by (out_of test fs) fs → (b : Bool) → (elim b as (λ _. List Forward) [ true ↦ fs | false ↦ f ∷ without_first_forward test fs ]) ≡ kept_by (elim b as (λ _. List Bool) [ true ↦ false ∷ [] | false ↦ true ∷ out_of test fs ]) (f ∷ fs)
    by_test ih true = refl
    by_test ih false = ap (λ es. f ∷ es) ih

out-at : (test : Forward → Bool) (f : Forward) (fs : List Forward) (b : Bool) → test f ≡ b → out_of test (f ∷ fs) ≡ elim b as (λ _. List Bool) [ true ↦ false ∷ [] | false ↦ true ∷ out_of test fs ]
out-at test f fs b h = ap (λ (c : Bool). elim c as (λ _. List Bool) [ true ↦ false ∷ [] | false ↦ true ∷ out_of test fs ]) h

first-at : (test : Forwarding → Bool) (g : Forwarding) (gs : List Forwarding) (b : Bool) → test g ≡ b → first_out test (g ∷ gs) ≡ elim b as (λ _. List Bool) [ true ↦ false ∷ [] | false ↦ true ∷ first_out test gs ]
first-at test g gs b h = ap (λ (c : Bool). elim c as (λ _. List Bool) [ true ↦ false ∷ [] | false ↦ true ∷ first_out test gs ]) h

asked-out : (k place : ℕ) (key : Key) (own : Places) (fs : List Forward) (gs : List Forwarding) → AreForwardsListed fs gs → AllByRecursion (Waiting k own) gs → EachTwo gs → own.replied ≡ place → slice_get own.asked place ≡ Some (record { client = k; what = full.Forward key }) → is_some (find (asks_at k place) gs) ≡ true → out_of (is_asked_with_key k key) fs ≡ first_out (asks_at k place) gs
asked-out k place key own [] [] listed waits two at asked there = refl
asked-out k place key own [] (g ∷ gs) listed waits two at asked there = absurd listed
asked-out k place key own (f ∷ fs) [] listed waits two at asked there = absurd listed
asked-out k place key own (f ∷ fs) (g ∷ gs) listed waits two at asked there = by_case (asked-out k place key own fs gs listed.1 waits.1 two.1 at asked) (g.client == k) refl (is_none g.live) refl (g.request == place) refl
  where
    passes : (b c d : Bool) → (g.client == k) ≡ b → is_none g.live ≡ c → (g.request == place) ≡ d → asks_at k place g ≡ (b && (c && d))
    passes b c d p q r = ap (λ x. x && (is_none g.live && (g.request == place))) p ∙ (ap (λ x. b && (x && (g.request == place))) q ∙ ap (λ x. b && (c && x)) r)

    not-first : is_asked_with_key k key f ≡ false → asks_at k place g ≡ false → out_of (is_asked_with_key k key) fs ≡ first_out (asks_at k place) gs → out_of (is_asked_with_key k key) (f ∷ fs) ≡ first_out (asks_at k place) (g ∷ gs)
    not-first unasked miss tail = out-at (is_asked_with_key k key) f fs false unasked ∙ (ap (λ bs. true ∷ bs) tail ∙ sym (first-at (asks_at k place) g gs false miss))

    none-first : (b : Bool) → (b && false) ≡ false
    none-first true = refl
    none-first false = refl

    some-of : (o : Option Key) → is_none o ≡ false → is_some o ≡ true
    some-of None h = absurd (cc)
    some-of (Some q) h = refl

    by_case : (is_some (find (asks_at k place) gs) ≡ true → out_of (is_asked_with_key k key) fs ≡ first_out (asks_at k place) gs) → (b : Bool) → (g.client == k) ≡ b → (c : Bool) → is_none g.live ≡ c → (d : Bool) → (g.request == place) ≡ d → out_of (is_asked_with_key k key) (f ∷ fs) ≡ first_out (asks_at k place) (g ∷ gs)
    by_case ih true p true q true r = out-at (is_asked_with_key k key) f fs true (asked-key k place key own f g listed.0 (waits.0 p) asked p q r) ∙ sym (first-at (asks_at k place) g gs true (passes true true true p q r))
    by_case ih true p true q false r =
        let tail : is_some (find (asks_at k place) gs) ≡ true = sym (ap is_some (find-no (asks_at k place) g gs (passes true true false p q r))) ∙ there in
        absurd (before k place g gs p q (subst (λ n. n ≤ g.request) at ((waits.0 p).asked (none-is g.live q)).0) two.0 tail)
    by_case ih true p false q d r =
        let tail : is_some (find (asks_at k place) gs) ≡ true = sym (ap is_some (find-no (asks_at k place) g gs (passes true false d p q r))) ∙ there in
        not-first (ap (λ b. (f.client == k) && (not b && is_key f.key key)) (listed.0.live ∙ some-of g.live q) ∙ none-first (f.client == k)) (passes true false d p q r) (ih tail)
    by_case ih false p c q d r =
        let tail : is_some (find (asks_at k place) gs) ≡ true = sym (ap is_some (find-no (asks_at k place) g gs (passes false c d p q r))) ∙ there in
        not-first (ap (λ b. b && (not f.live && is_key f.key key)) (ap (λ i. i == k) listed.0.client ∙ p)) (passes false c d p q r) (ih tail)

-- ---- the others don't wait there

-- those after it
later-idle : (k place : ℕ) (key : Key) (own : ℕ → Places) (g : Forwarding) (gs : List Forwarding) → asks_at k place g ≡ true → slice_get (own k).asked place ≡ Some (record { client = k; what = full.Forward key }) → AllByRecursion (AreTwoPlaces g) gs → AllByRecursion (λ h. IsAwaited (own h.client) h) gs → AllByRecursion (IsBystander k place) gs
later-idle k place key own g [] at asked two waits = tt
later-idle k place key own g (h ∷ hs) at asked two waits = ((λ mine. (never (is_request h place) (λ r. both mine r), no-cancel-at k place key own h mine waits.0 asked)), later-idle k place key own g hs at asked two.1 waits.1)
  where
    clash : (a b c : ℕ) → (a == c) ≡ true → (b == c) ≡ true → a < b → ⊥
    clash a b c p q lt = grind (arith, nat_tests)

    both : (h.client == k) ≡ true → is_request h place ≡ true → ⊥
    both mine r =
        let here = and-right (g.client == k) _ at in
        clash g.request h.request place (and-right (is_none g.live) (g.request == place) here) (and-left (h.request == place) (is_none h.live) r)
        (two.0.asked (same-number g.client k (and-left (g.client == k) _ at) ∙ sym (same-number h.client k mine)) (none-is g.live (and-left (is_none g.live) _ here)) (none-is h.live (and-right (h.request == place) (is_none h.live) r)))

one-idle : (k place : ℕ) (key : Key) (own : ℕ → Places) (g : Forwarding) → asks_at k place g ≡ false → slice_get (own k).asked place ≡ Some (record { client = k; what = full.Forward key }) → IsAwaited (own g.client) g → IsBystander k place g
one-idle k place key own g miss asked w = λ mine. (sym (asks-is k place g mine) ∙ miss, no-cancel-at k place key own g mine w asked)

kept-idle : (k place : ℕ) (key : Key) (own : ℕ → Places) (gs : List Forwarding) → slice_get (own k).asked place ≡ Some (record { client = k; what = full.Forward key }) → EachTwo gs → AllByRecursion (λ h. IsAwaited (own h.client) h) gs → AllByRecursion (IsBystander k place) (kept_by (first_out (asks_at k place) gs) gs)
kept-idle k place key own [] asked two waits = tt
kept-idle k place key own (g ∷ gs) asked two waits = by_test (kept-idle k place key own gs asked two.1 waits.1) (asks_at k place g) refl
  where
    by_test : AllByRecursion (IsBystander k place) (kept_by (first_out (asks_at k place) gs) gs) → (b : Bool) → asks_at k place g ≡ b → AllByRecursion (IsBystander k place) (kept_by (first_out (asks_at k place) (g ∷ gs)) (g ∷ gs))
    by_test ih true h = subst (λ bs. AllByRecursion (IsBystander k place) (kept_by bs (g ∷ gs))) (sym (first-at (asks_at k place) g gs true h)) (later-idle k place key own g gs h asked two.0 waits.1)
    by_test ih false h = subst (λ bs. AllByRecursion (IsBystander k place) (kept_by bs (g ∷ gs))) (sym (first-at (asks_at k place) g gs false h)) (one-idle k place key own g h asked waits.0, ih)

-- ---- in the history it is over

refused-out : (k place : ℕ) (key : Key) (own : ℕ → Places) (gs : List Forwarding) → slice_get (own k).asked place ≡ Some (record { client = k; what = full.Forward key }) → EachTwo gs → AllByRecursion (λ h. IsAwaited (own h.client) h) gs → AllByRecursion (λ g. is_on g ≡ true) gs → filter is_on (map (after k place Refuses) gs) ≡ kept_by (first_out (asks_at k place) gs) gs
refused-out k place key own [] asked two waits on = refl
refused-out k place key own (g ∷ gs) asked two waits on = by_test (refused-out k place key own gs asked two.1 waits.1 on.1) (asks_at k place g) refl
  where
    over : asks_at k place g ≡ true → after k place Refuses g ≡ record g { over = true }
    over h =
        let mine = and-left (g.client == k) _ h in
        ap (λ (x : Bool). elim x as (λ _. Forwarding) [ true ↦ elim (is_request g place) as (λ _. Forwarding) [ true ↦ record g { over = true } | false ↦ elim (is_number g.cancel place) as (λ _. Forwarding) [ true ↦ record g { cancel = None } | false ↦ g ] ] | false ↦ g ]) mine
        ∙ ap (λ (x : Bool). elim x as (λ _. Forwarding) [ true ↦ record g { over = true } | false ↦ elim (is_number g.cancel place) as (λ _. Forwarding) [ true ↦ record g { cancel = None } | false ↦ g ] ]) (sym (asks-is k place g mine) ∙ h)

    by_test : filter is_on (map (after k place Refuses) gs) ≡ kept_by (first_out (asks_at k place) gs) gs → (b : Bool) → asks_at k place g ≡ b → filter is_on (map (after k place Refuses) (g ∷ gs)) ≡ kept_by (first_out (asks_at k place) (g ∷ gs)) (g ∷ gs)
    by_test ih true h =
        ap (λ (x : Forwarding). filter is_on (x ∷ map (after k place Refuses) gs)) (over h)
        ∙ (filter-no is_on (record g { over = true }) (map (after k place Refuses) gs) refl
        ∙ (ap (filter is_on) (idle-all k place Refuses gs (later-idle k place key own g gs h asked two.0 waits.1))
        ∙ (on-all gs on.1 ∙ sym (ap (λ bs. kept_by bs (g ∷ gs)) (first-at (asks_at k place) g gs true h)))))
    by_test ih false h =
        ap (λ (x : Forwarding). filter is_on (x ∷ map (after k place Refuses) gs)) (idle-after k place Refuses g (one-idle k place key own g h asked waits.0))
        ∙ (filter-yes is_on g (map (after k place Refuses) gs) on.0
        ∙ (ap (λ hs. g ∷ hs) ih ∙ sym (ap (λ bs. kept_by bs (g ∷ gs)) (first-at (asks_at k place) g gs false h))))

-- ---- the one that is out

out-is : (k place : ℕ) (own : ℕ → Places) (gs : List Forwarding) → AllByRecursion (λ h. IsAwaited (own h.client) h) gs → Drops (λ g. (asks_at k place g ≡ true) × IsAwaited (own g.client) g) (first_out (asks_at k place) gs) gs
out-is k place own [] waits = tt
out-is k place own (g ∷ gs) waits = by_test (out-is k place own gs waits.1) (asks_at k place g) refl
  where
    by_test : Drops (λ g. (asks_at k place g ≡ true) × IsAwaited (own g.client) g) (first_out (asks_at k place) gs) gs → (b : Bool) → asks_at k place g ≡ b → Drops (λ g. (asks_at k place g ≡ true) × IsAwaited (own g.client) g) (first_out (asks_at k place) (g ∷ gs)) (g ∷ gs)
    by_test ih true h = subst (λ bs. Drops (λ g. (asks_at k place g ≡ true) × IsAwaited (own g.client) g) bs (g ∷ gs)) (sym (first-at (asks_at k place) g gs true h)) ((h, waits.0), tt)
    by_test ih false h = subst (λ bs. Drops (λ g. (asks_at k place g ≡ true) × IsAwaited (own g.client) g) bs (g ∷ gs)) (sym (first-at (asks_at k place) g gs false h)) ih

idle-cancel : (k place : ℕ) (g : Forwarding) (own : Places) → asks_at k place g ≡ true → IsAwaited own g → g.cancel ≡ None
idle-cancel k place g own h w = w.either (none-is g.live (and-left (is_none g.live) (g.request == place) (and-right (g.client == k) _ h)))

waits-not : (k j place later : ℕ) (own : Places) (g : Forwarding) → ((k == j) ≡ true → place < later) → asks_at k place g ≡ true → IsAwaited own g → WaitsNot j later g
waits-not k j place later own g past h w = record {
  asked = never ((g.client == j) && stands.request_waits_at later g) (λ t.
      clash g.request place later (and-right (is_none g.live) (g.request == place) (and-right (g.client == k) _ h)) (and-right (is_none g.live) (g.request == later) (and-right (g.client == j) _ t)) (past (joined g.client (and-left (g.client == k) _ h) (and-left (g.client == j) _ t))));
  leaving = ap (λ o. (g.client == j) && is_number o later) (idle-cancel k place g own h w) ∙ no-one (g.client == j);
}
  where
    clash : (a b c : ℕ) → (a == b) ≡ true → (a == c) ≡ true → b < c → ⊥
    clash a b c p q lt = grind (arith, nat_tests)

    joined : (a : ℕ) → (a == k) ≡ true → (a == j) ≡ true → (k == j) ≡ true
    joined a p q = grind (arith, nat_tests)

    no-one : (b : Bool) → (b && false) ≡ false
    no-one true = refl
    no-one false = refl

-- ---- all of it

pub refused-fit : (k : ℕ) (key : Key) (fs : List Forward) (gs : List Forwarding) (own own' : ℕ → Places) (lost : ℕ → Bool) → AreFit fs gs own lost → Replies k own own' → lost k ≡ false → slice_get (own k).asked (own k).replied ≡ Some (record { client = k; what = full.Forward key }) → AreFit (forward_answered k key None fs) (filter is_on (map (after k (own k).replied Refuses) gs)) own' lost
refused-fit k key fs gs own own' lost fit next here asked =
    subst (λ hs. AreFit (without_first_forward (is_asked_with_key k key) fs) hs own' lost) (sym (refused-out k place key own gs asked fit.two fit.awaited (on-listed fs gs fit.listed)))
    (subst (λ es. AreFit es (kept_by bs gs) own' lost) (sym (without-kept (is_asked_with_key k key) fs ∙ ap (λ cs. kept_by cs fs) (asked-out k place key (own k) fs gs fit.listed (waits-for k own gs fit.awaited) fit.two refl asked (asked-there k key fs gs own lost fit here asked))))
    (kept-fit bs fs gs own own' lost fit
    (drops-map (λ g. (asks_at k place g ≡ true) × IsAwaited (own g.client) g) (λ g. g.cancel ≡ None) (λ g h. idle-cancel k place g (own g.client) h.0 h.1) bs gs out)
    (awaited-all k own own' (kept_by bs gs) next (all-by (λ g. IsAwaited (own g.client) g) bs gs fit.awaited) (kept-idle k place key own gs asked fit.two fit.awaited))
    (λ j lives at a late got. has-kept at a.what j bs gs (drops-map (λ g. (asks_at k place g ≡ true) × IsAwaited (own g.client) g) (WaitsNot j at) (λ g h. waits-not k j place at (own g.client) g (λ same. replied-sooner k j own own' next same at late) h.0 h.1) bs gs out)
    (each-next k j own own' (filter (λ g. g.client == j) gs) next (fit.each j lives) at a late got))))
  where
    place : ℕ
    place = (own k).replied

    bs : List Bool
    bs = first_out (asks_at k (own k).replied) gs

    out : Drops (λ g. (asks_at k (own k).replied g ≡ true) × IsAwaited (own g.client) g) (first_out (asks_at k (own k).replied) gs) gs
    out = out-is k (own k).replied own gs fit.awaited
