-- A request for a forwarding, and one that cancels one, are sent: the list represents the
-- forwardings after them.
use Rattle.std.proofs.Common.{◌≡◌, ◌≤◌, ◌<◌, ℕ, List, [], ◌∷◌, ◌++◌, length, true, false, Bool, refl, ◌∙◌, ap, sym, subst, Some, None, arith, suc, zero}
use Rattle.std.specs.Prelude.{filter, ◌==◌, ◌&&◌, ◌||◌, ◌⊎◌, slice_get}
use Rattle.std.proofs.Common.{inl, inr}
use Rattle.std.specs.List.{AllByRecursion}
use Rattle.std.proofs.lemmas.Option.{slice_get_within}
use Rattle.std.proofs.lemmas.List.{append-nil}
use Rattle.std.proofs.lemmas.List.Elements.{filter-append}
use Rattle.ssh_grammar.specs.Messages.{Key}
use Rattle.ssh_grammar.specs.Messages as full
use Rattle.mux_history.specs.declared.limits.TheConstants.{MAX_FORWARDINGS}
use Rattle.mux_history.specs.Rows.{any_of}
use Rattle.mux_history.specs.Requests.{Ask}
use Rattle.mux_history.specs.Forwardings.{Forwarding}
use Rattle.mux_history.proofs.Bools.{is-of, same-number, self}
use Rattle.mux_history.proofs.Finds.{filter-no, filter-yes}
use Rattle.forward_rules.specs.State.{Forward}
use Rattle.forward_rules.specs.Step.{asked_forward, unanswered_cancels, forward_count_of, is_leaving, is_forward_of}
use Rattle.forward_rules.specs.Stands.{AreFit, AreForwardingsInOrder, AreForwardsListed, AreTwoPlaces, EachHas, EachTwo, ForwardingFits, HasAt, InOrderWith, IsAwaited, IsRanked, Places, request_waits_at, cancel_waits_at}
use Rattle.mux_core.proofs.Answering.{asked_more}
use Rattle.mux_core.proofs.Pairs.{any-append, find-any, or-first, or-second}
use Rattle.mux_core.proofs.Requested.{all-last, awaited-more}

-- ---- places

pub get-last : (us : List Ask) (a : Ask) → slice_get (us ++ a ∷ []) (length us) ≡ Some a
get-last [] a = refl
get-last (u ∷ us) a = get-last us a

-- what stands at a place before stays there; the new one stands last
pub place-back : (us : List Ask) (a b : Ask) (i : ℕ) → slice_get (us ++ a ∷ []) i ≡ Some b → (slice_get us i ≡ Some b) ⊎ ((i ≡ length us) × (a ≡ b))
place-back [] a b zero h = inr (refl, cc)
place-back [] a b (suc i) h = absurd (cc)
place-back (u ∷ us) a b zero h = inl h
place-back (u ∷ us) a b (suc i) h = by_case (place-back us a b i h)
  where
    by_case : (slice_get us i ≡ Some b) ⊎ ((i ≡ length us) × (a ≡ b)) → (slice_get us i ≡ Some b) ⊎ ((suc i ≡ suc (length us)) × (a ≡ b))
    by_case (inl old) = inl old
    by_case (inr new) = inr (ap suc new.0, new.1)

-- ---- a request for a forwarding

abbrev pub new_forwarding : ℕ → Key → ℕ → Forwarding
new_forwarding k key place = record { client = k; key = key; request = place; live = None; cancel = None; over = false }

listed-last : (f : Forward) (g : Forwarding) (fs : List Forward) (gs : List Forwarding) → AreForwardsListed fs gs → ForwardingFits f g → AreForwardsListed (fs ++ f ∷ []) (gs ++ g ∷ [])
listed-last f g [] [] all one = (one, tt)
listed-last f g [] (h ∷ hs) all one = absurd all
listed-last f g (e ∷ es) [] all one = absurd all
listed-last f g (e ∷ es) (h ∷ hs) all one = (all.0, listed-last f g es hs all.1 one)

order-with-last : (f : Forward) (g : Forwarding) (e : Forward) (h : Forwarding) → e.cancel ≡ None → (fs : List Forward) (gs : List Forwarding) → AreForwardsListed fs gs → InOrderWith f g fs gs → InOrderWith f g (fs ++ e ∷ []) (gs ++ h ∷ [])
order-with-last f g e h none [] [] listed all = (λ r q r' q' c a b d i. absurd (let x : None ≡ Some r' = sym none ∙ d in cc), tt)
order-with-last f g e h none [] (g' ∷ gs) listed all = absurd listed
order-with-last f g e h none (f' ∷ fs) [] listed all = absurd listed
order-with-last f g e h none (f' ∷ fs) (g' ∷ gs) listed all = (all.0, order-with-last f g e h none fs gs listed.1 all.1)

order-last : (e : Forward) (h : Forwarding) → e.cancel ≡ None → (fs : List Forward) (gs : List Forwarding) → AreForwardsListed fs gs → AreForwardingsInOrder fs gs → AreForwardingsInOrder (fs ++ e ∷ []) (gs ++ h ∷ [])
order-last e h none [] [] listed all = (tt, tt)
order-last e h none [] (g ∷ gs) listed all = absurd listed
order-last e h none (f ∷ fs) [] listed all = absurd listed
order-last e h none (f ∷ fs) (g ∷ gs) listed all = (order-with-last f g e h none fs gs listed.1 all.0, order-last e h none fs gs listed.1 all.1)

two-last : (h : Forwarding) (gs : List Forwarding) → AllByRecursion (λ g. AreTwoPlaces g h) gs → EachTwo gs → EachTwo (gs ++ h ∷ [])
two-last h [] before two = (tt, tt)
two-last h (g ∷ gs) before two = (all-last (AreTwoPlaces g) h before.0 gs two.0, two-last h gs before.1 two.1)

pub all-map : {X : Type 0} (P Q : X → Type 0) → ((x : X) → P x → Q x) → (xs : List X) → AllByRecursion P xs → AllByRecursion Q xs
all-map P Q each [] all = tt
all-map P Q each (x ∷ xs) all = (each x all.0, all-map P Q each xs all.1)

length-last : {X : Type 0} (xs : List X) (x : X) → length (xs ++ x ∷ []) ≡ suc (length xs)
length-last [] x = refl
length-last (y ∷ ys) x = ap suc (length-last ys x)

-- where one comes in that passes, there is one more
count-last : (test : Forward → Bool) (f : Forward) (fs : List Forward) (b : Bool) → test f ≡ b → length (filter test (fs ++ f ∷ [])) ≡ elim b as (λ _. ℕ) [ true ↦ suc (length (filter test fs)) | false ↦ length (filter test fs) ]
count-last test f fs true h = ap length (filter-append test fs (f ∷ []) ∙ ap (λ ys. filter test fs ++ ys) (filter-yes test f [] h)) ∙ length-last (filter test fs) f
count-last test f fs false h = ap length (filter-append test fs (f ∷ []) ∙ (ap (λ ys. filter test fs ++ ys) (filter-no test f [] h) ∙ append-nil (filter test fs)))

-- what each place of a client has, with more forwardings after
has-append : (place : ℕ) (what : full.Global) (k : ℕ) (gs hs : List Forwarding) → HasAt place what (filter (λ g. g.client == k) gs) → HasAt place what (filter (λ g. g.client == k) (gs ++ hs))
has-append place (full.Forward key) k gs hs h = find-any (λ (g : Forwarding). g.client == k) (request_waits_at place) (gs ++ hs) ∙ (any-append (λ (g : Forwarding). (g.client == k) && request_waits_at place g) gs hs ∙ or-first (any_of (λ (g : Forwarding). (g.client == k) && request_waits_at place g) gs) (any_of (λ (g : Forwarding). (g.client == k) && request_waits_at place g) hs) (sym (find-any (λ (g : Forwarding). g.client == k) (request_waits_at place) gs) ∙ h))
has-append place (full.Cancel key) k gs hs h = find-any (λ (g : Forwarding). g.client == k) (cancel_waits_at place) (gs ++ hs) ∙ (any-append (λ (g : Forwarding). (g.client == k) && cancel_waits_at place g) gs hs ∙ or-first (any_of (λ (g : Forwarding). (g.client == k) && cancel_waits_at place g) gs) (any_of (λ (g : Forwarding). (g.client == k) && cancel_waits_at place g) hs) (sym (find-any (λ (g : Forwarding). g.client == k) (cancel_waits_at place) gs) ∙ h))
has-append place full.KeepAlive k gs hs h = tt
has-append place full.OtherName k gs hs h = tt

pub asked-fit : (k : ℕ) (key : Key) (fs : List Forward) (gs : List Forwarding) (own own' : ℕ → Places) (lost : ℕ → Bool) → AreFit fs gs own lost → forward_count_of fs k < MAX_FORWARDINGS → (own k).replied ≤ length (own k).asked → ((j : ℕ) → (k == j) ≡ true → own' j ≡ asked_more (own j) (record { client = k; what = full.Forward key })) → ((j : ℕ) → (k == j) ≡ false → own' j ≡ own j) → AreFit (fs ++ asked_forward k key ∷ []) (gs ++ new_forwarding k key (length (own k).asked) ∷ []) own' lost
asked-fit k key fs gs own own' lost fit room le mine others = record {
  listed = listed-last f new fs gs fit.listed (record { client = refl; key = refl; live = refl; cancel = refl; on = refl });
  in_order = order-last f new refl fs gs fit.listed fit.in_order;
  awaited = all-last (λ g. IsAwaited (own' g.client) g) new here gs (all-map (λ g. IsAwaited (own g.client) g) (λ g. IsAwaited (own' g.client) g) (λ g w. one g w (k == g.client) refl) gs fit.awaited);
  two = two-last new gs (all-map (λ g. IsAwaited (own g.client) g) (λ g. AreTwoPlaces g new) before gs fit.awaited) fit.two;
  few = λ j. few j (k == j) refl;
  each = λ j lives. each j lives (k == j) refl;
  ranked = all-last (IsRanked (fs ++ f ∷ [])) f (λ r e. absurd (let x : None ≡ Some r = e in cc)) fs (all-map (IsRanked fs) (IsRanked (fs ++ f ∷ [])) (λ e is r h. subst (λ n. r < n) (sym (same-cancels e.client)) (is r h)) fs fit.ranked);
}
  where
    what : full.Global
    what = full.Forward key

    a : Ask
    a = record { client = k; what = full.Forward key }

    f : Forward
    f = asked_forward k key

    new : Forwarding
    new = new_forwarding k key (length (own k).asked)

    here : IsAwaited (own' k) (new_forwarding k key (length (own k).asked))
    here = subst (λ x. IsAwaited x (new_forwarding k key (length (own k).asked))) (sym (mine k (self k))) (record {
      asked = λ h. (le, get-last (own k).asked (record { client = k; what = full.Forward key }));
      leaving = λ q h. absurd (cc);
      either = λ h. refl;
    })

    one : (g : Forwarding) → IsAwaited (own g.client) g → (b : Bool) → (k == g.client) ≡ b → IsAwaited (own' g.client) g
    one g w true h = subst (λ x. IsAwaited x g) (sym (mine g.client h)) (awaited-more (own g.client) (record { client = k; what = full.Forward key }) g w)
    one g w false h = subst (λ x. IsAwaited x g) (sym (others g.client h)) w

    before : (g : Forwarding) → IsAwaited (own g.client) g → AreTwoPlaces g (new_forwarding k key (length (own k).asked))
    before g w = record {
      asked = λ same idle none. subst (λ j. g.request < length (own j).asked) same (slice_get_within (own g.client).asked g.request _ (w.asked idle).1);
      leaving = λ q same p n. absurd (let x : None ≡ Some q = n in cc);
    }

    few : (j : ℕ) (b : Bool) → (k == j) ≡ b → forward_count_of (fs ++ asked_forward k key ∷ []) j ≤ MAX_FORWARDINGS
    few j true h = subst (λ n. n ≤ MAX_FORWARDINGS) (sym (count-last (is_forward_of j) (asked_forward k key) fs true h)) (let r = subst (λ i. forward_count_of fs i < MAX_FORWARDINGS) (same-number k j h) room in omega arith)
    few j false h = subst (λ n. n ≤ MAX_FORWARDINGS) (sym (count-last (is_forward_of j) (asked_forward k key) fs false h)) (fit.few j)

    never : (b : Bool) → (b && false) ≡ false
    never true = refl
    never false = refl

    same-cancels : (j : ℕ) → unanswered_cancels j (fs ++ asked_forward k key ∷ []) ≡ unanswered_cancels j fs
    same-cancels j = count-last (is_leaving j) (asked_forward k key) fs false (never (k == j))

    each : (j : ℕ) → lost j ≡ false → (b : Bool) → (k == j) ≡ b → EachHas (own' j) (filter (λ g. g.client == j) (gs ++ new_forwarding k key (length (own k).asked) ∷ []))
    each j lives false h = subst (λ x. EachHas x (filter (λ g. g.client == j) (gs ++ new_forwarding k key (length (own k).asked) ∷ []))) (sym (others j h)) (λ place b past at. has-append place b.what j gs (new_forwarding k key (length (own k).asked) ∷ []) (fit.each j lives place b past at))
    each j lives true h = subst (λ x. EachHas x (filter (λ g. g.client == j) (gs ++ new_forwarding k key (length (own k).asked) ∷ []))) (sym (mine j h)) (λ place b past at. by_place place b past (place-back (own j).asked (record { client = k; what = full.Forward key }) b place at))
      where
        last : (place : ℕ) → place ≡ length (own j).asked → HasAt place (full.Forward key) (filter (λ g. g.client == j) (gs ++ new_forwarding k key (length (own k).asked) ∷ []))
        last place at =
            let there : (length (own k).asked == place) ≡ true = is-of (length (own k).asked) place (ap (λ i. length (own i).asked) (same-number k j h) ∙ sym at) in
            find-any (λ (g : Forwarding). g.client == j) (request_waits_at place) (gs ++ new_forwarding k key (length (own k).asked) ∷ [])
            ∙ (any-append (λ (g : Forwarding). (g.client == j) && request_waits_at place g) gs (new_forwarding k key (length (own k).asked) ∷ [])
            ∙ or-second (any_of (λ (g : Forwarding). (g.client == j) && request_waits_at place g) gs) _ (ap (λ b. (b && (length (own k).asked == place)) || false) h ∙ ap (λ b. b || false) there))

        by_place : (place : ℕ) (b : Ask) → (own j).replied ≤ place → (slice_get (own j).asked place ≡ Some b) ⊎ ((place ≡ length (own j).asked) × (record { client = k; what = full.Forward key } ≡ b)) → HasAt place b.what (filter (λ g. g.client == j) (gs ++ new_forwarding k key (length (own k).asked) ∷ []))
        by_place place b past (inl old) = has-append place b.what j gs (new_forwarding k key (length (own k).asked) ∷ []) (fit.each j lives place b past old)
        by_place place b past (inr new) = subst (λ (u : Ask). HasAt place u.what (filter (λ g. g.client == j) (gs ++ new_forwarding k key (length (own k).asked) ∷ []))) new.1 (last place new.0)
