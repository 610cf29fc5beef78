-- Removing records a client's live forwardings one after the other, and then nothing of the client
-- is left.
use Rattle.std.proofs.Common.{◌≡◌, ℕ, List, [], ◌∷◌, map, true, false, Bool, Option, Some, None, refl, ◌∙◌, ap, sym}
use Rattle.std.specs.Prelude.{is_some, not, nat_lt, ◌-◌, ◌==◌, ◌&&◌}
use Rattle.mux_history.proofs.Finds.{filter-no, filter-yes, find-no, find-yes}
use Rattle.mux_history.proofs.Sends.{and-left}
use Rattle.forward_rules.specs.State.{Forward}
use Rattle.forward_rules.specs.Step.{is_forward_of, moved_up, forwards_without_client, without_first_forward}
use Rattle.forward_rules.specs.Taking.{after_taking, closed_up, first_live, is_live_of, moved_up_of, rest_after, recorded_forward_of, recorded_one_by_one}
use Rattle.forward_rules.proofs.Counts.{moved-client}
use Rattle.forward_rules.proofs.Places.{without-at}

-- ---- one that moves up is recorded as before

moved-some : (r : ℕ) (cancel : Option ℕ) → is_some (moved_up r cancel) ≡ is_some cancel
moved-some r None = refl
moved-some r (Some q) = by_case (nat_lt r q)
  where
    by_case : (b : Bool) → is_some (elim b as (λ _. Option ℕ) [ true ↦ Some (q - 1) | false ↦ Some q ]) ≡ true
    by_case true = refl
    by_case false = refl

moved-recorded : (k r : ℕ) (f : Forward) → recorded_forward_of (moved_up_of k r f) ≡ recorded_forward_of f
moved-recorded k r f = by_case (is_forward_of k f)
  where
    by_case : (b : Bool) → recorded_forward_of (elim b as (λ _. Forward) [ true ↦ record f { cancel = moved_up r f.cancel } | false ↦ f ]) ≡ recorded_forward_of f
    by_case true = ap (λ (b : Bool). (f.key, b)) (moved-some r f.cancel)
    by_case false = refl

moved-live : (k r : ℕ) (f : Forward) → (moved_up_of k r f).live ≡ f.live
moved-live k r f = by_case (is_forward_of k f)
  where
    by_case : (b : Bool) → (elim b as (λ _. Forward) [ true ↦ record f { cancel = moved_up r f.cancel } | false ↦ f ]).live ≡ f.live
    by_case true = refl
    by_case false = refl

moved-same : (j k r : ℕ) (f : Forward) → is_live_of j (moved_up_of k r f) ≡ is_live_of j f
moved-same j k r f = ap (λ (i : ℕ). (i == j) && (moved_up_of k r f).live) (moved-client k r f) ∙ ap (λ (b : Bool). (f.client == j) && b) (moved-live k r f)

moved-list : (j k r : ℕ) (fs : List Forward) → recorded_one_by_one j (map (moved_up_of k r) fs) ≡ recorded_one_by_one j fs
moved-list j k r [] = refl
moved-list j k r (f ∷ fs) = by_case (moved-list j k r fs) (is_live_of j f) refl
  where
    by_case : recorded_one_by_one j (map (moved_up_of k r) fs) ≡ recorded_one_by_one j fs → (b : Bool) → is_live_of j f ≡ b → recorded_one_by_one j (map (moved_up_of k r) (f ∷ fs)) ≡ recorded_one_by_one j (f ∷ fs)
    by_case ih true h = ap (map recorded_forward_of) (filter-yes (is_live_of j) (moved_up_of k r f) (map (moved_up_of k r) fs) (moved-same j k r f ∙ h)) ∙ (ap (λ t. t ∷ recorded_one_by_one j (map (moved_up_of k r) fs)) (moved-recorded k r f) ∙ (ap (λ ts. recorded_forward_of f ∷ ts) ih ∙ sym (ap (map recorded_forward_of) (filter-yes (is_live_of j) f fs h))))
    by_case ih false h = ap (map recorded_forward_of) (filter-no (is_live_of j) (moved_up_of k r f) (map (moved_up_of k r) fs) (moved-same j k r f ∙ h)) ∙ (ih ∙ sym (ap (map recorded_forward_of) (filter-no (is_live_of j) f fs h)))

closed-list : (j k : ℕ) (cancel : Option ℕ) (fs : List Forward) → recorded_one_by_one j (closed_up k cancel fs) ≡ recorded_one_by_one j fs
closed-list j k None fs = refl
closed-list j k (Some r) fs = moved-list j k r fs

-- ---- the first of them, and the rest

first-recorded : (k : ℕ) (fs : List Forward) (f : Forward) → first_live k fs ≡ Some f → recorded_one_by_one k fs ≡ recorded_forward_of f ∷ recorded_one_by_one k (without_first_forward (is_live_of k) fs)
first-recorded k [] f h = absurd (cc)
first-recorded k (g ∷ gs) f h = by_case (first-recorded k gs f) (is_live_of k g) refl
  where
    by_case : (first_live k gs ≡ Some f → recorded_one_by_one k gs ≡ recorded_forward_of f ∷ recorded_one_by_one k (without_first_forward (is_live_of k) gs)) → (b : Bool) → is_live_of k g ≡ b → recorded_one_by_one k (g ∷ gs) ≡ recorded_forward_of f ∷ recorded_one_by_one k (without_first_forward (is_live_of k) (g ∷ gs))
    by_case ih true t =
        let same : Some g ≡ Some f = sym (find-yes (is_live_of k) g gs t) ∙ h in
        let is : g ≡ f = cc in
        ap (map recorded_forward_of) (filter-yes (is_live_of k) g gs t) ∙ (ap (λ (e : Forward). recorded_forward_of e ∷ recorded_one_by_one k gs) is ∙ ap (λ hs. recorded_forward_of f ∷ recorded_one_by_one k hs) (sym (without-at (is_live_of k) g gs true t)))
    by_case ih false t =
        ap (map recorded_forward_of) (filter-no (is_live_of k) g gs t)
        ∙ (ih (sym (find-no (is_live_of k) g gs t) ∙ h)
        ∙ ap (λ ts. recorded_forward_of f ∷ ts) (sym (ap (recorded_one_by_one k) (without-at (is_live_of k) g gs false t) ∙ ap (map recorded_forward_of) (filter-no (is_live_of k) g (without_first_forward (is_live_of k) gs) t))))

pub taking-one : (k : ℕ) (fs : List Forward) (f : Forward) → first_live k fs ≡ Some f → recorded_one_by_one k fs ≡ recorded_forward_of f ∷ recorded_one_by_one k (after_taking k fs)
taking-one k fs f h = first-recorded k fs f h ∙ ap (λ ts. recorded_forward_of f ∷ ts) (sym (ap (recorded_one_by_one k) (ap (rest_after k fs) h) ∙ closed-list k k f.cancel (without_first_forward (is_live_of k) fs)))

pub taking-none : (k : ℕ) (fs : List Forward) → first_live k fs ≡ None → recorded_one_by_one k fs ≡ []
taking-none k [] h = refl
taking-none k (g ∷ gs) h = by_case (taking-none k gs) (is_live_of k g) refl
  where
    by_case : (first_live k gs ≡ None → recorded_one_by_one k gs ≡ []) → (b : Bool) → is_live_of k g ≡ b → recorded_one_by_one k (g ∷ gs) ≡ []
    by_case ih true t = absurd (let same : Some g ≡ None = sym (find-yes (is_live_of k) g gs t) ∙ h in cc)
    by_case ih false t = ap (map recorded_forward_of) (filter-no (is_live_of k) g gs t) ∙ ih (sym (find-no (is_live_of k) g gs t) ∙ h)

-- ---- the others stay as they are

without-moved : (k r : ℕ) (fs : List Forward) → forwards_without_client k (map (moved_up_of k r) fs) ≡ forwards_without_client k fs
without-moved k r [] = refl
without-moved k r (f ∷ fs) = by_case (without-moved k r fs) (is_forward_of k f) refl
  where
    other : Forward → Bool
    other g = not (is_forward_of k g)

    same : other (moved_up_of k r f) ≡ other f
    same = ap (λ (i : ℕ). not (i == k)) (moved-client k r f)

    stays : is_forward_of k f ≡ false → moved_up_of k r f ≡ f
    stays h = ap (λ (c : Bool). elim c as (λ _. Forward) [ true ↦ record f { cancel = moved_up r f.cancel } | false ↦ f ]) h

    by_case : forwards_without_client k (map (moved_up_of k r) fs) ≡ forwards_without_client k fs → (b : Bool) → is_forward_of k f ≡ b → forwards_without_client k (map (moved_up_of k r) (f ∷ fs)) ≡ forwards_without_client k (f ∷ fs)
    by_case ih true h = filter-no other (moved_up_of k r f) (map (moved_up_of k r) fs) (same ∙ ap not h) ∙ (ih ∙ sym (filter-no other f fs (ap not h)))
    by_case ih false h = filter-yes other (moved_up_of k r f) (map (moved_up_of k r) fs) (same ∙ ap not h) ∙ (ap (λ (g : Forward). g ∷ forwards_without_client k (map (moved_up_of k r) fs)) (stays h) ∙ (ap (λ gs. f ∷ gs) ih ∙ sym (filter-yes other f fs (ap not h))))

without-closed : (k : ℕ) (cancel : Option ℕ) (fs : List Forward) → forwards_without_client k (closed_up k cancel fs) ≡ forwards_without_client k fs
without-closed k None fs = refl
without-closed k (Some r) fs = without-moved k r fs

without-one : (k : ℕ) (fs : List Forward) → forwards_without_client k (without_first_forward (is_live_of k) fs) ≡ forwards_without_client k fs
without-one k [] = refl
without-one k (f ∷ fs) = by_case (without-one k fs) (is_live_of k f) refl (is_forward_of k f) refl
  where
    other : Forward → Bool
    other g = not (is_forward_of k g)

    by_case : forwards_without_client k (without_first_forward (is_live_of k) fs) ≡ forwards_without_client k fs → (b : Bool) → is_live_of k f ≡ b → (c : Bool) → is_forward_of k f ≡ c → forwards_without_client k (without_first_forward (is_live_of k) (f ∷ fs)) ≡ forwards_without_client k (f ∷ fs)
    by_case ih true h true e = ap (forwards_without_client k) (without-at (is_live_of k) f fs true h) ∙ sym (filter-no other f fs (ap not e))
    by_case ih true h false e = absurd (let own = and-left (is_forward_of k f) f.live h in cc)
    by_case ih false h true e = ap (forwards_without_client k) (without-at (is_live_of k) f fs false h) ∙ (filter-no other f (without_first_forward (is_live_of k) fs) (ap not e) ∙ (ih ∙ sym (filter-no other f fs (ap not e))))
    by_case ih false h false e = ap (forwards_without_client k) (without-at (is_live_of k) f fs false h) ∙ (filter-yes other f (without_first_forward (is_live_of k) fs) (ap not e) ∙ (ap (λ gs. f ∷ gs) ih ∙ sym (filter-yes other f fs (ap not e))))

without-twice : (k : ℕ) (fs : List Forward) → forwards_without_client k (forwards_without_client k fs) ≡ forwards_without_client k fs
without-twice k [] = refl
without-twice k (f ∷ fs) = by_case (without-twice k fs) (is_forward_of k f) refl
  where
    other : Forward → Bool
    other g = not (is_forward_of k g)

    by_case : forwards_without_client k (forwards_without_client k fs) ≡ forwards_without_client k fs → (b : Bool) → is_forward_of k f ≡ b → forwards_without_client k (forwards_without_client k (f ∷ fs)) ≡ forwards_without_client k (f ∷ fs)
    by_case ih true e = ap (forwards_without_client k) (filter-no other f fs (ap not e)) ∙ (ih ∙ sym (filter-no other f fs (ap not e)))
    by_case ih false e = ap (forwards_without_client k) (filter-yes other f fs (ap not e)) ∙ (filter-yes other f (forwards_without_client k fs) (ap not e) ∙ (ap (λ gs. f ∷ gs) ih ∙ sym (filter-yes other f fs (ap not e))))

pub taking-others : (k : ℕ) (fs : List Forward) → forwards_without_client k (after_taking k fs) ≡ forwards_without_client k fs
taking-others k fs = by_found (first_live k fs)
  where
    by_found : (o : Option Forward) → forwards_without_client k (rest_after k fs o) ≡ forwards_without_client k fs
    by_found None = without-twice k fs
    by_found (Some f) = without-closed k f.cancel (without_first_forward (is_live_of k) fs) ∙ without-one k fs
