-- Forwardings that are removed of both lists at the same places.
use Rattle.std.proofs.Common.{◌≡◌, ◌<◌, ℕ, List, [], ◌∷◌, length, true, false, Bool, refl, ◌∙◌, ap, sym, subst, None, arith, suc}
use Rattle.std.specs.Prelude.{filter, ◌==◌, ◌&&◌, is_some}
use Rattle.std.specs.List.{AllByRecursion}
use Rattle.ssh_grammar.specs.Messages as full
use Rattle.mux_history.specs.Rows.{any_of}
use Rattle.mux_history.specs.Forwardings.{Forwarding}
use Rattle.mux_history.proofs.Finds.{filter-no, filter-yes}
use Rattle.forward_rules.specs.State.{Forward}
use Rattle.forward_rules.specs.Step.{unanswered_cancels, is_leaving, is_forward_of}
use Rattle.forward_rules.specs.Stands.{AreFit, AreForwardsListed, EachHas, HasAt, IsAwaited, IsRanked, Places, request_waits_at, cancel_waits_at}
use Rattle.mux_core.proofs.Asked.{all-map}
use Rattle.mux_core.proofs.Pairs.{find-any, or-first, or-found, or-second}
use Rattle.mux_core.proofs.Removed.{all-by, count-by, kept_by, listed-by, order-by, two-by}

-- a fact of each that is removed
abbrev pub Drops : (Forwarding → Type 0) → List Bool → List Forwarding → Type 0
Drops P [] gs = Unit {0}
Drops P (b ∷ bs) [] = Unit {0}
Drops P (true ∷ bs) (g ∷ gs) = Drops P bs gs
Drops P (false ∷ bs) (g ∷ gs) = P g × Drops P bs gs

pub drops-map : (P Q : Forwarding → Type 0) → ((g : Forwarding) → P g → Q g) → (bs : List Bool) (gs : List Forwarding) → Drops P bs gs → Drops Q bs gs
drops-map P Q each [] gs all = tt
drops-map P Q each (b ∷ bs) [] all = tt
drops-map P Q each (true ∷ bs) (g ∷ gs) all = drops-map P Q each bs gs all
drops-map P Q each (false ∷ bs) (g ∷ gs) all = (each g all.0, drops-map P Q each bs gs all.1)

-- no cancel goes along
cancels-kept : (j : ℕ) (bs : List Bool) (fs : List Forward) (gs : List Forwarding) → AreForwardsListed fs gs → Drops (λ g. g.cancel ≡ None) bs gs → unanswered_cancels j (kept_by bs fs) ≡ unanswered_cancels j fs
cancels-kept j [] fs gs listed idle = refl
cancels-kept j (b ∷ bs) [] gs listed idle = refl
cancels-kept j (b ∷ bs) (f ∷ fs) [] listed idle = absurd listed
cancels-kept j (true ∷ bs) (f ∷ fs) (g ∷ gs) listed idle = by_test (cancels-kept j bs fs gs listed.1 idle) (is_leaving j f) refl
  where
    by_test : unanswered_cancels j (kept_by bs fs) ≡ unanswered_cancels j fs → (t : Bool) → is_leaving j f ≡ t → unanswered_cancels j (f ∷ kept_by bs fs) ≡ unanswered_cancels j (f ∷ fs)
    by_test ih true h = ap length (filter-yes (is_leaving j) f (kept_by bs fs) h) ∙ (ap suc ih ∙ sym (ap length (filter-yes (is_leaving j) f fs h)))
    by_test ih false h = ap length (filter-no (is_leaving j) f (kept_by bs fs) h) ∙ (ih ∙ sym (ap length (filter-no (is_leaving j) f fs h)))
cancels-kept j (false ∷ bs) (f ∷ fs) (g ∷ gs) listed idle =
    cancels-kept j bs fs gs listed.1 idle.1
    ∙ sym (ap length (filter-no (is_leaving j) f fs (ap (λ b. (f.client == j) && b) (listed.0.cancel ∙ ap is_some idle.0) ∙ never (f.client == j))))
  where
    never : (b : Bool) → (b && false) ≡ false
    never true = refl
    never false = refl

-- ---- who waits at a place still does, where it isn't taken out

any-kept : (pass : Forwarding → Bool) (bs : List Bool) (gs : List Forwarding) → Drops (λ g. pass g ≡ false) bs gs → any_of pass gs ≡ true → any_of pass (kept_by bs gs) ≡ true
any-kept pass [] gs drops there = there
any-kept pass (b ∷ bs) [] drops there = there
any-kept pass (true ∷ bs) (g ∷ gs) drops there = by_test (any-kept pass bs gs drops) (pass g) refl
  where
    by_test : (any_of pass gs ≡ true → any_of pass (kept_by bs gs) ≡ true) → (t : Bool) → pass g ≡ t → any_of pass (g ∷ kept_by bs gs) ≡ true
    by_test ih true h = or-first (pass g) (any_of pass (kept_by bs gs)) h
    by_test ih false h = or-second (pass g) (any_of pass (kept_by bs gs)) (ih (or-found (pass g) (any_of pass gs) there h))
any-kept pass (false ∷ bs) (g ∷ gs) drops there = any-kept pass bs gs drops.1 (or-found (pass g) (any_of pass gs) there drops.0)

-- it waits neither for an answer nor for its end at a place of a client
pub record WaitsNot (j place : ℕ) (g : Forwarding) : Type 0 where
  pub asked : ((g.client == j) && request_waits_at place g) ≡ false
  pub leaving : ((g.client == j) && cancel_waits_at place g) ≡ false

pub has-kept : (place : ℕ) (what : full.Global) (j : ℕ) (bs : List Bool) (gs : List Forwarding) → Drops (WaitsNot j place) bs gs → HasAt place what (filter (λ g. g.client == j) gs) → HasAt place what (filter (λ g. g.client == j) (kept_by bs gs))
has-kept place (full.Forward key) j bs gs drops h = find-any (λ (g : Forwarding). g.client == j) (request_waits_at place) (kept_by bs gs) ∙ any-kept (λ (g : Forwarding). (g.client == j) && request_waits_at place g) bs gs (drops-map (WaitsNot j place) (λ g. ((g.client == j) && request_waits_at place g) ≡ false) (λ g w. w.asked) bs gs drops) (sym (find-any (λ (g : Forwarding). g.client == j) (request_waits_at place) gs) ∙ h)
has-kept place (full.Cancel key) j bs gs drops h = find-any (λ (g : Forwarding). g.client == j) (cancel_waits_at place) (kept_by bs gs) ∙ any-kept (λ (g : Forwarding). (g.client == j) && cancel_waits_at place g) bs gs (drops-map (WaitsNot j place) (λ g. ((g.client == j) && cancel_waits_at place g) ≡ false) (λ g w. w.leaving) bs gs drops) (sym (find-any (λ (g : Forwarding). g.client == j) (cancel_waits_at place) gs) ∙ h)
has-kept place full.KeepAlive j bs gs drops h = tt
has-kept place full.OtherName j bs gs drops h = tt

-- ---- all of it

pub kept-fit : (bs : List Bool) (fs : List Forward) (gs : List Forwarding) (own own' : ℕ → Places) (lost : ℕ → Bool) → AreFit fs gs own lost → Drops (λ g. g.cancel ≡ None) bs gs → AllByRecursion (λ g. IsAwaited (own' g.client) g) (kept_by bs gs) → ((j : ℕ) → lost j ≡ false → EachHas (own' j) (filter (λ g. g.client == j) (kept_by bs gs))) → AreFit (kept_by bs fs) (kept_by bs gs) own' lost
kept-fit bs fs gs own own' lost fit idle waits each = record {
  listed = listed-by bs fs gs fit.listed;
  in_order = order-by bs fs gs fit.listed fit.in_order;
  awaited = waits;
  two = two-by bs gs fit.two;
  few = λ j. let a = count-by (is_forward_of j) bs fs in let b = fit.few j in omega arith;
  each = each;
  ranked = all-by (IsRanked (kept_by bs fs)) bs fs (all-map (IsRanked fs) (IsRanked (kept_by bs fs)) (λ f is r e. subst (λ n. r < n) (sym (cancels-kept f.client bs fs gs fit.listed idle)) (is r e)) fs fit.ranked);
}
