-- The server's answer to a cancel: what becomes of each forwarding, and of the order of all.
use Rattle.std.proofs.Common.{◌≡◌, ◌<◌, ◌-◌, ℕ, List, [], ◌∷◌, map, true, false, Bool, refl, ◌∙◌, ap, sym, subst, Option, Some, None, arith}
use Rattle.std.specs.Prelude.{◌==◌, ◌&&◌, is_some, nat_lt}
use Rattle.std.proofs.lemmas.Bool.Decides.{nat_tests}
use Rattle.mux_history.specs.Channels.{is_number}
use Rattle.mux_history.specs.Forwardings.{Forwarding}
use Rattle.forward_rules.specs.State.{Forward}
use Rattle.forward_rules.specs.Step.{is_forward_of, moved_up, without_cancel_of}
use Rattle.forward_rules.specs.Stands.{AreForwardingsInOrder, AreForwardsListed, ForwardingFits, InOrder, InOrderWith, Places}
use Rattle.mux_core.proofs.Ranking.{AllPairs, Known, leaves_at, same-cancelled}
use Rattle.mux_core.proofs.Replied.{number-is}

-- ---- one pair

-- in the history it is free again
abbrev pub released : ℕ → ℕ → Forwarding → Forwarding
released k place g = elim (leaves_at k place g) [ true ↦ record g { cancel = None } | false ↦ g ]

-- what becomes of a pair: it is another client's, the one that is meant, or another one of the
-- client
pub data Seen (k place rank : ℕ) (f : Forward) (g : Forwarding) : Type 0 where
  Other : (g.client == k) ≡ false → without_cancel_of k rank f ≡ f → released k place g ≡ g → Seen k place rank f g
  Meant : (g.client == k) ≡ true → f.cancel ≡ Some rank → g.cancel ≡ Some place → without_cancel_of k rank f ≡ record f { cancel = None } → released k place g ≡ record g { cancel = None } → Seen k place rank f g
  Later : (g.client == k) ≡ true → is_number f.cancel rank ≡ false → is_number g.cancel place ≡ false → without_cancel_of k rank f ≡ record f { cancel = moved_up rank f.cancel } → released k place g ≡ g → Seen k place rank f g

pub released-at : (k place : ℕ) (g : Forwarding) (b : Bool) → leaves_at k place g ≡ b → released k place g ≡ elim b as (λ _. Forwarding) [ true ↦ record g { cancel = None } | false ↦ g ]
released-at k place g b h = ap (λ (c : Bool). elim c as (λ _. Forwarding) [ true ↦ record g { cancel = None } | false ↦ g ]) h

moved-at : (k rank : ℕ) (f : Forward) (b c : Bool) → is_forward_of k f ≡ b → is_number f.cancel rank ≡ c → without_cancel_of k rank f ≡ elim b as (λ _. Forward) [ true ↦ elim c as (λ _. Forward) [ true ↦ record f { cancel = None } | false ↦ record f { cancel = moved_up rank f.cancel } ] | false ↦ f ]
moved-at k rank f b c h g =
    ap (λ (x : Bool). elim x as (λ _. Forward) [ true ↦ elim (is_number f.cancel rank) as (λ _. Forward) [ true ↦ record f { cancel = None } | false ↦ record f { cancel = moved_up rank f.cancel } ] | false ↦ f ]) h
    ∙ ap (λ (x : Bool). elim b as (λ _. Forward) [ true ↦ elim x as (λ _. Forward) [ true ↦ record f { cancel = None } | false ↦ record f { cancel = moved_up rank f.cancel } ] | false ↦ f ]) g

seen : (k place rank : ℕ) (own : ℕ → Places) (f : Forward) (g : Forwarding) → Known k place rank own f g → Seen k place rank f g
seen k place rank own f g known = by_client (g.client == k) refl (is_number g.cancel place) refl
  where
    theirs : is_forward_of k f ≡ (g.client == k)
    theirs = ap (λ i. i == k) known.fits.client

    cancelled : (g.client == k) ≡ true → is_number f.cancel rank ≡ is_number g.cancel place
    cancelled h = sym (ap (λ b. b && is_number f.cancel rank) (theirs ∙ h)) ∙ (same-cancelled k place rank own f g known ∙ ap (λ b. b && is_number g.cancel place) h)

    by_client : (b : Bool) → (g.client == k) ≡ b → (c : Bool) → is_number g.cancel place ≡ c → Seen k place rank f g
    by_client false h c e = Other h (moved-at k rank f false (is_number f.cancel rank) (theirs ∙ h) refl) (released-at k place g false (ap (λ b. b && is_number g.cancel place) h))
    by_client true h true e = Meant h (number-is f.cancel rank (cancelled h ∙ e)) (number-is g.cancel place e) (moved-at k rank f true true (theirs ∙ h) (cancelled h ∙ e)) (released-at k place g true (ap (λ b. b && is_number g.cancel place) h ∙ e))
    by_client true h false e = Later h (cancelled h ∙ e) e (moved-at k rank f true false (theirs ∙ h) (cancelled h ∙ e)) (released-at k place g false (ap (λ b. b && is_number g.cancel place) h ∙ e))

pub seen-all : (k place rank : ℕ) (own : ℕ → Places) (fs : List Forward) (gs : List Forwarding) → AllPairs (Known k place rank own) fs gs → AllPairs (Seen k place rank) fs gs
seen-all k place rank own [] [] known = tt
seen-all k place rank own [] (g ∷ gs) known = absurd known
seen-all k place rank own (f ∷ fs) [] known = absurd known
seen-all k place rank own (f ∷ fs) (g ∷ gs) known = (seen k place rank own f g known.0, seen-all k place rank own fs gs known.1)

-- ---- both lists after it

pub moved-some : (rank : ℕ) (o : Option ℕ) → is_some (moved_up rank o) ≡ is_some o
moved-some rank None = refl
moved-some rank (Some q) = elim (nat_lt rank q) as (λ b. is_some (elim b as (λ _. Option ℕ) [ true ↦ Some (q - 1) | false ↦ Some q ]) ≡ true) [ true ↦ refl | false ↦ refl ]

fits-after : (k place rank : ℕ) (f : Forward) (g : Forwarding) → Seen k place rank f g → ForwardingFits f g → ForwardingFits (without_cancel_of k rank f) (released k place g)
fits-after k place rank f g (Other h a b) fits = subst (λ e. ForwardingFits e (released k place g)) (sym a) (subst (ForwardingFits f) (sym b) fits)
fits-after k place rank f g (Meant h x y a b) fits = subst (λ e. ForwardingFits e (released k place g)) (sym a) (subst (ForwardingFits (record f { cancel = None })) (sym b) (record { client = fits.client; key = fits.key; live = fits.live; cancel = refl; on = fits.on }))
fits-after k place rank f g (Later h x y a b) fits = subst (λ e. ForwardingFits e (released k place g)) (sym a) (subst (ForwardingFits (record f { cancel = moved_up rank f.cancel })) (sym b) (record { client = fits.client; key = fits.key; live = fits.live; cancel = moved-some rank f.cancel ∙ fits.cancel; on = fits.on }))

pub listed-after : (k place rank : ℕ) (fs : List Forward) (gs : List Forwarding) → AllPairs (Seen k place rank) fs gs → AreForwardsListed fs gs → AreForwardsListed (map (without_cancel_of k rank) fs) (map (released k place) gs)
listed-after k place rank [] [] all listed = tt
listed-after k place rank [] (g ∷ gs) all listed = absurd listed
listed-after k place rank (f ∷ fs) [] all listed = absurd listed
listed-after k place rank (f ∷ fs) (g ∷ gs) all listed = (fits-after k place rank f g all.0 listed.0, listed-after k place rank fs gs all.1 listed.1)

-- where an earlier cancel is answered
abbrev pub up : ℕ → ℕ → ℕ
up rank q = elim (nat_lt rank q) [ true ↦ q - 1 | false ↦ q ]

pub up-some : (rank q : ℕ) → moved_up rank (Some q) ≡ Some (up rank q)
up-some rank q = elim (nat_lt rank q) as (λ b. (elim b as (λ _. Option ℕ) [ true ↦ Some (q - 1) | false ↦ Some q ]) ≡ Some (elim b as (λ _. ℕ) [ true ↦ q - 1 | false ↦ q ])) [ true ↦ refl | false ↦ refl ]

-- what it was before, where a cancel is left
pub record Was (k rank : ℕ) (f : Forward) (g : Forwarding) (r q : ℕ) : Type 0 where
  pub before : ℕ
  pub kept : f.cancel ≡ Some before
  pub place : g.cancel ≡ Some q
  pub mine : (g.client == k) ≡ true → ((before == rank) ≡ false) × (r ≡ up rank before)
  pub others : (g.client == k) ≡ false → r ≡ before

pub some-is : (a b : ℕ) → (let x : Option ℕ = Some a in x) ≡ Some b → a ≡ b
some-is a b h = cc

was : (k place rank : ℕ) (f : Forward) (g : Forwarding) (r q : ℕ) → Seen k place rank f g → (without_cancel_of k rank f).cancel ≡ Some r → (released k place g).cancel ≡ Some q → Was k rank f g r q
was k place rank f g r q (Other h a b) c d = record {
  before = r;
  kept = sym (ap (λ (e : Forward). e.cancel) a) ∙ c;
  place = sym (ap (λ (e : Forwarding). e.cancel) b) ∙ d;
  mine = λ m. absurd (let x : true ≡ false = sym m ∙ h in cc);
  others = λ m. refl;
}
was k place rank f g r q (Meant h x y a b) c d = absurd (let n : None ≡ Some r = sym (ap (λ (e : Forward). e.cancel) a) ∙ c in cc)
was k place rank f g r q (Later h x y a b) c d = by_cancel f.cancel refl
  where
    by_cancel : (o : Option ℕ) → f.cancel ≡ o → Was k rank f g r q
    by_cancel None e = absurd (let n : None ≡ Some r = sym (ap (moved_up rank) e) ∙ (sym (ap (λ (u : Forward). u.cancel) a) ∙ c) in cc)
    by_cancel (Some before) e = record {
      before = before;
      kept = e;
      place = sym (ap (λ (u : Forwarding). u.cancel) b) ∙ d;
      mine = λ m. (sym (ap (λ o. is_number o rank) e) ∙ x, sym (some-is (up rank before) r (sym (up-some rank before) ∙ (sym (ap (moved_up rank) e) ∙ (sym (ap (λ (u : Forward). u.cancel) a) ∙ c)))));
      others = λ m. absurd (let n : true ≡ false = sym h ∙ m in cc);
    }

-- moving up keeps the order of those that are left
up-order : (rank a b : ℕ) → (a == rank) ≡ false → (b == rank) ≡ false → nat_lt (up rank a) (up rank b) ≡ nat_lt a b
up-order rank a b p q = by_tests (nat_lt rank a) refl (nat_lt rank b) refl
  where
    less : (c d e f : ℕ) → (c < d → e < f) → (e < f → c < d) → nat_lt c d ≡ nat_lt e f
    less c d e f to from = by_both (nat_lt c d) refl (nat_lt e f) refl
      where
        yes-lt : (i j : ℕ) → nat_lt i j ≡ true → i < j
        yes-lt i j h = grind (arith, nat_tests)

        no-lt : (i j : ℕ) → nat_lt i j ≡ false → i < j → ⊥
        no-lt i j h l = grind (arith, nat_tests)

        by_both : (x : Bool) → nat_lt c d ≡ x → (y : Bool) → nat_lt e f ≡ y → nat_lt c d ≡ nat_lt e f
        by_both true u true v = u ∙ sym v
        by_both false u false v = u ∙ sym v
        by_both true u false v = absurd (let w = to (yes-lt c d u) in no-lt e f v w)
        by_both false u true v = absurd (let w = from (yes-lt e f v) in no-lt c d u w)

    above : (i : ℕ) → nat_lt rank i ≡ true → rank < i
    above i h = grind (arith, nat_tests)

    below : (i : ℕ) → nat_lt rank i ≡ false → (i == rank) ≡ false → i < rank
    below i h n = grind (arith, nat_tests)

    at : (i : ℕ) (x : Bool) → nat_lt rank i ≡ x → up rank i ≡ elim x as (λ _. ℕ) [ true ↦ i - 1 | false ↦ i ]
    at i x h = ap (λ (c : Bool). elim c as (λ _. ℕ) [ true ↦ i - 1 | false ↦ i ]) h

    by_tests : (x : Bool) → nat_lt rank a ≡ x → (y : Bool) → nat_lt rank b ≡ y → nat_lt (up rank a) (up rank b) ≡ nat_lt a b
    by_tests true u true v =
        let la = above a u in let lb = above b v in
        ap (λ i. nat_lt i (up rank b)) (at a true u) ∙ (ap (λ i. nat_lt (a - 1) i) (at b true v) ∙ less (a - 1) (b - 1) a b (λ h. omega arith) (λ h. omega arith))
    by_tests true u false v =
        let la = above a u in let lb = below b v q in
        ap (λ i. nat_lt i (up rank b)) (at a true u) ∙ (ap (λ i. nat_lt (a - 1) i) (at b false v) ∙ less (a - 1) b a b (λ h. absurd (omega arith)) (λ h. absurd (omega arith)))
    by_tests false u true v =
        let la = below a u p in let lb = above b v in
        ap (λ i. nat_lt i (up rank b)) (at a false u) ∙ (ap (λ i. nat_lt a i) (at b true v) ∙ less a (b - 1) a b (λ h. omega arith) (λ h. omega arith))
    by_tests false u false v = ap (λ i. nat_lt i (up rank b)) (at a false u) ∙ ap (λ i. nat_lt a i) (at b false v)

same-client : (k place : ℕ) (g : Forwarding) → (released k place g).client ≡ g.client
same-client k place g = elim (leaves_at k place g) as (λ b. (elim b as (λ _. Forwarding) [ true ↦ record g { cancel = None } | false ↦ g ]).client ≡ g.client) [ true ↦ refl | false ↦ refl ]

order-one : (k place rank : ℕ) (f : Forward) (g : Forwarding) (e : Forward) (h : Forwarding) → Seen k place rank f g → Seen k place rank e h → InOrder f g e h → InOrder (without_cancel_of k rank f) (released k place g) (without_cancel_of k rank e) (released k place h)
order-one k place rank f g e h sf se order = λ r q r' q' same a b c d.
    by_client r q r' q' (sym (same-client k place g) ∙ (same ∙ same-client k place h)) (was k place rank f g r q sf a b) (was k place rank e h r' q' se c d) (g.client == k) refl
  where
    by_client : (r q r' q' : ℕ) → g.client ≡ h.client → (u : Was k rank f g r q) → (v : Was k rank e h r' q') → (t : Bool) → (g.client == k) ≡ t → (nat_lt r r' ≡ nat_lt q q') × (nat_lt r' r ≡ nat_lt q' q)
    by_client r q r' q' same u v true m =
        let n : (h.client == k) ≡ true = ap (λ i. i == k) (sym same) ∙ m in
        let o = order u.before q v.before q' same u.kept u.place v.kept v.place in
        let x = u.mine m in
        let y = v.mine n in (
          ap (λ i. nat_lt i r') x.1 ∙ (ap (λ i. nat_lt (up rank u.before) i) y.1 ∙ (up-order rank u.before v.before x.0 y.0 ∙ o.0)),
          ap (λ i. nat_lt i r) y.1 ∙ (ap (λ i. nat_lt (up rank v.before) i) x.1 ∙ (up-order rank v.before u.before y.0 x.0 ∙ o.1)),
        )
    by_client r q r' q' same u v false m =
        let n : (h.client == k) ≡ false = ap (λ i. i == k) (sym same) ∙ m in
        let o = order u.before q v.before q' same u.kept u.place v.kept v.place in (
          ap (λ i. nat_lt i r') (u.others m) ∙ (ap (λ i. nat_lt u.before i) (v.others n) ∙ o.0),
          ap (λ i. nat_lt i r) (v.others n) ∙ (ap (λ i. nat_lt v.before i) (u.others m) ∙ o.1),
        )

order-with : (k place rank : ℕ) (f : Forward) (g : Forwarding) → Seen k place rank f g → (fs : List Forward) (gs : List Forwarding) → AllPairs (Seen k place rank) fs gs → InOrderWith f g fs gs → InOrderWith (without_cancel_of k rank f) (released k place g) (map (without_cancel_of k rank) fs) (map (released k place) gs)
order-with k place rank f g sf [] gs all order = tt
order-with k place rank f g sf (e ∷ es) [] all order = absurd all
order-with k place rank f g sf (e ∷ es) (h ∷ hs) all order = (order-one k place rank f g e h sf all.0 order.0, order-with k place rank f g sf es hs all.1 order.1)

pub order-after : (k place rank : ℕ) (fs : List Forward) (gs : List Forwarding) → AllPairs (Seen k place rank) fs gs → AreForwardingsInOrder fs gs → AreForwardingsInOrder (map (without_cancel_of k rank) fs) (map (released k place) gs)
order-after k place rank [] gs all order = tt
order-after k place rank (f ∷ fs) [] all order = absurd all
order-after k place rank (f ∷ fs) (g ∷ gs) all order = (order-with k place rank f g all.0 fs gs all.1 order.0, order-after k place rank fs gs all.1 order.1)
