-- The cancel that the server's reply answers: of the client's that have none, it was sent first, in
-- the list as in the history.
use Rattle.std.proofs.Common.{◌≡◌, ◌≤◌, ℕ, List, [], ◌∷◌, true, false, Bool, refl, ◌∙◌, ap, sym, subst, Option, Some, None, arith}
use Rattle.std.specs.Prelude.{◌==◌, ◌&&◌, is_some, nat_lt, min, unwrap_or, slice_get}
use Rattle.std.specs.List.{AllByRecursion}
use Rattle.std.proofs.lemmas.Bool.Decides.{nat_tests}
use Rattle.ssh_grammar.specs.Messages.{Key}
use Rattle.ssh_grammar.specs.Messages as full
use Rattle.mux_history.specs.Channels.{is_number}
use Rattle.mux_history.specs.Keys.{is_key}
use Rattle.mux_history.specs.Rows.{any_of}
use Rattle.mux_history.specs.Forwardings.{Forwarding}
use Rattle.mux_history.proofs.Bools.{same-number}
use Rattle.mux_history.proofs.SameKeys.{is-key}
use Rattle.mux_history.proofs.Sends.{and-left, and-right}
use Rattle.forward_rules.specs.State.{Forward}
use Rattle.forward_rules.specs.Step.{smaller_place, first_cancel, is_cancelled_at, is_leaving_with_key}
use Rattle.forward_rules.specs.Stands.{AreForwardingsInOrder, AreForwardsListed, AreTwoPlaces, EachTwo, ForwardingFits, InOrderWith, IsAwaited, Places}
use Rattle.mux_core.proofs.Pairs.{or-found}
use Rattle.mux_core.proofs.Replied.{cancel-is, number-is, own-of}

-- ---- pairs of the two lists

abbrev pub AllPairs : (Forward → Forwarding → Type 0) → List Forward → List Forwarding → Type 0
AllPairs P [] [] = Unit {0}
AllPairs P [] (g ∷ gs) = ⊥
AllPairs P (f ∷ fs) [] = ⊥
AllPairs P (f ∷ fs) (g ∷ gs) = P f g × AllPairs P fs gs

-- the cancel of this client at this place means it
abbrev pub leaves_at : ℕ → ℕ → Forwarding → Bool
leaves_at k place g = (g.client == k) && is_number g.cancel place

-- its rank among the client's cancels is as its place to that place
pub record Sits (k place rank : ℕ) (f : Forward) (g : Forwarding) : Type 0 where
  pub meets : leaves_at k place g ≡ true → f.cancel ≡ Some rank
  pub order : (r q : ℕ) → g.client ≡ k → f.cancel ≡ Some r → g.cancel ≡ Some q → (nat_lt r rank ≡ nat_lt q place) × (nat_lt rank r ≡ nat_lt place q)

pub record RankOf (k place : ℕ) (fs : List Forward) (gs : List Forwarding) : Type 0 where
  pub rank : ℕ
  pub each : AllPairs (Sits k place rank) fs gs

some-is : (a b : ℕ) → (let x : Option ℕ = Some a in x) ≡ Some b → a ≡ b
some-is a b h = cc

-- those after the one that is meant
behind : (k place rank : ℕ) (f : Forward) (g : Forwarding) → g.client ≡ k → f.cancel ≡ Some rank → g.cancel ≡ Some place → (fs : List Forward) (gs : List Forwarding) → AreForwardsListed fs gs → InOrderWith f g fs gs → AllByRecursion (AreTwoPlaces g) gs → AllPairs (Sits k place rank) fs gs
behind k place rank f g mine cf cg [] [] listed order two = tt
behind k place rank f g mine cf cg [] (h ∷ hs) listed order two = absurd listed
behind k place rank f g mine cf cg (e ∷ es) [] listed order two = absurd listed
behind k place rank f g mine cf cg (e ∷ es) (h ∷ hs) listed order two = (
  record {
    meets = λ at. absurd (two.0.leaving place (mine ∙ sym (same-number h.client k (and-left (h.client == k) _ at))) cg (number-is h.cancel place (and-right (h.client == k) _ at)));
    order = λ r q same a b. let o = order.0 rank place r q (mine ∙ sym same) cf cg a b in (o.1, o.0);
  },
  behind k place rank f g mine cf cg es hs listed.1 order.1 two.1,
)

-- one before the one that is meant
ahead : (k place rank : ℕ) (f : Forward) (g : Forwarding) (fs : List Forward) (gs : List Forwarding) → InOrderWith f g fs gs → AllPairs (Sits k place rank) fs gs → any_of (leaves_at k place) gs ≡ true → (r q : ℕ) → g.client ≡ k → f.cancel ≡ Some r → g.cancel ≡ Some q → (nat_lt r rank ≡ nat_lt q place) × (nat_lt rank r ≡ nat_lt place q)
ahead k place rank f g [] [] order sits there r q mine a b = cc
ahead k place rank f g [] (h ∷ hs) order sits there r q mine a b = absurd sits
ahead k place rank f g (e ∷ es) [] order sits there r q mine a b = absurd sits
ahead k place rank f g (e ∷ es) (h ∷ hs) order sits there r q mine a b = by_test (λ tail. ahead k place rank f g es hs order.1 sits.1 tail r q mine a b) (leaves_at k place h) refl
  where
    by_test : (any_of (leaves_at k place) hs ≡ true → (nat_lt r rank ≡ nat_lt q place) × (nat_lt rank r ≡ nat_lt place q)) → (t : Bool) → leaves_at k place h ≡ t → (nat_lt r rank ≡ nat_lt q place) × (nat_lt rank r ≡ nat_lt place q)
    by_test ih true t = order.0 r q rank place (mine ∙ sym (same-number h.client k (and-left (h.client == k) _ t))) a b (sits.0.meets t) (number-is h.cancel place (and-right (h.client == k) _ t))
    by_test ih false t = ih (or-found (leaves_at k place h) (any_of (leaves_at k place) hs) there t)

pub rank-of : (k place : ℕ) (fs : List Forward) (gs : List Forwarding) → AreForwardsListed fs gs → AreForwardingsInOrder fs gs → EachTwo gs → any_of (leaves_at k place) gs ≡ true → RankOf k place fs gs
rank-of k place [] [] listed order two there = absurd (cc)
rank-of k place [] (g ∷ gs) listed order two there = absurd listed
rank-of k place (f ∷ fs) [] listed order two there = absurd listed
rank-of k place (f ∷ fs) (g ∷ gs) listed order two there = by_test (rank-of k place fs gs listed.1 order.1 two.1) (leaves_at k place g) refl
  where
    found : (o : Option ℕ) → f.cancel ≡ o → leaves_at k place g ≡ true → RankOf k place (f ∷ fs) (g ∷ gs)
    found None e t =
        absurd (let x : is_some (let y : Option ℕ = None in y) ≡ true = ap is_some (sym e) ∙ (listed.0.cancel ∙ ap is_some (number-is g.cancel place (and-right (g.client == k) _ t))) in cc)
    found (Some rank) e t =
        let at = number-is g.cancel place (and-right (g.client == k) _ t) in
        record {
          rank = rank;
          each = (
            record {
              meets = λ _. e;
              order = λ r q same a b.
                  let ra : rank ≡ r = some-is rank r (sym e ∙ a) in
                  let pq : place ≡ q = some-is place q (sym at ∙ b) in
                  (ap (λ n. nat_lt n rank) (sym ra) ∙ (same-lt rank place ∙ ap (λ n. nat_lt n place) pq), ap (λ n. nat_lt rank n) (sym ra) ∙ (same-lt rank place ∙ ap (λ n. nat_lt place n) pq));
            },
            behind k place rank f g (same-number g.client k (and-left (g.client == k) _ t)) e at fs gs listed.1 order.0 two.0,
          );
        }
      where
        same-lt : (a b : ℕ) → nat_lt a a ≡ nat_lt b b
        same-lt a b = grind (arith, nat_tests)

    by_test : (any_of (leaves_at k place) gs ≡ true → RankOf k place fs gs) → (b : Bool) → leaves_at k place g ≡ b → RankOf k place (f ∷ fs) (g ∷ gs)
    by_test ih true t = found f.cancel refl t
    by_test ih false t =
        let tail = or-found (leaves_at k place g) (any_of (leaves_at k place) gs) there t in
        let later = ih tail in
        record {
          rank = later.rank;
          each = (
            record {
              meets = λ at. absurd (let x : true ≡ false = sym at ∙ t in cc);
              order = λ r q same a b. ahead k place later.rank f g fs gs order.0 later.each tail r q same a b;
            },
            later.each,
          );
        }

-- ---- what is known of each pair

pub record Known (k place rank : ℕ) (own : ℕ → Places) (f : Forward) (g : Forwarding) : Type 0 where
  pub fits : ForwardingFits f g
  pub waits : IsAwaited (own g.client) g
  pub sits : Sits k place rank f g

pub known-all : (k place rank : ℕ) (own : ℕ → Places) (fs : List Forward) (gs : List Forwarding) → AreForwardsListed fs gs → AllByRecursion (λ g. IsAwaited (own g.client) g) gs → AllPairs (Sits k place rank) fs gs → AllPairs (Known k place rank own) fs gs
known-all k place rank own [] [] listed waits sits = tt
known-all k place rank own [] (g ∷ gs) listed waits sits = absurd listed
known-all k place rank own (f ∷ fs) [] listed waits sits = absurd listed
known-all k place rank own (f ∷ fs) (g ∷ gs) listed waits sits = (record { fits = listed.0; waits = waits.0; sits = sits.0 }, known-all k place rank own fs gs listed.1 waits.1 sits.1)

same-test : (a b c d : ℕ) → nat_lt a b ≡ nat_lt c d → nat_lt b a ≡ nat_lt d c → (a == b) ≡ (c == d)
same-test a b c d h g = by_tests (a == b) refl (c == d) refl
  where
    left : (a b c d : ℕ) → nat_lt a b ≡ nat_lt c d → nat_lt b a ≡ nat_lt d c → (a == b) ≡ true → (c == d) ≡ false → ⊥
    left a b c d h g p q = by_order (nat_lt c d) refl (nat_lt d c) refl
      where
        by_order : (x : Bool) → nat_lt c d ≡ x → (y : Bool) → nat_lt d c ≡ y → ⊥
        by_order true e y f = let u : nat_lt a b ≡ true = h ∙ e in grind (arith, nat_tests)
        by_order false e true f = let u : nat_lt b a ≡ true = g ∙ f in grind (arith, nat_tests)
        by_order false e false f = grind (arith, nat_tests)

    by_tests : (x : Bool) → (a == b) ≡ x → (y : Bool) → (c == d) ≡ y → (a == b) ≡ (c == d)
    by_tests true p true q = p ∙ sym q
    by_tests false p false q = p ∙ sym q
    by_tests true p false q = absurd (left a b c d h g p q)
    by_tests false p true q = absurd (left c d a b (sym h) (sym g) q p)

-- the cancel is the one of the rank where it is the one at the place
pub same-cancelled : (k place rank : ℕ) (own : ℕ → Places) (f : Forward) (g : Forwarding) → Known k place rank own f g → is_cancelled_at k rank f ≡ leaves_at k place g
same-cancelled k place rank own f g known = ap (λ i. (i == k) && is_number f.cancel rank) known.fits.client ∙ by_client (g.client == k) refl
  where
    by_cancel : g.client ≡ k → (o : Option ℕ) → f.cancel ≡ o → (p : Option ℕ) → g.cancel ≡ p → is_number o rank ≡ is_number p place
    by_cancel mine None a None b = refl
    by_cancel mine None a (Some q) b = absurd (let x : is_some (let y : Option ℕ = None in y) ≡ true = ap is_some (sym a) ∙ (known.fits.cancel ∙ ap is_some b) in cc)
    by_cancel mine (Some r) a None b = absurd (let x : true ≡ is_some (let y : Option ℕ = None in y) = ap is_some (sym a) ∙ (known.fits.cancel ∙ ap is_some b) in cc)
    by_cancel mine (Some r) a (Some q) b = let o = known.sits.order r q mine a b in same-test r rank q place o.0 o.1

    by_client : (b : Bool) → (g.client == k) ≡ b → ((g.client == k) && is_number f.cancel rank) ≡ ((g.client == k) && is_number g.cancel place)
    by_client true h = ap (λ b. (g.client == k) && b) (by_cancel (same-number g.client k h) f.cancel refl g.cancel refl)
    by_client false h = ap (λ b. b && is_number f.cancel rank) h ∙ sym (ap (λ b. b && is_number g.cancel place) h)

-- ---- it has the smallest rank of those with its key

abbrev AtLeast : ℕ → Option ℕ → Type 0
AtLeast n None = Unit {0}
AtLeast n (Some m) = n ≤ m

-- the one that is meant is live with the key
meant-key : (k place rank : ℕ) (key : Key) (own : ℕ → Places) (f : Forward) (g : Forwarding) → slice_get (own k).asked place ≡ Some (record { client = k; what = full.Cancel key }) → Known k place rank own f g → leaves_at k place g ≡ true → is_leaving_with_key k key f ≡ true
meant-key k place rank key own f g asked known at =
    ap (λ b. b && (is_some f.cancel && (f.live && is_key f.key key))) (ap (λ i. i == k) known.fits.client ∙ mine)
    ∙ (ap (λ o. is_some o && (f.live && is_key f.key key)) (known.sits.meets at)
    ∙ (ap (λ b. b && is_key f.key key) (known.fits.live ∙ lives g.live refl)
    ∙ is-key f.key key (known.fits.key ∙ sym same)))
  where
    mine : (g.client == k) ≡ true
    mine = and-left (g.client == k) (is_number g.cancel place) at

    same : key ≡ unwrap_or g.live g.key
    same = let x : full.Cancel key ≡ full.Cancel (unwrap_or g.live g.key) = cancel-is (own k) k place (full.Cancel key) g (own-of k own g mine known.waits) asked (and-right (g.client == k) (is_number g.cancel place) at) in cc

    lives : (o : Option Key) → g.live ≡ o → is_some g.live ≡ true
    lives (Some q) e = ap is_some e
    lives None e = absurd (let x : None ≡ Some place = sym (known.waits.either e) ∙ number-is g.cancel place (and-right (g.client == k) (is_number g.cancel place) at) in cc)

lt-no : (a b c d : ℕ) → nat_lt a b ≡ nat_lt c d → d ≤ c → b ≤ a
lt-no a b c d h le = by_test (nat_lt c d) refl
  where
    by_test : (x : Bool) → nat_lt c d ≡ x → b ≤ a
    by_test true e = absurd (grind (arith, nat_tests))
    by_test false e = let u : nat_lt a b ≡ false = h ∙ e in grind (arith, nat_tests)

not-lower : (k place rank : ℕ) (key : Key) (own : ℕ → Places) (f : Forward) (g : Forwarding) → (own k).replied ≡ place → Known k place rank own f g → is_leaving_with_key k key f ≡ true → AtLeast rank f.cancel
not-lower k place rank key own f g at known leaves = by_cancel f.cancel refl g.cancel refl
  where
    mine : (g.client == k) ≡ true
    mine = ap (λ i. i == k) (sym known.fits.client) ∙ and-left (f.client == k) _ leaves

    by_cancel : (o : Option ℕ) → f.cancel ≡ o → (p : Option ℕ) → g.cancel ≡ p → AtLeast rank o
    by_cancel None a p b = tt
    by_cancel (Some r) a None b = absurd (let x : true ≡ is_some (let y : Option ℕ = None in y) = ap is_some (sym a) ∙ (known.fits.cancel ∙ ap is_some b) in cc)
    by_cancel (Some r) a (Some q) b =
        let late : place ≤ q = subst (λ n. n ≤ q) (ap (λ i. (own i).replied) (same-number g.client k mine) ∙ at) (known.waits.leaving q b).0 in
        lt-no r rank q place (known.sits.order r q (same-number g.client k mine) a b).0 late

at-least : (n : ℕ) (a b : Option ℕ) → AtLeast n a → AtLeast n b → AtLeast n (smaller_place a b)
at-least n None b x y = y
at-least n (Some a) None x y = x
at-least n (Some a) (Some b) x y = grind arith

first-at : (test : Forward → Bool) (f : Forward) (fs : List Forward) (b : Bool) → test f ≡ b → first_cancel test (f ∷ fs) ≡ elim b as (λ _. Option ℕ) [ true ↦ smaller_place f.cancel (first_cancel test fs) | false ↦ first_cancel test fs ]
first-at test f fs b h = ap (λ (c : Bool). elim c as (λ _. Option ℕ) [ true ↦ smaller_place f.cancel (first_cancel test fs) | false ↦ first_cancel test fs ]) h

none-lower : (k place rank : ℕ) (key : Key) (own : ℕ → Places) (fs : List Forward) (gs : List Forwarding) → (own k).replied ≡ place → AllPairs (Known k place rank own) fs gs → AtLeast rank (first_cancel (is_leaving_with_key k key) fs)
none-lower k place rank key own [] gs at known = tt
none-lower k place rank key own (f ∷ fs) [] at known = absurd known
none-lower k place rank key own (f ∷ fs) (g ∷ gs) at known = by_test (none-lower k place rank key own fs gs at known.1) (is_leaving_with_key k key f) refl
  where
    by_test : AtLeast rank (first_cancel (is_leaving_with_key k key) fs) → (b : Bool) → is_leaving_with_key k key f ≡ b → AtLeast rank (first_cancel (is_leaving_with_key k key) (f ∷ fs))
    by_test ih true h = subst (AtLeast rank) (sym (first-at (is_leaving_with_key k key) f fs true h)) (at-least rank f.cancel (first_cancel (is_leaving_with_key k key) fs) (not-lower k place rank key own f g at known.0 h) ih)
    by_test ih false h = subst (AtLeast rank) (sym (first-at (is_leaving_with_key k key) f fs false h)) ih

first-is-low : (n : ℕ) (o : Option ℕ) → AtLeast n o → smaller_place (Some n) o ≡ Some n
first-is-low n None h = refl
first-is-low n (Some m) h = ap (λ i. Some i) (low n m h)
  where
    low : (a b : ℕ) → a ≤ b → min a b ≡ a
    low a b h = grind arith

second-is-low : (n : ℕ) (o : Option ℕ) → AtLeast n o → smaller_place o (Some n) ≡ Some n
second-is-low n None h = refl
second-is-low n (Some m) h = ap (λ i. Some i) (low m n h)
  where
    low : (a b : ℕ) → b ≤ a → min a b ≡ b
    low a b h = grind arith

pub first-is : (k place rank : ℕ) (key : Key) (own : ℕ → Places) (fs : List Forward) (gs : List Forwarding) → (own k).replied ≡ place → slice_get (own k).asked place ≡ Some (record { client = k; what = full.Cancel key }) → AllPairs (Known k place rank own) fs gs → any_of (leaves_at k place) gs ≡ true → first_cancel (is_leaving_with_key k key) fs ≡ Some rank
first-is k place rank key own [] [] at asked known there = absurd (cc)
first-is k place rank key own [] (g ∷ gs) at asked known there = absurd known
first-is k place rank key own (f ∷ fs) [] at asked known there = absurd known
first-is k place rank key own (f ∷ fs) (g ∷ gs) at asked known there = by_test (first-is k place rank key own fs gs at asked known.1) (leaves_at k place g) refl (is_leaving_with_key k key f) refl
  where
    by_test : (any_of (leaves_at k place) gs ≡ true → first_cancel (is_leaving_with_key k key) fs ≡ Some rank) → (b : Bool) → leaves_at k place g ≡ b → (t : Bool) → is_leaving_with_key k key f ≡ t → first_cancel (is_leaving_with_key k key) (f ∷ fs) ≡ Some rank
    by_test ih true h t e =
        first-at (is_leaving_with_key k key) f fs true (meant-key k place rank key own f g asked known.0 h)
        ∙ (ap (λ o. smaller_place o (first_cancel (is_leaving_with_key k key) fs)) (known.0.sits.meets h)
        ∙ first-is-low rank (first_cancel (is_leaving_with_key k key) fs) (none-lower k place rank key own fs gs at known.1))
    by_test ih false h true e =
        first-at (is_leaving_with_key k key) f fs true e
        ∙ (ap (smaller_place f.cancel) (ih (or-found (leaves_at k place g) (any_of (leaves_at k place) gs) there h))
        ∙ second-is-low rank f.cancel (not-lower k place rank key own f g at known.0 e))
    by_test ih false h false e = first-at (is_leaving_with_key k key) f fs false e ∙ ih (or-found (leaves_at k place g) (any_of (leaves_at k place) gs) there h)
