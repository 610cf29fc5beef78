-- The server's answer to a client's cancel: the forwarding that it meant is free again, or ends.
use Rattle.std.proofs.Common.{◌≡◌, ◌≤◌, ◌<◌, ◌+◌, ℕ, List, [], ◌∷◌, map, true, false, Bool, refl, ◌∙◌, ap, sym, subst, Option, Some, None, arith}
use Rattle.std.specs.Prelude.{filter, ◌==◌, ◌&&◌, slice_get}
use Rattle.std.specs.List.{AllByRecursion}
use Rattle.std.proofs.lemmas.Bool.Decides.{nat_tests}
use Rattle.ssh_grammar.specs.Messages.{Key}
use Rattle.ssh_grammar.specs.Messages as full
use Rattle.mux_history.specs.declared.limits.TheConstants.{MAX_FORWARDINGS}
use Rattle.mux_history.specs.Channels.{is_number}
use Rattle.mux_history.specs.Rows.{any_of}
use Rattle.mux_history.specs.Forwardings.{Forwarding, is_request}
use Rattle.mux_history.proofs.Bools.{same-number}
use Rattle.mux_history.proofs.Sends.{and-left, and-right}
use Rattle.forward_rules.specs.State.{Forward}
use Rattle.forward_rules.specs.Step.{without_cancel_of}
use Rattle.forward_rules.specs.Stands.{AreFit, AreTwoPlaces, IsAwaited, Places}
use Rattle.forward_rules.specs.Stands as stands
use Rattle.mux_core.proofs.Alike.{StaysAt, has-map, two-map}
use Rattle.mux_core.proofs.CancelAnswered.{Seen, listed-after, order-after, released, released-at}
use Rattle.mux_core.proofs.CancelsLeft.{cancels-other, count-after, one-fewer, rank-low, ranked-after}
use Rattle.mux_core.proofs.Pairs.{find-any}
use Rattle.mux_core.proofs.Ranking.{AllPairs, leaves_at}
use Rattle.mux_core.proofs.Replied.{Replies, awaited-next, each-next, never, own-of, request-is}

-- ---- who waits after it

pub not-asked : (k place : ℕ) (key : Key) (own : ℕ → Places) (g : Forwarding) → slice_get (own k).asked place ≡ Some (record { client = k; what = full.Cancel key }) → IsAwaited (own g.client) g → (g.client == k) ≡ true → is_request g place ≡ false
not-asked k place key own g asked w mine = never (is_request g place) (λ h. let x : full.Cancel key ≡ full.Forward g.key = request-is (own k) k place (full.Cancel key) g (own-of k own g mine w) asked h in cc)

awaited-released : (k : ℕ) (key : Key) (own own' : ℕ → Places) (g : Forwarding) → Replies k own own' → slice_get (own k).asked (own k).replied ≡ Some (record { client = k; what = full.Cancel key }) → IsAwaited (own g.client) g → IsAwaited (own' (released k (own k).replied g).client) (released k (own k).replied g)
awaited-released k key own own' g next asked w = by_test (leaves_at k (own k).replied g) refl
  where
    by_test : (b : Bool) → leaves_at k (own k).replied g ≡ b → IsAwaited (own' (released k (own k).replied g).client) (released k (own k).replied g)
    by_test true h =
        let mine = and-left (g.client == k) (is_number g.cancel (own k).replied) h in
        let free : IsAwaited (own g.client) (record g { cancel = None }) = record { asked = w.asked; leaving = λ q c. absurd (let x : None ≡ Some q = c in cc); either = λ n. refl } in
        subst (λ (x : Forwarding). IsAwaited (own' x.client) x) (sym (released-at k (own k).replied g true h))
        (awaited-next k own own' (record g { cancel = None }) next free (λ m. (not-asked k (own k).replied key own g asked w m, refl)))
    by_test false h =
        subst (λ (x : Forwarding). IsAwaited (own' x.client) x) (sym (released-at k (own k).replied g false h))
        (awaited-next k own own' g next w (λ m. (not-asked k (own k).replied key own g asked w m, sym (ap (λ b. b && is_number g.cancel (own k).replied) m) ∙ h)))

awaited-after : (k : ℕ) (key : Key) (own own' : ℕ → Places) (gs : List Forwarding) → Replies k own own' → slice_get (own k).asked (own k).replied ≡ Some (record { client = k; what = full.Cancel key }) → AllByRecursion (λ g. IsAwaited (own g.client) g) gs → AllByRecursion (λ g. IsAwaited (own' g.client) g) (map (released k (own k).replied) gs)
awaited-after k key own own' [] next asked waits = tt
awaited-after k key own own' (g ∷ gs) next asked waits = (awaited-released k key own own' g next asked waits.0, awaited-after k key own own' gs next asked waits.1)

two-after : (k place : ℕ) (a b : Forwarding) → AreTwoPlaces a b → AreTwoPlaces (released k place a) (released k place b)
two-after k place a b two = by_tests (leaves_at k place a) (leaves_at k place b)
  where
    by_tests : (x y : Bool) → AreTwoPlaces (elim x as (λ _. Forwarding) [ true ↦ record a { cancel = None } | false ↦ a ]) (elim y as (λ _. Forwarding) [ true ↦ record b { cancel = None } | false ↦ b ])
    by_tests true true = record { asked = two.asked; leaving = λ q s c d. absurd (let x : None ≡ Some q = c in cc) }
    by_tests true false = record { asked = two.asked; leaving = λ q s c d. absurd (let x : None ≡ Some q = c in cc) }
    by_tests false true = record { asked = two.asked; leaving = λ q s c d. absurd (let x : None ≡ Some q = d in cc) }
    by_tests false false = two

stays-after : (k j place later : ℕ) (g : Forwarding) → ((k == j) ≡ true → place < later) → StaysAt j later (released k place) g
stays-after k j place later g past = record {
  asked = λ h. elim (leaves_at k place g) as (λ b. (let x : Forwarding = elim b as (λ _. Forwarding) [ true ↦ record g { cancel = None } | false ↦ g ] in ((x.client == j) && stands.request_waits_at later x) ≡ true)) [ true ↦ h | false ↦ h ];
  leaving = λ h. by_test h (leaves_at k place g) refl;
}
  where
    clash : (o : Option ℕ) → is_number o place ≡ true → is_number o later ≡ true → place < later → ⊥
    clash None p q lt = cc
    clash (Some n) p q lt = grind (arith, nat_tests)

    joined : (a : ℕ) → (a == k) ≡ true → (a == j) ≡ true → (k == j) ≡ true
    joined a p q = grind (arith, nat_tests)

    by_test : ((g.client == j) && stands.cancel_waits_at later g) ≡ true → (b : Bool) → leaves_at k place g ≡ b → (((released k place g).client == j) && stands.cancel_waits_at later (released k place g)) ≡ true
    by_test h true a = absurd (clash g.cancel (and-right (g.client == k) (is_number g.cancel place) a) (and-right (g.client == j) (is_number g.cancel later) h) (past (joined g.client (and-left (g.client == k) (is_number g.cancel place) a) (and-left (g.client == j) (is_number g.cancel later) h))))
    by_test h false a = ap (λ (x : Forwarding). (x.client == j) && stands.cancel_waits_at later x) (released-at k place g false a) ∙ h

-- ---- all of it

pub there-is : (k : ℕ) (key : Key) (fs : List Forward) (gs : List Forwarding) (own : ℕ → Places) (lost : ℕ → Bool) → AreFit fs gs own lost → lost k ≡ false → slice_get (own k).asked (own k).replied ≡ Some (record { client = k; what = full.Cancel key }) → any_of (leaves_at k (own k).replied) gs ≡ true
there-is k key fs gs own lost fit here asked = sym (find-any (λ (g : Forwarding). g.client == k) (stands.cancel_waits_at (own k).replied) gs) ∙ fit.each k here (own k).replied (record { client = k; what = full.Cancel key }) (omega arith) asked

pub sooner : (k : ℕ) (own own' : ℕ → Places) → Replies k own own' → (j : ℕ) → (k == j) ≡ true → (at : ℕ) → (own' j).replied ≤ at → (own k).replied < at
sooner k own own' next j same at late =
    let e : (own' j).replied ≡ (own j).replied + 1 = ap (λ (x : Places). x.replied) (next.mine j same) in
    let c : (own k).replied ≡ (own j).replied = ap (λ i. (own i).replied) (same-number k j same) in
    omega arith

pub moved-fit : (k rank : ℕ) (key : Key) (fs : List Forward) (gs : List Forwarding) (own own' : ℕ → Places) (lost : ℕ → Bool) → AreFit fs gs own lost → Replies k own own' → lost k ≡ false → slice_get (own k).asked (own k).replied ≡ Some (record { client = k; what = full.Cancel key }) → AllPairs (Seen k (own k).replied rank) fs gs → AreFit (map (without_cancel_of k rank) fs) (map (released k (own k).replied) gs) own' lost
moved-fit k rank key fs gs own own' lost fit next here asked all =
    let there = there-is k key fs gs own lost fit here asked in
    record {
      listed = listed-after k (own k).replied rank fs gs all fit.listed;
      in_order = order-after k (own k).replied rank fs gs all fit.in_order;
      awaited = awaited-after k key own own' gs next asked fit.awaited;
      two = two-map (released k (own k).replied) (two-after k (own k).replied) gs fit.two;
      few = λ j. subst (λ n. n ≤ MAX_FORWARDINGS) (sym (count-after j k rank fs)) (fit.few j);
      each = λ j lives at a late got. has-map at a.what j (released k (own k).replied) gs (λ g. stays-after k j (own k).replied at g (λ same. sooner k own own' next j same at late)) (each-next k j own own' (filter (λ g. g.client == j) gs) next (fit.each j lives) at a late got);
      ranked = ranked-after k (own k).replied rank fs (map (without_cancel_of k rank) fs) fs gs all fit.listed (one-fewer k (own k).replied rank fs gs all fit.listed fit.two there) (λ j apart. cancels-other j k (own k).replied rank apart fs gs all fit.listed) (rank-low k (own k).replied rank fs fs gs all fit.listed fit.ranked there) fit.ranked;
    }
