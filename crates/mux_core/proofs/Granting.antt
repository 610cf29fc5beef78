-- The server's success to a request for a forwarding.
use Rattle.std.proofs.Common.{◌≡◌, ◌≤◌, ◌<◌, ◌+◌, ℕ, List, [], ◌∷◌, map, true, false, Bool, refl, ◌∙◌, ap, sym, subst, Option, Some, None, arith}
use Rattle.std.specs.Prelude.{filter, find, ◌==◌, ◌&&◌, ◌||◌, is_some, is_none, unwrap_or, slice_get}
use Rattle.std.specs.List.{AllByRecursion}
use Rattle.std.proofs.lemmas.Bool.Decides.{nat_tests}
use Rattle.ssh_fields.specs.Fields.{u32_at}
use Rattle.ssh_grammar.specs.Messages.{Key}
use Rattle.ssh_grammar.specs.Messages as full
use Rattle.mux_history.specs.declared.limits.TheConstants.{MAX_FORWARDINGS}
use Rattle.mux_history.specs.Channels.{is_number}
use Rattle.mux_history.specs.Summary.{Succeeds}
use Rattle.mux_history.specs.Keys.{bound}
use Rattle.mux_history.specs.Forwardings.{Forwarding, is_request}
use Rattle.mux_history.proofs.Bools.{same-number}
use Rattle.mux_history.specs.Rows.{any_of}
use Rattle.mux_history.proofs.Finds.{find-no, find-yes}
use Rattle.mux_history.proofs.CurrentSteps.{is_on}
use Rattle.mux_history.proofs.Sends.{and-left, and-right}
use Rattle.forward_rules.specs.State.{Forward}
use Rattle.forward_rules.specs.Step.{forward_answered, change_first_forward, is_asked_with_key}
use Rattle.forward_rules.specs.Stands.{AreFit, AreTwoPlaces, HasAt, IsAwaited, Places}
use Rattle.forward_rules.specs.Stands as stands
use Rattle.mux_core.proofs.Alike.{AreAlike, StaysAt, alike-first, few-alike, has-map, order-alike, ranked-alike, two-map}
use Rattle.mux_core.proofs.Granted.{Waiting, asks_at, granted, granted-listed, is_granted}
use Rattle.mux_core.proofs.Pairs.{find-any}
use Rattle.mux_core.proofs.Removed.{on-all, on-listed}
use Rattle.mux_core.proofs.Replied.{Replies, after, awaited-next, cancel-is, each-next, never, own-of}

-- ---- one of them

swap : (a b : Bool) → (a && b) ≡ (b && a)
swap true true = refl
swap true false = refl
swap false true = refl
swap false false = refl

pub asks-is : (k place : ℕ) (g : Forwarding) → (g.client == k) ≡ true → asks_at k place g ≡ is_request g place
asks-is k place g h = ap (λ b. b && (is_none g.live && (g.request == place))) h ∙ swap (is_none g.live) (g.request == place)

-- none of the client's is cancelled at a place at which a forwarding is asked
pub no-cancel-at : (k place : ℕ) (key : Key) (own : ℕ → Places) (g : Forwarding) → (g.client == k) ≡ true → IsAwaited (own g.client) g → slice_get (own k).asked place ≡ Some (record { client = k; what = full.Forward key }) → is_number g.cancel place ≡ false
no-cancel-at k place key own g h w asked = never (is_number g.cancel place) (λ c. let x : full.Forward key ≡ full.Cancel (unwrap_or g.live g.key) = cancel-is (own k) k place (full.Forward key) g (own-of k own g h w) asked c in cc)

granted-at : (k place : ℕ) (rest : List ℕ) (g : Forwarding) (b : Bool) → asks_at k place g ≡ b → granted k place rest g ≡ elim b as (λ _. Forwarding) [ true ↦ record g { live = Some (bound g.key rest) } | false ↦ g ]
granted-at k place rest g b h = ap (λ (x : Bool). elim x as (λ _. Forwarding) [ true ↦ record g { live = Some (bound g.key rest) } | false ↦ g ]) h

granted-after : (k place : ℕ) (rest : List ℕ) (key : Key) (own : ℕ → Places) (g : Forwarding) → IsAwaited (own g.client) g → slice_get (own k).asked place ≡ Some (record { client = k; what = full.Forward key }) → after k place (Succeeds rest) g ≡ granted k place rest g
granted-after k place rest key own g w asked = by_client (g.client == k) refl
  where
    mine : (g.client == k) ≡ true → (b : Bool) → is_request g place ≡ b → after k place (Succeeds rest) g ≡ granted k place rest g
    mine h true r =
        ap (λ (x : Bool). elim x as (λ _. Forwarding) [ true ↦ elim (is_request g place) as (λ _. Forwarding) [ true ↦ record g { live = Some (bound g.key rest) } | false ↦ elim (is_number g.cancel place) as (λ _. Forwarding) [ true ↦ record g { over = true } | false ↦ g ] ] | false ↦ g ]) h
        ∙ (ap (λ (x : Bool). elim x as (λ _. Forwarding) [ true ↦ record g { live = Some (bound g.key rest) } | false ↦ elim (is_number g.cancel place) as (λ _. Forwarding) [ true ↦ record g { over = true } | false ↦ g ] ]) r
        ∙ sym (granted-at k place rest g true (asks-is k place g h ∙ r)))
    mine h false r =
        ap (λ (x : Bool). elim x as (λ _. Forwarding) [ true ↦ elim (is_request g place) as (λ _. Forwarding) [ true ↦ record g { live = Some (bound g.key rest) } | false ↦ elim (is_number g.cancel place) as (λ _. Forwarding) [ true ↦ record g { over = true } | false ↦ g ] ] | false ↦ g ]) h
        ∙ (ap (λ (x : Bool). elim x as (λ _. Forwarding) [ true ↦ record g { live = Some (bound g.key rest) } | false ↦ elim (is_number g.cancel place) as (λ _. Forwarding) [ true ↦ record g { over = true } | false ↦ g ] ]) r
        ∙ (ap (λ (x : Bool). elim x as (λ _. Forwarding) [ true ↦ record g { over = true } | false ↦ g ]) (no-cancel-at k place key own g h w asked)
        ∙ sym (granted-at k place rest g false (asks-is k place g h ∙ r))))

    by_client : (b : Bool) → (g.client == k) ≡ b → after k place (Succeeds rest) g ≡ granted k place rest g
    by_client true h = mine h (is_request g place) refl
    by_client false h =
        ap (λ (x : Bool). elim x as (λ _. Forwarding) [ true ↦ elim (is_request g place) as (λ _. Forwarding) [ true ↦ record g { live = Some (bound g.key rest) } | false ↦ elim (is_number g.cancel place) as (λ _. Forwarding) [ true ↦ record g { over = true } | false ↦ g ] ] | false ↦ g ]) h
        ∙ sym (granted-at k place rest g false (ap (λ b. b && (is_none g.live && (g.request == place))) h))

granted-all : (k place : ℕ) (rest : List ℕ) (key : Key) (own : ℕ → Places) (gs : List Forwarding) → AllByRecursion (λ g. IsAwaited (own g.client) g) gs → slice_get (own k).asked place ≡ Some (record { client = k; what = full.Forward key }) → map (after k place (Succeeds rest)) gs ≡ map (granted k place rest) gs
granted-all k place rest key own [] all asked = refl
granted-all k place rest key own (g ∷ gs) all asked = ap (λ h. h ∷ map (after k place (Succeeds rest)) gs) (granted-after k place rest key own g all.0 asked) ∙ ap (λ hs. granted k place rest g ∷ hs) (granted-all k place rest key own gs all.1 asked)

on-granted : (k place : ℕ) (rest : List ℕ) (gs : List Forwarding) → AllByRecursion (λ g. is_on g ≡ true) gs → AllByRecursion (λ g. is_on g ≡ true) (map (granted k place rest) gs)
on-granted k place rest [] all = tt
on-granted k place rest (g ∷ gs) all = (by_case (asks_at k place g), on-granted k place rest gs all.1)
  where
    by_case : (b : Bool) → is_on (elim b as (λ _. Forwarding) [ true ↦ record g { live = Some (bound g.key rest) } | false ↦ g ]) ≡ true
    by_case true = all.0
    by_case false = all.0

-- ---- what stays of each

pub record Stays (g h : Forwarding) : Type 0 where
  pub client : h.client ≡ g.client
  pub cancel : h.cancel ≡ g.cancel
  pub request : h.request ≡ g.request
  pub live : h.live ≡ None → g.live ≡ None

stays : (k place : ℕ) (rest : List ℕ) (g : Forwarding) → Stays g (granted k place rest g)
stays k place rest g = by_case (asks_at k place g)
  where
    by_case : (b : Bool) → Stays g (elim b as (λ _. Forwarding) [ true ↦ record g { live = Some (bound g.key rest) } | false ↦ g ])
    by_case true = record { client = refl; cancel = refl; request = refl; live = λ h. absurd (cc) }
    by_case false = record { client = refl; cancel = refl; request = refl; live = λ h. h }

two-stays : (g g' h h' : Forwarding) → Stays g g' → Stays h h' → AreTwoPlaces g h → AreTwoPlaces g' h'
two-stays g g' h h' sg sh two = record {
  asked = λ same a b. subst (λ n. n < h'.request) (sym sg.request) (subst (λ n. g.request < n) (sym sh.request) (two.asked (sym sg.client ∙ (same ∙ sh.client)) (sg.live a) (sh.live b)));
  leaving = λ q same a b. two.leaving q (sym sg.client ∙ (same ∙ sh.client)) (sym sg.cancel ∙ a) (sym sh.cancel ∙ b);
}

-- ---- who waits after it

awaited-granted : (k : ℕ) (rest : List ℕ) (key : Key) (own own' : ℕ → Places) (g : Forwarding) → Replies k own own' → slice_get (own k).asked (own k).replied ≡ Some (record { client = k; what = full.Forward key }) → IsAwaited (own g.client) g → IsAwaited (own' (granted k (own k).replied rest g).client) (granted k (own k).replied rest g)
awaited-granted k rest key own own' g next asked w = by_case (asks_at k (own k).replied g) refl
  where
    by_case : (b : Bool) → asks_at k (own k).replied g ≡ b → IsAwaited (own' (granted k (own k).replied rest g).client) (granted k (own k).replied rest g)
    by_case true h =
        let none : is_none g.live ≡ true = and-left (is_none g.live) (g.request == (own k).replied) (and-right (g.client == k) _ h) in
        let idle : g.cancel ≡ None = w.either (none-of g.live none) in
        subst (λ (x : Forwarding). IsAwaited (own' x.client) x) (sym (granted-at k (own k).replied rest g true h)) (record {
          asked = λ n. absurd (let x : Some (bound g.key rest) ≡ None = n in cc);
          leaving = λ q c. absurd (let x : None ≡ Some q = sym idle ∙ c in cc);
          either = λ n. absurd (let x : Some (bound g.key rest) ≡ None = n in cc);
        })
      where
        none-of : (o : Option Key) → is_none o ≡ true → o ≡ None
        none-of None h = refl
        none-of (Some q) h = absurd (cc)
    by_case false h =
        subst (λ (x : Forwarding). IsAwaited (own' x.client) x) (sym (granted-at k (own k).replied rest g false h))
        (awaited-next k own own' g next w (λ mine. (sym (asks-is k (own k).replied g mine) ∙ h, no-cancel-at k (own k).replied key own g mine w asked)))

awaited-granted-all : (k : ℕ) (rest : List ℕ) (key : Key) (own own' : ℕ → Places) (gs : List Forwarding) → Replies k own own' → slice_get (own k).asked (own k).replied ≡ Some (record { client = k; what = full.Forward key }) → AllByRecursion (λ g. IsAwaited (own g.client) g) gs → AllByRecursion (λ g. IsAwaited (own' g.client) g) (map (granted k (own k).replied rest) gs)
awaited-granted-all k rest key own own' [] next asked all = tt
awaited-granted-all k rest key own own' (g ∷ gs) next asked all = (awaited-granted k rest key own own' g next asked all.0, awaited-granted-all k rest key own own' gs next asked all.1)

-- one that waits at a later place isn't the one that is granted
stays-at : (k j place later : ℕ) (rest : List ℕ) (g : Forwarding) → ((k == j) ≡ true → place < later) → StaysAt j later (granted k place rest) g
stays-at k j place later rest g past = record {
  asked = λ h. by_case h (asks_at k place g) refl;
  leaving = λ h. by_leaving h (asks_at k place g);
}
  where
    clash : (a b c : ℕ) → (a == b) ≡ true → (a == c) ≡ true → b < c → ⊥
    clash a b c p q lt = grind (arith, nat_tests)

    joined : (a : ℕ) → (a == k) ≡ true → (a == j) ≡ true → (k == j) ≡ true
    joined a p q = grind (arith, nat_tests)

    by_case : ((g.client == j) && stands.request_waits_at later g) ≡ true → (b : Bool) → asks_at k place g ≡ b → (((granted k place rest g).client == j) && stands.request_waits_at later (granted k place rest g)) ≡ true
    by_case h true a =
        let client = joined g.client (and-left (g.client == k) _ a) (and-left (g.client == j) _ h) in
        let at = and-right (is_none g.live) (g.request == place) (and-right (g.client == k) _ a) in
        let then_ = and-right (is_none g.live) (g.request == later) (and-right (g.client == j) _ h) in
        absurd (clash g.request place later at then_ (past client))
    by_case h false a = ap (λ (x : Forwarding). (x.client == j) && stands.request_waits_at later x) (granted-at k place rest g false a) ∙ h

    by_leaving : ((g.client == j) && stands.cancel_waits_at later g) ≡ true → (b : Bool) → (let x : Forwarding = elim b as (λ _. Forwarding) [ true ↦ record g { live = Some (bound g.key rest) } | false ↦ g ] in ((x.client == j) && stands.cancel_waits_at later x) ≡ true)
    by_leaving h true = h
    by_leaving h false = h

find-passes : (test : Forwarding → Bool) (gs : List Forwarding) → is_some (find test gs) ≡ any_of test gs
find-passes test [] = refl
find-passes test (g ∷ gs) = by_test (find-passes test gs) (test g) refl
  where
    by_test : is_some (find test gs) ≡ any_of test gs → (b : Bool) → test g ≡ b → is_some (find test (g ∷ gs)) ≡ any_of test (g ∷ gs)
    by_test ih true h = ap is_some (find-yes test g gs h) ∙ sym (ap (λ b. b || any_of test gs) h)
    by_test ih false h = ap is_some (find-no test g gs h) ∙ (ih ∙ sym (ap (λ b. b || any_of test gs) h))

-- ---- what stands when the reply comes

-- what is awaited of each client, as one client has it
pub waits-for : (k : ℕ) (own : ℕ → Places) (gs : List Forwarding) → AllByRecursion (λ g. IsAwaited (own g.client) g) gs → AllByRecursion (Waiting k (own k)) gs
waits-for k own [] all = tt
waits-for k own (g ∷ gs) all = ((λ mine. own-of k own g mine all.0), waits-for k own gs all.1)

-- a forwarding was asked at the place of the reply
pub asked-there : (k : ℕ) (key : Key) (fs : List Forward) (gs : List Forwarding) (own : ℕ → Places) (lost : ℕ → Bool) → AreFit fs gs own lost → lost k ≡ false → slice_get (own k).asked (own k).replied ≡ Some (record { client = k; what = full.Forward key }) → is_some (find (asks_at k (own k).replied) gs) ≡ true
asked-there k key fs gs own lost fit here asked = find-passes (asks_at k (own k).replied) gs ∙ (sym (find-any (λ (g : Forwarding). g.client == k) (stands.request_waits_at (own k).replied) gs) ∙ fit.each k here (own k).replied (record { client = k; what = full.Forward key }) (omega arith) asked)

-- what has no reply afterwards had none before
pub replied-sooner : (k j : ℕ) (own own' : ℕ → Places) → Replies k own own' → (k == j) ≡ true → (at : ℕ) → (own' j).replied ≤ at → (own k).replied < at
replied-sooner k j own own' next same at late =
    let e : (own' j).replied ≡ (own j).replied + 1 = ap (λ (x : Places). x.replied) (next.mine j same) in
    let c : (own k).replied ≡ (own j).replied = ap (λ i. (own i).replied) (same-number k j same) in
    omega arith

-- ---- all of it

pub granted-fit : (k : ℕ) (rest : List ℕ) (key : Key) (fs : List Forward) (gs : List Forwarding) (own own' : ℕ → Places) (lost : ℕ → Bool) → AreFit fs gs own lost → Replies k own own' → lost k ≡ false → slice_get (own k).asked (own k).replied ≡ Some (record { client = k; what = full.Forward key }) → AreFit (forward_answered k key (Some (u32_at 0 rest)) fs) (filter is_on (map (after k (own k).replied (Succeeds rest)) gs)) own' lost
granted-fit k rest key fs gs own own' lost fit next here asked =
    subst (λ hs. AreFit fs' hs own' lost) (sym (ap (filter is_on) (granted-all k place rest key own gs fit.awaited asked) ∙ on-all (map (granted k place rest) gs) (on-granted k place rest gs (on-listed fs gs fit.listed)))) (record {
      listed = granted-listed k place rest key (own k) fs gs fit.listed (waits-for k own gs fit.awaited) fit.two refl asked (asked-there k key fs gs own lost fit here asked);
      in_order = order-alike (granted k place rest) (λ g. let s = stays k place rest g in record { client = s.client; cancel = s.cancel }) fs fs' gs alike fit.in_order;
      awaited = awaited-granted-all k rest key own own' gs next asked fit.awaited;
      two = two-map (granted k place rest) (λ g h two. two-stays g (granted k place rest g) h (granted k place rest h) (stays k place rest g) (stays k place rest h) two) gs fit.two;
      few = λ j. subst (λ n. n ≤ MAX_FORWARDINGS) (sym (few-alike j fs fs' alike)) (fit.few j);
      each = λ j lives at a late got. has-map at a.what j (granted k place rest) gs (λ g. stays-at k j place at rest g (λ same. replied-sooner k j own own' next same at late)) (each-next k j own own' (filter (λ g. g.client == j) gs) next (fit.each j lives) at a late got);
      ranked = ranked-alike fs fs' alike fit.ranked;
    })
  where
    place : ℕ
    place = (own k).replied

    fs' : List Forward
    fs' = change_first_forward (is_asked_with_key k key) (is_granted (u32_at 0 rest)) fs

    alike : AreAlike fs (change_first_forward (is_asked_with_key k key) (is_granted (u32_at 0 rest)) fs)
    alike = alike-first (is_asked_with_key k key) (is_granted (u32_at 0 rest)) (λ f. record { client = refl; cancel = refl }) fs
