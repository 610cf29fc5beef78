-- A reply to a client's request, over the forwardings that are asked or live: whom it meets.
use Rattle.std.proofs.Common.{◌≡◌, ◌≤◌, ◌+◌, ℕ, List, [], ◌∷◌, map, true, false, Bool, refl, ◌∙◌, ap, sym, subst, Option, Some, None, arith}
use Rattle.std.specs.Prelude.{filter, ◌==◌, ◌&&◌, is_none, unwrap_or, slice_get}
use Rattle.std.specs.List.{AllByRecursion}
use Rattle.std.proofs.lemmas.Bool.Decides.{nat_tests}
use Rattle.ssh_grammar.specs.Messages.{Key}
use Rattle.ssh_grammar.specs.Messages as full
use Rattle.mux_history.specs.Channels.{is_number}
use Rattle.mux_history.specs.Summary.{Summary, Refuses, Succeeds}
use Rattle.mux_history.specs.Keys.{bound}
use Rattle.mux_history.specs.Requests.{Ask}
use Rattle.mux_history.specs.Forwardings.{Forwarding, is_request, of_client, forwarding_after_reply}
use Rattle.mux_history.proofs.Bools.{same-number}
use Rattle.mux_history.proofs.Sends.{and-left, and-right}
use Rattle.forward_rules.specs.State.{Forward}
use Rattle.forward_rules.specs.Stands.{AreFit, EachHas, IsAwaited, Places}
use Rattle.mux_core.proofs.Answering.{replied_more}

-- a reply to a client's request at a place
abbrev pub after : ℕ → ℕ → Summary → Forwarding → Forwarding
after k place m = of_client k (forwarding_after_reply place m)

-- ---- what waits at a place

pub same-place : (a b : Ask) → Some a ≡ Some b → a ≡ b
same-place a b h = cc

pub none-key : (o : Option Key) → is_none o ≡ true → o ≡ None
none-key None h = refl
none-key (Some key) h = absurd (cc)

pub number-is : (o : Option ℕ) (n : ℕ) → is_number o n ≡ true → o ≡ Some n
number-is None n h = absurd (cc)
number-is (Some i) n h = ap (λ j. Some j) (same-number i n h)

pub request-is : (own : Places) (k place : ℕ) (what : full.Global) (g : Forwarding) → IsAwaited own g → slice_get own.asked place ≡ Some (record { client = k; what = what }) → is_request g place ≡ true → what ≡ full.Forward g.key
request-is own k place what g w asked h =
    let at = same-number g.request place (and-left (g.request == place) (is_none g.live) h) in
    let none = none-key g.live (and-right (g.request == place) (is_none g.live) h) in
    let here : slice_get own.asked place ≡ Some (record { client = g.client; what = full.Forward g.key }) = subst (λ i. slice_get own.asked i ≡ Some (record { client = g.client; what = full.Forward g.key })) at (w.asked none).1 in
    ap (λ (a : Ask). a.what) (same-place (record { client = k; what = what }) (record { client = g.client; what = full.Forward g.key }) (sym asked ∙ here))

pub cancel-is : (own : Places) (k place : ℕ) (what : full.Global) (g : Forwarding) → IsAwaited own g → slice_get own.asked place ≡ Some (record { client = k; what = what }) → is_number g.cancel place ≡ true → what ≡ full.Cancel (unwrap_or g.live g.key)
cancel-is own k place what g w asked h =
    let here : slice_get own.asked place ≡ Some (record { client = g.client; what = full.Cancel (unwrap_or g.live g.key) }) = (w.leaving place (number-is g.cancel place h)).1 in
    ap (λ (a : Ask). a.what) (same-place (record { client = k; what = what }) (record { client = g.client; what = full.Cancel (unwrap_or g.live g.key) }) (sym asked ∙ here))

-- ---- one that doesn't wait there stays

abbrev pub IsBystander : ℕ → ℕ → Forwarding → Type 0
IsBystander k place g = (g.client == k) ≡ true → (is_request g place ≡ false) × (is_number g.cancel place ≡ false)

replied-idle : (place : ℕ) (m : Summary) (g : Forwarding) → is_request g place ≡ false → is_number g.cancel place ≡ false → forwarding_after_reply place m g ≡ g
replied-idle place (Succeeds rest) g a b =
    ap (λ (x : Bool). elim x as (λ _. Forwarding) [ true ↦ record g { live = Some (bound g.key rest) } | false ↦ elim (is_number g.cancel place) as (λ _. Forwarding) [ true ↦ record g { over = true } | false ↦ g ] ]) a
    ∙ ap (λ (x : Bool). elim x as (λ _. Forwarding) [ true ↦ record g { over = true } | false ↦ g ]) b
replied-idle place Refuses g a b =
    ap (λ (x : Bool). elim x as (λ _. Forwarding) [ true ↦ record g { over = true } | false ↦ elim (is_number g.cancel place) as (λ _. Forwarding) [ true ↦ record g { cancel = None } | false ↦ g ] ]) a
    ∙ ap (λ (x : Bool). elim x as (λ _. Forwarding) [ true ↦ record g { cancel = None } | false ↦ g ]) b
replied-idle place m g a b = refl

pub idle-after : (k place : ℕ) (m : Summary) (g : Forwarding) → IsBystander k place g → after k place m g ≡ g
idle-after k place m g idle = by_client (g.client == k) refl
  where
    by_client : (b : Bool) → (g.client == k) ≡ b → after k place m g ≡ g
    by_client true h = ap (λ (x : Bool). elim x as (λ _. Forwarding) [ true ↦ forwarding_after_reply place m g | false ↦ g ]) h ∙ replied-idle place m g (idle h).0 (idle h).1
    by_client false h = ap (λ (x : Bool). elim x as (λ _. Forwarding) [ true ↦ forwarding_after_reply place m g | false ↦ g ]) h

pub idle-all : (k place : ℕ) (m : Summary) (gs : List Forwarding) → AllByRecursion (IsBystander k place) gs → map (after k place m) gs ≡ gs
idle-all k place m [] all = refl
idle-all k place m (g ∷ gs) all = ap (λ h. h ∷ map (after k place m) gs) (idle-after k place m g all.0) ∙ ap (λ hs. g ∷ hs) (idle-all k place m gs all.1)

-- ---- and waits after the reply

past : (a b : ℕ) → a ≤ b → (b == a) ≡ false → a + 1 ≤ b
past a b le ne = grind (arith, nat_tests)

pub bystander : (own : Places) (g : Forwarding) → IsAwaited own g → is_request g own.replied ≡ false → is_number g.cancel own.replied ≡ false → IsAwaited (replied_more own) g
bystander own g w a b = record {
  asked = λ none. (past own.replied g.request (w.asked none).0 (first (g.request == own.replied) (is_none g.live) a (ap is_none none)), (w.asked none).1);
  leaving = λ q h. (past own.replied q (w.leaving q h).0 (sym (ap (λ o. is_number o own.replied) h) ∙ b), (w.leaving q h).1);
  either = w.either;
}
  where
    first : (a b : Bool) → (a && b) ≡ false → b ≡ true → a ≡ false
    first false b h t = refl
    first true b h t = absurd (let x : true ≡ false = sym t ∙ h in cc)

turned : (a b : ℕ) → (a == b) ≡ true → (b == a) ≡ true
turned a b h = grind (arith, nat_tests)

-- the places after the reply
pub record Replies (k : ℕ) (own own' : ℕ → Places) : Type 0 where
  pub mine : (j : ℕ) → (k == j) ≡ true → own' j ≡ replied_more (own j)
  pub others : (j : ℕ) → (k == j) ≡ false → own' j ≡ own j

pub awaited-next : (k : ℕ) (own own' : ℕ → Places) (g : Forwarding) → Replies k own own' → IsAwaited (own g.client) g → IsBystander k (own k).replied g → IsAwaited (own' g.client) g
awaited-next k own own' g next w idle = by_client (k == g.client) refl
  where
    by_client : (b : Bool) → (k == g.client) ≡ b → IsAwaited (own' g.client) g
    by_client true h =
        let same : (own k).replied ≡ (own g.client).replied = ap (λ i. (own i).replied) (same-number k g.client h) in
        let away = idle (turned k g.client h) in
        subst (λ x. IsAwaited x g) (sym (next.mine g.client h)) (bystander (own g.client) g w (ap (λ n. is_request g n) (sym same) ∙ away.0) (ap (λ n. is_number g.cancel n) (sym same) ∙ away.1))
    by_client false h = subst (λ x. IsAwaited x g) (sym (next.others g.client h)) w

pub awaited-all : (k : ℕ) (own own' : ℕ → Places) (gs : List Forwarding) → Replies k own own' → AllByRecursion (λ g. IsAwaited (own g.client) g) gs → AllByRecursion (IsBystander k (own k).replied) gs → AllByRecursion (λ g. IsAwaited (own' g.client) g) gs
awaited-all k own own' [] next waits idle = tt
awaited-all k own own' (g ∷ gs) next waits idle = (awaited-next k own own' g next waits.0 idle.0, awaited-all k own own' gs next waits.1 idle.1)

-- what waits after the reply waited before
pub each-next : (k j : ℕ) (own own' : ℕ → Places) (gs : List Forwarding) → Replies k own own' → EachHas (own j) gs → EachHas (own' j) gs
each-next k j own own' gs next each = by_client (k == j) refl
  where
    less : (a b : ℕ) → a + 1 ≤ b → a ≤ b
    less a b h = omega arith

    by_client : (b : Bool) → (k == j) ≡ b → EachHas (own' j) gs
    by_client true h = subst (λ x. EachHas x gs) (sym (next.mine j h)) (λ place a late got. each place a (less (own j).replied place late) got)
    by_client false h = subst (λ x. EachHas x gs) (sym (next.others j h)) each

-- where none waits there, all stay
pub nobody-fit : (k : ℕ) (fs : List Forward) (gs : List Forwarding) (own own' : ℕ → Places) (lost : ℕ → Bool) → AreFit fs gs own lost → Replies k own own' → AllByRecursion (IsBystander k (own k).replied) gs → AreFit fs gs own' lost
nobody-fit k fs gs own own' lost fit next idle = record {
  listed = fit.listed;
  in_order = fit.in_order;
  awaited = awaited-all k own own' gs next fit.awaited idle;
  two = fit.two;
  few = fit.few;
  each = λ j here. each-next k j own own' (filter (λ g. g.client == j) gs) next (fit.each j here);
  ranked = fit.ranked;
}

-- ---- who waits there, by what is asked

-- neither a forwarding nor a cancel
abbrev pub is_neither : full.Global → Bool
is_neither (full.Forward key) = false
is_neither (full.Cancel key) = false
is_neither what = true

not-request : (what : full.Global) (key : Key) → is_neither what ≡ true → what ≡ full.Forward key → ⊥
not-request what key plain is = let x : is_neither (full.Forward key) ≡ true = ap is_neither (sym is) ∙ plain in cc

not-cancel : (what : full.Global) (key : Key) → is_neither what ≡ true → what ≡ full.Cancel key → ⊥
not-cancel what key plain is = let x : is_neither (full.Cancel key) ≡ true = ap is_neither (sym is) ∙ plain in cc

pub never : (b : Bool) → (b ≡ true → ⊥) → b ≡ false
never true h = absurd (h refl)
never false h = refl

-- a client's own places
pub own-of : (k : ℕ) (own : ℕ → Places) (g : Forwarding) → (g.client == k) ≡ true → IsAwaited (own g.client) g → IsAwaited (own k) g
own-of k own g h w = subst (λ i. IsAwaited (own i) g) (same-number g.client k h) w

pub neither-idle : (k place : ℕ) (what : full.Global) (own : ℕ → Places) (gs : List Forwarding) → is_neither what ≡ true → slice_get (own k).asked place ≡ Some (record { client = k; what = what }) → AllByRecursion (λ g. IsAwaited (own g.client) g) gs → AllByRecursion (IsBystander k place) gs
neither-idle k place what own [] plain asked all = tt
neither-idle k place what own (g ∷ gs) plain asked all = (
  λ mine. (
    never (is_request g place) (λ h. not-request what g.key plain (request-is (own k) k place what g (own-of k own g mine all.0) asked h)),
    never (is_number g.cancel place) (λ h. not-cancel what (unwrap_or g.live g.key) plain (cancel-is (own k) k place what g (own-of k own g mine all.0) asked h)),
  ),
  neither-idle k place what own gs plain asked all.1,
)
