-- At most 64 clients can be lost, and at most 4,096 requests for forwardings wait for a reply.
use Rattle.std.proofs.Common.{◌≡◌, ℕ, zero, suc, ◌+◌, ◌*◌, ◌≤◌, List, [], ◌∷◌, drop, length, true, false, Bool, refl, ◌∙◌, ap, arith, sym, subst, Option, Some, None}
use Rattle.std.specs.Prelude.{◌==◌, ◌&&◌, ◌||◌, not, filter, nat_lt}
use Rattle.std.proofs.lemmas.Bool.Decides.{nat_tests}
use Rattle.std.proofs.lemmas.List.{drop_all}
use Rattle.ssh_grammar.specs.Messages.{Global}
use Rattle.mux_history.specs.Channels.{held_of, is_channel_held}
use Rattle.mux_history.specs.Farewell.{has_open_matters}
use Rattle.mux_history.specs.Kept.{AtEach, ForEach}
use Rattle.mux_history.specs.Log.{admitted_clients, matters_of, open_matters}
use Rattle.mux_history.specs.Policy.{Policy}
use Rattle.mux_history.specs.Requests.{Ask, wanted_requests, asks_of, is_sent, replies, wanted_by}
use Rattle.mux_history.specs.Rows.{Row, any_of, is_admit, is_run_over, is_lost, rows_of}
use Rattle.mux_history.specs.Steps.{one_if, unreplied}
use Rattle.mux_bounds.specs.Few.{MattersBounded}
use Rattle.mux_history.proofs.Askers.{asks_for}
use Rattle.mux_history.proofs.AskersSteps.{of-each}
use Rattle.mux_history.proofs.Bools.{or-right}
use Rattle.mux_history.proofs.Finds.{filter-no, filter-yes}
use Rattle.mux_history.proofs.MattersSteps.{count, entered-once}
use Rattle.mux_history.proofs.RightLogs.{LogKnown}
use Rattle.mux_bounds.proofs.Covers.{add_if, forwards_in, is_forward}
use Rattle.mux_bounds.proofs.Knowns.{LetFirst, is_own}
use Rattle.mux_bounds.proofs.Matters.{LetIn, let-entered, matters-bounded, still-in}
use Rattle.mux_bounds.proofs.OwedFew.{owed-few}
use Rattle.mux_bounds.proofs.Shorts.{EachAsk, each-asks, wanted-is}

-- ---- clients that are not lost

abbrev pub is_live : List Row → Bool
is_live own = not (is_lost own)

-- how many of these clients pass
abbrev pub counts : (List Row → Bool) → List Row → List ℕ → ℕ
counts test rows [] = 0
counts test rows (k ∷ ks) = add_if (test (rows_of k rows)) (counts test rows ks)

-- those that can be lost
abbrev pub live : List Row → ℕ
live rows = counts is_live rows (admitted_clients rows)

-- the requests for forwardings that wait for a reply
abbrev pub owed : List Row → ℕ
owed rows = forwards_in (unreplied rows)

add-le : (a b : Bool) (m n : ℕ) → (a ≡ true → b ≡ true) → m ≤ n → add_if a m ≤ add_if b n
add-le true true m n implied le = omega (arith, le)
add-le true false m n implied le = let bad = implied refl in absurd (let h = bad in cc)
add-le false true m n implied le = omega (arith, le)
add-le false false m n implied le = le

live-matters : (rows : List Row) (ks : List ℕ) → LetIn rows ks → counts is_live rows ks ≤ matters_of rows ks
live-matters rows [] ins = omega arith
live-matters rows (k ∷ ks) ins = add-le (is_live (rows_of k rows)) (has_open_matters (rows_of k rows)) (counts is_live rows ks) (matters_of rows ks) opens (live-matters rows ks ins.1)
  where
    opens : is_live (rows_of k rows) ≡ true → has_open_matters (rows_of k rows) ≡ true
    opens on = ap (λ b. (b && not (is_lost (rows_of k rows))) || (any_of is_channel_held (held_of (rows_of k rows)) || nat_lt (length (replies (rows_of k rows))) (length (wanted_requests (rows_of k rows))))) ins.0
        ∙ ap (λ b. b || (any_of is_channel_held (held_of (rows_of k rows)) || nat_lt (length (replies (rows_of k rows))) (length (wanted_requests (rows_of k rows))))) on

-- ---- requests, client by client

abbrev sum_over : (ℕ → ℕ) → List ℕ → ℕ
sum_over g [] = 0
sum_over g (k ∷ ks) = g k + sum_over g ks

abbrev part : Bool → ℕ → ℕ
part true n = n
part false n = 0

turned : (a b : ℕ) (t : Bool) → (a == b) ≡ t → (b == a) ≡ t
turned a b true e = grind (arith, nat_tests)
turned a b false e = grind (arith, nat_tests)

-- one more request, among the clients that have it
sum-more : (a : Ask) (us : List Ask) (ks : List ℕ) → sum_over (λ k. forwards_in (filter (asks_for k) us)) ks + part (is_forward a.what) (count a.client ks) ≤ sum_over (λ k. forwards_in (filter (asks_for k) (a ∷ us))) ks
sum-more a us [] = by_case (is_forward a.what)
  where
    by_case : (b : Bool) → 0 + part b 0 ≤ 0
    by_case true = omega arith
    by_case false = omega arith
sum-more a us (j ∷ js) = by_case (sum-more a us js) (a.client == j) refl (is_forward a.what) refl
  where
    by_case : sum_over (λ k. forwards_in (filter (asks_for k) us)) js + part (is_forward a.what) (count a.client js) ≤ sum_over (λ k. forwards_in (filter (asks_for k) (a ∷ us))) js
        → (t : Bool) → (a.client == j) ≡ t → (b : Bool) → is_forward a.what ≡ b
        → forwards_in (filter (asks_for j) us) + sum_over (λ k. forwards_in (filter (asks_for k) us)) js + part (is_forward a.what) (add_if (j == a.client) (count a.client js)) ≤ forwards_in (filter (asks_for j) (a ∷ us)) + sum_over (λ k. forwards_in (filter (asks_for k) (a ∷ us))) js
    by_case ih true t true b =
        let l = ap forwards_in (filter-yes (asks_for j) a us t) in
        let m = ap (λ x. add_if x (forwards_in (filter (asks_for j) us))) b in
        let c = ap (λ x. part (is_forward a.what) (add_if x (count a.client js))) (turned a.client j true t) in
        let d = ap (λ x. part x (add_if true (count a.client js))) b in
        let e = ap (λ x. part x (count a.client js)) b in
        omega (arith, ih, l, m, c, d, e)
    by_case ih true t false b =
        let l = ap forwards_in (filter-yes (asks_for j) a us t) in
        let m = ap (λ x. add_if x (forwards_in (filter (asks_for j) us))) b in
        let d = ap (λ x. part x (add_if (j == a.client) (count a.client js))) b in
        let e = ap (λ x. part x (count a.client js)) b in
        omega (arith, ih, l, m, d, e)
    by_case ih false t b f =
        let l = ap forwards_in (filter-no (asks_for j) a us t) in
        let c = ap (λ x. part (is_forward a.what) (add_if x (count a.client js))) (turned a.client j false t) in
        omega (arith, ih, l, c)

-- each of these requests has its client among these
split : (us : List Ask) (ks : List ℕ) → EachAsk (λ a. 1 ≤ count a.client ks) us → forwards_in us ≤ sum_over (λ k. forwards_in (filter (asks_for k) us)) ks
split [] ks all = omega arith
split (a ∷ us) ks all = by_case (is_forward a.what) refl (split us ks all.1) (sum-more a us ks)
  where
    by_case : (b : Bool) → is_forward a.what ≡ b → forwards_in us ≤ sum_over (λ k. forwards_in (filter (asks_for k) us)) ks → sum_over (λ k. forwards_in (filter (asks_for k) us)) ks + part (is_forward a.what) (count a.client ks) ≤ sum_over (λ k. forwards_in (filter (asks_for k) (a ∷ us))) ks → add_if (is_forward a.what) (forwards_in us) ≤ sum_over (λ k. forwards_in (filter (asks_for k) (a ∷ us))) ks
    by_case true b ih more =
        let c = all.0 in
        let d : part (is_forward a.what) (count a.client ks) ≡ count a.client ks = ap (λ x. part x (count a.client ks)) b ∙ part-true (count a.client ks) in
        let e = ap (λ x. add_if x (forwards_in us)) b in
        omega (arith, ih, more, c, d, e)
      where
        part-true : (n : ℕ) → part true n ≡ n
        part-true n = refl
    by_case false b ih more = let e = ap (λ x. add_if x (forwards_in us)) b in omega (arith, ih, more, e)

-- ---- a client whose matters are closed waits for nothing

not-less : (a b : ℕ) → nat_lt a b ≡ false → b ≤ a
not-less a b e = grind (arith, nat_tests)

closed-none : (own : List Row) → has_open_matters own ≡ false → unreplied own ≡ []
closed-none own closed = drop_all (length (replies own)) (wanted_requests own) (not-less (length (replies own)) (length (wanted_requests own))
    (or-right (any_of is_channel_held (held_of own)) (nat_lt (length (replies own)) (length (wanted_requests own))) (or-right (any_of is_admit own && not (is_lost own)) _ closed)))

sum-few : (g : ℕ → ℕ) (rows : List Row) (ks : List ℕ) → ((k : ℕ) → g k ≤ 64) → ((k : ℕ) → has_open_matters (rows_of k rows) ≡ false → g k ≡ 0) → sum_over g ks ≤ 64 * matters_of rows ks
sum-few g rows [] few none = omega arith
sum-few g rows (k ∷ ks) few none = by_case (has_open_matters (rows_of k rows)) refl (sum-few g rows ks few none)
  where
    by_case : (b : Bool) → has_open_matters (rows_of k rows) ≡ b → sum_over g ks ≤ 64 * matters_of rows ks → g k + sum_over g ks ≤ 64 * (elim b as (λ _. ℕ) [ true ↦ matters_of rows ks + 1 | false ↦ matters_of rows ks ])
    by_case true e ih = let f = few k in omega (arith, f, ih)
    by_case false e ih = let f = none k e in omega (arith, f, ih)

-- ---- who asked was admitted

each-of : (P Q : Ask → Type 0) → ((a : Ask) → P a → Q a) → (us : List Ask) → EachAsk P us → EachAsk Q us
each-of P Q step [] all = tt
each-of P Q step (a ∷ us) all = (step a all.0, each-of P Q step us all.1)

each-drop : (P : Ask → Type 0) (n : ℕ) (us : List Ask) → EachAsk P us → EachAsk P (drop n us)
each-drop P zero us all = all
each-drop P (suc n) [] all = tt
each-drop P (suc n) (u ∷ us) all = each-drop P n us all.1

abbrev IsIn : List Row → Ask → Type 0
IsIn rows a = any_of is_admit (rows_of a.client rows) ≡ true

new-in : (before : List Row) (row : Row) → LetFirst before row → EachAsk (IsIn (row ∷ before)) (asks_of row.client (is_sent row) (wanted_by row))
new-in before row first = by_case (is_sent row) (wanted_by row) refl
  where
    by_case : (b : Bool) (o : Option Global) → wanted_by row ≡ o → EachAsk (IsIn (row ∷ before)) (asks_of row.client b o)
    by_case true (Some what) e = (still-in row before row.client (first (ap is_own (wanted-is row what e).item)), tt)
    by_case true None e = tt
    by_case false o e = tt

asks-in : (rows : List Row) → ForEach LetFirst rows → EachAsk (IsIn rows) (wanted_requests rows)
asks-in [] each = tt
asks-in (row ∷ before) each = each-asks (IsIn (row ∷ before)) (wanted_requests before) (asks_of row.client (is_sent row) (wanted_by row))
    (each-of (IsIn before) (IsIn (row ∷ before)) (λ a is. still-in row before a.client is) (wanted_requests before) (asks-in before each.1))
    (new-in before row each.0)

-- ---- the totals

at-last : (P : List Row → Type 0) (rows : List Row) → AtEach P rows → P rows
at-last P [] all = all
at-last P (row ∷ before) all = all.0

matters-few : (policy : Policy) (pid : ℕ) (rows : List Row) → LogKnown policy pid rows → open_matters rows ≤ 64
matters-few policy pid rows known = at-last MattersBounded rows (matters-bounded policy pid rows known)

pub live-few : (policy : Policy) (pid : ℕ) (rows : List Row) → LogKnown policy pid rows → live rows ≤ 64
live-few policy pid rows known = let a = live-matters rows (admitted_clients rows) (let-entered rows) in let b = matters-few policy pid rows known in omega (arith, a, b)

pub owed-all-few : (policy : Policy) (pid : ℕ) (rows : List Row) → LogKnown policy pid rows → ForEach LetFirst rows → is_run_over rows ≡ false → owed rows ≤ 4096
owed-all-few policy pid rows known first going =
    let a = split (unreplied rows) (admitted_clients rows) among in
    let b = sum-few (λ k. forwards_in (filter (asks_for k) (unreplied rows))) rows (admitted_clients rows) few none in
    let c = matters-few policy pid rows known in
    omega (arith, a, b, c)
  where
    local : (k : ℕ) → unreplied (rows_of k rows) ≡ filter (asks_for k) (unreplied rows)
    local k = of-each rows known.orderly going k

    few : (k : ℕ) → forwards_in (filter (asks_for k) (unreplied rows)) ≤ 64
    few k = subst (λ us. forwards_in us ≤ 64) (local k) (owed-few policy pid rows known.each k)

    none : (k : ℕ) → has_open_matters (rows_of k rows) ≡ false → forwards_in (filter (asks_for k) (unreplied rows)) ≡ 0
    none k closed = ap forwards_in (sym (local k) ∙ closed-none (rows_of k rows) closed)

    among : EachAsk (λ a. 1 ≤ count a.client (admitted_clients rows)) (unreplied rows)
    among = each-drop (λ a. 1 ≤ count a.client (admitted_clients rows)) (length (replies rows)) (wanted_requests rows)
        (each-of (IsIn rows) (λ a. 1 ≤ count a.client (admitted_clients rows)) (λ a is. let e = entered-once policy pid rows known.each a.client ∙ ap one_if is in omega (arith, e)) (wanted_requests rows) (asks-in rows first))
