-- How many clients have open matters goes on by one row.
use Rattle.std.proofs.Common.{◌≡◌, ℕ, ◌+◌, List, [], ◌∷◌, ◌++◌, true, false, Bool, refl, ◌∙◌, ap, arith, sym, subst}
use Rattle.std.specs.Prelude.{◌==◌, ◌||◌, ◌&&◌}
use Rattle.std.proofs.lemmas.Bool.Decides.{nat_tests}
use Rattle.std.proofs.lemmas.List.{append-nil}
use Rattle.mux_history.specs.Farewell.{has_open_matters}
use Rattle.mux_history.specs.Kept.{ForEach}
use Rattle.mux_history.specs.Log.{admits, admitted_clients, matters_of, treat}
use Rattle.mux_history.specs.Policy.{Policy}
use Rattle.mux_history.specs.Rows.{Admit, Fate, Item, Refused, Row, any_of, is_admit, rows_of}
use Rattle.mux_history.specs.Steps.{MattersStep, one_if}
use Rattle.mux_history.proofs.Bools.{or-left, or-right, self}
use Rattle.mux_history.proofs.Finds.{filter-no, filter-yes}
use Rattle.mux_history.proofs.LawfulItems.{client-of, treat-item}
use Rattle.mux_history.proofs.OwnRows.{same-client}
use Rattle.mux_history.proofs.RightLogs.{LogKnown, RowKnown}
use Rattle.mux_history.proofs.SentApart.{LawfulItem, admits_client}

-- ---- a client is admitted once

abbrev pub admits_one : Item → Bool
admits_one (Admit j) = true
admits_one item = false

pub admit-item : (row : Row) → is_admit row ≡ true → admits_one row.item ≡ true
admit-item row admitted = by_item row.item row.fate admitted
  where
    by_item : (i : Item) (fate : Fate) → is_admit (record row { item = i; fate = fate }) ≡ true → admits_one i ≡ true
    by_item (Admit j) fate e = refl
    by_item i Refused e = cc
    by_item i fate e = cc

-- the item that admits a client, and no row before it did
pub record LetsIn (before : List Row) (row : Row) : Type 0 where
  pub own : admits_client row.client row.item ≡ true
  pub new : any_of (λ r. admits_client row.client r.item) before ≡ false

lets-in : (policy : Policy) (pid : ℕ) (before : List Row) (row : Row) → RowKnown policy pid before row → is_admit row ≡ true → LetsIn before row
lets-in policy pid before row known admitted = by_item known.item refl (sym (ap admits_one is_item) ∙ admit-item row admitted)
  where
    is_item : row.item ≡ known.item
    is_item = sym (ap (λ (r : Row). r.item) known.is) ∙ treat-item policy pid known.pick before known.item

    by_item : (i : Item) → known.item ≡ i → admits_one i ≡ true → LetsIn before row
    by_item (Admit j) e one =
        let client : row.client ≡ j = sym (ap (λ (r : Row). r.client) known.is) ∙ (ap (λ (i : Item). (treat policy pid known.pick before i).client) e ∙ client-of (Admit j) j (admits before) (rows_of j before)) in
        record {
          own = ap (λ (i : Item). admits_client row.client i) (is_item ∙ e) ∙ (ap (λ c. j == c) client ∙ self j);
          new = ap (λ c. any_of (λ (r : Row). admits_client c r.item) before) client ∙ subst (LawfulItem before) e known.lawful;
        }
    by_item i e one = cc

none-in : (policy : Policy) (pid k : ℕ) (rows : List Row) → ForEach (RowKnown policy pid) rows → any_of (λ row. admits_client k row.item) rows ≡ false → any_of is_admit (rows_of k rows) ≡ false
none-in policy pid k [] each none = refl
none-in policy pid k (row ∷ before) each none = by_case (none-in policy pid k before each.1 (or-right (admits_client k row.item) (any_of (λ r. admits_client k r.item) before) none)) (row.client == k) refl
  where
    not_in : (row.client == k) ≡ true → (b : Bool) → is_admit row ≡ b → is_admit row ≡ false
    not_in e true admitted =
        let is = lets-in policy pid before row each.0 admitted in
        let yes : admits_client k row.item ≡ true = ap (λ c. admits_client c row.item) (sym (same-client row.client k e)) ∙ is.own in
        let bad : true ≡ false = sym yes ∙ or-left (admits_client k row.item) (any_of (λ r. admits_client k r.item) before) none in
        absurd (let h = bad in cc)
    not_in e false admitted = admitted

    by_case : any_of is_admit (rows_of k before) ≡ false → (b : Bool) → (row.client == k) ≡ b → any_of is_admit (rows_of k (row ∷ before)) ≡ false
    by_case ih true e = ap (any_of is_admit) (filter-yes (λ (r : Row). r.client == k) row before e) ∙ (ap (λ b. b || any_of is_admit (rows_of k before)) (not_in e (is_admit row) refl) ∙ ih)
    by_case ih false e = ap (any_of is_admit) (filter-no (λ (r : Row). r.client == k) row before e) ∙ ih

pub once-in : (policy : Policy) (pid : ℕ) (before : List Row) (row : Row) → RowKnown policy pid before row → ForEach (RowKnown policy pid) before → is_admit row ≡ true → any_of is_admit (rows_of row.client before) ≡ false
once-in policy pid before row known each admitted = none-in policy pid row.client before each (lets-in policy pid before row known admitted).new

-- ---- how often a client entered

abbrev pub add_if : Bool → ℕ → ℕ
add_if b n = elim b [ true ↦ n + 1 | false ↦ n ]

abbrev pub part : Bool → ℕ → ℕ
part b n = elim b [ true ↦ n | false ↦ 0 ]

abbrev pub count : ℕ → List ℕ → ℕ
count k [] = 0
count k (j ∷ js) = add_if (j == k) (count k js)

pub count-append : (k : ℕ) (js : List ℕ) (i : ℕ) → count k (js ++ i ∷ []) ≡ add_if (i == k) (count k js)
count-append k [] i = refl
count-append k (j ∷ js) i = ap (add_if (j == k)) (count-append k js i) ∙ swap (j == k) (i == k) (count k js)
  where
    swap : (a b : Bool) (n : ℕ) → add_if a (add_if b n) ≡ add_if b (add_if a n)
    swap true true n = refl
    swap true false n = refl
    swap false true n = refl
    swap false false n = refl

differ : (a b : ℕ) → (a == b) ≡ false → (b == a) ≡ false
differ a b e = grind (arith, nat_tests)

pub entered-once : (policy : Policy) (pid : ℕ) (rows : List Row) → ForEach (RowKnown policy pid) rows → (k : ℕ) → count k (admitted_clients rows) ≡ one_if (any_of is_admit (rows_of k rows))
entered-once policy pid [] each k = refl
entered-once policy pid (row ∷ before) each k = by_case (entered-once policy pid before each.1 k) (is_admit row) refl (row.client == k) refl
  where
    entered-is : (b : Bool) → is_admit row ≡ b → admitted_clients (row ∷ before) ≡ admitted_clients before ++ elim b as (λ _. List ℕ) [ true ↦ row.client ∷ [] | false ↦ [] ]
    entered-is b e = ap (λ c. admitted_clients before ++ elim c as (λ _. List ℕ) [ true ↦ row.client ∷ [] | false ↦ [] ]) e

    mine : (row.client == k) ≡ true → any_of is_admit (rows_of k (row ∷ before)) ≡ (is_admit row || any_of is_admit (rows_of k before))
    mine e = ap (any_of is_admit) (filter-yes (λ (r : Row). r.client == k) row before e)

    others : (row.client == k) ≡ false → any_of is_admit (rows_of k (row ∷ before)) ≡ any_of is_admit (rows_of k before)
    others e = ap (any_of is_admit) (filter-no (λ (r : Row). r.client == k) row before e)

    by_case : count k (admitted_clients before) ≡ one_if (any_of is_admit (rows_of k before)) → (b : Bool) → is_admit row ≡ b → (t : Bool) → (row.client == k) ≡ t → count k (admitted_clients (row ∷ before)) ≡ one_if (any_of is_admit (rows_of k (row ∷ before)))
    by_case ih false e true t =
        ap (count k) (entered-is false e ∙ append-nil (admitted_clients before))
        ∙ (ih ∙ sym (ap one_if (mine t ∙ ap (λ b. b || any_of is_admit (rows_of k before)) e)))
    by_case ih false e false t = ap (count k) (entered-is false e ∙ append-nil (admitted_clients before)) ∙ (ih ∙ sym (ap one_if (others t)))
    by_case ih true e false t =
        ap (count k) (entered-is true e)
        ∙ (count-append k (admitted_clients before) row.client
        ∙ (ap (λ b. add_if b (count k (admitted_clients before))) t ∙ (ih ∙ sym (ap one_if (others t)))))
    by_case ih true e true t =
        let none : any_of is_admit (rows_of k before) ≡ false = ap (λ c. any_of is_admit (rows_of c before)) (sym (same-client row.client k t)) ∙ once-in policy pid before row each.0 each.1 e in
        ap (count k) (entered-is true e)
        ∙ (count-append k (admitted_clients before) row.client
        ∙ (ap (λ b. add_if b (count k (admitted_clients before))) t
        ∙ (ap (λ n. n + 1) (ih ∙ ap one_if none)
        ∙ sym (ap one_if (mine t ∙ ap (λ b. b || any_of is_admit (rows_of k before)) e)))))

-- ---- the sum over those who entered

pub move-same : (m n c : ℕ) (a b : Bool) → n + part a c ≡ m + part b c → add_if b n + part a (c + 1) ≡ add_if a m + part b (c + 1)
move-same m n c true true e = omega (arith, e)
move-same m n c true false e = omega (arith, e)
move-same m n c false true e = omega (arith, e)
move-same m n c false false e = omega (arith, e)

pub move-other : (m n x y : ℕ) (d : Bool) → n + x ≡ m + y → add_if d n + x ≡ add_if d m + y
move-other m n x y true e = omega (arith, e)
move-other m n x y false e = omega (arith, e)

abbrev pub Moved : (m n c : ℕ) (a b p q t : Bool) → Type 0
Moved m n c a b p q t = add_if p n + part a (add_if t c) ≡ add_if q m + part b (add_if t c)

-- only the matters of the row's client change
shift : (row : Row) (before : List Row) (a b : Bool) → has_open_matters (rows_of row.client before) ≡ a → has_open_matters (rows_of row.client (row ∷ before)) ≡ b → (ks : List ℕ) → matters_of (row ∷ before) ks + part a (count row.client ks) ≡ matters_of before ks + part b (count row.client ks)
shift row before a b ea eb [] = by_case a b
  where
    by_case : (a b : Bool) → 0 + part a 0 ≡ 0 + part b 0
    by_case true true = refl
    by_case true false = refl
    by_case false true = refl
    by_case false false = refl
shift row before a b ea eb (k ∷ ks) = by_case (shift row before a b ea eb ks) (k == row.client) refl
  where
    by_case : matters_of (row ∷ before) ks + part a (count row.client ks) ≡ matters_of before ks + part b (count row.client ks) → (t : Bool) → (k == row.client) ≡ t → Moved (matters_of before ks) (matters_of (row ∷ before) ks) (count row.client ks) a b (has_open_matters (rows_of k (row ∷ before))) (has_open_matters (rows_of k before)) (k == row.client)
    by_case ih true t =
        let same : k ≡ row.client = same-client k row.client t in
        let p : has_open_matters (rows_of k (row ∷ before)) ≡ b = ap (λ j. has_open_matters (rows_of j (row ∷ before))) same ∙ eb in
        let q : has_open_matters (rows_of k before) ≡ a = ap (λ j. has_open_matters (rows_of j before)) same ∙ ea in
        subst (λ (x : Bool). Moved (matters_of before ks) (matters_of (row ∷ before) ks) (count row.client ks) a b (has_open_matters (rows_of k (row ∷ before))) (has_open_matters (rows_of k before)) x) (sym t)
        (subst (λ (x : Bool). Moved (matters_of before ks) (matters_of (row ∷ before) ks) (count row.client ks) a b x (has_open_matters (rows_of k before)) true) (sym p)
        (subst (λ (x : Bool). Moved (matters_of before ks) (matters_of (row ∷ before) ks) (count row.client ks) a b b x true) (sym q) (move-same (matters_of before ks) (matters_of (row ∷ before) ks) (count row.client ks) a b ih)))
    by_case ih false t =
        let idle : has_open_matters (rows_of k (row ∷ before)) ≡ has_open_matters (rows_of k before) = ap has_open_matters (filter-no (λ (r : Row). r.client == k) row before (differ k row.client t)) in
        subst (λ (x : Bool). Moved (matters_of before ks) (matters_of (row ∷ before) ks) (count row.client ks) a b (has_open_matters (rows_of k (row ∷ before))) (has_open_matters (rows_of k before)) x) (sym t)
        (subst (λ (x : Bool). Moved (matters_of before ks) (matters_of (row ∷ before) ks) (count row.client ks) a b x (has_open_matters (rows_of k before)) false) (sym idle)
        (move-other (matters_of before ks) (matters_of (row ∷ before) ks) (part a (count row.client ks)) (part b (count row.client ks)) (has_open_matters (rows_of k before)) ih))

one-more : (rows : List Row) (ks : List ℕ) (c : ℕ) → matters_of rows (ks ++ c ∷ []) ≡ matters_of rows ks + one_if (has_open_matters (rows_of c rows))
one-more rows [] c = by_case (has_open_matters (rows_of c rows))
  where
    by_case : (b : Bool) → add_if b 0 ≡ 0 + one_if b
    by_case true = refl
    by_case false = refl
one-more rows (k ∷ ks) c = ap (add_if (has_open_matters (rows_of k rows))) (one-more rows ks c) ∙ by_case (has_open_matters (rows_of k rows)) (matters_of rows ks) (one_if (has_open_matters (rows_of c rows)))
  where
    by_case : (b : Bool) (m n : ℕ) → add_if b (m + n) ≡ add_if b m + n
    by_case true m n = omega arith
    by_case false m n = refl

-- ---- the row

part-and : (a b : Bool) → part b (one_if a) ≡ one_if (a && b)
part-and true true = refl
part-and true false = refl
part-and false true = refl
part-and false false = refl

part-none : (b : Bool) → part b 0 ≡ 0
part-none true = refl
part-none false = refl

matters-step : (policy : Policy) (pid : ℕ) (before : List Row) (row : Row) → RowKnown policy pid before row → ForEach (RowKnown policy pid) before → MattersStep before row
matters-step policy pid before row known each = by_case (is_admit row) refl
  where
    k : ℕ
    k = row.client

    was : Bool
    was = has_open_matters (rows_of row.client before)

    now : Bool
    now = has_open_matters (rows_of row.client (row ∷ before))

    let_in : Bool
    let_in = any_of is_admit (rows_of row.client before)

    moved : matters_of (row ∷ before) (admitted_clients before) + part was (count row.client (admitted_clients before)) ≡ matters_of before (admitted_clients before) + part now (count row.client (admitted_clients before))
    moved = shift row before was now refl refl (admitted_clients before)

    after : any_of is_admit (rows_of row.client (row ∷ before)) ≡ (is_admit row || let_in)
    after = ap (any_of is_admit) (filter-yes (λ (r : Row). r.client == row.client) row before (self row.client))

    entered-is : (b : Bool) → is_admit row ≡ b → admitted_clients (row ∷ before) ≡ admitted_clients before ++ elim b as (λ _. List ℕ) [ true ↦ row.client ∷ [] | false ↦ [] ]
    entered-is b e = ap (λ c. admitted_clients before ++ elim c as (λ _. List ℕ) [ true ↦ row.client ∷ [] | false ↦ [] ]) e

    by_case : (b : Bool) → is_admit row ≡ b → matters_of (row ∷ before) (admitted_clients (row ∷ before)) + one_if (let_in && was) ≡ matters_of before (admitted_clients before) + one_if (any_of is_admit (rows_of row.client (row ∷ before)) && now)
    by_case false e =
        let once : count row.client (admitted_clients before) ≡ one_if let_in = entered-once policy pid before each row.client in
        let a : part was (count row.client (admitted_clients before)) ≡ one_if (let_in && was) = ap (part was) once ∙ part-and let_in was in
        let c : part now (count row.client (admitted_clients before)) ≡ one_if (any_of is_admit (rows_of row.client (row ∷ before)) && now) = ap (part now) once ∙ (part-and let_in now ∙ ap (λ x. one_if (x && now)) (sym (after ∙ ap (λ x. x || let_in) e))) in
        let m : matters_of (row ∷ before) (admitted_clients (row ∷ before)) ≡ matters_of (row ∷ before) (admitted_clients before) = ap (matters_of (row ∷ before)) (entered-is false e ∙ append-nil (admitted_clients before)) in
        let s = moved in
        omega (arith, m, a, c, s)
    by_case true e =
        let none : let_in ≡ false = once-in policy pid before row known each e in
        let once : count row.client (admitted_clients before) ≡ 0 = entered-once policy pid before each row.client ∙ ap one_if none in
        let a : part was (count row.client (admitted_clients before)) ≡ 0 = ap (part was) once ∙ part-none was in
        let c : part now (count row.client (admitted_clients before)) ≡ 0 = ap (part now) once ∙ part-none now in
        let x : one_if (let_in && was) ≡ 0 = ap (λ y. one_if (y && was)) none in
        let y : one_if (any_of is_admit (rows_of row.client (row ∷ before)) && now) ≡ one_if now = ap (λ z. one_if (z && now)) (after ∙ ap (λ z. z || let_in) e) in
        let m : matters_of (row ∷ before) (admitted_clients (row ∷ before)) ≡ matters_of (row ∷ before) (admitted_clients before) + one_if now = ap (matters_of (row ∷ before)) (entered-is true e) ∙ one-more (row ∷ before) (admitted_clients before) row.client in
        let s = moved in
        omega (arith, m, a, c, x, y, s)

each-step : (policy : Policy) (pid : ℕ) (rows : List Row) → ForEach (RowKnown policy pid) rows → ForEach MattersStep rows
each-step policy pid [] each = tt
each-step policy pid (row ∷ before) each = (matters-step policy pid before row each.0 each.1, each-step policy pid before each.1)

pub matters-go-on : (policy : Policy) (pid : ℕ) (rows : List Row) → LogKnown policy pid rows → ForEach MattersStep rows
matters-go-on policy pid rows known = each-step policy pid rows known.each
