-- At most 64 clients have open matters: closed ones stay closed, and one more is admitted only
-- below the limit.
use Rattle.std.proofs.Common.{◌≡◌, ℕ, ◌+◌, ◌≤◌, List, [], ◌∷◌, ◌++◌, true, false, Bool, refl, ◌∙◌, ap, arith, sym, subst}
use Rattle.std.specs.Prelude.{◌==◌, ◌||◌, not, nat_lt}
use Rattle.std.proofs.lemmas.Bool.Decides.{nat_tests}
use Rattle.mux_history.specs.Farewell.{has_open_matters}
use Rattle.mux_history.specs.Kept.{AtEach, ForEach}
use Rattle.mux_history.specs.Log.{admitted_clients, matters_of, open_matters, row_of, treat}
use Rattle.mux_history.specs.Policy.{Policy}
use Rattle.mux_history.specs.Rows.{Admit, Fate, Item, Refused, Row, any_of, is_admit, rows_of}
use Rattle.mux_history.specs.Said.{Outcome, records}
use Rattle.mux_bounds.specs.Few.{MattersBounded}
use Rattle.ssh_grammar.specs.Control.{Greets}
use Rattle.ssh_grammar.specs.Frames.{frame_answer}
use Rattle.ssh_grammar.specs.declared.numbers.TheConstants.{VERSION}
use Rattle.mux_history.proofs.Bools.{or-yes, self}
use Rattle.mux_history.proofs.Finds.{filter-no, filter-yes}
use Rattle.mux_history.proofs.LawfulItems.{treat-item}
use Rattle.mux_history.proofs.RightLogs.{LogKnown, RowKnown}
use Rattle.mux_bounds.proofs.Closing.{closed-next}

-- ---- how many

abbrev pub LetIn : List Row → List ℕ → Type 0
LetIn rows [] = Unit {0}
LetIn rows (k ∷ ks) = (any_of is_admit (rows_of k rows) ≡ true) × LetIn rows ks

-- closed matters of a client that was admitted stay closed
abbrev pub StayClosed : List Row → Row → Type 0
StayClosed before row =
    (k : ℕ) → any_of is_admit (rows_of k before) ≡ true → has_open_matters (rows_of k before) ≡ false → has_open_matters (rows_of k (row ∷ before)) ≡ false

matters-next : (before : List Row) (row : Row) → StayClosed before row → (ks : List ℕ) → LetIn before ks → matters_of (row ∷ before) ks ≤ matters_of before ks
matters-next before row stay [] ins = omega arith
matters-next before row stay (k ∷ ks) ins = by_case (matters-next before row stay ks ins.1) (has_open_matters (rows_of k before)) refl (has_open_matters (rows_of k (row ∷ before))) refl
  where
    by_case : matters_of (row ∷ before) ks ≤ matters_of before ks → (a : Bool) → has_open_matters (rows_of k before) ≡ a → (b : Bool) → has_open_matters (rows_of k (row ∷ before)) ≡ b → (elim b as (λ _. ℕ) [ true ↦ matters_of (row ∷ before) ks + 1 | false ↦ matters_of (row ∷ before) ks ]) ≤ (elim a as (λ _. ℕ) [ true ↦ matters_of before ks + 1 | false ↦ matters_of before ks ])
    by_case ih true e true f = omega (arith, ih)
    by_case ih true e false f = omega (arith, ih)
    by_case ih false e false f = ih
    by_case ih false e true f = let bad : false ≡ true = sym (stay k ins.0 e) ∙ f in absurd (let h = bad in cc)

matters-one : (rows : List Row) (ks : List ℕ) (c : ℕ) → matters_of rows (ks ++ c ∷ []) ≤ matters_of rows ks + 1
matters-one rows [] c = by_case (has_open_matters (rows_of c rows))
  where
    by_case : (b : Bool) → (elim b as (λ _. ℕ) [ true ↦ 0 + 1 | false ↦ 0 ]) ≤ 0 + 1
    by_case true = omega arith
    by_case false = omega arith
matters-one rows (k ∷ ks) c = by_case (has_open_matters (rows_of k rows)) (matters-one rows ks c)
  where
    by_case : (b : Bool) → matters_of rows (ks ++ c ∷ []) ≤ matters_of rows ks + 1 → (elim b as (λ _. ℕ) [ true ↦ matters_of rows (ks ++ c ∷ []) + 1 | false ↦ matters_of rows (ks ++ c ∷ []) ]) ≤ (elim b as (λ _. ℕ) [ true ↦ matters_of rows ks + 1 | false ↦ matters_of rows ks ]) + 1
    by_case true ih = omega (arith, ih)
    by_case false ih = ih

-- ---- who is admitted

pub still-in : (row : Row) (before : List Row) (k : ℕ) → any_of is_admit (rows_of k before) ≡ true → any_of is_admit (rows_of k (row ∷ before)) ≡ true
still-in row before k admitted = by_case (row.client == k) refl
  where
    by_case : (b : Bool) → (row.client == k) ≡ b → any_of is_admit (rows_of k (row ∷ before)) ≡ true
    by_case true e = ap (any_of is_admit) (filter-yes (λ (r : Row). r.client == k) row before e) ∙ or-yes (is_admit row) (any_of is_admit (rows_of k before)) admitted
    by_case false e = ap (any_of is_admit) (filter-no (λ (r : Row). r.client == k) row before e) ∙ admitted

let-next : (row : Row) (before : List Row) (ks : List ℕ) → LetIn before ks → LetIn (row ∷ before) ks
let-next row before [] ins = tt
let-next row before (k ∷ ks) ins = (still-in row before k ins.0, let-next row before ks ins.1)

let-append : (rows : List Row) (xs ys : List ℕ) → LetIn rows xs → LetIn rows ys → LetIn rows (xs ++ ys)
let-append rows [] ys a b = b
let-append rows (x ∷ xs) ys a b = (a.0, let-append rows xs ys a.1 b)

pub let-entered : (rows : List Row) → LetIn rows (admitted_clients rows)
let-entered [] = tt
let-entered (row ∷ before) = let-append (row ∷ before) (admitted_clients before) (elim (is_admit row) as (λ _. List ℕ) [ true ↦ row.client ∷ [] | false ↦ [] ]) (let-next row before (admitted_clients before) (let-entered before)) (by_case (is_admit row) refl)
  where
    by_case : (b : Bool) → is_admit row ≡ b → LetIn (row ∷ before) (elim b as (λ _. List ℕ) [ true ↦ row.client ∷ [] | false ↦ [] ])
    by_case true e = (ap (any_of is_admit) (filter-yes (λ (r : Row). r.client == row.client) row before (self row.client)) ∙ ap (λ b. b || any_of is_admit (rows_of row.client before)) e, tt)
    by_case false e = tt

-- ---- one is admitted below the limit

is-less : (a b : ℕ) → nat_lt a b ≡ true → a + 1 ≤ b
is-less a b e = grind (arith, nat_tests)

abbrev pub Room : List Row → Row → Type 0
Room before row = is_admit row ≡ true → open_matters before + 1 ≤ 64

pub not-admit : (row : Row) (item : Item) → row.item ≡ item → ((k : ℕ) → item ≡ Admit k → ⊥) → is_admit row ≡ true → ⊥
not-admit row item is not admitted =
    let bad : false ≡ true = sym (by_item row.item row.fate (λ k e. not k (sym is ∙ e))) ∙ admitted in
    absurd (let h = bad in cc)
  where
    by_item : (i : Item) (fate : Fate) → ((k : ℕ) → i ≡ Admit k → ⊥) → is_admit (record row { item = i; fate = fate }) ≡ false
    by_item (Admit k) fate other = absurd (other k refl)
    by_item i Refused other = refl
    by_item i fate other = refl

pub treat-room : (policy : Policy) (pid pick : ℕ) (before : List Row) (item : Item) → Room before (treat policy pid pick before item)
treat-room policy pid pick before (Admit k) admitted = by_case (nat_lt (open_matters before) 64) refl
  where
    by_case : (b : Bool) → nat_lt (open_matters before) 64 ≡ b → open_matters before + 1 ≤ 64
    by_case true e = is-less (open_matters before) 64 e
    by_case false e =
        let refused : false ≡ true = sym (ap (λ b. is_admit (row_of (Admit k) k (elim b as (λ _. Outcome) [ true ↦ records (frame_answer (Greets VERSION)) | false ↦ record { sent = []; recorded = []; ends = Refused } ]) (rows_of k before))) e) ∙ admitted in
        absurd (let h = refused in cc)
treat-room policy pid pick before item admitted = absurd (not-admit (treat policy pid pick before item) item (treat-item policy pid pick before item) (λ k e. cc) admitted)

-- ---- all rows

-- a row closes nothing again, and admits only below the limit
pub record FewMore (before : List Row) (row : Row) : Type 0 where
  pub stay : StayClosed before row
  pub room : Room before row

matters-few : (before : List Row) (row : Row) → FewMore before row → MattersBounded before → MattersBounded (row ∷ before)
matters-few before row few le = by_case (is_admit row) refl
  where
    less : matters_of (row ∷ before) (admitted_clients before) ≤ open_matters before
    less = matters-next before row few.stay (admitted_clients before) (let-entered before)

    by_case : (b : Bool) → is_admit row ≡ b → matters_of (row ∷ before) (admitted_clients before ++ elim b as (λ _. List ℕ) [ true ↦ row.client ∷ [] | false ↦ [] ]) ≤ 64
    by_case true e =
        let room = few.room e in
        let one = matters-one (row ∷ before) (admitted_clients before) row.client in
        let l = less in
        omega (arith, room)
    by_case false e =
        let l = less in
        let same = ap (matters_of (row ∷ before)) (no-one (admitted_clients before)) in
        omega (arith, le)
      where
        no-one : (ks : List ℕ) → ks ++ [] ≡ ks
        no-one [] = refl
        no-one (k ∷ ks) = ap (λ rest. k ∷ rest) (no-one ks)

last-few : (rows : List Row) → ForEach FewMore rows → MattersBounded rows
last-few [] each = omega arith
last-few (row ∷ before) each = matters-few before row each.0 (last-few before each.1)

pub few-at-each : (rows : List Row) → ForEach FewMore rows → AtEach MattersBounded rows
few-at-each [] each = last-few [] each
few-at-each (row ∷ before) each = (last-few (row ∷ before) each, few-at-each before each.1)

few-more : (policy : Policy) (pid : ℕ) (rows : List Row) → ForEach (RowKnown policy pid) rows → ForEach FewMore rows
few-more policy pid [] each = tt
few-more policy pid (row ∷ before) each = (
  record {
    stay = closed-next policy pid before row (record { each = each.1; good = each.0.good; orderly = each.0.orderly }) each.0;
    room = subst (Room before) each.0.is (treat-room policy pid each.0.pick before each.0.item);
  },
  few-more policy pid before each.1,
)

pub matters-bounded : (policy : Policy) (pid : ℕ) (rows : List Row) → LogKnown policy pid rows → AtEach MattersBounded rows
matters-bounded policy pid rows known = few-at-each rows (few-more policy pid rows known.each)
