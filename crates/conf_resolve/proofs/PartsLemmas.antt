-- The rows of lines in two parts.
use Rattle.std.proofs.Common.{◌≡◌, ℕ, suc, ◌+◌, Bool, true, false, ◌||◌, List, [], ◌∷◌, ◌++◌, length, Option, Some, None, refl, sym, ap, ◌∙◌, arith}
use Rattle.std.specs.List.{list_any}
use Rattle.std.proofs.lemmas.List.{length-append}
use Rattle.conf_rules.specs.declared.causes.ResolveError.{ResolveError}
use Rattle.conf_rules.specs.Recorded.{Recorded}
use Rattle.conf_rules.specs.Sources.{Line}
use Rattle.conf_rules.specs.Rows.{LineRow, Pass}
use Rattle.conf_rules.specs.Resolution.{rows_from, is_refused, refuses, refusal_at, refusal_in, or_later}
use Rattle.conf_fold.specs.FoldRepresents.{next_row}
use Rattle.conf_fold.proofs.OrderLemmas.{from, refusal-behind, ok-none, not-none, rows-on, rows-end, behind-ok}

-- ---- refused rows

first-is-none : (o later : Option ResolveError) → or_later o later ≡ None → o ≡ None
first-is-none None later e = refl
first-is-none (Some x) later e = absurd cc

none-one : (r : LineRow) (rs : List LineRow) (t : Bool) → is_refused r.entry ≡ t → (refusal_in rs ≡ None → list_any refuses rs ≡ false) → or_later (refusal_at r.line r.entry) (refusal_in rs) ≡ None → (is_refused r.entry || list_any refuses rs) ≡ false
none-one r rs true h later e = absurd (not-none r.line r.entry h (first-is-none (refusal_at r.line r.entry) (refusal_in rs) e))
none-one r rs false h later e = rw h (later (rw (ok-none r.line r.entry h) at e))

pub none-refused : (rows : List LineRow) → refusal_in rows ≡ None → list_any refuses rows ≡ false
none-refused [] e = refl
none-refused (r ∷ rs) e = none-one r rs (is_refused r.entry) refl (none-refused rs) e

some-one : (r : LineRow) (rs : List LineRow) (x : ResolveError) (t : Bool) → is_refused r.entry ≡ t → (refusal_in rs ≡ Some x → list_any refuses rs ≡ true) → or_later (refusal_at r.line r.entry) (refusal_in rs) ≡ Some x → (is_refused r.entry || list_any refuses rs) ≡ true
some-one r rs x true k later h = rw k refl
some-one r rs x false k later h = rw k (later (rw (ok-none r.line r.entry k) at h))

pub any-refused : (rows : List LineRow) (e : ResolveError) → refusal_in rows ≡ Some e → list_any refuses rows ≡ true
any-refused [] e h = absurd cc
any-refused (r ∷ rs) e h = some-one r rs e (is_refused r.entry) refl (any-refused rs e) h

-- ---- lines in two parts

pub ends-refused : (recorded : Recorded) (pass : Pass) (rows : List LineRow) (place : ℕ) (x : Line) (xs : List Line) → refusal_in rows ≡ None → is_refused (next_row recorded pass rows place x).entry ≡ true → refusal_in (from recorded pass rows place (x ∷ xs)) ≡ None → ⊥
ends-refused recorded pass rows place x xs none h all = not-none (next_row recorded pass rows place x).line (next_row recorded pass rows place x).entry h (sym (refusal-behind rows (next_row recorded pass rows place x) none) ∙ ap refusal_in (sym (rows-end recorded pass rows place x xs h)) ∙ all)

append-one : (recorded : Recorded) (pass : Pass) (x : Line) (xs ys : List Line) (rows : List LineRow) (place : ℕ) (t : Bool) → is_refused (next_row recorded pass rows place x).entry ≡ t → refusal_in rows ≡ None → refusal_in (from recorded pass rows place (x ∷ xs)) ≡ None
    → ((rs : List LineRow) → refusal_in rs ≡ None → refusal_in (from recorded pass rs (place + 1) xs) ≡ None → from recorded pass rs (place + 1) (xs ++ ys) ≡ from recorded pass (from recorded pass rs (place + 1) xs) (place + 1 + length xs) ys)
    → from recorded pass rows place (x ∷ (xs ++ ys)) ≡ from recorded pass (from recorded pass rows place (x ∷ xs)) (place + suc (length xs)) ys
append-one recorded pass x xs ys rows place true h none all later = absurd (ends-refused recorded pass rows place x xs none h all)
append-one recorded pass x xs ys rows place false h none all later =
    let row = next_row recorded pass rows place x in
    let n : place + 1 + length xs ≡ place + suc (length xs) = omega arith in
    rows-on recorded pass rows place x (xs ++ ys) h ∙ later (rows ++ row ∷ []) (behind-ok recorded pass rows place x none h) (ap refusal_in (sym (rows-on recorded pass rows place x xs h)) ∙ all)
    ∙ ap (λ m. from recorded pass (from recorded pass (rows ++ row ∷ []) (place + 1) xs) m ys) n
    ∙ ap (λ rs. from recorded pass rs (place + suc (length xs)) ys) (sym (rows-on recorded pass rows place x xs h))

-- where no row is refused, the rows of later lines come after
pub rows-append : (recorded : Recorded) (pass : Pass) (xs ys : List Line) (rows : List LineRow) (place : ℕ) → refusal_in rows ≡ None → refusal_in (from recorded pass rows place xs) ≡ None → from recorded pass rows place (xs ++ ys) ≡ from recorded pass (from recorded pass rows place xs) (place + length xs) ys
unfolding rows_from
rows-append recorded pass [] ys rows place none all = let z : place ≡ place + 0 = omega arith in ap (λ n. from recorded pass rows n ys) z
rows-append recorded pass (x ∷ xs) ys rows place none all = append-one recorded pass x xs ys rows place (is_refused (next_row recorded pass rows place x).entry) refl none all (λ rs n a. rows-append recorded pass xs ys rs (place + 1) n a)

stop-one : (recorded : Recorded) (pass : Pass) (x : Line) (xs ys : List Line) (rows : List LineRow) (place : ℕ) (e : ResolveError) (t : Bool) → is_refused (next_row recorded pass rows place x).entry ≡ t → refusal_in rows ≡ None → refusal_in (from recorded pass rows place (x ∷ xs)) ≡ Some e
    → ((rs : List LineRow) → refusal_in rs ≡ None → refusal_in (from recorded pass rs (place + 1) xs) ≡ Some e → from recorded pass rs (place + 1) (xs ++ ys) ≡ from recorded pass rs (place + 1) xs)
    → from recorded pass rows place (x ∷ (xs ++ ys)) ≡ from recorded pass rows place (x ∷ xs)
stop-one recorded pass x xs ys rows place e true h none some later = rows-end recorded pass rows place x (xs ++ ys) h ∙ sym (rows-end recorded pass rows place x xs h)
stop-one recorded pass x xs ys rows place e false h none some later =
    rows-on recorded pass rows place x (xs ++ ys) h ∙ later (rows ++ next_row recorded pass rows place x ∷ []) (behind-ok recorded pass rows place x none h) (ap refusal_in (sym (rows-on recorded pass rows place x xs h)) ∙ some) ∙ sym (rows-on recorded pass rows place x xs h)

-- where one is, they don't
pub rows-stop : (recorded : Recorded) (pass : Pass) (xs ys : List Line) (rows : List LineRow) (place : ℕ) (e : ResolveError) → refusal_in rows ≡ None → refusal_in (from recorded pass rows place xs) ≡ Some e → from recorded pass rows place (xs ++ ys) ≡ from recorded pass rows place xs
unfolding rows_from
rows-stop recorded pass [] ys rows place e none some = absurd (let k : None ≡ Some e = sym none ∙ some in cc)
rows-stop recorded pass (x ∷ xs) ys rows place e none some = stop-one recorded pass x xs ys rows place e (is_refused (next_row recorded pass rows place x).entry) refl none some (λ rs n a. rows-stop recorded pass xs ys rs (place + 1) e n a)

length-one : (recorded : Recorded) (pass : Pass) (x : Line) (xs : List Line) (rows : List LineRow) (place : ℕ) (t : Bool) → is_refused (next_row recorded pass rows place x).entry ≡ t → refusal_in rows ≡ None → refusal_in (from recorded pass rows place (x ∷ xs)) ≡ None
    → ((rs : List LineRow) → refusal_in rs ≡ None → refusal_in (from recorded pass rs (place + 1) xs) ≡ None → length (from recorded pass rs (place + 1) xs) ≡ length rs + length xs)
    → length (from recorded pass rows place (x ∷ xs)) ≡ length rows + suc (length xs)
length-one recorded pass x xs rows place true h none all later = absurd (ends-refused recorded pass rows place x xs none h all)
length-one recorded pass x xs rows place false h none all later =
    let row = next_row recorded pass rows place x in
    let k : length (rows ++ row ∷ []) ≡ length rows + 1 = length-append rows (row ∷ []) in
    let n : length (rows ++ row ∷ []) + length xs ≡ length rows + suc (length xs) = omega (arith, k) in
    ap length (rows-on recorded pass rows place x xs h) ∙ later (rows ++ row ∷ []) (behind-ok recorded pass rows place x none h) (ap refusal_in (sym (rows-on recorded pass rows place x xs h)) ∙ all) ∙ n

-- how many rows there are
pub rows-length : (recorded : Recorded) (pass : Pass) (xs : List Line) (rows : List LineRow) (place : ℕ) → refusal_in rows ≡ None → refusal_in (from recorded pass rows place xs) ≡ None → length (from recorded pass rows place xs) ≡ length rows + length xs
unfolding rows_from
rows-length recorded pass [] rows place none all = omega arith
rows-length recorded pass (x ∷ xs) rows place none all = length-one recorded pass x xs rows place (is_refused (next_row recorded pass rows place x).entry) refl none all (λ rs n a. rows-length recorded pass xs rs (place + 1) n a)
