-- The requests without a reply go on by one row.
use Rattle.std.proofs.Common.{◌≡◌, ℕ, zero, suc, ◌≤◌, List, [], ◌∷◌, ◌++◌, length, true, false, Bool, refl, ◌∙◌, ap, arith, sym, take, drop, length-append}
use Rattle.std.specs.Prelude.{filter, slice_get}
use Rattle.std.proofs.lemmas.List.{append-nil, drop-append-le, drop-drop}
use Rattle.mux_history.specs.Summary.{reading}
use Rattle.mux_history.specs.Kept.{AtEach, ForEach}
use Rattle.mux_history.specs.Log.{treat}
use Rattle.mux_history.specs.Policy.{Policy}
use Rattle.mux_history.specs.Requests.{Ask, wanted_requests, asks_of, is_reply, is_sent, replies, reply_in, wanted_by}
use Rattle.mux_history.specs.Rows.{Heard, Item, Row, is_run_over, rows_of}
use Rattle.mux_history.specs.Steps.{AskersStep, UnrepliedOfEach, next_unreplied, take_row, unreplied}
use Rattle.mux_history.proofs.Askers.{Orderly, asks-local, asks_for}
use Rattle.mux_history.proofs.Finds.{filter-no, filter-yes}
use Rattle.mux_history.proofs.RightLogs.{LogKnown, RowKnown, by-treat}

-- ---- one row

one-reply : (item : Item) → length (reply_in item) ≤ 1
one-reply (Heard p) = by_case (reading p is_reply false)
  where
    by_case : (b : Bool) → length (elim b as (λ _. List (List ℕ)) [ true ↦ p ∷ [] | false ↦ [] ]) ≤ 1
    by_case true = omega arith
    by_case false = omega arith
one-reply item = omega arith

pub first-of : (xs : List Ask) (n : ℕ) → slice_get xs n ≡ slice_get (drop n xs) 0
first-of xs zero = refl
first-of [] (suc n) = refl
first-of (x ∷ xs) (suc n) = first-of xs n

pub goes-on : (row : Row) (before : List Row) → length (replies before) ≤ length (wanted_requests before) → unreplied (row ∷ before) ≡ next_unreplied row (unreplied before)
goes-on row before le =
    ap (λ n. drop n (wanted_requests before ++ new)) (length-append (replies before) (reply_in row.item))
    ∙ (sym (drop-drop (length (reply_in row.item)) (length (replies before)) (wanted_requests before ++ new))
    ∙ ap (drop (length (reply_in row.item))) (drop-append-le (length (replies before)) (wanted_requests before) new le))
  where
    new : List Ask
    new = asks_of row.client (is_sent row) (wanted_by row)

step : (row : Row) (before : List Row) → length (replies before) ≤ length (wanted_requests before) → AskersStep before row
step row before le = record { goes_on = goes-on row before le; first = first-of (wanted_requests before) (length (replies before)); one = one-reply row.item }

take-step : (before : List Row) (stream size : ℕ) → AskersStep before (take_row stream size)
take-step before stream size = record {
  goes_on = ap (λ (rs : List (List ℕ)). drop (length rs) (wanted_requests before ++ [])) (append-nil (replies before))
      ∙ (ap (drop (length (replies before))) (append-nil (wanted_requests before)) ∙ sym (append-nil (unreplied before)));
  first = first-of (wanted_requests before) (length (replies before));
  one = omega arith;
}

pub askers-go-on : (policy : Policy) (pid : ℕ) (rows : List Row) → LogKnown policy pid rows → ForEach AskersStep rows
askers-go-on policy pid rows known = by-treat AskersStep policy pid (λ pick before item good orderly lawful may. step (treat policy pid pick before item) before orderly.within) take-step rows known.each

-- ---- of each client

drop-filter : (test : Ask → Bool) (xs : List Ask) (n : ℕ) → filter test (drop n xs) ≡ drop (length (filter test (take n xs))) (filter test xs)
drop-filter test xs zero = refl
drop-filter test [] (suc n) = refl
drop-filter test (x ∷ xs) (suc n) = by_case (drop-filter test xs n) (test x) refl
  where
    by_case : filter test (drop n xs) ≡ drop (length (filter test (take n xs))) (filter test xs) → (b : Bool) → test x ≡ b → filter test (drop n xs) ≡ drop (length (filter test (x ∷ take n xs))) (filter test (x ∷ xs))
    by_case ih true e = ih ∙ sym (ap (λ ys. drop (length ys) (filter test (x ∷ xs))) (filter-yes test x (take n xs) e) ∙ ap (drop (length (x ∷ filter test (take n xs)))) (filter-yes test x xs e))
    by_case ih false e = ih ∙ sym (ap (λ ys. drop (length ys) (filter test (x ∷ xs))) (filter-no test x (take n xs) e) ∙ ap (drop (length (filter test (take n xs)))) (filter-no test x xs e))

pub of-each : (rows : List Row) → (is_run_over rows ≡ false → Orderly rows) → UnrepliedOfEach rows
of-each rows orderly going k =
    let known : Orderly rows = orderly going in
    ap (λ n. drop n (wanted_requests (rows_of k rows))) (known.each k)
    ∙ (ap (drop (length (filter (asks_for k) (take (length (replies rows)) (wanted_requests rows))))) (sym (asks-local k rows))
    ∙ sym (drop-filter (asks_for k) (wanted_requests rows) (length (replies rows))))

pub each-local : (policy : Policy) (pid : ℕ) (rows : List Row) → ForEach (RowKnown policy pid) rows → (is_run_over rows ≡ false → Orderly rows) → AtEach UnrepliedOfEach rows
each-local policy pid [] each orderly = of-each [] orderly
each-local policy pid (row ∷ before) each orderly = (of-each (row ∷ before) orderly, each-local policy pid before each.1 each.0.orderly)
