-- What waits for a stream goes on by one row.
use Rattle.std.proofs.Common.{◌≡◌, ℕ, List, [], ◌∷◌, ◌++◌, true, false, Bool, refl, ◌∙◌, ap, sym, map, drop, length, arith, length-drop}
use Rattle.std.specs.Prelude.{◌==◌}
use Rattle.std.proofs.lemmas.List.{append-nil}
use Rattle.std.proofs.lemmas.Bool.Decides.{nat_tests}
use Rattle.mux_history.specs.Pending.{given_by, joined, pending, pending_down, pending_up, took_by, took_up}
use Rattle.mux_history.specs.Rows.{Row, rows_of, sent_by}
use Rattle.mux_history.specs.Steps.{TakeStep, next_pending, take_row}
use Rattle.ssh_grammar.specs.Frames.{frame_payload}
use Rattle.mux_history.proofs.Finds.{filter-no, filter-yes}
use Rattle.mux_history.proofs.Bools.{self}

pub pending-step : (t : ℕ) (row : Row) (before : List Row) → pending t (row ∷ before) ≡ next_pending t row (pending t before)
pending-step t row before = by_stream (t == 0)
  where
    by_client : (b : Bool) → (row.client == t) ≡ b → pending_down (rows_of t (row ∷ before)) ≡ drop (elim b as (λ _. ℕ) [ true ↦ took_by row.item | false ↦ 0 ]) (pending_down (rows_of t before) ++ elim b as (λ _. List ℕ) [ true ↦ joined row.down | false ↦ [] ])
    by_client true e = ap pending_down (filter-yes (λ (r : Row). r.client == t) row before e)
    by_client false e = ap pending_down (filter-no (λ (r : Row). r.client == t) row before e) ∙ sym (append-nil (pending_down (rows_of t before)))

    by_stream : (b : Bool) → (elim b as (λ _. List ℕ) [ true ↦ pending_up (row ∷ before) | false ↦ pending_down (rows_of t (row ∷ before)) ])
        ≡ drop (elim b as (λ _. ℕ) [ true ↦ took_up row.item | false ↦ elim (row.client == t) as (λ _. ℕ) [ true ↦ took_by row.item | false ↦ 0 ] ]) ((elim b as (λ _. List ℕ) [ true ↦ pending_up before | false ↦ pending_down (rows_of t before) ]) ++ (elim b as (λ _. List ℕ) [ true ↦ joined (map frame_payload (sent_by row)) | false ↦ elim (row.client == t) as (λ _. List ℕ) [ true ↦ joined row.down | false ↦ [] ] ]))
    by_stream true = refl
    by_stream false = by_client (row.client == t) refl

-- ---- a take

given-none : (t s n : ℕ) → given_by t (take_row s n) ≡ []
given-none t s n = by_stream (t == 0) (s == t)
  where
    by_stream : (a b : Bool) → (elim a as (λ _. List ℕ) [ true ↦ [] | false ↦ elim b as (λ _. List ℕ) [ true ↦ [] | false ↦ [] ] ]) ≡ []
    by_stream true b = refl
    by_stream false true = refl
    by_stream false false = refl

abbrev taken : ℕ → ℕ → ℕ → ℕ
taken t s n = elim (t == 0) [
  | true ↦ elim (s == 0) [ true ↦ n | false ↦ 0 ]
  | false ↦ elim (s == t) [ true ↦ n | false ↦ 0 ]
]

taken-own : (t n : ℕ) → taken t t n ≡ n
taken-own t n = by_stream (t == 0) refl
  where
    by_stream : (b : Bool) → (t == 0) ≡ b → (elim b as (λ _. ℕ) [ true ↦ elim (t == 0) as (λ _. ℕ) [ true ↦ n | false ↦ 0 ] | false ↦ elim (t == t) as (λ _. ℕ) [ true ↦ n | false ↦ 0 ] ]) ≡ n
    by_stream true e = ap (λ b. elim b as (λ _. ℕ) [ true ↦ n | false ↦ 0 ]) e
    by_stream false e = ap (λ b. elim b as (λ _. ℕ) [ true ↦ n | false ↦ 0 ]) (self t)

turned : (a b : ℕ) → (a == b) ≡ false → (b == a) ≡ false
turned a b e = grind (arith, nat_tests)

other-zero : (t s : ℕ) → (t == s) ≡ false → (t == 0) ≡ true → (s == 0) ≡ false
other-zero t s e f = grind (arith, nat_tests)

taken-other : (t s n : ℕ) → (t == s) ≡ false → taken t s n ≡ 0
taken-other t s n other = by_stream (t == 0) refl
  where
    by_stream : (b : Bool) → (t == 0) ≡ b → (elim b as (λ _. ℕ) [ true ↦ elim (s == 0) as (λ _. ℕ) [ true ↦ n | false ↦ 0 ] | false ↦ elim (s == t) as (λ _. ℕ) [ true ↦ n | false ↦ 0 ] ]) ≡ 0
    by_stream true e = ap (λ b. elim b as (λ _. ℕ) [ true ↦ n | false ↦ 0 ]) (other-zero t s other e)
    by_stream false e = ap (λ b. elim b as (λ _. ℕ) [ true ↦ n | false ↦ 0 ]) (turned t s other)

after : (t s n : ℕ) (before : List Row) → pending t (take_row s n ∷ before) ≡ drop (taken t s n) (pending t before)
after t s n before =
    pending-step t (take_row s n) before
    ∙ (ap (λ new. drop (taken t s n) (pending t before ++ new)) (given-none t s n)
    ∙ ap (drop (taken t s n)) (append-nil (pending t before)))

pub take-leaves : (stream size : ℕ) (before : List Row) → TakeStep stream size before
take-leaves t n before = record {
  own = own;
  rest = λ le. let l = ap length own in let d = length-drop n (pending t before) in omega (arith, le);
  others = λ other apart. after other t n before ∙ ap (λ k. drop k (pending other before)) (taken-other other t n apart);
}
  where
    own : pending t (take_row t n ∷ before) ≡ drop n (pending t before)
    own = after t t n before ∙ ap (λ k. drop k (pending t before)) (taken-own t n)
