-- The numbers of a table stay small, after each step.
use Rattle.std.proofs.Common.{◌≡◌, ℕ, ◌<◌, ◌^◌, true, false, cond, not, List, [], ◌∷◌, ◌++◌, subst}
use Rattle.std.specs.Prelude.{Some, None, ◌==◌}
use Rattle.std.specs.List.{AllByRecursion}
use Rattle.std.proofs.lemmas.Option.{none-some, same_Some}
use Rattle.mux_history.specs.declared.limits.TheConstants.{NUMBERS_END}
use Rattle.window_ledger.specs.declared.ledger.Ledger.{Ledger}
use Rattle.channel_table.specs.Entries.{TableEntry, HasSmallNumbers, changed_at, freed, own_entry, remote_entry, with_ledger, entry_with_own, with_remote}

pub small-append : (xs : List TableEntry) (x : TableEntry) → HasSmallNumbers x → AllByRecursion HasSmallNumbers xs → AllByRecursion HasSmallNumbers (xs ++ x ∷ [])
small-append [] x h all = (h, tt)
small-append (y ∷ ys) x h all = (all.0, small-append ys x h all.1)

pub small-changed : (n : ℕ) (f : TableEntry → TableEntry) (xs : List TableEntry) → ((x : TableEntry) → HasSmallNumbers x → HasSmallNumbers (f x)) → AllByRecursion HasSmallNumbers xs → AllByRecursion HasSmallNumbers (changed_at n f xs)
small-changed n f [] keeps all = tt
small-changed n f (y ∷ ys) keeps all =
    (elim (y.number == n) as (λ b. HasSmallNumbers (elim b as (λ _. TableEntry) [ true ↦ f y | false ↦ y ])) [ true ↦ keeps y all.0 | false ↦ all.0 ], small-changed n f ys keeps all.1)

pub small-freed : (n : ℕ) (xs : List TableEntry) → AllByRecursion HasSmallNumbers xs → AllByRecursion HasSmallNumbers (freed n xs)
small-freed n [] all = tt
small-freed n (y ∷ ys) all =
    elim (y.number == n) as (λ b. AllByRecursion HasSmallNumbers (cond (not b) (y ∷ freed n ys) (freed n ys))) [
      | true ↦ small-freed n ys all.1
      | false ↦ (all.0, small-freed n ys all.1)
    ]

the-one : (a b : ℕ) → a < 2 ^ 32 → Some a ≡ Some b → b < 2 ^ 32
the-one a b l e = subst (λ n. n < 2 ^ 32) (same_Some a b e) l

none-there : (b : ℕ) → None ≡ Some b → b < 2 ^ 32
none-there b e = absurd (none-some b e)

pub small-own_entry : (n k c : ℕ) (ledger : Ledger) → n < NUMBERS_END → c < 2 ^ 32 → HasSmallNumbers (own_entry n k c ledger)
small-own_entry n k c ledger below l = record { number = below; own = λ d. the-one c d l; remote = none-there }

pub small-remote_entry : (n k s : ℕ) (ledger : Ledger) → n < NUMBERS_END → s < 2 ^ 32 → HasSmallNumbers (remote_entry n k s ledger)
small-remote_entry n k s ledger below l = record { number = below; own = none-there; remote = λ d. the-one s d l }

pub small-entry_with_own : (c : ℕ) → c < 2 ^ 32 → (x : TableEntry) → HasSmallNumbers x → HasSmallNumbers (entry_with_own c x)
small-entry_with_own c l x h = record { number = h.number; own = λ d. the-one c d l; remote = h.remote }

pub small-with_remote : (s : ℕ) → s < 2 ^ 32 → (x : TableEntry) → HasSmallNumbers x → HasSmallNumbers (with_remote s x)
small-with_remote s l x h = record { number = h.number; own = h.own; remote = λ d. the-one s d l }

pub small-with_ledger : (ledger : Ledger) (x : TableEntry) → HasSmallNumbers x → HasSmallNumbers (with_ledger ledger x)
small-with_ledger ledger x h = record { number = h.number; own = h.own; remote = h.remote }
