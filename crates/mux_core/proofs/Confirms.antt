-- The entry of an open that is confirmed: first the other side's number, then the account.
use Rattle.std.proofs.Common.{◌≡◌, ℕ, List, [], ◌∷◌, true, false, Bool, refl, ◌∙◌, ap, sym, Some}
use Rattle.std.specs.Prelude.{◌==◌}
use Rattle.window_ledger.specs.declared.ledger.Ledger.{Ledger}
use Rattle.channel_table.specs.Entries.{TableEntry, at_number, changed_at, with_ledger, entry_with_own, with_remote}

-- by the server, or by the client
abbrev pub confirm_remote : ℕ → Ledger → TableEntry → TableEntry
confirm_remote remote ledger e = record e { channel = record e.channel { remote = Some remote }; ledger = ledger }

abbrev pub confirm_own : ℕ → Ledger → TableEntry → TableEntry
confirm_own own ledger e = record e { channel = record e.channel { own = Some own }; ledger = ledger }

-- two changes of the entry under a number
twice : (n : ℕ) (f : TableEntry → TableEntry) (l : Ledger) (e : TableEntry) → (f e).number ≡ e.number → at_number n (with_ledger l) (at_number n f e) ≡ at_number n (λ d. with_ledger l (f d)) e
twice n f l e same = by_number (e.number == n) refl
  where
    by_number : (b : Bool) → (e.number == n) ≡ b → at_number n (with_ledger l) (at_number n f e) ≡ at_number n (λ d. with_ledger l (f d)) e
    by_number true h =
        ap (λ (c : Bool). at_number n (with_ledger l) (elim c as (λ _. TableEntry) [ true ↦ f e | false ↦ e ])) h
        ∙ (ap (λ (c : Bool). elim c as (λ _. TableEntry) [ true ↦ with_ledger l (f e) | false ↦ f e ]) (ap (λ i. i == n) same ∙ h)
        ∙ sym (ap (λ (c : Bool). elim c as (λ _. TableEntry) [ true ↦ with_ledger l (f e) | false ↦ e ]) h))
    by_number false h =
        ap (λ (c : Bool). at_number n (with_ledger l) (elim c as (λ _. TableEntry) [ true ↦ f e | false ↦ e ])) h
        ∙ (ap (λ (c : Bool). elim c as (λ _. TableEntry) [ true ↦ with_ledger l e | false ↦ e ]) h
        ∙ sym (ap (λ (c : Bool). elim c as (λ _. TableEntry) [ true ↦ with_ledger l (f e) | false ↦ e ]) h))

changed-twice : (n : ℕ) (f : TableEntry → TableEntry) (l : Ledger) → ((e : TableEntry) → (f e).number ≡ e.number) → (es : List TableEntry) → changed_at n (with_ledger l) (changed_at n f es) ≡ changed_at n (λ d. with_ledger l (f d)) es
changed-twice n f l same [] = refl
changed-twice n f l same (e ∷ es) = ap (λ d. d ∷ changed_at n (with_ledger l) (changed_at n f es)) (twice n f l e (same e)) ∙ ap (λ ds. at_number n (λ d. with_ledger l (f d)) e ∷ ds) (changed-twice n f l same es)

pub remote-then : (n remote : ℕ) (l : Ledger) (es : List TableEntry) → changed_at n (with_ledger l) (changed_at n (with_remote remote) es) ≡ changed_at n (confirm_remote remote l) es
remote-then n remote l es = changed-twice n (with_remote remote) l (λ e. refl) es

pub own-then : (n own : ℕ) (l : Ledger) (es : List TableEntry) → changed_at n (with_ledger l) (changed_at n (entry_with_own own) es) ≡ changed_at n (confirm_own own l) es
own-then n own l es = changed-twice n (entry_with_own own) l (λ e. refl) es
