-- A channel gets the other side's number: whether it may, and the state after its account is set
-- too.
use Rattle.std.proofs.Common.{◌≡◌, ℕ, List, true, false, Bool, refl, ◌∙◌, ap, sym, Option, Some, None}
use Rattle.std.specs.Prelude.{◌==◌, ◌&&◌, not, is_some}
use Rattle.window_ledger.specs.declared.ledger.Ledger.{Ledger}
use Rattle.mux_history.proofs.Bools.{same-number}
use Rattle.mux_history.proofs.Sends.{and-left}
use Rattle.channel_table.specs.declared.channel.Channel.{Channel}
use Rattle.channel_table.specs.Entries.{TableEntry, admitted_at, changed_at, ledger_at, number_of_own, number_of_remote, with_ledger, entry_with_own, with_remote}
use Rattle.mux_core.specs.State.{CoreState}
use Rattle.mux_core.specs.Lookups.{awaits_answer, changed_if, if_waiting, own_is_used, uses_own, open_waiting_for, waiting_under}
use Rattle.mux_core.proofs.Confirms.{confirm_own, confirm_remote, own-then, remote-then}

not-false : (b : Bool) → false ≡ not b → b ≡ true
not-false true h = refl
not-false false h = cc

not-true : (b : Bool) → true ≡ not b → b ≡ false
not-true true h = cc
not-true false h = refl

pub is-used : (b used : Bool) → b ≡ not used → b ≡ false → used ≡ true
is-used b used exact fails = not-false used (sym fails ∙ exact)

pub is-unused : (b used : Bool) → b ≡ not used → b ≡ true → used ≡ false
is-unused b used exact holds = not-true used (sym holds ∙ exact)

same-pair : (x y : ℕ × Ledger) → Some x ≡ Some y → x ≡ y
same-pair x y h = cc

-- the client of an open that waits for it is the one that answers
pub own-used : (es : List TableEntry) (k r n own : ℕ) (l : Ledger) → open_waiting_for es k r ≡ Some (n, l) → uses_own es n own ≡ is_some (number_of_own es k own)
own-used es k r n own l found = by_number (number_of_remote es r) found
  where
    by_number : (o : Option ℕ) → waiting_under es k o ≡ Some (n, l) → uses_own es n own ≡ is_some (number_of_own es k own)
    by_number None h = absurd (cc)
    by_number (Some m) h = by_found (admitted_at es m) refl (ledger_at es m) h
      where
        by_found : (a : Option Channel) → admitted_at es m ≡ a → (b : Option Ledger) → if_waiting k m a b ≡ Some (n, l) → uses_own es n own ≡ is_some (number_of_own es k own)
        by_found None at b h = absurd (cc)
        by_found (Some d) at None h = absurd (cc)
        by_found (Some d) at (Some b) h = by_test ((d.client == k) && awaits_answer d b) refl h
          where
            by_test : (t : Bool) → ((d.client == k) && awaits_answer d b) ≡ t → (elim t as (λ _. Option (ℕ × Ledger)) [ true ↦ Some (m, b) | false ↦ None ]) ≡ Some (n, l) → uses_own es n own ≡ is_some (number_of_own es k own)
            by_test false t h = absurd (cc)
            by_test true t h =
                let same : m ≡ n = ap (λ (p : ℕ × Ledger). p.0) (same-pair (m, b) (n, l) h) in
                ap (λ i. uses_own es i own) (sym same)
                ∙ (ap (λ (a : Option Channel). own_is_used es a own) at
                ∙ ap (λ i. is_some (number_of_own es i own)) (same-number d.client k (and-left (d.client == k) (awaits_answer d b) t)))

-- nothing changes where it may not
pub named-not : (s new : CoreState) (b : Bool) (n : ℕ) (f : TableEntry → TableEntry) → b ≡ false → new ≡ record s { channels = changed_if b n f s.channels } → new ≡ s
named-not s new b n f fails after = after ∙ ap (λ (c : Bool). let u : CoreState = record s { channels = changed_if c n f s.channels } in u) fails

-- both changes are one
pub own-named : (s mid new : CoreState) (b : Bool) (n own : ℕ) (l : Ledger) → b ≡ true → mid ≡ record s { channels = changed_if b n (entry_with_own own) s.channels } → new ≡ record mid { channels = changed_at n (with_ledger l) mid.channels } → new ≡ record s { channels = changed_at n (confirm_own own l) s.channels }
own-named s mid new b n own l holds first second =
    second
    ∙ (ap (λ (u : CoreState). let v : CoreState = record u { channels = changed_at n (with_ledger l) u.channels } in v) (first ∙ ap (λ (c : Bool). let u : CoreState = record s { channels = changed_if c n (entry_with_own own) s.channels } in u) holds)
    ∙ ap (λ (es : List TableEntry). let u : CoreState = record s { channels = es } in u) (own-then n own l s.channels))

pub remote-named : (s mid new : CoreState) (b : Bool) (n remote : ℕ) (l : Ledger) → b ≡ true → mid ≡ record s { channels = changed_if b n (with_remote remote) s.channels } → new ≡ record mid { channels = changed_at n (with_ledger l) mid.channels } → new ≡ record s { channels = changed_at n (confirm_remote remote l) s.channels }
remote-named s mid new b n remote l holds first second =
    second
    ∙ (ap (λ (u : CoreState). let v : CoreState = record u { channels = changed_at n (with_ledger l) u.channels } in v) (first ∙ ap (λ (c : Bool). let u : CoreState = record s { channels = changed_if c n (with_remote remote) s.channels } in u) holds)
    ∙ ap (λ (es : List TableEntry). let u : CoreState = record s { channels = es } in u) (remote-then n remote l s.channels))
