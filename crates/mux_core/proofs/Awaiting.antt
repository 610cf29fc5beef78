-- A server's open that waits for its client's answer: what the core finds is what the history
-- finds.
use Rattle.std.proofs.Common.{◌≡◌, ℕ, List, [], ◌∷◌, true, false, Bool, refl, ◌∙◌, ap, sym, subst, Option, Some, None}
use Rattle.std.specs.Prelude.{find, not, ◌==◌, ◌&&◌, option_map}
use Rattle.std.specs.List.{AllByRecursion}
use Rattle.mux_history.specs.Rows.{Row, rows_of}
use Rattle.mux_history.specs.Channels.{Channel, held_of, is_confirmed, is_number, is_up}
use Rattle.mux_history.specs.Said.{waiting_at}
use Rattle.mux_history.proofs.Local as local
use Rattle.mux_history.proofs.Sends.{and-left, and-right}
use Rattle.window_ledger.specs.declared.ledger.Ledger.{Ledger}
use Rattle.window_ledger.specs.Stands.{is_open_confirmed}
use Rattle.channel_table.specs.Entries.{TableEntry}
use Rattle.channel_table.specs.Entries.{AreApart, has_remote, is_at, is_channel_of, ledger_at}
use Rattle.channel_table.specs.Stands.{ChannelsFit, EntryFits}
use Rattle.mux_core.specs.Lookups.{awaits_answer, if_waiting, open_waiting_for, waiting_under}
use Rattle.mux_core.proofs.Apart.{passes}
use Rattle.channel_table.proofs.EntryFits.{FoundFit, found-fit}
use Rattle.mux_core.proofs.Found.{at-number, find-filter, find-narrow, find-none, held-local, only_if, remote-sole, stands-confirmed}

abbrev waits_in : Channel → Bool
waits_in x = not (is_up x.by) && not (is_confirmed x)

some-same : (a b : ℕ × Ledger) → Some a ≡ Some b → a ≡ b
some-same a b h = cc

abbrev pub is_waiting_at : ℕ → ℕ → TableEntry → Bool
is_waiting_at k s e = is_channel_of k e && (has_remote s e && awaits_answer e.channel e.ledger)

-- the entry that the core finds, where it finds one
pub record WaitingEntry (es : List TableEntry) (k s n : ℕ) (l : Ledger) : Type 0 where
  pub entry : TableEntry
  pub number : entry.number ≡ n
  pub ledger : entry.ledger ≡ l
  pub found : find (has_remote s) es ≡ Some entry
  pub mine : is_channel_of k entry ≡ true
  pub answered : awaits_answer entry.channel entry.ledger ≡ true
  pub only : find (is_waiting_at k s) es ≡ Some entry
  pub at : find (is_at n) es ≡ Some entry

narrow : (k s : ℕ) (e : TableEntry) → is_waiting_at k s e ≡ true → has_remote s e ≡ true
narrow k s e h = and-left (has_remote s e) (awaits_answer e.channel e.ledger) (and-right (is_channel_of k e) (has_remote s e && awaits_answer e.channel e.ledger) h)

-- what a core looks up, by the entry that the server's number finds
looked : (es : List TableEntry) (k s : ℕ) (e0 : TableEntry) → AreApart es → find (has_remote s) es ≡ Some e0 → open_waiting_for es k s ≡ if_waiting k e0.number (Some e0.channel) (Some e0.ledger)
looked es k s e0 apart h =
    ap (waiting_under es k) (ap (option_map (λ (e : TableEntry). e.number)) h)
    ∙ (ap (λ o. if_waiting k e0.number (option_map (λ (e : TableEntry). e.channel) o) (ledger_at es e0.number)) (at-number (has_remote s) (remote-sole s) e0 es apart h)
    ∙ ap (λ o. if_waiting k e0.number (Some e0.channel) (option_map (λ (e : TableEntry). e.ledger) o)) (at-number (has_remote s) (remote-sole s) e0 es apart h))

pub waiting-entry : (es : List TableEntry) (k s n : ℕ) (l : Ledger) → AreApart es → open_waiting_for es k s ≡ Some (n, l) → WaitingEntry es k s n l
waiting-entry es k s n l apart h = by_found (find (has_remote s) es) refl
  where
    by_test : (e0 : TableEntry) → find (has_remote s) es ≡ Some e0 → (b : Bool) → ((e0.channel.client == k) && awaits_answer e0.channel e0.ledger) ≡ b → (elim b as (λ _. Option (ℕ × Ledger)) [ true ↦ Some (e0.number, e0.ledger) | false ↦ None ]) ≡ Some (n, l) → WaitingEntry es k s n l
    by_test e0 f true t g =
        let pairs = some-same (e0.number, e0.ledger) (n, l) g in
        let number : e0.number ≡ n = ap (λ (q : ℕ × Ledger). q.0) pairs in
        let same : e0.ledger ≡ l = ap (λ (q : ℕ × Ledger). q.1) pairs in
        let mine = and-left (e0.channel.client == k) (awaits_answer e0.channel e0.ledger) t in
        let answered = and-right (e0.channel.client == k) (awaits_answer e0.channel e0.ledger) t in
        let passes_ : is_waiting_at k s e0 ≡ true = ap (λ b. b && (has_remote s e0 && awaits_answer e0.channel e0.ledger)) mine ∙ (ap (λ b. b && awaits_answer e0.channel e0.ledger) (passes (has_remote s) e0 es f) ∙ answered) in
        record {
          entry = e0;
          number = number;
          ledger = same;
          found = f;
          mine = mine;
          answered = answered;
          only = find-narrow (has_remote s) (is_waiting_at k s) (remote-sole s) (narrow k s) e0 es apart f ∙ ap (λ b. only_if b e0) passes_;
          at = subst (λ i. find (is_at i) es ≡ Some e0) number (at-number (has_remote s) (remote-sole s) e0 es apart f);
        }
    by_test e0 f false t g = absurd (cc)

    by_found : (o : Option TableEntry) → find (has_remote s) es ≡ o → WaitingEntry es k s n l
    by_found None f = absurd (let g : None ≡ Some (n, l) = sym (ap (waiting_under es k) (ap (option_map (λ (e : TableEntry). e.number)) f)) ∙ h in cc)
    by_found (Some e0) f = by_test e0 f ((e0.channel.client == k) && awaits_answer e0.channel e0.ledger) refl (sym (looked es k s e0 apart f) ∙ h)

-- where the core finds none, none is there
pub waiting-none : (es : List TableEntry) (k s : ℕ) → AreApart es → open_waiting_for es k s ≡ None → find (is_waiting_at k s) es ≡ None
waiting-none es k s apart h = by_found (find (has_remote s) es) refl
  where
    by_test : (e0 : TableEntry) → find (has_remote s) es ≡ Some e0 → (b : Bool) → ((e0.channel.client == k) && awaits_answer e0.channel e0.ledger) ≡ b → (elim b as (λ _. Option (ℕ × Ledger)) [ true ↦ Some (e0.number, e0.ledger) | false ↦ None ]) ≡ None → find (is_waiting_at k s) es ≡ None
    by_test e0 f true t g = absurd (cc)
    by_test e0 f false t g = find-narrow (has_remote s) (is_waiting_at k s) (remote-sole s) (narrow k s) e0 es apart f ∙ ap (λ b. only_if b e0) (ap (λ b. is_channel_of k e0 && (b && awaits_answer e0.channel e0.ledger)) (passes (has_remote s) e0 es f) ∙ t)

    by_found : (o : Option TableEntry) → find (has_remote s) es ≡ o → find (is_waiting_at k s) es ≡ None
    by_found None f = find-none (has_remote s) (is_waiting_at k s) (narrow k s) es f
    by_found (Some e0) f = by_test e0 f ((e0.channel.client == k) && awaits_answer e0.channel e0.ledger) refl (sym (looked es k s e0 apart f) ∙ h)

-- the history finds what the core finds
abbrev is_theirs : ℕ → ℕ → Channel → Bool
is_theirs k s x = local.is_of k x && (is_number x.remote s && waits_in x)

same-test : (k s : ℕ) (e : TableEntry) (x : Channel) → Unit {0} → EntryFits e x → is_waiting_at k s e ≡ is_theirs k s x
same-test k s e x u fits =
    ap (λ i. (i == k) && (has_remote s e && awaits_answer e.channel e.ledger)) fits.client
    ∙ (ap (λ o. (x.client == k) && (is_number o s && awaits_answer e.channel e.ledger)) fits.remote
    ∙ (ap (λ by. (x.client == k) && (is_number x.remote s && (not (is_up by) && not (is_open_confirmed e.ledger)))) fits.by
    ∙ ap (λ b. (x.client == k) && (is_number x.remote s && (not (is_up x.by) && not b))) (stands-confirmed e.ledger x fits.ledger)))

all-unit : (es : List TableEntry) → AllByRecursion (λ _. Unit {0}) es
all-unit [] = tt
all-unit (e ∷ es) = (tt, all-unit es)

pub waiting-fit : (es : List TableEntry) (k s : ℕ) (rows : List Row) → ChannelsFit es (held_of rows) → FoundFit (find (is_waiting_at k s) es) (waiting_at (rows_of k rows) s)
waiting-fit es k s rows fit =
    subst (FoundFit (find (is_waiting_at k s) es))
    (sym (find-filter (local.is_of k) (λ x. is_number x.remote s && waits_in x) (held_of rows)) ∙ ap (find (λ (x : Channel). is_number x.remote s && waits_in x)) (held-local k rows))
    (found-fit (λ _. Unit {0}) (is_waiting_at k s) (is_theirs k s) (same-test k s) es (held_of rows) (all-unit es) fit)
