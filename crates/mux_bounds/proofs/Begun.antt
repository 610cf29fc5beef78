-- What a row begins: at most that much is held after it, and nothing is begun for a lost client.
use Rattle.std.proofs.Common.{◌≡◌, ℕ, ◌+◌, ◌≤◌, List, [], ◌∷◌, ◌++◌, map, length, length-append, true, false, Bool, refl, ◌∙◌, ap, arith, sym, Some, None, Ok, Err}
use Rattle.std.specs.Prelude.{◌==◌, Result, filter, find}
use Rattle.std.proofs.lemmas.List.{length-map}
use Rattle.mux_history.specs.Channels.{Channel, after_farewell, after_item, begun_by, held_of, is_channel_held, opened_down}
use Rattle.mux_history.specs.Forwardings.{Forwarding, current, forwardings_of, live_at}
use Rattle.mux_history.specs.Summary.{Confirmation, Summary, Open, Refuses, Requests, Succeeds, Transport, Within, read_summary, reading}
use Rattle.mux_history.specs.Heard.{ToClient, dest_open}
use Rattle.mux_history.specs.Kept.{ForEach}
use Rattle.mux_history.specs.Keys.{has_key}
use Rattle.mux_history.specs.Policy.{Policy}
use Rattle.mux_history.specs.Rows.{Heard, Row, is_lost, rows_of}
use Rattle.ssh_grammar.specs.Messages.{Opens}
use Rattle.ssh_grammar.specs.declared.fault.Bad.{Bad}
use Rattle.mux_history.proofs.Dests.{Offered, offered}
use Rattle.mux_history.proofs.Finds.{filter-no, filter-yes}
use Rattle.mux_history.proofs.ForwardsLocal.{live-local}
use Rattle.mux_history.proofs.RightLogs.{RowKnown}
use Rattle.mux_history.proofs.Steps.{held-step}
use Rattle.mux_bounds.proofs.Closed.{lost-done, none-current}

length-filter : (test : Channel → Bool) (xs : List Channel) → length (filter test xs) ≤ length xs
length-filter test [] = omega arith
length-filter test (x ∷ xs) = by_case (length-filter test xs) (test x) refl
  where
    by_case : length (filter test xs) ≤ length xs → (b : Bool) → test x ≡ b → length (filter test (x ∷ xs)) ≤ length (x ∷ xs)
    by_case ih true e = let l = ap length (filter-yes test x xs e) in omega arith
    by_case ih false e = let l = ap length (filter-no test x xs e) in omega arith

-- a row adds no more channels than it begins
pub held-count : (row : Row) (own : List Row) → length (held_of (row ∷ own)) ≤ length (held_of own) + length (begun_by row.client row.up row.item)
held-count row own =
    let a = ap length (held-step row own) in
    let b = length-filter is_channel_held (map (after_farewell row) (filter is_channel_held (map (after_item row) (held_of own) ++ begun_by row.client row.up row.item))) in
    let c = length-map (filter is_channel_held (map (after_item row) (held_of own) ++ begun_by row.client row.up row.item)) (after_farewell row) in
    let d = length-filter is_channel_held (map (after_item row) (held_of own) ++ begun_by row.client row.up row.item) in
    let e = length-append (map (after_item row) (held_of own)) (begun_by row.client row.up row.item) in
    let f = length-map (held_of own) (after_item row) in
    omega arith

-- ---- what the server opens

pub opened-down-not : (k : ℕ) (up : List (List ℕ)) (m : Summary) → ((what : Opens) (s w max : ℕ) → m ≡ Open what s w max → ⊥) → opened_down k up m ≡ []
opened-down-not k up (Open what s w max) not = absurd (not what s w max refl)
opened-down-not k [] (Transport number) not = refl
opened-down-not k [] (Requests what want) not = refl
opened-down-not k [] (Succeeds rest) not = refl
opened-down-not k [] Refuses not = refl
opened-down-not k [] (Confirmation n s w max) not = refl
opened-down-not k [] (Within n act) not = refl
opened-down-not k (q ∷ qs) m not = refl

-- what the server sends begins nothing, where it opens nothing
pub heard-begins-none : (k : ℕ) (p : List ℕ) (up : List (List ℕ)) → ((what : Opens) (s w max : ℕ) → read_summary p ≡ Ok (Open what s w max) → ⊥) → begun_by k up (Heard p) ≡ []
heard-begins-none k p up never = by_zero (k == 0)
  where
    by_case : (r : Result Summary Bad) → read_summary p ≡ r → (elim r as (λ _. List Channel) [ Err e ↦ [] | Ok m ↦ opened_down k up m ]) ≡ []
    by_case (Err e) reads = refl
    by_case (Ok m) reads = opened-down-not k up m (λ what s w max same. never what s w max (reads ∙ ap (λ (g : Summary). let r : Result Summary Bad = Ok g in r) same))

    by_zero : (b : Bool) → (elim b as (λ _. List Channel) [ true ↦ [] | false ↦ reading p (opened_down k up) [] ]) ≡ []
    by_zero true = refl
    by_zero false = by_case (read_summary p) refl

-- a lost client has no live forwarding left
pub lost-offers : (policy : Policy) (pid : ℕ) (before : List Row) (k s : ℕ) (what : Opens) → ForEach (RowKnown policy pid) before → is_lost (rows_of k before) ≡ true → dest_open before s what ≡ ToClient k → ⊥
lost-offers policy pid before k s what each lost to =
    let o : Offered before s what k = offered before s what k to in
    let at : live_at (rows_of k before) o.key ≡ Some o.forwarding = live-local k before o.key o.forwarding o.live o.client in
    let none : current (rows_of k before) ≡ [] = none-current (forwardings_of (rows_of k before)) (lost-done policy pid k before each lost) in
    let bad : None ≡ Some o.forwarding = sym (ap (find (λ (f : Forwarding). has_key f.live o.key)) none) ∙ at in
    absurd (let h = bad in cc)
