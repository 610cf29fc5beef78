-- What waits for a client is bounded.
use Rattle.std.proofs.Common.{◌≡◌, ◌++◌, drop, length, length-append, length-drop, ℕ, ◌+◌, ◌≤◌, List, [], ◌∷◌, length, true, false, Bool, refl, ap, arith, sym, subst}
use Rattle.std.specs.Prelude.{◌==◌, nat_le}
use Rattle.std.proofs.lemmas.Bool.Decides.{nat_tests}
use Rattle.mux_history.specs.Controls.{house_sends}
use Rattle.mux_history.specs.Heard.{Breaks, Dest, Disconnects, ToClient, ToMaster, dest, received_for, received_master}
use Rattle.mux_history.specs.Kept.{AtEach, ForEach}
use Rattle.mux_history.specs.Log.{admits, all_recorded, bare_row, frames_that_fit, received_row, row_of, sent_by_client, treat}
use Rattle.mux_history.specs.Pending.{joined, pending_down, took_by, waiting_down}
use Rattle.mux_history.specs.Policy.{Policy}
use Rattle.mux_history.specs.Rows.{Admit, Gone, Heard, HouseSays, Item, Row, Says, Took, rows_of}
use Rattle.mux_history.specs.Said.{Outcome, silent}
use Rattle.mux_isolation.specs.Laws.{WaitsBounded}
use Rattle.mux_history.proofs.Finds.{filter-no, filter-yes}
use Rattle.mux_history.proofs.OwnRows.{same-client}
use Rattle.mux_history.proofs.RightLogs.{LogKnown, by-treat}
use Rattle.mux_history.proofs.Sends.{row-split}
use Rattle.mux_isolation.proofs.Recorded.{master-recorded}

le-from : (a b : ℕ) → nat_le a b ≡ true → a ≤ b
le-from a b e = grind (arith, nat_tests)

-- the frames that fit keep the bound
fitting-bound : (have : ℕ) (fs : List (List ℕ)) → have ≤ 33554432 → have + length (joined (frames_that_fit have fs)) ≤ 33554432
fitting-bound have [] le = omega arith
fitting-bound have (f ∷ fs) le = by_case (nat_le (have + length f) 33554432) refl (λ h. fitting-bound (have + length f) fs h)
  where
    by_case : (b : Bool) → nat_le (have + length f) 33554432 ≡ b → (have + length f ≤ 33554432 → have + length f + length (joined (frames_that_fit (have + length f) fs)) ≤ 33554432) → have + length (joined (elim b as (λ _. List (List ℕ)) [ true ↦ f ∷ frames_that_fit (have + length f) fs | false ↦ [] ])) ≤ 33554432
    by_case true e ih = let h = ih (le-from (have + length f) 33554432 e) in let l = length-append f (joined (frames_that_fit (have + length f) fs)) in omega arith
    by_case false e ih = omega arith

-- a row keeps it for its client
abbrev pub Keeps : List Row → Row → Type 0
Keeps before row = waiting_down (rows_of row.client before) ≤ 33554432 → waiting_down (rows_of row.client before) + length (joined row.down) ≤ 33554432

pub keeps-row : (before : List Row) (item : Item) (k : ℕ) (o : Outcome) → Keeps before (row_of item k o (rows_of k before))
keeps-row before item k o = row-split (Keeps before) item k o (rows_of k before) (λ fw parting fate le. fitting-bound (waiting_down (rows_of k before)) (all_recorded (bare_row item k o) (rows_of k before)) le)

pub keeps-none : (before : List Row) (row : Row) → row.down ≡ [] → Keeps before row
keeps-none before row none le = let e = ap (λ fs. length (joined fs)) none in omega arith

keeps-heard : (before : List Row) (p : List ℕ) (d : Dest) → Keeps before (received_row before p d)
keeps-heard before p ToMaster = keeps-none before (bare_row (Heard p) 0 (received_master p)) (master-recorded p)
keeps-heard before p (ToClient k) = keeps-row before (Heard p) k (received_for (rows_of k before) p)
keeps-heard before p Disconnects = keeps-none before (received_row before p Disconnects) refl
keeps-heard before p (Breaks why) = keeps-none before (received_row before p (Breaks why)) refl

pub keeps-treat : (policy : Policy) (pid pick : ℕ) (before : List Row) (item : Item) → Keeps before (treat policy pid pick before item)
keeps-treat policy pid pick before (Admit k) = keeps-row before (Admit k) k (admits before)
keeps-treat policy pid pick before (Says k outgoing reply) = keeps-row before (Says k outgoing reply) k (sent_by_client policy pid k (rows_of k before) pick outgoing reply)
keeps-treat policy pid pick before (HouseSays k id given) = keeps-row before (HouseSays k id given) k (house_sends (rows_of k before) id given)
keeps-treat policy pid pick before (Gone k) = keeps-row before (Gone k) k silent
keeps-treat policy pid pick before (Heard p) = keeps-heard before p (dest before p)
keeps-treat policy pid pick before item = keeps-none before (treat policy pid pick before item) refl

waits : (rows : List Row) → ForEach Keeps rows → WaitsBounded rows
waits [] each k = omega arith
waits (row ∷ before) each k = by_case (waits before each.1 k) (row.client == k) refl
  where
    by_case : waiting_down (rows_of k before) ≤ 33554432 → (b : Bool) → (row.client == k) ≡ b → waiting_down (rows_of k (row ∷ before)) ≤ 33554432
    by_case ih true e =
        let mine : row.client ≡ k = same-client row.client k e in
        let kept : waiting_down (rows_of k before) + length (joined row.down) ≤ 33554432 = subst (λ (j : ℕ). waiting_down (rows_of j before) ≤ 33554432 → waiting_down (rows_of j before) + length (joined row.down) ≤ 33554432) mine each.0 ih in
        let at : waiting_down (rows_of k (row ∷ before)) ≡ length (drop (took_by row.item) (pending_down (rows_of k before) ++ joined row.down)) = ap waiting_down (filter-yes (λ (r : Row). r.client == k) row before e) in
        let shorter = length-drop (took_by row.item) (pending_down (rows_of k before) ++ joined row.down) in
        let both = length-append (pending_down (rows_of k before)) (joined row.down) in
        omega arith
    by_case ih false e = subst (λ (rs : List Row). waiting_down rs ≤ 33554432) (sym (filter-no (λ (r : Row). r.client == k) row before e)) ih

pub waits-at-each : (rows : List Row) → ForEach Keeps rows → AtEach WaitsBounded rows
waits-at-each [] each = waits [] each
waits-at-each (row ∷ before) each = (waits (row ∷ before) each, waits-at-each before each.1)

pub queues-bounded : (policy : Policy) (pid : ℕ) (rows : List Row) → LogKnown policy pid rows → AtEach WaitsBounded rows
queues-bounded policy pid rows known = waits-at-each rows (by-treat Keeps policy pid (λ pick before item good orderly may makes. keeps-treat policy pid pick before item) (λ before stream size. keeps-none before (bare_row (Took stream size) stream silent) refl) rows known.each)
