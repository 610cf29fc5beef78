-- What the server sends goes to clients that were admitted.
use Rattle.std.proofs.Common.{◌≡◌, ℕ, zero, suc, List, [], ◌∷◌, ◌++◌, map, take, length, true, false, Bool, refl, ◌∙◌, ap, arith, sym, subst, Some, None, Ok, Err}
use Rattle.std.specs.Prelude.{◌==◌, ◌||◌, not, filter, find, slice_get, Result}
use Rattle.std.proofs.lemmas.Bool.Decides.{nat_tests}
use Rattle.ssh_grammar.specs.Messages.{Opens}
use Rattle.ssh_grammar.specs.declared.fault.Bad.{Bad}
use Rattle.mux_history.specs.Channels.{Channel, after_farewell, after_item, begun_by, channels_of, is_channel_held, is_number}
use Rattle.mux_history.specs.Controls.{client_has_greeted, house_sends, is_sends}
use Rattle.mux_history.specs.Forwardings.{Forwarding, dropped, forwarded, forwardings_of, live_at, of_client, forwarding_after_reply}
use Rattle.mux_history.specs.Summary.{Confirmation, Summary, Open, Refuses, Requests, Succeeds, Transport, Within, read_summary}
use Rattle.mux_history.specs.Heard.{Breaks, Dest, Disconnects, ToClient, ToMaster, dest, dest_summary, dest_open, received_for}
use Rattle.mux_history.specs.Kept.{ForEach}
use Rattle.mux_history.specs.Keys.{has_key}
use Rattle.mux_history.specs.Log.{admits, received_row, sent_by_client, treat}
use Rattle.mux_history.specs.Policy.{Policy}
use Rattle.mux_history.specs.Requests.{Ask, wanted_requests, asks_of, is_sent, replies, wanted_by}
use Rattle.mux_history.specs.Rows.{Admit, Fate, Gone, Heard, HouseSays, Item, Row, Says, any_of, is_admit, loses, rows_of}
use Rattle.mux_history.specs.Said.{silent}
use Rattle.mux_history.proofs.Askers.{asks-local, asks_for, get-filter}
use Rattle.mux_history.proofs.Bools.{or-left, or-right, self}
use Rattle.mux_history.proofs.Dests.{Asked, Offered, Reached, dest-err, dest-ok, offered, reached, refuses-asked, succeeds-asked}
use Rattle.mux_history.proofs.Finds.{filter-no, filter-yes}
use Rattle.mux_history.proofs.ForwardsLocal.{find-part, live-local}
use Rattle.mux_history.proofs.Local.{channels-local, is_of}
use Rattle.mux_history.proofs.RightLogs.{RowKnown}
use Rattle.mux_history.proofs.Sends.{as_row, row-parts}
use Rattle.mux_bounds.proofs.Begun.{heard-begins-none}
use Rattle.mux_bounds.proofs.Matters.{still-in}
use Rattle.mux_bounds.proofs.Owed.{asks-none}

-- ---- one that never sent anything has nothing

not-wanted : (row : Row) → is_sends row.item ≡ false → wanted_by row ≡ None
not-wanted row still = by_item row.item still
  where
    by_item : (i : Item) → is_sends i ≡ false → wanted_by (record row { item = i }) ≡ None
    by_item (Says k outgoing given) e = cc
    by_item i e = refl

quiet-asks : (own : List Row) → client_has_greeted own ≡ false → wanted_requests own ≡ []
quiet-asks [] quiet = refl
quiet-asks (row ∷ own) quiet =
    ap (λ xs. xs ++ asks_of row.client (is_sent row) (wanted_by row)) (quiet-asks own (or-right (is_sends row.item) (client_has_greeted own) quiet))
    ∙ (ap (asks_of row.client (is_sent row)) (not-wanted row (or-left (is_sends row.item) (client_has_greeted own) quiet)) ∙ asks-none row.client (is_sent row))

not-forwarded : (row : Row) (own : List Row) → is_sends row.item ≡ false → forwarded row own [] ≡ []
not-forwarded row own still = by_item row.item still
  where
    by_reading : (r : Result Summary Bad) → (elim r as (λ _. List Forwarding) [ Err e ↦ [] | Ok m ↦ map (of_client row.client (forwarding_after_reply (length (replies own)) m)) [] ]) ≡ []
    by_reading (Err e) = refl
    by_reading (Ok m) = refl

    by_item : (i : Item) → is_sends i ≡ false → forwarded (record row { item = i }) own [] ≡ []
    by_item (Says k outgoing given) e = cc
    by_item (Heard p) e = by_reading (read_summary p)
    by_item i e = refl

none-dropped : (row : Row) → dropped row [] ≡ []
none-dropped row = by_case (loses row)
  where
    by_case : (b : Bool) → (elim b as (λ _. List Forwarding) [ true ↦ map (of_client row.client (λ f. record f { over = true })) [] | false ↦ [] ]) ≡ []
    by_case true = refl
    by_case false = refl

quiet-forwardings : (own : List Row) → client_has_greeted own ≡ false → forwardings_of own ≡ []
quiet-forwardings [] quiet = refl
quiet-forwardings (row ∷ own) quiet =
    ap (λ fs. dropped row (forwarded row (rows_of row.client own) fs)) (quiet-forwardings own (or-right (is_sends row.item) (client_has_greeted own) quiet))
    ∙ (ap (dropped row) (not-forwarded row (rows_of row.client own) (or-left (is_sends row.item) (client_has_greeted own) quiet)) ∙ none-dropped row)

quiet-offers : (before : List Row) (k s : ℕ) (what : Opens) → client_has_greeted (rows_of k before) ≡ false → dest_open before s what ≡ ToClient k → ⊥
quiet-offers before k s what quiet to =
    let o : Offered before s what k = offered before s what k to in
    let at : live_at (rows_of k before) o.key ≡ Some o.forwarding = live-local k before o.key o.forwarding o.live o.client in
    let bad : None ≡ Some o.forwarding = sym (ap (λ fs. find (λ (f : Forwarding). has_key f.live o.key) (filter (λ (f : Forwarding). not f.over) fs)) (quiet-forwardings (rows_of k before) quiet)) ∙ at in
    absurd (let h = bad in cc)

-- ---- it begins no channel

abbrev Quiet : List Row → Row → Type 0
Quiet before row = is_sends row.item ≡ false → client_has_greeted (rows_of row.client before) ≡ false → begun_by row.client row.up row.item ≡ []

heard-quiet : (before : List Row) (k : ℕ) (p : List ℕ) (fw down : List (List ℕ)) (fate : Fate) → dest before p ≡ ToClient k → Quiet before (as_row (Heard p) k (received_for (rows_of k before) p).sent fw down fate)
heard-quiet before k p fw down fate to still quiet =
    heard-begins-none k p (received_for (rows_of k before) p).sent (λ what s w max reads. quiet-offers before k s what quiet (sym (dest-ok before p (Open what s w max) reads) ∙ to))

dest-quiet : (before : List Row) (p : List ℕ) (d : Dest) → dest before p ≡ d → Quiet before (received_row before p d)
dest-quiet before p ToMaster e = λ still quiet. refl
dest-quiet before p (ToClient k) e = row-parts (Quiet before) (Heard p) k (received_for (rows_of k before) p) (rows_of k before) (λ fw parting down fate. heard-quiet before k p fw down fate e)
dest-quiet before p Disconnects e = λ still quiet. refl
dest-quiet before p (Breaks cause) e = λ still quiet. refl

treat-quiet : (policy : Policy) (pid pick : ℕ) (before : List Row) (item : Item) → Quiet before (treat policy pid pick before item)
treat-quiet policy pid pick before (Says k outgoing given) = row-parts (Quiet before) (Says k outgoing given) k (sent_by_client policy pid k (rows_of k before) pick outgoing given) (rows_of k before) (λ fw parting down fate still quiet. cc)
treat-quiet policy pid pick before (Admit k) = row-parts (Quiet before) (Admit k) k (admits before) (rows_of k before) (λ fw parting down fate still quiet. refl)
treat-quiet policy pid pick before (HouseSays k id given) = row-parts (Quiet before) (HouseSays k id given) k (house_sends (rows_of k before) id given) (rows_of k before) (λ fw parting down fate still quiet. refl)
treat-quiet policy pid pick before (Gone k) = row-parts (Quiet before) (Gone k) k silent (rows_of k before) (λ fw parting down fate still quiet. refl)
treat-quiet policy pid pick before (Heard p) = dest-quiet before p (dest before p) refl
treat-quiet policy pid pick before item = λ still quiet. refl

quiet-channels : (policy : Policy) (pid k : ℕ) (rows : List Row) → ForEach (RowKnown policy pid) rows → client_has_greeted (rows_of k rows) ≡ false → channels_of (rows_of k rows) ≡ []
quiet-channels policy pid k [] each quiet = refl
quiet-channels policy pid k (row ∷ before) each quiet = by_case (λ h. quiet-channels policy pid k before each.1 h) (row.client == k) refl quiet
  where
    by_case : (client_has_greeted (rows_of k before) ≡ false → channels_of (rows_of k before) ≡ []) → (b : Bool) → (row.client == k) ≡ b → client_has_greeted (rows_of k (row ∷ before)) ≡ false → channels_of (rows_of k (row ∷ before)) ≡ []
    by_case ih true e quiet =
        let now : (is_sends row.item || client_has_greeted (rows_of k before)) ≡ false = sym (ap client_has_greeted (filter-yes (λ (r : Row). r.client == k) row before e)) ∙ quiet in
        let still = or-left (is_sends row.item) (client_has_greeted (rows_of k before)) now in
        let was = or-right (is_sends row.item) (client_has_greeted (rows_of k before)) now in
        let same : k ≡ row.client = sym (same_client row.client k e) in
        let none : begun_by row.client row.up row.item ≡ [] = subst (Quiet before) each.0.is (treat-quiet policy pid each.0.pick before each.0.item) still (ap (λ j. client_has_greeted (rows_of j before)) (sym same) ∙ was) in
        ap channels_of (filter-yes (λ (r : Row). r.client == k) row before e)
        ∙ (ap (λ xs. map (after_farewell row) (map (after_item row) xs ++ begun_by row.client row.up row.item)) (ih was)
        ∙ ap (map (after_farewell row)) none)
      where
        same_client : (a k : ℕ) → (a == k) ≡ true → a ≡ k
        same_client a k e = grind (arith, nat_tests)
    by_case ih false e quiet = ap channels_of (filter-no (λ (r : Row). r.client == k) row before e) ∙ ih (sym (ap client_has_greeted (filter-no (λ (r : Row). r.client == k) row before e)) ∙ quiet)

-- ---- so what the server sends goes to one that sent something

never-asked : (before : List Row) (k : ℕ) → client_has_greeted (rows_of k before) ≡ false → Asked before k → ⊥
never-asked before k quiet asked =
    let got = get-filter (asks_for k) (wanted_requests before) (length (replies before)) asked.ask asked.is (ap (λ c. c == k) asked.client ∙ self k) in
    let at = ap (λ xs. slice_get xs (length (filter (asks_for k) (take (length (replies before)) (wanted_requests before))))) (asks-local k before ∙ quiet-asks (rows_of k before) quiet) in
    none-get (length (filter (asks_for k) (take (length (replies before)) (wanted_requests before)))) asked.ask (sym at ∙ got)
  where
    none-get : (n : ℕ) (a : Ask) → slice_get [] n ≡ Some a → ⊥
    none-get zero a e = cc
    none-get (suc n) a e = cc

never-reached : (policy : Policy) (pid : ℕ) (before : List Row) (n k : ℕ) → ForEach (RowKnown policy pid) before → client_has_greeted (rows_of k before) ≡ false → Reached before n k → ⊥
never-reached policy pid before n k each quiet there =
    let found = find-part is_channel_held (is_of k) (λ (x : Channel). is_number x.number n) there.channel (channels_of before) there.is (ap (λ c. c == k) there.client ∙ self k) in
    let none = ap (λ xs. find (λ (x : Channel). is_number x.number n) (filter is_channel_held xs)) (channels-local k before ∙ quiet-channels policy pid k before each quiet) in
    let bad : None ≡ Some there.channel = sym none ∙ found in absurd (let h = bad in cc)

pub to-greeted : (policy : Policy) (pid : ℕ) (before : List Row) (p : List ℕ) (k : ℕ) → ForEach (RowKnown policy pid) before → dest before p ≡ ToClient k → client_has_greeted (rows_of k before) ≡ true
to-greeted policy pid before p k each to = by_case (client_has_greeted (rows_of k before)) refl
  where
    by_message : client_has_greeted (rows_of k before) ≡ false → (m : Summary) → read_summary p ≡ Ok m → dest_summary before m ≡ ToClient k → ⊥
    by_message quiet (Succeeds rest) reads e = never-asked before k quiet (succeeds-asked before rest k e)
    by_message quiet Refuses reads e = never-asked before k quiet (refuses-asked before k e)
    by_message quiet (Open what s w max) reads e = quiet-offers before k s what quiet e
    by_message quiet (Confirmation n s w max) reads e = never-reached policy pid before n k each quiet (reached before (Confirmation n s w max) n k refl e)
    by_message quiet (Within n act) reads e = never-reached policy pid before n k each quiet (reached before (Within n act) n k refl e)
    by_message quiet (Transport number) reads e = by_number (number == 1) e
      where
        by_number : (b : Bool) → (elim b as (λ _. Dest) [ true ↦ Disconnects | false ↦ ToMaster ]) ≡ ToClient k → ⊥
        by_number true e = cc
        by_number false e = cc
    by_message quiet (Requests what wants) reads e = cc

    by_read : client_has_greeted (rows_of k before) ≡ false → (r : Result Summary Bad) → read_summary p ≡ r → ⊥
    by_read quiet (Err bad) reads = let x : Breaks _ ≡ ToClient k = sym (dest-err before p bad reads) ∙ to in cc
    by_read quiet (Ok m) reads = by_message quiet m reads (sym (dest-ok before p m reads) ∙ to)

    by_case : (b : Bool) → client_has_greeted (rows_of k before) ≡ b → client_has_greeted (rows_of k before) ≡ true
    by_case true e = e
    by_case false e = absurd (by_read e (read_summary p) refl)

-- ---- which was admitted

-- an item of a client alone
abbrev pub is_own : Item → Bool
is_own (Says k outgoing given) = true
is_own (HouseSays k id given) = true
is_own (Gone k) = true
is_own item = false

-- a row of such an item is of a client that was admitted
abbrev pub LetFirst : List Row → Row → Type 0
LetFirst before row = is_own row.item ≡ true → any_of is_admit (rows_of row.client before) ≡ true

says-own : (item : Item) → is_sends item ≡ true → is_own item ≡ true
says-own (Says k outgoing given) e = refl
says-own item e = cc

pub greeted-in : (rows : List Row) (k : ℕ) → ForEach LetFirst rows → client_has_greeted (rows_of k rows) ≡ true → any_of is_admit (rows_of k rows) ≡ true
greeted-in [] k each said = cc
greeted-in (row ∷ before) k each said = by_case (λ h. greeted-in before k each.1 h) (row.client == k) refl said
  where
    by_case : (client_has_greeted (rows_of k before) ≡ true → any_of is_admit (rows_of k before) ≡ true) → (b : Bool) → (row.client == k) ≡ b → client_has_greeted (rows_of k (row ∷ before)) ≡ true → any_of is_admit (rows_of k (row ∷ before)) ≡ true
    by_case ih true e said = by_sends (is_sends row.item) refl (sym (ap client_has_greeted (filter-yes (λ (r : Row). r.client == k) row before e)) ∙ said)
      where
        same_client : (a k : ℕ) → (a == k) ≡ true → a ≡ k
        same_client a k e = grind (arith, nat_tests)

        by_sends : (s : Bool) → is_sends row.item ≡ s → (s || client_has_greeted (rows_of k before)) ≡ true → any_of is_admit (rows_of k (row ∷ before)) ≡ true
        by_sends true is some = still-in row before k (ap (λ j. any_of is_admit (rows_of j before)) (sym (same_client row.client k e)) ∙ each.0 (says-own row.item is))
        by_sends false is some = still-in row before k (ih some)
    by_case ih false e said = still-in row before k (ih (sym (ap client_has_greeted (filter-no (λ (r : Row). r.client == k) row before e)) ∙ said))
