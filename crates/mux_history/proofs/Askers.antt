-- The oldest unanswered request of all, where it is a client's, is the oldest of that client.
use Rattle.std.proofs.Common.{◌≡◌, ℕ, zero, suc, ◌+◌, ◌≤◌, List, [], ◌∷◌, ◌++◌, length, true, false, Bool, refl, ◌∙◌, ap, arith, sym, Option, Some, None, subst, Ok, Err, take, length-append}
use Rattle.std.specs.Prelude.{◌==◌, ◌&&◌, filter, not, Result, slice_get}
use Rattle.std.proofs.lemmas.List.{append-nil, take-append-le}
use Rattle.std.proofs.lemmas.List.Elements.{filter-append}
use Rattle.std.proofs.lemmas.Option.{slice_get_within}
use Rattle.std.proofs.lemmas.Bool.Decides.{nat_tests}
use Rattle.mux_history.specs.Summary.{Confirmation, Summary, Open, Refuses, Requests, Succeeds, Transport, Within, read_summary}
use Rattle.mux_history.specs.Controls.{house_sends}
use Rattle.mux_history.specs.Heard.{Breaks, Dest, Disconnects, ToClient, ToMaster, dest, dest_asker, dest_summary, dest_success, received_for, received_master}
use Rattle.mux_history.specs.Keys.{learns_port}
use Rattle.mux_history.specs.Ledger.{request_count}
use Rattle.mux_history.specs.Log.{admits, bare_row, received_row, sent_by_client, treat}
use Rattle.mux_history.specs.Policy.{Policy}
use Rattle.mux_history.specs.Requests.{Ask, asker, wanted_requests, asks_of, is_reply, is_sent, replies, reply_in, wanted_by}
use Rattle.mux_history.specs.Rows.{Admit, BadServer, Gone, Heard, HouseSays, Item, Row, RunEnd, Says, ServerCut, ServerEnd, ServerFailed, Took, is_end, rows_of}
use Rattle.mux_history.specs.Said.{silent}
use Rattle.ssh_grammar.specs.Messages.{Cancel, Forward, Global, KeepAlive, OtherName}
use Rattle.ssh_grammar.specs.SpellMessage.{wants_reply}
use Rattle.ssh_grammar.specs.declared.fault.Bad.{Bad}
use Rattle.mux_history.specs.declared.broke.Break.TheVariants as broke
use Rattle.mux_history.proofs.Dests.{Asked, dest-err, dest-ok, refuses-asked, succeeds-asked}
use Rattle.mux_history.proofs.Finds.{filter-no, filter-yes}
use Rattle.mux_history.proofs.Readings.{reading-ok}
use Rattle.mux_history.proofs.Sends.{as_row, row-parts}

abbrev pub asks_for : ℕ → Ask → Bool
asks_for k a = a.client == k

asks-of-yes : (k j : ℕ) → (j == k) ≡ true → (sent : Bool) (o : Option Global) → filter (asks_for k) (asks_of j sent o) ≡ asks_of j sent o
asks-of-yes k j e true (Some what) = filter-yes (asks_for k) (record { client = j; what = what }) [] e
asks-of-yes k j e true None = refl
asks-of-yes k j e false o = refl

asks-of-no : (k j : ℕ) → (j == k) ≡ false → (sent : Bool) (o : Option Global) → filter (asks_for k) (asks_of j sent o) ≡ []
asks-of-no k j e true (Some what) = filter-no (asks_for k) (record { client = j; what = what }) [] e
asks-of-no k j e true None = refl
asks-of-no k j e false o = refl

-- a client's requests are looked up in its rows
pub asks-local : (k : ℕ) (rows : List Row) → filter (asks_for k) (wanted_requests rows) ≡ wanted_requests (rows_of k rows)
asks-local k [] = refl
asks-local k (row ∷ before) = choose (asks-local k before) (row.client == k) refl
  where
    choose : filter (asks_for k) (wanted_requests before) ≡ wanted_requests (rows_of k before) → (b : Bool) → (row.client == k) ≡ b → filter (asks_for k) (wanted_requests (row ∷ before)) ≡ wanted_requests (rows_of k (row ∷ before))
    choose ih true e = filter-append (asks_for k) (wanted_requests before) (asks_of row.client (is_sent row) (wanted_by row)) ∙ (ap (λ xs. xs ++ filter (asks_for k) (asks_of row.client (is_sent row) (wanted_by row))) ih ∙ (ap (λ xs. wanted_requests (rows_of k before) ++ xs) (asks-of-yes k row.client e (is_sent row) (wanted_by row)) ∙ sym (ap wanted_requests (filter-yes (λ (r : Row). r.client == k) row before e))))
    choose ih false e = filter-append (asks_for k) (wanted_requests before) (asks_of row.client (is_sent row) (wanted_by row)) ∙ (ap (λ xs. xs ++ filter (asks_for k) (asks_of row.client (is_sent row) (wanted_by row))) ih ∙ (ap (λ xs. wanted_requests (rows_of k before) ++ xs) (asks-of-no k row.client e (is_sent row) (wanted_by row)) ∙ (append-nil (wanted_requests (rows_of k before)) ∙ sym (ap wanted_requests (filter-no (λ (r : Row). r.client == k) row before e)))))

-- ---- first in, first out

pub get-filter : (test : Ask → Bool) (xs : List Ask) (i : ℕ) (a : Ask) → slice_get xs i ≡ Some a → test a ≡ true → slice_get (filter test xs) (length (filter test (take i xs))) ≡ Some a
get-filter test [] i a got yes_a = cc
get-filter test (x ∷ xs) zero a got yes_a = let same : x ≡ a = cc in ap (λ ys. slice_get ys 0) (filter-yes test x xs (ap test same ∙ yes_a)) ∙ got
get-filter test (x ∷ xs) (suc i) a got yes_a = by_head (get-filter test xs i a got yes_a) (test x) refl
  where
    by_head : slice_get (filter test xs) (length (filter test (take i xs))) ≡ Some a → (b : Bool) → test x ≡ b → slice_get (filter test (x ∷ xs)) (length (filter test (x ∷ take i xs))) ≡ Some a
    by_head ih true e = ap (λ ys. slice_get ys (length (filter test (x ∷ take i xs)))) (filter-yes test x xs e) ∙ (ap (λ ys. slice_get (x ∷ filter test xs) (length ys)) (filter-yes test x (take i xs) e) ∙ ih)
    by_head ih false e = ap (λ ys. slice_get ys (length (filter test (x ∷ take i xs)))) (filter-no test x xs e) ∙ (ap (λ ys. slice_get (filter test xs) (length ys)) (filter-no test x (take i xs) e) ∙ ih)

abbrev pub one_if : Bool → ℕ
one_if true = 1
one_if false = 0

pub count-next : (test : Ask → Bool) (xs : List Ask) (i : ℕ) (a : Ask) → slice_get xs i ≡ Some a → length (filter test (take (suc i) xs)) ≡ length (filter test (take i xs)) + one_if (test a)
count-next test [] i a got = cc
count-next test (x ∷ xs) zero a got = by_head (test x) refl
  where
    by_head : (b : Bool) → test x ≡ b → length (filter test (x ∷ [])) ≡ 0 + one_if (test a)
    by_head true e = let same : x ≡ a = cc in let f = ap length (filter-yes test x [] e) in let g = ap one_if (sym (ap test same) ∙ e) in omega arith
    by_head false e = let same : x ≡ a = cc in let f = ap length (filter-no test x [] e) in let g = ap one_if (sym (ap test same) ∙ e) in omega arith
count-next test (x ∷ xs) (suc i) a got = by_head (count-next test xs i a got) (test x) refl
  where
    by_head : length (filter test (take (suc i) xs)) ≡ length (filter test (take i xs)) + one_if (test a) → (b : Bool) → test x ≡ b → length (filter test (x ∷ take (suc i) xs)) ≡ length (filter test (x ∷ take i xs)) + one_if (test a)
    by_head ih true e = let f = ap length (filter-yes test x (take (suc i) xs) e) in let g = ap length (filter-yes test x (take i xs) e) in omega arith
    by_head ih false e = let f = ap length (filter-no test x (take (suc i) xs) e) in let g = ap length (filter-no test x (take i xs) e) in omega arith

-- the replies so far answer the first requests
pub record Orderly (rows : List Row) : Type 0 where
  pub within : length (replies rows) ≤ length (wanted_requests rows)
  pub each : (k : ℕ) → length (replies (rows_of k rows)) ≡ length (filter (asks_for k) (take (length (replies rows)) (wanted_requests rows)))

pub orderly-none : Orderly []
orderly-none = record { within = omega arith; each = λ k. refl }

-- so the asker is the client's own oldest
pub asker-local : (rows : List Row) (k : ℕ) → Orderly rows → (request_count : Asked rows k) → asker (rows_of k rows) ≡ Some request_count.ask
asker-local rows k orderly request_count =
    ap (λ xs. slice_get xs (length (replies (rows_of k rows)))) (sym (asks-local k rows))
    ∙ (ap (slice_get (filter (asks_for k) (wanted_requests rows))) (orderly.each k)
    ∙ get-filter (asks_for k) (wanted_requests rows) (length (replies rows)) request_count.ask request_count.is (same request_count.ask.client k request_count.client))
  where
    same : (a b : ℕ) → a ≡ b → (a == b) ≡ true
    same a b e = grind (arith, nat_tests)

-- ---- one more row

rows-count : (k : ℕ) (row : Row) (before : List Row) → length (replies (rows_of k (row ∷ before))) ≡ length (replies (rows_of k before)) + length (elim (row.client == k) as (λ _. List (List ℕ)) [ true ↦ reply_in row.item | false ↦ [] ])
rows-count k row before = by_case (row.client == k) refl
  where
    by_case : (b : Bool) → (row.client == k) ≡ b → length (replies (rows_of k (row ∷ before))) ≡ length (replies (rows_of k before)) + length (elim b as (λ _. List (List ℕ)) [ true ↦ reply_in row.item | false ↦ [] ])
    by_case true e = ap (λ rs. length (replies rs)) (filter-yes (λ (r : Row). r.client == k) row before e) ∙ length-append (replies (rows_of k before)) (reply_in row.item)
    by_case false e = let f : length (replies (rows_of k (row ∷ before))) ≡ length (replies (rows_of k before)) = ap (λ rs. length (replies rs)) (filter-no (λ (r : Row). r.client == k) row before e) in omega arith

-- a row that is no reply
orderly-still : (row : Row) (before : List Row) → reply_in row.item ≡ [] → Orderly before → Orderly (row ∷ before)
orderly-still row before none orderly = record {
  within = let f = ap length count in let g = length-append (wanted_requests before) (asks_of row.client (is_sent row) (wanted_by row)) in let h = orderly.within in omega arith;
  each = λ k.
      rows-count k row before
      ∙ (by_case k (row.client == k)
      ∙ (orderly.each k
      ∙ (ap (λ xs. length (filter (asks_for k) xs)) (sym (take-append-le (length (replies before)) (wanted_requests before) (asks_of row.client (is_sent row) (wanted_by row)) orderly.within))
      ∙ ap (λ n. length (filter (asks_for k) (take n (wanted_requests (row ∷ before))))) (sym (ap length count)))));
}
  where
    count : replies (row ∷ before) ≡ replies before
    count = ap (λ r. replies before ++ r) none ∙ append-nil (replies before)

    by_case : (k : ℕ) (b : Bool) → length (replies (rows_of k before)) + length (elim b as (λ _. List (List ℕ)) [ true ↦ reply_in row.item | false ↦ [] ]) ≡ length (replies (rows_of k before))
    by_case k true = let f = ap length none in omega arith
    by_case k false = omega arith

-- a reply, to the client that asked first
orderly-reply : (row : Row) (before : List Row) (p : List ℕ) → reply_in row.item ≡ p ∷ [] → asks_of row.client (is_sent row) (wanted_by row) ≡ [] → Asked before row.client → Orderly before → Orderly (row ∷ before)
orderly-reply row before p reply silent_row request_count orderly = record {
  within = let f = ap length count in let g = ap length still in let h = slice_get_within (wanted_requests before) (length (replies before)) request_count.ask request_count.is in let i = length-append (replies before) (p ∷ []) in omega arith;
  each = λ k.
      let g = length-append (replies before) (p ∷ []) in
      let at : length (replies (row ∷ before)) ≡ suc (length (replies before)) = ap length count ∙ omega arith in
      rows-count k row before
      ∙ (by_case k (row.client == k)
      ∙ (ap (λ n. n + one_if (row.client == k)) (orderly.each k)
      ∙ (ap (λ c. length (filter (asks_for k) (take (length (replies before)) (wanted_requests before))) + one_if (c == k)) (sym request_count.client)
      ∙ (sym (count-next (asks_for k) (wanted_requests before) (length (replies before)) request_count.ask request_count.is)
      ∙ (ap (λ n. length (filter (asks_for k) (take n (wanted_requests before)))) (sym at)
      ∙ ap (λ xs. length (filter (asks_for k) (take (length (replies (row ∷ before))) xs))) (sym still))))));
}
  where
    count : replies (row ∷ before) ≡ replies before ++ p ∷ []
    count = ap (λ r. replies before ++ r) reply

    still : wanted_requests (row ∷ before) ≡ wanted_requests before
    still = ap (λ xs. wanted_requests before ++ xs) silent_row ∙ append-nil (wanted_requests before)

    by_case : (k : ℕ) (b : Bool) → length (replies (rows_of k before)) + length (elim b as (λ _. List (List ℕ)) [ true ↦ reply_in row.item | false ↦ [] ]) ≡ length (replies (rows_of k before)) + one_if b
    by_case k true = let f = ap length reply in omega arith
    by_case k false = refl

abbrev OrderlyNext : List Row → Row → Type 0
OrderlyNext before row = is_end row.fate ≡ false → Orderly (row ∷ before)

no-reply : (p : List ℕ) (m : Summary) → read_summary p ≡ Ok m → is_reply m ≡ false → reply_in (Heard p) ≡ []
no-reply p m reads other = ap (λ b. elim b as (λ _. List (List ℕ)) [ true ↦ p ∷ [] | false ↦ [] ]) (reading-ok p m is_reply false reads ∙ other)

is-a-reply : (p : List ℕ) (m : Summary) → read_summary p ≡ Ok m → is_reply m ≡ true → reply_in (Heard p) ≡ p ∷ []
is-a-reply p m reads other = ap (λ b. elim b as (λ _. List (List ℕ)) [ true ↦ p ∷ [] | false ↦ [] ]) (reading-ok p m is_reply false reads ∙ other)

heard-asks : (k : ℕ) (p : List ℕ) (row : Row) → row.item ≡ Heard p → asks_of k (is_sent row) (wanted_by row) ≡ []
heard-asks k p row e = ap (λ o. asks_of k (is_sent row) o) (wanted-none row e) ∙ by_sent (is_sent row)
  where
    wanted-none : (row : Row) → row.item ≡ Heard p → wanted_by row ≡ None
    wanted-none row e = ap (λ (i : Item). wanted_by (record row { item = i })) e

    by_sent : (b : Bool) → asks_of k b None ≡ []
    by_sent true = refl
    by_sent false = refl

orderly-message : (before : List Row) → Orderly before → (k : ℕ) (p : List ℕ) (m : Summary) → read_summary p ≡ Ok m → dest_summary before m ≡ ToClient k → (row : Row) → row.item ≡ Heard p → row.client ≡ k → Orderly (row ∷ before)
orderly-message before orderly k p (Succeeds rest) reads e row item client = orderly-reply row before p (ap reply_in item ∙ is-a-reply p (Succeeds rest) reads refl) (heard-asks row.client p row item) (subst (Asked before) (sym client) (succeeds-asked before rest k e)) orderly
orderly-message before orderly k p Refuses reads e row item client = orderly-reply row before p (ap reply_in item ∙ is-a-reply p Refuses reads refl) (heard-asks row.client p row item) (subst (Asked before) (sym client) (refuses-asked before k e)) orderly
orderly-message before orderly k p (Transport number) reads e row item client = orderly-still row before (ap reply_in item ∙ no-reply p (Transport number) reads refl) orderly
orderly-message before orderly k p (Requests what wants_reply) reads e row item client = orderly-still row before (ap reply_in item ∙ no-reply p (Requests what wants_reply) reads refl) orderly
orderly-message before orderly k p (Open what s w max) reads e row item client = orderly-still row before (ap reply_in item ∙ no-reply p (Open what s w max) reads refl) orderly
orderly-message before orderly k p (Confirmation n s w max) reads e row item client = orderly-still row before (ap reply_in item ∙ no-reply p (Confirmation n s w max) reads refl) orderly
orderly-message before orderly k p (Within n act) reads e row item client = orderly-still row before (ap reply_in item ∙ no-reply p (Within n act) reads refl) orderly

-- a reply never goes to the master
pub master-asker : (o : Option Ask) (f : Ask → Dest) → ((a : Ask) → f a ≡ ToMaster → ⊥) → dest_asker o f ≡ ToMaster → ⊥
master-asker None f never e = cc
master-asker (Some a) f never e = never a e

pub success-never : (rest : List ℕ) (a : Ask) → dest_success rest a ≡ ToMaster → ⊥
success-never rest a e = by_what a.what e
  where
    by_bad : (b : Bool) → (elim b as (λ _. Dest) [ true ↦ Breaks (broke.BadReply (length rest)) | false ↦ ToClient a.client ]) ≡ ToMaster → ⊥
    by_bad true e = cc
    by_bad false e = cc

    by_what : (g : Global) → (elim g as (λ _. Dest) [ Forward key ↦ elim (learns_port key && not (length rest == 4)) as (λ _. Dest) [ true ↦ Breaks (broke.BadReply (length rest)) | false ↦ ToClient a.client ] | _ ↦ ToClient a.client ]) ≡ ToMaster → ⊥
    by_what (Forward key) e = by_bad (learns_port key && not (length rest == 4)) e
    by_what (Cancel key) e = cc
    by_what KeepAlive e = cc
    by_what OtherName e = cc

orderly-master : (before : List Row) → Orderly before → (p : List ℕ) → dest before p ≡ ToMaster → (row : Row) → row.item ≡ Heard p → Orderly (row ∷ before)
orderly-master before orderly p to row item = by_case (read_summary p) refl
  where
    to_client_never : (a : Ask) → ToClient a.client ≡ ToMaster → ⊥
    to_client_never a e = cc

    other : (m : Summary) → read_summary p ≡ Ok m → is_reply m ≡ false → Orderly (row ∷ before)
    other m reads no_reply = orderly-still row before (ap reply_in item ∙ no-reply p m reads no_reply) orderly

    by_message : (m : Summary) → read_summary p ≡ Ok m → dest_summary before m ≡ ToMaster → Orderly (row ∷ before)
    by_message (Succeeds rest) reads e = absurd (master-asker (asker before) (dest_success rest) (success-never rest) e)
    by_message Refuses reads e = absurd (master-asker (asker before) (λ a. ToClient a.client) to_client_never e)
    by_message (Transport number) reads e = other (Transport number) reads refl
    by_message (Requests what wants_reply) reads e = other (Requests what wants_reply) reads refl
    by_message (Open what s w max) reads e = other (Open what s w max) reads refl
    by_message (Confirmation n s w max) reads e = other (Confirmation n s w max) reads refl
    by_message (Within n act) reads e = other (Within n act) reads refl

    by_case : (r : Result Summary Bad) → read_summary p ≡ r → Orderly (row ∷ before)
    by_case (Err bad) reads = let x : Breaks _ ≡ ToMaster = sym (dest-err before p bad reads) ∙ to in cc
    by_case (Ok m) reads = by_message m reads (sym (dest-ok before p m reads) ∙ to)

orderly-heard : (before : List Row) → Orderly before → (p : List ℕ) (d : Dest) → dest before p ≡ d → OrderlyNext before (received_row before p d)
orderly-heard before orderly p ToMaster e going = orderly-master before orderly p e (bare_row (Heard p) 0 (received_master p)) refl
orderly-heard before orderly p (ToClient k) e going = row-parts (OrderlyNext before) (Heard p) k (received_for (rows_of k before) p) (rows_of k before) (λ fw parting down fate going'. to_client k e (as_row (Heard p) k (received_for (rows_of k before) p).sent fw down fate) refl refl) going
  where
    to_client : (k : ℕ) → dest before p ≡ ToClient k → (row : Row) → row.item ≡ Heard p → row.client ≡ k → Orderly (row ∷ before)
    to_client k e row item client = by_case (read_summary p) refl
      where
        by_case : (r : Result Summary Bad) → read_summary p ≡ r → Orderly (row ∷ before)
        by_case (Err bad) reads = let x : Breaks _ ≡ ToClient k = sym (dest-err before p bad reads) ∙ e in cc
        by_case (Ok m) reads = orderly-message before orderly k p m reads (sym (dest-ok before p m reads) ∙ e) row item client
orderly-heard before orderly p Disconnects e going = cc
orderly-heard before orderly p (Breaks why) e going = cc

pub orderly-treat : (policy : Policy) (pid pick : ℕ) (before : List Row) (item : Item) → Orderly before → is_end (treat policy pid pick before item).fate ≡ false → Orderly (treat policy pid pick before item ∷ before)
orderly-treat policy pid pick before (Admit k) orderly going = row-parts (OrderlyNext before) (Admit k) k (admits before) (rows_of k before) (λ fw parting down fate going'. orderly-still _ before refl orderly) going
orderly-treat policy pid pick before (Says k outgoing reply) orderly going = row-parts (OrderlyNext before) (Says k outgoing reply) k (sent_by_client policy pid k (rows_of k before) pick outgoing reply) (rows_of k before) (λ fw parting down fate going'. orderly-still _ before refl orderly) going
orderly-treat policy pid pick before (HouseSays k id given) orderly going = row-parts (OrderlyNext before) (HouseSays k id given) k (house_sends (rows_of k before) id given) (rows_of k before) (λ fw parting down fate going'. orderly-still _ before refl orderly) going
orderly-treat policy pid pick before (Gone k) orderly going = row-parts (OrderlyNext before) (Gone k) k silent (rows_of k before) (λ fw parting down fate going'. orderly-still _ before refl orderly) going
orderly-treat policy pid pick before (Heard p) orderly going = orderly-heard before orderly p (dest before p) refl going
orderly-treat policy pid pick before (Took stream size) orderly going = orderly-still _ before refl orderly
orderly-treat policy pid pick before (RunEnd cause) orderly going = orderly-still _ before refl orderly
orderly-treat policy pid pick before (BadServer fault) orderly going = cc
orderly-treat policy pid pick before ServerEnd orderly going = cc
orderly-treat policy pid pick before (ServerCut left) orderly going = cc
orderly-treat policy pid pick before ServerFailed orderly going = cc
