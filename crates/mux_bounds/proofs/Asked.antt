-- At most 1,024 global requests of a client that were sent have no reply.
use Rattle.std.proofs.Common.{◌≡◌, ℕ, ◌+◌, ◌≤◌, List, [], ◌∷◌, ◌++◌, length, length-append, true, false, Bool, refl, ◌∙◌, ap, arith, sym, Option, Some, None, subst, Ok, Err}
use Rattle.std.specs.Prelude.{◌==◌, ◌-◌, Result, nat_le}
use Rattle.std.proofs.lemmas.Bool.Decides.{nat_tests}
use Rattle.mux_history.specs.Controls.{client_has_greeted, house_sends, sent_body}
use Rattle.mux_history.specs.Summary.{Summary, Requests, read_summary}
use Rattle.mux_history.specs.Heard.{Breaks, Dest, Disconnects, ToClient, ToMaster, dest, received_for}
use Rattle.mux_history.specs.Kept.{AtEach, ForEach}
use Rattle.mux_history.specs.Log.{admits, received_row, row_of, treat}
use Rattle.mux_history.specs.Policy.{Policy}
use Rattle.mux_history.specs.Requests.{answers, answers_to, wanted_requests, asks_of, is_sent, replies, reply_in, sent_flags, unanswered_asks, wanted, wanted_by, wanted_in}
use Rattle.mux_history.specs.Rows.{Admit, Fate, Gone, Heard, HouseSays, Item, Row, Says, rows_of}
use Rattle.mux_history.specs.Said.{Outcome, drops, sent_summary, sent_payload, sent_request, silent}
use Rattle.mux_bounds.specs.Few.{RequestsBounded}
use Rattle.mux_outside.specs.declared.house.HouseReply.{HouseReply}
use Rattle.ssh_grammar.specs.Messages.{Global}
use Rattle.ssh_grammar.specs.Said.{BadFraming, Body, Payload}
use Rattle.ssh_grammar.specs.declared.fault.Bad.{Bad}
use Rattle.mux_history.specs.declared.why.Why.TheVariants as why
use Rattle.mux_history.proofs.Finds.{filter-no, filter-yes}
use Rattle.mux_history.proofs.OwnRows.{same-client}
use Rattle.mux_history.proofs.RightLogs.{LogKnown, RowKnown}
use Rattle.mux_history.proofs.Sends.{as_row, row-parts}

-- ---- those that were sent, among those that want a reply

abbrev pub trues : List Bool → ℕ
trues [] = 0
trues (true ∷ flags) = trues flags + 1
trues (false ∷ flags) = trues flags

trues-few : (flags : List Bool) → trues flags ≤ length flags
trues-few [] = omega arith
trues-few (true ∷ flags) = let l = trues-few flags in omega arith
trues-few (false ∷ flags) = let l = trues-few flags in omega arith

trues-append : (xs ys : List Bool) → trues (xs ++ ys) ≡ trues xs + trues ys
trues-append [] ys = omega arith
trues-append (true ∷ xs) ys = let l = trues-append xs ys in omega arith
trues-append (false ∷ xs) ys = let l = trues-append xs ys in omega arith

asks-one : (k : ℕ) (sent : Bool) (what : Option Global) → length (asks_of k sent what) ≡ trues (sent_flags sent what)
asks-one k true (Some what) = refl
asks-one k false (Some what) = refl
asks-one k true None = refl
asks-one k false None = refl

pub asks-trues : (own : List Row) → length (wanted_requests own) ≡ trues (wanted own)
asks-trues [] = refl
asks-trues (row ∷ own) =
    let a = asks-trues own in
    let b = asks-one row.client (is_sent row) (wanted_by row) in
    let c = length-append (wanted_requests own) (asks_of row.client (is_sent row) (wanted_by row)) in
    let d = trues-append (wanted own) (sent_flags (is_sent row) (wanted_by row)) in
    omega arith

-- the answers are those refused and those replied to, and no more
answers-few : (flags : List Bool) (heard : List (List ℕ)) → trues flags + length (answers_to flags heard) ≤ length flags + length heard
answers-few [] heard = omega arith
answers-few (false ∷ flags) heard = let l = answers-few flags heard in omega arith
answers-few (true ∷ flags) [] = let l = trues-few flags in omega arith
answers-few (true ∷ flags) (p ∷ heard) = let l = answers-few flags heard in omega arith

below : (wants given : ℕ) → nat_le 1024 (wants - given) ≡ false → wants + 1 ≤ given + 1024
below wants given e = grind (arith, nat_tests)

has-room : (own : List Row) → nat_le 1024 (unanswered_asks own) ≡ false → length (wanted_requests own) + 1 ≤ length (replies own) + 1024
has-room own e =
    let a = asks-trues own in
    let b = answers-few (wanted own) (replies own) in
    let c = below (length (wanted own)) (length (answers own)) e in
    omega arith

-- ---- a row

abbrev Fits : List Row → Row → Type 0
Fits before row =
    length (wanted_requests (rows_of row.client before)) ≤ length (replies (rows_of row.client before)) + 1024 → length (wanted_requests (rows_of row.client before)) + length (asks_of row.client (is_sent row) (wanted_by row)) ≤ length (replies (rows_of row.client before)) + 1024

-- a row that wants no reply
asks-none : (k : ℕ) (sent : Bool) → asks_of k sent None ≡ []
asks-none k true = refl
asks-none k false = refl

fits-none : (before : List Row) (row : Row) → wanted_by row ≡ None → Fits before row
fits-none before row none le =
    let l = ap length (ap (asks_of row.client (is_sent row)) none ∙ asks-none row.client (is_sent row)) in
    omega arith

asks-few : (k : ℕ) (sent : Bool) (what : Option Global) → length (asks_of k sent what) ≤ 1
asks-few k true (Some what) = omega arith
asks-few k false (Some what) = omega arith
asks-few k true None = omega arith
asks-few k false None = omega arith

abbrev pub flag : List (List ℕ) → Bool
flag up = elim up [ [] ↦ false | p ∷ ps ↦ true ]

said-fits : (policy : Policy) (before : List Row) (k pick : ℕ) (p : List ℕ) (reply : Option HouseReply) (fw down : List (List ℕ)) (fate : Fate) → Fits before (as_row (Says k (Payload p) reply) k (sent_payload policy k (rows_of k before) pick p).sent fw down fate)
said-fits policy before k pick p reply fw down fate le = by_case (read_summary p)
  where
    by_none : (sent : Bool) → length (wanted_requests (rows_of k before)) + length (asks_of k sent None) ≤ length (replies (rows_of k before)) + 1024
    by_none true = omega (arith, le)
    by_none false = omega (arith, le)

    by_full : (what : Global) (b : Bool) → nat_le 1024 (unanswered_asks (rows_of k before)) ≡ b → length (wanted_requests (rows_of k before)) + length (asks_of k (flag (elim b as (λ _. Outcome) [ true ↦ drops (why.TooManyAsks 1024) | false ↦ sent_request policy k (rows_of k before) p what true ]).sent) (Some what)) ≤ length (replies (rows_of k before)) + 1024
    by_full what true e = omega (arith, le)
    by_full what false e =
        let room = has-room (rows_of k before) e in
        let one = asks-few k (flag (sent_request policy k (rows_of k before) p what true).sent) (Some what) in
        omega arith

    by_summary : (m : Summary) → length (wanted_requests (rows_of k before)) + length (asks_of k (flag (sent_summary policy k (rows_of k before) pick p m).sent) (wanted_in m)) ≤ length (replies (rows_of k before)) + 1024
    by_summary (Requests what true) = by_full what (nat_le 1024 (unanswered_asks (rows_of k before))) refl
    by_summary m = by_none (flag (sent_summary policy k (rows_of k before) pick p m).sent)

    by_case : (r : Result Summary Bad) → length (wanted_requests (rows_of k before)) + length (asks_of k (flag (elim r as (λ _. Outcome) [ Err bad ↦ drops (why.BadMessage bad) | Ok m ↦ sent_summary policy k (rows_of k before) pick p m ]).sent) (elim r as (λ _. Option Global) [ Err e ↦ None | Ok m ↦ wanted_in m ])) ≤ length (replies (rows_of k before)) + 1024
    by_case (Err e) = by_none false
    by_case (Ok m) = by_summary m

-- ---- any row

fits-row : (before : List Row) (item : Item) (k : ℕ) (o : Outcome) → ((fw down : List (List ℕ)) (fate : Fate) → Fits before (as_row item k o.sent fw down fate)) → Fits before (row_of item k o (rows_of k before))
fits-row before item k o each = row-parts (Fits before) item k o (rows_of k before) (λ fw parting down fate. each fw down fate)

fits-dest : (before : List Row) (p : List ℕ) (d : Dest) → Fits before (received_row before p d)
fits-dest before p ToMaster = fits-none before (received_row before p ToMaster) refl
fits-dest before p (ToClient k) = fits-row before (Heard p) k (received_for (rows_of k before) p) (λ fw down fate. fits-none before (as_row (Heard p) k (received_for (rows_of k before) p).sent fw down fate) refl)
fits-dest before p Disconnects = fits-none before (received_row before p Disconnects) refl
fits-dest before p (Breaks cause) = fits-none before (received_row before p (Breaks cause)) refl

fits-plain : (before : List Row) (item : Item) (k : ℕ) (o : Outcome) → ((fw down : List (List ℕ)) (fate : Fate) → wanted_by (as_row item k o.sent fw down fate) ≡ None) → Fits before (row_of item k o (rows_of k before))
fits-plain before item k o none = fits-row before item k o (λ fw down fate. fits-none before (as_row item k o.sent fw down fate) (none fw down fate))

fits-treat : (policy : Policy) (pid pick : ℕ) (before : List Row) (item : Item) → Fits before (treat policy pid pick before item)
fits-treat policy pid pick before (Admit k) = fits-plain before (Admit k) k (admits before) (λ fw down fate. refl)
fits-treat policy pid pick before (Says k (Payload p) reply) = fits-row before (Says k (Payload p) reply) k (sent_payload policy k (rows_of k before) pick p) (λ fw down fate. said-fits policy before k pick p reply fw down fate)
fits-treat policy pid pick before (Says k (Body body) reply) = fits-plain before (Says k (Body body) reply) k (sent_body pid k reply (client_has_greeted (rows_of k before)) body) (λ fw down fate. refl)
fits-treat policy pid pick before (Says k (BadFraming fault) reply) = fits-plain before (Says k (BadFraming fault) reply) k (drops (why.BadFrame fault)) (λ fw down fate. refl)
fits-treat policy pid pick before (HouseSays k id given) = fits-plain before (HouseSays k id given) k (house_sends (rows_of k before) id given) (λ fw down fate. refl)
fits-treat policy pid pick before (Gone k) = fits-plain before (Gone k) k silent (λ fw down fate. refl)
fits-treat policy pid pick before (Heard p) = fits-dest before p (dest before p)
fits-treat policy pid pick before item = fits-none before (treat policy pid pick before item) refl

fits-rows : (policy : Policy) (pid : ℕ) (rows : List Row) → ForEach (RowKnown policy pid) rows → ForEach Fits rows
fits-rows policy pid [] each = tt
fits-rows policy pid (row ∷ before) each = (subst (Fits before) each.0.is (fits-treat policy pid each.0.pick before each.0.item), fits-rows policy pid before each.1)

fits-held : (rows : List Row) → ForEach Fits rows → RequestsBounded rows
fits-held [] each k = omega arith
fits-held (row ∷ before) each k = by_case (fits-held before each.1 k) (row.client == k) refl
  where
    by_case : length (wanted_requests (rows_of k before)) ≤ length (replies (rows_of k before)) + 1024 → (b : Bool) → (row.client == k) ≡ b → length (wanted_requests (rows_of k (row ∷ before))) ≤ length (replies (rows_of k (row ∷ before))) + 1024
    by_case ih true e =
        let mine : row.client ≡ k = same-client row.client k e in
        let fits : length (wanted_requests (rows_of k before)) + length (asks_of row.client (is_sent row) (wanted_by row)) ≤ length (replies (rows_of k before)) + 1024 = subst (λ (j : ℕ). length (wanted_requests (rows_of j before)) ≤ length (replies (rows_of j before)) + 1024 → length (wanted_requests (rows_of j before)) + length (asks_of row.client (is_sent row) (wanted_by row)) ≤ length (replies (rows_of j before)) + 1024) mine each.0 ih in
        let at = ap (λ rs. length (wanted_requests rs)) (filter-yes (λ (r : Row). r.client == k) row before e) in
        let by = ap (λ rs. length (replies rs)) (filter-yes (λ (r : Row). r.client == k) row before e) in
        let a = length-append (wanted_requests (rows_of k before)) (asks_of row.client (is_sent row) (wanted_by row)) in
        let r = length-append (replies (rows_of k before)) (reply_in row.item) in
        omega arith
    by_case ih false e = subst (λ (rs : List Row). length (wanted_requests rs) ≤ length (replies rs) + 1024) (sym (filter-no (λ (r : Row). r.client == k) row before e)) ih

at-each : (rows : List Row) → ForEach Fits rows → AtEach RequestsBounded rows
at-each [] each = fits-held [] each
at-each (row ∷ before) each = (fits-held (row ∷ before) each, at-each before each.1)

pub requests-bounded : (policy : Policy) (pid : ℕ) (rows : List Row) → LogKnown policy pid rows → AtEach RequestsBounded rows
requests-bounded policy pid rows known = at-each rows (fits-rows policy pid rows known.each)
