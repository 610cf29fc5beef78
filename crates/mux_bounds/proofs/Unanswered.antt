-- At most 1,024 global requests of a client that is not lost have no answer.
use Rattle.std.proofs.Common.{◌≡◌, ℕ, ◌+◌, ◌≤◌, List, [], ◌∷◌, length, length-append, true, false, Bool, refl, ◌∙◌, ap, arith, sym, Option, Some, None, subst, Ok, Err}
use Rattle.std.specs.Prelude.{◌==◌, ◌-◌, ◌||◌, Result, nat_le}
use Rattle.std.proofs.lemmas.Bool.Decides.{nat_tests}
use Rattle.mux_history.specs.Controls.{client_has_greeted, house_sends, sent_body}
use Rattle.mux_history.specs.Farewell.{farewell}
use Rattle.mux_history.specs.Summary.{Summary, Requests, read_summary}
use Rattle.mux_history.specs.Heard.{Breaks, Dest, Disconnects, ToClient, ToMaster, dest, received_for}
use Rattle.mux_history.specs.Kept.{AtEach, ForEach}
use Rattle.mux_history.specs.Log.{admits, all_recorded, bare_row, fate_with, received_row, queued, row_of, treat}
use Rattle.mux_history.specs.Policy.{Policy}
use Rattle.mux_history.specs.Requests.{answers, is_sent, sent_flags, unanswered_asks, wanted, wanted_by, wanted_in}
use Rattle.mux_history.specs.Rows.{Admit, Gone, Heard, HouseSays, Item, Row, Says, is_lost, loses, rows_of}
use Rattle.mux_history.specs.Said.{Outcome, drops, sent_summary, sent_payload, sent_request, silent}
use Rattle.mux_bounds.specs.Few.{UnansweredBounded}
use Rattle.mux_outside.specs.declared.house.HouseReply.{HouseReply}
use Rattle.ssh_grammar.specs.Messages.{Global}
use Rattle.ssh_grammar.specs.Said.{BadFraming, Body, Payload}
use Rattle.ssh_grammar.specs.declared.fault.Bad.{Bad}
use Rattle.mux_history.specs.declared.why.Why.{Why}
use Rattle.mux_history.specs.declared.why.Why.TheVariants as why
use Rattle.mux_history.proofs.Answered.{answers-grow}
use Rattle.mux_history.proofs.Bools.{or-left, or-right}
use Rattle.mux_history.proofs.Finds.{filter-no, filter-yes}
use Rattle.mux_history.proofs.OwnRows.{same-client}
use Rattle.mux_history.proofs.RightLogs.{LogKnown, RowKnown}
use Rattle.mux_history.proofs.Sends.{as_row}
use Rattle.mux_bounds.proofs.Asked.{flag}

-- what a row asks fits, unless it loses its client
abbrev Fits : List Row → Row → Type 0
Fits before row =
    loses row ≡ false → unanswered_asks (rows_of row.client before) ≤ 1024
    → unanswered_asks (rows_of row.client before) + length (sent_flags (is_sent row) (wanted_by row)) ≤ 1024

-- ---- what a client sends

module _ (own : List Row) (k : ℕ) (p : List ℕ) (reply : Option HouseReply) (fw down : List (List ℕ)) (full : Option Why) where
  abbrev Fitting : Outcome → Option Global → Type 0
  Fitting o what =
      loses (as_row (Says k (Payload p) reply) k o.sent fw down (fate_with o.ends full)) ≡ false → unanswered_asks own ≤ 1024
      → unanswered_asks own + length (sent_flags (flag o.sent) what) ≤ 1024

  fitting-drop : (cause : Why) (what : Option Global) → Fitting (drops cause) what
  fitting-drop cause what kept le = absurd (let bad : true ≡ false = kept in let h = bad in cc)

  fitting-none : (o : Outcome) → Fitting o None
  fitting-none o kept le = omega (arith, le)

  below : (n : ℕ) → nat_le 1024 n ≡ false → n + 1 ≤ 1024
  below n e = grind (arith, nat_tests)

  fitting-summary : (policy : Policy) (pick : ℕ) (m : Summary) → Fitting (sent_summary policy k own pick p m) (wanted_in m)
  fitting-summary policy pick (Requests what true) = by_full (nat_le 1024 (unanswered_asks own)) refl
    where
      by_full : (b : Bool) → nat_le 1024 (unanswered_asks own) ≡ b → Fitting (elim b as (λ _. Outcome) [ true ↦ drops (why.TooManyAsks 1024) | false ↦ sent_request policy k own p what true ]) (Some what)
      by_full true e = fitting-drop (why.TooManyAsks 1024) (Some what)
      by_full false e = λ kept le. below (unanswered_asks own) e
  fitting-summary policy pick m = fitting-none (sent_summary policy k own pick p m)

  fitting-said : (policy : Policy) (pick : ℕ) (r : Result Summary Bad) → Fitting (elim r as (λ _. Outcome) [ Err bad ↦ drops (why.BadMessage bad) | Ok m ↦ sent_summary policy k own pick p m ]) (elim r as (λ _. Option Global) [ Err e ↦ None | Ok m ↦ wanted_in m ])
  fitting-said policy pick (Err bad) = fitting-none (drops (why.BadMessage bad))
  fitting-said policy pick (Ok m) = fitting-summary policy pick m

-- ---- any row

-- a row of what an item does, whatever of it fits, drops its client where the item does
by-row : (P : Row → Type 0) (item : Item) (k : ℕ) (o : Outcome) (own : List Row) → ((fw down : List (List ℕ)) (full : Option Why) → P (as_row item k o.sent fw down (fate_with o.ends full))) → P (row_of item k o own)
by-row P item k o own each = by_case (loses (queued (all_recorded (bare_row item k o) own) (bare_row item k o) own))
  where
    by_case : (b : Bool) → P (elim b as (λ _. Row) [ true ↦ record (queued (all_recorded (bare_row item k o) own) (bare_row item k o) own) { farewell = farewell (queued (all_recorded (bare_row item k o) own) (bare_row item k o) own) own } | false ↦ queued (all_recorded (bare_row item k o) own) (bare_row item k o) own ])
    by_case true = each (farewell (queued (all_recorded (bare_row item k o) own) (bare_row item k o) own) own) _ _
    by_case false = each [] _ _

fits-none : (before : List Row) (row : Row) → wanted_by row ≡ None → Fits before row
fits-none before row none kept le =
    let l = ap length (ap (sent_flags (is_sent row)) none) in
    omega (arith, le)

fits-dest : (before : List Row) (p : List ℕ) (d : Dest) → Fits before (received_row before p d)
fits-dest before p ToMaster = fits-none before (received_row before p ToMaster) refl
fits-dest before p (ToClient k) = by-row (Fits before) (Heard p) k (received_for (rows_of k before) p) (rows_of k before) (λ fw down full. fits-none before (as_row (Heard p) k (received_for (rows_of k before) p).sent fw down (fate_with (received_for (rows_of k before) p).ends full)) refl)
fits-dest before p Disconnects = fits-none before (received_row before p Disconnects) refl
fits-dest before p (Breaks cause) = fits-none before (received_row before p (Breaks cause)) refl

fits-treat : (policy : Policy) (pid pick : ℕ) (before : List Row) (item : Item) → Fits before (treat policy pid pick before item)
fits-treat policy pid pick before (Says k (Payload p) reply) = by-row (Fits before) (Says k (Payload p) reply) k (sent_payload policy k (rows_of k before) pick p) (rows_of k before) (λ fw down full. fitting-said (rows_of k before) k p reply fw down full policy pick (read_summary p))
fits-treat policy pid pick before (Says k (Body body) reply) = by-row (Fits before) (Says k (Body body) reply) k (sent_body pid k reply (client_has_greeted (rows_of k before)) body) (rows_of k before) (λ fw down full. fits-none before (as_row (Says k (Body body) reply) k (sent_body pid k reply (client_has_greeted (rows_of k before)) body).sent fw down (fate_with (sent_body pid k reply (client_has_greeted (rows_of k before)) body).ends full)) refl)
fits-treat policy pid pick before (Says k (BadFraming fault) reply) = by-row (Fits before) (Says k (BadFraming fault) reply) k (drops (why.BadFrame fault)) (rows_of k before) (λ fw down full. fits-none before (as_row (Says k (BadFraming fault) reply) k [] fw down (fate_with (drops (why.BadFrame fault)).ends full)) refl)
fits-treat policy pid pick before (Admit k) = by-row (Fits before) (Admit k) k (admits before) (rows_of k before) (λ fw down full. fits-none before (as_row (Admit k) k (admits before).sent fw down (fate_with (admits before).ends full)) refl)
fits-treat policy pid pick before (HouseSays k id given) = by-row (Fits before) (HouseSays k id given) k (house_sends (rows_of k before) id given) (rows_of k before) (λ fw down full. fits-none before (as_row (HouseSays k id given) k (house_sends (rows_of k before) id given).sent fw down (fate_with (house_sends (rows_of k before) id given).ends full)) refl)
fits-treat policy pid pick before (Gone k) = by-row (Fits before) (Gone k) k silent (rows_of k before) (λ fw down full. fits-none before (as_row (Gone k) k silent.sent fw down (fate_with silent.ends full)) refl)
fits-treat policy pid pick before (Heard p) = fits-dest before p (dest before p)
fits-treat policy pid pick before item = fits-none before (treat policy pid pick before item) refl

-- ---- all rows

fits-rows : (policy : Policy) (pid : ℕ) (rows : List Row) → ForEach (RowKnown policy pid) rows → ForEach Fits rows
fits-rows policy pid [] each = tt
fits-rows policy pid (row ∷ before) each = (subst (Fits before) each.0.is (fits-treat policy pid each.0.pick before each.0.item), fits-rows policy pid before each.1)

-- more wanted by so many, and more answered
less : (w f a m : ℕ) → (w - a) + f ≤ 1024 → (w + f) - (a + m) ≤ 1024
less w f a m le = omega arith

-- a row adds what it wants, and removes what it answers
unanswered-next : (row : Row) (own : List Row) → unanswered_asks own + length (sent_flags (is_sent row) (wanted_by row)) ≤ 1024 → unanswered_asks (row ∷ own) ≤ 1024
unanswered-next row own le =
    let grow = answers-grow row own in
    let w = length-append (wanted own) (sent_flags (is_sent row) (wanted_by row)) in
    let a = ap length grow.1 ∙ length-append (answers own) grow.0 in
    let l = less (length (wanted own)) (length (sent_flags (is_sent row) (wanted_by row))) (length (answers own)) (length grow.0) le in
    omega arith

held : (rows : List Row) → ForEach Fits rows → UnansweredBounded rows
held [] each k kept = omega arith
held (row ∷ before) each k kept = by_case (held before each.1 k) (row.client == k) refl
  where
    by_case : (is_lost (rows_of k before) ≡ false → unanswered_asks (rows_of k before) ≤ 1024) → (b : Bool) → (row.client == k) ≡ b → unanswered_asks (rows_of k (row ∷ before)) ≤ 1024
    by_case ih true e =
        let mine : row.client ≡ k = same-client row.client k e in
        let at : rows_of k (row ∷ before) ≡ row ∷ rows_of k before = filter-yes (λ (r : Row). r.client == k) row before e in
        let going : (loses row || is_lost (rows_of k before)) ≡ false = sym (ap is_lost at) ∙ kept in
        let fits = subst (λ (j : ℕ). loses row ≡ false → unanswered_asks (rows_of j before) ≤ 1024 → unanswered_asks (rows_of j before) + length (sent_flags (is_sent row) (wanted_by row)) ≤ 1024) mine each.0 in
        subst (λ (rs : List Row). unanswered_asks rs ≤ 1024) (sym at)
        (unanswered-next row (rows_of k before) (fits (or-left (loses row) (is_lost (rows_of k before)) going) (ih (or-right (loses row) (is_lost (rows_of k before)) going))))
    by_case ih false e =
        let at : rows_of k (row ∷ before) ≡ rows_of k before = filter-no (λ (r : Row). r.client == k) row before e in
        subst (λ (rs : List Row). unanswered_asks rs ≤ 1024) (sym at) (ih (sym (ap is_lost at) ∙ kept))

at-each : (rows : List Row) → ForEach Fits rows → AtEach UnansweredBounded rows
at-each [] each = held [] each
at-each (row ∷ before) each = (held (row ∷ before) each, at-each before each.1)

pub unanswered-bounded : (policy : Policy) (pid : ℕ) (rows : List Row) → LogKnown policy pid rows → AtEach UnansweredBounded rows
unanswered-bounded policy pid rows known = at-each rows (fits-rows policy pid rows known.each)
