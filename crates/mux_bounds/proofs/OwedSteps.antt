-- What the server sends is paid for by its length, and a late cancel by the request that it
-- answers.
use Rattle.std.proofs.Common.{◌≡◌, ℕ, zero, suc, ◌+◌, ◌*◌, ◌≤◌, List, [], ◌∷◌, ◌++◌, drop, length, true, false, Bool, refl, ◌∙◌, ap, arith, sym, subst, Some, Ok, Err}
use Rattle.std.specs.Prelude.{nat_lt, slice_get, Result}
use Rattle.std.proofs.lemmas.List.{append-nil}
use Rattle.ssh_grammar.specs.Frames.{frame_payload}
use Rattle.ssh_grammar.specs.Messages.{Cancel, Forward, Global, KeepAlive, OtherName}
use Rattle.ssh_grammar.specs.SpellMessage.{not_permitted, open_failure, too_many_channels}
use Rattle.ssh_grammar.specs.declared.fault.Bad.{Bad}
use Rattle.ssh_grammar.specs.declared.numbers.TheConstants.{ADMINISTRATIVELY_PROHIBITED, RESOURCE_SHORTAGE}
use Rattle.mux_history.specs.Channels.{held_of}
use Rattle.mux_history.specs.Farewell.{late, late_refusal, late_success, with_ask}
use Rattle.mux_history.specs.Summary.{Confirmation, Summary, Open, Refuses, Requests, Succeeds, Within, read_summary}
use Rattle.mux_history.specs.Heard.{Breaks, Dest, Disconnects, ToClient, ToMaster, dest, dest_summary, for_client, for_lost, for_master, received_for, received_summary, received_master}
use Rattle.mux_history.specs.Kept.{ForEach}
use Rattle.mux_history.specs.Keys.{bound}
use Rattle.mux_history.specs.Log.{received_row, treat}
use Rattle.mux_history.specs.Policy.{Policy}
use Rattle.mux_history.specs.Requests.{Ask, asker, wanted_requests, asks_of, is_reply, is_sent, replies, reply_in, wanted_by}
use Rattle.mux_history.specs.Rows.{Heard, Item, Row, Took, is_lost, rows_of}
use Rattle.mux_history.specs.Said.{Outcome, sends_payload, silent, records}
use Rattle.mux_history.specs.Steps.{unreplied}
use Rattle.mux_bounds.specs.Bounds.{weight}
use Rattle.mux_history.proofs.Askers.{Orderly, asker-local}
use Rattle.mux_history.proofs.AskersSteps.{goes-on}
use Rattle.mux_history.proofs.Dests.{Asked, dest-ok, refuses-asked, succeeds-asked}
use Rattle.mux_history.proofs.LawfulItems.{treat-item}
use Rattle.mux_history.proofs.Nexts.{by-next}
use Rattle.mux_history.proofs.Readings.{reading-ok}
use Rattle.mux_history.proofs.RightLogs.{RowKnown}
use Rattle.mux_history.proofs.Sends.{row-parts}
use Rattle.mux_bounds.proofs.Covers.{add_if, forwards_in, is_forward}
use Rattle.mux_bounds.proofs.OpenLong.{opens-long}
use Rattle.mux_bounds.proofs.Owed.{asks-none}
use Rattle.mux_bounds.proofs.OwedFew.{drop-forwards}
use Rattle.mux_bounds.proofs.Shorts.{AskShort, EachAsk, IsBrief}
use Rattle.mux_bounds.proofs.Totals.{owed}
use Rattle.mux_bounds.proofs.Ups.{get-each, owned-brief}
use Rattle.mux_bounds.proofs.Weights.{bound-brief, cancel-weight, close-weight, failure-weight}

-- ---- one payload

-- what it sends, and what waits for a reply after it, is at most its frame thrice and what waited
-- before
abbrev Pays : List Row → List ℕ → List (List ℕ) → Type 0
Pays before p up = weight up + 308 * forwards_in (drop (length (reply_in (Heard p))) (unreplied before)) ≤ 3 * (length p + 5) + 308 * owed before

pays-for : (before : List Row) (p : List ℕ) (up : List (List ℕ)) → weight up ≤ 3 * (length p + 5) → Pays before p up
pays-for before p up le = let d = drop-forwards (length (reply_in (Heard p))) (unreplied before) in omega (arith, le, d)

master-pays : (before : List Row) (p : List ℕ) → Pays before p (received_master p).sent
master-pays before p = pays-for before p (received_master p).sent (by_case (read_summary p) refl)
  where
    by_message : (m : Summary) → read_summary p ≡ Ok m → weight (for_master m).sent ≤ 3 * (length p + 5)
    by_message (Requests what true) reads = omega arith
    by_message (Requests what false) reads = omega arith
    by_message (Open what s w max) reads = let a = failure-weight s ADMINISTRATIVELY_PROHIBITED not_permitted in let l = opens-long p what s w max reads in omega (arith, a, l)
    by_message m reads = omega arith

    by_case : (r : Result Summary Bad) → read_summary p ≡ r → weight (elim r as (λ _. Outcome) [ Err bad ↦ silent | Ok m ↦ for_master m ]).sent ≤ 3 * (length p + 5)
    by_case (Err bad) reads = omega arith
    by_case (Ok m) reads = by_message m reads

client-pays : (own : List Row) (p : List ℕ) (m : Summary) → read_summary p ≡ Ok m → weight (for_client own p m).sent ≤ 3 * (length p + 5)
client-pays own p (Open what s w max) reads = by_case (nat_lt (length (held_of own)) 256)
  where
    by_case : (b : Bool) → weight (elim b as (λ _. Outcome) [ true ↦ records (frame_payload p) | false ↦ sends_payload (open_failure s RESOURCE_SHORTAGE too_many_channels) ]).sent ≤ 3 * (length p + 5)
    by_case true = omega arith
    by_case false = let a = failure-weight s RESOURCE_SHORTAGE too_many_channels in let l = opens-long p what s w max reads in omega (arith, a, l)
client-pays own p (Confirmation n s w max) reads = omega arith
client-pays own p (Within n act) reads = omega arith
client-pays own p m reads = omega arith

-- ---- a reply for a lost client

abbrev if_forward : Bool → ℕ
if_forward true = 308
if_forward false = 0

success-pays : (rest : List ℕ) (what : Global) → AskShort what → weight (late_success rest what) ≤ if_forward (is_forward what)
success-pays rest (Forward key) short = cancel-weight (bound key rest) (bound-brief key rest short)
success-pays rest (Cancel key) short = omega arith
success-pays rest KeepAlive short = omega arith
success-pays rest OtherName short = omega arith

refusal-pays : (what : Global) → AskShort what → weight (late_refusal what) ≤ if_forward (is_forward what)
refusal-pays (Cancel key) short = cancel-weight key short
refusal-pays (Forward key) short = omega arith
refusal-pays KeepAlive short = omega arith
refusal-pays OtherName short = omega arith

first-of : (xs : List Ask) (n : ℕ) (a : Ask) → slice_get xs n ≡ Some a → (rest : List Ask) × (drop n xs ≡ a ∷ rest)
first-of [] n a got = cc
first-of (x ∷ xs) zero a got = (xs, let same : x ≡ a = cc in ap (λ y. y ∷ xs) same)
first-of (x ∷ xs) (suc n) a got = first-of xs n a got

reply-pays : (before : List Row) (k : ℕ) (p : List ℕ) (m : Summary) (f : Global → List (List ℕ)) → read_summary p ≡ Ok m → is_reply m ≡ true → ((what : Global) → AskShort what → weight (f what) ≤ if_forward (is_forward what)) → Orderly before → Asked before k → EachAsk IsBrief (wanted_requests (rows_of k before)) → Pays before p (with_ask (asker (rows_of k before)) f)
reply-pays before k p m f reads replied each orderly asked brief = by_forward (is_forward asked.ask.what) refl
  where
    mine : asker (rows_of k before) ≡ Some asked.ask
    mine = asker-local before k orderly asked

    short : AskShort asked.ask.what
    short = get-each IsBrief (wanted_requests (rows_of k before)) (length (replies (rows_of k before))) asked.ask brief mine

    first : (rest : List Ask) × (unreplied before ≡ asked.ask ∷ rest)
    first = first-of (wanted_requests before) (length (replies before)) asked.ask asked.is

    one : reply_in (Heard p) ≡ p ∷ []
    one = ap (λ b. elim b as (λ _. List (List ℕ)) [ true ↦ p ∷ [] | false ↦ [] ]) (reading-ok p m is_reply false reads ∙ replied)

    left : drop (length (reply_in (Heard p))) (unreplied before) ≡ first.0
    left = ap (λ (r : List (List ℕ)). drop (length r) (unreplied before)) one ∙ ap (drop 1) first.1

    by_forward : (b : Bool) → is_forward asked.ask.what ≡ b → Pays before p (with_ask (asker (rows_of k before)) f)
    by_forward true e =
        let w = each asked.ask.what short in
        let i = ap if_forward e in
        let u = ap (λ o. weight (with_ask o f)) mine in
        let l = ap forwards_in left in
        let t = ap forwards_in first.1 in
        let a = ap (λ b. add_if b (forwards_in first.0)) e in
        omega (arith, w, i, u, l, t, a)
    by_forward false e =
        let w = each asked.ask.what short in
        let i = ap if_forward e in
        let u = ap (λ o. weight (with_ask o f)) mine in
        let l = ap forwards_in left in
        let t = ap forwards_in first.1 in
        let a = ap (λ b. add_if b (forwards_in first.0)) e in
        omega (arith, w, i, u, l, t, a)

lost-pays : (before : List Row) (k : ℕ) (p : List ℕ) (m : Summary) → read_summary p ≡ Ok m → dest_summary before m ≡ ToClient k → Orderly before → EachAsk IsBrief (wanted_requests (rows_of k before)) → Pays before p (late m (rows_of k before))
lost-pays before k p (Confirmation n s w max) reads to orderly brief = pays-for before p (late (Confirmation n s w max) (rows_of k before)) (let a = close-weight s in omega arith)
lost-pays before k p (Succeeds rest) reads to orderly brief = reply-pays before k p (Succeeds rest) (late_success rest) reads refl (success-pays rest) orderly (succeeds-asked before rest k to) brief
lost-pays before k p Refuses reads to orderly brief = reply-pays before k p Refuses late_refusal reads refl refusal-pays orderly (refuses-asked before k to) brief
lost-pays before k p m reads to orderly brief = pays-for before p [] (omega arith)

heard-pays : (before : List Row) (k : ℕ) (p : List ℕ) → dest before p ≡ ToClient k → Orderly before → EachAsk IsBrief (wanted_requests (rows_of k before)) → Pays before p (received_for (rows_of k before) p).sent
heard-pays before k p to orderly brief = by_case (read_summary p) refl
  where
    by_lost : (m : Summary) → read_summary p ≡ Ok m → (b : Bool) → Pays before p (elim b as (λ _. Outcome) [ true ↦ for_lost (rows_of k before) m | false ↦ for_client (rows_of k before) p m ]).sent
    by_lost m reads true = lost-pays before k p m reads (sym (dest-ok before p m reads) ∙ to) orderly brief
    by_lost m reads false = pays-for before p (for_client (rows_of k before) p m).sent (client-pays (rows_of k before) p m reads)

    by_case : (r : Result Summary Bad) → read_summary p ≡ r → Pays before p (elim r as (λ _. Outcome) [ Err bad ↦ silent | Ok m ↦ received_summary (rows_of k before) p m ]).sent
    by_case (Err bad) reads = pays-for before p [] (omega arith)
    by_case (Ok m) reads = by_lost m reads (is_lost (rows_of k before))

-- ---- its row

abbrev RowPays : List Row → List ℕ → Row → Type 0
RowPays before p row = Pays before p row.up

dest-pays : (before : List Row) (p : List ℕ) (d : Dest) → dest before p ≡ d → Orderly before → ((k : ℕ) → EachAsk IsBrief (wanted_requests (rows_of k before))) → RowPays before p (received_row before p d)
dest-pays before p ToMaster e orderly brief = master-pays before p
dest-pays before p (ToClient k) e orderly brief = row-parts (RowPays before p) (Heard p) k (received_for (rows_of k before) p) (rows_of k before) (λ fw parting down fate. heard-pays before k p e orderly (brief k))
dest-pays before p Disconnects e orderly brief = pays-for before p [] (omega arith)
dest-pays before p (Breaks cause) e orderly brief = pays-for before p [] (omega arith)

pub heard-step : (policy : Policy) (pid : ℕ) (before : List Row) (row : Row) (p : List ℕ) → RowKnown policy pid before row → ForEach (RowKnown policy pid) before → row.item ≡ Heard p → weight row.up + 308 * owed (row ∷ before) ≤ 3 * (length p + 5) + 308 * owed before
heard-step policy pid before row p known each item =
    by-next before known.item known.may
    (λ going makes. live (known.orderly going))
    (λ stream size took. absurd (let bad : Took stream size ≡ Heard p = sym (is-item ∙ took) ∙ item in cc))
  where
    is-item : row.item ≡ known.item
    is-item = sym (ap (λ (r : Row). r.item) known.is) ∙ treat-item policy pid known.pick before known.item

    live : Orderly before → weight row.up + 308 * owed (row ∷ before) ≤ 3 * (length p + 5) + 308 * owed before
    live orderly =
        let pays : Pays before p row.up = subst (RowPays before p) (sym (ap (λ (i : Item). treat policy pid known.pick before i) (sym is-item ∙ item)) ∙ known.is) (dest-pays before p (dest before p) refl orderly (owned-brief policy pid before each)) in
        let none : asks_of row.client (is_sent row) (wanted_by row) ≡ [] = ap (λ (i : Item). asks_of row.client (is_sent row) (wanted_by (record row { item = i }))) item ∙ asks-none row.client (is_sent row) in
        let after : unreplied (row ∷ before) ≡ drop (length (reply_in (Heard p))) (unreplied before) = goes-on row before orderly.within ∙ (ap (λ xs. drop (length (reply_in row.item)) (unreplied before ++ xs)) none ∙ (ap (drop (length (reply_in row.item))) (append-nil (unreplied before)) ∙ ap (λ (i : Item). drop (length (reply_in i)) (unreplied before)) item)) in
        let o = ap forwards_in after in
        omega (arith, pays, o)
