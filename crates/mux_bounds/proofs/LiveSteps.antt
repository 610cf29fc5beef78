-- A farewell is paid for by the client that is lost.
use Rattle.std.proofs.Common.{◌≡◌, ℕ, ◌+◌, ◌*◌, ◌≤◌, List, [], ◌∷◌, ◌++◌, true, false, Bool, refl, ◌∙◌, ap, arith, sym, subst, Ok, Err, inl, inr}
use Rattle.std.specs.Prelude.{◌==◌, ◌⊎◌, ◌||◌, ◌&&◌, not, Result}
use Rattle.std.proofs.lemmas.Bool.Decides.{nat_tests}
use Rattle.std.proofs.lemmas.List.{append-nil}
use Rattle.ssh_grammar.specs.declared.fault.Bad.{Bad}
use Rattle.mux_history.specs.Controls.{house_sends}
use Rattle.mux_history.specs.Farewell.{late}
use Rattle.mux_history.specs.Summary.{Summary, Open, Requests, read_summary}
use Rattle.mux_history.specs.Heard.{Breaks, Dest, Disconnects, ToClient, ToMaster, dest, for_client, for_lost, for_master, received_for, received_summary, received_master}
use Rattle.mux_history.specs.Kept.{ForEach}
use Rattle.mux_history.specs.Log.{bare_row, admitted_clients, goes, received_row, makes_row, new_answers, queued, row_of, sent_by_client, treat, with_farewell}
use Rattle.mux_history.specs.Policy.{Policy}
use Rattle.mux_history.specs.Rows.{Admit, Goes, Gone, Heard, HouseSays, Item, Row, Says, Took, any_of, is_admit, is_lost, is_out, loses, rows_of}
use Rattle.mux_history.specs.Said.{Outcome, silent}
use Rattle.mux_history.specs.Steps.{one_if}
use Rattle.mux_bounds.specs.Bounds.{weight}
use Rattle.mux_history.proofs.Finds.{filter-no, filter-yes}
use Rattle.mux_history.proofs.LawfulItems.{treat-item}
use Rattle.mux_history.proofs.MattersSteps.{Moved, add_if, admit-item, admits_one, count, entered-once, move-other, move-same, part}
use Rattle.mux_history.proofs.Nexts.{by-next}
use Rattle.mux_history.proofs.OwnRows.{same-client}
use Rattle.mux_history.proofs.RightLogs.{RowKnown}
use Rattle.mux_history.proofs.Sends.{row-parts}
use Rattle.mux_bounds.proofs.Closed.{lost-out}
use Rattle.mux_bounds.proofs.Farewells.{LeavesLittle, if_lost}
use Rattle.mux_bounds.proofs.Knowns.{LetFirst, greeted-in, is_own, to-greeted}
use Rattle.mux_bounds.proofs.Totals.{counts, is_live, live}
use Rattle.mux_history.proofs.Bools.{self}

-- ---- counts go on by one row

differ : (a b : ℕ) → (a == b) ≡ false → (b == a) ≡ false
differ a b e = grind (arith, nat_tests)

shift : (test : List Row → Bool) (row : Row) (before : List Row) (a b : Bool) → test (rows_of row.client before) ≡ a → test (rows_of row.client (row ∷ before)) ≡ b → (ks : List ℕ) → counts test (row ∷ before) ks + part a (count row.client ks) ≡ counts test before ks + part b (count row.client ks)
shift test row before a b ea eb [] = by_case a b
  where
    by_case : (a b : Bool) → 0 + part a 0 ≡ 0 + part b 0
    by_case true true = refl
    by_case true false = refl
    by_case false true = refl
    by_case false false = refl
shift test row before a b ea eb (k ∷ ks) = by_case (shift test row before a b ea eb ks) (k == row.client) refl
  where
    by_case : counts test (row ∷ before) ks + part a (count row.client ks) ≡ counts test before ks + part b (count row.client ks) → (t : Bool) → (k == row.client) ≡ t → Moved (counts test before ks) (counts test (row ∷ before) ks) (count row.client ks) a b (test (rows_of k (row ∷ before))) (test (rows_of k before)) (k == row.client)
    by_case ih true t =
        let same : k ≡ row.client = same-client k row.client t in
        let p : test (rows_of k (row ∷ before)) ≡ b = ap (λ j. test (rows_of j (row ∷ before))) same ∙ eb in
        let q : test (rows_of k before) ≡ a = ap (λ j. test (rows_of j before)) same ∙ ea in
        subst (λ (x : Bool). Moved (counts test before ks) (counts test (row ∷ before) ks) (count row.client ks) a b (test (rows_of k (row ∷ before))) (test (rows_of k before)) x) (sym t)
        (subst (λ (x : Bool). Moved (counts test before ks) (counts test (row ∷ before) ks) (count row.client ks) a b x (test (rows_of k before)) true) (sym p)
        (subst (λ (x : Bool). Moved (counts test before ks) (counts test (row ∷ before) ks) (count row.client ks) a b b x true) (sym q) (move-same (counts test before ks) (counts test (row ∷ before) ks) (count row.client ks) a b ih)))
    by_case ih false t =
        let idle : test (rows_of k (row ∷ before)) ≡ test (rows_of k before) = ap test (filter-no (λ (r : Row). r.client == k) row before (differ k row.client t)) in
        subst (λ (x : Bool). Moved (counts test before ks) (counts test (row ∷ before) ks) (count row.client ks) a b (test (rows_of k (row ∷ before))) (test (rows_of k before)) x) (sym t)
        (subst (λ (x : Bool). Moved (counts test before ks) (counts test (row ∷ before) ks) (count row.client ks) a b x (test (rows_of k before)) false) (sym idle)
        (move-other (counts test before ks) (counts test (row ∷ before) ks) (part a (count row.client ks)) (part b (count row.client ks)) (test (rows_of k before)) ih))

one-more : (test : List Row → Bool) (rows : List Row) (ks : List ℕ) (c : ℕ) → counts test rows (ks ++ c ∷ []) ≡ counts test rows ks + one_if (test (rows_of c rows))
one-more test rows [] c = by_case (test (rows_of c rows))
  where
    by_case : (b : Bool) → add_if b 0 ≡ 0 + one_if b
    by_case true = refl
    by_case false = refl
one-more test rows (k ∷ ks) c = ap (add_if (test (rows_of k rows))) (one-more test rows ks c) ∙ by_case (test (rows_of k rows)) (counts test rows ks) (one_if (test (rows_of c rows)))
  where
    by_case : (b : Bool) (m n : ℕ) → add_if b (m + n) ≡ add_if b m + n
    by_case true m n = omega arith
    by_case false m n = refl

-- ---- a client is lost once

not-out : (own : List Row) → not (is_out own) ≡ true → is_lost own ≡ false
not-out own going = by_case (is_lost own) refl
  where
    by_case : (b : Bool) → is_lost own ≡ b → is_lost own ≡ false
    by_case true e = let bad : false ≡ true = sym (ap not (lost-out own e)) ∙ going in absurd (let h = bad in cc)
    by_case false e = e

abbrev unheard : List (List ℕ) → Outcome
unheard up = record { sent = up; recorded = []; ends = Goes }

lost-silent : (own : List Row) (p : List ℕ) → is_lost own ≡ true → (up : List (List ℕ)) × (received_for own p ≡ unheard up)
lost-silent own p lost = by_case (read_summary p)
  where
    by_case : (r : Result Summary Bad) → (up : List (List ℕ)) × ((elim r as (λ _. Outcome) [ Err bad ↦ silent | Ok m ↦ received_summary own p m ]) ≡ unheard up)
    by_case (Err bad) = ([], refl)
    by_case (Ok m) = (late m own, ap (λ b. elim b as (λ _. Outcome) [ true ↦ for_lost own m | false ↦ for_client own p m ]) lost)

lost-row : (p : List ℕ) (k : ℕ) (up : List (List ℕ)) (own : List Row) → is_lost own ≡ true → loses (row_of (Heard p) k (unheard up) own) ≡ false
lost-row p k up own lost = ap (λ b. loses (with_farewell (queued (elim (goes Goes && not b) as (λ _. List (List ℕ)) [ true ↦ [] ++ new_answers (bare_row (Heard p) k (unheard up)) own | false ↦ [] ]) (bare_row (Heard p) k (unheard up)) own) own)) lost

heard-keeps : (before : List Row) (p : List ℕ) (k : ℕ) → is_lost (rows_of k before) ≡ true → loses (row_of (Heard p) k (received_for (rows_of k before) p) (rows_of k before)) ≡ false
heard-keeps before p k lost = let s = lost-silent (rows_of k before) p lost in ap (λ o. loses (row_of (Heard p) k o (rows_of k before))) s.1 ∙ lost-row p k s.0 (rows_of k before) lost

master-keeps : (p : List ℕ) → loses (bare_row (Heard p) 0 (received_master p)) ≡ false
master-keeps p = by_case (read_summary p)
  where
    by_message : (m : Summary) → loses (bare_row (Heard p) 0 (for_master m)) ≡ false
    by_message (Requests what true) = refl
    by_message (Requests what false) = refl
    by_message (Open what s w max) = refl
    by_message m = refl

    by_case : (r : Result Summary Bad) → loses (bare_row (Heard p) 0 (elim r as (λ _. Outcome) [ Err bad ↦ silent | Ok m ↦ for_master m ])) ≡ false
    by_case (Err bad) = refl
    by_case (Ok m) = by_message m

-- where it is the client's own, or the server's for it
abbrev Source : List Row → Row → Type 0
Source before row = (is_own row.item ≡ true) ⊎ ((p : List ℕ) × (dest before p ≡ ToClient row.client))

abbrev LosesOnce : List Row → Row → Type 0
LosesOnce before row = loses row ≡ true → admits_one row.item ≡ false → (is_lost (rows_of row.client before) ≡ false) × Source before row

keeps-none : (before : List Row) (row : Row) → loses row ≡ false → LosesOnce before row
keeps-none before row keeps lost plain = let bad : false ≡ true = sym keeps ∙ lost in absurd (let h = bad in cc)

heard-once : (before : List Row) (p : List ℕ) (d : Dest) → dest before p ≡ d → LosesOnce before (received_row before p d)
heard-once before p ToMaster e = keeps-none before (received_row before p ToMaster) (master-keeps p)
heard-once before p (ToClient k) e = by_lost (is_lost (rows_of k before)) refl
  where
    by_lost : (b : Bool) → is_lost (rows_of k before) ≡ b → LosesOnce before (row_of (Heard p) k (received_for (rows_of k before) p) (rows_of k before))
    by_lost true lost = keeps-none before (row_of (Heard p) k (received_for (rows_of k before) p) (rows_of k before)) (heard-keeps before p k lost)
    by_lost false lost = row-parts (LosesOnce before) (Heard p) k (received_for (rows_of k before) p) (rows_of k before) (λ fw parting down fate l plain. (lost, inr (p, e)))
heard-once before p Disconnects e = keeps-none before (received_row before p Disconnects) refl
heard-once before p (Breaks cause) e = keeps-none before (received_row before p (Breaks cause)) refl

treat-once : (policy : Policy) (pid pick : ℕ) (before : List Row) (item : Item) → makes_row before item ≡ true → LosesOnce before (treat policy pid pick before item)
treat-once policy pid pick before (Admit k) makes = λ lost plain. absurd (let bad : true ≡ false = sym (ap admits_one (treat-item policy pid pick before (Admit k))) ∙ plain in let h = bad in cc)
treat-once policy pid pick before (Says k outgoing given) makes = row-parts (LosesOnce before) (Says k outgoing given) k (sent_by_client policy pid k (rows_of k before) pick outgoing given) (rows_of k before) (λ fw parting down fate l plain. (not-out (rows_of k before) makes, inl refl))
treat-once policy pid pick before (HouseSays k id given) makes = row-parts (LosesOnce before) (HouseSays k id given) k (house_sends (rows_of k before) id given) (rows_of k before) (λ fw parting down fate l plain. (not-out (rows_of k before) makes, inl refl))
treat-once policy pid pick before (Gone k) makes = row-parts (LosesOnce before) (Gone k) k silent (rows_of k before) (λ fw parting down fate l plain. (not-out (rows_of k before) makes, inl refl))
treat-once policy pid pick before (Heard p) makes = heard-once before p (dest before p) refl
treat-once policy pid pick before item makes = keeps-none before (treat policy pid pick before item) refl

row-once : (policy : Policy) (pid : ℕ) (before : List Row) (row : Row) → RowKnown policy pid before row → LosesOnce before row
row-once policy pid before row known =
    subst (LosesOnce before) known.is
    (by-next before known.item known.may
    (λ going makes. treat-once policy pid known.pick before known.item makes)
    (λ stream size took. subst (λ (i : Item). LosesOnce before (treat policy pid known.pick before i)) (sym took) (keeps-none before (bare_row (Took stream size) stream silent) refl)))

-- ---- the step

pub live-step : (policy : Policy) (pid : ℕ) (before : List Row) (row : Row) → RowKnown policy pid before row → ForEach (RowKnown policy pid) before → ForEach LetFirst (row ∷ before) → LeavesLittle before row → weight row.farewell + 28928 * live (row ∷ before) ≤ 28928 * live before + 28928 * one_if (admits_one row.item)
live-step policy pid before row known each first little = by_loss (loses row) refl (is_admit row) refl
  where
    was : Bool
    was = is_live (rows_of row.client before)

    after : is_live (rows_of row.client (row ∷ before)) ≡ not (loses row || is_lost (rows_of row.client before))
    after = ap is_live (filter-yes (λ (r : Row). r.client == row.client) row before (self row.client))

    entered-is : (b : Bool) → is_admit row ≡ b → admitted_clients (row ∷ before) ≡ admitted_clients before ++ elim b as (λ _. List ℕ) [ true ↦ row.client ∷ [] | false ↦ [] ]
    entered-is b e = ap (λ c. admitted_clients before ++ elim c as (λ _. List ℕ) [ true ↦ row.client ∷ [] | false ↦ [] ]) e

    in-once : Source before row → any_of is_admit (rows_of row.client before) ≡ true
    in-once (inl own) = first.0 own
    in-once (inr heard) = greeted-in before row.client first.1 (to-greeted policy pid before heard.0 row.client each heard.1)

    new-one : is_admit row ≡ true → one_if (admits_one row.item) ≡ 1
    new-one e = ap one_if (admit-item row e)

    stays : (b : Bool) → is_admit row ≡ b → counts is_live (row ∷ before) (admitted_clients (row ∷ before)) ≡ counts is_live (row ∷ before) (admitted_clients before) + elim b as (λ _. ℕ) [ true ↦ one_if (is_live (rows_of row.client (row ∷ before))) | false ↦ 0 ]
    stays true e = ap (counts is_live (row ∷ before)) (entered-is true e) ∙ one-more is_live (row ∷ before) (admitted_clients before) row.client
    stays false e = let a = ap (counts is_live (row ∷ before)) (entered-is false e ∙ append-nil (admitted_clients before)) in omega arith

    one-le : (b : Bool) → one_if b ≤ 1
    one-le true = omega arith
    one-le false = omega arith

    by_loss : (l : Bool) → loses row ≡ l → (b : Bool) → is_admit row ≡ b → weight row.farewell + 28928 * live (row ∷ before) ≤ 28928 * live before + 28928 * one_if (admits_one row.item)
    by_loss false l false e =
        let w = ap if_lost l in
        let same : is_live (rows_of row.client (row ∷ before)) ≡ was = after ∙ ap (λ x. not (x || is_lost (rows_of row.client before))) l in
        let s = shift is_live row before was was refl same (admitted_clients before) in
        let c = stays false e in
        omega (arith, little, w, s, c)
    by_loss false l true e =
        let w = ap if_lost l in
        let same : is_live (rows_of row.client (row ∷ before)) ≡ was = after ∙ ap (λ x. not (x || is_lost (rows_of row.client before))) l in
        let s = shift is_live row before was was refl same (admitted_clients before) in
        let c = stays true e in
        let o = one-le (is_live (rows_of row.client (row ∷ before))) in
        let n = new-one e in
        omega (arith, little, w, s, c, o, n)
    by_loss true l true e =
        let w = ap if_lost l in
        let gone : is_live (rows_of row.client (row ∷ before)) ≡ false = after ∙ ap (λ x. not (x || is_lost (rows_of row.client before))) l in
        let s = shift is_live row before was false refl gone (admitted_clients before) in
        let c = stays true e in
        let o = ap one_if gone in
        let n = new-one e in
        omega (arith, little, w, s, c, o, n)
    by_loss true l false e = by_item (admits_one row.item) refl
      where
        w : if_lost (loses row) ≡ 28928
        w = ap if_lost l

        gone : is_live (rows_of row.client (row ∷ before)) ≡ false
        gone = after ∙ ap (λ x. not (x || is_lost (rows_of row.client before))) l

        by_item : (b : Bool) → admits_one row.item ≡ b → weight row.farewell + 28928 * live (row ∷ before) ≤ 28928 * live before + 28928 * one_if (admits_one row.item)
        by_item true i =
            let v = w in
            let s = shift is_live row before was false refl gone (admitted_clients before) in
            let c = stays false e in
            let n = ap one_if i in
            omega (arith, little, v, s, c, n)
        by_item false i =
            let v = w in
            let once = row-once policy pid before row known l i in
            let lives : was ≡ true = ap not once.0 in
            let s = shift is_live row before true false lives gone (admitted_clients before) in
            let c = stays false e in
            let n : count row.client (admitted_clients before) ≡ 1 = entered-once policy pid before each row.client ∙ ap one_if (in-once once.1) in
            omega (arith, little, v, s, c, n)
