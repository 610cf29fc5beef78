-- Events at which nothing is requested of the forwarder.
use Rattle.std.proofs.Common.{◌≡◌, ℕ, Bool, true, false, List, [], ◌∷◌, ◌++◌, length, Option, refl, sym, ap, ◌∙◌, subst, append-nil, append_assoc, length-append, arith}
use Rattle.mux_outside.specs.declared.house_mark.HouseMark.{HouseMark as Asked}
use Rattle.mux_outside.specs.declared.house.HouseReply.{HouseReply}
use Rattle.mux_outside.specs.declared.mark.Mark.{Mark}
use Rattle.mux_history.specs.Rows.{Row, Item}
use Rattle.mux_history.specs.Settings.{by_lists}
use Rattle.mux_history.specs.Log.{Setting, makes_next, more_all, more_of, next_row}
use Rattle.mux_history.specs.Journal.{items_in, log_of_journal}
use Rattle.mux_peers.specs.Asked.{asked_by, asks_of_rows}
use Rattle.mux_peers.proofs.Heeding.{records_none}
use Rattle.mux_state.specs.State.{EngineState}
use Rattle.mux_state.specs.Stands.{GoesAlone, GoesOn, RepresentsSoFar, log, run_setting}

-- ---- more rows only add requests

pub record AsksMore (before now : List Row) : Type 0 where
  pub more : List Asked
  pub is : asks_of_rows now ≡ asks_of_rows before ++ more

one-asks : (s : Setting) (item : Item) (rows : List Row) → AsksMore rows (more_of s rows item)
one-asks s item rows = by_makes (makes_next rows item)
  where
    row : Row
    row = next_row s rows item

    by_makes : (b : Bool) → AsksMore rows (elim b as (λ _. List Row) [ false ↦ rows | true ↦ row ∷ rows ])
    by_makes true = record { more = asked_by row; is = refl }
    by_makes false = record { more = []; is = sym (append-nil (asks_of_rows rows)) }

pub all-ask : (s : Setting) (items : List Item) (rows : List Row) → AsksMore rows (more_all s rows items)
all-ask s [] rows = record { more = []; is = sym (append-nil (asks_of_rows rows)) }
all-ask s (item ∷ items) rows =
    let one = one-asks s item rows in
    let rest = all-ask s items (more_of s rows item) in
    record { more = one.more ++ rest.more; is = rest.is ∙ (ap (λ l. l ++ rest.more) one.is ∙ append_assoc (asks_of_rows rows) one.more rest.more) }

none-more : (xs more : List Asked) → length (xs ++ more) ≡ length xs → more ≡ []
none-more xs [] e = refl
none-more xs (a ∷ more) e = absurd (omega (arith, e, length-append xs (a ∷ more)))

-- ---- an event

-- as many requests, so the same
same-asks : (s new : EngineState) (mark : Mark) (picked : List ℕ) (given : List HouseReply) (marks : List Mark) (closed : List ℕ) (old : RepresentsSoFar picked given s marks closed) (now : RepresentsSoFar picked given new (mark ∷ marks) closed) → new.pid ≡ s.pid → new.core.policy ≡ s.core.policy
    → (picks : List ℕ) (replies : List HouseReply) → asks_of_rows (log new (picked ++ picks) (given ++ replies) (mark ∷ marks)) ≡ asks_of_rows (log s (picked ++ picks) (given ++ replies) marks)
same-asks s new mark picked given marks closed old now pid pol picks replies =
    let p : List ℕ = picked ++ picks in
    let r : List HouseReply = given ++ replies in
    let rows : List Row = log s p r marks in
    let m : AsksMore rows (log s p r (mark ∷ marks)) = all-ask (run_setting s p r) (items_in marks mark) rows in
    let is : log new p r (mark ∷ marks) ≡ log s p r (mark ∷ marks) =
    ap (λ q. log_of_journal (by_lists q new.pid p r) (mark ∷ marks)) pol ∙ ap (λ q. log_of_journal (by_lists s.core.policy q p r) (mark ∷ marks)) pid in
    let grown : asks_of_rows (log new p r (mark ∷ marks)) ≡ asks_of_rows rows ++ m.more = ap asks_of_rows is ∙ m.is in
    let size : length (asks_of_rows rows ++ m.more) ≡ length (asks_of_rows rows) =
    ap length (sym grown ∙ (now.at picks replies).rows.asked_is) ∙ (now.each ∙ (sym old.each ∙ ap length (sym (old.at picks replies).rows.asked_is))) in
    grown ∙ (ap (λ l. asks_of_rows rows ++ l) (none-more (asks_of_rows rows) m.more size) ∙ append-nil (asks_of_rows rows))

pub alone-goes : (May : HouseReply → Type 0) (recorded : Option (List Asked)) (s new : EngineState) (mark : Mark) → new.pid ≡ s.pid → new.core.policy ≡ s.core.policy → GoesAlone s new mark → GoesOn May recorded recorded s new mark
alone-goes May recorded s new mark pid pol goes picked given marks closed st al = record {
  picks = [];
  replies = [];
  asks = [];
  may = tt;
  stands = subst (λ p. RepresentsSoFar p (given ++ []) new (mark ∷ marks) closed) (sym (append-nil picked)) (subst (λ r. RepresentsSoFar picked r new (mark ∷ marks) closed) (sym (append-nil given)) now);
  recorded = records_none recorded;
  asked = λ picks replies. at ((picked ++ []) ++ picks) ((given ++ []) ++ replies) picks replies (ap (λ l. l ++ picks) (append-nil picked)) (ap (λ l. l ++ replies) (append-nil given)) ∙ sym (append-nil (asks_of_rows (log s ((picked ++ []) ++ picks) ((given ++ []) ++ replies) marks)));
}
  where
    now : RepresentsSoFar picked given new (mark ∷ marks) closed
    now = goes picked given marks closed st al

    at : (p : List ℕ) (r : List HouseReply) (picks : List ℕ) (replies : List HouseReply) → p ≡ picked ++ picks → r ≡ given ++ replies → asks_of_rows (log new p r (mark ∷ marks)) ≡ asks_of_rows (log s p r marks)
    at p r picks replies e f =
        subst (λ q. asks_of_rows (log new q r (mark ∷ marks)) ≡ asks_of_rows (log s q r marks)) (sym e)
        (subst (λ q. asks_of_rows (log new (picked ++ picks) q (mark ∷ marks)) ≡ asks_of_rows (log s (picked ++ picks) q marks)) (sym f) (same-asks s new mark picked given marks closed st now pid pol picks replies))
