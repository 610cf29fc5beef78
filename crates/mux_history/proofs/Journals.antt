-- The log of a journal, mark by mark, is the log of its items.
use Rattle.std.proofs.Common.{◌≡◌, ℕ, List, [], ◌∷◌, ◌++◌, Bool, true, false, refl, ◌∙◌, ap, sym, take, drop, length, append_assoc}
use Rattle.std.specs.Prelude.{reverse}
use Rattle.std.proofs.lemmas.List.{reverse-append, take-append-drop}
use Rattle.std.proofs.Math.Seq.{drop-append_seam}
use Rattle.mux_history.specs.Journal.{items, items_in, log_of_journal}
use Rattle.mux_history.specs.Laws.{LogsAreRight}
use Rattle.mux_history.specs.Log.{Setting, log_of, more_all}
use Rattle.mux_history.specs.Policy.{Policy}
use Rattle.mux_history.specs.Promises.{IsCut, is_house_request}
use Rattle.mux_history.specs.Right.{AreFresh, IsRight}
use Rattle.mux_history.specs.Rows.{Item, Row}
use Rattle.mux_history.specs.Settings.{by_lists}
use Rattle.mux_outside.specs.declared.house.HouseReply.{HouseReply}
use Rattle.mux_outside.specs.declared.house_mark.HouseMark.{HouseMark}
use Rattle.mux_outside.specs.declared.house_mark.HouseMark.TheVariants.{HouseAsked}
use Rattle.mux_outside.specs.declared.mark.Mark.{Mark}
use Rattle.mux_outside.specs.declared.mark.Mark.TheVariants.{House}
use Rattle.ssh_grammar.specs.Frames.{cut}

-- items in the order in which they came, and the same in front with the newest first
pub log-more : (setting : Setting) (xs ys : List Item) → log_of setting (reverse xs ++ ys) ≡ more_all setting (log_of setting ys) xs
log-more setting [] ys = refl
log-more setting (x ∷ xs) ys =
    ap (log_of setting) (ap (λ zs. zs ++ ys) (reverse-append (x ∷ []) xs) ∙ append_assoc (reverse xs) (x ∷ []) ys)
    ∙ log-more setting xs (x ∷ ys)

module _ (policy : Policy) (pid : ℕ) (picks : List ℕ) (given : List HouseReply) where
  abbrev setting : Setting
  setting = by_lists policy pid picks given

  pub journal-items : (marks : List Mark) → log_of_journal setting marks ≡ log_of setting (items marks)
  journal-items [] = refl
  journal-items (mark ∷ before) = ap (λ rows. more_all setting rows (items_in before mark)) (journal-items before) ∙ sym (log-more setting (items_in before mark) (items before))

  whole-right : (marks : List Mark) → AreFresh (log_of_journal setting marks) → IsRight setting marks 0 (log_of_journal setting marks)
  whole-right marks fresh = record { determined = journal-items marks; fresh = fresh }

  -- the newest items that were left out
  cut-items : (n : ℕ) (xs ys : List Item) → drop (length (reverse (drop n xs))) (reverse xs ++ ys) ≡ reverse (take n xs) ++ ys
  cut-items n xs ys =
      ap (λ zs. drop (length (reverse (drop n xs))) (zs ++ ys)) (ap reverse (sym (take-append-drop n xs)) ∙ reverse-append (take n xs) (drop n xs))
      ∙ (ap (drop (length (reverse (drop n xs)))) (append_assoc (reverse (drop n xs)) (reverse (take n xs)) ys)
      ∙ drop-append_seam (reverse (drop n xs)) (reverse (take n xs) ++ ys))

  cut-here : (mark : Mark) (before : List Mark) (rows : List Row) → (n : ℕ) × (rows ≡ more_all setting (log_of_journal setting before) (take n (items_in before mark))) → AreFresh rows → (left : ℕ) × IsRight setting (mark ∷ before) left rows
  cut-here mark before rows cut fresh = (
    length (reverse (drop cut.0 (items_in before mark))),
    record {
      determined = cut.1
          ∙ (ap (λ rows. more_all setting rows (take cut.0 (items_in before mark))) (journal-items before)
          ∙ (sym (log-more setting (take cut.0 (items_in before mark)) (items before))
          ∙ ap (log_of setting) (sym (cut-items cut.0 (items_in before mark) (items before)))));
      fresh = fresh;
    },
  )

  cut-house : (mark : HouseMark) (before : List Mark) (rows : List Row) → IsCut setting (House mark ∷ before) rows → AreFresh rows → (IsCut setting before rows → (left : ℕ) × IsRight setting before left rows) → (left : ℕ) × IsRight setting (House mark ∷ before) left rows
  cut-house (HouseAsked k id opening ask given) before rows cut fresh earlier = let found = earlier cut in (found.0, record { determined = found.1.determined; fresh = fresh })
  cut-house mark before rows cut fresh earlier = cut-here (House mark) before rows cut fresh

  cut-right : (marks : List Mark) (rows : List Row) → IsCut setting marks rows → AreFresh rows → (left : ℕ) × IsRight setting marks left rows
  cut-right [] rows cut fresh = (0, record { determined = cut; fresh = fresh })
  cut-right (House mark ∷ before) rows cut fresh = cut-house mark before rows cut fresh (λ c. cut-right before rows c fresh)
  cut-right (mark ∷ before) rows cut fresh = cut-here mark before rows cut fresh

  pub logs-right : (marks : List Mark) → LogsAreRight setting marks
  logs-right marks = record { whole = whole-right marks; cut = cut-right marks }
