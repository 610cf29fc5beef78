-- Isolation over all runs.
use Rattle.std.proofs.Common.{◌≡◌, ℕ, ◌<◌, List, ◌∙◌, ap, arith, sym, subst, drop}
use Rattle.mux_history.specs.Journal.{IsLawful, items}
use Rattle.mux_history.specs.Kept.{AtEach, ForEach, Unshared, sent_for}
use Rattle.mux_history.specs.Policy.{Policy}
use Rattle.mux_history.specs.Right.{AreFresh, IsAdmitted, IsRight}
use Rattle.mux_history.specs.Rows.{Row, rows_of}
use Rattle.mux_history.specs.Settings.{by_lists, by_own}
use Rattle.mux_history.specs.Pending.{given_to}
use Rattle.mux_history.specs.Solo.{items_for}
use Rattle.mux_outside.specs.declared.house.HouseReply.{HouseReply}
use Rattle.mux_outside.specs.declared.mark.Mark.{Mark}
use Rattle.mux_history.proofs.Marks.{left-lawful}
use Rattle.mux_history.proofs.OwnRows.{all-of}
use Rattle.mux_isolation.specs.Bytes.{GivesAlike, SendsAlike}
use Rattle.mux_isolation.specs.Renaming.{RowIsRenamed, ViewIsRenamed}
use Rattle.mux_isolation.proofs.Bytes.{given-alone, given-own}
use Rattle.mux_isolation.proofs.Logs.{LogFacts, admitted-all, isolated, log-facts, run-end-same}
use Rattle.mux_isolation.proofs.Renamed.{rows-renamed, views-renamed}
use Rattle.mux_isolation.proofs.Sendings.{sent-alone}
use Rattle.mux_isolation.proofs.Unshared.{AllOwn, solo-alone}

positive : (k : ℕ) → 0 < k → k ≡ 0 → ⊥
positive k lt e = omega (arith, lt, e)

module _ (policy : Policy) (pid : ℕ) (picks : List ℕ) (replies : List HouseReply) (marks : List Mark) (left : ℕ) (rows : List Row) (lawful : IsLawful marks) (right : IsRight (by_lists policy pid picks replies) marks left rows) where
  facts : (k : ℕ) → 0 < k → LogFacts policy pid k rows
  facts k lt = subst (LogFacts policy pid k) (sym right.determined) (log-facts policy pid picks replies k (positive k lt) (drop left (items marks)) (left-lawful left marks lawful) (subst AreFresh right.determined right.fresh))

  own-known : (k : ℕ) (lt : 0 < k) → IsAdmitted k rows → AllOwn policy pid (rows_of k rows)
  own-known k lt admitted = let f = facts k lt in f.own (admitted-all k (rows_of k rows) f.once admitted)

  -- over all runs, each admitted client sees what it would see alone
  pub isolation : Unshared (by_lists policy pid picks replies) rows
  isolation k lt admitted = isolated policy pid k picks replies rows (facts k lt) admitted

  -- row by row, under its own numbers
  pub rows-alone : (k : ℕ) → 0 < k → IsAdmitted k rows → ForEach (RowIsRenamed (by_lists policy pid picks replies)) (rows_of k rows)
  rows-alone k lt admitted = rows-renamed policy pid (rows_of k rows) (own-known k lt admitted)

  -- and so is what is seen of it
  pub views-alone : (k : ℕ) → 0 < k → IsAdmitted k rows → AtEach (ViewIsRenamed (by_lists policy pid picks replies) k) (rows_of k rows)
  views-alone k lt admitted = let f = facts k lt in views-renamed policy pid k (rows_of k rows) (all-of k rows) f.named f.small (own-known k lt admitted)

  -- byte for byte
  pub gives-alone : GivesAlike (by_lists policy pid picks replies) rows
  gives-alone k lt admitted =
      given-own k lt rows
      ∙ (sym (given-alone k lt (rows_of k rows))
      ∙ (sym (ap (given_to k) (solo-alone policy pid (rows_of k rows) (own-known k lt admitted)))
      ∙ sym (ap (given_to k) (run-end-same (by_own policy pid) rows (items_for (rows_of k rows))))))

  -- and what is sent for it
  pub sends-alone : SendsAlike (by_lists policy pid picks replies) rows
  sends-alone k lt admitted =
      sent-alone k (rows_of k rows) (all-of k rows)
      ∙ (sym (ap (sent_for k) (solo-alone policy pid (rows_of k rows) (own-known k lt admitted)))
      ∙ sym (ap (sent_for k) (run-end-same (by_own policy pid) rows (items_for (rows_of k rows)))))
