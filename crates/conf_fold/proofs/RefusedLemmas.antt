-- Refusals, and how many marks there are.
use Rattle.std.proofs.Common.{◌≡◌, ℕ, zero, suc, ◌+◌, ◌<◌, ◌≤◌, Bool, true, false, List, [], ◌∷◌, length, take, Some, Result, Ok, Err, refl, sym, ap, ◌∙◌, arith}
use Rattle.std.specs.List.{list_all, slice_get}
use Rattle.std.proofs.lemmas.List.{length-append}
use Rattle.conf_rules.specs.declared.key.Key.{Key}
use Rattle.conf_rules.specs.declared.criterion.Criterion.{Criterion}
use Rattle.conf_rules.specs.declared.causes.Cause.{Cause}
use Rattle.conf_rules.specs.declared.causes.ResolveError.TheVariants as resolve_errors
use Rattle.conf_rules.specs.declared.entry.LineContent.TheVariants.{Match}
use Rattle.conf_rules.specs.Recorded.{Recorded}
use Rattle.conf_rules.specs.Evaluation.{verdict}
use Rattle.conf_rules.specs.Sources.{Line}
use Rattle.conf_rules.specs.Rows.{LineRow, Pass, is_collected}
use Rattle.conf_rules.specs.Entries.{entry_of}
use Rattle.conf_rules.specs.Resolution.{applies_at, pass_start_of, host_from, host_at, view_at, seen_at, name_in_pass, active_before, is_active_row, wants_second, asks_again, is_final, is_of_command_line, is_past_limit, line_within_limit, is_active, Effect, effect_of, no_block, tested, row_with, row_of, is_refused}
use Rattle.conf_fold.specs.declared.fold.Fold.{Fold}
use Rattle.conf_reader.specs.declared.line.ConfLine.{ConfLine}
use Rattle.conf_reader.specs.declared.errors.LineError.{LineError}
use Rattle.conf_reader.specs.declared.errors.LineError.TheVariants as line_errors
use Rattle.conf_rules.specs.Diagnostics.{is_fault}
use Rattle.conf_fold.specs.Results.{LineEvaluated}
use Rattle.conf_reader.specs.Results.{resolve_error_at}
use Rattle.conf_reader.proofs.RefusalLemmas.{refuses-at}
use Rattle.conf_rules.specs.Results.{as_error}
use Rattle.conf_reader.specs.Blocks.{Blocks, IsLine}
use Rattle.conf_fold.specs.FoldRepresents.{open_applies, collects_here, IsBlockBefore, EachBefore, collects, collected, InFirst, InSecond, InPass, FoldRepresents, IsAgain, IsNextLine, next_row, FoldsEntry, value_of_key, host_so_far, block_name, fold_view_of, entry_so_far, marks_in_file, own_mark, does_count, activity_noted, if_counts}
use Rattle.conf_fold.proofs.EntryLemmas.{entry-same}
use Rattle.conf_fold.proofs.FoldLemmas.{tests-refused}
use Rattle.conf_fold.proofs.GiveLemmas.{Alone, alone-by}

abbrev pub failing : LineError → Result Bool LineError
failing e = Err e

-- where an evaluation failed, the line was active
pub tests-failed : (recorded : Recorded) (pass : Pass) (fold new : Fold) (rows : List LineRow) (blocks : Blocks) (l : ConfLine) (place : ℕ) (line : Line) (cs : List Criterion) (e : LineError) (t : Bool)
    → FoldRepresents recorded pass fold rows blocks → IsNextLine recorded pass rows blocks l place line → entry_so_far fold l ≡ Ok (Match cs)
    → t ≡ list_all (λ m. m) (take l.depth fold.applies) → (t ≡ true → LineEvaluated (Err e) (verdict recorded.status (fold_view_of fold recorded.facts) cs).holds) → (t ≡ false → failing e ≡ Ok false)
    → FoldsEntry recorded pass rows blocks l place line (Err e) new
tests-failed recorded pass fold new rows blocks l place line cs e true s n h t v idle = tests-refused recorded pass fold new rows blocks l place line cs e s n h (sym t) (v refl)
tests-failed recorded pass fold new rows blocks l place line cs e false s n h t v idle = absurd (let k = idle refl in cc)

-- ---- refusals

pub refused-row : (recorded : Recorded) (pass : Pass) (rows : List LineRow) (active : Bool) (c : Cause) → (effect_of recorded pass rows active (Err c)).entry ≡ Err c
refused-row recorded pass rows true c = refl
refused-row recorded pass rows false c = refl

-- what a line can't say is refused in its row
pub entry-refused : (recorded : Recorded) (pass : Pass) (fold new : Fold) (rows : List LineRow) (blocks : Blocks) (l : ConfLine) (place : ℕ) (line : Line) (e : LineError)
    → FoldRepresents recorded pass fold rows blocks → IsNextLine recorded pass rows blocks l place line → Rattle.conf_fold.specs.Results.FailsLine e (entry_so_far fold l) → FoldsEntry recorded pass rows blocks l place line (Err e) new
unfolding next_row row_of
entry-refused recorded pass fold new rows blocks l place line line_errors.OutOfMemory s n f = tt
entry-refused recorded pass fold new rows blocks l place line (line_errors.Refused c) s n f = λ fault.
    let says : entry_of rows line ≡ Err c = entry-same recorded pass fold rows blocks line l s n.is_line ∙ f in
    rw (n.within, says) (refused-row recorded pass rows (is_active rows pass line) c)

-- a refusal with its file and number
pub placed-refusal : (recorded : Recorded) (pass : Pass) (rows : List LineRow) (blocks : Blocks) (l : ConfLine) (place : ℕ) (line : Line) (e : LineError) (d : Rattle.conf_rules.specs.declared.causes.ResolveError.ResolveError) (new : Fold)
    → IsLine l blocks line → Rattle.conf_reader.specs.Results.RefusesLine e l.file l.number d → FoldsEntry recorded pass rows blocks l place line (Err e) new → Rattle.conf_fold.specs.FoldRepresents.Folds recorded pass rows blocks l place line (Err d) new
placed-refusal recorded pass rows blocks l place line e resolve_errors.OutOfMemory new is r f = tt
placed-refusal recorded pass rows blocks l place line line_errors.OutOfMemory (resolve_errors.At file number cause) new is r f = absurd cc
placed-refusal recorded pass rows blocks l place line (line_errors.Refused c) (resolve_errors.At file number cause) new is r f = λ fault.
    let same : cause ≡ c = cc in
    let at : resolve_errors.At line.file line.number c ≡ resolve_errors.At file number cause = ap (λ x. resolve_errors.At x line.number c) is.file ∙ ap (λ x. resolve_errors.At l.file x c) is.number ∙ sym r in
    ap (Rattle.conf_rules.specs.Resolution.refusal_at line) (f (sym (ap is_fault same) ∙ fault)) ∙ ap (λ x. Some x) at

-- the same of the outcome of a line
pub placed-folds : (recorded : Recorded) (pass : Pass) (rows : List LineRow) (blocks : Blocks) (l : ConfLine) (place : ℕ) (line : Line) (taken : Result (Unit {0}) LineError) (new : Fold)
    → IsLine l blocks line → FoldsEntry recorded pass rows blocks l place line taken new → Rattle.conf_fold.specs.FoldRepresents.Folds recorded pass rows blocks l place line (as_error (λ e. resolve_error_at e l.file l.number) taken) new
placed-folds recorded pass rows blocks l place line (Ok x) new is f = f
placed-folds recorded pass rows blocks l place line (Err e) new is f = placed-refusal recorded pass rows blocks l place line e (resolve_error_at e l.file l.number) new is (refuses-at e l.file l.number (resolve_error_at e l.file l.number) refl) f

-- ---- how many marks there are

pub take-length : (d : ℕ) (ms : List Bool) → d ≤ length ms → length (take d ms) ≡ d
take-length zero ms h = refl
take-length (suc d) [] h = absurd (omega (arith, h))
take-length (suc d) (m ∷ ms) h = ap suc (take-length d ms (omega (arith, h)))

pub entered-length : (d : ℕ) (opens : Bool) (ms : List Bool) → (opens ≡ false → d < length ms) → (opens ≡ true → d ≤ length ms) → length (marks_in_file d opens ms) ≡ d + 1
entered-length d true ms known opened = length-append (take d ms) (true ∷ []) ∙ ap (λ n. n + 1) (take-length d ms (opened refl))
entered-length d false ms known opened = take-length (d + 1) ms (let k = known refl in omega (arith, k))

pub gives-depth : (f mid new : Fold) (l : ConfLine) (key : Key) (active : Bool) → (l.opens ≡ false → l.depth < length f.applies) → (l.opens ≡ true → l.depth ≤ length f.applies)
    → mid ≡ record f { applies = marks_in_file l.depth l.opens f.applies } → new ≡ record (activity_noted key active mid) { settings = new.settings } → length new.applies ≡ l.depth + 1
gives-depth f mid new l key active known opened mid-is others =
    let alone : Alone mid (activity_noted key active mid) = alone-by (is_collected key) mid.name (slice_get mid.were_active mid.seen) active mid in
    ap length (ap (λ (x : Fold). x.applies) others ∙ alone.applies ∙ ap (λ (x : Fold). x.applies) mid-is) ∙ entered-length l.depth l.opens f.applies known opened
