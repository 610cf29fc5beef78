-- Where faults are reported, pass by pass.
use Rattle.std.proofs.Common.{◌≡◌, ℕ, ◌+◌, Bool, true, false, List, [], ◌∷◌, ◌++◌, length, Option, None, Result, Err, refl, sym, ap, subst, ◌∙◌, append_assoc}
use Rattle.std.specs.Prelude.{IfErr}
use Rattle.std.specs.Option.{option_map}
use Rattle.conf_rules.specs.declared.causes.Cause.TheVariants as causes
use Rattle.conf_rules.specs.declared.causes.ResolveError.{ResolveError}
use Rattle.conf_rules.specs.declared.causes.ResolveError.TheVariants as errors
use Rattle.conf_rules.specs.Recorded.{Recorded}
use Rattle.conf_rules.specs.Sources.{Line}
use Rattle.conf_rules.specs.Rows.{LineRow, Pass, First, Second}
use Rattle.conf_rules.specs.Entries.{entry_of}
use Rattle.conf_rules.specs.Resolution.{all_rows, is_refused, refusal_in, rows_from}
use Rattle.conf_match.specs.Evaluated.{RanAll}
use Rattle.conf_reader.specs.declared.line.ConfLine.{ConfLine}
use Rattle.conf_reader.specs.declared.lines.Lines.{Lines}
use Rattle.conf_reader.specs.Blocks.{open_behind}
use Rattle.conf_reader.specs.Firsts.{firsts_of}
use Rattle.conf_reader.specs.Left.{lines_to_give}
use Rattle.conf_reader.specs.ReaderReads.{GivesNextLine}
use Rattle.conf_reader.specs.Results.{is_run_fault, is_fault_at}
use Rattle.conf_reader.specs.Looking.{Test, all_meet, RecordsFailed}
use Rattle.conf_fold.specs.declared.fold.Fold.{Fold}
use Rattle.conf_fold.specs.Begins.{asked_rows, asked_again, SecondBegins}
use Rattle.conf_fold.specs.Results.{FailsAtLine, HasRunCause}
use Rattle.conf_fold.specs.FoldRepresents.{FoldRepresents, IsNextLine, next_row}
use Rattle.conf_fold.proofs.OrderLemmas.{from, rows-on, rows-end, row-line, from-front}
use Rattle.conf_resolve.specs.PassGives.{Commands, commands, AreAgain, final_rows, first_rows}
use Rattle.conf_resolve.specs.Faults.{FailedPaths, FaultStands, NoneFails}
use Rattle.conf_resolve.proofs.IncludeLemmas.{may_record, recorded-place, all-recorded}
use Rattle.conf_resolve.proofs.IdleLemmas.{idle-many}
use Rattle.conf_resolve.proofs.PassLemmas.{Underway}
use Rattle.conf_resolve.proofs.ResolveLemmas.{all-front, first-is, twice-all}

-- ---- rows

-- the row of a line and what may come after it
row-front : (recorded : Recorded) (pass : Pass) (rows : List LineRow) (place : ℕ) (line : Line) (rest : List Line) → (later : List LineRow) × (from recorded pass rows place (line ∷ rest) ≡ rows ++ next_row recorded pass rows place line ∷ later)
row-front recorded pass rows place line rest = on (is_refused (next_row recorded pass rows place line).entry) refl
  where
    on : (t : Bool) → is_refused (next_row recorded pass rows place line).entry ≡ t → (later : List LineRow) × (from recorded pass rows place (line ∷ rest) ≡ rows ++ next_row recorded pass rows place line ∷ later)
    on true h = ([], rows-end recorded pass rows place line rest h)
    on false h =
        let row = next_row recorded pass rows place line in
        let front = from-front recorded pass rest (rows ++ row ∷ []) (place + 1) in
        (front.0, rows-on recorded pass rows place line rest h ∙ front.1 ∙ append_assoc rows (row ∷ []) front.0)

-- ---- a pass

-- a failed read
pub read-stands : (recorded : Recorded) (pass : Pass) (fold : Fold) (old : Lines) (final first : List LineRow) (start now before : Commands) (u : Underway recorded pass fold old final first start now) (e : ResolveError) (failed failed-mid failed-now : FailedPaths) → failed-mid ≡ failed
    → ((test : Test) → all_meet test recorded old ≡ true → RecordsFailed {A = Option ConfLine} test (Err e) failed-mid failed-now) → is_run_fault e ≡ false → old.firsts.items ≡ firsts_of recorded.facts.home recorded.asked.from → RanAll before start (commands first)
    → FaultStands recorded final e before now failed failed-now
read-stands recorded pass fold old final first start now before u errors.OutOfMemory failed failed-mid failed-now same records quiet firsts began = tt
read-stands recorded pass fold old final first start now before u (errors.At file number causes.RunFault) failed failed-mid failed-now same records quiet firsts began = absurd cc
read-stands recorded pass fold old final first start now before u (errors.At file number causes.ReadFault) failed failed-mid failed-now same records quiet firsts began =
    let front = from-front recorded pass (lines_to_give recorded u.place u.blocks old) u.rows u.place in
    let fails = records (may_record recorded u.rows) (all-recorded recorded u.rows old firsts u.looks) in
    record {
      rows = u.rows;
      later = front.0;
      parts = sym u.final_is ∙ front.1;
      ran = u.ran before began;
      path = fails.path;
      is = fails.is ∙ ap (option_map (λ paths. paths ++ fails.path ∷ [])) same;
      place = recorded-place recorded u.rows file number fails.path fails.meets;
    }
read-stands recorded pass fold old final first start now before u (errors.At file number cause) failed failed-mid failed-now same records quiet firsts began = tt

-- a command that could not be run
pub run-stands : (recorded : Recorded) (pass : Pass) (fold : Fold) (old reader : Lines) (final first : List LineRow) (start now later before : Commands) (u : Underway recorded pass fold old final first start now) (line : ConfLine) (e : ResolveError) (runner runner' : ℕ) (failed failed-now : FailedPaths)
    → GivesNextLine recorded u.place u.blocks old reader line → HasRunCause {A = Unit {0}} (Err e) runner runner'
    → ((rows : List LineRow) (place : ℕ) (l : Line) → FoldRepresents recorded pass fold rows u.blocks → IsNextLine recorded pass rows u.blocks line place l → FailsAtLine {A = Unit {0}} line.file line.number (Err e) now later (next_row recorded pass rows place l).ran)
    → RanAll before start (commands first) → FaultStands recorded final e before later failed failed-now
run-stands recorded pass fold old reader final first start now later before u line errors.OutOfMemory runner runner' failed failed-now gives cause fails began = tt
run-stands recorded pass fold old reader final first start now later before u line (errors.At file number causes.ReadFault) runner runner' failed failed-now gives cause fails began = absurd cause
run-stands recorded pass fold old reader final first start now later before u line (errors.At file number causes.RunFault) runner runner' failed failed-now gives cause fails began =
    let place = u.place + length gives.comments in
    let rest = lines_to_give recorded (place + 1) (open_behind line place u.blocks) reader in
    let a = idle-many recorded pass fold u.blocks gives.comments (gives.line ∷ rest) u.rows final u.place u.stands u.at u.none gives.idle (subst (AreAgain recorded pass u.place) gives.is u.again) (ap (rows_from recorded entry_of u.rows (record { pass = pass; line = u.place })) (sym gives.is) ∙ u.final_is) in
    let next : IsNextLine recorded pass a.rows u.blocks line place gives.line = record { is_line = gives.is_line; at = a.at; within = gives.within; again = a.again.0 } in
    let came = fails a.rows place gives.line a.stands next in
    let front = row-front recorded pass a.rows place gives.line rest in
    let same = row-line recorded pass a.rows place gives.line in
    record {
      rows = a.rows;
      row = next_row recorded pass a.rows place gives.line;
      later = front.0;
      parts = sym a.final_is ∙ front.1;
      file_is = ap (λ (l : Line). l.file) same ∙ gives.is_line.file ∙ sym came.0;
      number_is = ap (λ (l : Line). l.number) same ∙ gives.is_line.number ∙ sym came.1.0;
      reached = now;
      ran = subst (RanAll before now) (sym a.ran) (u.ran before began);
      fails = came.1.1;
    }
run-stands recorded pass fold old reader final first start now later before u line (errors.At file number cause) runner runner' failed failed-now gives cause' fails began = tt

-- ---- both passes

-- what is no fault is reported anywhere
pub plain-stands : (recorded : Recorded) (all : List LineRow) (e : ResolveError) (before now : Commands) (failed failed-now : FailedPaths) → is_fault_at e ≡ false → FaultStands recorded all e before now failed failed-now
plain-stands recorded all errors.OutOfMemory before now failed failed-now h = tt
plain-stands recorded all (errors.At file number causes.ReadFault) before now failed failed-now h = absurd cc
plain-stands recorded all (errors.At file number causes.RunFault) before now failed failed-now h = absurd cc
plain-stands recorded all (errors.At file number cause) before now failed failed-now h = tt

-- where more rows come after
more-stands : (recorded : Recorded) (rows all more : List LineRow) (e : ResolveError) (before now : Commands) (failed failed-now : FailedPaths) → all ≡ rows ++ more → FaultStands recorded rows e before now failed failed-now → FaultStands recorded all e before now failed failed-now
more-stands recorded rows all more errors.OutOfMemory before now failed failed-now is f = tt
more-stands recorded rows all more (errors.At file number causes.ReadFault) before now failed failed-now is f = record {
  rows = f.rows;
  later = f.later ++ more;
  parts = is ∙ ap (λ rs. rs ++ more) f.parts ∙ append_assoc f.rows f.later more;
  ran = f.ran;
  path = f.path;
  is = f.is;
  place = f.place;
}
more-stands recorded rows all more (errors.At file number causes.RunFault) before now failed failed-now is f = record {
  rows = f.rows;
  row = f.row;
  later = f.later ++ more;
  parts = is ∙ ap (λ rs. rs ++ more) f.parts ∙ append_assoc f.rows (f.row ∷ f.later) more;
  file_is = f.file_is;
  number_is = f.number_is;
  reached = f.reached;
  ran = f.ran;
  fails = f.fails;
}
more-stands recorded rows all more (errors.At file number cause) before now failed failed-now is f = tt

-- a fault of the first pass
pub first-stands : (recorded : Recorded) (e : ResolveError) (before now : Commands) (failed failed-now : FailedPaths) → refusal_in (asked_rows recorded) ≡ None → FaultStands recorded (final_rows recorded First (asked_rows recorded)) e before now failed failed-now → FaultStands recorded (all_rows recorded) e before now failed failed-now
first-stands recorded e before now failed failed-now none f =
    let front = all-front recorded in
    more-stands recorded (final_rows recorded First (asked_rows recorded)) (all_rows recorded) front.0 e before now failed failed-now (front.1 ∙ ap (λ rs. rs ++ front.0) (sym (first-is recorded none))) f

-- a fault of the second pass, where no read failed in the first
pub second-stands : (recorded : Recorded) (mid : Fold) (r : Result (Unit {0}) ResolveError) (before now : Commands) (failed failed-mid failed-now : FailedPaths) → refusal_in (first_rows recorded) ≡ None → SecondBegins recorded (first_rows recorded) mid true → failed-mid ≡ failed
    → IfErr r (λ e. FaultStands recorded (final_rows recorded (Second (first_rows recorded)) (asked_again recorded (first_rows recorded))) e before now failed-mid failed-now) → IfErr r (λ e. FaultStands recorded (all_rows recorded) e before now failed failed-now)
second-stands recorded mid r before now failed failed-mid failed-now none b same f =
    subst (λ paths. IfErr r (λ e. FaultStands recorded (all_rows recorded) e before now paths failed-now)) same (subst (λ rs. IfErr r (λ e. FaultStands recorded rs e before now failed-mid failed-now)) (twice-all recorded mid none b) f)

-- ---- where no read failed

pub none-fails : (e : ResolveError) (failed now : FailedPaths) → now ≡ failed → NoneFails {A = Unit {0}} (Err e) failed now
none-fails errors.OutOfMemory failed now same = same
none-fails (errors.At file number causes.ReadFault) failed now same = tt
none-fails (errors.At file number cause) failed now same = same

-- what the reader reports
pub none-recorded : (test : Test) (e : ResolveError) (failed mid now : FailedPaths) → mid ≡ failed → RecordsFailed {A = Option ConfLine} test (Err e) mid now → NoneFails {A = Unit {0}} (Err e) failed now
none-recorded test errors.OutOfMemory failed mid now same records = records ∙ same
none-recorded test (errors.At file number causes.ReadFault) failed mid now same records = tt
none-recorded test (errors.At file number cause) failed mid now same records = records ∙ same

-- in the second pass
pub none-again : (r : Result (Unit {0}) ResolveError) (failed mid now : FailedPaths) → mid ≡ failed → NoneFails r mid now → NoneFails r failed now
none-again r failed mid now same none = subst (λ paths. NoneFails r paths now) same none
