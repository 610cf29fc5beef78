use Rattle.std.proofs.Common.{◌∙◌, ◌+◌, length, sym, ap, refl, arith}
use Rattle.std.proofs.lemmas.Result.{err_from_is_err_and}
use Rattle.std.specs.Prelude.{Option}
use Rattle.conf_rules.specs.declared.asked.Asked.{Asked}
use Rattle.conf_rules.specs.Recorded.{Facts}
use Rattle.conf_reader.specs.declared.line.ConfLine.{ConfLine}
use Rattle.conf_reader.specs.Firsts.{firsts_of}
use Rattle.conf_resolve.specs.PassGives.{final_rows}
use Rattle.conf_resolve.proofs.CauseLemmas.{read-causes, run-causes}
use Rattle.conf_resolve.proofs.DepthLemmas.{depth-low, given-bounded, more-bounded}
use Rattle.conf_resolve.proofs.PassLemmas.{goes-on, line-fails, reader-fails, all-given, line-ran, reader-ran, all-ran, start-ran, none-given}
use Rattle.conf_resolve.proofs.ResolveLemmas.{underway}
use Rattle.conf_resolve.proofs.FaultLemmas.{read-stands, run-stands, none-fails, none-recorded}
use Rattle.conf_resolve.proofs.IncludeLemmas.{any_place, any-meets}
use Rattle.conf_rules.specs.ReadOrder.{read_once}
use Rattle.conf_reader.proofs.ToReadLemmas.{none-read, stays-read, then-read, then-some}
use Rattle.conf_reader.proofs.UsesLemmas.{no-run-fault}
use Rattle.conf_resolve.proofs.ReadingLemmas.{no-line, to-all}
use Rattle.conf_resolve.proofs.resolution.pass.Goals as goal

pub returns-in_err-reader-clause-passes : goal.returns-in_err-reader-clause-passes
returns-in_err-reader-clause-passes g c = λ recorded asked facts records status pass rows begins.
    let p = err_from_is_err_and c.from_residual.result c.from_residual.ensures.1 in
    rw (p.1, p.2) tt

pub returns-in_err-reader-clause-ran : goal.returns-in_err-reader-clause-ran
returns-in_err-reader-clause-ran g c = λ recorded asked facts records status pass rows before begins began.
    let p = err_from_is_err_and c.from_residual.result c.from_residual.ensures.1 in
    rw (p.1, p.2) (start-ran recorded pass rows before _ began)

pub loop-reader-init : goal.loop-reader-init
loop-reader-init g c = record {
  files = refl;
  runner = refl;
  file_faults = refl;
  run_faults = refl;
  facts = c.in_ok-reader.ensures.facts.0;
  original = c.in_ok-reader.ensures.facts.1;
  fits = more-bounded c.in_ok-reader.reader.lines.open_files 0 (length c.args.fold.now.applies) c.in_ok-reader.ensures.none.1 (omega arith);
  underway = λ recorded pass rows asked facts records status begins.
      underway recorded pass c.args.fold.now c.in_ok-reader.reader.lines rows _ begins
      (c.in_ok-reader.ensures.left recorded (length recorded.asked.lines) facts ∙ ap (λ (a : Asked). Rattle.conf_rules.specs.Sources.lines_from recorded (length recorded.asked.lines) a.from) (sym asked)) c.in_ok-reader.ensures.read c.in_ok-reader.ensures.none.1 c.in_ok-reader.ensures.looks;
  firsts = c.in_ok-reader.ensures.firsts;
  failed = λ recorded asked facts records. refl;
  notes = λ recorded asked facts records. stays-read _ _ _ _ (sym (c.in_ok-reader.ensures.reads recorded facts ∙ ap (λ (a : Asked). read_once recorded a.from) (sym asked))) refl;
}

pub line-requires-clause-known : goal.line-requires-clause-known
line-requires-clause-known g c =
    let from = rw c.in-Some.is at c.in_ok-line.ensures.given in
    (from.lies (length c.loop-reader.fold.applies) c.loop-reader.invariant.fits).known

pub line-requires-clause-opened : goal.line-requires-clause-opened
line-requires-clause-opened g c =
    let from = rw c.in-Some.is at c.in_ok-line.ensures.given in
    (from.lies (length c.loop-reader.fold.applies) c.loop-reader.invariant.fits).opened

pub returns-in_err-line-2-clause-passes : goal.returns-in_err-line-2-clause-passes
returns-in_err-line-2-clause-passes g c = λ recorded asked facts records status pass rows begins.
    let u = c.loop-reader.invariant.underway recorded pass rows asked facts records status begins in
    let p = err_from_is_err_and c.from_residual-in_err-line-2.result c.from_residual-in_err-line-2.ensures.1 in
    rw (p.1, p.2) (line-fails recorded pass rows c.loop-reader.fold c.line.new.self c.loop-reader.reader.lines c.next.new.self.lines rows _ _ u c.in-Some.line _
    (rw c.in-Some.is at (c.in_ok-line.ensures.reads recorded u.place u.blocks (rw c.loop-reader.invariant.files records) (facts ∙ sym c.loop-reader.invariant.facts) (ap (λ (a : Asked). a.original) asked ∙ sym c.loop-reader.invariant.original) u.count u.bounded))
    (λ rows place l stands next. c.in_err-line-2.ensures.folds recorded pass rows u.blocks place l facts (rw c.loop-reader.invariant.runner status) stands next))

pub returns-in_err-line-2-clause-ran : goal.returns-in_err-line-2-clause-ran
returns-in_err-line-2-clause-ran g c = λ recorded asked facts records status pass rows before begins began.
    let u = c.loop-reader.invariant.underway recorded pass rows asked facts records status begins in
    let p = err_from_is_err_and c.from_residual-in_err-line-2.result c.from_residual-in_err-line-2.ensures.1 in
    rw (p.1, p.2) (line-ran recorded pass c.loop-reader.fold c.line.new.self c.loop-reader.reader.lines c.next.new.self.lines (final_rows recorded pass rows) rows _ _ _ before u c.in-Some.line _
    (rw c.in-Some.is at (c.in_ok-line.ensures.reads recorded u.place u.blocks (rw c.loop-reader.invariant.files records) (facts ∙ sym c.loop-reader.invariant.facts) (ap (λ (a : Asked). a.original) asked ∙ sym c.loop-reader.invariant.original) u.count u.bounded))
    (λ rows place l stands next. c.in_err-line-2.ensures.folds recorded pass rows u.blocks place l facts (rw c.loop-reader.invariant.runner status) stands next)
    (λ rows place l stands next. c.in_err-line-2.ensures.ran recorded pass rows u.blocks place l facts (rw c.loop-reader.invariant.runner status) stands next)
    began)

pub returns-in_err-line-clause-cause : goal.returns-in_err-line-clause-cause
returns-in_err-line-clause-cause g c =
    let p = err_from_is_err_and c.from_residual-in_err-line.result c.from_residual-in_err-line.ensures.1 in
    rw (p.1, p.2) (read-causes _ _ _ _ _ _ c.loop-reader.invariant.file_faults c.loop-reader.invariant.run_faults c.in_err-line.ensures.files.cause)

pub returns-in_err-line-2-clause-cause : goal.returns-in_err-line-2-clause-cause
returns-in_err-line-2-clause-cause g c =
    let p = err_from_is_err_and c.from_residual-in_err-line-2.result c.from_residual-in_err-line-2.ensures.1 in
    rw (p.1, p.2) (run-causes _ _ _ _ _ _ (c.in_ok-line.ensures.files.cause ∙ c.loop-reader.invariant.file_faults) c.loop-reader.invariant.run_faults c.in_err-line-2.ensures.cause)

pub loop-reader-preserved : goal.loop-reader-preserved
loop-reader-preserved g c =
    let from = rw c.in-Some.is at c.in_ok-line.ensures.given in
    let bounded = given-bounded c.loop-reader.reader.lines c.next.new.self.lines c.in-Some.line (length c.loop-reader.fold.applies) (length c.line.new.self.applies) from c.loop-reader.invariant.fits c.in_ok-line-2.ensures.depth in
    record {
      files = c.in_ok-line.ensures.files.recorded ∙ c.loop-reader.invariant.files;
      runner = c.line.ensures.recorded ∙ c.loop-reader.invariant.runner;
      file_faults = c.in_ok-line.ensures.files.cause ∙ c.loop-reader.invariant.file_faults;
      run_faults = c.in_ok-line-2.ensures.cause ∙ c.loop-reader.invariant.run_faults;
      facts = ap Rattle.conf_tokens.specs.Known.known c.in_ok-line.ensures.asked.facts ∙ c.loop-reader.invariant.facts;
      original = c.in_ok-line.ensures.asked.original ∙ c.loop-reader.invariant.original;
      firsts = ap (λ (v : _). v.items) c.in_ok-line.ensures.asked.firsts ∙ c.loop-reader.invariant.firsts;
      failed = λ recorded asked facts records.
          (c.in_ok-line.ensures.files.looks recorded any_place (rw c.loop-reader.invariant.files records) (facts ∙ sym c.loop-reader.invariant.facts) (ap (λ (a : Asked). a.original) asked ∙ sym c.loop-reader.invariant.original) (any-meets recorded c.loop-reader.reader.lines)).0
          ∙ c.loop-reader.invariant.failed recorded asked facts records;
      notes = λ recorded asked facts records.
          then-read _ _ _ _ _ _ (c.loop-reader.invariant.notes recorded asked facts records) (rw c.in-Some.is at (c.in_ok-line.ensures.files.noted recorded (rw c.loop-reader.invariant.files records) (facts ∙ sym c.loop-reader.invariant.facts) (ap (λ (a : Asked). a.original) asked ∙ sym c.loop-reader.invariant.original)));
      fits = bounded;
      underway = λ recorded pass rows asked facts records status begins.
          let u = c.loop-reader.invariant.underway recorded pass rows asked facts records status begins in
          goes-on recorded pass c.loop-reader.fold c.line.new.self c.loop-reader.reader.lines c.next.new.self.lines (final_rows recorded pass rows) rows _ _ u c.in-Some.line
          (rw c.in-Some.is at (c.in_ok-line.ensures.reads recorded u.place u.blocks (rw c.loop-reader.invariant.files records) (facts ∙ sym c.loop-reader.invariant.facts) (ap (λ (a : Asked). a.original) asked ∙ sym c.loop-reader.invariant.original) u.count u.bounded))
          (λ rows place l stands next. c.in_ok-line-2.ensures.folds recorded pass rows u.blocks place l facts (rw c.loop-reader.invariant.runner status) stands next)
          (given-bounded c.loop-reader.reader.lines c.next.new.self.lines c.in-Some.line (length c.loop-reader.fold.applies) (c.in-Some.line.depth + 1) from c.loop-reader.invariant.fits refl)
          (depth-low recorded pass c.loop-reader.fold u.rows u.blocks c.loop-reader.reader.lines c.next.new.self.lines c.in-Some.line u.stands from c.loop-reader.invariant.fits)
          (c.loop-reader.invariant.firsts ∙ ap (λ h. firsts_of h c.args.asked.now.from) (sym (ap (λ (f : Facts). f.home) facts)) ∙ ap (firsts_of recorded.facts.home) (sym (ap (λ (a : Asked). a.from) asked)))
          (λ test passes. (rw c.in-Some.is at (c.in_ok-line.ensures.files.looks recorded test (rw c.loop-reader.invariant.files records) (facts ∙ sym c.loop-reader.invariant.facts) (ap (λ (a : Asked). a.original) asked ∙ sym c.loop-reader.invariant.original) passes).1))
          _
          (λ rows place l stands next. c.in_ok-line-2.ensures.ran recorded pass rows u.blocks place l facts (rw c.loop-reader.invariant.runner status) stands next);
    }

pub returns-clause-passes : goal.returns-clause-passes
returns-clause-passes g c = λ recorded asked facts records status pass rows begins.
    let u = c.loop-reader.invariant.underway recorded pass rows asked facts records status begins in
    all-given recorded pass c.loop-reader.fold c.loop-reader.reader.lines (final_rows recorded pass rows) rows _ _ u
    (none-given recorded u.place u.blocks c.loop-reader.reader.lines c.next.new.self.lines _ c.in_default.not-Some (c.in_ok-line.ensures.reads recorded u.place u.blocks (rw c.loop-reader.invariant.files records) (facts ∙ sym c.loop-reader.invariant.facts) (ap (λ (a : Asked). a.original) asked ∙ sym c.loop-reader.invariant.original) u.count u.bounded))

pub returns-clause-ran : goal.returns-clause-ran
returns-clause-ran g c = λ recorded asked facts records status pass rows before begins began.
    let u = c.loop-reader.invariant.underway recorded pass rows asked facts records status begins in
    all-ran recorded pass c.loop-reader.fold c.loop-reader.reader.lines (final_rows recorded pass rows) rows _ _ before u
    (none-given recorded u.place u.blocks c.loop-reader.reader.lines c.next.new.self.lines _ c.in_default.not-Some (c.in_ok-line.ensures.reads recorded u.place u.blocks (rw c.loop-reader.invariant.files records) (facts ∙ sym c.loop-reader.invariant.facts) (ap (λ (a : Asked). a.original) asked ∙ sym c.loop-reader.invariant.original) u.count u.bounded))
    began

pub returns-in_err-line-clause-passes : goal.returns-in_err-line-clause-passes
returns-in_err-line-clause-passes g c = λ recorded asked facts records status pass rows begins.
    let u = c.loop-reader.invariant.underway recorded pass rows asked facts records status begins in
    let p = err_from_is_err_and c.from_residual-in_err-line.result c.from_residual-in_err-line.ensures.1 in
    rw (p.1, p.2) (reader-fails recorded pass rows c.loop-reader.fold c.loop-reader.reader.lines c.next.new.self.lines rows _ _ u _
    (c.in_err-line.ensures.reads recorded u.place u.blocks (rw c.loop-reader.invariant.files records) (facts ∙ sym c.loop-reader.invariant.facts) (ap (λ (a : Asked). a.original) asked ∙ sym c.loop-reader.invariant.original) u.count u.bounded))

pub returns-in_err-line-clause-ran : goal.returns-in_err-line-clause-ran
returns-in_err-line-clause-ran g c = λ recorded asked facts records status pass rows before begins began.
    let u = c.loop-reader.invariant.underway recorded pass rows asked facts records status begins in
    let p = err_from_is_err_and c.from_residual-in_err-line.result c.from_residual-in_err-line.ensures.1 in
    rw (p.1, p.2) (reader-ran recorded pass c.loop-reader.fold c.loop-reader.reader.lines c.next.new.self.lines (final_rows recorded pass rows) rows _ _ before u _
    (c.in_err-line.ensures.reads recorded u.place u.blocks (rw c.loop-reader.invariant.files records) (facts ∙ sym c.loop-reader.invariant.facts) (ap (λ (a : Asked). a.original) asked ∙ sym c.loop-reader.invariant.original) u.count u.bounded)
    began)

pub returns-in_err-reader-clause-fault : goal.returns-in_err-reader-clause-fault
returns-in_err-reader-clause-fault g c = λ recorded asked facts records status pass rows before begins began.
    let p = err_from_is_err_and c.from_residual.result c.from_residual.ensures.1 in
    rw (p.1, p.2) tt

pub returns-in_err-line-clause-fault : goal.returns-in_err-line-clause-fault
returns-in_err-line-clause-fault g c = λ recorded asked facts records status pass rows before begins began.
    let u = c.loop-reader.invariant.underway recorded pass rows asked facts records status begins in
    let p = err_from_is_err_and c.from_residual-in_err-line.result c.from_residual-in_err-line.ensures.1 in
    let home = ap (λ (f : Facts). f.home) facts in
    let from = ap (λ (a : Asked). a.from) asked in
    rw (p.1, p.2) (read-stands recorded pass c.loop-reader.fold c.loop-reader.reader.lines (final_rows recorded pass rows) rows _ _ before u _ _ _ _ (c.loop-reader.invariant.failed recorded asked facts records)
    (λ test passes. (c.in_err-line.ensures.files.looks recorded test (rw c.loop-reader.invariant.files records) (facts ∙ sym c.loop-reader.invariant.facts) (ap (λ (a : Asked). a.original) asked ∙ sym c.loop-reader.invariant.original) passes).0)
    (no-run-fault (Option ConfLine) _ _ _ c.in_err-line.ensures.files.cause)
    (c.loop-reader.invariant.firsts ∙ ap (λ h. firsts_of h c.args.asked.now.from) (sym home) ∙ ap (firsts_of recorded.facts.home) (sym from)) began)

pub returns-in_err-line-2-clause-fault : goal.returns-in_err-line-2-clause-fault
returns-in_err-line-2-clause-fault g c = λ recorded asked facts records status pass rows before begins began.
    let u = c.loop-reader.invariant.underway recorded pass rows asked facts records status begins in
    let p = err_from_is_err_and c.from_residual-in_err-line-2.result c.from_residual-in_err-line-2.ensures.1 in
    rw (p.1, p.2) (run-stands recorded pass c.loop-reader.fold c.loop-reader.reader.lines c.next.new.self.lines (final_rows recorded pass rows) rows _ _ _ before u c.in-Some.line _ _ _ _ _
    (rw c.in-Some.is at (c.in_ok-line.ensures.reads recorded u.place u.blocks (rw c.loop-reader.invariant.files records) (facts ∙ sym c.loop-reader.invariant.facts) (ap (λ (a : Asked). a.original) asked ∙ sym c.loop-reader.invariant.original) u.count u.bounded))
    c.in_err-line-2.ensures.cause
    (λ rows place l stands next. c.in_err-line-2.ensures.failed recorded pass rows u.blocks place l facts (rw c.loop-reader.invariant.runner status) stands next)
    began)

pub returns-in_err-reader-clause-failed : goal.returns-in_err-reader-clause-failed
returns-in_err-reader-clause-failed g c = λ recorded asked facts records status.
    let p = err_from_is_err_and c.from_residual.result c.from_residual.ensures.1 in
    rw (p.1, p.2) refl

pub returns-in_err-line-clause-failed : goal.returns-in_err-line-clause-failed
returns-in_err-line-clause-failed g c = λ recorded asked facts records status.
    let p = err_from_is_err_and c.from_residual-in_err-line.result c.from_residual-in_err-line.ensures.1 in
    rw (p.1, p.2) (none-recorded any_place _ _ _ _ (c.loop-reader.invariant.failed recorded asked facts records)
    (c.in_err-line.ensures.files.looks recorded any_place (rw c.loop-reader.invariant.files records) (facts ∙ sym c.loop-reader.invariant.facts) (ap (λ (a : Asked). a.original) asked ∙ sym c.loop-reader.invariant.original) (any-meets recorded c.loop-reader.reader.lines)).0)

pub returns-in_err-line-2-clause-failed : goal.returns-in_err-line-2-clause-failed
returns-in_err-line-2-clause-failed g c = λ recorded asked facts records status.
    let p = err_from_is_err_and c.from_residual-in_err-line-2.result c.from_residual-in_err-line-2.ensures.1 in
    rw (p.1, p.2) (none-fails _ _ _
    ((c.in_ok-line.ensures.files.looks recorded any_place (rw c.loop-reader.invariant.files records) (facts ∙ sym c.loop-reader.invariant.facts) (ap (λ (a : Asked). a.original) asked ∙ sym c.loop-reader.invariant.original) (any-meets recorded c.loop-reader.reader.lines)).0
    ∙ c.loop-reader.invariant.failed recorded asked facts records))

pub returns-clause-failed : goal.returns-clause-failed
returns-clause-failed g c = λ recorded asked facts records status.
    (c.in_ok-line.ensures.files.looks recorded any_place (rw c.loop-reader.invariant.files records) (facts ∙ sym c.loop-reader.invariant.facts) (ap (λ (a : Asked). a.original) asked ∙ sym c.loop-reader.invariant.original) (any-meets recorded c.loop-reader.reader.lines)).0
    ∙ c.loop-reader.invariant.failed recorded asked facts records

pub returns-in_err-reader-clause-noted : goal.returns-in_err-reader-clause-noted
returns-in_err-reader-clause-noted g c = λ recorded asked facts records status.
    let p = err_from_is_err_and c.from_residual.result c.from_residual.ensures.1 in
    rw p.1 (none-read _ _ _ refl)

pub returns-in_err-line-clause-noted : goal.returns-in_err-line-clause-noted
returns-in_err-line-clause-noted g c = λ recorded asked facts records status.
    let p = err_from_is_err_and c.from_residual-in_err-line.result c.from_residual-in_err-line.ensures.1 in
    rw p.1 (then-some _ _ _ _ _ (c.loop-reader.invariant.notes recorded asked facts records) (c.in_err-line.ensures.files.noted recorded (rw c.loop-reader.invariant.files records) (facts ∙ sym c.loop-reader.invariant.facts) (ap (λ (a : Asked). a.original) asked ∙ sym c.loop-reader.invariant.original)))

pub returns-in_err-line-2-clause-noted : goal.returns-in_err-line-2-clause-noted
returns-in_err-line-2-clause-noted g c = λ recorded asked facts records status.
    let p = err_from_is_err_and c.from_residual-in_err-line-2.result c.from_residual-in_err-line-2.ensures.1 in
    rw p.1 (_, then-read _ _ _ _ _ _ (c.loop-reader.invariant.notes recorded asked facts records) (rw c.in-Some.is at (c.in_ok-line.ensures.files.noted recorded (rw c.loop-reader.invariant.files records) (facts ∙ sym c.loop-reader.invariant.facts) (ap (λ (a : Asked). a.original) asked ∙ sym c.loop-reader.invariant.original))))

pub returns-clause-noted : goal.returns-clause-noted
returns-clause-noted g c = λ recorded asked facts records status.
    to-all _ _ _ (then-read _ _ _ _ _ _ (c.loop-reader.invariant.notes recorded asked facts records) (no-line recorded _ _ c.next.new.self.lines _ _ c.in_default.not-Some (c.in_ok-line.ensures.files.noted recorded (rw c.loop-reader.invariant.files records) (facts ∙ sym c.loop-reader.invariant.facts) (ap (λ (a : Asked). a.original) asked ∙ sym c.loop-reader.invariant.original))))

pub returns-clause-cause : goal.returns-clause-cause
returns-clause-cause g c = (c.in_ok-line.ensures.files.cause ∙ c.loop-reader.invariant.file_faults, c.loop-reader.invariant.run_faults)

pub returns-clause-files : goal.returns-clause-files
returns-clause-files g c = c.in_ok-line.ensures.files.recorded ∙ c.loop-reader.invariant.files

pub returns-in_err-line-clause-files : goal.returns-in_err-line-clause-files
returns-in_err-line-clause-files g c = c.in_err-line.ensures.files.recorded ∙ c.loop-reader.invariant.files

pub returns-in_err-line-2-clause-files : goal.returns-in_err-line-2-clause-files
returns-in_err-line-2-clause-files g c = c.in_ok-line.ensures.files.recorded ∙ c.loop-reader.invariant.files
