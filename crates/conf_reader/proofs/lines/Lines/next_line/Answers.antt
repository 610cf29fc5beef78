use Rattle.std.proofs.Common.{◌≡◌, ◌∙◌, ◌+◌, [], ap, refl, subst, sym, length, Ok, arith}
use Rattle.std.proofs.lemmas.Result.{err_from_is_err_and}
use Rattle.conf_reader.specs.Known.{RecordsFiles}
use Rattle.conf_reader.specs.Left.{lines_to_give}
use Rattle.conf_reader.proofs.MovingLemmas.{goes-same, goes-then}
use Rattle.conf_reader.proofs.NextLemmas.{more, gives, ends, fails}
use Rattle.conf_reader.proofs.UsesLemmas.{uses-fails, uses-none, uses-then}
use Rattle.conf_reader.proofs.lines.Lines.next_line.Goals as goal

pub returns-in-End-clause-reads : goal.returns-in-End-clause-reads
returns-in-End-clause-reads g c = λ recorded place blocks records at bounded.
    let s = c.loop-line.invariant.far recorded place blocks records at bounded in
    ends recorded place blocks c.args.self.now c.loop-line.self s (rw c.in-End.is at (c.in_ok-one.ensures.one recorded (place + length s.comments) blocks (subst (λ f. RecordsFiles f recorded) (sym c.loop-line.invariant.files.recorded) records) s.count s.bounded))

pub returns-in_err-one-clause-reads : goal.returns-in_err-one-clause-reads
returns-in_err-one-clause-reads g c = λ recorded place blocks records at bounded.
    let s = c.loop-line.invariant.far recorded place blocks records at bounded in
    let p = err_from_is_err_and c.from_residual.result c.from_residual.ensures.1 in
    rw (p.1, p.2) (fails recorded place blocks c.args.self.now c.loop-line.self c.one.new.self _ s (c.in_err-one.ensures.one recorded (place + length s.comments) blocks (subst (λ f. RecordsFiles f recorded) (sym c.loop-line.invariant.files.recorded) records) s.count s.bounded))

pub returns-in-Given-clause-reads : goal.returns-in-Given-clause-reads
returns-in-Given-clause-reads g c = λ recorded place blocks records at bounded.
    let s = c.loop-line.invariant.far recorded place blocks records at bounded in
    let counts = rw c.in-Given.is at c.in_ok-one.ensures.counts in
    gives recorded place blocks c.args.self.now c.loop-line.self c.one.new.self c.in-Given.line s (rw c.in-Given.is at (c.in_ok-one.ensures.one recorded (place + length s.comments) blocks (subst (λ f. RecordsFiles f recorded) (sym c.loop-line.invariant.files.recorded) records) s.count s.bounded)) counts.0

pub loop-line-preserved : goal.loop-line-preserved
loop-line-preserved g c =
    let comment = ap (λ s. Ok s) c.in-Comment.is in
    record {
      goes_on = goes-then c.loop-line.invariant.goes_on (c.in_ok-one.ensures.comment comment);
      counted = let counts = rw c.in-Comment.is at c.in_ok-one.ensures.counts in omega (arith, counts.0, c.loop-line.invariant.counted);
      firsts = c.in_ok-one.ensures.firsts ∙ c.loop-line.invariant.firsts;
      files = uses-then tt c.loop-line.invariant.files (rw c.in-Comment.is at c.in_ok-one.ensures.files);
      far = λ recorded place blocks records at bounded.
          let s = c.loop-line.invariant.far recorded place blocks records at bounded in
          let counts = rw c.in-Comment.is at c.in_ok-one.ensures.counts in
          more recorded place blocks c.args.self.now c.loop-line.self c.one.new.self s (rw c.in-Comment.is at (c.in_ok-one.ensures.one recorded (place + length s.comments) blocks (subst (λ f. RecordsFiles f recorded) (sym c.loop-line.invariant.files.recorded) records) s.count s.bounded)) counts.0
          ((c.in_ok-one.ensures.comment comment).bounded (length blocks) s.bounded);
    }

pub returns-in-Given-clause-given : goal.returns-in-Given-clause-given
returns-in-Given-clause-given g c =
    let given = rw c.in-Given.is at c.in_ok-one.ensures.given in
    record {
      state = given.state;
      lies = λ n b. given.lies n (c.loop-line.invariant.goes_on.bounded n b);
      further = omega (arith, given.further, c.loop-line.invariant.counted);
    }

pub loop-line-init : goal.loop-line-init
loop-line-init g c = record {
  goes_on = goes-same c.args.self.now.open_files c.requires.ready;
  counted = omega arith;
  firsts = refl;
  files = uses-none (λ recorded test h. h) (λ recorded. refl);
  far = λ recorded place blocks records at bounded.
      let z : place ≡ place + 0 = omega arith in
      record { comments = []; is = ap (λ n. lines_to_give recorded n blocks c.args.self.now) z; idle = tt; count = omega (arith, at); bounded = bounded };
}

pub returns-in-End-clause-files : goal.returns-in-End-clause-files
returns-in-End-clause-files g c = uses-then _ c.loop-line.invariant.files (rw c.in-End.is at c.in_ok-one.ensures.files)

pub returns-in-Given-clause-files : goal.returns-in-Given-clause-files
returns-in-Given-clause-files g c = uses-then _ c.loop-line.invariant.files (rw c.in-Given.is at c.in_ok-one.ensures.files)

pub returns-in_err-one-clause-files : goal.returns-in_err-one-clause-files
returns-in_err-one-clause-files g c =
    let p = err_from_is_err_and c.from_residual.result c.from_residual.ensures.1 in
    rw (p.1, p.2) (uses-fails c.loop-line.invariant.files c.in_err-one.ensures.files)
