use Rattle.std.proofs.Common.{◌∙◌, sym, ap, subst, length, ◌+◌}
use Rattle.std.proofs.lemmas.Result.{err_from_is_err_and}
use Rattle.conf_reader.specs.declared.lines.Lines.{Lines}
use Rattle.conf_reader.specs.Known.{RecordsFiles}
use Rattle.conf_reader.proofs.OneLemmas.{reach-failed}
use Rattle.conf_reader.proofs.NextLemmas.{reads-from, given-from, one-reads}
use Rattle.conf_reader.proofs.UsesLemmas.{uses-for-err, uses-from}
use Rattle.conf_reader.proofs.lines.Lines.next.Goals as goal

pub returns-clause-reads : goal.returns-clause-reads
returns-clause-reads g c = λ recorded place blocks records facts original at bounded.
    reads-from recorded place blocks c.args.self.now c.expand.new.self c.next_line.new.self c.next_line.result (c.in_ok-expand.ensures.moves recorded place blocks records facts original)
    (c.next_line.ensures.reads recorded place blocks (subst (λ x. RecordsFiles x recorded) (sym c.in_ok-expand.ensures.files.recorded) records) (at ∙ ap (λ (r : Lines). length recorded.asked.lines + r.read) (sym c.expand.ensures.others)) (c.in_ok-expand.ensures.goes_on.bounded (length blocks) bounded))

pub returns-clause-given : goal.returns-clause-given
returns-clause-given g c = given-from c.args.self.now c.expand.new.self _ c.next_line.result c.in_ok-expand.ensures.goes_on.bounded (ap (λ (r : Lines). r.read) c.expand.ensures.others) c.next_line.ensures.given

pub returns-in_err-expand-clause-reads : goal.returns-in_err-expand-clause-reads
returns-in_err-expand-clause-reads g c = λ recorded place blocks records facts original at bounded.
    let p = err_from_is_err_and c.from_residual.result c.from_residual.ensures.1 in
    rw (p.1, p.2) (one-reads recorded place blocks c.args.self.now c.expand.new.self _ (reach-failed recorded place blocks c.args.self.now c.expand.new.self _ (c.in_err-expand.ensures.moves recorded place blocks records facts original)))

pub returns-clause-files : goal.returns-clause-files
returns-clause-files g c = uses-from c.next_line.result c.in_ok-expand.ensures.files c.next_line.ensures.files

pub returns-in_err-expand-clause-files : goal.returns-in_err-expand-clause-files
returns-in_err-expand-clause-files g c =
    let p = err_from_is_err_and c.from_residual.result c.from_residual.ensures.1 in
    rw (p.1, p.2) (uses-for-err c.in_err-expand.ensures.files)
