use Rattle.std.proofs.Common.{◌∙◌, ap}
use Rattle.conf_rules.specs.Recorded.{Facts}
use Rattle.conf_reader.proofs.ToReadLemmas.{begins-reads}
use Rattle.conf_reader.proofs.line_reader.LineReader.new.Goals as goal

pub returns-in-Ok-clause-reads : goal.returns-in-Ok-clause-reads
returns-in-Ok-clause-reads c = λ recorded facts.
    rw c.note.ensures.lines
    (begins-reads recorded c.new.result c.args.facts.now.home c.args.asked.now.from c.new.ensures.none.0 c.new.ensures.none.1 c.new.ensures.counts.0
    (ap (λ (v : _). v.items) c.new.ensures.firsts ∙ c.in_ok-firsts.ensures) (ap (λ (f : Facts). f.home) facts))
