use Rattle.std.proofs.Common.{◌∙◌, sym, subst}
use Rattle.conf_reader.specs.ReaderReads.{AreIdle}
use Rattle.conf_reader.proofs.BetweenLemmas.{over-left, over-reads}
use Rattle.conf_reader.proofs.UsesLemmas.{uses-for, uses-named, uses-none}
use Rattle.conf_reader.proofs.line_reader.LineReader.next.Goals as goal

pub returns-then-self-clause-reads : goal.returns-then-self-clause-reads
returns-then-self-clause-reads g c = λ recorded place blocks records facts original at bounded.
    subst (λ ls. AreIdle recorded place ls) (sym (over-left recorded place blocks c.args.self.now.over c.args.self.now.lines c.args.self.now.ended c.if-self.true)) tt

pub returns-then-self-clause-over : goal.returns-then-self-clause-over
returns-then-self-clause-over g c = λ over. record {
  spent = c.if-self.true;
  ended = λ recorded place blocks. over-left recorded place blocks c.args.self.now.over c.args.self.now.lines c.args.self.now.ended c.if-self.true;
}

pub returns-then-self-clause-files : goal.returns-then-self-clause-files
returns-then-self-clause-files g c = uses-for (uses-none (λ recorded test h. tt) (λ recorded. over-reads recorded c.args.self.now.over c.args.self.now.lines c.args.self.now.ended c.if-self.true))

pub returns-else-not-matches-clause-reads : goal.returns-else-not-matches-clause-reads
returns-else-not-matches-clause-reads g c = λ recorded place blocks records facts original at bounded. c.next-given.ensures.reads recorded place blocks records facts (original ∙ sym c.as_bytes.ensures) at bounded

pub returns-else-not-matches-clause-files : goal.returns-else-not-matches-clause-files
returns-else-not-matches-clause-files g c = uses-named c.as_bytes.ensures c.next-given.ensures.files
