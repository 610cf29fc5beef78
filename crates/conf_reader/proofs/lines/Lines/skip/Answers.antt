use Rattle.conf_reader.proofs.FirstLemmas.{skips-next}
use Rattle.conf_reader.proofs.ToReadLemmas.{first-each, first-skipped}
use Rattle.conf_reader.proofs.lines.Lines.skip.Goals as goal

pub returns-then-self-len-clause-left : goal.returns-then-self-len-clause-left
returns-then-self-len-clause-left c = λ recorded place blocks lacks. skips-next recorded place blocks c.args.self.now c.requires.none (c.requires.ready.none c.requires.none) c.requires.next lacks

pub returns-then-self-len-clause-reads : goal.returns-then-self-len-clause-reads
returns-then-self-len-clause-reads c = λ recorded.
    first-each c.args.self.now _ (λ f named none. first-skipped recorded c.args.self.now f c.requires.none (c.requires.ready.none c.requires.none) named none)
