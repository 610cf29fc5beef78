use Rattle.conf_reader.proofs.FirstLemmas.{lift-moves}
use Rattle.conf_reader.proofs.UsesLemmas.{uses-all-for}
use Rattle.conf_reader.proofs.lines.Lines.expand.Goals as goal

pub returns-clause-moves : goal.returns-clause-moves
returns-clause-moves g c = λ recorded place blocks records facts original. lift-moves recorded place blocks c.args.self.now c.expand.new.self c.expand.result (c.expand.ensures.moves recorded place blocks records facts original)

pub returns-clause-files : goal.returns-clause-files
returns-clause-files g c = uses-all-for c.args.self.now c.expand.new.self c.expand.result c.expand.ensures.files
