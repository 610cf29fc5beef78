use Rattle.std.proofs.Common.{refl}
use Rattle.conf_reader.proofs.FirstLemmas.{lift-moves}
use Rattle.conf_reader.proofs.UsesLemmas.{uses-all}
use Rattle.conf_reader.proofs.lines.Lines.settle.Goals as goal

pub returns-clause-lines : goal.returns-clause-lines
returns-clause-lines g c = record {
  moves = λ recorded place blocks records. lift-moves recorded place blocks c.args.self.now c.settle.new.self c.settle.result (c.settle.ensures.moves recorded place blocks records);
  goes_on = c.settle.ensures.goes_on;
  firsts = refl;
  count = refl;
}

pub returns-clause-files : goal.returns-clause-files
returns-clause-files g c = uses-all c.args.self.now c.settle.new.self c.settle.result c.settle.ensures.files
