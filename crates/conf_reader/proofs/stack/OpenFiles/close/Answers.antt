use Rattle.std.proofs.Common.{refl}
use Rattle.conf_reader.proofs.OpenLemmas.{closes-top}
use Rattle.conf_reader.proofs.LookingLemmas.{closed-meets}
use Rattle.conf_reader.proofs.ToReadLemmas.{closes-reads}
use Rattle.conf_reader.proofs.stack.OpenFiles.close.Goals as goal

pub returns-clause-left : goal.returns-clause-left
returns-clause-left c = λ recorded place blocks. closes-top recorded place blocks c.args.self.now c.pop.new.self.items c.args.self.now.top c.pop.result refl c.requires.some c.requires.ended c.pop.ensures.items

pub returns-clause-looks : goal.returns-clause-looks
returns-clause-looks c = λ recorded test h. closed-meets test recorded c.args.self.now c.pop.new.self.items c.pop.result c.pop.ensures.items h

pub returns-clause-reads : goal.returns-clause-reads
returns-clause-reads c = λ recorded. closes-reads recorded c.args.self.now c.pop.new.self.items c.args.self.now.top c.pop.result refl c.requires.some c.requires.ended c.pop.ensures.items
