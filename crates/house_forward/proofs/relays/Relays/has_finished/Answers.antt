use Rattle.std.proofs.Common.{◌∙◌, sym}
use Rattle.house_forward.proofs.Finding.{finished-there, finished-nowhere}
use Rattle.house_forward.proofs.relays.Relays.has_finished.Goals as goal

pub returns-in-Some : goal.returns-in-Some
returns-in-Some c = c.is_finished.ensures ∙ finished-there c.args.self.now.all.items c.in-Some.i c.args.stream c.index.result.now c.args.self.now.distinct (sym c.in-Some.ensures) c.index.ensures

pub returns-in-None : goal.returns-in-None
returns-in-None c = sym (finished-nowhere c.args.self.now.all.items c.args.stream (sym c.in-None.ensures))
