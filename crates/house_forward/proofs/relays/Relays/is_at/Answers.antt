use Rattle.std.proofs.Common.{◌∙◌, sym, arith}
use Rattle.house_forward.proofs.Finding.{has-there}
use Rattle.house_forward.proofs.relays.Relays.is_at.Goals as goal

pub returns : goal.returns
returns c = λ e.
    has-there c.args.self.now.all.items c.args.i c.args.stream c.index.result.now c.args.self.now.distinct (omega arith) c.index.ensures (sym c.has_number.ensures ∙ e)
