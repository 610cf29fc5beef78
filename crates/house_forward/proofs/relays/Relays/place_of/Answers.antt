use Rattle.std.proofs.Common.{◌∙◌, sym}
use Rattle.house_forward.proofs.Finding.{of-there, of-none, of-nowhere}
use Rattle.house_forward.proofs.relays.Relays.place_of.Goals as goal

pub returns-in_err-i : goal.returns-in_err-i
returns-in_err-i c = rw c.from_residual.ensures (sym (of-nowhere c.args.self.now.all.items c.args.stream (sym c.in_err-i.ensures)))

pub returns-then-is_of : goal.returns-then-is_of
returns-then-is_of c =
    sym (of-there c.args.self.now.all.items c.in_ok-i.i c.args.stream c.index.result.now (sym c.in_ok-i.ensures) c.index.ensures (sym c.is_of.ensures ∙ c.if-is_of.true))

pub returns-else-is_of : goal.returns-else-is_of
returns-else-is_of c =
    sym (of-none c.args.self.now.all.items c.in_ok-i.i c.args.stream c.index.result.now c.args.self.now.distinct (sym c.in_ok-i.ensures) c.index.ensures (sym c.is_of.ensures ∙ c.if-is_of.false))
