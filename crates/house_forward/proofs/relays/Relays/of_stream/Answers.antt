use Rattle.std.proofs.Common.{sym}
use Rattle.house_forward.proofs.Finding.{found-of, found-nowhere}
use Rattle.house_forward.proofs.relays.Relays.of_stream.Goals as goal

pub returns-in_err-i : goal.returns-in_err-i
returns-in_err-i c = rw c.from_residual.ensures (sym (found-nowhere c.args.self.now.all.items c.args.stream (sym c.in_err-i.ensures)))

pub returns : goal.returns
returns c = sym (found-of c.args.self.now.all.items c.in_ok-i.i c.args.stream c.index.result.now (sym c.in_ok-i.ensures) c.index.ensures)
