use Rattle.std.proofs.Common.{arith}
use Rattle.mux_core.proofs.Dispatch.{are-bytes}
use Rattle.mux_core.proofs.state.are_bytes.Goals as goal

pub returns : goal.returns
returns c = are-bytes c.args.payload.now (λ i. let h = c.type_inv.payload i in omega (arith, h))
