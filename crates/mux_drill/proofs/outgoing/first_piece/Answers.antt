use Rattle.std.proofs.Common.{arith}
use Rattle.std.proofs.lemmas.Grind.{common_steps}
use Rattle.std.proofs.lemmas.List.{take_min}
use Rattle.mux_drill.proofs.outgoing.first_piece.Goals as goal

pub returns-clause-piece : goal.returns-clause-piece
returns-clause-piece c = grind (arith, common_steps, take_min)
