use Rattle.std.proofs.Common.{arith}
use Rattle.std.proofs.lemmas.Grind.{common_steps}
use Rattle.std.proofs.lemmas.List.{drop_min, take_min}
use Rattle.mux_outside.specs.declared.piece.TheConstants.{LONGEST_PIECE}
use Rattle.mux_outside.proofs.ScriptLemmas.{behind_piece}
use Rattle.mux_outside.proofs.plan.next_piece.Goals as goal

pub returns-clause-piece : goal.returns-clause-piece
returns-clause-piece c = grind (arith, common_steps, drop_min, take_min)

pub returns-clause-rest : goal.returns-clause-rest
returns-clause-rest c = behind_piece LONGEST_PIECE _ c.min-start.result c.min-count.result _ c.min-start.ensures c.min-count.ensures
