use Rattle.std.proofs.Common.{rules, [], ◌∷◌}
use Rattle.mux_sockets.specs.FileSteps.FileStep.{Found}
use Rattle.mux_sockets.proofs.control.refuse_taken.Goals as goal

pub returns-in-Some-clause-err : goal.returns-in-Some-clause-err
returns-in-Some-clause-err g c = (Found c.args.path.now c.find.result ∷ [], search rules, search rules)
