use Rattle.std.proofs.Common.{rules, [], ◌∷◌, None}
use Rattle.mux_sockets.specs.FileSteps.FileStep.{Found, Made}
use Rattle.mux_sockets.proofs.Results.{at_errors}
use Rattle.mux_sockets.proofs.control.private_socket.Goals as goal

pub returns-in_err-socket-clause-err : goal.returns-in_err-socket-clause-err
returns-in_err-socket-clause-err g c = at_errors c.from_residual-in_err-socket.result
    (Found c.args.path.now None ∷ [], search rules, search rules)

pub returns-in_err-set_mode-clause-err : goal.returns-in_err-set_mode-clause-err
returns-in_err-set_mode-clause-err g c = at_errors c.from_residual-in_err-set_mode.result
    (Made ∷ Found c.args.path.now None ∷ [], search rules, search rules)
