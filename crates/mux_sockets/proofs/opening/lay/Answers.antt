use Rattle.std.proofs.Common.{rules, [], ◌∷◌, None, Some}
use Rattle.std.specs.String.{string_bytes}
use Rattle.mux_sockets.specs.FileSteps.FileStep.{Bound, Found, Listening, Made, Moded, Removed}
use Rattle.mux_sockets.proofs.opening.lay.Goals as goal

pub returns-in-Err-publish-clause-err : goal.returns-in-Err-publish-clause-err
returns-in-Err-publish-clause-err g c =
    let unnamed = c.in_ok-unnamed.unnamed in
    let name = string_bytes unnamed.name in
    (Removed name ∷ Found name (Some unnamed.own) ∷ Listening ∷ Bound name ∷ Moded 0o600 ∷ Made ∷ Found c.args.path.now None ∷ [], search rules, search rules)

pub returns-in-Err-clause-err : goal.returns-in-Err-clause-err
returns-in-Err-clause-err g c =
    let unnamed = c.in_ok-unnamed.unnamed in
    let name = string_bytes unnamed.name in
    (Removed name ∷ Found name (Some unnamed.own) ∷ Listening ∷ Bound name ∷ Moded 0o600 ∷ Made ∷ Found c.args.path.now None ∷ [], search rules, search rules)
