use Rattle.std.proofs.Common.{rules, [], ◌∷◌, None, inl, inr}
use Rattle.std.specs.String.{string_bytes}
use Rattle.mux_sockets.specs.FileSteps.FileStep.{Bound, Found, Listening, Made, Moded, Removed}
use Rattle.mux_sockets.proofs.Results.{at_errors}
use Rattle.mux_sockets.proofs.control.listen_beside.Goals as goal

pub returns-in_err-name-clause-err : goal.returns-in_err-name-clause-err
returns-in_err-name-clause-err g c = at_errors c.from_residual-in_err-name.result
    (Moded 0o600 ∷ Made ∷ Found c.args.path.now None ∷ [], search rules, search rules)

pub returns-in-Err-clause-err : goal.returns-in-Err-clause-err
returns-in-Err-clause-err g c =
    let first = Bound (string_bytes c.in_ok-name.name) ∷ Moded 0o600 ∷ Made ∷ Found c.args.path.now None ∷ [] in
    let last = Removed c.as_str-in-Err.result.now in
    elim c.in-Err.ensures.err [
      | inl e ↦ (last ∷ first, search rules, search rules)
      | inr w ↦ let e = w.1 in (last ∷ Found c.as_str.result.now w.0 ∷ Listening ∷ first, search rules, search rules)
    ]
