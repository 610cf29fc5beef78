use Rattle.std.proofs.Common.{[]}
use Rattle.std.proofs.lemmas.Result.{err_from_is_err_and}
use Rattle.ssh_grammar.specs.Control as grammar
use Rattle.mux_messages.proofs.Gives.{of_type, skips}
use Rattle.mux_messages.proofs.read.by_type.Goals as goal

pub returns-in_ok-id-in-268435458 : goal.returns-in_ok-id-in-268435458
returns-in_ok-id-in-268435458 c = (skips c.id_alone.new.fields.cursor, of_type _ 268435458 _ _ c.in-268435458.is (c.in_ok-id-in-268435458.ensures grammar.NewSession))

pub returns-in_ok-id-in-268435460 : goal.returns-in_ok-id-in-268435460
returns-in_ok-id-in-268435460 c = (skips [], of_type _ 268435460 _ _ c.in-268435460.is (c.in_ok-id-in-268435460.ensures grammar.AliveCheck))

pub returns-in_ok-id-in-268435461 : goal.returns-in_ok-id-in-268435461
returns-in_ok-id-in-268435461 c = (skips [], of_type _ 268435461 _ _ c.in-268435461.is (c.in_ok-id-in-268435461.ensures grammar.Terminate))

pub returns-in_ok-id-in-268435462 : goal.returns-in_ok-id-in-268435462
returns-in_ok-id-in-268435462 c = (skips [], of_type _ 268435462 _ _ c.in-268435462.is (c.in_ok-id-in-268435462.ensures grammar.OpenForward))

pub returns-in_ok-id-in-268435463 : goal.returns-in_ok-id-in-268435463
returns-in_ok-id-in-268435463 c = (skips [], of_type _ 268435463 _ _ c.in-268435463.is (c.in_ok-id-in-268435463.ensures grammar.CloseForward))

pub returns-in_ok-id-in-268435464 : goal.returns-in_ok-id-in-268435464
returns-in_ok-id-in-268435464 c = (skips c.id_alone-in-268435464.new.fields.cursor, of_type _ 268435464 _ _ c.in-268435464.is (c.in_ok-id-in-268435464.ensures grammar.StdioForward))

pub returns-in_ok-id-in-268435465 : goal.returns-in_ok-id-in-268435465
returns-in_ok-id-in-268435465 c = (skips [], of_type _ 268435465 _ _ c.in-268435465.is (c.in_ok-id-in-268435465.ensures grammar.StopListening))

pub returns-in_ok-id-in-268435471 : goal.returns-in_ok-id-in-268435471
returns-in_ok-id-in-268435471 c = (skips [], of_type _ 268435471 _ _ c.in-268435471.is (c.in_ok-id-in-268435471.ensures grammar.Proxy))

pub returns-in_err-id-in-268435460 : goal.returns-in_err-id-in-268435460
returns-in_err-id-in-268435460 c =
    let p = err_from_is_err_and c.from_residual-in_err-id-in-268435460.result c.from_residual-in_err-id-in-268435460.ensures.1 in
    rw (p.1, p.2) (of_type _ 268435460 _ _ c.in-268435460.is (c.in_err-id-in-268435460.ensures grammar.AliveCheck))

pub returns-in_err-id-in-268435463 : goal.returns-in_err-id-in-268435463
returns-in_err-id-in-268435463 c =
    let p = err_from_is_err_and c.from_residual-in_err-id-in-268435463.result c.from_residual-in_err-id-in-268435463.ensures.1 in
    rw (p.1, p.2) (of_type _ 268435463 _ _ c.in-268435463.is (c.in_err-id-in-268435463.ensures grammar.CloseForward))

pub returns-in_err-id-in-268435471 : goal.returns-in_err-id-in-268435471
returns-in_err-id-in-268435471 c =
    let p = err_from_is_err_and c.from_residual-in_err-id-in-268435471.result c.from_residual-in_err-id-in-268435471.ensures.1 in
    rw (p.1, p.2) (of_type _ 268435471 _ _ c.in-268435471.is (c.in_err-id-in-268435471.ensures grammar.Proxy))
