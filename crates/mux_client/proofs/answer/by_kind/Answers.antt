use Rattle.std.proofs.Common.{refl}
use Rattle.ssh_grammar.specs.Control.{Greets, Okay, PermissionDenied, Failed, Alive, RemotePort, Proxies}
use Rattle.mux_client.proofs.AnswerKinds.{of_kind}
use Rattle.mux_client.proofs.answer.by_kind.Goals as goal

pub returns-in-Some : goal.returns-in-Some
returns-in-Some c = ((Greets c.in-Some.field-0), of_kind _ 1 _ _ c.in-1.is (c.in-Some.ensures Greets), refl)

pub returns-in-Some-one : goal.returns-in-Some-one
returns-in-Some-one c = ((Okay c.in-Some-one.id), of_kind _ 2147483649 _ _ c.in-2147483649.is (c.in-Some-one.ensures Okay), refl)

pub returns-in-Some-two : goal.returns-in-Some-two
returns-in-Some-two c = ((Alive c.in-Some-two.id c.in-Some-two.pid), of_kind _ 2147483653 _ _ c.in-2147483653.is (c.in-Some-two.ensures Alive), refl)

pub returns-in-Some-two-2 : goal.returns-in-Some-two-2
returns-in-Some-two-2 c = ((RemotePort c.in-Some-two-2.id c.in-Some-two-2.port), of_kind _ 2147483655 _ _ c.in-2147483655.is (c.in-Some-two-2.ensures RemotePort), refl)

pub returns-in-Some-one-2 : goal.returns-in-Some-one-2
returns-in-Some-one-2 c = ((Proxies c.in-Some-one-2.field-0), of_kind _ 2147483663 _ _ c.in-2147483663.is (c.in-Some-one-2.ensures Proxies), refl)

pub returns-in-Some-reason : goal.returns-in-Some-reason
returns-in-Some-reason c =
    let r = c.in-Some-reason.ensures PermissionDenied in
    (PermissionDenied c.in-Some-reason.id r.0, of_kind _ 2147483650 _ _ c.in-2147483650.is r.1, refl)

pub returns-in-Some-reason-2 : goal.returns-in-Some-reason-2
returns-in-Some-reason-2 c =
    let r = c.in-Some-reason-2.ensures Failed in
    (Failed c.in-Some-reason-2.id r.0, of_kind _ 2147483651 _ _ c.in-2147483651.is r.1, refl)

pub returns-in-None-reason : goal.returns-in-None-reason
returns-in-None-reason c = of_kind _ 2147483650 _ _ c.in-2147483650.is (c.in-None-reason.ensures PermissionDenied)

pub returns-in-None-two-2 : goal.returns-in-None-two-2
returns-in-None-two-2 c = of_kind _ 2147483655 _ _ c.in-2147483655.is (c.in-None-two-2.ensures RemotePort)
