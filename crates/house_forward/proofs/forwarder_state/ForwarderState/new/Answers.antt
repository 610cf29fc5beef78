use Rattle.std.proofs.Common.{refl, false}
use Rattle.house_forward.specs.RelayTraces.{forwarder_held_of}
use Rattle.house_forward.specs.declared.forwarder_state.ForwarderStage.TheVariants.{Control}
use Rattle.house_forward.proofs.Calling.{lived-first}
use Rattle.house_forward.proofs.forwarder_state.ForwarderState.new.Goals as goal

pub returns-clause-lived : goal.returns-clause-lived
returns-clause-lived c =
    let fs = c.new-3.ensures in
    lived-first (forwarder_held_of c.new-4.result c.new-2.result Control c.first.result false c.new-3.result c.new.result)
    (rw (c.first.ensures, c.new-4.ensures, c.new-2.ensures.exact, fs.none, fs.serials, fs.refused, fs.requests, c.new.ensures.none, c.new.ensures.done) refl)
