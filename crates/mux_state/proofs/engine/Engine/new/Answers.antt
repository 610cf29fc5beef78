use Rattle.std.proofs.Common.{◌∙◌, true, None, refl, ap}
use Rattle.std.specs.Prelude.{false}
use Rattle.proxy_frames.specs.State.{QueueState}
use Rattle.mux_peers.specs.State.{ClientsState}
use Rattle.mux_state.specs.State.{EngineState}
use Rattle.mux_state.proofs.Started.{stands-started}
use Rattle.mux_state.proofs.engine.Engine.new.Goals as goal

pub returns-in-Ok-clause-nobody : goal.returns-in-Ok-clause-nobody
returns-in-Ok-clause-nobody c = record {
  clients = ap (λ (cs : ClientsState). cs.all) c.new-4.ensures;
  refused = c.new-5.ensures;
  leaving = ap (λ (cs : ClientsState). cs.leaving) c.new-4.ensures;
  waiting = c.new-6.ensures;
  silent = c.reserve_farewells.ensures.waiting ∙ ap (λ (q : QueueState). q.waiting) c.new-3.ensures;
}

pub returns-in-Ok-clause-stands : goal.returns-in-Ok-clause-stands
returns-in-Ok-clause-stands c =
    let s : EngineState = record { pid = c.args.pid; core = c.in_ok-new.field-0; server = c.new-2.result; up = c.reserve_farewells.new.up; clients = c.new-4.result.all; refused = c.new-5.result; leaving = c.new-4.result.leaving; waiting = c.new-6.result; listening = true; ended = None; starved = false } in
    stands-started s record {
      core_stands = c.in_ok-new.ensures.stands;
      server_is = c.new-2.ensures;
      nobody = returns-in-Ok-clause-nobody c;
      listens_yet = refl;
      goes = refl;
    }
