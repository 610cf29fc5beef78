use Rattle.std.proofs.Common.{[], ap, refl}
use Rattle.mux_outside.specs.House.{Known}
use Rattle.mux_outside.proofs.HouseCalls.{hands-none}
use Rattle.mux_engine.specs.Sides.{RestsOf, outside}
use Rattle.mux_engine.proofs.Answering.{alone-blank, housed-blank}
use Rattle.mux_engine.proofs.Comes.{came-none}
use Rattle.mux_engine.proofs.Counting.{cut-none}
use Rattle.mux_engine.proofs.Ending.{ended-starved}
use Rattle.mux_engine.proofs.Greeted.{run-came}
use Rattle.mux_engine.proofs.Runs.{ends-starved, starts, starts-starved}
use Rattle.mux_engine.proofs.Spending.{stops-cut}
use Rattle.mux_engine.proofs.Wired.{keeps-none, no-fault-none}
use Rattle.mux_engine.proofs.serving.serve.Goals as goal

-- ---- there was no memory for an engine

pub returns-in_default : goal.returns-in_default
returns-in_default g c =
    let H = g.H.Asks in
    let wire = g.W.Wire.state c.args.wire.now in
    let house = H.state c.args.house.now in
    let Rest = RestsOf H.state house.known.present c.args.house.now in record {
      kept = ends-starved H.may Rest house.stands house house.recorded c.args.policy c.args.pid c.args.turns wire.seen.recorded _ house.recorded wire.seen
          (starts-starved H.may Rest house.recorded c.args.policy c.args.pid wire.seen.recorded c.args.turns);
      must = refl;
      ended = ended-starved _ _ _ _ _ _;
      came = λ silent. tt;
      calls = record { came = came-none _; stops = stops-cut _ c.args.turns _ _ (cut-none c.args.turns _) };
      places = record { known = λ some. absurd (some refl); unopened = λ p. refl };
      idle = λ z p. no-fault-none _;
      wire = keeps-none _ _;
    }

-- ---- a run

pub run-requires-clause-running : goal.run-requires-clause-running
run-requires-clause-running g c = let H = g.H.Asks in let r = c.requires in let o = r.opened in let e = c.in-Ok.ensures in
    let start = starts H.may (RestsOf H.state (H.state c.args.house.now).known.present c.args.house.now) (outside (H.state c.args.house.now).recorded (H.state c.args.house.now).known []) c.args.policy c.args.pid (g.W.Wire.state c.args.wire.now).seen c.in-Ok.engine
    e.stands e.policy e.pid e.nobody.clients e.nobody.refused (ap (λ (k : Known). k.asks) r.blank) refl refl refl o.server_alone o.none_blocked o.listens o.own o.listeners in (
      record {
        first = c.args.house.now;
        calls = [];
        hands = hands-none (H.state c.args.house.now).stands;
        before = (H.state c.args.house.now).recorded;
        policy = c.args.policy;
        pid = c.args.pid;
        start = (g.W.Wire.state c.args.wire.now).seen.recorded;
        given = 0;
        serving = start.0;
      },
      start.1,
    )

pub run-requires-clause-housed : goal.run-requires-clause-housed
run-requires-clause-housed g c = let o = c.requires.opened in housed-blank _ _ c.requires.blank o.server_alone o.own o.listeners

pub run-requires-clause-alone : goal.run-requires-clause-alone
run-requires-clause-alone g c = alone-blank _ c.requires.blank

pub returns-in-Ok-run-clause-kept : goal.returns-in-Ok-run-clause-kept
returns-in-Ok-run-clause-kept g c = let H = g.H.Asks in let r = c.requires in let o = r.opened in let e = c.in-Ok.ensures in
    let start = starts H.may (RestsOf H.state (H.state c.args.house.now).known.present c.args.house.now) (outside (H.state c.args.house.now).recorded (H.state c.args.house.now).known []) c.args.policy c.args.pid (g.W.Wire.state c.args.wire.now).seen c.in-Ok.engine
    e.stands e.policy e.pid e.nobody.clients e.nobody.refused (ap (λ (k : Known). k.asks) r.blank) refl refl refl o.server_alone o.none_blocked o.listens o.own o.listeners in
    c.in-Ok-run.ensures.ran (H.state c.args.house.now).recorded c.args.policy c.args.pid (g.W.Wire.state c.args.wire.now).seen.recorded start.0 start.1

pub returns-clause-kept : goal.returns-clause-kept
returns-clause-kept g c = let H = g.H.Asks in let r = c.requires in let o = r.opened in let e = c.in-Ok.ensures in
    let start = starts H.may (RestsOf H.state (H.state c.args.house.now).known.present c.args.house.now) (outside (H.state c.args.house.now).recorded (H.state c.args.house.now).known []) c.args.policy c.args.pid (g.W.Wire.state c.args.wire.now).seen c.in-Ok.engine
    e.stands e.policy e.pid e.nobody.clients e.nobody.refused (ap (λ (k : Known). k.asks) r.blank) refl refl refl o.server_alone o.none_blocked o.listens o.own o.listeners in
    c.in-Err.ensures.ran (H.state c.args.house.now).recorded c.args.policy c.args.pid (g.W.Wire.state c.args.wire.now).seen.recorded start.0 start.1

pub returns-in-Ok-run-clause-came : goal.returns-in-Ok-run-clause-came
returns-in-Ok-run-clause-came g c = let H = g.H.Asks in
    run-came (H.state c.args.house.now) (H.state c.run.new.house) _ _ c.args.turns _ _ _ _ _ c.in-Ok-run.ended _ _ (returns-in-Ok-run-clause-kept g c) (λ some. c.in-Ok-run.ensures.greets) c.in-Ok-run.ensures.ended.by_count

pub returns-clause-came : goal.returns-clause-came
returns-clause-came g c = λ silent. tt

pub returns-clause-ended : goal.returns-clause-ended
returns-clause-ended g c = ended-starved _ _ _ _ _ _

pub returns-in-Ok-run-clause-places : goal.returns-in-Ok-run-clause-places
returns-in-Ok-run-clause-places g c = let o = c.in-Ok-run.ensures.places in record { known = λ some. o.known refl; unopened = o.unopened }

pub returns-clause-places : goal.returns-clause-places
returns-clause-places g c = record { known = λ some. absurd (some refl); unopened = c.in-Err.ensures.places.unopened }
