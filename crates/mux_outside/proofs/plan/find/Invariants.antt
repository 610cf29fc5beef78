use Rattle.std.proofs.Common.{◌≡◌, drop}
use Rattle.mux_outside.specs.Script.{is_given, cut_first, steps_from, from_first}
use Rattle.mux_outside.proofs.plan.find.Given as goal

abbrev pub invariant-loop-step : goal.invariant-loop-step
invariant-loop-step l =
    from_first (is_given l.state.seen) (cut_first l.offset (drop l.step l.steps))
    ≡ from_first (is_given l.state.seen) (steps_from l.steps l.fn.place)
