use Rattle.std.proofs.Common.{◌≡◌, drop}
use Rattle.mux_outside.specs.Runner.{runner_status_of}
use Rattle.mux_outside.proofs.map_runner.runner_status_of.Given as goal

abbrev pub invariant-loop-known : goal.invariant-loop-known
invariant-loop-known l = runner_status_of (drop l.known-index l.statuses) l.command ≡ runner_status_of l.statuses l.command
