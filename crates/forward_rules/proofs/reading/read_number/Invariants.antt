use Rattle.std.proofs.Common.{◌≡◌, ◌≤◌, drop}
use Rattle.mux_history.specs.Policy.{digits}
use Rattle.forward_rules.proofs.reading.read_number.Given as goal

abbrev pub invariant-loop-b : goal.invariant-loop-b
invariant-loop-b l = record {
  rest : digits 0 l.text ≡ digits l.number (drop l.b-index l.text);
  small : l.number ≤ 65535;
}
