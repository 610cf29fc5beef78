use Rattle.std.proofs.Common.{◌≡◌, drop}
use Rattle.mux_history.specs.Policy.{is_mark}
use Rattle.mux_history.specs.Rows.{any_of}
use Rattle.forward_rules.proofs.reading.has_mark.Given as goal

abbrev pub invariant-loop-b : goal.invariant-loop-b
invariant-loop-b l = any_of is_mark l.text ≡ any_of is_mark (drop l.b-index l.text)
