use Rattle.std.proofs.Common.{◌≡◌, ◌++◌, false, drop}
use Rattle.conf_rules.specs.Options.{parts_from}
use Rattle.conf_command.specs.Parts.{onto_first_part}
use Rattle.conf_command.proofs.forwardings.parts_of.Given as goal

abbrev pub invariant-loop-byte : goal.invariant-loop-byte
invariant-loop-byte l = l.parts ++ onto_first_part l.part (parts_from l.inside (drop l.byte-index l.value)) ≡ parts_from false l.value
