use Rattle.std.proofs.Common.{◌≡◌, take}
use Rattle.conf_rules.specs.Texts.{lower}
use Rattle.conf_fold.proofs.entries.lowered.Given as goal

abbrev pub invariant-loop-byte : goal.invariant-loop-byte
invariant-loop-byte l = l.out ≡ lower (take l.byte-index l.text)
