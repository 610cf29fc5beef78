use Rattle.std.proofs.Common.{◌≡◌, drop}
use Rattle.std.specs.List.{list_any}
use Rattle.conf_options.specs.Kept.{removes}
use Rattle.conf_options.proofs.patterns.some_removes.Given as goal

abbrev pub invariant-loop-pattern : goal.invariant-loop-pattern
invariant-loop-pattern l = list_any removes (drop l.pattern-index l.patterns) ≡ list_any removes l.patterns
