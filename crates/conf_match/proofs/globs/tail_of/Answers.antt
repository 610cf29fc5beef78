use Rattle.conf_match.proofs.TailLemmas.{none_behind, none_anywhere}
use Rattle.conf_match.proofs.globs.tail_of.Goals as goal

pub returns-then-pattern-i-eq93 : goal.returns-then-pattern-i-eq93
returns-then-pattern-i-eq93 c = none_behind c.loop-i.i c.args.pattern.now c.loop-i.invariant.within c.loop-i.invariant.none

pub returns : goal.returns
returns c = none_anywhere c.loop-i.i c.args.pattern.now c.loop-i-test.false c.loop-i.invariant.none
