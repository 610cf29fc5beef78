use Rattle.conf_match.proofs.GlobLemmas.{class_there}
use Rattle.conf_match.proofs.TailLemmas.{none_closed}
use Rattle.conf_match.proofs.pieces.class_of.Goals as goal

pub returns-clause-class : goal.returns-clause-class
returns-clause-class c = class_there c.args.bytes.now c.in_ok-behind.field-0-0 c.in_ok-behind.behind.now c.in_ok-inner.inner.now c.in_ok-inner.field-0-1.now c.in_ok-behind.ensures c.in_ok-inner.ensures.parts

pub returns-then-bytes-tail-clause-class : goal.returns-then-bytes-tail-clause-class
returns-then-bytes-tail-clause-class c = none_closed c.args.tail c.args.bytes.now c.requires c.if-bytes-tail.true
