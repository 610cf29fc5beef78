use Rattle.std.proofs.lemmas.List.{take_rest}
use Rattle.conf_match.proofs.TailLemmas.{none_left}
use Rattle.conf_match.proofs.pieces.bracketed.Goals as goal

pub class_of-requires : goal.class_of-requires
class_of-requires c = rw (take_rest c.args.bytes.now 1) (none_left 1 c.args.tail c.args.bytes.now c.requires)
