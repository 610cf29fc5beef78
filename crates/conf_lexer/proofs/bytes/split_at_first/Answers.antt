use Rattle.std.proofs.Common.{◌+◌}
use Rattle.std.proofs.lemmas.List.{take_rest}
use Rattle.conf_lexer.proofs.Places.{no_place, at_place}
use Rattle.conf_lexer.proofs.bytes.split_at_first.Goals as goal

pub returns-in_err-i-clause-parts : goal.returns-in_err-i-clause-parts
returns-in_err-i-clause-parts c = rw c.from_residual.ensures (no_place c.args.byte c.args.bytes.now c.in_err-i.ensures.place)

pub returns-clause-parts : goal.returns-clause-parts
returns-clause-parts c = rw (take_rest c.args.bytes.now (c.in_ok-i.i + 1)) (at_place c.args.byte c.in_ok-i.i c.args.bytes.now c.in_ok-i.ensures.place)
