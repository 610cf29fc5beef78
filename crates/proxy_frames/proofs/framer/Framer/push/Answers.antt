use Rattle.std.proofs.Common.{arith}
use Rattle.std.proofs.lemmas.Grind.{common_steps}
use Rattle.proxy_frames.proofs.Goes.{push-stands}
use Rattle.proxy_frames.proofs.framer.Framer.push.Goals as goal

pub returns-clause-stands : goal.returns-clause-stands
returns-clause-stands c = push-stands c.args.self.now _ c.args.piece.now (grind (arith, common_steps))
