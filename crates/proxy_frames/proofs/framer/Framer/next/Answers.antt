use Rattle.std.proofs.Common.{arith, ap}
use Rattle.std.proofs.lemmas.Grind.{common_steps}
use Rattle.proxy_frames.specs.State.{FramerState}
use Rattle.proxy_frames.proofs.Goes.{next-stands}
use Rattle.proxy_frames.proofs.Records.{more-wanted, fault-had, rest-bytes}
use Rattle.proxy_frames.proofs.framer.Framer.next.Goals as goal

pub returns-in-Frame-clause-stands : goal.returns-in-Frame-clause-stands
returns-in-Frame-clause-stands c =
    next-stands c.args.self.now _ (rest-bytes c.self.inside.bytes.items c.deref.result.now c.self.inside.at c.args.self.now (ap (λ (f : FramerState). f.rest) c.self.view_is) c.deref.ensures.value c.first_frame.ensures.bytes) (grind (arith, common_steps))

pub returns-in-More-clause-more : goal.returns-in-More-clause-more
returns-in-More-clause-more c = more-wanted c.args.self.now _ (grind (arith, common_steps))

pub returns-in-Bad-clause-fault : goal.returns-in-Bad-clause-fault
returns-in-Bad-clause-fault c = fault-had c.args.self.now _ (grind (arith, common_steps))
