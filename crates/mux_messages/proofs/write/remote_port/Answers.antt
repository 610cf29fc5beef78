use Rattle.std.proofs.Common.{arith, refl}
use Rattle.ssh_grammar.specs.Control.{RemotePort}
use Rattle.mux_messages.proofs.Answers.{says}
use Rattle.mux_messages.proofs.write.remote_port.Goals as goal

pub returns-clause-read_back : goal.returns-clause-read_back
returns-clause-read_back c = says _ (RemotePort c.args.id c.args.port) (c.ranges.id.fits, c.ranges.port.fits) (omega arith, omega arith) (rw (c.push_u32-2.ensures, c.push_u32.ensures, c.header-frame.ensures) refl)
