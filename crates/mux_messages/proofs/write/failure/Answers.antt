use Rattle.std.proofs.Common.{◌≡◌, ◌+◌, ◌++◌, length, arith, ap}
use Rattle.ssh_fields.specs.Fields.{u32}
use Rattle.ssh_grammar.specs.Control.{Failed}
use Rattle.ssh_grammar.specs.SpellControl.{spell_answer}
use Rattle.mux_messages.proofs.Answers.{says}
use Rattle.mux_messages.proofs.write.failure.Goals as goal

pub returns-clause-read_back : goal.returns-clause-read_back
returns-clause-read_back c =
    let size : 12 + length c.args.reason.now ≡ length (spell_answer (Failed c.args.id c.args.reason.now)) = omega arith in
    says _ (Failed c.args.id c.args.reason.now) (c.ranges.id.fits, omega arith) (omega arith, omega arith)
    (rw (c.push_string.ensures, c.push_u32.ensures, c.header-frame.ensures) (ap (λ n. u32 n ++ spell_answer (Failed c.args.id c.args.reason.now)) size))
