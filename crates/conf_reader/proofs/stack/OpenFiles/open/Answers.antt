use Rattle.std.proofs.Common.{[], refl, arith}
use Rattle.conf_reader.proofs.RefusalLemmas.{moves-deep, moves-large, holds-names}
use Rattle.conf_reader.proofs.ToReadLemmas.{names-map}
use Rattle.conf_reader.proofs.stack.OpenFiles.open.Goals as goal

pub returns-then-len-lt-MAX_DEPTH-clause-moves : goal.returns-then-len-lt-MAX_DEPTH-clause-moves
returns-then-len-lt-MAX_DEPTH-clause-moves c = λ recorded place blocks names.
    moves-large recorded place blocks c.args.self.now [] c.too_large.result c.args.self.now.top refl c.requires.some c.requires.named (omega arith) (rw c.in-TooLarge.is at names) c.too_large.ensures

pub returns-else-len-lt-MAX_DEPTH-clause-moves : goal.returns-else-len-lt-MAX_DEPTH-clause-moves
returns-else-len-lt-MAX_DEPTH-clause-moves c = λ recorded place blocks names.
    moves-deep recorded place blocks c.args.self.now [] c.args.found c.refusal.result c.args.self.now.top refl c.requires.some c.requires.named (let k = c.requires.ready.few in omega (arith, k)) (λ e. let k = c.in-TooLarge.is in cc) names c.refusal.ensures

pub returns-else-len-lt-MAX_DEPTH-2-clause-moves : goal.returns-else-len-lt-MAX_DEPTH-2-clause-moves
returns-else-len-lt-MAX_DEPTH-2-clause-moves c = λ recorded place blocks names.
    moves-deep recorded place blocks c.args.self.now [] c.args.found c.refusal-else-len-lt-MAX_DEPTH-2.result c.args.self.now.top refl c.requires.some c.requires.named (let k = c.requires.ready.few in omega (arith, k)) (λ e. let k = c.in-Holds.is in cc) names c.refusal-else-len-lt-MAX_DEPTH-2.ensures

pub returns-in_ok-enter-in-Holds-clause-moves : goal.returns-in_ok-enter-in-Holds-clause-moves
returns-in_ok-enter-in-Holds-clause-moves c = λ recorded place blocks names.
    let h = holds-names recorded c.in-Holds.text c.args.self.now.top c.requires.some c.requires.named (rw c.in-Holds.is at names) in
    c.in_ok-enter-in-Holds.ensures.left recorded place blocks h.0 h.1

pub returns-in-Nothing-clause-reads : goal.returns-in-Nothing-clause-reads
returns-in-Nothing-clause-reads c = λ recorded. names-map c.args.self.now.top _ _ (λ path reads found. reads (rw c.in-Nothing.is at found)) (c.skip.ensures.reads recorded)

pub returns-in_ok-enter-in-Holds-clause-reads : goal.returns-in_ok-enter-in-Holds-clause-reads
returns-in_ok-enter-in-Holds-clause-reads c = λ recorded. names-map c.args.self.now.top _ _ (λ path reads found. reads (rw c.in-Holds.is at found).0) (c.in_ok-enter-in-Holds.ensures.reads recorded)
