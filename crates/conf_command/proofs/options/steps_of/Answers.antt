use Rattle.conf_command.proofs.WordLemmas.{one_word, no_word}
use Rattle.std.proofs.Common.{refl}
use Rattle.conf_command.proofs.options.steps_of.Goals as goal

pub loop-i-preserved : goal.loop-i-preserved
loop-i-preserved c =
    let steps = rw c.as_bytes.ensures at c.in_ok-next.ensures.steps in
    let next = rw c.as_bytes.ensures at c.in_ok-next.ensures.next in
    one_word c.args.words.now c.loop-i.i _ c.index-words-i.result _ _ _ _ _ c.loop-i-test.true c.index-words-i.is refl steps next c.loop-i.invariant

pub returns : goal.returns
returns c = no_word c.args.words.now c.loop-i.i _ _ _ _ _ c.loop-i-test.false c.in_ok-end_words.ensures c.loop-i.invariant
