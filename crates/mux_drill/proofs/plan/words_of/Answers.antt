use Rattle.std.proofs.Common.{◌+◌, get_or, drop}
use Rattle.std.proofs.lemmas.List.{drop_more}
use Rattle.mux_drill.proofs.WordLemmas.{onto_nothing, at_space, at_byte}
use Rattle.mux_drill.proofs.plan.words_of.Goals as goal
use Rattle.mux_drill.proofs.plan.words_of.Goals.{then-byte-eq32+in_ok-push, else-byte-eq32+in_ok-push-2}

pub loop-byte-init : goal.loop-byte-init
loop-byte-init c = rw (c.new-words.ensures.items, c.new-word.ensures) (onto_nothing c.args.text.now)

pub loop-byte-preserved : goal.loop-byte-preserved
loop-byte-preserved c =
    let here = drop_more c.args.text.now c.loop-byte.byte-index 0 c.loop-byte-test.true in
    let byte = get_or c.args.text.now c.loop-byte.byte-index 0 in
    let rest = drop (c.loop-byte.byte-index + 1) c.args.text.now in
    elim c.if-byte-eq32.branch [
      | then-byte-eq32+in_ok-push w ↦
          cc (at_space c.loop-byte.words.items c.loop-byte.word byte rest w.if-byte-eq32.true, here, c.loop-byte.invariant, w.in_ok-push.ensures.items)
      | else-byte-eq32+in_ok-push-2 w ↦
          cc (at_byte c.loop-byte.words.items c.loop-byte.word byte rest w.if-byte-eq32.false, here, c.loop-byte.invariant, w.in_ok-push-2.ensures.ok)
    ]
