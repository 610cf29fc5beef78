use Rattle.std.proofs.Common.{◌++◌, [], ◌∷◌, ◌∙◌, false, refl, sym, ap}
use Rattle.conf_command.proofs.PartLemmas.{parts-some, parted, in_part}
use Rattle.conf_command.proofs.forwardings.parts_of.Goals as goal
use Rattle.conf_command.proofs.forwardings.parts_of.Goals.{then-is_parting+in_ok-push, else-is_parting+in_ok-push-2}

pub loop-byte-init : goal.loop-byte-init
loop-byte-init c = rw (c.new-parts.ensures, c.new-part.ensures) (parts-some false c.args.value.now)

pub loop-byte-preserved : goal.loop-byte-preserved
loop-byte-preserved c =
    elim c.if-is_parting.branch [
      | then-is_parting+in_ok-push w ↦
          let more = w.in_ok-push.ensures.ok ∙ ap (λ p. c.loop-byte.parts ++ p ∷ []) w.replace.ensures.value in
          rw (w.parts-is, w.part-is, w.inside-is, w.replace.ensures.after, w.new.ensures)
          (parted c.args.value.now c.loop-byte.byte-index _ c.loop-byte.inside c.loop-byte.parts w.push.new.self c.loop-byte.part _ c.loop-byte-test.true refl (sym c.is_parting.ensures ∙ w.if-is_parting.true) more c.loop-byte.invariant)
      | else-is_parting+in_ok-push-2 w ↦
          rw (w.parts-is, w.part-is, w.inside-is)
          (in_part c.args.value.now c.loop-byte.byte-index _ c.loop-byte.inside w.is_inside-inside.result c.loop-byte.parts c.loop-byte.part w.push-else-is_parting.new.self _ c.loop-byte-test.true refl (sym c.is_parting.ensures ∙ w.if-is_parting.false) w.in_ok-push-2.ensures.ok w.is_inside-inside.ensures c.loop-byte.invariant)
    ]
