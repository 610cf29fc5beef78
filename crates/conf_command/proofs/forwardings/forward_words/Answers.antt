use Rattle.std.proofs.Common.{◌∙◌, ap, sym}
use Rattle.conf_command.specs.Parts.{ends_among}
use Rattle.conf_command.proofs.PartLemmas.{bad_words, good_words, same-ok}
use Rattle.conf_command.proofs.forwardings.forward_words.Goals as goal

pub returns-then-has_bad_part : goal.returns-then-has_bad_part
returns-then-has_bad_part c = bad_words c.args.one c.args.two c.args.value.now c.as_slice.result.now (c.as_slice.ensures ∙ c.in_ok-parts.ensures) (sym c.has_bad_part.ensures ∙ c.if-has_bad_part.true)

pub returns : goal.returns
returns c =
    let good = good_words c.args.one c.args.two c.args.value.now c.as_slice.result.now (c.as_slice.ensures ∙ c.in_ok-parts.ensures) (sym c.has_bad_part.ensures ∙ c.if-has_bad_part.false) in
    same-ok c.ends_among.result _ _ (ap (ends_among c.args.one c.args.two) (c.as_slice-2.ensures ∙ sym c.as_slice.ensures) ∙ good) c.ends_among.ensures
