use Rattle.std.proofs.Common.{sym, ap, ◌∙◌, arith}
use Rattle.conf_rules.specs.Keys.{key_place}
use Rattle.conf_options.specs.Kept.{Given}
use Rattle.conf_options.proofs.ChangeLemmas.{stands, more-before}
use Rattle.conf_options.proofs.settings.place_of.Goals as goal

pub returns-then-place-clause-found : goal.returns-then-place-clause-found
returns-then-place-clause-found c =
    stands c.args.all.now c.loop-i.i c.args.key c.index-all-i.result (omega arith) (sym c.index-all-i.is)
    (sym c.place.ensures ∙ (c.if-place.true ∙ (c.place-in-loop-i.ensures ∙ ap (λ (g : Given). key_place g.0) (sym c.index-all-i.is)))) c.loop-i.invariant

pub loop-i-preserved : goal.loop-i-preserved
loop-i-preserved c =
    more-before c.args.all.now c.loop-i.i c.args.key c.index-all-i.result (omega arith) (sym c.index-all-i.is)
    (λ e. c.if-place.false (c.place.ensures ∙ (e ∙ (ap (λ (g : Given). key_place g.0) c.index-all-i.is ∙ sym c.place-in-loop-i.ensures)))) c.loop-i.invariant
