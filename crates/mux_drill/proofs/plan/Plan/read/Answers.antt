use Rattle.std.proofs.Common.{◌≡◌, ◌∙◌, sym, ap, subst, ℕ, List, Option, IfSome}
use Rattle.conf_rules.specs.Reading.{drill_of}
use Rattle.conf_rules.specs.Texts.{split_at_each}
use Rattle.mux_drill.specs.Plan.{IsPlan, plan_in, plan_of}
use Rattle.mux_drill.specs.declared.plan.Plan.{Plan}
use Rattle.mux_drill.proofs.PlanLemmas.{plan_sound}
use Rattle.mux_drill.proofs.plan.Plan.read.Goals as goal

-- the plan is that of the text
is_plan_of : (text : List ℕ) (words slice : List (List ℕ)) (plan : Option Plan) → words ≡ split_at_each 32 text
    → slice ≡ words → plan ≡ plan_in (drill_of slice) → plan ≡ plan_of text
unfolding plan_of
is_plan_of text words slice plan split same is = is ∙ ap (λ (ws : List (List ℕ)). plan_in (drill_of ws)) (same ∙ split)

pub returns-clause-exact : goal.returns-clause-exact
returns-clause-exact c =
    is_plan_of c.args.text.now c.in_ok-words.words.items c.as_slice.result.now _ c.in_ok-words.ensures c.as_slice.ensures.value
    (c.plan_in-plan.ensures ∙ ap plan_in c.drill_of-command.ensures)

pub returns-clause-sound : goal.returns-clause-sound
returns-clause-sound c =
    let is = is_plan_of c.args.text.now c.in_ok-words.words.items c.as_slice.result.now c.plan_in-plan.result c.in_ok-words.ensures c.as_slice.ensures.value
    (c.plan_in-plan.ensures ∙ ap plan_in c.drill_of-command.ensures) in
    let P : Option Plan → Type 0 = λ plan. IfSome plan IsPlan in
    subst P (sym is) (plan_sound c.args.text.now)
