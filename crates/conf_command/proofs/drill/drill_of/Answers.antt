use Rattle.std.proofs.Common.{◌≡◌, ◌<◌, List, [], ◌∷◌, length, refl, arith}
use Rattle.conf_rules.specs.declared.usage.Usage.TheVariants.{NoValue}
use Rattle.conf_rules.specs.Texts.{Bytes}
use Rattle.conf_rules.specs.CommandLine.{refused_word}
use Rattle.conf_rules.specs.Reading.{drill_of}
use Rattle.conf_command.proofs.drill.drill_of.Goals as goal

few : (words : List Bytes) → length words < 3 → refused_word 1 NoValue ≡ drill_of words
unfolding drill_of
few [] low = refl
few (a ∷ []) low = refl
few (a ∷ b ∷ []) low = refl
few (a ∷ b ∷ c ∷ ws) low = absurd (omega (arith, low))

pub returns-in_default : goal.returns-in_default
returns-in_default c = few c.args.words.now c.in_default.len_below
