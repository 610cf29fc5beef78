use Rattle.std.proofs.Common.{◌≡◌, ◌<◌, false, List, [], ◌∷◌, length, None, Result, refl, subst, arith, ap, ◌∙◌}
use Rattle.conf_rules.specs.declared.command.Command.{Command}
use Rattle.conf_rules.specs.Texts.{Bytes}
use Rattle.conf_rules.specs.Options.{Free}
use Rattle.conf_rules.specs.CommandLine.{ReadCommand, walked, walk_from, steps_from}
use Rattle.conf_rules.specs.Reading.{reading}
use Rattle.conf_command.specs.declared.reader.WordsError.{WordsError}
use Rattle.conf_command.specs.Results.{GivesCommand}
use Rattle.conf_command.proofs.reader.read_words.Goals as goal

-- no word at all
none : (words : List Bytes) → length words < 1 → walked (length words) (walk_from None false (steps_from 1 Free words)) ≡ reading words
unfolding reading steps_from
none [] low = refl
none (w ∷ ws) low = absurd (omega (arith, low))

same-reading : (r : Result Command WordsError) (a b : List Bytes) → a ≡ b → length a < 1 → GivesCommand r (walked (length a) (walk_from None false (steps_from 1 Free a))) → GivesCommand r (reading b)
same-reading r a b e low g = subst (λ (x : ReadCommand). GivesCommand r x) (none a low ∙ ap reading e) g

pub returns-in_default : goal.returns-in_default
returns-in_default c = record { exact = same-reading c.read_steps.result c.as_slice-words.result.now c.args.words.now c.as_slice-words.ensures c.in_default.len_below c.read_steps.ensures }
