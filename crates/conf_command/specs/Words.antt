-- The effect of one word.
use Rattle.std.specs.Prelude.{ℕ, List, [], ◌∷◌}
use Rattle.conf_rules.specs.declared.usage.Usage.TheVariants.{NoValue}
use Rattle.conf_rules.specs.Texts.{Bytes}
use Rattle.conf_rules.specs.Options.{Goes, Fails, WordStep, step, NextWord, Free, Ended, ValueOf, Steps, these_steps, steps_of_option}
use Rattle.conf_rules.specs.CommandLine.{free_word}

-- the steps of a word by what it is, and what the next one is
abbrev pub word_steps : ℕ → NextWord → Bytes → Steps
word_steps at Free word = free_word at word
word_steps at Ended word = record { steps = step at (Goes word) ∷ []; next = Ended }
word_steps at (ValueOf here takes) word = these_steps (steps_of_option takes here at word)

-- what the end does where it stands in the place of such a word
abbrev pub end_steps : NextWord → List WordStep
end_steps (ValueOf here takes) = step here (Fails NoValue) ∷ []
end_steps next = []
