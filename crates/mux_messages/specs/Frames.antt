-- Whole frames of answers.
use Rattle.std.specs.Prelude.{◌≡◌, ℕ, List, [], ◌∷◌, Some, None}
use Rattle.ssh_grammar.specs.declared.framing.Framing.TheVariants as framing
use Rattle.ssh_grammar.specs.Control.{Answer}
use Rattle.ssh_grammar.specs.SpellControl.{spell_answer}
use Rattle.ssh_grammar.specs.ReadAnswer.{read_answer}
use Rattle.ssh_grammar.specs.Frames.{cut}

-- the bytes are one control frame, and its body reads as the answer
pub record Says (bytes : List ℕ) (answer : Answer) : Type 0 where
  pub whole : cut framing.Control bytes ≡ record {
    frames = spell_answer answer ∷ [];
    rest = [];
    fault = None;
  }
  pub reads : read_answer (spell_answer answer) ≡ Some answer
