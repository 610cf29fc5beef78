-- A frame that is spelled as an answer is that answer.
use Rattle.std.proofs.Common.{◌≡◌, List, ℕ, ap, ◌∙◌}
use Rattle.ssh_grammar.specs.declared.framing.Framing.TheVariants as framing
use Rattle.ssh_grammar.specs.Control.{Answer}
use Rattle.ssh_grammar.specs.SpellControl.{spell_answer}
use Rattle.ssh_grammar.specs.ReadAnswer.{IsAnswer}
use Rattle.ssh_grammar.specs.Frames.{frame_answer, cut}
use Rattle.ssh_grammar.specs.IsFrame.{IsContent}
use Rattle.ssh_grammar.proofs.AnswerReads.{answer_reads, answer_cut}
use Rattle.mux_messages.specs.Frames.{Says}

pub says : (bytes : List ℕ) (answer : Answer) → IsAnswer answer → IsContent framing.Control (spell_answer answer) → bytes ≡ frame_answer answer → Says bytes answer
says bytes answer is content spelled = record {
  whole = ap (cut framing.Control) spelled ∙ answer_cut answer content;
  reads = answer_reads answer is;
}
