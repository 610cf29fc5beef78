use Rattle.ssh_grammar.proofs.AnswerReads.{answer_reads, no_body_for_two}
use Rattle.ssh_grammar.proofs.laws.answers_and_their_bodies.Goals as goal

pub returns : goal.returns
returns c = record { read_back = answer_reads; no_two = no_body_for_two }
