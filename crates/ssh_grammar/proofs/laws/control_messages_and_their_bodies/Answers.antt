use Rattle.ssh_grammar.proofs.ControlReads.{reads_is_spelled}
use Rattle.ssh_grammar.proofs.ControlSpelled.{spelled_reads, no_body_for_two}
use Rattle.ssh_grammar.proofs.laws.control_messages_and_their_bodies.Goals as goal

pub returns : goal.returns
returns c = record { spelled = reads_is_spelled; read_back = spelled_reads; no_two = no_body_for_two }
