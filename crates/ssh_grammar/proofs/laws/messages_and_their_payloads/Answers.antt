use Rattle.ssh_grammar.proofs.MessageReads.{reads_is_spelled}
use Rattle.ssh_grammar.proofs.MessageSpelled.{spelled_reads}
use Rattle.ssh_grammar.proofs.Renumbered.{no_payload_for_two}
use Rattle.ssh_grammar.proofs.laws.messages_and_their_payloads.Goals as goal

pub returns : goal.returns
returns c = record { spelled = reads_is_spelled; read_back = spelled_reads; no_two = no_payload_for_two }
