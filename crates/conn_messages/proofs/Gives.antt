-- What a reader returned, where it is what the grammar gives.
use Rattle.std.proofs.Common.{ℕ, List, Result, Ok, Err, IfOk, subst}
use Rattle.ssh_fields.specs.Fields.{AreBytes}
use Rattle.ssh_grammar.specs.declared.fault.Bad.{Bad}
use Rattle.ssh_grammar.specs.Messages as grammar
use Rattle.ssh_grammar.specs.ReadMessage.{read_message}
use Rattle.ssh_grammar.specs.IsMessage.{Spells}
use Rattle.ssh_grammar.proofs.MessageReads.{reads_is_spelled}
use Rattle.ssh_grammar.proofs.MessageSpelled.{spelled_reads}
use Rattle.conn_messages.specs.declared.message.Message.{Message}
use Rattle.ssh_grammar.specs.Gives.{Gives}
use Rattle.conn_messages.specs.Message.{message_of}

pub is_spelled : (p : List ℕ) (r : Result Message Bad) → AreBytes p → Gives message_of r (read_message p) → IfOk r (λ m. Spells (message_of m) p)
is_spelled p (Ok m) h gives = subst (λ r. IfOk r (λ m. Spells m p)) gives (reads_is_spelled p h)
is_spelled p (Err e) h gives = tt

pub is_read : (p : List ℕ) (r : Result Message Bad) → Gives message_of r (read_message p) → (m : grammar.Message) → Spells m p → Gives message_of r (Ok m)
is_read p r gives m is = subst (Gives message_of r) (spelled_reads m p is) gives
