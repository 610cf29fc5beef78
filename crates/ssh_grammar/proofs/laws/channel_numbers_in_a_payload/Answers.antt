use Rattle.ssh_grammar.proofs.Renumbered.{numbers_stand, recipient_is_replaced, sender_is_replaced}
use Rattle.ssh_grammar.proofs.laws.channel_numbers_in_a_payload.Goals as goal

pub returns : goal.returns
returns c = record { stand = numbers_stand; recipient = recipient_is_replaced; sender = sender_is_replaced }
