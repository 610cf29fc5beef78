use Rattle.std.proofs.Common.{rules}
use Rattle.mux_client.proofs.answer.reason.Goals as goal

pub returns-then-is_empty : goal.returns-then-is_empty
returns-then-is_empty c = λ answer. (c.in_ok-take_string.field-0.now, search rules)
