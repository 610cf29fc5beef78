use Rattle.house_forward.proofs.Ending.{each-unlisten, each-cancel, each-cancel-reply}
use Rattle.house_forward.proofs.laws.what_is_closed_was_asked_to_close.Goals as goal

pub returns : goal.returns
returns c = record { listeners = each-unlisten; cancels = each-cancel; replies = each-cancel-reply }
