use Rattle.house_forward.proofs.Closing.{closes-have-cause}
use Rattle.house_forward.proofs.laws.each_close_has_its_cause.Goals as goal

pub returns : goal.returns
returns c = closes-have-cause
