use Rattle.mux_core.proofs.Carried.{carries-pick}
use Rattle.mux_core.proofs.laws.taken_numbers_are_carried.Goals as goal

pub returns : goal.returns
returns c = carries-pick
