-- The answer of the law.
use Rattle.mux_history.proofs.Wires.{wire-keeps}
use Rattle.mux_history.proofs.laws.journals_of_wires_are_lawful.Goals as goal

pub returns : goal.returns
returns c = wire-keeps
