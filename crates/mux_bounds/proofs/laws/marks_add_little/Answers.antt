-- The rows of a mark add little.
use Rattle.mux_bounds.proofs.ServerQueue.{adds-at-once}
use Rattle.mux_bounds.proofs.laws.marks_add_little.Goals as goal

pub returns : goal.returns
returns c = adds-at-once
