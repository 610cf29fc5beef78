-- The server's queue is bounded.
use Rattle.mux_bounds.proofs.ServerQueue.{stays-below}
use Rattle.mux_bounds.proofs.laws.server_queue_is_bounded.Goals as goal

pub returns : goal.returns
returns c = stays-below
