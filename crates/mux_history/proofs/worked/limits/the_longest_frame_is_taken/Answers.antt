-- The answer of the law.
use Rattle.mux_history.proofs.FullLists.{longest-frame}
use Rattle.mux_history.proofs.worked.limits.the_longest_frame_is_taken.Goals as goal

pub returns : goal.returns
returns c = longest-frame
