use Rattle.proxy_frames.proofs.Stands.{cut-joined}
use Rattle.proxy_frames.proofs.laws.frames_that_were_queued.Goals as goal

pub returns : goal.returns
returns c = record { cut = cut-joined }
