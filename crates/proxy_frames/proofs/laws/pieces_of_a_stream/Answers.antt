use Rattle.proxy_frames.proofs.Runs.{pieces-cut, pieces-same, any-time}
use Rattle.proxy_frames.proofs.laws.pieces_of_a_stream.Goals as goal

pub returns : goal.returns
returns c = record { cut = pieces-cut; same = pieces-same; any_time = any-time }
