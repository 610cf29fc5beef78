use Rattle.proxy_frames.proofs.Stands.{nothing-lost, switched-said}
use Rattle.proxy_frames.proofs.laws.switches_of_a_stream.Goals as goal

pub returns : goal.returns
returns c = record { left = nothing-lost; said = switched-said }
