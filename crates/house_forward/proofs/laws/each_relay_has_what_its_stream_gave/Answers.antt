use Rattle.house_forward.proofs.Streaming.{each-has-its-stream}
use Rattle.house_forward.proofs.laws.each_relay_has_what_its_stream_gave.Goals as goal

pub returns : goal.returns
returns c = each-has-its-stream
