use Rattle.proxy_frames.proofs.Prefixes.{more-prefix}
use Rattle.proxy_frames.proofs.Records.{more-partial, fault-recorded, fault-stays}
use Rattle.proxy_frames.proofs.laws.fronts_of_a_stream.Goals as goal

pub returns : goal.returns
returns c = record { more = more-partial; prefix = more-prefix; fault = fault-recorded; stays = fault-stays }
