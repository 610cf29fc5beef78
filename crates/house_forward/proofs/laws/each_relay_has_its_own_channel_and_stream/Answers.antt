use Rattle.house_forward.proofs.Owning.{channels-differ, channels-small, each-is-new, streams-are-theirs, streams-differ}
use Rattle.house_forward.proofs.laws.each_relay_has_its_own_channel_and_stream.Goals as goal

pub returns : goal.returns
returns c = record {
  channels = channels-differ;
  small = channels-small;
  streams = streams-are-theirs;
  new = each-is-new;
  apart = streams-differ;
}
