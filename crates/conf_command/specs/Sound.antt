-- What a sound step gives to the command.
use Rattle.std.specs.Prelude.{Option, Some, None}
use Rattle.conf_rules.specs.declared.asked.ConfigFrom.{ConfigFrom}
use Rattle.conf_rules.specs.Texts.{Bytes}
use Rattle.conf_rules.specs.Options.{WordAct, Reads, Connects, Goes}
use Rattle.conf_rules.specs.Destinations.{destination}
use Rattle.conf_rules.specs.CommandLine.{host_or}

-- the files that are read after a step
abbrev pub from_at : ConfigFrom → WordAct → ConfigFrom
from_at other (Reads from) = from
from_at other act = other

-- the transport after a step
abbrev pub transport_at : Option Bytes → WordAct → Option Bytes
transport_at other (Connects transport) = Some transport
transport_at other act = other

-- the host to which a step goes
abbrev pub step_host_at : WordAct → Option Bytes
step_host_at (Goes to) = host_or None (destination to)
step_host_at act = None
