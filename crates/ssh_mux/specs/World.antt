-- What all that a run is handed shows at a moment.
use Rattle.std.specs.Prelude.{ℕ, List, Option}
use Rattle.conf_resolve.specs.Faults.{FailedPaths}
use Rattle.conf_resolve.specs.Readings.{Readings}
use Rattle.conf_rules.specs.Texts.{Bytes}
use Rattle.mux_outside.specs.declared.files.Files.{Ghosts as TheFiles}
use Rattle.mux_outside.specs.declared.house.Asks.{Ghosts as TheAsks}
use Rattle.mux_outside.specs.declared.pairs.Pair.{Pair}
use Rattle.mux_outside.specs.declared.runner.Runner.{Ghosts as TheRunner}
use Rattle.mux_outside.specs.declared.sink.Sink.{Ghosts as TheSink}
use Rattle.mux_outside.specs.declared.statuses.CommandStatus.{CommandStatus}
use Rattle.mux_outside.specs.declared.wire.Wire.{Ghosts as TheWire}
use Rattle.mux_outside.specs.Faults.{Faults}
use Rattle.mux_outside.specs.House.{HouseState}
use Rattle.mux_outside.specs.WireState.{WireState}

-- ---- files and commands

-- the paths and contents of all files, if they are recorded; which were read, each with its limit;
-- the paths that failed; and how often one did
pub record WorldFiles : Type 0 where
  pub recorded : Option (List Pair)
  pub readings : Readings
  pub failed : FailedPaths
  pub faults : ℕ

-- how commands end, if this is recorded; which were run; and how often one could not be
pub record CommandsState : Type 0 where
  pub recorded : Option (List CommandStatus)
  pub ran : Option (List Bytes)
  pub faults : ℕ

-- what the settings come from
pub record Sources : Type 0 where
  pub files : WorldFiles
  pub commands : CommandsState

-- that of these files, and of commands that this runner runs
abbrev pub sources : {F R : Type 0} → TheFiles F → TheRunner R → F → R → Sources
sources f r files runner = record {
  files = record {
    recorded = f.recorded files;
    readings = f.readings files;
    failed = f.failed files;
    faults = f.faults files;
  };
  commands = record { recorded = r.recorded runner; ran = r.ran runner; faults = r.faults runner };
}

-- ---- a wire and a forwarder

-- the wire, how often something failed at it, and the forwarder
pub record Sockets : Type 1 where
  pub wire : WireState
  pub faults : Faults
  pub house : HouseState

abbrev pub sockets : {W H : Type 0} → TheWire W → TheAsks H → W → H → Sockets
sockets w h wire house =
    record { wire = w.state wire; faults = w.faults wire; house = h.state house }

-- ---- outputs

-- what an output accepted, if it is recorded; how often bytes were handed to it; and how often that
-- failed
pub record OutState : Type 0 where
  pub recorded : Option (List ℕ)
  pub puts : ℕ
  pub faults : ℕ

abbrev pub output : {S : Type 0} → TheSink S → S → OutState
output s sink = record { recorded = s.recorded sink; puts = s.puts sink; faults = s.faults sink }

-- ---- all of it

pub record World : Type 1 where
  pub wire : WireState
  pub faults : Faults
  pub house : HouseState
  pub files : WorldFiles
  pub commands : CommandsState
  pub out : OutState
  pub err : OutState

abbrev pub world : Sockets → Sources → OutState → OutState → World
world sockets sources out err = record {
  wire = sockets.wire;
  faults = sockets.faults;
  house = sockets.house;
  files = sources.files;
  commands = sources.commands;
  out = out;
  err = err;
}
