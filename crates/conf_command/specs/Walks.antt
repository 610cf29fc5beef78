-- One step of the walk over steps.
use Rattle.std.specs.Prelude.{Bool, true, false, if◌then◌else◌, List, ◌++◌, Option, Some, None, is_none}
use Rattle.conf_rules.specs.declared.usage.Usage.{Usage}
use Rattle.conf_rules.specs.declared.usage.Usage.TheVariants.{TwoModes, TwoDestinations, BadDestination}
use Rattle.conf_rules.specs.Options.{CommandMode, WordAct, Chooses, Connects, Permits, Sessions, Goes, Fails, WordStep}
use Rattle.conf_rules.specs.Destinations.{destination}
use Rattle.conf_rules.specs.CommandLine.{other_mode, Walk}
use Rattle.conf_command.specs.declared.walk.Walk.{Walk as TheWalk}

-- why a step is bad after this first mode, and after a destination or none
abbrev pub fault_of : Option CommandMode → Bool → WordAct → Option Usage
fault_of mode going (Fails cause) = Some cause
fault_of mode going (Chooses m) = if other_mode mode m then Some TwoModes else None
fault_of mode going (Goes to) = if going then Some TwoDestinations
    else (if is_none (destination to) then Some BadDestination else None)
fault_of mode going act = None

-- the mode that a step names
abbrev pub mode_in : WordAct → Option CommandMode
mode_in (Chooses m) = Some m
mode_in act = None

-- the first mode after a step
abbrev pub mode_behind : Option CommandMode → WordAct → Option CommandMode
mode_behind (Some first) act = Some first
mode_behind None act = mode_in act

-- whether there is a destination after a step
abbrev pub going_behind : Bool → WordAct → Bool
going_behind going (Goes to) = true
going_behind going act = going

-- whether a step is an option of the master
abbrev pub is_of_master : WordAct → Bool
is_of_master (Connects transport) = true
is_of_master (Permits list word entry) = true
is_of_master (Sessions may) = true
is_of_master act = false

-- a walk, without where its steps lie
abbrev pub walk_of : TheWalk → Walk
walk_of walk = record { sound = walk.sound.now; fault = walk.fault }

-- sound steps before others
abbrev pub behind_sound : List WordStep → Walk → Walk
behind_sound steps walk = record { sound = steps ++ walk.sound; fault = walk.fault }
