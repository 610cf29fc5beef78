-- What the master's own forwardings begin with, by the settings (ssh_config(5): LocalForward,
-- RemoteForward, DynamicForward, ClearAllForwardings, GatewayPorts, ExitOnForwardFailure).
use Rattle.std.specs.Prelude.{◌≡◌, ℕ, Bool, true, false, ◌||◌, if◌then◌else◌, List, [], ◌∷◌, ◌++◌, flat_map, Option, Some, None, IsTrue}
use Rattle.conf_options.specs.Kept.{Given, KeepsSettings, first_value}
use Rattle.conf_rules.specs.declared.key.Key.{Key}
use Rattle.conf_rules.specs.declared.key.Key.TheVariants.{ClearAllForwardings, DynamicForward, ExitOnForwardFailure, GatewayPorts, LocalForward, RemoteForward}
use Rattle.conf_rules.specs.declared.value.End.{End}
use Rattle.conf_rules.specs.declared.value.End.TheVariants.{Path, Port}
use Rattle.conf_rules.specs.declared.value.Forward.{Forward}
use Rattle.conf_rules.specs.declared.value.Value.{Value}
use Rattle.conf_rules.specs.declared.value.Value.TheVariants as values
use Rattle.conf_rules.specs.Listing.{is_set}
use Rattle.conf_rules.specs.Resolution.{all_rows}
use Rattle.conf_rules.specs.Rows.{LineRow, given, value, values, values_among}
use Rattle.conf_rules.specs.Recorded.{Recorded}
use Rattle.mux_engine.specs.Sides.{HouseWaits, Knows, OwnWaitedFor, Resting}
use Rattle.mux_outside.specs.House.{HouseState}
use Rattle.mux_outside.specs.HouseCalls.{Begins, HouseCall}
use Rattle.mux_outside.specs.declared.start_ask.StartAsk.{StartAsk}
use Rattle.mux_outside.specs.declared.starts.ListenPermit.{ListenPermit}
use Rattle.mux_outside.specs.declared.starts.Starts.{Starts}
use Rattle.ssh_mux.specs.declared.asks.AskedEnd.{AskedEnd}
use Rattle.ssh_mux.specs.declared.status.Status.{Status}
use Rattle.ssh_mux.specs.declared.status.Status.TheVariants.{Memory}
use Rattle.ssh_mux.specs.Asks.{forward_kind_of_key, host_or_empty}

-- ---- a forwarding

-- no end: an empty host and port 0
abbrev pub no_end : AskedEnd
no_end = record { host = []; port = 0 }

-- the host and port of an end; a path has neither
abbrev pub asked_end_of : End → AskedEnd
asked_end_of (Path path) = no_end
asked_end_of (Port host port) = record { host = host_or_empty host; port = port }

-- the same of the end that is connected to, which a dynamic forwarding hasn't
abbrev pub connect_of : Option End → AskedEnd
connect_of None = no_end
connect_of (Some end) = asked_end_of end

-- whether an end is a path
abbrev pub is_path_end : End → Bool
is_path_end (Path path) = true
is_path_end (Port host port) = false

-- whether a path is connected to
abbrev pub connects_path : Option End → Bool
connects_path None = false
connects_path (Some end) = is_path_end end

-- a forwarding as the settings ask for it
abbrev pub asked_start_of : ℕ → Forward → StartAsk
asked_start_of kind f = record {
  kind = kind;
  listen_host = (asked_end_of f.listen).host;
  listen_port = (asked_end_of f.listen).port;
  connect_host = (connect_of f.connect).host;
  connect_port = (connect_of f.connect).port;
  path = is_path_end f.listen || connects_path f.connect;
}

-- ---- the settings

-- the forwarding of a value
abbrev pub value_starts : ℕ → Value → List StartAsk
value_starts kind (values.Forward f) = asked_start_of kind f ∷ []
value_starts kind value = []

-- the forwardings of a key, in the order of its values
abbrev pub key_starts : Key → List Given → List StartAsk
key_starts key settings = flat_map (value_starts (forward_kind_of_key key)) (values_among key settings)

-- local forwardings, remote and dynamic ones in this order; none where all are cleared
abbrev pub start_asks : List Given → List StartAsk
start_asks settings = if is_set (first_value ClearAllForwardings settings) then []
    else key_starts LocalForward settings ++ key_starts RemoteForward settings
    ++ key_starts DynamicForward settings

-- what the settings ask for at the start, whether other machines may connect to local forwardings,
-- whether the run ends where a forwarding can't be set up, and where forwardings may listen
abbrev pub starts_for : ListenPermit → List Given → Starts
starts_for here settings = record {
  asks = start_asks settings;
  gateway = is_set (first_value GatewayPorts settings);
  must = is_set (first_value ExitOnForwardFailure settings);
  here = here;
}

-- ---- what is due by the rows

-- the forwardings of a key
abbrev pub key_due : Key → List LineRow → List StartAsk
key_due key rows = flat_map (value_starts (forward_kind_of_key key)) (values key rows)

-- local forwardings, remote and dynamic ones in this order; none where all are cleared
abbrev pub asks_due : List LineRow → List StartAsk
asks_due rows = if is_set (value ClearAllForwardings rows) then []
    else key_due LocalForward rows ++ key_due RemoteForward rows ++ key_due DynamicForward rows

abbrev pub starts_due : ListenPermit → List LineRow → Starts
starts_due here rows = record {
  asks = asks_due rows;
  gateway = is_set (value GatewayPorts rows);
  must = is_set (value ExitOnForwardFailure rows);
  here = here;
}

-- what a forwarder begins with is what the rows of all that is recorded ask for, if this is known
abbrev pub StartsAs : ListenPermit → Option Recorded → Starts → Type 0
StartsAs here None starts = Unit
StartsAs here (Some recorded) starts = starts ≡ starts_due here (all_rows recorded)

-- a forwarder begins so by what is recorded of files and commands, may listen here, and of this
-- beginning something is so
pub record Begun (here : ListenPermit) (by : Option Recorded) (So : Starts → Type 0) : Type 0 where
  pub starts : Starts
  pub permitted : starts.here ≡ here
  pub due : StartsAs here by starts
  pub so : So starts

-- a forwarder represents its beginning alone
abbrev pub BeganWith : Starts → List HouseCall → Type 0
BeganWith starts calls = calls ≡ Begins starts ∷ []

-- there is a forwarder that has recorded this, knows these listeners and streams and is as it is
-- right before a wait, for all of whose streams it waits for which it must, and that represents its
-- beginning and these calls after it, unless none is present
abbrev pub BegunRests : {T : Type 0} → (T → HouseState) → Bool → Starts → Resting
BegunRests {T} state present starts = record {
  present = present;
  rests = λ want now calls listeners own waiting unfailed. IsTrue present
      → (house : T)
      × (HouseWaits want (state house).quiet (state house).must (state house).refused
      × ((state house).recorded ≡ now)
      × (state house).stands (Begins starts ∷ calls)
      × Knows (state house).known listeners own
      × OwnWaitedFor (state house).queue waiting unfailed);
}

-- ---- ExitOnForwardFailure

-- settings keep what the rows of all that is recorded give
abbrev pub SettledFor : Option Recorded → List Given → Type 0
SettledFor None settings = Unit
SettledFor (Some recorded) settings = KeepsSettings settings (flat_map given (all_rows recorded))

-- whether the run of a master ends where a forwarding of the start is refused, where this is known
abbrev pub must_for : Option Recorded → Option Bool
must_for None = None
must_for (Some recorded) = Some (is_set (value ExitOnForwardFailure (all_rows recorded)))

-- unless memory runs out, it ends so exactly where it is due, if this is known
abbrev pub MustsAs : Status → Option Bool → Bool → Type 0
MustsAs Memory due must = Unit
MustsAs status None must = Unit
MustsAs status (Some due) must = must ≡ due
