-- What a running master is asked, by words.
use Rattle.std.specs.Prelude.{◌≡◌, ℕ, nat_lt, Bool, true, false, if◌then◌else◌, List, [], ◌∷◌, length, IsTrue, Option, Some, None, Result, Ok, Err, codes, bytes_eq}
use Rattle.std.specs.Bool.{OnTrue}
use Rattle.std.specs.List.{list_any}
use Rattle.conf_rules.specs.CommandLine.{is_about_forwardings, is_forwarding}
use Rattle.conf_rules.specs.declared.asked.Asked.{Asked}
use Rattle.conf_rules.specs.declared.asked.AskedLine.{AskedLine}
use Rattle.conf_rules.specs.declared.asked.AskedLine.TheVariants as lines
use Rattle.conf_rules.specs.declared.causes.Cause.TheVariants.{Value as BadValue}
use Rattle.conf_rules.specs.declared.causes.ResolveError.{ResolveError}
use Rattle.conf_rules.specs.declared.causes.ResolveError.TheVariants.{At}
use Rattle.conf_rules.specs.declared.causes.ValueError.{ValueError}
use Rattle.conf_rules.specs.declared.causes.ValueError.TheVariants.{BadForward}
use Rattle.conf_rules.specs.declared.control.MasterCommand.{MasterCommand}
use Rattle.conf_rules.specs.declared.control.MasterCommand.TheVariants as controls
use Rattle.conf_rules.specs.declared.key.Key.{Key}
use Rattle.conf_rules.specs.declared.key.Key.TheVariants.{LocalForward, RemoteForward, DynamicForward}
use Rattle.conf_rules.specs.declared.value.End.{End}
use Rattle.conf_rules.specs.declared.value.End.TheVariants.{Path, Port}
use Rattle.conf_rules.specs.declared.value.Forward.{Forward}
use Rattle.conf_rules.specs.declared.value.Value.{Value}
use Rattle.conf_rules.specs.declared.value.Value.TheVariants as values
use Rattle.conf_rules.specs.Results.{◌>>=◌}
use Rattle.conf_rules.specs.Texts.{Bytes}
use Rattle.conf_rules.specs.Values.{value_for}
use Rattle.mux_client.specs.declared.asks.Asks.{Asks}
use Rattle.mux_client.specs.declared.asks.Asks.TheVariants as asks
use Rattle.mux_outside.specs.declared.start_ask.StartAsk.{StartAsk}
use Rattle.mux_outside.specs.declared.start_ask.TheConstants.{LONGEST_HOST}
use Rattle.ssh_mux.specs.declared.asks.AskedEnd.{AskedEnd}
use Rattle.ssh_mux.specs.declared.ending.Ending.{Ending as MeantEnding}
use Rattle.ssh_mux.specs.declared.ending.Ending.TheVariants as endings

-- ---- a forwarding

-- the key of a forwarding that a letter names
abbrev pub forward_key : Bytes → Option Key
forward_key keyword =
    if bytes_eq keyword (codes "localforward") then Some LocalForward
    else (if bytes_eq keyword (codes "remoteforward") then Some RemoteForward
    else (if bytes_eq keyword (codes "dynamicforward") then Some DynamicForward else None))

-- its kind: 1 for a local, 2 for a remote and 3 for a dynamic one
abbrev pub forward_kind_of_key : Key → ℕ
forward_kind_of_key LocalForward = 1
forward_kind_of_key RemoteForward = 2
forward_kind_of_key key = 3

-- a host that isn't named is empty
abbrev pub host_or_empty : Option Bytes → Bytes
host_or_empty None = []
host_or_empty (Some host) = host

-- a host with its port, unless it is too long
abbrev pub asked_host_at : Option Bytes → ℕ → Option AskedEnd
asked_host_at host port = if nat_lt LONGEST_HOST (length (host_or_empty host)) then None
    else Some (record { host = host_or_empty host; port = port })

-- an end; a path is none
abbrev pub end_at : End → Option AskedEnd
end_at (Path path) = None
end_at (Port host port) = asked_host_at host port

-- the end that is connected to: where there is none, an empty host and port 0
abbrev pub connect_at : Option End → Option AskedEnd
connect_at None = Some (record { host = []; port = 0 })
connect_at (Some end) = end_at end

-- a forwarding of both ends
abbrev pub both_ends : ℕ → Option AskedEnd → Option AskedEnd → Option StartAsk
both_ends kind (Some listen) (Some connect) = Some (record {
  kind = kind;
  listen_host = listen.host;
  listen_port = listen.port;
  connect_host = connect.host;
  connect_port = connect.port;
  path = false;
})
both_ends kind listen connect = None

-- the forwarding as it is asked for
abbrev pub start_ask : ℕ → Forward → Option StartAsk
start_ask kind f = both_ends kind (end_at f.listen) (connect_at f.connect)

-- ---- the lines of the words

-- the refusal of a line of the command line
abbrev pub refused_line : {A : Type 0} → ℕ → ValueError → Result A ResolveError
refused_line word e = Err (At (codes "command line") word (BadValue e))

-- what can't be asked for is no forwarding
abbrev pub recorded_ask : ℕ → Option StartAsk → Result StartAsk ResolveError
recorded_ask word None = refused_line word BadForward
recorded_ask word (Some ask) = Ok ask

-- the forwarding of a value
abbrev pub value_ask : ℕ → Key → Result Value ValueError → Result StartAsk ResolveError
value_ask word key (Ok (values.Forward f)) = recorded_ask word (start_ask (forward_kind_of_key key) f)
value_ask word key (Ok value) = refused_line word BadForward
value_ask word key (Err e) = refused_line word e

-- the forwarding of a key with words, which are read as those of the configuration are
abbrev pub key_ask : ℕ → Key → List Bytes → Result StartAsk ResolveError
key_ask word key words = value_ask word key (value_for key [] words)

-- the same where a letter names a forwarding
abbrev pub named_ask : ℕ → Option Key → List Bytes → Result (Option StartAsk) ResolveError
named_ask word None words = Ok None
named_ask word (Some key) words = key_ask word key words >>= λ ask. Ok (Some ask)

-- the forwarding of a line of the words
abbrev pub line_ask : AskedLine → Result (Option StartAsk) ResolveError
line_ask (lines.Line word line) = Ok None
line_ask (lines.Parts word keyword words) = named_ask word (forward_key keyword) words

-- one forwarding more in front
abbrev pub onto_asks : Option StartAsk → List StartAsk → List StartAsk
onto_asks None later = later
onto_asks (Some ask) later = ask ∷ later

-- the forwardings that letters name, in the order of the words, or the first that has no reading
abbrev pub asks_from : List AskedLine → Result (List StartAsk) ResolveError
asks_from [] = Ok []
asks_from (line ∷ ls) = line_ask line >>= λ here. asks_from ls >>= λ later.
    Ok (onto_asks here later)

-- ---- what is asked

-- that forwardings are opened, or closed
abbrev pub forwards_for : Asked → Bool → Result Asks ResolveError
forwards_for asked opening = asks_from asked.lines >>= λ what. Ok (asks.Forwards opening what)

-- what words ask of a running master, or the refusal of a forwarding that has no reading
abbrev pub asks_for : Asked → MasterCommand → Result Asks ResolveError
asks_for asked controls.Check = Ok asks.Check
asks_for asked controls.Exit = Ok asks.Exit
asks_for asked controls.Stop = Ok asks.Stop
asks_for asked controls.Forward = forwards_for asked true
asks_for asked controls.Cancel = forwards_for asked false

-- forwardings are named where they are asked for
abbrev pub NamesForwards : MasterCommand → List AskedLine → Type 0
NamesForwards control ls =
    OnTrue (is_about_forwardings control) (IsTrue (list_any is_forwarding ls))

-- ---- what the code returned

-- it is what the words request, or their refusal, unless memory ran out
abbrev pub FindsAsks : {A : Type 0} → Result A MeantEnding → Result A ResolveError → Type 0
FindsAsks (Ok x) reading = reading ≡ Ok x
FindsAsks (Err endings.NoMemory) reading = Unit
FindsAsks (Err (endings.BadLine file line (BadValue e))) reading =
    reading ≡ Err (At file line (BadValue e))
FindsAsks (Err ending) reading = ⊥
