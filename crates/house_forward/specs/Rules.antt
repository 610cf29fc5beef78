-- What is requested of the forwarder, as it is compared, and why it is refused whatever stands
-- already.
use Rattle.std.specs.Prelude.{◌≡◌, ℕ, Bool, true, false, not, ◌&&◌, ◌||◌, if◌then◌else◌, ◌==◌, nat_lt, List, [], length, codes, Option, Some, None}
use Rattle.std.specs.List.{list_any}
use Rattle.std.specs.Str.{bytes_eq}
use Rattle.mux_outside.specs.declared.start_ask.StartAsk.{StartAsk}
use Rattle.mux_outside.specs.declared.start_ask.TheConstants.{LONGEST_HOST}
use Rattle.mux_outside.specs.declared.starts.ListenEntry.{ListenEntry}
use Rattle.mux_outside.specs.declared.starts.ListenPermit.{ListenPermit}
use Rattle.mux_outside.specs.declared.starts.ListenPermit.TheVariants.{Any, Only}
use Rattle.mux_outside.specs.declared.starts.Starts.{Starts}
use Rattle.house_forward.specs.declared.rules.AskedForwarding.{AskedForwarding}
use Rattle.house_forward.specs.declared.rules.Ends.{Ends}
use Rattle.house_forward.specs.declared.rules.ForwardingKind.{ForwardingKind}
use Rattle.house_forward.specs.declared.rules.ForwardingKind.TheVariants.{Local, Remote, Dynamic}
use Rattle.house_forward.specs.declared.rules.ListenRules.{ListenRules}
use Rattle.house_forward.specs.declared.rules.TheConstants.{LAST_PORT}

-- the kinds that are served
abbrev pub kind_of : ℕ → Option ForwardingKind
kind_of kind = if kind == 1 then Some Local else (if kind == 2 then Some Remote
    else (if kind == 3 then Some Dynamic else None))

-- ---- listen hosts

-- this machine alone, or all its addresses
abbrev pub local_host : Bool → List ℕ → List ℕ
local_host gateway host =
    if bytes_eq host (codes "*") || ((length host == 0) && gateway) then codes "0.0.0.0"
    else (if (length host == 0) || bytes_eq host (codes "localhost") then codes "127.0.0.1" else host)

-- what the server is asked
abbrev pub remote_host : List ℕ → List ℕ
remote_host host =
    if length host == 0 then codes "localhost" else (if bytes_eq host (codes "*") then [] else host)

abbrev pub listen_host : ForwardingKind → Bool → List ℕ → List ℕ
listen_host Local gateway host = local_host gateway host
listen_host Remote gateway host = remote_host host
listen_host Dynamic gateway host = local_host gateway host

-- ---- refusals

-- the forwarder listens
abbrev pub listens_here : ForwardingKind → Bool
listens_here Local = true
listens_here Remote = false
listens_here Dynamic = true

-- where it connects is specified when it is requested
abbrev pub connects_there : ForwardingKind → Bool
connects_there Local = true
connects_there Remote = true
connects_there Dynamic = false

abbrev pub same_kind : ForwardingKind → ForwardingKind → Bool
same_kind Local Local = true
same_kind Local Remote = false
same_kind Local Dynamic = false
same_kind Remote Local = false
same_kind Remote Remote = true
same_kind Remote Dynamic = false
same_kind Dynamic Local = false
same_kind Dynamic Remote = false
same_kind Dynamic Dynamic = true

-- a port is past the last, or none where one is needed
abbrev pub has_bad_port : ForwardingKind → ℕ → ℕ → Bool
has_bad_port kind listen connect = nat_lt LAST_PORT listen || (nat_lt LAST_PORT connect
    || ((connects_there kind && (connect == 0)) || (listens_here kind && (listen == 0))))

abbrev pub is_refused_of : Option ForwardingKind → StartAsk → Bool
is_refused_of None ask = true
is_refused_of (Some kind) ask = ask.path || (has_bad_port kind ask.listen_port ask.connect_port
    || (nat_lt LONGEST_HOST (length ask.listen_host) || nat_lt LONGEST_HOST (length ask.connect_host)))

-- a request is refused whatever stands already: its kind isn't served, it has a path, a port is
-- past the last or none where one is needed, or a host is too long
abbrev pub is_refused_alone : StartAsk → Bool
is_refused_alone ask = is_refused_of (kind_of ask.kind) ask

-- ---- where it may listen on this machine

-- an entry is for this host, or for each
abbrev pub entry_has_host : Option (List ℕ) → List ℕ → Bool
entry_has_host None host = true
entry_has_host (Some h) host = bytes_eq h host

-- an entry is for this port, or for each
abbrev pub entry_has_port : Option ℕ → ℕ → Bool
entry_has_port None port = true
entry_has_port (Some p) port = p == port

abbrev pub is_listen_entry_for : List ℕ → ℕ → ListenEntry → Bool
is_listen_entry_for host port entry = entry_has_host entry.host host && entry_has_port entry.port port

-- a listener at this host and port is permitted; hosts are compared by bytes
abbrev pub is_permitted_here : ListenPermit → List ℕ → ℕ → Bool
is_permitted_here Any host port = true
is_permitted_here (Only entries) host port = list_any (is_listen_entry_for host port) entries

-- before the start: a host of none means this machine alone, and anywhere is permitted
abbrev pub first_rules : ListenRules
first_rules = record { gateway = false; here = Any }

-- as the start has them
abbrev pub rules_of : Starts → ListenRules
rules_of starts = record { gateway = starts.gateway; here = starts.here }

abbrev pub is_unpermitted_of : Option ForwardingKind → ListenRules → StartAsk → Bool
is_unpermitted_of None rules ask = false
is_unpermitted_of (Some kind) rules ask = listens_here kind
    && not (is_permitted_here rules.here (listen_host kind rules.gateway ask.listen_host) ask.listen_port)

-- a request is for a listener on this machine that isn't permitted: its host is compared as it is
-- used, and its port as it is asked
abbrev pub is_unpermitted : ListenRules → StartAsk → Bool
is_unpermitted rules ask = is_unpermitted_of (kind_of ask.kind) rules ask

-- a request is refused at once, whatever stands already
abbrev pub is_ruled_out : ListenRules → StartAsk → Bool
is_ruled_out rules ask = is_refused_alone ask || is_unpermitted rules ask

-- ---- what is asked

-- a request as it is handed on
pub record IsHandedAsk (asked : AskedForwarding) (ask : StartAsk) : Type 0 where
  pub kind : asked.kind ≡ ask.kind
  pub listens : asked.listen_host.now ≡ ask.listen_host
  pub listen_port : asked.listen_port ≡ ask.listen_port
  pub connects : asked.connect_host.now ≡ ask.connect_host
  pub connect_port : asked.connect_port ≡ ask.connect_port
  pub path : asked.path ≡ ask.path

-- its two ends, the listen host as it is used
pub record AreEnds (rules : ListenRules) (ask : StartAsk) (ends : Ends) : Type 0 where
  pub kind : kind_of ask.kind ≡ Some ends.kind
  pub listens : ends.listen_host.now ≡ listen_host ends.kind rules.gateway ask.listen_host
  pub listen_port : ends.listen_port ≡ ask.listen_port
  pub connects : ends.connect_host.now ≡ ask.connect_host
  pub connect_port : ends.connect_port ≡ ask.connect_port
