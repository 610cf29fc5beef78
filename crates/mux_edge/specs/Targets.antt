-- Where a stream connects to: the addresses of a name, tried in turn.
use Rattle.std.specs.Prelude.{◌≡◌, ◌<◌, ◌-◌, ◌&&◌, not, true, false, ℕ, Bool, List, [], nat_eq, Option, None, Some, IfSome, IsSomeAnd, length, is_some, option_map, unwrap_or, bytes_eq, slice_get}
use Rattle.std.specs.Net.Socket.{IsPlainSocket, socket_ip}
use Rattle.std.specs.declared.net.ip_addr.IpAddr.{IpAddr}
use Rattle.std.specs.declared.net.socket_addr.SocketAddr.{SocketAddr}
use Rattle.indexmap.specs.IndexMap.{IndexMap, get}
use Rattle.mux_edge.specs.Names.{AddsRows, lines_of}
use Rattle.mux_edge.specs.Recorded.{KeepsSocket, of_socket}
use Rattle.mux_edge.specs.declared.stream.Stream.{Stream}
use Rattle.mux_edge.specs.declared.lookups.Known.{Known}
use Rattle.mux_edge.specs.declared.lookups.Known.TheVariants.{Addresses, LookedUp, Nothing}
use Rattle.mux_edge.specs.declared.targets.Target.{Target}

-- how many addresses are left to be tried
abbrev pub addresses_left_of : Target → ℕ
addresses_left_of target =
    unwrap_or (option_map (λ addresses. length addresses.items) target.addresses) 0 - target.tried

-- whether it waits for the look-up of this name
abbrev pub awaits_lookup : Target → List ℕ → Bool
awaits_lookup target name = not (is_some target.addresses) && bytes_eq target.name.items name

-- it is that of a name and a port, of whose addresses none was tried
pub record IsNewTarget (name : List ℕ) (port : ℕ) (target : Target) : Type 0 where
  pub name_is : target.name.items ≡ name
  pub port_is : target.port ≡ port
  pub untried : target.tried ≡ 0

-- whether its addresses are known
abbrev pub has_addresses : Known → Bool
has_addresses Addresses = true
has_addresses LookedUp = false
has_addresses Nothing = false

-- it is the address of a target that was tried last, with its port
pub record IsTriedAddress (old new : Target) (to : SocketAddr) : Type 0 where
  pub address_is : IfSome old.addresses (λ addresses.
      slice_get addresses.items (new.tried - 1) ≡ Some (socket_ip to))
  pub port_is : IsPlainSocket to old.port
  pub tried_now : old.tried < new.tried

-- a stream goes over a socket that was begun to such an address, where it is recorded to which
abbrev pub IsBegunTo : {U T : Type 0} → (U → U → Type 0) → (T → T → Type 0)
    → (T → Option SocketAddr) → (SocketAddr → Type 0) → Stream U T → Type 0
IsBegunTo {U} {T} unix tcp target Is stream = (begun : Stream U T)
    × IfSome (of_socket (λ _. None) target begun) Is × KeepsSocket unix tcp begun stream

-- the addresses of a name are known: a target that waits for them has exactly these, and any other
-- stays as it is
pub record IsResolved (name : List ℕ) (addresses : List IpAddr) (old new : Target) : Type 0 where
  pub known : awaits_lookup old name ≡ true → IsSomeAnd new.addresses (λ found. found.items ≡ addresses)
  pub rest : new ≡ record old { addresses = new.addresses }
  pub others : awaits_lookup old name ≡ false → new ≡ old

-- the same of the target of a number, if there is one
abbrev pub ResolvesAt : List ℕ → List IpAddr → Option Target → Option Target → Type 0
ResolvesAt name addresses None new = new ≡ None
ResolvesAt name addresses (Some old) new = IsSomeAnd new (IsResolved name addresses old)

module _ {S : Type 0} where
  -- what a look-up of a name wrote is reported: the targets that wait for the name get exactly the
  -- addresses of its rows, and any other stays as it is
  abbrev pub ReportsRows : List ℕ → List ℕ → IndexMap ℕ Target S → IndexMap ℕ Target S → Type 0
  ReportsRows name heard old new = (found : List IpAddr) × AddsRows (lines_of heard) [] found
      × ((n : ℕ) → ResolvesAt name found (get nat_eq old n) (get nat_eq new n))
