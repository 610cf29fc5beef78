-- The relay of an accepted socket.
use Rattle.std.proofs.Common.{◌≡◌, refl, sym, ℕ, Bool, true, false, Option, Some, None}
use Rattle.house_relay.specs.Steps.{fresh_relay}
use Rattle.house_relay.specs.declared.line.ChannelState.TheVariants.{Over}
use Rattle.house_relay.specs.declared.relay.Relay.{Relay}
use Rattle.house_relay.specs.declared.relay.RelaySocket.TheVariants as socket
use Rattle.house_forward.specs.Links.{IsRelayJoined, IsJoinedAt, HasNoChannelLeft}
use Rattle.house_forward.specs.declared.forwarding.Forwarding.{Forwarding}

is-no_channel_left : (n t : ℕ) (r : Relay) → r ≡ fresh_relay n Over (socket.NoChannelLeft t) → HasNoChannelLeft t r
is-no_channel_left n t r e = rw e refl

pub joined-full : (full : Bool) (f : Option Forwarding) (n t : ℕ) (r : Relay) → full ≡ true
    → r ≡ fresh_relay n Over (socket.NoChannelLeft t) → IsRelayJoined full f t r
joined-full true f n t r e is = is-no_channel_left n t r is
joined-full false f n t r e is = cc

pub joined-none : (full : Bool) (f : Option Forwarding) (n t : ℕ) (r : Relay) → full ≡ false → None ≡ f
    → r ≡ fresh_relay n Over (socket.NoChannelLeft t) → IsRelayJoined full f t r
joined-none true f n t r e none is = cc
joined-none false None n t r e none is = is-no_channel_left n t r is
joined-none false (Some f) n t r e none is = cc

pub joined-one : (full : Bool) (f : Option Forwarding) (g : Forwarding) (t : ℕ) (r : Relay) → full ≡ false → Some g ≡ f
    → IsJoinedAt g.kind g t r → IsRelayJoined full f t r
joined-one true f g t r e one is = cc
joined-one false f g t r e one is = rw (sym one) is
