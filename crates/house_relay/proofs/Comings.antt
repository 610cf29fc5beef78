-- What becomes of a relay by the outcome of its dialog.
use Rattle.std.proofs.Common.{◌≡◌, ◌⊎◌, inl, inr, refl, sym, subst, ℕ, Bool, true, false, List, ◌++◌, Some, if◌then◌else◌}
use Rattle.proxy_frames.specs.State.{QueueState}
use Rattle.socks_dialog.specs.State.{DialogState}
use Rattle.socks_dialog.specs.declared.outcome.Outcome.{Outcome}
use Rattle.house_relay.specs.Acts.{outcome_in}
use Rattle.house_relay.specs.Dialing.{DialogCameTo, AreBytesReceived, IsDialogReading}
use Rattle.house_relay.specs.Steps.{IsToDial, IsOpenAskedFor, ComesOf, DialsIn, no_channel_left_of}
use Rattle.house_relay.specs.declared.dialing.Came.{Came}
use Rattle.house_relay.specs.declared.dialing.Came.TheVariants.{Nothing, Connect, Fault}
use Rattle.house_relay.specs.declared.dialing.DialogReceived.{DialogReceived}
use Rattle.house_relay.specs.declared.line.ChannelState.{ChannelState}
use Rattle.house_relay.specs.declared.line.ChannelState.TheVariants.{Dialing, Asked, Over}
use Rattle.house_relay.specs.declared.relay.Relay.{Relay}
use Rattle.house_relay.specs.declared.relay.RelaySocket.{RelaySocket}

-- what the channel's side and the socket are then
abbrev pub SidesAfter : Came → Bool → DialogState → RelaySocket → ChannelState → RelaySocket → Type 0
SidesAfter Nothing free new socket line socket' = (line ≡ Dialing new) × (socket' ≡ socket)
SidesAfter (Connect host port version) free new socket line socket' =
    (line ≡ (if free then Asked host port (Some version) else Over))
    × (socket' ≡ (if free then socket else no_channel_left_of socket))
SidesAfter Fault free new socket line socket' = (line ≡ Over) × (socket' ≡ socket)

by-outcome : (came : Came) (free : Bool) (bytes : List ℕ) (dialog : DialogState) (old new : Relay)
    → DialogCameTo came bytes dialog → SidesAfter came free dialog old.socket new.line new.socket
    → ComesOf (outcome_in bytes) free old new
by-outcome Nothing free bytes dialog old new came sides =
    subst (λ (o : Outcome). ComesOf o free old new) (sym came.0) (subst IsToDial (sym sides.0) tt, sides.1)
by-outcome (Connect host port version) true bytes dialog old new came sides =
    subst (λ (o : Outcome). ComesOf o true old new) (sym came.0)
    (subst (IsOpenAskedFor host port) (sym sides.0) (refl, refl), sides.1)
by-outcome (Connect host port version) false bytes dialog old new came sides =
    subst (λ (o : Outcome). ComesOf o false old new) (sym came.0) (sides.0, sides.1)
by-outcome Fault free bytes dialog old new came sides =
    subst (λ (o : Outcome). ComesOf o free old new) (sym came.1) (sides.0, sides.1)

pub comes : (heard : DialogReceived) (free : Bool) (piece : List ℕ) (dialog dialog' : DialogState) (queue' : QueueState) (old new : Relay)
    → old.line ≡ Dialing dialog → (IsDialogReading dialog → AreBytesReceived dialog dialog' piece heard old.queue queue')
    → SidesAfter heard.came free dialog' old.socket new.line new.socket
    → DialsIn old.line free piece old new
comes heard free piece dialog dialog' queue' old new is receives sides =
    subst (λ (l : ChannelState). DialsIn l free piece old new) (sym is)
    (λ reading. by-outcome heard.came free (dialog.bytes ++ piece) dialog' old new (receives reading).came sides)

-- what reads-dialog asks for
abbrev pub LineAfter : Came → DialogState → ChannelState → Type 0
LineAfter Nothing new line = line ≡ Dialing new
LineAfter (Connect host port version) new line = (line ≡ Asked host port (Some version)) ⊎ (line ≡ Over)
LineAfter Fault new line = line ≡ Over

pub line-of : (came : Came) (free : Bool) (new : DialogState) (socket socket' : RelaySocket) (line : ChannelState)
    → SidesAfter came free new socket line socket' → LineAfter came new line
line-of Nothing free new socket socket' line sides = sides.0
line-of (Connect host port version) true new socket socket' line sides = inl sides.0
line-of (Connect host port version) false new socket socket' line sides = inr sides.0
line-of Fault free new socket socket' line sides = sides.0
