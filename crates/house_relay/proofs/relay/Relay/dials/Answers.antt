use Rattle.std.proofs.Common.{◌≡◌, ◌∙◌, refl, sym, ap, subst, Bool, true, false, ℕ, List, ◌∷◌, drop, Some, if◌then◌else◌}
use Rattle.socks_dialog.specs.State.{DialogState}
use Rattle.house_relay.specs.Acts.{Reads}
use Rattle.house_relay.specs.Relay.{RelayRepresents, holding}
use Rattle.house_relay.specs.Steps.{no_channel_left_of}
use Rattle.house_relay.specs.declared.dialing.Came.{Came}
use Rattle.house_relay.specs.declared.dialing.Came.TheVariants.{Connect}
use Rattle.house_relay.specs.declared.line.ChannelState.{ChannelState}
use Rattle.house_relay.specs.declared.line.ChannelState.TheVariants.{Dialing, Asked, Over}
use Rattle.house_relay.specs.declared.relay.Relay.{Relay}
use Rattle.house_relay.specs.declared.relay.RelaySocket.{RelaySocket}
use Rattle.house_relay.proofs.Comings.{SidesAfter, LineAfter, comes, line-of}
use Rattle.house_relay.proofs.Readings.{reads-more, reads-dialog}
use Rattle.house_relay.proofs.relay.Relay.dials.Goals as goal

-- the sides where the dialog asks for a channel
asked : (free : Bool) (host host' : List ℕ) (port port' version : ℕ) (new : DialogState) (socket socket' : RelaySocket) (line : ChannelState)
    → line ≡ (if free then Asked host' port' (Some version) else Over)
    → socket' ≡ (if free then socket else no_channel_left_of socket) → host' ≡ host → port' ≡ port
    → SidesAfter (Connect host port version) free new socket line socket'
asked true host host' port port' version new socket socket' line is is' same same' =
    (is ∙ ap (λ h. Asked h port' (Some version)) same ∙ ap (λ p. Asked host p (Some version)) same', is')
asked false host host' port port' version new socket socket' line is is' same same' = (is, is')

pub returns-in_default-clause-stands : goal.returns-in_default-clause-stands
returns-in_default-clause-stands c = λ may dials acts s.
    reads-more c.args.self.now c.args.bytes.now dials acts (λ dialog e. c.in_default.not-Dialing dialog e) may s

pub returns-in-Nothing-clause-stands : goal.returns-in-Nothing-clause-stands
returns-in-Nothing-clause-stands c = λ may dials acts s.
    reads-dialog c.args.self.now c.in-Dialing.dialog c.receive.new.dialog c.args.bytes.now c.in_ok-count.field-0
    c.receive.new.queue (Dialing c.receive.new.dialog) c.args.self.now.socket dials acts c.in-Dialing.is
    c.in_ok-count.ensures.heard (subst (λ (e : Came). LineAfter e c.receive.new.dialog (Dialing c.receive.new.dialog)) (sym c.in-Nothing.is) refl)
    may s

pub returns-in-Nothing-clause-dials : goal.returns-in-Nothing-clause-dials
returns-in-Nothing-clause-dials c =
    comes c.in_ok-count.field-0 c.args.free c.args.bytes.now c.in-Dialing.dialog c.receive.new.dialog c.receive.new.queue
    c.args.self.now (record c.args.self.now { line = Dialing c.receive.new.dialog; queue = c.receive.new.queue }) c.in-Dialing.is c.in_ok-count.ensures.heard
    (subst (λ (e : Came). SidesAfter e c.args.free c.receive.new.dialog c.args.self.now.socket (Dialing c.receive.new.dialog) c.args.self.now.socket)
    (sym c.in-Nothing.is) (refl, refl))

pub returns-in-Fault-clause-stands : goal.returns-in-Fault-clause-stands
returns-in-Fault-clause-stands c = λ may dials acts s.
    reads-dialog c.args.self.now c.in-Dialing.dialog c.receive.new.dialog c.args.bytes.now c.in_ok-count.field-0
    c.receive.new.queue Over c.args.self.now.socket dials acts c.in-Dialing.is
    c.in_ok-count.ensures.heard (subst (λ (e : Came). LineAfter e c.receive.new.dialog Over) (sym c.in-Fault.is) refl)
    may s

pub returns-in-Fault-clause-dials : goal.returns-in-Fault-clause-dials
returns-in-Fault-clause-dials c =
    comes c.in_ok-count.field-0 c.args.free c.args.bytes.now c.in-Dialing.dialog c.receive.new.dialog c.receive.new.queue
    c.args.self.now (record c.args.self.now { line = Over; queue = c.receive.new.queue }) c.in-Dialing.is c.in_ok-count.ensures.heard
    (subst (λ (e : Came). SidesAfter e c.args.free c.receive.new.dialog c.args.self.now.socket Over c.args.self.now.socket)
    (sym c.in-Fault.is) (refl, refl))

-- the sides where it asks
pub returns-in_ok-host-in-Connect-clause-stands : goal.returns-in_ok-host-in-Connect-clause-stands
returns-in_ok-host-in-Connect-clause-stands c = λ may dials acts s.
    let line = c.asks.new.self.line in
    let socket = c.asks.new.self.socket in
    let sides = asked c.args.free c.in-Connect.host c.in_ok-host-in-Connect.host c.in-Connect.port c.from.result
    c.in-Connect.version c.receive.new.dialog c.args.self.now.socket socket line c.asks.ensures.line c.asks.ensures.socket
    (c.in_ok-host-in-Connect.ensures ∙ c.as_bytes.ensures.value) c.from.ensures in
    let after = line-of (Connect c.in-Connect.host c.in-Connect.port c.in-Connect.version) c.args.free c.receive.new.dialog
    c.args.self.now.socket socket line sides in
    subst (λ (r : Relay). RelayRepresents dials (Reads c.args.bytes.now ∷ acts) (holding (drop c.in_ok-count.field-0.count c.args.bytes.now) r))
    (sym c.asks.ensures.others)
    (reads-dialog c.args.self.now c.in-Dialing.dialog c.receive.new.dialog c.args.bytes.now c.in_ok-count.field-0
    c.receive.new.queue line socket dials acts c.in-Dialing.is
    c.in_ok-count.ensures.heard (subst (λ (e : Came). LineAfter e c.receive.new.dialog line) (sym c.in-Connect.is) after)
    may s)

pub returns-in_ok-host-in-Connect-clause-dials : goal.returns-in_ok-host-in-Connect-clause-dials
returns-in_ok-host-in-Connect-clause-dials c =
    let line = c.asks.new.self.line in
    let socket = c.asks.new.self.socket in
    let sides = asked c.args.free c.in-Connect.host c.in_ok-host-in-Connect.host c.in-Connect.port c.from.result
    c.in-Connect.version c.receive.new.dialog c.args.self.now.socket socket line c.asks.ensures.line c.asks.ensures.socket
    (c.in_ok-host-in-Connect.ensures ∙ c.as_bytes.ensures.value) c.from.ensures in
    comes c.in_ok-count.field-0 c.args.free c.args.bytes.now c.in-Dialing.dialog c.receive.new.dialog c.receive.new.queue
    c.args.self.now c.asks.new.self c.in-Dialing.is c.in_ok-count.ensures.heard
    (subst (λ (e : Came). SidesAfter e c.args.free c.receive.new.dialog c.args.self.now.socket line socket) (sym c.in-Connect.is) sides)
