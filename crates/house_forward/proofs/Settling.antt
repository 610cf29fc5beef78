-- How the channel of a relay settles: a test of it fails from now on, or the channel stays.
use Rattle.std.proofs.Common.{◌≡◌, refl, sym, subst, ◌⊎◌, inl, inr, ℕ, Bool, true, false, List}
use Rattle.conn_messages.specs.declared.message.Message.{Message}
use Rattle.conn_messages.specs.declared.message.Message.TheVariants as message
use Rattle.house_relay.specs.Acts.{Takes}
use Rattle.house_relay.specs.ChannelState.{step_if_live, over_if, receives_close}
use Rattle.house_relay.specs.Relay.{delivers}
use Rattle.house_relay.specs.Steps.{sent_of, confirmed_in, refused_in, data_received}
use Rattle.house_relay.specs.declared.line.Live.{Live as LiveState}
use Rattle.house_relay.specs.declared.line.ChannelState.{ChannelState}
use Rattle.house_relay.specs.declared.line.ChannelState.TheVariants.{Dialing, Asked, Opened, Offered, Live, Over}
use Rattle.house_relay.specs.declared.relay.Relay.{Relay}
use Rattle.house_relay.specs.declared.relay.Outgoing.{Outgoing}
use Rattle.house_relay.specs.declared.relay.Outgoing.TheVariants as outgoing
use Rattle.house_forward.specs.Going.{TakesOn}
use Rattle.house_forward.specs.Heard.{received_of}
use Rattle.house_forward.specs.Links.{relay_after}
use Rattle.house_forward.specs.RelayTraces.{Life, RelayGoesBy, Listens}
use Rattle.house_forward.specs.declared.link.LinkStep.{LinkStep}
use Rattle.house_forward.specs.declared.link.LinkStep.TheVariants as step

-- the test fails from now on, or the channel stays
abbrev pub SettlesBy : (ChannelState → Bool) → ChannelState → ChannelState → Type 0
SettlesBy q old new = (q new ≡ false) ⊎ (new ≡ old)

-- it fails in a channel that is confirmed, and in one that is over
pub record FailsLater (q : ChannelState → Bool) : Type 0 where
  pub live : (live : LiveState) → q (Live live) ≡ false
  pub over : q Over ≡ false

over-none : (q : ChannelState → Bool) → FailsLater q → (b : Bool) (live : LiveState) → q (over_if b live) ≡ false
over-none q fails true live = fails.over
over-none q fails false live = fails.live live

in-live : (q : ChannelState → Bool) (step : LiveState → ChannelState) (line : ChannelState) → ((live : LiveState) → q (step live) ≡ false)
    → SettlesBy q line (step_if_live step line)
in-live q step (Dialing dialog) none = inr refl
in-live q step (Asked host port version) none = inr refl
in-live q step (Opened version) none = inr refl
in-live q step (Offered remote window maximum) none = inr refl
in-live q step (Live live) none = inl (none live)
in-live q step Over none = inr refl

confirms : (q : ChannelState → Bool) → FailsLater q → (line : ChannelState) (remote window maximum : ℕ) (r : Relay) → r.line ≡ line
    → SettlesBy q line (confirmed_in line remote window maximum r).line
confirms q fails (Dialing dialog) remote window maximum r is = inr is
confirms q fails (Asked host port version) remote window maximum r is = inr is
confirms q fails (Opened version) remote window maximum r is = inl (fails.live _)
confirms q fails (Offered theirs room most) remote window maximum r is = inr is
confirms q fails (Live live) remote window maximum r is = inr is
confirms q fails Over remote window maximum r is = inr is

refuses : (q : ChannelState → Bool) → FailsLater q → (line : ChannelState) (reason : ℕ) (r : Relay) → r.line ≡ line
    → SettlesBy q line (refused_in line reason r).line
refuses q fails (Dialing dialog) reason r is = inr is
refuses q fails (Asked host port version) reason r is = inr is
refuses q fails (Opened version) reason r is = inl fails.over
refuses q fails (Offered theirs room most) reason r is = inr is
refuses q fails (Live live) reason r is = inr is
refuses q fails Over reason r is = inr is

pub data-same : (b : Bool) (bytes : List ℕ) (r : Relay) → (data_received b bytes r).line ≡ r.line
data-same true bytes r = refl
data-same false bytes r = refl

settles-heard : (q : ChannelState → Bool) → FailsLater q → (m : Message) (r : Relay) → SettlesBy q r.line (received_of m r).line
settles-heard q fails (message.Transport number rest) r = inr refl
settles-heard q fails (message.GlobalRequest name want rest what) r = inr refl
settles-heard q fails (message.RequestSuccess rest) r = inr refl
settles-heard q fails message.RequestFailure r = inr refl
settles-heard q fails (message.Open kind sender window maximum rest what) r = inr refl
settles-heard q fails (message.Confirmation recipient sender window maximum rest) r = confirms q fails r.line sender window maximum r refl
settles-heard q fails (message.OpenFailure recipient reason text language) r = refuses q fails r.line reason r refl
settles-heard q fails (message.Adjust recipient add) r = in-live q _ r.line (λ live. fails.live _)
settles-heard q fails (message.Data recipient bytes) r = inr (data-same (delivers r) bytes.now r)
settles-heard q fails (message.Extended recipient code bytes) r = inr refl
settles-heard q fails (message.Eof recipient) r = in-live q _ r.line (λ live. fails.live _)
settles-heard q fails (message.Close recipient) r = in-live q receives_close r.line (λ live. over-none q fails live.close_sent _)
settles-heard q fails (message.Request recipient kind want rest) r = in-live q _ r.line (λ live. fails.live _)
settles-heard q fails (message.Success recipient) r = inr refl
settles-heard q fails (message.Failure recipient) r = inr refl

pub settles-receives : (q : ChannelState → Bool) → FailsLater q → (m : Message) (a b : Life) → Listens m a b → SettlesBy q a.relay.line b.relay.line
settles-receives q fails m a b h =
    subst (λ (r : Relay). SettlesBy q a.relay.line r.line) (sym h.relay.0) (settles-heard q fails m a.relay)

pub settles-takes : (q : ChannelState → Bool) → FailsLater q → (bytes : List ℕ) (a b : Life) → RelayGoesBy (TakesOn bytes) (Takes bytes) a b
    → SettlesBy q a.relay.line b.relay.line
settles-takes q fails bytes a b h =
    subst (λ (r : Relay). SettlesBy q a.relay.line r.line) (sym h.relay.0) (in-live q _ a.relay.line (λ live. fails.live _))

abbrev pub with-line : ChannelState → Relay → Relay
with-line line r = record r { line = line }

pub settled-said : (q : ChannelState → Bool) → FailsLater q → (s : Outgoing) (live : LiveState) (r : Relay)
    → q (sent_of s (with-line (Live live) r)).line ≡ false
settled-said q fails outgoing.Open live r = fails.live _
settled-said q fails outgoing.Confirmation live r = fails.live _
settled-said q fails outgoing.OpenFailure live r = fails.over
settled-said q fails outgoing.Close live r = over-none q fails live.close_received _
settled-said q fails outgoing.Failure live r = fails.live _
settled-said q fails (outgoing.Data n) live r = fails.live _
settled-said q fails outgoing.Eof live r = fails.live _
settled-said q fails (outgoing.Adjust n) live r = fails.live _

pub line-step : (s : LinkStep) (r : Relay) → (relay_after s r).line ≡ r.line
line-step (step.Pause b) r = refl
line-step step.Finish r = refl
line-step step.End r = refl
line-step step.Close r = refl
line-step step.Writable r = refl
line-step step.Failed r = refl
