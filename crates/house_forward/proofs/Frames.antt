-- What holds of the relays of a trace and of the OPENs that were accepted, as frames are received.
use Rattle.std.proofs.Common.{◌≡◌, ◌∙◌, refl, sym, ap, subst, inl, inr, ℕ, Bool, true, false, List, [], ◌∷◌, ◌++◌, append_assoc, Option, Some, None}
use Rattle.std.specs.Prelude.{if◌then◌else◌, find, Result, Ok, Err}
use Rattle.std.specs.List.{list_any}
use Rattle.std.proofs.lemmas.List.{append-nil}
use Rattle.ssh_fields.specs.Fields.{take_u32}
use Rattle.ssh_grammar.specs.Frames.{Frame}
use Rattle.ssh_grammar.specs.Messages.{Message as Said}
use Rattle.ssh_grammar.specs.ReadMessage.{read_message as reading}
use Rattle.ssh_grammar.specs.declared.fault.Bad.{Bad}
use Rattle.conn_messages.specs.Message.{message_of}
use Rattle.conn_messages.specs.declared.message.Message.{Message}
use Rattle.conn_messages.specs.declared.message.Message.TheVariants as message
use Rattle.conn_messages.specs.declared.message.Opening.TheVariants as opens
use Rattle.conn_messages.specs.declared.key.Key.TheVariants as keys
use Rattle.house_forward.specs.Connects.{ConnectPlace, connect_places_of, taken_message, taken_reading, taken_frame, taken_frames}
use Rattle.house_forward.specs.Forwardings.{served_at}
use Rattle.house_forward.specs.RelayTraces.{Life, Trace, One, Listens, RelayReceivesAt, OpensFor, ReceivesMessage, ReceivesReading, ReceivesFrame, RelaysReceiveFrames}
use Rattle.house_forward.specs.RelayTraces.{has_channel, is_grant, cut_off, kept_in}
use Rattle.house_forward.specs.declared.forwarding.Forwarding.{Forwarding}
use Rattle.house_forward.specs.declared.forwarder_state.ForwarderStage.{ForwarderStage}
use Rattle.house_forward.specs.declared.forwarder_state.ForwarderStage.TheVariants.{Control, Proxy}
use Rattle.house_forward.proofs.Sound.{Each, All, Sound, offered_life, frame-sound}

-- what a message keeps, by the relays and the OPENs that were accepted
pub record Applies (K : List Life → List ConnectPlace → Type 0) : Type 0 where
  pub receives : (n : ℕ) (m : Message) (old new : List Life) (taken : List ConnectPlace) → Each Sound old → K old taken
      → One (has_channel n) (Listens m) old new → K (kept_in new) taken
  pub offers : (f : Forwarding) (number remote window maximum : ℕ) (old : List Life) (taken : List ConnectPlace)
      → list_any (has_channel number) old ≡ false → K old taken
      → K (old ++ offered_life f number remote window maximum ∷ []) (taken ++ connect_places_of (Some f))

nothing : (K : List Life → List ConnectPlace → Type 0) (old new : Trace) (taken : List ConnectPlace) → new.relay_traces ≡ old.relay_traces → K old.relay_traces taken
    → K new.relay_traces (taken ++ [])
nothing K old new taken e k =
    subst (λ (ps : List ConnectPlace). K new.relay_traces ps) (sym (append-nil taken)) (subst (λ (ls : List Life). K ls taken) (sym e) k)

same : (K : List Life → List ConnectPlace → Type 0) (old new : Trace) (taken : List ConnectPlace) → new ≡ old → K old.relay_traces taken
    → K new.relay_traces (taken ++ [])
same K old new taken e k = nothing K old new taken (ap (λ (c : Trace). c.relay_traces) e) k

at : (K : List Life → List ConnectPlace → Type 0) → Applies K → (n : ℕ) (m : Message) (old new : Trace) (taken : List ConnectPlace) → RelayReceivesAt n m old new
    → Each Sound old.relay_traces → K old.relay_traces taken → K new.relay_traces (taken ++ [])
at K applies n m old new taken (inl h) s k =
    subst (λ (ps : List ConnectPlace). K new.relay_traces ps) (sym (append-nil taken))
    (subst (λ (c : Trace). K c.relay_traces taken) (sym h.2) (applies.receives n m old.relay_traces h.0 taken s k h.1))
at K applies n m old new taken (inr h) s k = same K old new taken h.1 k

opens-for : (K : List Life → List ConnectPlace → Type 0) → Applies K → (o : Option Forwarding) (remote window maximum : ℕ) (old new : Trace)
    (taken : List ConnectPlace) → OpensFor o remote window maximum old new → K old.relay_traces taken → K new.relay_traces (taken ++ connect_places_of o)
opens-for K applies None remote window maximum old new taken h k = same K old new taken h k
opens-for K applies (Some f) remote window maximum old new taken h k =
    subst (λ (c : Trace). K c.relay_traces (taken ++ connect_places_of (Some f))) (sym h.more)
    (applies.offers f h.number remote window maximum old.relay_traces taken h.free k)

heard : (K : List Life → List ConnectPlace → Type 0) → Applies K → (m : Message) (old new : Trace) (taken : List ConnectPlace) → ReceivesMessage m old new
    → Each Sound old.relay_traces → K old.relay_traces taken → K new.relay_traces (taken ++ taken_message (message_of m) old.forwarding_state.all)
heard K applies (message.Transport number rest) old new taken h s k = same K old new taken h k
heard K applies (message.GlobalRequest name want rest what) old new taken h s k = same K old new taken h k
heard K applies (message.RequestSuccess rest) old new taken h s k = nothing K old new taken (ap (λ (c : Trace). c.relay_traces) h) k
heard K applies message.RequestFailure old new taken h s k = nothing K old new taken (ap (λ (c : Trace). c.relay_traces) h) k
heard K applies (message.Open kind sender window maximum rest opens.Session) old new taken h s k = same K old new taken h k
heard K applies (message.Open kind sender window maximum rest (opens.Direct key)) old new taken h s k = same K old new taken h k
heard K applies (message.Open kind sender window maximum rest (opens.Forwarded (keys.Tcp address port))) old new taken h s k =
    opens-for K applies (find (served_at address.now port) old.forwarding_state.all) sender window maximum old new taken h k
heard K applies (message.Open kind sender window maximum rest (opens.Forwarded (keys.Path path))) old new taken h s k = same K old new taken h k
heard K applies (message.Open kind sender window maximum rest opens.Other) old new taken h s k = same K old new taken h k
heard K applies (message.Confirmation recipient sender window maximum rest) old new taken h s k = at K applies recipient (message.Confirmation recipient sender window maximum rest) old new taken h s k
heard K applies (message.OpenFailure recipient reason text language) old new taken h s k = at K applies recipient (message.OpenFailure recipient reason text language) old new taken h s k
heard K applies (message.Adjust recipient add) old new taken h s k = at K applies recipient (message.Adjust recipient add) old new taken h s k
heard K applies (message.Data recipient bytes) old new taken h s k = at K applies recipient (message.Data recipient bytes) old new taken h s k
heard K applies (message.Extended recipient code bytes) old new taken h s k = at K applies recipient (message.Extended recipient code bytes) old new taken h s k
heard K applies (message.Eof recipient) old new taken h s k = at K applies recipient (message.Eof recipient) old new taken h s k
heard K applies (message.Close recipient) old new taken h s k = at K applies recipient (message.Close recipient) old new taken h s k
heard K applies (message.Request recipient kind want rest) old new taken h s k = at K applies recipient (message.Request recipient kind want rest) old new taken h s k
heard K applies (message.Success recipient) old new taken h s k = at K applies recipient (message.Success recipient) old new taken h s k
heard K applies (message.Failure recipient) old new taken h s k = at K applies recipient (message.Failure recipient) old new taken h s k

read : (K : List Life → List ConnectPlace → Type 0) → Applies K → (r : Result Said Bad) (old new : Trace) (taken : List ConnectPlace) → ReceivesReading r old new
    → Each Sound old.relay_traces → K old.relay_traces taken → K new.relay_traces (taken ++ taken_reading r old.forwarding_state.all)
read K applies (Err bad) old new taken h s k = same K old new taken h k
read K applies (Ok said) old new taken h s k =
    subst (λ (x : Said). K new.relay_traces (taken ++ taken_message x old.forwarding_state.all)) h.1 (heard K applies h.0 old new taken h.2 s k)

either : (b : Bool) (a old : Trace) → a.relay_traces ≡ old.relay_traces → (if b then a else old).relay_traces ≡ old.relay_traces
either true a old e = e
either false a old e = refl

frame : (K : List Life → List ConnectPlace → Type 0) → Applies K → (stage : ForwarderStage) (content : List ℕ) (old new : Trace) (taken : List ConnectPlace)
    → ReceivesFrame stage content old new → Each Sound old.relay_traces → K old.relay_traces taken
    → K new.relay_traces (taken ++ taken_frame stage content old.forwarding_state.all)
frame K applies Control content old new taken h s k =
    nothing K old new taken (ap (λ (c : Trace). c.relay_traces) h ∙ either (is_grant (take_u32 content)) _ old refl) k
frame K applies Proxy content old new taken h s k = read K applies (reading content) old new taken h s k

pub frames : (K : List Life → List ConnectPlace → Type 0) → Applies K → (contents : List (List ℕ)) (old new : Trace) (taken : List ConnectPlace)
    (h : RelaysReceiveFrames contents old new) → All Sound old → K old.relay_traces taken → K new.relay_traces (taken ++ taken_frames contents old new h)
frames K applies [] old new taken h s k = nothing K old new taken (ap (λ (c : Trace). c.relay_traces) h.1) k
frames K applies (content ∷ more) old new taken h s k =
    let cut = cut_off (Frame content h.0) old in
    let its : All Sound cut = record { relay_traces = s.relay_traces; past = s.past } in
    let one = frame K applies old.stage content cut h.2.0 taken h.2.1 s.relay_traces k in
    let rest = frames K applies more h.2.0 new (taken ++ taken_frame old.stage content old.forwarding_state.all) h.2.2
    (frame-sound old.stage content cut h.2.0 h.2.1 its) one in
    subst (λ (ps : List ConnectPlace). K new.relay_traces ps)
    (append_assoc taken (taken_frame old.stage content old.forwarding_state.all) (taken_frames more h.2.0 new h.2.2)) rest
