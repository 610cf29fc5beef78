-- How what the calls do of their own leads a trace on: what is read of the wire, what is given, and
-- what is received frame by frame.
use Rattle.std.proofs.Common.{◌≡◌, ◌∙◌, refl, sym, ap, subst, inl, inr, ◌⊎◌, Bor, ℕ, Bool, true, false, List, [], ◌∷◌, Option, Some, None}
use Rattle.std.specs.Prelude.{◌≢◌, ◌==◌, not, find, IfSome, IfNone, OnOk, IfOk, Result, Ok, Err}
use Rattle.std.specs.List.{list_any, position}
use Rattle.std.proofs.lemmas.Bool.{false≢true}
use Rattle.ssh_fields.specs.Fields.{take_u32}
use Rattle.ssh_grammar.specs.Frames.{Front, Frame, More, Faulty}
use Rattle.ssh_grammar.specs.Messages.{Message as Said}
use Rattle.ssh_grammar.specs.ReadMessage.{read_message as reading}
use Rattle.ssh_grammar.specs.declared.fault.Bad.{Bad}
use Rattle.ssh_grammar.specs.declared.framing.Framing.TheVariants as framing
use Rattle.conn_messages.specs.Message.{message_of}
use Rattle.conn_messages.specs.declared.message.Message.{Message}
use Rattle.conn_messages.specs.declared.message.Message.TheVariants as message
use Rattle.conn_messages.specs.declared.message.Opening.{Opening}
use Rattle.conn_messages.specs.declared.message.Opening.TheVariants as opens
use Rattle.conn_messages.specs.declared.key.Key.TheVariants as keys
use Rattle.proxy_frames.specs.State.{FramerState}
use Rattle.proxy_frames.specs.Steps.{pushed, switched, front_of, answer_to, after_front}
use Rattle.proxy_frames.specs.declared.next.Next.{Next}
use Rattle.proxy_frames.specs.declared.next.Next.TheVariants as next
use Rattle.mux_outside.specs.House.{sends_nothing}
use Rattle.mux_outside.specs.HouseCalls.{Receives as ReceivesBytes}
use Rattle.mux_outside.specs.Streams.{among}
use Rattle.house_forward.specs.ForwardingState.{ForwardingState, forwarding_state_of, reply_received, ForwardingsGo, OrdersListener, MakesListener, GetsListener}
use Rattle.house_forward.specs.Forwardings.{has_request, listeners_of, served_at}
use Rattle.house_forward.specs.Going.{LeavesAt, RelayReceivesOn, RelaySendsOn, MakesAt}
use Rattle.house_forward.specs.Links.{Offers, has_sending, is_awaited}
use Rattle.house_forward.specs.RelayTraces.{Trace, Held, IsTrace, GoesFurther, LinksGo, HouseGoes, ForwardingStateGoes, GetsNumber, as_held, forwarder_held_of, Follows, with_received, cut_off, RelaySendsIn}
use Rattle.house_forward.specs.Said.{framed, relay_sent_by}
use Rattle.house_forward.specs.RelayTraces.{RelayReceivesAt, OpensFor, ReceivesReply, ReceivesMessage, ReceivesReading, ReceivesFrame, RelaysReceiveFrames, ReceivesNext, is_grant, port_in}
use Rattle.house_forward.specs.declared.asks.PendingRequests.{PendingRequests}
use Rattle.house_forward.specs.declared.forwarding.Forwarding.{Forwarding}
use Rattle.house_forward.specs.declared.forwardings.Forwardings.{Forwardings}
use Rattle.house_forward.specs.declared.forwarder_state.ForwarderStage.{ForwarderStage}
use Rattle.house_forward.specs.declared.forwarder_state.ForwarderStage.TheVariants.{Control, Proxy}
use Rattle.house_forward.specs.declared.link.Link.{Link}
use Rattle.house_forward.specs.declared.ordering.Ordering.{Ordering}
use Rattle.house_forward.specs.declared.ordering.Ordering.TheVariants as ordering
use Rattle.house_forward.specs.declared.relays.Relays.{Relays}
use Rattle.house_forward.specs.declared.rules.ListenRules.{ListenRules}
use Rattle.house_forward.proofs.Traces.{of-same, receives, offers, says, makes, forwarding_state-goes, forwarding_state-becomes}

-- what goes on in one way does so in another that it gives
pub further : (P Q : Trace → Trace → Type 0) (old new : Held) → ((a b : Trace) → P a b → Q a b)
    → GoesFurther P old new → GoesFurther Q old new
further P Q old new f goes most trace is =
    let n = goes most trace is in
    (n.0, f trace n.0 n.1, n.2)

pub links-further : (P Q : Trace → Trace → Type 0) (old new : List Link) → ((a b : Trace) → P a b → Q a b)
    → LinksGo P old new → LinksGo Q old new
links-further P Q old new f goes framer stage forwarding_state =
    further P Q (as_held old framer stage forwarding_state) (as_held new framer stage forwarding_state) f (goes framer stage forwarding_state)

-- what changes nothing
pub stays : (P : Trace → Trace → Type 0) (h : Held) → ((a : Trace) → P a a) → GoesFurther P h h
stays P h same most trace is = (trace, same trace, is)

pub links-stay : (P : Trace → Trace → Type 0) (links : List Link) → ((a : Trace) → P a a) → LinksGo P links links
links-stay P links same framer stage forwarding_state = stays P (as_held links framer stage forwarding_state) same

-- where the links alone go on
pub links-house : (P : Trace → Trace → Type 0) (relays relays' : Relays) (fs : Forwardings) (asks : PendingRequests)
    → LinksGo P relays.all.items relays'.all.items → HouseGoes P relays fs asks relays' fs asks
links-house P relays relays' fs asks goes framer stage rules greeted = goes framer stage (forwarding_state_of rules greeted fs asks)

-- ---- a payload

-- what is no message
pub no-message : (reading : Result Said Bad) (bad : Bad) (relays : Relays) (fs : Forwardings) (asks : PendingRequests) → reading ≡ Err bad
    → HouseGoes (ReceivesReading reading) relays fs asks relays fs asks
no-message reading bad relays fs asks e =
    links-house (ReceivesReading reading) relays relays fs asks
    (subst (λ (r : Result Said Bad). LinksGo (ReceivesReading r) relays.all.items relays.all.items) (sym e)
    (links-stay (ReceivesReading (Err bad)) relays.all.items (λ a. refl)))

-- a message
pub a-message : (reading : Result Said Bad) (m : Message) (relays : Relays) (fs : Forwardings) (asks : PendingRequests)
    (relays' : Relays) (fs' : Forwardings) (asks' : PendingRequests) → reading ≡ Ok (message_of m)
    → HouseGoes (ReceivesMessage m) relays fs asks relays' fs' asks' → HouseGoes (ReceivesReading reading) relays fs asks relays' fs' asks'
a-message reading m relays fs asks relays' fs' asks' e goes framer stage rules greeted =
    let old = forwarder_held_of relays framer stage rules greeted fs asks in
    let new = forwarder_held_of relays' framer stage rules greeted fs' asks' in
    subst (λ (r : Result Said Bad). GoesFurther (ReceivesReading r) old new) (sym e)
    (further (ReceivesMessage m) (ReceivesReading (Ok (message_of m))) old new (λ a b h. (m, refl, h)) (goes framer stage rules greeted))

-- an OPEN for a forwarding
an-open : (address : List ℕ) (port remote window maximum : ℕ) (o : Option Forwarding) (old new : List Link) (framer : FramerState)
    (stage : ForwarderStage) (forwarding_state : ForwardingState) → o ≡ find (served_at address port) forwarding_state.all → (o ≡ None → new ≡ old)
    → IfSome o (λ f. Offers f remote window maximum old new)
    → GoesFurther (λ (a : Trace) (b : Trace). OpensFor (find (served_at address port) a.forwarding_state.all) remote window maximum a b)
    (as_held old framer stage forwarding_state) (as_held new framer stage forwarding_state)
an-open address port remote window maximum None old new framer stage forwarding_state is none some = λ most trace its.
    let same = ap (λ (d : ForwardingState). find (served_at address port) d.all) its.forwarding_state_is ∙ sym is in (
      trace,
      subst (λ (x : Option Forwarding). OpensFor x remote window maximum trace trace) (sym same) refl,
      of-same most trace framer stage forwarding_state old new (none refl) its,
    )
an-open address port remote window maximum (Some f) old new framer stage forwarding_state is none some = λ most trace its.
    let same = ap (λ (d : ForwardingState). find (served_at address port) d.all) its.forwarding_state_is ∙ sym is in
    let n = offers f remote window maximum old new some framer stage forwarding_state most trace its in (
      n.0,
      subst (λ (x : Option Forwarding). OpensFor x remote window maximum trace n.0) (sym same) n.1,
      n.2,
    )

pub a-forwarded : (reading : Result Said Bad) (m : Message) (kind rest address : Bor (List ℕ)) (remote window maximum port : ℕ) (what : Opening)
    (o : Option Forwarding) (relays relays' : Relays) (fs : Forwardings) (asks : PendingRequests) → reading ≡ Ok (message_of m)
    → m ≡ message.Open kind remote window maximum rest what → what ≡ opens.Forwarded (keys.Tcp address port)
    → o ≡ find (served_at address.now port) fs.all.items → (o ≡ None → relays'.all.items ≡ relays.all.items)
    → IfSome o (λ f. Offers f remote window maximum relays.all.items relays'.all.items)
    → HouseGoes (ReceivesReading reading) relays fs asks relays' fs asks
a-forwarded reading m kind rest address remote window maximum port what o relays relays' fs asks e is forwarded found none some =
    a-message reading m relays fs asks relays' fs asks e
    (subst (λ (x : Message). HouseGoes (ReceivesMessage x) relays fs asks relays' fs asks) (sym is)
    (subst (λ (w : Opening). HouseGoes (ReceivesMessage (message.Open kind remote window maximum rest w)) relays fs asks relays' fs asks) (sym forwarded)
    (λ framer stage rules greeted.
    an-open address.now port remote window maximum o relays.all.items relays'.all.items framer stage (forwarding_state_of rules greeted fs asks) found none some)))

-- a reply of the server
replies : (success : Bool) (port : Option ℕ) (relays : Relays) (fs : Forwardings) (asks : PendingRequests) (fs' : Forwardings) (asks' : PendingRequests)
    → ForwardingsGo (λ old new. new ≡ reply_received success port old) fs asks fs' asks'
    → HouseGoes (ReceivesReply success port) relays fs asks relays fs' asks'
replies success port relays fs asks fs' asks' goes framer stage rules greeted =
    forwarding_state-becomes (reply_received success port) (forwarder_held_of relays framer stage rules greeted fs asks)
    (forwarder_held_of relays framer stage rules greeted fs' asks')
    (ap (λ (d : ForwardingState). as_held relays.all.items framer stage d) (goes rules greeted))

-- the port that a success carries
pub port-read : (o : Option ℕ) (bytes rest : List ℕ) → IfSome o (λ n. take_u32 bytes ≡ Some (n, rest))
    → IfNone o (take_u32 bytes ≡ None) → o ≡ port_in (take_u32 bytes)
port-read None bytes rest some none = sym (ap port_in none)
port-read (Some n) bytes rest some none = sym (ap port_in some)

pub a-success : (reading : Result Said Bad) (m : Message) (rest : Bor (List ℕ)) (port : Option ℕ) (relays : Relays) (fs : Forwardings) (asks : PendingRequests)
    (fs' : Forwardings) (asks' : PendingRequests) → reading ≡ Ok (message_of m) → m ≡ message.RequestSuccess rest → port ≡ port_in (take_u32 rest.now)
    → ForwardingsGo (λ old new. new ≡ reply_received true port old) fs asks fs' asks' → HouseGoes (ReceivesReading reading) relays fs asks relays fs' asks'
a-success reading m rest port relays fs asks fs' asks' e is its r =
    a-message reading m relays fs asks relays fs' asks' e
    (subst (λ (x : Message). HouseGoes (ReceivesMessage x) relays fs asks relays fs' asks') (sym is)
    (subst (λ (o : Option ℕ). HouseGoes (ReceivesReply true o) relays fs asks relays fs' asks') its (replies true port relays fs asks fs' asks' r)))

pub a-failure : (reading : Result Said Bad) (m : Message) (relays : Relays) (fs : Forwardings) (asks : PendingRequests)
    (fs' : Forwardings) (asks' : PendingRequests) → reading ≡ Ok (message_of m) → m ≡ message.RequestFailure
    → ForwardingsGo (λ old new. new ≡ reply_received false None old) fs asks fs' asks' → HouseGoes (ReceivesReading reading) relays fs asks relays fs' asks'
a-failure reading m relays fs asks fs' asks' e is r =
    a-message reading m relays fs asks relays fs' asks' e
    (subst (λ (x : Message). HouseGoes (ReceivesMessage x) relays fs asks relays fs' asks') (sym is)
    (replies false None relays fs asks fs' asks' r))

-- the channel of a message, if it is in one
abbrev pub channel_of : Message → Option ℕ
channel_of (message.Transport number rest) = None
channel_of (message.GlobalRequest name want rest what) = None
channel_of (message.RequestSuccess rest) = None
channel_of message.RequestFailure = None
channel_of (message.Open kind sender window maximum rest what) = None
channel_of (message.Confirmation recipient sender window maximum rest) = Some recipient
channel_of (message.OpenFailure recipient reason text language) = Some recipient
channel_of (message.Adjust recipient add) = Some recipient
channel_of (message.Data recipient bytes) = Some recipient
channel_of (message.Extended recipient code bytes) = Some recipient
channel_of (message.Eof recipient) = Some recipient
channel_of (message.Close recipient) = Some recipient
channel_of (message.Request recipient kind want rest) = Some recipient
channel_of (message.Success recipient) = Some recipient
channel_of (message.Failure recipient) = Some recipient

-- it is one of those that are in a channel
abbrev pub IsInChannel : Message → ℕ → Type 0
IsInChannel m n =
    ((sender window maximum : ℕ) × (rest : Bor (List ℕ)) × m ≡ message.Confirmation n sender window maximum rest)
    ⊎ (((reason : ℕ) × (text language : Bor (List ℕ)) × m ≡ message.OpenFailure n reason text language)
    ⊎ (((add : ℕ) × m ≡ message.Adjust n add)
    ⊎ (((bytes : Bor (List ℕ)) × m ≡ message.Data n bytes)
    ⊎ (((code : ℕ) × (bytes : Bor (List ℕ)) × m ≡ message.Extended n code bytes)
    ⊎ ((m ≡ message.Eof n)
    ⊎ ((m ≡ message.Close n)
    ⊎ (((kind : Bor (List ℕ)) × (want : Bool) × (rest : Bor (List ℕ)) × m ≡ message.Request n kind want rest)
    ⊎ ((m ≡ message.Success n)
    ⊎ (m ≡ message.Failure n)))))))))

pub its-channel : (m : Message) (n : ℕ) → IsInChannel m n → channel_of m ≡ Some n
its-channel m n (inl x) = ap (λ (k : Message). channel_of k) x.4
its-channel m n (inr (inl x)) = ap (λ (k : Message). channel_of k) x.3
its-channel m n (inr (inr (inl x))) = ap (λ (k : Message). channel_of k) x.1
its-channel m n (inr (inr (inr (inl x)))) = ap (λ (k : Message). channel_of k) x.1
its-channel m n (inr (inr (inr (inr (inl x))))) = ap (λ (k : Message). channel_of k) x.2
its-channel m n (inr (inr (inr (inr (inr (inl e)))))) = ap (λ (k : Message). channel_of k) e
its-channel m n (inr (inr (inr (inr (inr (inr (inl e))))))) = ap (λ (k : Message). channel_of k) e
its-channel m n (inr (inr (inr (inr (inr (inr (inr (inl x)))))))) = ap (λ (k : Message). channel_of k) x.3
its-channel m n (inr (inr (inr (inr (inr (inr (inr (inr (inl e))))))))) = ap (λ (k : Message). channel_of k) e
its-channel m n (inr (inr (inr (inr (inr (inr (inr (inr (inr e))))))))) = ap (λ (k : Message). channel_of k) e

its : (n r : ℕ) → Some r ≡ Some n → n ≡ r
its n r e = cc

pub in-channel : (m : Message) (n : ℕ) → channel_of m ≡ Some n → (a b : Trace) → RelayReceivesAt n m a b → ReceivesMessage m a b
in-channel (message.Transport number rest) n e a b h = cc
in-channel (message.GlobalRequest name want rest what) n e a b h = cc
in-channel (message.RequestSuccess rest) n e a b h = cc
in-channel message.RequestFailure n e a b h = cc
in-channel (message.Open kind sender window maximum rest what) n e a b h = cc
in-channel (message.Confirmation recipient sender window maximum rest) n e a b h =
    subst (λ (k : ℕ). RelayReceivesAt k (message.Confirmation recipient sender window maximum rest) a b) (its n recipient e) h
in-channel (message.OpenFailure recipient reason text language) n e a b h =
    subst (λ (k : ℕ). RelayReceivesAt k (message.OpenFailure recipient reason text language) a b) (its n recipient e) h
in-channel (message.Adjust recipient add) n e a b h =
    subst (λ (k : ℕ). RelayReceivesAt k (message.Adjust recipient add) a b) (its n recipient e) h
in-channel (message.Data recipient bytes) n e a b h =
    subst (λ (k : ℕ). RelayReceivesAt k (message.Data recipient bytes) a b) (its n recipient e) h
in-channel (message.Extended recipient code bytes) n e a b h =
    subst (λ (k : ℕ). RelayReceivesAt k (message.Extended recipient code bytes) a b) (its n recipient e) h
in-channel (message.Eof recipient) n e a b h =
    subst (λ (k : ℕ). RelayReceivesAt k (message.Eof recipient) a b) (its n recipient e) h
in-channel (message.Close recipient) n e a b h =
    subst (λ (k : ℕ). RelayReceivesAt k (message.Close recipient) a b) (its n recipient e) h
in-channel (message.Request recipient kind want rest) n e a b h =
    subst (λ (k : ℕ). RelayReceivesAt k (message.Request recipient kind want rest) a b) (its n recipient e) h
in-channel (message.Success recipient) n e a b h =
    subst (λ (k : ℕ). RelayReceivesAt k (message.Success recipient) a b) (its n recipient e) h
in-channel (message.Failure recipient) n e a b h =
    subst (λ (k : ℕ). RelayReceivesAt k (message.Failure recipient) a b) (its n recipient e) h

-- a message in a channel
pub a-channel-message : (reading : Result Said Bad) (m : Message) (n : ℕ) (relays relays' : Relays) (fs : Forwardings) (asks : PendingRequests)
    → reading ≡ Ok (message_of m) → channel_of m ≡ Some n
    → LeavesAt (position (λ l. l.relay.number == n) relays.all.items) (RelayReceivesOn m) relays.all.items relays'.all.items
    → HouseGoes (ReceivesReading reading) relays fs asks relays' fs asks
a-channel-message reading m n relays relays' fs asks e in-it goes =
    a-message reading m relays fs asks relays' fs asks e
    (links-house (ReceivesMessage m) relays relays' fs asks
    (links-further (RelayReceivesAt n m) (ReceivesMessage m) relays.all.items relays'.all.items (in-channel m n in-it)
    (receives n m relays.all.items relays'.all.items goes)))

-- ---- a frame

pub grants : (content : List ℕ) (links : List Link) (framer : FramerState) (forwarding_state : ForwardingState) → is_grant (take_u32 content) ≡ true
    → GoesFurther (ReceivesFrame Control content) (as_held links framer Control forwarding_state) (as_held links (switched framing.Proxy framer) Proxy forwarding_state)
grants content links framer forwarding_state e most trace is = (
  record trace { stage = Proxy; framer = switched framing.Proxy trace.framer },
  rw e refl,
  record {
    relay_traces = is.relay_traces;
    past = is.past;
    framer_is = ap (switched framing.Proxy) is.framer_is;
    stage_is = refl;
    forwarding_state_is = is.forwarding_state_is;
  },
)

pub grants-none : (content : List ℕ) (links : List Link) (framer : FramerState) (forwarding_state : ForwardingState) → is_grant (take_u32 content) ≡ false
    → GoesFurther (ReceivesFrame Control content) (as_held links framer Control forwarding_state) (as_held links framer Control forwarding_state)
grants-none content links framer forwarding_state e most trace is = (trace, rw e refl, is)

-- where the next is no frame
pub receives-none : (links : List Link) (framer : FramerState) (stage : ForwarderStage) (forwarding_state : ForwardingState) → answer_to (front_of framer) ≢ next.Frame
    → GoesFurther (ReceivesNext false) (as_held links framer stage forwarding_state) (as_held links (after_front (front_of framer) framer) stage forwarding_state)
receives-none links framer stage forwarding_state none most trace is = (
  cut_off (front_of trace.framer) trace,
  (subst (λ (f : FramerState). answer_to (front_of f) ≢ next.Frame) (sym is.framer_is) none, refl),
  record {
    relay_traces = is.relay_traces;
    past = is.past;
    framer_is = ap (λ (f : FramerState). after_front (front_of f) f) is.framer_is;
    stage_is = is.stage_is;
    forwarding_state_is = is.forwarding_state_is;
  },
)

-- where it is one
receives-it : (content rest : List ℕ) (links : List Link) (framer : FramerState) (stage : ForwarderStage) (forwarding_state : ForwardingState) (new : Held)
    → front_of framer ≡ Frame content rest
    → GoesFurther (ReceivesFrame stage content) (as_held links (after_front (Frame content rest) framer) stage forwarding_state) new
    → GoesFurther (ReceivesNext true) (as_held links framer stage forwarding_state) new
receives-it content rest links framer stage forwarding_state new front goes most trace is =
    let n = goes most (cut_off (Frame content rest) trace) (record {
      relay_traces = is.relay_traces;
      past = is.past;
      framer_is = ap (after_front (Frame content rest)) is.framer_is;
      stage_is = is.stage_is;
      forwarding_state_is = is.forwarding_state_is;
    }) in (
      n.0,
      (
        content,
        rest,
        ap front_of is.framer_is ∙ front,
        subst (λ (s : ForwarderStage). ReceivesFrame s content (cut_off (Frame content rest) trace) n.0) (sym is.stage_is) n.1,
      ),
      n.2,
    )

pub receives-front : (front : Front) (links : List Link) (framer : FramerState) (stage : ForwarderStage) (forwarding_state : ForwardingState) (new : Held)
    → front_of framer ≡ front → answer_to front ≡ next.Frame
    → IfSome (after_front front framer).current (λ content. GoesFurther (ReceivesFrame stage content)
    (as_held links (after_front front framer) stage forwarding_state) new)
    → GoesFurther (ReceivesNext true) (as_held links framer stage forwarding_state) new
receives-front (Frame content rest) links framer stage forwarding_state new front is goes =
    receives-it content rest links framer stage forwarding_state new front goes
receives-front More links framer stage forwarding_state new front is goes = cc
receives-front (Faulty fault) links framer stage forwarding_state new front is goes = cc

-- ---- as the frame is current

-- one that grants the proxy
pub grants-frame : (current : Option (List ℕ)) (content : List ℕ) (links : List Link) (framer after : FramerState) (stage : ForwarderStage) (forwarding_state : ForwardingState)
    → stage ≡ Control → current ≡ Some content → is_grant (take_u32 content) ≡ true → after ≡ switched framing.Proxy framer
    → IfSome current (λ x. GoesFurther (ReceivesFrame stage x) (as_held links framer stage forwarding_state) (as_held links after Proxy forwarding_state))
grants-frame current content links framer after stage forwarding_state control is grant same =
    subst (λ (o : Option (List ℕ)). IfSome o (λ x. GoesFurther (ReceivesFrame stage x) (as_held links framer stage forwarding_state) (as_held links after Proxy forwarding_state))) (sym is)
    (subst (λ (s : ForwarderStage). GoesFurther (ReceivesFrame s content) (as_held links framer s forwarding_state) (as_held links after Proxy forwarding_state)) (sym control)
    (subst (λ (f : FramerState). GoesFurther (ReceivesFrame Control content) (as_held links framer Control forwarding_state) (as_held links f Proxy forwarding_state)) (sym same)
    (grants content links framer forwarding_state grant)))

-- a payload
pub proxy-frame : (current : Option (List ℕ)) (content : List ℕ) (relays : Relays) (fs : Forwardings) (asks : PendingRequests)
    (relays' : Relays) (fs' : Forwardings) (asks' : PendingRequests) (framer : FramerState) (stage : ForwarderStage) (rules : ListenRules) (greeted : Bool)
    → stage ≡ Proxy → current ≡ Some content → HouseGoes (ReceivesReading (reading content)) relays fs asks relays' fs' asks'
    → IfSome current (λ x. GoesFurther (ReceivesFrame stage x) (forwarder_held_of relays framer stage rules greeted fs asks)
    (forwarder_held_of relays' framer stage rules greeted fs' asks'))
proxy-frame current content relays fs asks relays' fs' asks' framer stage rules greeted proxy is goes =
    subst (λ (o : Option (List ℕ)). IfSome o (λ x. GoesFurther (ReceivesFrame stage x) (forwarder_held_of relays framer stage rules greeted fs asks)
    (forwarder_held_of relays' framer stage rules greeted fs' asks'))) (sym is)
    (subst (λ (s : ForwarderStage). GoesFurther (ReceivesFrame s content) (forwarder_held_of relays framer s rules greeted fs asks)
    (forwarder_held_of relays' framer s rules greeted fs' asks')) (sym proxy) (goes framer Proxy rules greeted))

-- as it is cut
pub next-receives : (answer : Next) (links : List Link) (framer cut : FramerState) (stage : ForwarderStage) (forwarding_state : ForwardingState) (new : Held)
    → answer ≡ answer_to (front_of framer) → answer ≡ next.Frame → cut ≡ after_front (front_of framer) framer
    → IfSome cut.current (λ content. GoesFurther (ReceivesFrame stage content) (as_held links cut stage forwarding_state) new)
    → GoesFurther (ReceivesNext true) (as_held links framer stage forwarding_state) new
next-receives answer links framer cut stage forwarding_state new is one same goes =
    receives-front (front_of framer) links framer stage forwarding_state new refl (sym is ∙ one)
    (subst (λ (f : FramerState). IfSome f.current (λ content. GoesFurther (ReceivesFrame stage content) (as_held links f stage forwarding_state) new))
    same goes)

-- ---- frame by frame

-- whatever the frames that come bring what is now to, they and those before bring what was to it
abbrev pub LeadsOn : Held → Held → Type 0
LeadsOn old now = (most : ℕ) (trace : Trace) → IsTrace most trace old
    → (middle : Trace) × IsTrace most middle now
    × ((contents : List (List ℕ)) (last : Trace) → RelaysReceiveFrames contents middle last
    → (more : List (List ℕ)) × RelaysReceiveFrames more trace last)

pub leads-first : (h : Held) → LeadsOn h h
leads-first h most trace is = (trace, is, λ contents last more. (contents, more))

pub leads-next : (old now new : Held) → LeadsOn old now → GoesFurther (ReceivesNext true) now new → LeadsOn old new
leads-next old now new leads goes most trace is =
    let m = leads most trace is in
    let n = goes most m.0 m.1 in
    (n.0, n.2, λ contents last more. m.2 (n.1.0 ∷ contents) last (n.1.1, n.1.2, (n.0, n.1.3, more)))

pub leads-last : (bytes : List ℕ) (links : List Link) (framer : FramerState) (stage : ForwarderStage) (forwarding_state : ForwardingState) (now new : Held)
    → LeadsOn (as_held links (pushed bytes framer) stage forwarding_state) now → GoesFurther (ReceivesNext false) now new
    → GoesFurther (Follows (ReceivesBytes bytes)) (as_held links framer stage forwarding_state) new
leads-last bytes links framer stage forwarding_state now new leads goes most trace is =
    let m = leads most (with_received bytes trace) (record {
      relay_traces = is.relay_traces;
      past = is.past;
      framer_is = ap (pushed bytes) is.framer_is;
      stage_is = is.stage_is;
      forwarding_state_is = is.forwarding_state_is;
    }) in
    let n = goes most m.0 m.1 in
    (n.0, m.2 [] n.0 n.1, n.2)

-- ---- what is sent

pub one-is : (b : Bool) → false ≡ not b → b ≡ true
one-is true e = refl
one-is false e = cc

-- a relay, where the forwarder greeted and has no request, and one has something to send
pub says-one : {E : Type 0} (o : Result Bool E) (bytes : List ℕ) (old new : List Link) (framer : FramerState) (stage : ForwarderStage) (forwarding_state : ForwardingState)
    → forwarding_state.greeted ≡ true → find has_request forwarding_state.all ≡ None
    → OnOk o (sends_nothing o ≡ not (list_any has_sending old))
    → OnOk o (IfSome (find has_sending old) (λ l. bytes ≡ framed (relay_sent_by l.relay)))
    → OnOk o (LeavesAt (position has_sending old) RelaySendsOn old new)
    → IfOk o (λ said. said ≡ true → GoesFurther (RelaySendsIn bytes) (as_held old framer stage forwarding_state) (as_held new framer stage forwarding_state))
says-one (Ok true) bytes old new framer stage forwarding_state greeted none is spelled goes =
    λ yes. says bytes old new framer stage forwarding_state greeted none (one-is (list_any has_sending old) is) spelled goes
says-one (Ok false) bytes old new framer stage forwarding_state greeted none is spelled goes = λ yes. absurd (false≢true yes)
says-one (Err e) bytes old new framer stage forwarding_state greeted none is spelled goes = tt

-- ---- what a call leaves

-- where it changes the relays alone
pub relays-alone : (P : Trace → Trace → Type 0) (old : Held) (links : List Link) (f g : FramerState) (s t : ForwarderStage) (d e : ForwardingState)
    → g ≡ f → t ≡ s → e ≡ d → GoesFurther P old (as_held links f s d) → GoesFurther P old (as_held links g t e)
relays-alone P old links f g s t d e framer stage forwarding_state goes =
    subst (λ (x : FramerState). GoesFurther P old (as_held links x t e)) (sym framer)
    (subst (λ (x : ForwarderStage). GoesFurther P old (as_held links f x e)) (sym stage)
    (subst (λ (x : ForwardingState). GoesFurther P old (as_held links f s x)) (sym forwarding_state) goes))

pub same-forwarding_state : (rules rules' : ListenRules) (greeted greeted' : Bool) (fs fs' : Forwardings) (asks asks' : PendingRequests) → rules' ≡ rules → greeted' ≡ greeted
    → fs' ≡ fs → asks' ≡ asks → forwarding_state_of rules' greeted' fs' asks' ≡ forwarding_state_of rules greeted fs asks
same-forwarding_state rules rules' greeted greeted' fs fs' asks asks' e f g h = rw (e, f, g, h) refl

-- ---- what is made

-- whether a socket is ordered, and whether a listener is
abbrev pub connects : Option Ordering → Bool
connects None = false
connects (Some (ordering.Listen host port)) = false
connects (Some (ordering.Connect host port)) = true

abbrev pub listens : Option Ordering → Bool
listens None = false
listens (Some (ordering.Listen host port)) = true
listens (Some (ordering.Connect host port)) = false

connect-of : (o : Option Ordering) → connects o ≡ true → (host : List ℕ) × (port : ℕ) × (o ≡ Some (ordering.Connect host port))
connect-of None is = cc
connect-of (Some (ordering.Listen host port)) is = cc
connect-of (Some (ordering.Connect host port)) is = (host, port, refl)

listen-of : (o : Option Ordering) → listens o ≡ true → (host : List ℕ) × (port : ℕ) × (o ≡ Some (ordering.Listen host port))
listen-of None is = cc
listen-of (Some (ordering.Listen host port)) is = (host, port, refl)
listen-of (Some (ordering.Connect host port)) is = cc

made-number : (host : List ℕ) (port : ℕ) (number : Option ℕ) (old new : Held) → new ≡ record old { links = new.links }
    → MakesAt (position is_awaited old.links) number old.links new.links
    → GetsNumber (Some (ordering.Connect host port)) number old new
made-number host port number old new others goes = λ before awaits. makes host port number before old new awaits others goes

pub made-so : (o : Option Ordering) (number : Option ℕ) (old new : Held) → connects o ≡ true → new ≡ record old { links = new.links }
    → MakesAt (position is_awaited old.links) number old.links new.links → GetsNumber o number old new
made-so o number old new is others goes =
    let c = connect-of o is in
    subst (λ (x : Option Ordering). GetsNumber x number old new) (sym c.2) (made-number c.0 c.1 number old new others goes)

-- what goes on of the forwardings does so of the forwarder
pub forwarding_state-by : (so : ForwardingState → ForwardingState → Type 0) (relays : Relays) (framer : FramerState) (stage : ForwarderStage) (rules : ListenRules) (greeted : Bool)
    (fs : Forwardings) (asks : PendingRequests) (fs' : Forwardings) (asks' : PendingRequests) → ForwardingsGo so fs asks fs' asks'
    → ForwardingStateGoes so (forwarder_held_of relays framer stage rules greeted fs asks) (forwarder_held_of relays framer stage rules greeted fs' asks')
forwarding_state-by so relays framer stage rules greeted fs asks fs' asks' goes = (refl, goes rules greeted)

-- no other listener has this number
abbrev pub IsFresh : Option ℕ → ForwardingState → Type 0
IsFresh number d = IfSome number (λ l. among l (listeners_of d.all) ≡ false)

-- what was ordered of the forwarding state, and its outcome
both-forwarding_states : (host : List ℕ) (port : ℕ) (number : Option ℕ) (before old new : Held) → ForwardingStateGoes (OrdersListener host port) before old
    → IsFresh number old.forwarding_state → ForwardingStateGoes (MakesListener number) old new → ForwardingStateGoes (GetsListener host port number) before new
both-forwarding_states host port number before old new a fresh b = (
  b.0 ∙ ap (λ (h : Held). record h { forwarding_state = new.forwarding_state }) a.0,
  record { between = old.forwarding_state; orders = a.1; fresh = fresh; makes = b.1 },
)

listened-number : (host : List ℕ) (port : ℕ) (number : Option ℕ) (old new : Held) → IsFresh number old.forwarding_state
    → ForwardingStateGoes (MakesListener number) old new → GetsNumber (Some (ordering.Listen host port)) number old new
listened-number host port number old new fresh goes = λ before awaits.
    forwarding_state-goes (GetsListener host port number) before new (both-forwarding_states host port number before old new awaits fresh goes)

pub listened-so : (o : Option Ordering) (number : Option ℕ) (old new : Held) → listens o ≡ true → IsFresh number old.forwarding_state
    → ForwardingStateGoes (MakesListener number) old new → GetsNumber o number old new
listened-so o number old new is fresh goes =
    let l = listen-of o is in
    subst (λ (x : Option Ordering). GetsNumber x number old new) (sym l.2) (listened-number l.0 l.1 number old new fresh goes)
