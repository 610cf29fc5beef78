-- What the forwarder sends reads as what it is meant to send.
use Rattle.std.proofs.Common.{◌≡◌, ◌≤◌, ◌<◌, ◌-◌, ◌/◌, ◌%◌, ◌^◌, ℕ, min, Bool, true, false, Option, Some, None, List, [], ◌∷◌, ◌++◌, refl, sym, ap, ◌∙◌, subst, arith, map, append-nil, length, length-append, length-take, take, drop, Result, Ok, Err}
use Rattle.std.specs.Prelude.{codes, nat_lt, if◌then◌else◌, ◌&&◌, not}
use Rattle.std.proofs.lemmas.List.{drop_at}
use Rattle.ssh_fields.specs.Fields.{AreBytes, u32, str, of_four}
use Rattle.ssh_fields.proofs.Fields.{of_four-fits, u32-of_four}
use Rattle.ssh_grammar.specs.declared.framing.Framing.TheVariants as framing
use Rattle.ssh_grammar.specs.declared.fault.Bad.{Bad}
use Rattle.ssh_grammar.specs.declared.numbers.TheConstants.{CONNECT_FAILED, VERSION}
use Rattle.ssh_grammar.specs.Messages as full
use Rattle.ssh_grammar.specs.Messages.{Key, Tcp, Global, Forward, Cancel, KeepAlive, OtherName, Direct, Message, direct_type, forward_name, cancel_name}
use Rattle.ssh_grammar.specs.IsMessage.{Spells}
use Rattle.ssh_grammar.specs.Frames.{Frame, first_frame}
use Rattle.ssh_grammar.specs.Control.{Hello, Proxy}
use Rattle.ssh_grammar.specs.ReadControl.{read_control}
use Rattle.ssh_grammar.specs.Said.{Mode, InControl, InProxy, Outgoing as Spoken, Body, Payload, Parsed, parse, said}
use Rattle.ssh_grammar.proofs.MessageSpelled.{spelled_reads}
use Rattle.ssh_grammar.proofs.Frames.{first-frame}
use Rattle.ssh_grammar.proofs.Parses.{parse-at, parse-append}
use Rattle.mux_outside.specs.declared.greeting.TheConstants.{GREETING}
use Rattle.mux_history.specs.Summary.{Answers, Carries, Closes, Ends, Fails, Grants, Summary, Open as Opens, Confirmation as Confirms, Requests, Within, summary, read_summary}
use Rattle.mux_history.specs.Journal.{new_sayings, sent_item}
use Rattle.mux_history.specs.Rows.{Says}
use Rattle.mux_history.specs.declared.limits.TheConstants.{HOUSE}
use Rattle.house_relay.specs.Next.{chunk, sends_held, sends_in, sends_live, sends_of, sends_offered}
use Rattle.house_relay.specs.Relay.{is_to_be_closed}
use Rattle.house_relay.specs.declared.line.Live.{Live as LiveState}
use Rattle.house_relay.specs.declared.line.ChannelState.{ChannelState}
use Rattle.house_relay.specs.declared.line.ChannelState.TheVariants.{Dialing, Asked, Opened, Offered, Live, Over}
use Rattle.house_relay.specs.declared.relay.Relay.{Relay}
use Rattle.house_relay.specs.declared.relay.Outgoing.{Outgoing}
use Rattle.house_relay.specs.declared.relay.Outgoing.TheVariants.{Open, Confirmation, OpenFailure, Close, Failure, Data, Eof, Adjust}
use Rattle.house_relay.specs.declared.relay.RelaySocket.{RelaySocket}
use Rattle.house_relay.specs.declared.relay.RelaySocket.TheVariants as socket
use Rattle.house_forward.specs.Forwardings.{has_request}
use Rattle.house_forward.specs.Said.{framed, direct, confirmation_of_open, not_connected, forwarding_request, request_payload, request_name, request_port, payload_of, said_payload_in, sent_in_live, in_offer}
use Rattle.house_forward.specs.declared.forwarding.Forwarding.{Forwarding}
use Rattle.house_forward.specs.declared.forwarding.Stage.{Stage}
use Rattle.house_forward.specs.declared.forwarding.Stage.TheVariants.{ToListen, Ordered, Listening, ToRequest, Requested, Live as ServedOn, Cancelling}

-- ---- numbers and lengths

-- four bytes are those of a number that they hold
record AsFour (n : ℕ) : Type 0 where
  four : ℕ
  fits : four < 2 ^ 32
  same : u32 n ≡ u32 four

byte : (n : ℕ) → n % 256 < 256
byte n = omega arith

as-four : (n : ℕ) → AsFour n
as-four n =
    let a = (n / 16777216) % 256 in let b = (n / 65536) % 256 in let c = (n / 256) % 256 in let d = n % 256 in
    record {
      four = of_four a b c d;
      fits = of_four-fits a b c d (byte (n / 16777216)) (byte (n / 65536)) (byte (n / 256)) (byte n);
      same = sym (u32-of_four a b c d (byte (n / 16777216)) (byte (n / 65536)) (byte (n / 256)) (byte n));
    }

-- a payload of a message has its summary
reads-as : (m : Message) (p : List ℕ) → Spells m p → read_summary p ≡ Ok (summary m)
reads-as m p is = ap (λ (r : Result Message Bad). elim r as (λ _. Result Summary Bad) [ Ok m ↦ Ok (summary m) | Err e ↦ Err e ]) (spelled_reads m p is)

-- ---- what a relay sends

-- the numbers of both ends are uint32
abbrev pub SmallIn : ChannelState → Type 0
SmallIn (Dialing dialog) = Unit {0}
SmallIn (Asked host port version) = Unit {0}
SmallIn (Opened version) = Unit {0}
SmallIn (Offered remote window maximum) = remote < 2 ^ 32
SmallIn (Live live) = live.remote < 2 ^ 32
SmallIn Over = Unit {0}

pub record IsSmall (r : Relay) : Type 0 where
  pub number : r.number < 2 ^ 32
  pub line : SmallIn r.line

-- in a channel that is confirmed
abbrev pub ReadsLive : ℕ → Outgoing → List ℕ → Type 0
ReadsLive remote Open p = ⊥
ReadsLive remote Confirmation p = ⊥
ReadsLive remote OpenFailure p = ⊥
ReadsLive remote Close p = read_summary p ≡ Ok (Within remote Closes)
ReadsLive remote Failure p = read_summary p ≡ Ok (Within remote Answers)
ReadsLive remote (Data n) p = read_summary p ≡ Ok (Within remote (Carries n))
ReadsLive remote Eof p = read_summary p ≡ Ok (Within remote Ends)
ReadsLive remote (Adjust n) p = read_summary p ≡ Ok (Within remote (Grants n))

-- in one that the server opened
abbrev pub ReadsOffer : ℕ → ℕ → Outgoing → List ℕ → Type 0
ReadsOffer remote number Confirmation p = read_summary p ≡ Ok (Confirms remote number 2097152 32768)
ReadsOffer remote number OpenFailure p = read_summary p ≡ Ok (Within remote Fails)
ReadsOffer remote number outgoing p = ⊥

-- before there is one
abbrev pub ReadsOpen : ℕ → Outgoing → List ℕ → Type 0
ReadsOpen number Open p = (key : Key) × (read_summary p ≡ Ok (Opens (Direct key) number 2097152 32768))
ReadsOpen number outgoing p = ⊥

abbrev pub ReadsIn : ChannelState → ℕ → Outgoing → List ℕ → Type 0
ReadsIn (Dialing dialog) number s p = ⊥
ReadsIn (Asked host port version) number s p = ReadsOpen number s p
ReadsIn (Opened version) number s p = ⊥
ReadsIn (Offered remote window maximum) number s p = ReadsOffer remote number s p
ReadsIn (Live live) number s p = ReadsLive live.remote s p
ReadsIn Over number s p = ⊥

-- the payload reads as what the relay sends
abbrev pub Reads : Relay → Outgoing → List ℕ → Type 0
Reads r s p = ReadsIn r.line r.number s p

-- ---- before there is a channel

direct-reads : (number : ℕ) (host : List ℕ) (port : ℕ) → number < 2 ^ 32 → length host < 2 ^ 32 → (key : Key) × (read_summary (direct number host port) ≡ Ok (Opens (Direct key) number 2097152 32768))
direct-reads number host port small fits =
    let p = as-four port in
    let rest : List ℕ = (str host ++ u32 port) ++ (str (codes "127.0.0.1") ++ u32 0) in (
      Tcp host p.four,
      reads-as (full.Plain (full.Open direct_type number 2097152 32768 rest (Direct (Tcp host p.four)))) (direct number host port) (record {
        is_message = (
          omega arith,
          small,
          omega arith,
          omega arith,
          (
            refl,
            record {
              originator = codes "127.0.0.1";
              originator_port = 0;
              fits = (fits, p.fits);
              originator_fits = omega arith;
              originator_port_fits = omega arith;
              spelled = ap (λ (four : List ℕ). (str host ++ four) ++ (str (codes "127.0.0.1") ++ u32 0)) p.same;
            },
          ),
        );
        flag = 0;
        boolean = refl;
        spelled = refl;
      }),
    )

direct-long : (number : ℕ) (host : List ℕ) (port : ℕ) → length host ≤ length (framed (direct number host port))
direct-long number host port =
    let outer = length-append ((host ++ u32 port)) (str (codes "127.0.0.1") ++ u32 0) in
    let inner = length-append host (u32 port) in
    omega (arith, outer, inner)

open-reads : (number : ℕ) (host : List ℕ) (port : ℕ) (s : Outgoing) → Some Open ≡ Some s → number < 2 ^ 32 → length (framed (direct number host port)) ≤ 65536 → ReadsOpen number s (direct number host port)
open-reads number host port s e small fits =
    let long = direct-long number host port in
    let same : Open ≡ s = cc in
    subst (λ (s : Outgoing). ReadsOpen number s (direct number host port)) same (direct-reads number host port small (omega (arith, long, fits)))

-- ---- a channel that the server opened

abbrev pub OfferSends : Option Outgoing → Type 0
OfferSends None = Unit {0}
OfferSends (Some Confirmation) = Unit {0}
OfferSends (Some OpenFailure) = Unit {0}
OfferSends (Some s) = ⊥

pub offer-says : (k : RelaySocket) → OfferSends (sends_offered k)
offer-says (socket.Open t) = tt
offer-says socket.Unmade = tt
offer-says (socket.Connecting t) = tt
offer-says (socket.Failed t) = tt
offer-says (socket.NoChannelLeft t) = tt
offer-says socket.Closed = tt

offer-reads : (remote number : ℕ) (s : Outgoing) → OfferSends (Some s) → remote < 2 ^ 32 → number < 2 ^ 32 → ReadsOffer remote number s (in_offer s remote number)
offer-reads remote number Open h there here = absurd h
offer-reads remote number Confirmation h there here = reads-as (full.To remote (full.Confirmation number 2097152 32768 [])) (confirmation_of_open remote number) (record {
  is_message = (there, (here, omega arith, omega arith));
  flag = 0;
  boolean = refl;
  spelled = refl;
})
offer-reads remote number OpenFailure h there here = reads-as (full.To remote (full.OpenFailure CONNECT_FAILED (codes "connect failed") [])) (not_connected remote) (record {
  is_message = (there, (omega arith, omega arith, omega arith));
  flag = 0;
  boolean = refl;
  spelled = refl;
})
offer-reads remote number Close h there here = absurd h
offer-reads remote number Failure h there here = absurd h
offer-reads remote number (Data n) h there here = absurd h
offer-reads remote number Eof h there here = absurd h
offer-reads remote number (Adjust n) h there here = absurd h

-- ---- a channel that is confirmed

abbrev LiveSends : ℕ → Option Outgoing → Type 0
LiveSends held None = Unit {0}
LiveSends held (Some Open) = ⊥
LiveSends held (Some Confirmation) = ⊥
LiveSends held (Some OpenFailure) = ⊥
LiveSends held (Some Close) = Unit {0}
LiveSends held (Some Failure) = Unit {0}
LiveSends held (Some (Data n)) = n ≤ held
LiveSends held (Some Eof) = Unit {0}
LiveSends held (Some (Adjust n)) = n < 2 ^ 32

either : (held : ℕ) (b : Bool) (x y : Option Outgoing) → LiveSends held x → LiveSends held y → LiveSends held (if b then x else y)
either held true x y h k = h
either held false x y h k = k

live-says : (r : Relay) (live : LiveState) → LiveSends (length r.held.waiting) (sends_live r live)
live-says r live =
    let held = length r.held.waiting in
    let at-most : chunk r live ≤ length r.held.waiting = omega arith in
    let adjusts : min live.owed (2 ^ 32 - 1) < 2 ^ 32 = omega arith in
    let fills = either held (nat_lt 0 (chunk r live)) (Some (Data (chunk r live))) None at-most tt in
    let end = either held (r.ended && not live.eof_sent) (Some Eof) None tt tt in
    let holds = either held (nat_lt 0 held) (if nat_lt 0 (chunk r live) then Some (Data (chunk r live)) else None) (if r.ended && not live.eof_sent then Some Eof else None) fills end in
    let adjust = either held (nat_lt 0 live.owed) (Some (Adjust (min live.owed (2 ^ 32 - 1)))) (sends_held r live) adjusts holds in
    let fail = either held (nat_lt 0 live.failures) (Some Failure) (if nat_lt 0 live.owed then Some (Adjust (min live.owed (2 ^ 32 - 1))) else sends_held r live) tt adjust in
    let close = either held (is_to_be_closed r.socket r.queue.waiting live) (Some Close) (if nat_lt 0 live.failures then Some Failure else (if nat_lt 0 live.owed then Some (Adjust (min live.owed (2 ^ 32 - 1))) else sends_held r live)) tt fail in
    either held live.close_sent None (if is_to_be_closed r.socket r.queue.waiting live then Some Close else (if nat_lt 0 live.failures then Some Failure else (if nat_lt 0 live.owed then Some (Adjust (min live.owed (2 ^ 32 - 1))) else sends_held r live))) tt close

live-reads : (remote : ℕ) (held : List ℕ) (s : Outgoing) → LiveSends (length held) (Some s) → remote < 2 ^ 32 → length (framed (sent_in_live s remote held)) ≤ 65536 → ReadsLive remote s (sent_in_live s remote held)
live-reads remote held Open h there fits = absurd h
live-reads remote held Confirmation h there fits = absurd h
live-reads remote held OpenFailure h there fits = absurd h
live-reads remote held Close h there fits = reads-as (full.To remote full.Close) (sent_in_live Close remote held) (record { is_message = (there, tt); flag = 0; boolean = refl; spelled = refl })
live-reads remote held Failure h there fits = reads-as (full.To remote full.Failure) (sent_in_live Failure remote held) (record { is_message = (there, tt); flag = 0; boolean = refl; spelled = refl })
live-reads remote held (Data n) h there fits =
    let size : length (take n held) ≡ n = omega (arith, h, length-take n held) in
    reads-as (full.To remote (full.Data (take n held))) (sent_in_live (Data n) remote held) (record { is_message = (there, omega (arith, fits)); flag = 0; boolean = refl; spelled = refl })
    ∙ ap (λ (k : ℕ). Ok (Within remote (Carries k))) size
live-reads remote held Eof h there fits = reads-as (full.To remote full.Eof) (sent_in_live Eof remote held) (record { is_message = (there, tt); flag = 0; boolean = refl; spelled = refl })
live-reads remote held (Adjust n) h there fits = reads-as (full.To remote (full.Adjust n)) (sent_in_live (Adjust n) remote held) (record { is_message = (there, h); flag = 0; boolean = refl; spelled = refl })

-- ---- any

reads-in : (line : ChannelState) (r : Relay) (s : Outgoing) → sends_in line r ≡ Some s → r.number < 2 ^ 32 → SmallIn line → length (framed (said_payload_in line r s)) ≤ 65536 → ReadsIn line r.number s (said_payload_in line r s)
reads-in (Dialing dialog) r s e here there fits = absurd (cc)
reads-in (Asked host port version) r s e here there fits = open-says s e fits
  where
    open-says : (s : Outgoing) → Some Open ≡ Some s → length (framed (said_payload_in (Asked host port version) r s)) ≤ 65536 → ReadsOpen r.number s (said_payload_in (Asked host port version) r s)
    open-says s e fits = open-reads r.number host port s e here fits
reads-in (Opened version) r s e here there fits = absurd (cc)
reads-in (Offered remote window maximum) r s e here there fits = offer-reads remote r.number s (subst OfferSends e (offer-says r.socket)) there here
reads-in (Live live) r s e here there fits = live-reads live.remote r.held.waiting s (subst (LiveSends (length r.held.waiting)) e (live-says r live)) there fits
reads-in Over r s e here there fits = absurd (cc)

pub relay-reads : (r : Relay) (s : Outgoing) → sends_of r ≡ Some s → IsSmall r → AreBytes (framed (payload_of r s)) → length (framed (payload_of r s)) ≤ 65536 → Reads r s (payload_of r s)
relay-reads r s e small bytes fits = reads-in r.line r s e small.number small.line fits

-- what reads has a byte
has-byte : (p : List ℕ) (g : Summary) → read_summary p ≡ Ok g → 1 ≤ length p
has-byte [] g e = absurd (cc)
has-byte (b ∷ p) g e = omega arith

open-byte : (number : ℕ) (s : Outgoing) (p : List ℕ) → ReadsOpen number s p → 1 ≤ length p
open-byte number Open p h = has-byte p (Opens (Direct h.0) number 2097152 32768) h.1
open-byte number Confirmation p h = absurd h
open-byte number OpenFailure p h = absurd h
open-byte number Close p h = absurd h
open-byte number Failure p h = absurd h
open-byte number (Data n) p h = absurd h
open-byte number Eof p h = absurd h
open-byte number (Adjust n) p h = absurd h

offer-byte : (remote number : ℕ) (s : Outgoing) (p : List ℕ) → ReadsOffer remote number s p → 1 ≤ length p
offer-byte remote number Open p h = absurd h
offer-byte remote number Confirmation p h = has-byte p (Confirms remote number 2097152 32768) h
offer-byte remote number OpenFailure p h = has-byte p (Within remote Fails) h
offer-byte remote number Close p h = absurd h
offer-byte remote number Failure p h = absurd h
offer-byte remote number (Data n) p h = absurd h
offer-byte remote number Eof p h = absurd h
offer-byte remote number (Adjust n) p h = absurd h

live-byte : (remote : ℕ) (s : Outgoing) (p : List ℕ) → ReadsLive remote s p → 1 ≤ length p
live-byte remote Open p h = absurd h
live-byte remote Confirmation p h = absurd h
live-byte remote OpenFailure p h = absurd h
live-byte remote Close p h = has-byte p (Within remote Closes) h
live-byte remote Failure p h = has-byte p (Within remote Answers) h
live-byte remote (Data n) p h = has-byte p (Within remote (Carries n)) h
live-byte remote Eof p h = has-byte p (Within remote Ends) h
live-byte remote (Adjust n) p h = has-byte p (Within remote (Grants n)) h

byte-in : (line : ChannelState) (number : ℕ) (s : Outgoing) (p : List ℕ) → ReadsIn line number s p → 1 ≤ length p
byte-in (Dialing dialog) number s p h = absurd h
byte-in (Asked host port version) number s p h = open-byte number s p h
byte-in (Opened version) number s p h = absurd h
byte-in (Offered remote window maximum) number s p h = offer-byte remote number s p h
byte-in (Live live) number s p h = live-byte live.remote s p h
byte-in Over number s p h = absurd h

pub relay-payload : (r : Relay) (s : Outgoing) → sends_of r ≡ Some s → IsSmall r → AreBytes (framed (payload_of r s)) → length (framed (payload_of r s)) ≤ 65536 → 1 ≤ length (payload_of r s)
relay-payload r s e small bytes fits = byte-in r.line r.number s (payload_of r s) (relay-reads r s e small bytes fits)

-- ---- requests about forwardings

abbrev pub IsAboutForwarding : Global → Type 0
IsAboutForwarding (Forward key) = Unit {0}
IsAboutForwarding (Cancel key) = Unit {0}
IsAboutForwarding KeepAlive = ⊥
IsAboutForwarding OtherName = ⊥

abbrev pub IsRequestRead : List ℕ → Type 0
IsRequestRead p = (what : Global) × IsAboutForwarding what × (read_summary p ≡ Ok (Requests what true))

requested-long : (name address : List ℕ) (port : ℕ) → length address ≤ length (framed (forwarding_request name address port))
requested-long name address port =
    let outer = length-append (str name) (1 ∷ (str address ++ u32 port)) in
    let inner = length-append (str address) (u32 port) in
    omega (arith, outer, inner)

forward-reads : (address : List ℕ) (port : ℕ) → length (framed (forwarding_request forward_name address port)) ≤ 65536 → IsRequestRead (forwarding_request forward_name address port)
forward-reads address port fits =
    let p = as-four port in
    let long = requested-long forward_name address port in
    let key : Key = Tcp address p.four in (
      Forward key,
      tt,
      reads-as (full.Plain (full.GlobalRequest forward_name true (str address ++ u32 port) (Forward key))) (forwarding_request forward_name address port) (record {
        is_message = (omega arith, (refl, record { fits = (omega (arith, long, fits), p.fits); spelled = ap (λ (four : List ℕ). str address ++ four) p.same }));
        flag = 1;
        boolean = refl;
        spelled = refl;
      }),
    )

cancel-reads : (address : List ℕ) (port : ℕ) → length (framed (forwarding_request cancel_name address port)) ≤ 65536 → IsRequestRead (forwarding_request cancel_name address port)
cancel-reads address port fits =
    let p = as-four port in
    let long = requested-long cancel_name address port in
    let key : Key = Tcp address p.four in (
      Cancel key,
      tt,
      reads-as (full.Plain (full.GlobalRequest cancel_name true (str address ++ u32 port) (Cancel key))) (forwarding_request cancel_name address port) (record {
        is_message = (omega arith, (refl, record { fits = (omega (arith, long, fits), p.fits); spelled = ap (λ (four : List ℕ). str address ++ four) p.same }));
        flag = 1;
        boolean = refl;
        spelled = refl;
      }),
    )

request-in : (stage : Stage) (address : List ℕ) (port : ℕ) → length (framed (forwarding_request (request_name stage) address port)) ≤ 65536 → IsRequestRead (forwarding_request (request_name stage) address port)
request-in (ToListen host) address port fits = forward-reads address port fits
request-in Ordered address port fits = forward-reads address port fits
request-in (Listening l) address port fits = forward-reads address port fits
request-in ToRequest address port fits = forward-reads address port fits
request-in Requested address port fits = forward-reads address port fits
request-in (ServedOn bound) address port fits = cancel-reads address port fits
request-in (Cancelling bound) address port fits = forward-reads address port fits

pub request-reads : (f : Forwarding) → has_request f ≡ true → AreBytes (framed (request_payload f)) → length (framed (request_payload f)) ≤ 65536 → IsRequestRead (request_payload f)
request-reads f has bytes fits = request-in f.stage f.listen_host (request_port f.stage f.listen_port) fits

-- ---- one frame more

pub record SendsOne (before bytes p : List ℕ) : Type 0 where
  pub items : new_sayings HOUSE before (before ++ bytes) ≡ Says HOUSE (Payload p) None ∷ []
  pub mode : (parse InControl (before ++ bytes)).mode ≡ InProxy
  pub rest : (parse InControl (before ++ bytes)).rest ≡ []

-- a payload's frame, from the proxy's mode on
one-frame : (p : List ℕ) → 1 ≤ length p → length (framed p) ≤ 65536 → parse InProxy (framed p) ≡ record { says = Payload p ∷ []; mode = InProxy; rest = [] }
one-frame p some fits =
    let whole : first_frame framing.Proxy (framed p) ≡ Frame p [] = subst (λ (l : List ℕ). first_frame framing.Proxy l ≡ Frame p []) (append-nil (framed p)) (first-frame framing.Proxy p [] (some, omega (arith, fits))) in
    parse-at InProxy (framed p) (Frame p []) whole

pub one-more : (before p : List ℕ) → (parse InControl before).mode ≡ InProxy → (parse InControl before).rest ≡ [] → 1 ≤ length p → length (framed p) ≤ 65536 → SendsOne before (framed p) p
one-more before p mode rest some fits =
    let one : Parsed = record { says = Payload p ∷ []; mode = InProxy; rest = [] } in
    let more : parse (parse InControl before).mode ((parse InControl before).rest ++ framed p) ≡ one = ap (λ (m : Mode). parse m ((parse InControl before).rest ++ framed p)) mode ∙ ap (λ (l : List ℕ). parse InProxy (l ++ framed p)) rest ∙ one-frame p some fits in
    let all : parse InControl (before ++ framed p) ≡ record { says = said before ++ (Payload p ∷ []); mode = InProxy; rest = [] } =
    parse-append InControl before (framed p) ∙ ap (λ (q : Parsed). record { says = said before ++ q.says; mode = q.mode; rest = q.rest }) more in
    record {
      items = ap (λ (q : Parsed). map (sent_item HOUSE) (drop (length (said before)) q.says)) all
          ∙ ap (λ (says : List Spoken). map (sent_item HOUSE) says) (drop_at (said before) (Payload p ∷ []) (length (said before)) refl);
      mode = ap (λ (q : Parsed). q.mode) all;
      rest = ap (λ (q : Parsed). q.rest) all;
    }

-- ---- the greeting

pub record Greets : Type 0 where
  pub hello : List ℕ
  pub proxy : List ℕ
  pub items : new_sayings HOUSE [] ([] ++ GREETING.now) ≡ Says HOUSE (Body hello) None ∷ Says HOUSE (Body proxy) None ∷ []
  pub hello_reads : read_control hello ≡ Ok (Hello VERSION [])
  pub proxy_reads : (id : ℕ) × (read_control proxy ≡ Ok (Proxy id))
  pub mode : (parse InControl ([] ++ GREETING.now)).mode ≡ InProxy
  pub rest : (parse InControl ([] ++ GREETING.now)).rest ≡ []

pub greeting : Greets
greeting = record {
  hello = 0 ∷ 0 ∷ 0 ∷ 1 ∷ 0 ∷ 0 ∷ 0 ∷ 4 ∷ [];
  proxy = 16 ∷ 0 ∷ 0 ∷ 15 ∷ 0 ∷ 0 ∷ 0 ∷ 0 ∷ [];
  items = refl;
  hello_reads = refl;
  proxy_reads = (0, refl);
  mode = refl;
  rest = refl;
}
