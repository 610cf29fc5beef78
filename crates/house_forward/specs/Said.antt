-- What the forwarder sends as a client, byte for byte.
use Rattle.std.specs.Prelude.{ℕ, ◌+◌, Bool, true, false, List, [], ◌∷◌, ◌++◌, length, take, codes, Option, Some, None}
use Rattle.ssh_fields.specs.Fields.{u32, str}
use Rattle.ssh_grammar.specs.Messages.{To, Confirmation as Confirmed, Adjust as Adjusts, Data as GivesData, Eof as GivesEof, Failure as Fails}
use Rattle.ssh_grammar.specs.SpellMessage.{spell, close, open_failure}
use Rattle.ssh_grammar.specs.declared.numbers.TheConstants.{CHANNEL_OPEN, GLOBAL_REQUEST, CONNECT_FAILED}
use Rattle.house_forward.specs.declared.forwarding.Forwarding.{Forwarding}
use Rattle.house_forward.specs.declared.forwarding.Stage.{Stage}
use Rattle.house_forward.specs.declared.forwarding.Stage.TheVariants.{ToListen, Ordered, Listening, ToRequest, Requested, Live as ServedOn, Cancelling}
use Rattle.house_relay.specs.Next.{sends_of}
use Rattle.house_relay.specs.declared.TheConstants.{MAXIMUM, WINDOW}
use Rattle.house_relay.specs.declared.line.ChannelState.{ChannelState}
use Rattle.house_relay.specs.declared.line.ChannelState.TheVariants.{Dialing, Asked, Opened, Offered, Live, Over}
use Rattle.house_relay.specs.declared.relay.Relay.{Relay}
use Rattle.house_relay.specs.declared.relay.Outgoing.{Outgoing}
use Rattle.house_relay.specs.declared.relay.Outgoing.TheVariants.{Open, Confirmation, OpenFailure, Close, Failure, Data, Eof, Adjust}

-- a payload in the frame of a proxy client
abbrev pub framed : List ℕ → List ℕ
framed payload = u32 (length payload + 1) ++ (0 ∷ payload)

-- the window of a channel, and the longest data of one message
abbrev pub limits : List ℕ
limits = u32 WINDOW ++ u32 MAXIMUM

-- an OPEN of `direct-tcpip` to this end (RFC 4254, section 7.2)
abbrev pub direct : ℕ → List ℕ → ℕ → List ℕ
direct number host port = (((CHANNEL_OPEN ∷ (str (codes "direct-tcpip") ++ (u32 number ++ limits)))
    ++ str host) ++ u32 port) ++ (str (codes "127.0.0.1") ++ u32 0)

-- a CONFIRMATION of the server's OPEN
abbrev pub confirmation_of_open : ℕ → ℕ → List ℕ
confirmation_of_open remote number = spell (To remote (Confirmed number WINDOW MAXIMUM []))

-- the refusal of the server's OPEN, where no socket could be connected
abbrev pub not_connected : ℕ → List ℕ
not_connected remote = open_failure remote CONNECT_FAILED (codes "connect failed")

-- a request about a forwarding that wants a reply (RFC 4254, section 7.1)
abbrev pub forwarding_request : List ℕ → List ℕ → ℕ → List ℕ
forwarding_request name address port = GLOBAL_REQUEST ∷ (str name ++ (1 ∷ (str address ++ u32 port)))

abbrev pub request_name : Stage → List ℕ
request_name (ToListen host) = codes "tcpip-forward"
request_name Ordered = codes "tcpip-forward"
request_name (Listening l) = codes "tcpip-forward"
request_name ToRequest = codes "tcpip-forward"
request_name Requested = codes "tcpip-forward"
request_name (ServedOn port) = codes "cancel-tcpip-forward"
request_name (Cancelling port) = codes "tcpip-forward"

-- a cancel names the port on which the server listens
abbrev pub request_port : Stage → ℕ → ℕ
request_port (ToListen host) asked = asked
request_port Ordered asked = asked
request_port (Listening l) asked = asked
request_port ToRequest asked = asked
request_port Requested asked = asked
request_port (ServedOn port) asked = port
request_port (Cancelling port) asked = asked

-- the request that is to be sent for a forwarding
abbrev pub request_payload : Forwarding → List ℕ
request_payload f =
    forwarding_request (request_name f.stage) f.listen_host (request_port f.stage f.listen_port)

-- whether data is sent
abbrev pub is_data : Outgoing → Bool
is_data (Data n) = true
is_data Open = false
is_data Confirmation = false
is_data OpenFailure = false
is_data Close = false
is_data Failure = false
is_data Eof = false
is_data (Adjust n) = false

-- in a channel that is confirmed: of the bytes that are held so many as are sent
abbrev pub sent_in_live : Outgoing → ℕ → List ℕ → List ℕ
sent_in_live Open remote held = []
sent_in_live Confirmation remote held = []
sent_in_live OpenFailure remote held = not_connected remote
sent_in_live Close remote held = close remote
sent_in_live Failure remote held = spell (To remote Fails)
sent_in_live (Data n) remote held = spell (To remote (GivesData (take n held)))
sent_in_live Eof remote held = spell (To remote GivesEof)
sent_in_live (Adjust n) remote held = spell (To remote (Adjusts n))

-- an answer to the server's OPEN
abbrev pub in_offer : Outgoing → ℕ → ℕ → List ℕ
in_offer Open remote number = not_connected remote
in_offer Confirmation remote number = confirmation_of_open remote number
in_offer OpenFailure remote number = not_connected remote
in_offer Close remote number = not_connected remote
in_offer Failure remote number = not_connected remote
in_offer (Data n) remote number = not_connected remote
in_offer Eof remote number = not_connected remote
in_offer (Adjust n) remote number = not_connected remote

abbrev pub said_payload_in : ChannelState → Relay → Outgoing → List ℕ
said_payload_in (Dialing dialog) r outgoing = []
said_payload_in (Asked host port version) r outgoing = direct r.number host port
said_payload_in (Opened version) r outgoing = []
said_payload_in (Offered remote window maximum) r outgoing = in_offer outgoing remote r.number
said_payload_in (Live live) r outgoing = sent_in_live outgoing live.remote r.held.waiting
said_payload_in Over r outgoing = []

-- the payload of what a relay sends
abbrev pub payload_of : Relay → Outgoing → List ℕ
payload_of r outgoing = said_payload_in r.line r outgoing

abbrev pub payload_if : Relay → Option Outgoing → List ℕ
payload_if r None = []
payload_if r (Some outgoing) = payload_of r outgoing

-- the payload of what it sends next
abbrev pub relay_sent_by : Relay → List ℕ
relay_sent_by r = payload_if r (sends_of r)
