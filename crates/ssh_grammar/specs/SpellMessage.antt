-- How a message is written as a payload (RFC 4254), where its channel numbers stand, and what the
-- master writes of its own.
use Rattle.std.specs.Prelude.{ℕ, ◌+◌, List, [], ◌∷◌, ◌++◌, length, Option, Some, None, Ok, Err, Bool, true, false, codes}
use Rattle.ssh_fields.specs.Fields.{u32, str, with_u32}
use Rattle.ssh_grammar.specs.declared.numbers.TheConstants as number
use Rattle.ssh_grammar.specs.Messages.{Key, Tcp, Path, Cancel, PlainMessage, Transport, GlobalRequest, RequestSuccess, RequestFailure, Open, ChannelMessage, Confirmation, OpenFailure, Adjust, Data, Extended, Eof, Close, Request, Success, Failure, Message, Plain, To, cancel_name_of}
use Rattle.ssh_grammar.specs.ReadMessage.{read_message}

-- ---- the spelling

-- a message to no channel
abbrev pub spell_plain : ℕ → PlainMessage → List ℕ
spell_plain flag (Transport n rest) = n ∷ rest
spell_plain flag (GlobalRequest name want rest what) = number.GLOBAL_REQUEST
    ∷ (str name ++ (flag ∷ rest))
spell_plain flag (RequestSuccess rest) = number.REQUEST_SUCCESS ∷ rest
spell_plain flag RequestFailure = number.REQUEST_FAILURE ∷ []
spell_plain flag (Open kind sender window maximum rest what) =
    number.CHANNEL_OPEN ∷ (str kind ++ (u32 sender ++ (u32 window ++ (u32 maximum ++ rest))))

-- the number of a message to a channel
abbrev pub channel_message_number : ChannelMessage → ℕ
channel_message_number (Confirmation sender window maximum rest) = number.CHANNEL_OPEN_CONFIRMATION
channel_message_number (OpenFailure reason text language) = number.CHANNEL_OPEN_FAILURE
channel_message_number (Adjust add) = number.CHANNEL_WINDOW_ADJUST
channel_message_number (Data bytes) = number.CHANNEL_DATA
channel_message_number (Extended code bytes) = number.CHANNEL_EXTENDED_DATA
channel_message_number Eof = number.CHANNEL_EOF
channel_message_number Close = number.CHANNEL_CLOSE
channel_message_number (Request kind want rest) = number.CHANNEL_REQUEST
channel_message_number Success = number.CHANNEL_SUCCESS
channel_message_number Failure = number.CHANNEL_FAILURE

-- the fields after the recipient
abbrev pub fields_of : ℕ → ChannelMessage → List ℕ
fields_of flag (Confirmation sender window maximum rest) =
    u32 sender ++ (u32 window ++ (u32 maximum ++ rest))
fields_of flag (OpenFailure reason text language) = u32 reason ++ (str text ++ str language)
fields_of flag (Adjust add) = u32 add
fields_of flag (Data bytes) = str bytes
fields_of flag (Extended code bytes) = u32 code ++ str bytes
fields_of flag Eof = []
fields_of flag Close = []
fields_of flag (Request kind want rest) = str kind ++ (flag ∷ rest)
fields_of flag Success = []
fields_of flag Failure = []

-- the payload of a message; its boolean, if it has one, is spelled by the byte `flag`, since each
-- byte but 0 is true
abbrev pub spell_with : ℕ → Message → List ℕ
spell_with flag (Plain m) = spell_plain flag m
spell_with flag (To recipient m) = channel_message_number m ∷ (u32 recipient ++ fields_of flag m)

-- whether it wants a reply
abbrev pub wants_reply : Message → Bool
wants_reply (Plain (GlobalRequest name want rest what)) = want
wants_reply (To recipient (Request kind want rest)) = want
wants_reply _ = false

-- the byte that a writer gives
abbrev pub flag_byte_of : Bool → ℕ
flag_byte_of true = 1
flag_byte_of false = 0

-- the payload that a writer gives
abbrev pub spell : Message → List ℕ
spell m = spell_with (flag_byte_of (wants_reply m)) m

-- ---- the channel numbers in a message

-- the channel that the message is for
abbrev pub recipient_of : Message → Option ℕ
recipient_of (Plain m) = None
recipient_of (To recipient m) = Some recipient

-- the channel that it opens or confirms
abbrev pub sender_of : Message → Option ℕ
sender_of (Plain (Open kind sender window maximum rest what)) = Some sender
sender_of (To recipient (Confirmation sender window maximum rest)) = Some sender
sender_of _ = None

-- where the four bytes of the recipient stand in the payload: after the number
abbrev pub recipient_place : Message → Option ℕ
recipient_place (Plain m) = None
recipient_place (To recipient m) = Some 1

-- where the four bytes of the sender stand: after the type in an open, after the recipient in a
-- confirmation
abbrev pub sender_place : Message → Option ℕ
sender_place (Plain (Open kind sender window maximum rest what)) = Some (5 + length kind)
sender_place (To recipient (Confirmation sender window maximum rest)) = Some 5
sender_place _ = None

-- what a payload's message shows, and nothing where the payload does not read
abbrev pub in_payload : {A : Type 0} → (Message → Option A) → List ℕ → Option A
in_payload f p = elim (read_message p) [ Err e ↦ None | Ok m ↦ f m ]

-- where the recipient stands in a payload
abbrev pub recipient_at : List ℕ → Option ℕ
recipient_at p = in_payload recipient_place p

-- where the sender stands in a payload
abbrev pub sender_at : List ℕ → Option ℕ
sender_at p = in_payload sender_place p

-- a payload with the number at a place replaced, where there is such a place
abbrev pub payload_with_number : List ℕ → Option ℕ → ℕ → List ℕ
payload_with_number p None n = p
payload_with_number p (Some at) n = with_u32 p at n

-- with another recipient
abbrev pub with_recipient : List ℕ → ℕ → List ℕ
with_recipient p n = payload_with_number p (recipient_at p) n

-- with another sender
abbrev pub with_sender : List ℕ → ℕ → List ℕ
with_sender p n = payload_with_number p (sender_at p) n

-- ---- what the master writes of its own

-- an open fails (section 5.1)
abbrev pub open_failure : ℕ → ℕ → List ℕ → List ℕ
open_failure recipient reason text = spell (To recipient (OpenFailure reason text []))

-- a channel is closed (section 5.3)
abbrev pub close : ℕ → List ℕ
close recipient = spell (To recipient Close)

-- a global request is refused (section 4)
abbrev pub request_failure : List ℕ
request_failure = spell (Plain RequestFailure)

-- a key as data
abbrev pub spell_key : Key → List ℕ
spell_key (Tcp address port) = str address ++ u32 port
spell_key (Path path) = str path

-- a cancel of a forwarding that wants no reply (section 7.1)
abbrev pub cancel_of : Key → Message
cancel_of key = Plain (GlobalRequest (cancel_name_of key) false (spell_key key) (Cancel key))

-- a forwarding is cancelled, without reply
abbrev pub cancel_forward : Key → List ℕ
cancel_forward key = spell (cancel_of key)

-- the texts that go with the reasons of a failed open
abbrev pub not_permitted : List ℕ
not_permitted = codes "not permitted"

-- reason 2
abbrev pub client_is_gone : List ℕ
client_is_gone = codes "client is gone"

-- reason 3
abbrev pub unknown_type : List ℕ
unknown_type = codes "unknown channel type"

-- reason 4
abbrev pub too_many_channels : List ℕ
too_many_channels = codes "too many channels"
