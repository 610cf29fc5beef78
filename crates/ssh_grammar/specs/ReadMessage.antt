-- How a payload is read (RFC 4254): the message, or the first fault and its place. Fields are read
-- in order; each reader goes on with the bytes after its field and with their place in the payload.
use Rattle.std.specs.Prelude.{ℕ, ◌+◌, List, [], ◌∷◌, length, Some, None, Result, Ok, Err, Bool}
use Rattle.ssh_fields.specs.Fields.{take_bool, take_u32, take_str}
use Rattle.ssh_grammar.specs.declared.fault.Bad.{Bad}
use Rattle.ssh_grammar.specs.declared.fault.Bad.TheVariants as bad
use Rattle.ssh_grammar.specs.declared.numbers.TheConstants as number
use Rattle.ssh_grammar.specs.Tables.{by_number, by_name}
use Rattle.ssh_grammar.specs.Messages.{Key, Tcp, Path, Global, Forward, Cancel, KeepAlive, OtherName, Opens, Session, Direct, Forwarded, OtherType, PlainMessage, Transport, GlobalRequest, RequestSuccess, RequestFailure, Open, ChannelMessage, Confirmation, OpenFailure, Adjust, Data, Extended, Eof, Close, Request, Success, Failure, Message, Plain, To, forward_name, cancel_name, forward_path_name, cancel_path_name, keepalive_name, session_type, direct_type, forwarded_type, direct_path_type, forwarded_path_type}

-- a value, or a fault
abbrev pub MessageReading : Type 0 → Type 0
MessageReading A = Result A Bad

-- ---- one field

-- a boolean
abbrev pub on_bool : {A : Type 0} → List ℕ → ℕ → (Bool → List ℕ → ℕ → MessageReading A) → MessageReading A
on_bool bytes at next =
    elim (take_bool bytes) [ None ↦ Err (bad.Short at) | Some p ↦ next p.0 p.1 (at + 1) ]

-- a number
abbrev pub message_on_u32 : {A : Type 0} → List ℕ → ℕ → (ℕ → List ℕ → ℕ → MessageReading A) → MessageReading A
message_on_u32 bytes at next =
    elim (take_u32 bytes) [ None ↦ Err (bad.Short at) | Some p ↦ next p.0 p.1 (at + 4) ]

-- a string
abbrev pub message_on_str : {A : Type 0} → List ℕ → ℕ → (List ℕ → List ℕ → ℕ → MessageReading A) → MessageReading A
message_on_str bytes at next = elim (take_str bytes) [
  | None ↦ Err (bad.Short at)
  | Some p ↦ next p.0 p.1 (at + 4 + length p.0)
]

-- nothing is left over
abbrev pub message_on_end : {A : Type 0} → List ℕ → ℕ → A → MessageReading A
message_on_end [] at m = Ok m
message_on_end (b ∷ bytes) at m = Err (bad.Extra at)

-- ---- data that is read further

-- an address and a port, and nothing after them
abbrev pub read_key : List ℕ → ℕ → (Key → Global) → MessageReading Global
read_key rest at what =
    message_on_str rest at (λ address rest at.
    message_on_u32 rest at (λ port rest at. message_on_end rest at (what (Tcp address port))))

-- a path, and nothing after it
abbrev pub read_path : List ℕ → ℕ → (Key → Global) → MessageReading Global
read_path rest at what = message_on_str rest at (λ path rest at. message_on_end rest at (what (Path path)))

-- the names of global requests whose data are read further, or known without data
abbrev pub globals : List ℕ → ℕ → List (List ℕ × MessageReading Global)
globals rest at =
    (forward_name, read_key rest at Forward)
    ∷ (cancel_name, read_key rest at Cancel)
    ∷ (forward_path_name, read_path rest at Forward)
    ∷ (cancel_path_name, read_path rest at Cancel)
    ∷ (keepalive_name, Ok KeepAlive)
    ∷ []

-- a global request's data, by its name (RFC 4254, section 7.1)
abbrev pub read_global : List ℕ → List ℕ → ℕ → MessageReading Global
read_global name rest at = by_name (globals rest at) name (Ok OtherName)

-- a host and a port, those of the originator, and nothing after them
abbrev pub read_ends : List ℕ → ℕ → (Key → Opens) → MessageReading Opens
read_ends rest at what =
    message_on_str rest at (λ host rest at.
    message_on_u32 rest at (λ port rest at.
    message_on_str rest at (λ from rest at.
    message_on_u32 rest at (λ from_port rest at. message_on_end rest at (what (Tcp host port))))))

-- a path, a reserved text and a reserved number, and nothing after them
abbrev pub read_direct_path : List ℕ → ℕ → MessageReading Opens
read_direct_path rest at =
    message_on_str rest at (λ path rest at.
    message_on_str rest at (λ reserved rest at.
    message_on_u32 rest at (λ number rest at. message_on_end rest at (Direct (Path path)))))

-- a path and a reserved text, and nothing after them
abbrev pub read_forwarded_path : List ℕ → ℕ → MessageReading Opens
read_forwarded_path rest at =
    message_on_str rest at (λ path rest at.
    message_on_str rest at (λ reserved rest at. message_on_end rest at (Forwarded (Path path))))

-- the types of opens whose data are read further, or known without data
abbrev pub types : List ℕ → ℕ → List (List ℕ × MessageReading Opens)
types rest at =
    (session_type, Ok Session)
    ∷ (direct_type, read_ends rest at Direct)
    ∷ (forwarded_type, read_ends rest at Forwarded)
    ∷ (direct_path_type, read_direct_path rest at)
    ∷ (forwarded_path_type, read_forwarded_path rest at)
    ∷ []

-- an open's data, by its type (RFC 4254, sections 6.1 and 7.2)
abbrev pub read_opens : List ℕ → List ℕ → ℕ → MessageReading Opens
read_opens kind rest at = by_name (types rest at) kind (Ok OtherType)

-- what was read, changed
abbrev pub with_reading : {A : Type 0} → {B : Type 0} → MessageReading A → (A → B) → MessageReading B
with_reading (Ok a) f = Ok (f a)
with_reading (Err e) f = Err e

-- ---- the messages to no channel, from the place 1

-- a transport message is not read further
abbrev pub read_transport : ℕ → List ℕ → MessageReading PlainMessage
read_transport n rest = Ok (Transport n rest)

-- a name, whether a reply is wanted, and data (section 4)
abbrev pub read_global_request : List ℕ → MessageReading PlainMessage
read_global_request rest =
    message_on_str rest 1 (λ name rest at.
    on_bool rest at (λ want rest at.
    with_reading (read_global name rest at) (GlobalRequest name want rest)))

-- a type, the sender, window and maximum, and data (section 5.1)
abbrev pub read_open : List ℕ → MessageReading PlainMessage
read_open rest =
    message_on_str rest 1 (λ kind rest at.
    message_on_u32 rest at (λ sender rest at.
    message_on_u32 rest at (λ window rest at.
    message_on_u32 rest at (λ maximum rest at.
    with_reading (read_opens kind rest at) (Open kind sender window maximum rest)))))

-- ---- the messages to a channel, from the place after the recipient

-- the sender, window and maximum, and data (section 5.1)
abbrev pub read_confirmation : List ℕ → MessageReading ChannelMessage
read_confirmation rest =
    message_on_u32 rest 5 (λ sender rest at.
    message_on_u32 rest at (λ window rest at.
    message_on_u32 rest at (λ maximum rest at. Ok (Confirmation sender window maximum rest))))

-- a reason, a text and its language (section 5.1)
abbrev pub read_open_failure : List ℕ → MessageReading ChannelMessage
read_open_failure rest =
    message_on_u32 rest 5 (λ reason rest at.
    message_on_str rest at (λ text rest at.
    message_on_str rest at (λ language rest at. message_on_end rest at (OpenFailure reason text language))))

-- the bytes to add (section 5.2)
abbrev pub read_adjust : List ℕ → MessageReading ChannelMessage
read_adjust rest = message_on_u32 rest 5 (λ add rest at. message_on_end rest at (Adjust add))

-- data (section 5.2)
abbrev pub read_data : List ℕ → MessageReading ChannelMessage
read_data rest = message_on_str rest 5 (λ bytes rest at. message_on_end rest at (Data bytes))

-- data of a kind (section 5.2)
abbrev pub read_extended : List ℕ → MessageReading ChannelMessage
read_extended rest =
    message_on_u32 rest 5 (λ code rest at.
    message_on_str rest at (λ bytes rest at. message_on_end rest at (Extended code bytes)))

-- a type, whether a reply is wanted, and data (section 5.4)
abbrev pub read_request : List ℕ → MessageReading ChannelMessage
read_request rest =
    message_on_str rest 5 (λ kind rest at. on_bool rest at (λ want rest at. Ok (Request kind want rest)))

-- ---- all messages, by their numbers

-- how the bytes after a message's number are read
pub data Form : Type 0 where
  OfPlain : (read : List ℕ → MessageReading PlainMessage) → Form
  OfChannel : (read : List ℕ → MessageReading ChannelMessage) → Form
  OfNone : Form

-- the table of messages
abbrev pub message_forms : ℕ → List (ℕ × Form)
message_forms n =
    (number.DISCONNECT, OfPlain (read_transport n)) ∷ (number.IGNORE, OfPlain (read_transport n))
    ∷ (number.UNIMPLEMENTED, OfPlain (read_transport n))
    ∷ (number.DEBUG, OfPlain (read_transport n))
    ∷ (number.GLOBAL_REQUEST, OfPlain read_global_request)
    ∷ (number.REQUEST_SUCCESS, OfPlain (λ rest. Ok (RequestSuccess rest)))
    ∷ (number.REQUEST_FAILURE, OfPlain (λ rest. message_on_end rest 1 RequestFailure))
    ∷ (number.CHANNEL_OPEN, OfPlain read_open)
    ∷ (number.CHANNEL_OPEN_CONFIRMATION, OfChannel read_confirmation)
    ∷ (number.CHANNEL_OPEN_FAILURE, OfChannel read_open_failure)
    ∷ (number.CHANNEL_WINDOW_ADJUST, OfChannel read_adjust)
    ∷ (number.CHANNEL_DATA, OfChannel read_data)
    ∷ (number.CHANNEL_EXTENDED_DATA, OfChannel read_extended)
    ∷ (number.CHANNEL_EOF, OfChannel (λ rest. message_on_end rest 5 Eof))
    ∷ (number.CHANNEL_CLOSE, OfChannel (λ rest. message_on_end rest 5 Close))
    ∷ (number.CHANNEL_REQUEST, OfChannel read_request)
    ∷ (number.CHANNEL_SUCCESS, OfChannel (λ rest. message_on_end rest 5 Success))
    ∷ (number.CHANNEL_FAILURE, OfChannel (λ rest. message_on_end rest 5 Failure))
    ∷ []

-- a message of a form
abbrev pub read_as : ℕ → Form → List ℕ → MessageReading Message
read_as n (OfPlain read) rest = with_reading (read rest) Plain
read_as n (OfChannel read) rest =
    message_on_u32 rest 1 (λ recipient rest at. with_reading (read rest) (To recipient))
read_as n OfNone rest = Err (bad.Kind n)

-- the message that a payload is, or why it is none
abbrev pub read_message : List ℕ → MessageReading Message
read_message [] = Err bad.Empty
read_message (n ∷ rest) = read_as n (by_number (message_forms n) n OfNone) rest
