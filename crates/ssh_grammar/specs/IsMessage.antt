-- Which payloads are which messages (RFC 4254): the message's number and fields, with nothing left
-- over.
use Rattle.std.specs.Prelude.{◌≡◌, ◌≢◌, ℕ, ◌^◌, ◌<◌, ◌≤◌, List, ◌++◌, length}
use Rattle.ssh_fields.specs.Fields.{u32, str, is_true}
use Rattle.ssh_grammar.specs.declared.numbers.TheConstants as number
use Rattle.ssh_grammar.specs.Messages.{Key, Tcp, Path, Global, Forward, Cancel, KeepAlive, OtherName, Opens, Session, Direct, Forwarded, OtherType, PlainMessage, Transport, GlobalRequest, RequestSuccess, RequestFailure, Open, ChannelMessage, Confirmation, OpenFailure, Adjust, Data, Extended, Eof, Close, Request, Success, Failure, Message, Plain, To, forward_name, cancel_name, forward_path_name, cancel_path_name, keepalive_name, session_type, direct_type, forwarded_type, direct_path_type, forwarded_path_type, forward_name_of, cancel_name_of, direct_type_of, forwarded_type_of}
use Rattle.ssh_grammar.specs.SpellMessage.{spell_key, spell_with, wants_reply}

-- a number of four bytes
abbrev pub IsNumber : ℕ → Type 0
IsNumber n = n < 2 ^ 32

-- a string whose length is such a number
abbrev pub IsString : List ℕ → Type 0
IsString s = IsNumber (length s)

-- an address and a port, or a path, that can be spelled
abbrev pub KeyFits : Key → Type 0
KeyFits (Tcp address port) = IsString address × IsNumber port
KeyFits (Path path) = IsString path

-- data that is a key
pub record IsKey (rest : List ℕ) (key : Key) : Type 0 where
  pub fits : KeyFits key
  pub spelled : rest ≡ spell_key key

-- what the data of a global request of this name is
abbrev pub IsGlobal : List ℕ → List ℕ → Global → Type 0
IsGlobal name rest (Forward key) = (name ≡ forward_name_of key) × IsKey rest key
IsGlobal name rest (Cancel key) = (name ≡ cancel_name_of key) × IsKey rest key
IsGlobal name rest KeepAlive = name ≡ keepalive_name
IsGlobal name rest OtherName =
    (name ≢ forward_name) × (name ≢ cancel_name) × (name ≢ forward_path_name)
    × (name ≢ cancel_path_name) × (name ≢ keepalive_name)

-- data that is a key, and a text and a number: those of an originator, or reserved ones
pub record IsEnds (rest : List ℕ) (key : Key) : Type 0 where
  pub originator : List ℕ
  pub originator_port : ℕ
  pub fits : KeyFits key
  pub originator_fits : IsString originator
  pub originator_port_fits : IsNumber originator_port
  pub spelled : rest ≡ spell_key key ++ (str originator ++ u32 originator_port)

-- data that is a path, and a reserved text
pub record IsForwardedPath (rest path : List ℕ) : Type 0 where
  pub reserved : List ℕ
  pub fits : IsString path
  pub reserved_fits : IsString reserved
  pub spelled : rest ≡ str path ++ str reserved

-- a connection that arrived at a forwarding
abbrev pub IsForwarded : List ℕ → Key → Type 0
IsForwarded rest (Tcp address port) = IsEnds rest (Tcp address port)
IsForwarded rest (Path path) = IsForwardedPath rest path

-- what the data of an open of this type is
abbrev pub IsOpens : List ℕ → List ℕ → Opens → Type 0
IsOpens kind rest Session = kind ≡ session_type
IsOpens kind rest (Direct key) = (kind ≡ direct_type_of key) × IsEnds rest key
IsOpens kind rest (Forwarded key) = (kind ≡ forwarded_type_of key) × IsForwarded rest key
IsOpens kind rest OtherType =
    (kind ≢ session_type) × (kind ≢ direct_type) × (kind ≢ forwarded_type)
    × (kind ≢ direct_path_type) × (kind ≢ forwarded_path_type)

abbrev pub IsPlain : PlainMessage → Type 0
IsPlain (Transport n rest) = (number.DISCONNECT ≤ n) × (n ≤ number.DEBUG)
IsPlain (GlobalRequest name want rest what) = IsString name × IsGlobal name rest what
IsPlain (RequestSuccess rest) = Unit {0}
IsPlain RequestFailure = Unit {0}
IsPlain (Open kind sender window maximum rest what) =
    IsString kind × IsNumber sender × IsNumber window × IsNumber maximum × IsOpens kind rest what

abbrev pub IsChannelMessage : ChannelMessage → Type 0
IsChannelMessage (Confirmation sender window maximum rest) = IsNumber sender × IsNumber window
    × IsNumber maximum
IsChannelMessage (OpenFailure reason text language) = IsNumber reason × IsString text
    × IsString language
IsChannelMessage (Adjust add) = IsNumber add
IsChannelMessage (Data bytes) = IsString bytes
IsChannelMessage (Extended code bytes) = IsNumber code × IsString bytes
IsChannelMessage Eof = Unit {0}
IsChannelMessage Close = Unit {0}
IsChannelMessage (Request kind want rest) = IsString kind
IsChannelMessage Success = Unit {0}
IsChannelMessage Failure = Unit {0}

-- a message that has a payload
abbrev pub IsMessage : Message → Type 0
IsMessage (Plain m) = IsPlain m
IsMessage (To recipient m) = IsNumber recipient × IsChannelMessage m

-- the payload is the message's: its boolean, if it has one, is spelled by a byte that is true where
-- it is
pub record Spells (m : Message) (p : List ℕ) : Type 0 where
  pub is_message : IsMessage m
  pub flag : ℕ
  pub boolean : is_true flag ≡ wants_reply m
  pub spelled : p ≡ spell_with flag m
