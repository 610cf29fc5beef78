-- The messages of the connection protocol (RFC 4254) with all their fields, in the order of their
-- numbers.
use Rattle.std.specs.Prelude.{ℕ, List, Bool, codes}

-- what is listened on or connected to: an address and a port (RFC 4254, section 7), or the path of
-- a Unix socket (OpenSSH's PROTOCOL, section 2.4)
pub data Key : Type 0 where
  Tcp : (address : List ℕ) (port : ℕ) → Key
  Path : (path : List ℕ) → Key

-- what a global request is about (RFC 4254, sections 4 and 7.1): its data, read further for these
-- names alone
pub data Global : Type 0 where
  Forward : (key : Key) → Global
  Cancel : (key : Key) → Global
  KeepAlive : Global
  OtherName : Global

-- what an open is about (RFC 4254, sections 6.1 and 7.2): its data, read further for these types
-- alone
pub data Opens : Type 0 where
  Session : Opens
  Direct : (key : Key) → Opens
  Forwarded : (key : Key) → Opens
  OtherType : Opens

-- the messages to no channel that is open yet; `rest` is the data as it came, and `what` that data
-- read further
pub data PlainMessage : Type 0 where
  Transport : (number : ℕ) (rest : List ℕ) → PlainMessage
  GlobalRequest : (name : List ℕ) (want : Bool) (rest : List ℕ) (what : Global) → PlainMessage
  RequestSuccess : (rest : List ℕ) → PlainMessage
  RequestFailure : PlainMessage
  Open : (kind : List ℕ) (sender window maximum : ℕ) (rest : List ℕ) (what : Opens) → PlainMessage

-- the messages to a channel, without the recipient's number that they all begin with
pub data ChannelMessage : Type 0 where
  Confirmation : (sender window maximum : ℕ) (rest : List ℕ) → ChannelMessage
  OpenFailure : (reason : ℕ) (text language : List ℕ) → ChannelMessage
  Adjust : (add : ℕ) → ChannelMessage
  Data : (bytes : List ℕ) → ChannelMessage
  Extended : (code : ℕ) (bytes : List ℕ) → ChannelMessage
  Eof : ChannelMessage
  Close : ChannelMessage
  Request : (kind : List ℕ) (want : Bool) (rest : List ℕ) → ChannelMessage
  Success : ChannelMessage
  Failure : ChannelMessage

-- every message
pub data Message : Type 0 where
  Plain : (message : PlainMessage) → Message
  To : (recipient : ℕ) (message : ChannelMessage) → Message

-- ---- the names and types that are read further, and those that are known without data

-- asks for a forwarding
abbrev pub forward_name : List ℕ
forward_name = codes "tcpip-forward"

-- cancels one
abbrev pub cancel_name : List ℕ
cancel_name = codes "cancel-tcpip-forward"

-- asks for a forwarding of a path
abbrev pub forward_path_name : List ℕ
forward_path_name = codes "streamlocal-forward@openssh.com"

-- cancels one
abbrev pub cancel_path_name : List ℕ
cancel_path_name = codes "cancel-streamlocal-forward@openssh.com"

-- asks for a sign of life
abbrev pub keepalive_name : List ℕ
keepalive_name = codes "keepalive@openssh.com"

-- a session
abbrev pub session_type : List ℕ
session_type = codes "session"

-- a connection that the client makes
abbrev pub direct_type : List ℕ
direct_type = codes "direct-tcpip"

-- a connection that arrived at a forwarding
abbrev pub forwarded_type : List ℕ
forwarded_type = codes "forwarded-tcpip"

-- a connection to a path that the client makes
abbrev pub direct_path_type : List ℕ
direct_path_type = codes "direct-streamlocal@openssh.com"

-- a connection that arrived at a path
abbrev pub forwarded_path_type : List ℕ
forwarded_path_type = codes "forwarded-streamlocal@openssh.com"

-- ---- the names and types by the kind of key

abbrev pub forward_name_of : Key → List ℕ
forward_name_of (Tcp address port) = forward_name
forward_name_of (Path path) = forward_path_name

abbrev pub cancel_name_of : Key → List ℕ
cancel_name_of (Tcp address port) = cancel_name
cancel_name_of (Path path) = cancel_path_name

abbrev pub direct_type_of : Key → List ℕ
direct_type_of (Tcp address port) = direct_type
direct_type_of (Path path) = direct_path_type

abbrev pub forwarded_type_of : Key → List ℕ
forwarded_type_of (Tcp address port) = forwarded_type
forwarded_type_of (Path path) = forwarded_path_type
