-- A message as the grammar sees it: its strings and data as lists of bytes.
use Rattle.std.specs.Prelude.{ℕ, Result}
use Rattle.conn_messages.specs.declared.message.Request.{Request}
use Rattle.conn_messages.specs.declared.message.Request.TheVariants as request
use Rattle.conn_messages.specs.declared.message.Opening.{Opening}
use Rattle.conn_messages.specs.declared.message.Opening.TheVariants as opening
use Rattle.conn_messages.specs.declared.message.Message.{Message}
use Rattle.conn_messages.specs.declared.message.Message.TheVariants as message
use Rattle.conn_messages.specs.Keys.{key_of}
use Rattle.ssh_grammar.specs.declared.fault.Bad.{Bad}
use Rattle.ssh_grammar.specs.Gives.{Gives}
use Rattle.ssh_grammar.specs.Messages as grammar
use Rattle.ssh_grammar.specs.ReadMessage.{with_reading, Form, OfNone, message_forms}
use Rattle.ssh_grammar.specs.Tables.{by_number}

abbrev pub grammar_request_of : Request → grammar.Global
grammar_request_of (request.Forward key) = grammar.Forward (key_of key)
grammar_request_of (request.Cancel key) = grammar.Cancel (key_of key)
grammar_request_of request.KeepAlive = grammar.KeepAlive
grammar_request_of request.Other = grammar.OtherName

abbrev pub opening_of : Opening → grammar.Opens
opening_of opening.Session = grammar.Session
opening_of (opening.Direct key) = grammar.Direct (key_of key)
opening_of (opening.Forwarded key) = grammar.Forwarded (key_of key)
opening_of opening.Other = grammar.OtherType

abbrev pub message_of : Message → grammar.Message
message_of (message.Transport number rest) = grammar.Plain (grammar.Transport number rest.now)
message_of (message.GlobalRequest name want rest what) =
    grammar.Plain (grammar.GlobalRequest name.now want rest.now (grammar_request_of what))
message_of (message.RequestSuccess rest) = grammar.Plain (grammar.RequestSuccess rest.now)
message_of message.RequestFailure = grammar.Plain grammar.RequestFailure
message_of (message.Open kind sender window maximum rest what) =
    grammar.Plain (grammar.Open kind.now sender window maximum rest.now (opening_of what))
message_of (message.Confirmation recipient sender window maximum rest) =
    grammar.To recipient (grammar.Confirmation sender window maximum rest.now)
message_of (message.OpenFailure recipient reason text language) =
    grammar.To recipient (grammar.OpenFailure reason text.now language.now)
message_of (message.Adjust recipient add) = grammar.To recipient (grammar.Adjust add)
message_of (message.Data recipient bytes) = grammar.To recipient (grammar.Data bytes.now)
message_of (message.Extended recipient code bytes) =
    grammar.To recipient (grammar.Extended code bytes.now)
message_of (message.Eof recipient) = grammar.To recipient grammar.Eof
message_of (message.Close recipient) = grammar.To recipient grammar.Close
message_of (message.Request recipient kind want rest) =
    grammar.To recipient (grammar.Request kind.now want rest.now)
message_of (message.Success recipient) = grammar.To recipient grammar.Success
message_of (message.Failure recipient) = grammar.To recipient grammar.Failure

-- what was returned is the message to no channel that reading gives
abbrev pub GivesPlain : Result Message Bad → Result grammar.PlainMessage Bad → Type 0
GivesPlain result reading = Gives message_of result (with_reading reading grammar.Plain)

-- what was returned is the message to this recipient that reading gives
abbrev pub GivesTo : ℕ → Result Message Bad → Result grammar.ChannelMessage Bad → Type 0
GivesTo recipient result reading =
    Gives message_of result (with_reading reading (grammar.To recipient))

-- how the bytes after this number are read
abbrev pub form_of : ℕ → Form
form_of number = by_number (message_forms number) number OfNone
