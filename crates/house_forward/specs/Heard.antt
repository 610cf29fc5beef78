-- What a relay is after a message in its channel.
use Rattle.conn_messages.specs.declared.message.Message.{Message}
use Rattle.conn_messages.specs.declared.message.Message.TheVariants as message
use Rattle.std.specs.Prelude.{if◌then◌else◌}
use Rattle.house_relay.specs.Acts.{RelayAct, Confirms, Refuses, Delivers, ReceivesEof, ReceivesClose, Other}
use Rattle.house_relay.specs.Relay.{delivers, answered_in, received_if_live}
use Rattle.house_relay.specs.Steps.{on_line, room_received, eof_received, close_received, request_received, confirmed_in, refused_in, data_received}
use Rattle.house_relay.specs.declared.relay.Relay.{Relay}

-- other messages change nothing of it
abbrev pub received_of : Message → Relay → Relay
received_of (message.Transport number rest) r = r
received_of (message.GlobalRequest name want rest what) r = r
received_of (message.RequestSuccess rest) r = r
received_of message.RequestFailure r = r
received_of (message.Open kind sender window maximum rest what) r = r
received_of (message.Confirmation recipient sender window maximum rest) r =
    confirmed_in r.line sender window maximum r
received_of (message.OpenFailure recipient reason text language) r = refused_in r.line reason r
received_of (message.Adjust recipient add) r = on_line (room_received add) r
received_of (message.Data recipient bytes) r = data_received (delivers r) bytes.now r
received_of (message.Extended recipient code bytes) r = r
received_of (message.Eof recipient) r = on_line eof_received r
received_of (message.Close recipient) r = on_line close_received r
received_of (message.Request recipient kind want rest) r = on_line (request_received want) r
received_of (message.Success recipient) r = r
received_of (message.Failure recipient) r = r

-- what happens in it then
abbrev pub act_received : Message → Relay → RelayAct
act_received (message.Transport number rest) r = Other
act_received (message.GlobalRequest name want rest what) r = Other
act_received (message.RequestSuccess rest) r = Other
act_received message.RequestFailure r = Other
act_received (message.Open kind sender window maximum rest what) r = Other
act_received (message.Confirmation recipient sender window maximum rest) r = answered_in r.line Confirms
act_received (message.OpenFailure recipient reason text language) r =
    answered_in r.line (Refuses reason)
act_received (message.Adjust recipient add) r = Other
act_received (message.Data recipient bytes) r = if delivers r then Delivers bytes.now else Other
act_received (message.Extended recipient code bytes) r = Other
act_received (message.Eof recipient) r = received_if_live r.line ReceivesEof
act_received (message.Close recipient) r = received_if_live r.line ReceivesClose
act_received (message.Request recipient kind want rest) r = Other
act_received (message.Success recipient) r = Other
act_received (message.Failure recipient) r = Other
