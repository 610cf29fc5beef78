-- What is asked, as the grammar has it.
use Rattle.std.specs.Prelude.{ℕ, ◌≤◌, List, [], length}
use Rattle.ssh_grammar.specs.Messages.{Global, Forward, Cancel, KeepAlive}
use Rattle.mux_history.specs.declared.limits.TheConstants.{MAX_ADDRESS}
use Rattle.conn_messages.specs.Keys as keys
use Rattle.global_replies.specs.declared.ask.Ask.{Ask}
use Rattle.global_replies.specs.declared.ask.Ask.TheVariants as ask

-- the request that is sent
abbrev pub what_of : Ask → Global
what_of (ask.Forward key) = Forward (keys.own_key_of key)
what_of (ask.Cancel key) = Cancel (keys.own_key_of key)
what_of ask.KeepAlive = KeepAlive

-- the address or the path of a request
abbrev pub request_text_of : Global → List ℕ
request_text_of (Forward key) = keys.text_of key
request_text_of (Cancel key) = keys.text_of key
request_text_of what = []

-- it isn't too long to be sent in a cancel
abbrev pub IsShortRequest : Global → Type 0
IsShortRequest what = length (request_text_of what) ≤ MAX_ADDRESS
