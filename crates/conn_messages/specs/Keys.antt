-- The keys of the code as the grammar has them.
use Rattle.std.specs.Prelude.{ℕ, ◌≤◌, ◌==◌, true, false, List, length}
use Rattle.ssh_grammar.specs.Messages as grammar
use Rattle.mux_history.specs.declared.limits.TheConstants.{MAX_ADDRESS}
use Rattle.conn_messages.specs.declared.key.Key.{Key}
use Rattle.conn_messages.specs.declared.key.Key.TheVariants as lent
use Rattle.conn_messages.specs.declared.key.OwnKey.{OwnKey}
use Rattle.conn_messages.specs.declared.key.OwnKey.TheVariants as own

-- one that is lent
abbrev pub key_of : Key → grammar.Key
key_of (lent.Tcp address port) = grammar.Tcp address.now port
key_of (lent.Path path) = grammar.Path path.now

-- one with bytes of its own
abbrev pub own_key_of : OwnKey → grammar.Key
own_key_of (own.Tcp address port) = grammar.Tcp address port
own_key_of (own.Path path) = grammar.Path path

-- its address or its path
abbrev pub text_of : grammar.Key → List ℕ
text_of (grammar.Tcp address port) = address
text_of (grammar.Path path) = path

-- it isn't too long
abbrev pub IsShort : grammar.Key → Type 0
IsShort key = length (text_of key) ≤ MAX_ADDRESS

-- the key that is listened on: the one asked, with the port that the server chose where 0 was asked
abbrev pub key_with_port : ℕ → grammar.Key → grammar.Key
key_with_port chosen (grammar.Tcp address port) =
    grammar.Tcp address (elim (port == 0) [ true ↦ chosen | false ↦ port ])
key_with_port chosen (grammar.Path path) = grammar.Path path
