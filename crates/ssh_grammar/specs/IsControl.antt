-- Which bodies are which control messages (PROTOCOL.mux): the type's number and the fields, with
-- nothing left over.
use Rattle.std.specs.Prelude.{◌≡◌, ℕ, List}
use Rattle.std.specs.List.{AllByRecursion}
use Rattle.ssh_grammar.specs.Control.{ForwardAsk, Control, Hello, NewSession, AliveCheck, Terminate, OpenForward, CloseForward, StdioForward, StopListening, Proxy}
use Rattle.ssh_grammar.specs.SpellControl.{spell_control}
use Rattle.ssh_grammar.specs.IsMessage.{IsNumber, IsString}

-- numbers of four bytes, and strings whose lengths are such numbers
pub record IsAsk (a : ForwardAsk) : Type 0 where
  pub kind : IsNumber a.kind
  pub listen_host : IsString a.listen_host
  pub listen_port : IsNumber a.listen_port
  pub connect_host : IsString a.connect_host
  pub connect_port : IsNumber a.connect_port

abbrev pub IsPair : List ℕ × List ℕ → Type 0
IsPair pair = IsString pair.0 × IsString pair.1

-- a control message that has a body
abbrev pub IsControl : Control → Type 0
IsControl (Hello version extensions) = IsNumber version × AllByRecursion IsPair extensions
IsControl (NewSession id rest) = IsNumber id
IsControl (AliveCheck id) = IsNumber id
IsControl (Terminate id) = IsNumber id
IsControl (OpenForward id what) = IsNumber id × IsAsk what
IsControl (CloseForward id what) = IsNumber id × IsAsk what
IsControl (StdioForward id rest) = IsNumber id
IsControl (StopListening id) = IsNumber id
IsControl (Proxy id) = IsNumber id

-- the body is the message's
pub record SpellsControl (c : Control) (body : List ℕ) : Type 0 where
  pub is_control : IsControl c
  pub spelled : body ≡ spell_control c
