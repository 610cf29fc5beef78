-- How a control message's body is read (PROTOCOL.mux): the message, or the first fault and its
-- place.
use Rattle.std.specs.Prelude.{ℕ, ◌+◌, List, [], ◌∷◌, length, Some, None, Result, Ok, Err, zero, suc}
use Rattle.ssh_fields.specs.Fields.{take_u32, take_str}
use Rattle.ssh_grammar.specs.declared.fault.BadControl.{BadControl}
use Rattle.ssh_grammar.specs.declared.fault.BadControl.TheVariants as bad
use Rattle.ssh_grammar.specs.declared.numbers.TheConstants as number
use Rattle.ssh_grammar.specs.Tables.{by_number}
use Rattle.ssh_grammar.specs.Control.{ForwardAsk, Control, Hello, NewSession, AliveCheck, Terminate, OpenForward, CloseForward, StdioForward, StopListening, Proxy}

-- a control message, or a fault
abbrev pub ControlReading : Type 0
ControlReading = Result Control BadControl

-- a number
abbrev pub control_on_u32 : List ℕ → ℕ → (ℕ → List ℕ → ℕ → ControlReading) → ControlReading
control_on_u32 bytes at next =
    elim (take_u32 bytes) [ None ↦ Err (bad.Short at) | Some p ↦ next p.0 p.1 (at + 4) ]

-- a string
abbrev pub control_on_str : List ℕ → ℕ → (List ℕ → List ℕ → ℕ → ControlReading) → ControlReading
control_on_str bytes at next =
    elim (take_str bytes) [
      | None ↦ Err (bad.Short at)
      | Some p ↦ next p.0 p.1 (at + 4 + length p.0)
    ]

-- nothing is left over
abbrev pub control_on_end : List ℕ → ℕ → Control → ControlReading
control_on_end [] at m = Ok m
control_on_end (b ∷ bytes) at m = Err (bad.Extra at)

-- an id and nothing after it
abbrev pub read_id : (ℕ → Control) → List ℕ → ControlReading
read_id message rest = control_on_u32 rest 4 (λ id rest at. control_on_end rest at (message id))

-- an id and bytes that are not read
abbrev pub read_unread : (ℕ → List ℕ → Control) → List ℕ → ControlReading
read_unread message rest = control_on_u32 rest 4 (λ id rest at. Ok (message id rest))

-- pairs of name and value up to the end; the first number bounds how many
abbrev pub on_pairs : ℕ → List ℕ → ℕ → (List (List ℕ × List ℕ) → Control) → ControlReading
on_pairs zero rest at next = control_on_end rest at (next [])
on_pairs (suc n) [] at next = Ok (next [])
on_pairs (suc n) (b ∷ rest) at next =
    control_on_str (b ∷ rest) at (λ name rest at.
    control_on_str rest at (λ value rest at. on_pairs n rest at (λ pairs. next ((name, value) ∷ pairs))))

-- a version and extensions
abbrev pub read_hello : List ℕ → ControlReading
read_hello rest = control_on_u32 rest 4 (λ version rest at. on_pairs (length rest) rest at (Hello version))

-- an id, a kind and both ends
abbrev pub read_forward : (ℕ → ForwardAsk → Control) → List ℕ → ControlReading
read_forward message rest =
    control_on_u32 rest 4 (λ id rest at. control_on_u32 rest at (λ kind rest at.
    control_on_str rest at (λ listen_host rest at. control_on_u32 rest at (λ listen_port rest at.
    control_on_str rest at (λ connect_host rest at. control_on_u32 rest at (λ connect_port rest at.
    control_on_end rest at (message id
    (record {
      kind = kind;
      listen_host = listen_host;
      listen_port = listen_port;
      connect_host = connect_host;
      connect_port = connect_port;
    }))))))))

-- how each type is read
abbrev pub control_forms : List (ℕ × (List ℕ → ControlReading))
control_forms =
    (number.HELLO, read_hello)
    ∷ (number.NEW_SESSION, read_unread NewSession)
    ∷ (number.ALIVE_CHECK, read_id AliveCheck)
    ∷ (number.TERMINATE, read_id Terminate)
    ∷ (number.OPEN_FWD, read_forward OpenForward)
    ∷ (number.CLOSE_FWD, read_forward CloseForward)
    ∷ (number.NEW_STDIO_FWD, read_unread StdioForward)
    ∷ (number.STOP_LISTENING, read_id StopListening)
    ∷ (number.PROXY, read_id Proxy)
    ∷ []

-- a type that no client sends, and the id after it, if there is one
abbrev pub read_unknown : ℕ → List ℕ → ControlReading
read_unknown kind rest =
    elim (take_u32 rest) [
      | None ↦ Err (bad.Unknown kind None)
      | Some p ↦ Err (bad.Unknown kind (Some p.0))
    ]

-- the control message that a body is, or why it is none
abbrev pub read_control : List ℕ → ControlReading
read_control body = control_on_u32 body 0 (λ kind rest at. by_number control_forms kind (read_unknown kind) rest)
