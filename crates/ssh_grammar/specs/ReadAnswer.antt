-- How an answer's body is read (PROTOCOL.mux), and which answers have a body.
use Rattle.std.specs.Prelude.{ℕ, List, [], ◌∷◌, Option, Some, None}
use Rattle.ssh_fields.specs.Fields.{take_u32, take_str}
use Rattle.ssh_grammar.specs.declared.numbers.TheConstants as number
use Rattle.ssh_grammar.specs.Tables.{by_number}
use Rattle.ssh_grammar.specs.Control.{Answer, Greets, Okay, PermissionDenied, Failed, Alive, RemotePort, Proxies}
use Rattle.ssh_grammar.specs.IsMessage.{IsNumber, IsString}

abbrev pub answer_on_u32 : List ℕ → (ℕ → List ℕ → Option Answer) → Option Answer
answer_on_u32 bytes next = elim (take_u32 bytes) [ None ↦ None | Some p ↦ next p.0 p.1 ]

abbrev pub answer_on_str : List ℕ → (List ℕ → List ℕ → Option Answer) → Option Answer
answer_on_str bytes next = elim (take_str bytes) [ None ↦ None | Some p ↦ next p.0 p.1 ]

-- nothing is left over
abbrev pub answer_on_end : List ℕ → Answer → Option Answer
answer_on_end [] answer = Some answer
answer_on_end (b ∷ bytes) answer = None

-- a number and nothing after it
abbrev pub read_one : (ℕ → Answer) → List ℕ → Option Answer
read_one answer rest = answer_on_u32 rest (λ n rest. answer_on_end rest (answer n))

abbrev pub read_two : (ℕ → ℕ → Answer) → List ℕ → Option Answer
read_two answer rest = answer_on_u32 rest (λ id rest. answer_on_u32 rest (λ n rest. answer_on_end rest (answer id n)))

abbrev pub read_reason : (ℕ → List ℕ → Answer) → List ℕ → Option Answer
read_reason answer rest =
    answer_on_u32 rest (λ id rest. answer_on_str rest (λ reason rest. answer_on_end rest (answer id reason)))

abbrev pub answer_forms : List (ℕ × (List ℕ → Option Answer))
answer_forms =
    (number.HELLO, read_one Greets)
    ∷ (number.S_OK, read_one Okay)
    ∷ (number.S_PERMISSION_DENIED, read_reason PermissionDenied)
    ∷ (number.S_FAILURE, read_reason Failed)
    ∷ (number.S_ALIVE, read_two Alive)
    ∷ (number.S_REMOTE_PORT, read_two RemotePort)
    ∷ (number.S_PROXY, read_one Proxies)
    ∷ []

-- the answer that a body is, if it is one
abbrev pub read_answer : List ℕ → Option Answer
read_answer body = answer_on_u32 body (λ kind rest. by_number answer_forms kind (λ rest. None) rest)

-- an answer whose numbers have four bytes
abbrev pub IsAnswer : Answer → Type 0
IsAnswer (Greets version) = IsNumber version
IsAnswer (Okay id) = IsNumber id
IsAnswer (PermissionDenied id reason) = IsNumber id × IsString reason
IsAnswer (Failed id reason) = IsNumber id × IsString reason
IsAnswer (Alive id pid) = IsNumber id × IsNumber pid
IsAnswer (RemotePort id port) = IsNumber id × IsNumber port
IsAnswer (Proxies id) = IsNumber id
