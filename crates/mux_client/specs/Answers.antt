-- A master's answer as the code reads it.
use Rattle.std.specs.Prelude.{◌≡◌, ℕ, List, Option, Some, None}
use Rattle.ssh_grammar.specs.Control.{Answer, Greets, Okay, PermissionDenied, Failed, Alive, RemotePort, Proxies}
use Rattle.mux_client.specs.declared.answer.Answer.{Answer as Read}
use Rattle.mux_client.specs.declared.answer.Answer.TheVariants as read

-- the code keeps no reason, and no message that answers nothing
abbrev pub read_of_answer : Answer → Read
read_of_answer (Okay id) = read.Okay id
read_of_answer (PermissionDenied id reason) = read.Refusal id
read_of_answer (Failed id reason) = read.Refusal id
read_of_answer (Alive id pid) = read.Alive id pid
read_of_answer (RemotePort id port) = read.RemotePort id port
read_of_answer (Greets version) = read.Other
read_of_answer (Proxies id) = read.Other

-- what was read is what the body is
abbrev pub GivesAnswer : Option Read → Option Answer → Type 0
GivesAnswer None reading = reading ≡ None
GivesAnswer (Some r) reading = (answer : Answer) × (reading ≡ Some answer) × (r ≡ read_of_answer answer)

-- the fields that were read, seen by view, are what reading gives
abbrev pub ReadsAnswer : {X : Type 0} → (X → Answer) → Option X → Option Answer → Type 0
ReadsAnswer view None reading = reading ≡ None
ReadsAnswer view (Some x) reading = reading ≡ Some (view x)

-- the same of a number and a text, of which the code keeps the number
abbrev pub ReadsReason : (ℕ → List ℕ → Answer) → Option ℕ → Option Answer → Type 0
ReadsReason answer None reading = reading ≡ None
ReadsReason answer (Some n) reading = (reason : List ℕ) × (reading ≡ Some (answer n reason))
