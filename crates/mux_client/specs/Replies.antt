-- What a master's reply means to the client that asked (PROTOCOL.mux).
use Rattle.std.specs.Prelude.{ℕ, Bool, true, false, List, [], ◌++◌, codes, Option, Some, None, nat_eq, Ok, Err}
use Rattle.std.specs.Fmt.{decimal}
use Rattle.ssh_grammar.specs.declared.numbers.TheConstants.{VERSION}
use Rattle.ssh_grammar.specs.Control.{Control, Hello, Answer, Okay, PermissionDenied, Failed, Alive, RemotePort}
use Rattle.ssh_grammar.specs.ReadControl.{read_control}
use Rattle.ssh_grammar.specs.ReadAnswer.{read_answer}
use Rattle.mux_client.specs.Requests.{Request, Checks, Exits, TalkStops, Opens, Closes}

-- ---- lines

abbrev pub running_line : ℕ → List ℕ
running_line pid = codes "Master running (pid=" ++ (decimal pid ++ codes ")\n")

abbrev pub exit_line : List ℕ
exit_line = codes "Exit request sent.\n"

abbrev pub stop_line : List ℕ
stop_line = codes "Stop listening request sent.\n"

abbrev pub port_line : ℕ → List ℕ
port_line port = decimal port ++ codes "\n"

-- ---- the hello

-- whether a body is a hello of version 4; its extensions are skipped
abbrev pub is_hello_control : Control → Bool
is_hello_control (Hello version extensions) = nat_eq version VERSION
is_hello_control _ = false

abbrev pub is_hello : List ℕ → Bool
is_hello body = elim (read_control body) [ Ok c ↦ is_hello_control c | Err e ↦ false ]

-- ---- a reply

-- the request is done, with these bytes to be shown; it is refused; or the master sent something
-- else
pub data ReplyVerdict : Type 0 where
  Grants : (line : List ℕ) → ReplyVerdict
  Refuses : ReplyVerdict
  Breaks : ReplyVerdict

-- where the id is that of the request
abbrev pub for_id : ℕ → ℕ → ReplyVerdict → ReplyVerdict
for_id id n verdict = elim (nat_eq n id) [ true ↦ verdict | false ↦ Breaks ]

-- what a success means: each request has its own ones
abbrev pub verdict_of_success : Request → Answer → ReplyVerdict
verdict_of_success Checks (Alive n pid) = Grants (running_line pid)
verdict_of_success Exits (Okay n) = Grants exit_line
verdict_of_success TalkStops (Okay n) = Grants stop_line
verdict_of_success (Opens what) (Okay n) = Grants []
verdict_of_success (Opens what) (RemotePort n port) = Grants (port_line port)
verdict_of_success (Closes what) (Okay n) = Grants []
verdict_of_success _ _ = Breaks

-- the id of an answer, if it has one
abbrev pub id_of : Answer → Option ℕ
id_of (Okay n) = Some n
id_of (PermissionDenied n reason) = Some n
id_of (Failed n reason) = Some n
id_of (Alive n pid) = Some n
id_of (RemotePort n port) = Some n
id_of _ = None

-- a refusal can be the reply to each request
abbrev pub meaning : Request → Answer → ReplyVerdict
meaning request (PermissionDenied n reason) = Refuses
meaning request (Failed n reason) = Refuses
meaning request answer = verdict_of_success request answer

-- what an answer means to the request with this id
abbrev pub verdict_on : Request → ℕ → Option Answer → ReplyVerdict
verdict_on request id None = Breaks
verdict_on request id (Some answer) =
    elim (id_of answer) [ None ↦ Breaks | Some n ↦ for_id id n (meaning request answer) ]

abbrev pub verdict : Request → ℕ → List ℕ → ReplyVerdict
verdict request id body = verdict_on request id (read_answer body)
