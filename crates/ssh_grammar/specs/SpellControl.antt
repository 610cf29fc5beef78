-- How a control message is written as a body (PROTOCOL.mux).
use Rattle.std.specs.Prelude.{ℕ, List, [], ◌∷◌, ◌++◌}
use Rattle.ssh_fields.specs.Fields.{u32, str}
use Rattle.ssh_grammar.specs.declared.numbers.TheConstants as number
use Rattle.ssh_grammar.specs.Control.{ForwardAsk, Control, Hello, NewSession, AliveCheck, Terminate, OpenForward, CloseForward, StdioForward, StopListening, Proxy, Answer, Greets, Okay, PermissionDenied, Failed, Alive, RemotePort, Proxies}

-- extensions
abbrev pub spell_pairs : List (List ℕ × List ℕ) → List ℕ
spell_pairs [] = []
spell_pairs (pair ∷ pairs) = str pair.0 ++ (str pair.1 ++ spell_pairs pairs)

-- a forwarding
abbrev pub spell_ask : ForwardAsk → List ℕ
spell_ask a = u32 a.kind
    ++ (str a.listen_host ++ (u32 a.listen_port ++ (str a.connect_host ++ u32 a.connect_port)))

-- what a client sends
abbrev pub spell_control : Control → List ℕ
spell_control (Hello version extensions) =
    u32 number.HELLO ++ (u32 version ++ spell_pairs extensions)
spell_control (NewSession id rest) = u32 number.NEW_SESSION ++ (u32 id ++ rest)
spell_control (AliveCheck id) = u32 number.ALIVE_CHECK ++ u32 id
spell_control (Terminate id) = u32 number.TERMINATE ++ u32 id
spell_control (OpenForward id what) = u32 number.OPEN_FWD ++ (u32 id ++ spell_ask what)
spell_control (CloseForward id what) = u32 number.CLOSE_FWD ++ (u32 id ++ spell_ask what)
spell_control (StdioForward id rest) = u32 number.NEW_STDIO_FWD ++ (u32 id ++ rest)
spell_control (StopListening id) = u32 number.STOP_LISTENING ++ u32 id
spell_control (Proxy id) = u32 number.PROXY ++ u32 id

-- what a master sends
abbrev pub spell_answer : Answer → List ℕ
spell_answer (Greets version) = u32 number.HELLO ++ u32 version
spell_answer (Okay id) = u32 number.S_OK ++ u32 id
spell_answer (PermissionDenied id reason) = u32 number.S_PERMISSION_DENIED ++ (u32 id ++ str reason)
spell_answer (Failed id reason) = u32 number.S_FAILURE ++ (u32 id ++ str reason)
spell_answer (Alive id pid) = u32 number.S_ALIVE ++ (u32 id ++ u32 pid)
spell_answer (RemotePort id port) = u32 number.S_REMOTE_PORT ++ (u32 id ++ u32 port)
spell_answer (Proxies id) = u32 number.S_PROXY ++ u32 id
