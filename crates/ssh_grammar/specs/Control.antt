-- The control messages of PROTOCOL.mux version 4 with all their fields.
use Rattle.std.specs.Prelude.{ℕ, List, codes}

-- what a client asks to be forwarded, or no longer (PROTOCOL.mux, port forwards): its kind and both
-- ends
pub record ForwardAsk : Type 0 where
  pub kind : ℕ
  pub listen_host : List ℕ
  pub listen_port : ℕ
  pub connect_host : List ℕ
  pub connect_port : ℕ

-- what clients send; `rest` are bytes that are not read
pub data Control : Type 0 where
  Hello : (version : ℕ) (extensions : List (List ℕ × List ℕ)) → Control
  NewSession : (id : ℕ) (rest : List ℕ) → Control
  AliveCheck : (id : ℕ) → Control
  Terminate : (id : ℕ) → Control
  OpenForward : (id : ℕ) (what : ForwardAsk) → Control
  CloseForward : (id : ℕ) (what : ForwardAsk) → Control
  StdioForward : (id : ℕ) (rest : List ℕ) → Control
  StopListening : (id : ℕ) → Control
  Proxy : (id : ℕ) → Control

-- what masters send
pub data Answer : Type 0 where
  Greets : (version : ℕ) → Answer
  Okay : (id : ℕ) → Answer
  PermissionDenied : (id : ℕ) (reason : List ℕ) → Answer
  Failed : (id : ℕ) (reason : List ℕ) → Answer
  Alive : (id pid : ℕ) → Answer
  RemotePort : (id port : ℕ) → Answer
  Proxies : (id : ℕ) → Answer

-- the reasons that this master gives for a failure

-- where descriptors are asked for
abbrev pub no_descriptors : List ℕ
no_descriptors = codes "descriptors are not supported"

-- where the forwarder refuses
abbrev pub no_forwardings : List ℕ
no_forwardings = codes "forwardings are not served"

-- where the type is unknown
abbrev pub unsupported : List ℕ
unsupported = codes "unsupported request"
