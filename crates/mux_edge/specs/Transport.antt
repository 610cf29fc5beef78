-- Over which kind of socket a transport is reached.
use Rattle.std.specs.Prelude.{◌≡◌, ℕ, Bool, List, true, false, ◌==◌}
use Rattle.std.specs.List.{list_any}
use Rattle.mux_edge.specs.declared.stream.Stream.{Stream}
use Rattle.mux_edge.specs.declared.stream.Stream.TheVariants.{Unix, Tcp, Begun}

-- a stream over a Unix socket
abbrev pub IsOverUnix : {U T : Type 0} → Stream U T → Type 0
IsOverUnix (Unix s) = Unit {0}
IsOverUnix (Tcp s) = ⊥
IsOverUnix Begun = ⊥

-- a stream over TCP
abbrev pub IsOverTcp : {U T : Type 0} → Stream U T → Type 0
IsOverTcp (Unix s) = ⊥
IsOverTcp (Tcp s) = Unit {0}
IsOverTcp Begun = ⊥

-- descriptors can be passed beside the bytes of a stream
abbrev pub passes_descriptors : {U T : Type 0} → Stream U T → Bool
passes_descriptors (Unix s) = true
passes_descriptors (Tcp s) = false
passes_descriptors Begun = false

-- a stream without a socket so far
abbrev pub is_begun : {U T : Type 0} → Stream U T → Bool
is_begun (Unix s) = false
is_begun (Tcp s) = false
is_begun Begun = true

-- a transport that has a slash is a Unix socket's path, and any other an address and port for TCP
abbrev pub IsOverTransport : {U T : Type 0} → Stream U T → List ℕ → Type 0
IsOverTransport (Unix s) transport = list_any (λ byte. byte == 47) transport ≡ true
IsOverTransport (Tcp s) transport = list_any (λ byte. byte == 47) transport ≡ false
IsOverTransport Begun transport = ⊥
