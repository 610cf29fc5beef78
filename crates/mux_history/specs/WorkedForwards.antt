-- Worked runs with global requests: remote forwardings, their opens, and answers in order.
use Rattle.std.specs.Prelude.{ℕ, List, [], ◌∷◌, ◌++◌, Some, None, codes, true}
use Rattle.mux_outside.specs.declared.mark.Mark.{Mark}
use Rattle.mux_outside.specs.declared.mark.Mark.TheVariants.{Gets, Ends, WriteFails}
use Rattle.ssh_fields.specs.Fields.{u32}
use Rattle.mux_history.specs.Policy.{Policy, Anything, Ports, Entries}
use Rattle.mux_history.specs.Worked.{hex, enters}

-- asks for a forwarding of a port at any address
abbrev pub asks_port : ℕ → List ℕ
asks_port port =
    hex (codes "0000001c 00 50 0000000d")
    ++ (codes "tcpip-forward" ++ (hex (codes "01 00000000") ++ u32 port))

-- the server's success with a port, and without data; and its failure
abbrev pub success_with_port : ℕ → List ℕ
success_with_port port = hex (codes "00000006 00 51") ++ u32 port

-- a success without data
abbrev pub success : List ℕ
success = hex (codes "00000002 00 51")

-- a failure
abbrev pub failure : List ℕ
failure = hex (codes "00000002 00 52")

-- a cancel that wants a reply, and one that does not
abbrev pub cancel_requests : ℕ → List ℕ
cancel_requests port =
    hex (codes "00000023 00 50 00000014")
    ++ (codes "cancel-tcpip-forward" ++ (hex (codes "01 00000000") ++ u32 port))

-- a cancel that wants no reply
abbrev pub cancels_at_once : ℕ → List ℕ
cancels_at_once port =
    hex (codes "00000023 00 50 00000014")
    ++ (codes "cancel-tcpip-forward" ++ (hex (codes "00 00000000") ++ u32 port))

-- the server opens a channel for a connection to a port
abbrev pub open_for_port : ℕ → ℕ → List ℕ
open_for_port port sender =
    hex (codes "00000031 00 5a 0000000f")
    ++ (codes "forwarded-tcpip"
    ++ (u32 sender ++ (hex (codes "00200000 00008000 00000000")
    ++ (u32 port ++ hex (codes "00000000 00000007")))))

-- two clients ask for a port, and are given theirs in the order in which they asked
abbrev pub two_ports : List Mark
two_ports =
    enters 1 ++ (enters 2 ++ (Gets 1 (asks_port 0) ∷ Gets 2 (asks_port 0) ∷ Gets 0 (success_with_port 40001)
    ∷ Gets 0 (success_with_port 40002) ∷ []))

-- a connection arrives for the second, and its client accepts it
abbrev pub second_connected : List Mark
second_connected =
    two_ports ++ (Gets 0 (open_for_port 40002 9)
    ∷ Gets 2 (hex (codes "00000012 00 5b 00000009 00000003 00200000 00008000")) ∷ [])

-- the server uses its number twice
abbrev pub connected_twice : List Mark
connected_twice = second_connected ++ Gets 0 (open_for_port 40002 9) ∷ []

-- one port may be listened on
abbrev pub port_8080_only : Policy
port_8080_only =
    record { opens = Anything; listens = Entries (Ports None (Some 8080) ∷ []); sessions = true }

-- two ports are asked for
abbrev pub one_of_two_ports : List Mark
one_of_two_ports = enters 1
    ++ (Gets 1 (asks_port 8080) ∷ Gets 1 (asks_port 9090) ∷ Gets 0 (success_with_port 0) ∷ [])

-- a request that is refused
abbrev pub no_more_sessions : List Mark
no_more_sessions =
    enters 1 ++ Gets 1 (hex (codes "00000023 00 50 0000001c")
    ++ (codes "no-more-sessions@openssh.com" ++ hex (codes "01"))) ∷ []

-- a forwarding is cancelled twice, the server answers once, and then a connection arrives at the
-- port
abbrev pub cancelled_twice : List Mark
cancelled_twice =
    two_ports ++ (Gets 1 (cancel_requests 40001) ∷ Gets 1 (cancel_requests 40001) ∷ Gets 0 success
    ∷ Gets 0 (open_for_port 40001 12) ∷ [])

-- the client ends while its cancel is unanswered, and the server refuses the cancel
abbrev pub cancel_refused_late : List Mark
cancel_refused_late =
    enters 1 ++ (Gets 1 (asks_port 8080) ∷ Gets 0 success ∷ Gets 1 (cancel_requests 8080) ∷ Ends 1
    ∷ Gets 0 failure ∷ [])

-- the first client fails while it is given its port
abbrev pub recorded_too_late : List Mark
recorded_too_late =
    enters 1 ++ (enters 2 ++ (Gets 1 (asks_port 0) ∷ Gets 2 (asks_port 0) ∷ Gets 0 (success_with_port 40001)
    ∷ WriteFails 1 ∷ Gets 0 (success_with_port 40002) ∷ []))

-- a reply where nothing was asked
abbrev pub replies_to_nothing : List Mark
replies_to_nothing = enters 1 ++ Gets 0 success ∷ []

-- a success without the port
abbrev pub short_port : List Mark
short_port = enters 1 ++ (Gets 1 (asks_port 0) ∷ Gets 0 success ∷ [])
