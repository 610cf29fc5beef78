-- Worked runs in proxy mode: opens, data, windows, and channels that end.
use Rattle.std.specs.Prelude.{ℕ, List, [], ◌∷◌, ◌++◌, Some, codes, drop, true, false}
use Rattle.mux_outside.specs.declared.mark.Mark.{Mark}
use Rattle.mux_outside.specs.declared.mark.Mark.TheVariants.{Gets, Ends, Fails}
use Rattle.ssh_fields.specs.Fields.{u32}
use Rattle.mux_history.specs.Rows.{Row}
use Rattle.mux_history.specs.Policy.{Policy, Anything, Ports, Entries, any_policy}
use Rattle.mux_history.specs.Choices.{FromLists}
use Rattle.mux_history.specs.Log.{Setting}
use Rattle.mux_history.specs.Worked.{hex, sent_to_server, enters}

-- an open of a session under the client's number, with a window of 2,097,152 and a maximum of
-- 32,768
abbrev pub session : ℕ → List ℕ
session own =
    hex (codes "00000019 00 5a 00000007")
    ++ (codes "session" ++ (u32 own ++ hex (codes "00200000 00008000")))

-- two clients that both opened a session as 0, and what went up after these
abbrev pub two_sessions : List Mark
two_sessions = enters 1 ++ (enters 2 ++ (Gets 1 (session 0) ∷ Gets 2 (session 0) ∷ []))

-- what went up after the two opens
abbrev pub sent_after_two : List Row → List ℕ
sent_after_two rows = drop 58 (sent_to_server rows)

-- the server confirms the second, as its own 5 with a window of 5
abbrev pub second_confirmed : List Mark
second_confirmed = two_sessions
    ++ Gets 0 (hex (codes "00000012 00 5b 00000001 00000005 00000005 00008000")) ∷ []

-- the window is filled, and then one byte more
abbrev pub past_window : List Mark
past_window =
    second_confirmed ++ (Gets 2 (hex (codes "0000000f 00 5e 00000005 00000005") ++ codes "hello")
    ∷ Gets 2 (hex (codes "0000000b 00 5e 00000005 00000001") ++ codes "x") ∷ [])

-- the client grants as much as fits, and then one more
abbrev pub overgrown_down : List Mark
overgrown_down =
    second_confirmed ++ (Gets 2 (hex (codes "0000000a 00 5d 00000005 ffdfffff"))
    ∷ Gets 2 (hex (codes "0000000a 00 5d 00000005 00000001")) ∷ [])

-- the server does
abbrev pub overgrown_up : List Mark
overgrown_up =
    second_confirmed ++ (Gets 0 (hex (codes "0000000a 00 5d 00000001 fffffffa"))
    ∷ Gets 0 (hex (codes "0000000a 00 5d 00000001 00000001")) ∷ [])

-- the channel is closed both ways
abbrev pub closed : List Mark
closed =
    second_confirmed ++ (Gets 2 (hex (codes "00000006 00 61 00000005"))
    ∷ Gets 0 (hex (codes "00000006 00 61 00000001")) ∷ [])

-- the server writes to number 1
abbrev pub data_to_one : Mark
data_to_one = Gets 0 (hex (codes "0000000b 00 5e 00000001 00000001") ++ codes "x")

-- which no client holds
abbrev pub data_to_nobody : List Mark
data_to_nobody = closed ++ data_to_one ∷ []

-- the number is given again, to the first client's next open
abbrev pub data_too_early : List Mark
data_too_early = closed ++ (Gets 1 (session 1) ∷ data_to_one ∷ [])

-- the picks give number 1 twice
abbrev pub again_setting : Setting
again_setting = record { policy = any_policy; pid = 42; choices = FromLists (0 ∷ 1 ∷ 1 ∷ []) [] }

-- a client writes to another's channel
abbrev pub foreign_data : List Mark
foreign_data = second_confirmed
    ++ Gets 1 (hex (codes "0000000b 00 5e 00000005 00000001") ++ codes "x") ∷ []

-- ---- what opens are refused

-- one host and port may be opened, and sessions
abbrev pub database_only : Policy
database_only = record {
  opens = Entries (Ports (Some (codes "db")) (Some 5432) ∷ []);
  listens = Anything;
  sessions = true;
}

-- one host and port may be opened, and no session
abbrev pub no_session : Policy
no_session = record database_only { sessions = false }

-- an open to another
abbrev pub to_web : List ℕ
to_web =
    hex (codes "00000031 00 5a 0000000c")
    ++ (codes "direct-tcpip"
    ++ (hex (codes "00000004 00200000 00008000 00000003")
    ++ (codes "web" ++ hex (codes "00000050 00000000 00000001"))))

-- an open to it
abbrev pub to_database : ℕ → List ℕ
to_database number =
    hex (codes "00000030 00 5a 0000000c")
    ++ (codes "direct-tcpip"
    ++ (u32 number ++ (hex (codes "00200000 00008000 00000002")
    ++ (codes "db" ++ hex (codes "00001538 00000000 00000001")))))

-- both are opened
abbrev pub opens_directly : List Mark
opens_directly = enters 1 ++ (Gets 1 to_web ∷ Gets 1 (to_database 4) ∷ [])

-- a session and the host and port are opened
abbrev pub opens_session_too : List Mark
opens_session_too = enters 1 ++ (Gets 1 (session 3) ∷ Gets 1 (to_database 4) ∷ [])

-- an open of another type
abbrev pub opens_display : List Mark
opens_display =
    enters 1 ++ Gets 1 (hex (codes "00000015 00 5a 00000003")
    ++ (codes "x11" ++ hex (codes "00000004 00200000 00008000"))) ∷ []

-- ---- frames

-- a client sends bytes
abbrev pub sends_at_once : List ℕ → List Mark
sends_at_once bytes = enters 1 ++ Gets 1 bytes ∷ []

-- the server sends bytes
abbrev pub server_sends : List ℕ → List Mark
server_sends bytes = Gets 0 bytes ∷ []

-- PROXY in two pieces, the second of which begins the first payload
abbrev pub enters_in_pieces : List Mark
enters_in_pieces =
    Gets 1 (hex (codes "00000008 10")) ∷ Gets 1 (hex (codes "00000f 00000000") ++ session 0) ∷ []

-- the server ends inside a frame
abbrev pub cut_short : List Mark
cut_short = Gets 0 (hex (codes "00000006 00")) ∷ Ends 0 ∷ []

-- the server's stream fails
abbrev pub server_fails : List Mark
server_fails = Fails 0 ∷ []
