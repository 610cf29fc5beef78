-- Worked runs: bytes as hexadecimal digits, and journals as they came, the oldest mark first.
use Rattle.std.specs.Prelude.{ℕ, ◌+◌, ◌-◌, ◌*◌, ◌==◌, List, [], ◌∷◌, ◌++◌, true, false, codes, drop, nat_lt, reverse}
use Rattle.mux_outside.specs.declared.house.HouseReply.{HouseReply}
use Rattle.mux_outside.specs.declared.mark.Mark.{Mark}
use Rattle.mux_outside.specs.declared.mark.Mark.TheVariants.{Accepts, Gets, Ends}
use Rattle.mux_history.specs.Rows.{Row}
use Rattle.mux_history.specs.Pending.{given_to}
use Rattle.mux_history.specs.Policy.{Policy, any_policy}
use Rattle.mux_history.specs.Choices.{FromLists}
use Rattle.mux_history.specs.Log.{Setting}
use Rattle.mux_history.specs.Journal.{log_of_journal}

-- ---- bytes

-- a hexadecimal digit
abbrev pub hex_digit_value : ℕ → ℕ
hex_digit_value c = elim (nat_lt c 58) [ true ↦ c - 48 | false ↦ c - 87 ]

-- the bytes of hexadecimal digits, with spaces between them
abbrev pub hex : List ℕ → List ℕ
hex [] = []
hex (c ∷ []) = []
hex (c ∷ d ∷ text) = elim (c == 32) [
  | true ↦ hex (d ∷ text)
  | false ↦ (hex_digit_value c * 16 + hex_digit_value d) ∷ hex text
]

-- ---- runs

-- a run under a policy
abbrev pub under : Policy → ℕ → List HouseReply → Setting
under policy pid replies =
    record { policy = policy; pid = pid; choices = FromLists (0 ∷ 1 ∷ 2 ∷ 3 ∷ []) replies }

-- a run in which all is permitted
abbrev pub open_setting : Setting
open_setting = under any_policy 42 []

-- the log of a journal
abbrev pub run_of : Setting → List Mark → List Row
run_of setting marks = log_of_journal setting (reverse marks)

-- the log under that setting
abbrev pub run : List Mark → List Row
run marks = run_of open_setting marks

-- all that the server and a client are given; and what a client is given after its hello and the
-- answer to PROXY
abbrev pub sent_to_server : List Row → List ℕ
sent_to_server rows = given_to 0 rows

-- what a client is given
abbrev pub sent_to_client : ℕ → List Row → List ℕ
sent_to_client k rows = given_to k rows

-- the same after the hello and the answer to PROXY
abbrev pub recorded_in_proxy : ℕ → List Row → List ℕ
recorded_in_proxy k rows = drop 24 (given_to k rows)

-- ---- what clients begin with

-- a hello of version 4
abbrev pub hello : List ℕ
hello = hex (codes "00000008 00000001 00000004")

-- a client that has greeted
abbrev pub greets : ℕ → List Mark
greets k = Accepts k ∷ Gets k hello ∷ []

-- a client in proxy mode
abbrev pub enters : ℕ → List Mark
enters k = Accepts k ∷ Gets k (hello ++ hex (codes "00000008 1000000f 00000000")) ∷ []

-- two streams, a byte of each in turn
abbrev pub bytewise : ℕ → ℕ → List ℕ → List Mark
bytewise a b [] = []
bytewise a b (x ∷ xs) = Gets a (x ∷ []) ∷ Gets b (x ∷ []) ∷ bytewise a b xs

-- ---- the control phase

-- a hello and an alive check
abbrev pub alive_check : List ℕ
alive_check = hello ++ hex (codes "00000008 10000004 00000007")

-- two clients ask at once
abbrev pub two_alive_checks : List Mark
two_alive_checks = Accepts 1 ∷ Accepts 2 ∷ bytewise 1 2 alive_check ++ Ends 0 ∷ []

-- one client sends version 3
abbrev pub another_version : List Mark
another_version =
    Accepts 1 ∷ Accepts 2 ∷ Gets 1 (hex (codes "00000008 00000001 00000003"))
    ∷ Gets 2 alive_check ∷ []

-- a session by descriptors, and bytes after it
abbrev pub session_with_descriptors : List Mark
session_with_descriptors =
    greets 1 ++ Gets 1 (hex (codes "0000000c 10000002 00000005 00000000"))
    ∷ Gets 1 (hex (codes "00 00 00")) ∷ []

-- the end is asked for, and more
abbrev pub terminate : List Mark
terminate =
    greets 1 ++ Gets 1 (hex (codes "00000008 10000005 00000003"))
    ∷ Gets 1 (hex (codes "00000008 10000004 00000007")) ∷ []

-- an alive check that is cut short
abbrev pub alive_without_id : List Mark
alive_without_id = greets 1 ++ Gets 1 (hex (codes "00000004 10000004")) ∷ []

-- an unknown type with an id, and one without
abbrev pub unknown_types : List Mark
unknown_types =
    greets 1 ++ greets 2 ++ Gets 1 (hex (codes "00000008 1000000a 00000009"))
    ∷ Gets 2 (hex (codes "00000004 1000000a")) ∷ []

-- what is requested of the forwarder: a remote forwarding of port 8080 at any address to port 80 of
-- a host
abbrev pub forward_asks : List Mark
forward_asks =
    greets 1 ++ Gets 1 (hex (codes "0000001e 10000006 00000001 00000002 00000000 00001f90 00000002")
    ++ (codes "db" ++ hex (codes "00000050")))
    ∷ Gets 1 (hex (codes "0000001e 10000007 00000002 00000002 00000000 00001f90 00000002")
    ++ (codes "db" ++ hex (codes "00000050")))
    ∷ []
