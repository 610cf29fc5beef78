-- Worked runs in which clients are lost, and limits are reached.
use Rattle.std.specs.Prelude.{ℕ, ◌+◌, List, [], ◌∷◌, ◌++◌, zero, suc, true, codes}
use Rattle.mux_outside.specs.declared.mark.Mark.{Mark}
use Rattle.mux_outside.specs.declared.mark.Mark.TheVariants.{Accepts, Gets, Ends, Holds, Frees, Takes}
use Rattle.mux_history.specs.Worked.{hex, enters, hello}
use Rattle.mux_history.specs.WorkedProxy.{session}
use Rattle.mux_history.specs.WorkedForwards.{asks_port, success_with_port, success, open_for_port}

-- a client with a confirmed channel, an open without an answer and a forwarding without an answer
-- ends
abbrev pub leaves : List Mark
leaves =
    enters 1 ++ (Gets 1 (session 0)
    ∷ Gets 0 (hex (codes "00000012 00 5b 00000000 00000007 00000064 00000064"))
    ∷ Gets 1 (session 1) ∷ Gets 1 (asks_port 0) ∷ Ends 1 ∷ [])

-- its open is confirmed afterwards
abbrev pub late_confirmation : List Mark
late_confirmation = leaves
    ++ Gets 0 (hex (codes "00000012 00 5b 00000001 00000008 00000064 00000064")) ∷ []

-- its forwarding succeeds afterwards
abbrev pub forwarding_late : List Mark
forwarding_late = late_confirmation ++ Gets 0 (success_with_port 40001) ∷ []

-- the server closes both channels
abbrev pub all_closed : List Mark
all_closed =
    forwarding_late ++ (Gets 0 (hex (codes "00000006 00 61 00000000"))
    ∷ Gets 0 (hex (codes "00000006 00 61 00000001")) ∷ [])

-- a client that ends with an open of the server that it has not answered, and one that it has
abbrev pub leaves_opens : List Mark
leaves_opens =
    enters 1 ++ (Gets 1 (asks_port 8080) ∷ Gets 0 success ∷ Gets 0 (open_for_port 8080 3)
    ∷ Gets 1 (hex (codes "00000012 00 5b 00000003 00000006 0000000a 0000000a"))
    ∷ Gets 0 (open_for_port 8080 4) ∷ Ends 1 ∷ [])

-- so many clients come
abbrev pub come : ℕ → ℕ → List Mark
come first zero = []
come first (suc n) = Accepts first ∷ come (first + 1) n

-- one more than may be served
abbrev pub sixty_five : List Mark
sixty_five = come 1 65

-- the server never answers the client that left, and 64 more come
abbrev pub dialogs_full : List Mark
dialogs_full = leaves ++ come 2 64

-- a client accepts nothing for now; another is served
abbrev pub held_back : List Mark
held_back =
    Accepts 1 ∷ Holds 1 ∷ Accepts 2 ∷ Takes 2 hello true
    ∷ Gets 2 (hello ++ hex (codes "00000008 10000004 00000007")) ∷ []

-- the first takes its output
abbrev pub freed_again : List Mark
freed_again = held_back ++ (Frees 1 ∷ Takes 1 hello true ∷ [])
