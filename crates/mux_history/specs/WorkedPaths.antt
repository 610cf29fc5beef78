-- Worked runs with forwardings of paths.
use Rattle.std.specs.Prelude.{ℕ, List, [], ◌∷◌, ◌++◌, Some, None, codes, true}
use Rattle.mux_outside.specs.declared.mark.Mark.{Mark}
use Rattle.mux_outside.specs.declared.mark.Mark.TheVariants.{Gets, Ends}
use Rattle.mux_history.specs.Policy.{Policy, Ports, Paths, Entries}
use Rattle.mux_history.specs.Worked.{hex, enters}
use Rattle.mux_history.specs.WorkedForwards.{success, failure}

-- asks for a forwarding of a path
abbrev pub asks_path : List ℕ
asks_path =
    hex (codes "0000002c 00 50 0000001f")
    ++ (codes "streamlocal-forward@openssh.com" ++ (hex (codes "01 00000002") ++ codes "/s"))

-- cancels it, and wants a reply
abbrev pub cancels_path : List ℕ
cancels_path =
    hex (codes "00000033 00 50 00000026")
    ++ (codes "cancel-streamlocal-forward@openssh.com"
    ++ (hex (codes "01 00000002") ++ codes "/s"))

-- the same with no reply
abbrev pub cancels_path_at_once : List ℕ
cancels_path_at_once =
    hex (codes "00000033 00 50 00000026")
    ++ (codes "cancel-streamlocal-forward@openssh.com"
    ++ (hex (codes "00 00000002") ++ codes "/s"))

-- cancels the port 0 of an address with the path's bytes
abbrev pub cancels_namesake : List ℕ
cancels_namesake =
    hex (codes "00000025 00 50 00000014")
    ++ (codes "cancel-tcpip-forward"
    ++ (hex (codes "01 00000002") ++ (codes "/s" ++ hex (codes "00000000"))))

-- the server opens a channel for a connection to the path
abbrev pub connects_to_path : List ℕ
connects_to_path =
    hex (codes "0000003d 00 5a 00000021")
    ++ (codes "forwarded-streamlocal@openssh.com"
    ++ (hex (codes "00000009 00200000 00008000 00000002")
    ++ (codes "/s" ++ hex (codes "00000000"))))

-- a client opens a channel to a path
abbrev pub opens_path : List ℕ
opens_path =
    hex (codes "0000003e 00 5a 0000001e")
    ++ (codes "direct-streamlocal@openssh.com"
    ++ (hex (codes "00000004 00200000 00008000 00000002")
    ++ (codes "/s" ++ hex (codes "00000000 00000000"))))

-- the same to the port 80 of a host with the path's bytes
abbrev pub opens_namesake : List ℕ
opens_namesake =
    hex (codes "00000030 00 5a 0000000c")
    ++ (codes "direct-tcpip"
    ++ (hex (codes "00000005 00200000 00008000 00000002")
    ++ (codes "/s" ++ hex (codes "00000050 00000000 00000000"))))

-- a path is asked for and granted
abbrev pub forwards_path : List Mark
forwards_path = enters 1 ++ (Gets 1 asks_path ∷ Gets 0 success ∷ [])

-- a connection arrives for it
abbrev pub path_connected : List Mark
path_connected = forwards_path ++ Gets 0 connects_to_path ∷ []

-- its client ends
abbrev pub leaves_path : List Mark
leaves_path = forwards_path ++ Ends 1 ∷ []

-- its client ends before the server answers
abbrev pub path_granted_late : List Mark
path_granted_late = enters 1 ++ (Gets 1 asks_path ∷ Ends 1 ∷ Gets 0 success ∷ [])

-- its client ends while its cancel is unanswered, and the server refuses the cancel
abbrev pub path_kept_late : List Mark
path_kept_late = forwards_path ++ (Gets 1 cancels_path ∷ Ends 1 ∷ Gets 0 failure ∷ [])

-- the same bytes are cancelled as an address
abbrev pub namesake_cancelled : List Mark
namesake_cancelled = forwards_path
    ++ (Gets 1 cancels_namesake ∷ Gets 1 cancels_path ∷ Gets 0 success
    ∷ Gets 0 connects_to_path ∷ [])

-- a path and the same bytes as a host are opened
abbrev pub opens_both : List Mark
opens_both = enters 1 ++ (Gets 1 opens_path ∷ Gets 1 opens_namesake ∷ [])

-- only the asking
abbrev pub path_asked : List Mark
path_asked = enters 1 ++ Gets 1 asks_path ∷ []

-- the port 8080 may be listened on, and a path may be opened
abbrev pub a_port_and_a_path : Policy
a_port_and_a_path =
    record {
      opens = Entries (Paths (codes "/s") ∷ []);
      listens =
          Entries (Ports None (Some 8080) ∷ []);
      sessions = true;
    }
