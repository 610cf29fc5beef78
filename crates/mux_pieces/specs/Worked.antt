-- One worked run, as a wire records it: two clients share the server, and the first is dropped
-- since it writes into the other's channel.
use Rattle.std.specs.Prelude.{ℕ, ◌<◌, List, [], ◌∷◌, ◌++◌, true, codes, reverse}
use Rattle.mux_outside.specs.declared.mark.Mark.{Mark}
use Rattle.mux_outside.specs.declared.mark.Mark.TheVariants.{Waits, Accepts, Gets, Ends, Takes}
use Rattle.mux_outside.specs.declared.turn.Want.TheVariants.{Read}
use Rattle.ssh_fields.specs.Fields.{u32}
use Rattle.mux_history.specs.Rows.{Row}
use Rattle.mux_history.specs.Journal.{IsLawful}
use Rattle.mux_history.specs.Log.{Setting}
use Rattle.mux_history.specs.Promises.{TakesFront, Throughout}
use Rattle.mux_history.specs.Right.{IsAdmitted, IsRight}
use Rattle.mux_history.specs.Wires.{ReadsWhenAsked}
use Rattle.mux_history.specs.Worked.{hello, hex, open_setting, run}
use Rattle.mux_history.specs.WorkedProxy.{session}

-- ---- what is sent

-- the open of a session under a number is confirmed, as the server's own number with a window of 5
abbrev pub confirmation : ℕ → ℕ → List ℕ
confirmation number remote =
    hex (codes "00000012 00 5b")
    ++ (u32 number ++ (u32 remote ++ hex (codes "00000005 00008000")))

-- two bytes of data in a channel
abbrev pub two_bytes : ℕ → List ℕ
two_bytes channel =
    hex (codes "0000000c 00 5e") ++ (u32 channel ++ (hex (codes "00000002") ++ codes "ok"))

-- ---- what happens

-- the master waits, and reads from these streams, of which none holds back
abbrev pub wait_for : List ℕ → Mark
wait_for streams = Waits [] Read streams (record { listens = true; own = []; listeners = [] })

-- the server and both clients are open
abbrev pub waits_for_all : Mark
waits_for_all = wait_for (0 ∷ 1 ∷ 2 ∷ [])

-- a client comes where these streams are open, is greeted, and enters proxy mode
abbrev pub comes : List ℕ → ℕ → List Mark
comes streams k =
    wait_for streams ∷ Accepts k ∷ Takes k hello true ∷ wait_for (streams ++ k ∷ [])
    ∷ Gets k (hello ++ hex (codes "00000008 1000000f 00000000"))
    ∷ Takes k (hex (codes "00000008 8000000f 00000000")) true ∷ []

-- it opens a session as its number 0, which goes up under this number
abbrev pub opens_session : ℕ → ℕ → List Mark
opens_session k number = waits_for_all ∷ Gets k (session 0) ∷ Takes 0 (session number) true ∷ []

-- the server confirms it, which the client accepts under its own number
abbrev pub is_confirmed_as : ℕ → ℕ → ℕ → List Mark
is_confirmed_as k number remote =
    waits_for_all ∷ Gets 0 (confirmation number remote) ∷ Takes k (confirmation 0 remote) true ∷ []

-- both have a session; the first writes into the second's, where the server would have called it 6;
-- the second goes on, and the server answers it
abbrev pub intrusion : List Mark
intrusion =
    comes (0 ∷ []) 1 ++ (comes (0 ∷ 1 ∷ []) 2 ++ (opens_session 1 0 ++ (opens_session 2 1
    ++ (is_confirmed_as 1 0 5 ++ (is_confirmed_as 2 1 6
    ++ (waits_for_all ∷ Gets 1 (two_bytes 6) ∷ Takes 0 (hex (codes "00000006 00 61 00000005")) true
    ∷ wait_for (0 ∷ 2 ∷ []) ∷ Gets 2 (two_bytes 6) ∷ Takes 0 (two_bytes 6) true
    ∷ wait_for (0 ∷ 2 ∷ []) ∷ Gets 0 (two_bytes 1) ∷ Takes 2 (two_bytes 0) true
    ∷ wait_for (0 ∷ 2 ∷ []) ∷ Ends 0 ∷ []))))))

-- ---- the premises

-- all at once: the wire keeps its law; the log is the right one, whole, with fresh numbers; each
-- take is the front of what waited; and the client is admitted
pub record MeetsAll (setting : Setting) (marks : List Mark) (rows : List Row) (k : ℕ) : Type 0 where
  pub lawful : IsLawful marks
  pub asked : Throughout ReadsWhenAsked marks
  pub right : IsRight setting marks 0 rows
  pub takes : Throughout (TakesFront setting) marks
  pub client : 0 < k
  pub admitted : IsAdmitted k rows

-- of that run and this client
abbrev pub IntrusionMeetsAll : ℕ → Type 0
IntrusionMeetsAll k = MeetsAll open_setting (reverse intrusion) (run intrusion) k
