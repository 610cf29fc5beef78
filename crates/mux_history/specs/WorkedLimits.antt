-- Worked limits that are too large to compute, stated with lengths.
use Rattle.std.specs.Prelude.{ℕ, ◌≡◌, List, [], ◌++◌, None, length, drop, codes, true}
use Rattle.ssh_grammar.specs.declared.framing.Framing.TheVariants.{Proxy}
use Rattle.ssh_grammar.specs.Frames.{Frame, first_frame}
use Rattle.mux_history.specs.declared.why.Why.TheVariants.{TooManyAsks}
use Rattle.mux_history.specs.Rows.{Row}
use Rattle.mux_history.specs.Channels.{held_of, with_own}
use Rattle.mux_history.specs.Requests.{unanswered_asks}
use Rattle.mux_history.specs.Policy.{Policy}
use Rattle.mux_history.specs.Said.{records, sends_payload, drops, sent_payload}
use Rattle.mux_history.specs.Worked.{hex}
use Rattle.mux_history.specs.WorkedProxy.{session}

-- a payload without the five bytes before it
abbrev pub payload_of_frame : List ℕ → List ℕ
payload_of_frame frame = drop 5 frame

-- a client with 256 channels that opens one more, under its number 300, where it may
abbrev pub FullOfChannels : Type 0
FullOfChannels =
    (policy : Policy) (k pick : ℕ) (own : List Row) → policy.sessions ≡ true
    → length (held_of own) ≡ 256
    → with_own own 300 ≡ None → sent_payload policy k own pick (payload_of_frame (session 300))
    ≡ records (hex (codes "00000023 00 5c 0000012c 00000004 00000011")
    ++ (codes "too many channels" ++ hex (codes "00000000")))

-- a global request that wants a reply
abbrev pub keepalive : List ℕ
keepalive = hex (codes "50 00000015") ++ (codes "keepalive@openssh.com" ++ hex (codes "01"))

-- after 1,023 that are unanswered it is sent, after 1,024 it drops its client
abbrev pub OneMoreAsk : Type 0
OneMoreAsk =
    (policy : Policy) (k pick : ℕ) (own : List Row) → unanswered_asks own ≡ 1023
    → sent_payload policy k own pick keepalive ≡ sends_payload keepalive

-- the 1,025th
abbrev pub OneAskTooMany : Type 0
OneAskTooMany =
    (policy : Policy) (k pick : ℕ) (own : List Row) → unanswered_asks own ≡ 1024
    → sent_payload policy k own pick keepalive ≡ drops (TooManyAsks 1024)

-- the longest payload
abbrev pub LongestFrame : Type 0
LongestFrame =
    (payload : List ℕ) → length payload ≡ 262143
    → first_frame Proxy (hex (codes "00040000 00") ++ payload) ≡ Frame payload []
