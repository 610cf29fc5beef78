-- The state of a channel of the forwarder, by what the forwarder sent and received: no more than
-- its account needs.
use Rattle.std.proofs.Common.{◌≡◌, ◌≤◌, ◌<◌, ◌+◌, ◌-◌, ℕ, Bool, true, false, Some}
use Rattle.ssh_grammar.specs.declared.side.Side.TheVariants.{Up, Down}
use Rattle.mux_history.specs.Channels.{Channel, any_by, is_closes, is_confirmed, is_ends}
use Rattle.mux_history.specs.Summary.{Act, Answers, Asks, Carries, Closes, Ends, Grants}
use Rattle.mux_history.proofs.RoomActs.{Accounted}
use Rattle.mux_history.specs.Ledger.{carried, granted_size, initial, maximum_of, room, sum_of, unanswered}

-- a channel that is confirmed: the server's number, how much data the server accepts and at most in
-- one message, whether EOF and CLOSE were sent, whether CLOSE was received, how many of its
-- requests want a reply, for how many bytes room was given back, and how many came
pub record Acct : Type 0 where
  pub remote : ℕ
  pub room : ℕ
  pub maximum : ℕ
  pub eof_sent : Bool
  pub close_sent : Bool
  pub close_received : Bool
  pub failures : ℕ
  pub given : ℕ
  pub came : ℕ

-- no channel, or one that is opened by the forwarder or by the server and unanswered, or one that
-- is confirmed
pub data View : Type 0 where
  NoChannel : View
  IsOpened : View
  IsOffered : (remote window maximum : ℕ) → View
  IsLive : (acct : Acct) → View

-- the account of a channel is that one
pub record IsAccount (x : Channel) (a : Acct) : Type 0 where
  pub remote : x.remote ≡ Some a.remote
  pub confirmed : is_confirmed x ≡ true
  pub room_is : room Up x ≡ a.room
  pub small : a.room ≤ 4294967295
  pub maximum : maximum_of Up x ≡ a.maximum
  pub eof : any_by Up is_ends x.acts ≡ a.eof_sent
  pub closed : any_by Up is_closes x.acts ≡ a.close_sent
  pub heard : any_by Down is_closes x.acts ≡ a.close_received
  pub asks : a.close_sent ≡ false → unanswered Down x ≡ a.failures
  pub few : a.close_sent ≡ false → a.failures ≤ 1024
  pub window : initial Down x ≡ 2097152
  pub given : sum_of granted_size Up x.acts ≡ a.given
  pub came : a.came ≤ sum_of carried Down x.acts
  pub accounted : Accounted x

-- ---- what may be sent, and what that leaves

abbrev pub MaySend : Act → Acct → Type 0
MaySend (Carries n) a = (a.close_sent ≡ false) × (a.eof_sent ≡ false) × (n ≤ a.room) × (n ≤ a.maximum)
MaySend Ends a = (a.close_sent ≡ false) × (a.eof_sent ≡ false)
MaySend Closes a = a.close_sent ≡ false
MaySend (Grants n) a = (a.close_sent ≡ false) × (a.given + n ≤ a.came)
MaySend Answers a = (a.close_sent ≡ false) × (0 < a.failures)
MaySend act a = ⊥

abbrev pub says : Act → Acct → Acct
says (Carries n) a = record a { room = a.room - n }
says Ends a = record a { eof_sent = true }
says Closes a = record a { close_sent = true }
says (Grants n) a = record a { given = a.given + n }
says Answers a = record a { failures = a.failures - 1 }
says act a = a

-- ---- what is received

abbrev pub more_asks : Bool → Bool → ℕ → ℕ
more_asks true false n = n + 1
more_asks wants closed n = n

abbrev pub receives : Act → Acct → Acct
receives (Grants n) a = record a { room = a.room + n }
receives (Carries n) a = record a { came = a.came + n }
receives Closes a = record a { close_received = true }
receives (Asks wants) a = record a { failures = more_asks wants a.close_sent a.failures }
receives act a = a
