-- When the master's own streams are held back.
use Rattle.std.specs.Prelude.{◌≡◌, ◌+◌, ◌-◌, ◌^◌, ℕ, Bool, false, not, if◌then◌else◌, ◌&&◌, ◌==◌, List, min, nat_lt}
use Rattle.mux_outside.specs.Streams.{among}
use Rattle.mux_outside.specs.OwnStreams.{is_own}
use Rattle.mux_outside.specs.declared.turn.Turn.{Turn}
use Rattle.mux_outside.specs.declared.turn.Turn.TheVariants.{Accepted, Got, End, Writable, Failed, Joined, NoMemory}
use Rattle.mux_edge.specs.declared.table.shares.Shares.{Shares}

-- while the server's stream is waited for, unless they gave fewer bytes than the clients since
abbrev pub holds_own : List ℕ → Shares → Bool
holds_own waiting shares = among 0 waiting && not (nat_lt shares.own shares.clients)

-- nothing came so far
abbrev pub no_shares : Shares
no_shares = record { clients = 0; own = 0 }

-- a count of bytes after more of them: it stays at the end of its type
abbrev pub count_after_bytes : ℕ → ℕ → ℕ
count_after_bytes count bytes = min (count + bytes) (2 ^ 64 - 1)

-- after bytes of a stream: those of the server aren't counted
abbrev pub shares_after : ℕ → ℕ → Shares → Shares
shares_after stream bytes shares =
    if is_own stream then record shares { own = count_after_bytes shares.own bytes } else
    if stream == 0 then shares else record shares { clients = count_after_bytes shares.clients bytes }

-- a turn reports neither bytes nor the end of one of the master's own streams
abbrev pub PassesOwn : Turn → Type 0
PassesOwn (Accepted k) = Unit {0}
PassesOwn (Got t) = is_own t ≡ false
PassesOwn (End t) = is_own t ≡ false
PassesOwn (Writable t) = Unit {0}
PassesOwn (Failed t) = Unit {0}
PassesOwn (Joined l t) = Unit {0}
PassesOwn NoMemory = Unit {0}
