-- What is ready, and what of it is looked for.
use Rattle.std.specs.Prelude.{◌≡◌, ◌≤◌, ◌==◌, ◌&&◌, not, ℕ, Bool, false, true, Option, Some, None, nat_le}
use Rattle.std.specs.VecDeque.{deque_capacity, deque_len}
use Rattle.mux_outside.specs.OwnStreams.{is_own}
use Rattle.mux_edge.specs.declared.table.ready.ReadyQueue.{ReadyQueue}
use Rattle.mux_edge.specs.declared.table.ready.Ready.{Ready}
use Rattle.mux_edge.specs.declared.table.ready.Ready.TheVariants.{Accept, Join, Read, Write, Connect}

-- one more takes memory
abbrev pub IsReadyFull : ReadyQueue → Type 0
IsReadyFull queue = deque_capacity queue.items ≤ deque_len queue.items

-- where the master's own streams are held back, none of them is read; all else is looked for
abbrev pub IsLookedFor : Bool → Ready → Type 0
IsLookedFor holds_own Accept = Unit {0}
IsLookedFor holds_own (Join listener) = Unit {0}
IsLookedFor holds_own (Read number) = (holds_own && is_own number) ≡ false
IsLookedFor holds_own (Write number) = Unit {0}
IsLookedFor holds_own (Connect number) = Unit {0}

-- this is of clients
abbrev pub is_ready_accept : Ready → Bool
is_ready_accept Accept = true
is_ready_accept (Join listener) = false
is_ready_accept (Read number) = false
is_ready_accept (Write number) = false
is_ready_accept (Connect number) = false

-- this is of the listener of this number
abbrev pub is_join : ℕ → Ready → Bool
is_join number Accept = false
is_join number (Join listener) = listener == number
is_join number (Read stream) = false
is_join number (Write stream) = false
is_join number (Connect stream) = false

-- this is of the stream of this number
abbrev pub is_ready_of : ℕ → Ready → Bool
is_ready_of number Accept = false
is_ready_of number (Join listener) = false
is_ready_of number (Read stream) = stream == number
is_ready_of number (Write stream) = stream == number
is_ready_of number (Connect stream) = stream == number

-- a round is over where nothing may be served, and where it is to be served after what the round
-- has gone over twice
abbrev pub is_round_over : Option ℕ → ReadyQueue → Bool
is_round_over None queue = true
is_round_over (Some at) queue = nat_le queue.front at && not queue.again
