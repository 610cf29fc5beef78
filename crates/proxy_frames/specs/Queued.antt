-- What each call of a queue leaves.
use Rattle.std.specs.Prelude.{ℕ, ◌+◌, ◌-◌, List, [], ◌++◌, length, drop}
use Rattle.ssh_grammar.specs.Frames.{frame_payload}
use Rattle.proxy_frames.specs.State.{QueueState}

-- nothing waits, and no room lasts
abbrev pub empty_queue : QueueState
empty_queue = record { waiting = []; spare = 0 }

-- more bytes at its end; the room that lasts stays
abbrev pub with_bytes : List ℕ → QueueState → QueueState
with_bytes bytes q = record q { waiting = q.waiting ++ bytes }

-- how many bytes the proxy frame of a payload has
abbrev pub frame_length : List ℕ → ℕ
frame_length payload = length payload + 5

-- the payload's proxy frame at its end, in the room that lasts
abbrev pub with_reserved : List ℕ → QueueState → QueueState
with_reserved payload q =
    record { waiting = q.waiting ++ frame_payload payload; spare = q.spare - frame_length payload }

-- without its first bytes
abbrev pub without_first_bytes : ℕ → QueueState → QueueState
without_first_bytes n q = record q { waiting = drop n q.waiting }
