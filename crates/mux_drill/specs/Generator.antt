-- The messages of a drill, which a generator of numbers picks.
use Rattle.std.specs.Prelude.{ℕ, zero, suc, ◌+◌, ◌*◌, ◌/◌, ◌%◌, ◌^◌, ◌≤◌}
use Rattle.mux_drill.specs.declared.generator.DrillMessage.{DrillMessage}

-- the number after x
unfoldable pub draw : ℕ → ℕ
draw x = (x * 6364136223846793005 + 1442695040888963407) % 2 ^ 64

-- the number after so many draws from the seed
abbrev pub drawn : ℕ → ℕ → ℕ
drawn seed zero = seed
drawn seed (suc n) = draw (drawn seed n)

-- the length that a number represents
unfoldable pub length_of : ℕ → ℕ
length_of x = (x / 2 ^ 33) % 1025

-- the client, of so many, that a number represents
unfoldable pub client_of : ℕ → ℕ → ℕ
client_of clients x = 1 + ((x / 2 ^ 33) / 1025) % clients

-- the message of a number, the i-th from 0 on
abbrev pub drill_message_of : ℕ → ℕ → ℕ → DrillMessage
drill_message_of clients x i = record { client = client_of clients x; len = length_of x; byte = i % 256 }

-- of a client from 1 to 64, with at most 1,024 bytes
pub record IsDrillMessage (m : DrillMessage) : Type 0 where
  pub some : 1 ≤ m.client
  pub few : m.client ≤ 64
  pub short : m.len ≤ 1024

-- the length of message i
abbrev pub length_at : ℕ → ℕ → ℕ
length_at seed i = length_of (drawn seed (suc i))

-- the lengths of the first messages together
abbrev pub total_length : ℕ → ℕ → ℕ
total_length seed zero = 0
total_length seed (suc n) = total_length seed n + length_at seed n
