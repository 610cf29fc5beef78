-- What waits of what each stream is to be given.
use Rattle.std.specs.Prelude.{ℕ, ◌==◌, List, [], ◌∷◌, ◌++◌, length, true, false, drop, map}
use Rattle.ssh_grammar.specs.Frames.{frame_payload}
use Rattle.mux_outside.specs.Whose.{is_server}
use Rattle.mux_history.specs.Rows.{Row, rows_of, sent_by, Item, Took}

-- texts one after another
abbrev pub joined : List (List ℕ) → List ℕ
joined [] = []
joined (x ∷ xs) = x ++ joined xs

-- ---- for one client, over its own rows

-- the number of bytes that were accepted
abbrev pub took_by : Item → ℕ
took_by (Took stream size) = size
took_by _ = 0

-- the bytes that wait for the client: each row removes from the front and adds at the end
abbrev pub pending_down : List Row → List ℕ
pending_down [] = []
pending_down (row ∷ before) = drop (took_by row.item) (pending_down before ++ joined row.down)

-- how many bytes wait for the client
abbrev pub waiting_down : List Row → ℕ
waiting_down own = length (pending_down own)

-- ---- for the server, which is stream 0

-- the same for what the server accepted
abbrev pub took_up : Item → ℕ
took_up (Took stream size) = elim (is_server stream) [ true ↦ size | false ↦ 0 ]
took_up _ = 0

-- the bytes that wait for the server
abbrev pub pending_up : List Row → List ℕ
pending_up [] = []
pending_up (row ∷ before) =
    drop (took_up row.item) (pending_up before ++ joined (map frame_payload (sent_by row)))

-- ---- for each stream

-- the bytes that wait for a stream
abbrev pub pending : ℕ → List Row → List ℕ
pending stream rows = elim (is_server stream) [
  | true ↦ pending_up rows
  | false ↦ pending_down (rows_of stream rows)
]

-- the bytes that one row gives a stream
abbrev pub given_by : ℕ → Row → List ℕ
given_by stream row = elim (is_server stream) [
  | true ↦ joined (map frame_payload (sent_by row))
  | false ↦ elim (row.client == stream) [ true ↦ joined row.down | false ↦ [] ]
]

-- all bytes that the stream is to be given, in order
abbrev pub given_to : ℕ → List Row → List ℕ
given_to stream [] = []
given_to stream (row ∷ before) = given_to stream before ++ given_by stream row
