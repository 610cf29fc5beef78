-- Global requests (RFC 4254, section 4): who asked, and what each client is answered.
use Rattle.std.specs.Prelude.{ℕ, ◌-◌, List, [], ◌∷◌, ◌++◌, Option, Some, None, Bool, true, false, length, slice_get}
use Rattle.ssh_grammar.specs.Messages.{Global}
use Rattle.ssh_grammar.specs.SpellMessage.{request_failure}
use Rattle.ssh_grammar.specs.Said.{Payload}
use Rattle.mux_history.specs.Summary.{Summary, Requests, Succeeds, Refuses, reading}
use Rattle.mux_history.specs.Rows.{Row, Item, Says, Heard}

-- a request that was sent and wants a reply
pub record Ask : Type 0 where
  pub client : ℕ
  pub what : Global

-- a request that wants a reply
abbrev pub wanted_in : Summary → Option Global
wanted_in (Requests what true) = Some what
wanted_in _ = None

-- the wanted request that a row's client sends
abbrev pub wanted_by : Row → Option Global
wanted_by row = elim row.item [
  | Says k outgoing reply ↦ elim outgoing [ Payload p ↦ reading p wanted_in None | _ ↦ None ]
  | _ ↦ None
]

-- something was sent
abbrev pub is_sent : Row → Bool
is_sent row = elim row.up [ [] ↦ false | p ∷ ps ↦ true ]

-- the request of a row
abbrev pub asks_of : ℕ → Bool → Option Global → List Ask
asks_of k true (Some what) = record { client = k; what = what } ∷ []
asks_of k _ _ = []

-- the wanted requests that were sent, in order
abbrev pub wanted_requests : List Row → List Ask
wanted_requests [] = []
wanted_requests (row ∷ before) = wanted_requests before ++ asks_of row.client (is_sent row) (wanted_by row)

-- whether a wanted request was sent
abbrev pub sent_flags : Bool → Option Global → List Bool
sent_flags sent None = []
sent_flags sent (Some what) = sent ∷ []

-- for each wanted request, in order, whether it was sent; the others were refused
abbrev pub wanted : List Row → List Bool
wanted [] = []
wanted (row ∷ before) = wanted before ++ sent_flags (is_sent row) (wanted_by row)

-- a success or a failure
abbrev pub is_reply : Summary → Bool
is_reply (Succeeds rest) = true
is_reply Refuses = true
is_reply _ = false

-- the reply of a row, as it came
abbrev pub reply_in : Item → List (List ℕ)
reply_in (Heard p) = elim (reading p is_reply false) [ true ↦ p ∷ [] | false ↦ [] ]
reply_in _ = []

-- the server's replies, as they came, in order
abbrev pub replies : List Row → List (List ℕ)
replies [] = []
replies (row ∷ before) = replies before ++ reply_in row.item

-- the request that the server's next reply answers: replies come in the order of the requests
abbrev pub asker : List Row → Option Ask
asker rows = slice_get (wanted_requests rows) (length (replies rows))

-- ---- for one client, over its own rows

-- the answers, in the order of the requests, up to the first that was sent and has no reply
abbrev pub answers_to : List Bool → List (List ℕ) → List (List ℕ)
answers_to [] heard = []
answers_to (false ∷ flags) heard = request_failure ∷ answers_to flags heard
answers_to (true ∷ flags) [] = []
answers_to (true ∷ flags) (p ∷ heard) = p ∷ answers_to flags heard

-- what the client was answered so far
abbrev pub answers : List Row → List (List ℕ)
answers own = answers_to (wanted own) (replies own)

-- how many wanted requests have no answer
abbrev pub unanswered_asks : List Row → ℕ
unanswered_asks own = length (wanted own) - length (answers own)
