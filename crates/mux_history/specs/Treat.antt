-- What each item does after the rows before it: the row that it makes.
use Rattle.std.specs.Prelude.{ℕ, ◌+◌, List, [], ◌∷◌, ◌++◌, Option, Some, None, Bool, true, false, not, ◌&&◌, length, drop, filter, map, nat_lt, nat_le}
use Rattle.mux_outside.specs.declared.house.HouseReply.{HouseReply}
use Rattle.ssh_grammar.specs.declared.numbers.TheConstants.{VERSION}
use Rattle.ssh_grammar.specs.Control.{Greets}
use Rattle.ssh_grammar.specs.Frames.{frame_payload, frame_answer}
use Rattle.ssh_grammar.specs.Said.{Outgoing, Body, Payload, BadFraming}
use Rattle.mux_history.specs.declared.limits.TheConstants.{MAX_CLIENTS, MAX_QUEUE}
use Rattle.mux_history.specs.declared.why.Why.{Why}
use Rattle.mux_history.specs.declared.why.Why.TheVariants as why
use Rattle.mux_history.specs.declared.broke.Break.TheVariants as broke
use Rattle.mux_history.specs.declared.ended.Ended.TheVariants as ended
use Rattle.mux_history.specs.Rows.{Row, rows_of, loses, is_lost, is_admit, is_out, Item, Admit, Says, HouseSays, Gone, Heard, BadServer, ServerEnd, ServerCut, ServerFailed, Took, RunEnd, Fate, Goes, Refused, Drop, End}
use Rattle.mux_history.specs.Pending.{waiting_down}
use Rattle.mux_history.specs.Requests.{answers}
use Rattle.mux_history.specs.Policy.{Policy}
use Rattle.mux_history.specs.Farewell.{farewell, has_open_matters}
use Rattle.mux_history.specs.Said.{Outcome, silent, records, drops, sent_payload}
use Rattle.mux_history.specs.Controls.{client_has_greeted, house_sends, sent_body}
use Rattle.mux_history.specs.Heard.{Dest, ToMaster, ToClient, Disconnects, Breaks, dest, received_for, received_master, outcome_of_end, broken}

-- ---- a client's row: the answers that its requests and replies complete, the queue's bound, the
-- farewell

-- a row of what an item does, and nothing else
abbrev pub bare_row : Item → ℕ → Outcome → Row
bare_row item k o = record {
  item = item;
  client = k;
  up = o.sent;
  farewell = [];
  down = o.recorded;
  fate = o.ends;
}

-- the answers that this row adds to those before it
abbrev pub new_answers : Row → List Row → List (List ℕ)
new_answers row own = map frame_payload (drop (length (answers own)) (answers (row ∷ own)))

-- the run and the client go on
abbrev pub goes : Fate → Bool
goes Goes = true
goes _ = false

-- a row that goes on, of a client that is not lost, records them after its own frames
abbrev pub all_recorded : Row → List Row → List (List ℕ)
all_recorded row own = elim (goes row.fate && not (is_lost own)) [
  | true ↦ row.down ++ new_answers row own
  | false ↦ row.down
]

-- the frames that fit into a queue in which so many bytes wait: the first that does not is left out
-- with all after it
abbrev pub frames_that_fit : ℕ → List (List ℕ) → List (List ℕ)
frames_that_fit have [] = []
frames_that_fit have (f ∷ fs) = elim (nat_le (have + length f) MAX_QUEUE) [
  | true ↦ f ∷ frames_that_fit (have + length f) fs
  | false ↦ []
]

-- the two lengths where one does not fit
abbrev pub overflow : ℕ → List (List ℕ) → Option Why
overflow have [] = None
overflow have (f ∷ fs) = elim (nat_le (have + length f) MAX_QUEUE) [
  | true ↦ overflow (have + length f) fs
  | false ↦ Some (why.QueueFull have (length f))
]

-- then the client is dropped, unless the row ends the run or drops it already
abbrev pub fate_with : Fate → Option Why → Fate
fate_with (End cause) full = End cause
fate_with (Drop cause) full = Drop cause
fate_with ends None = ends
fate_with ends (Some cause) = Drop cause

-- a row with the frames that fit
abbrev pub queued : List (List ℕ) → Row → List Row → Row
queued frames row own =
    record row {
      down = frames_that_fit (waiting_down own) frames;
      fate =
          fate_with row.fate (overflow (waiting_down own) frames);
    }

-- a row that loses its client sends its farewell
abbrev pub with_farewell : Row → List Row → Row
with_farewell row own =
    elim (loses row) [ true ↦ record row { farewell = farewell row own } | false ↦ row ]

-- the row of a client, from its rows so far and what its item does
abbrev pub row_of : Item → ℕ → Outcome → List Row → Row
row_of item k o own = let row = bare_row item k o in
    with_farewell (queued (all_recorded row own) row own) own

-- ---- what each item does

-- what a client sends
abbrev pub sent_by_client : Policy → ℕ → ℕ → List Row → ℕ → Outgoing → Option HouseReply → Outcome
sent_by_client policy pid k own pick (Body body) given = sent_body pid k given (client_has_greeted own) body
sent_by_client policy pid k own pick (Payload p) given = sent_payload policy k own pick p
sent_by_client policy pid k own pick (BadFraming fault) given = drops (why.BadFrame fault)

-- the clients that were admitted, in order
abbrev pub admitted_clients : List Row → List ℕ
admitted_clients [] = []
admitted_clients (row ∷ before) =
    admitted_clients before ++ elim (is_admit row) [ true ↦ row.client ∷ [] | false ↦ [] ]

-- how many of these clients have open matters
abbrev pub matters_of : List Row → List ℕ → ℕ
matters_of rows [] = 0
matters_of rows (k ∷ ks) = elim (has_open_matters (rows_of k rows)) [
  | true ↦ matters_of rows ks + 1
  | false ↦ matters_of rows ks
]

-- how many clients have open matters
abbrev pub open_matters : List Row → ℕ
open_matters rows = matters_of rows (admitted_clients rows)

-- those of them that are not lost
abbrev pub served : List Row → List ℕ
served rows = filter (λ k. not (is_out (rows_of k rows))) (admitted_clients rows)

-- the hello, where fewer than 64 clients have open matters
abbrev pub admits : List Row → Outcome
admits rows = elim (nat_lt (open_matters rows) MAX_CLIENTS) [
  | true ↦ records (frame_answer (Greets VERSION))
  | false ↦ record { sent = []; recorded = []; ends = Refused }
]

-- the row of a payload of the server
abbrev pub received_row : List Row → List ℕ → Dest → Row
received_row rows p ToMaster = bare_row (Heard p) 0 (received_master p)
received_row rows p (ToClient k) = row_of (Heard p) k (received_for (rows_of k rows) p) (rows_of k rows)
received_row rows p Disconnects = bare_row (Heard p) 0 (outcome_of_end ended.Disconnected)
received_row rows p (Breaks cause) = bare_row (Heard p) 0 (broken rows cause)

-- the row of an item after these rows, where `pick` is the next fresh number
abbrev pub treat : Policy → ℕ → ℕ → List Row → Item → Row
treat policy pid pick rows (Admit k) = row_of (Admit k) k (admits rows) (rows_of k rows)
treat policy pid pick rows (Says k outgoing given) =
    row_of (Says k outgoing given) k (sent_by_client policy pid k (rows_of k rows) pick outgoing given)
    (rows_of k rows)
treat policy pid pick rows (HouseSays k id given) =
    row_of (HouseSays k id given) k (house_sends (rows_of k rows) id given) (rows_of k rows)
treat policy pid pick rows (Gone k) = row_of (Gone k) k silent (rows_of k rows)
treat policy pid pick rows (Heard p) = received_row rows p (dest rows p)
treat policy pid pick rows (BadServer fault) =
    bare_row (BadServer fault) 0 (broken rows (broke.Frame fault))
treat policy pid pick rows ServerEnd = bare_row ServerEnd 0 (outcome_of_end ended.ServerEnd)
treat policy pid pick rows (ServerCut left) = bare_row (ServerCut left) 0 (broken rows (broke.Cut left))
treat policy pid pick rows ServerFailed = bare_row ServerFailed 0 (outcome_of_end ended.ServerFailed)
treat policy pid pick rows (Took stream size) = bare_row (Took stream size) stream silent
treat policy pid pick rows (RunEnd cause) = bare_row (RunEnd cause) 0 silent
