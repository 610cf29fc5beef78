-- The choices of a run: the fresh channel numbers and the replies of the forwarder, each list read
-- by position.
use Rattle.std.specs.Prelude.{ℕ, ◌+◌, List, [], ◌∷◌, Option, Some, None, Bool, true, false, ◌&&◌, is_some, slice_index, slice_get, unwrap_or}
use Rattle.mux_outside.specs.declared.house.HouseReply.{HouseReply}
use Rattle.mux_outside.specs.declared.house.HouseReply.TheVariants as reply
use Rattle.ssh_grammar.specs.Said.{Body}
use Rattle.mux_history.specs.Rows.{Row, rows_of, Item, Says}
use Rattle.mux_history.specs.Channels.{own_number_of}
use Rattle.mux_history.specs.Requests.{is_sent}
use Rattle.mux_history.specs.Controls.{client_has_greeted, body_asks}

-- in a run, two lists; for a client alone, the number that it sends itself and the reply that its
-- item carries
pub data Choices : Type 0 where
  FromLists : (picks : List ℕ) (replies : List HouseReply) → Choices
  TheirOwn : Choices

-- a row takes a number where a client's OPEN or CONFIRMATION is sent
abbrev pub takes_number : Row → Bool
takes_number row = is_sent row && is_some (own_number_of row.item)

-- how many numbers the rows used
abbrev pub numbers_taken : List Row → ℕ
numbers_taken [] = 0
numbers_taken (row ∷ before) = elim (takes_number row) [
  | true ↦ numbers_taken before + 1
  | false ↦ numbers_taken before
]

-- the number that was sent, 0 where there is none
abbrev pub sent_number : Option ℕ → ℕ
sent_number None = 0
sent_number (Some c) = c

-- the next number
abbrev pub pick_of : Choices → List Row → Item → ℕ
pick_of (FromLists picks replies) rows item = slice_index picks (numbers_taken rows)
pick_of TheirOwn rows item = sent_number (own_number_of item)

-- an item that carries a reply of the forwarder
abbrev pub has_reply : Item → Bool
has_reply (Says k outgoing (Some given)) = true
has_reply _ = false

-- how many replies the rows carry
abbrev pub replies_given : List Row → ℕ
replies_given [] = 0
replies_given (row ∷ before) = elim (has_reply row.item) [
  | true ↦ replies_given before + 1
  | false ↦ replies_given before
]

-- the reply at a place; past the last one, a refusal
abbrev pub reply_at : List HouseReply → ℕ → HouseReply
reply_at replies n = unwrap_or (slice_get replies n) reply.Refused

-- an item with the forwarder's reply, if it is a request to the forwarder: a control message after
-- the hello
abbrev pub with_reply : Choices → List Row → Item → Item
with_reply (FromLists picks replies) rows (Says k (Body body) given) =
    elim (client_has_greeted (rows_of k rows) && body_asks body) [
      | true ↦ Says k (Body body) (Some (reply_at replies (replies_given rows)))
      | false ↦ Says k (Body body) None
    ]
with_reply choices rows item = item
