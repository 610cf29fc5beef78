-- The requests that have no answer yet, and the answers.
use Rattle.std.specs.Prelude.{◌+◌, ◌-◌, ◌^◌, ℕ, Bool, true, false, ◌&&◌, ◌||◌, ◌==◌, nat_lt, nat_le, min, if◌then◌else◌, List, length, filter, map, Option, Some, None}
use Rattle.std.specs.List.{list_any, fold, position, remove}
use Rattle.mux_outside.specs.declared.house.HouseReply.{HouseReply}
use Rattle.mux_outside.specs.declared.house.HouseReply.TheVariants as reply
use Rattle.house_forward.specs.declared.asks.RequestOutcome.{RequestOutcome}
use Rattle.house_forward.specs.declared.asks.RequestOutcome.TheVariants.{Done, Port, Refused}
use Rattle.house_forward.specs.declared.asks.Waiting.{Waiting}
use Rattle.house_forward.specs.declared.rules.TheConstants.{MOST_ASKS, MOST_WAITING}

-- whether a client has a request with this id
abbrev pub has_open : ℕ → ℕ → List Waiting → Bool
has_open client id waiting = list_any (λ w. (w.client == client) && (w.id == id)) waiting

-- how many requests of a client wait
abbrev pub how_many_of : ℕ → List Waiting → ℕ
how_many_of client waiting = length (filter (λ w. w.client == client) waiting)

-- whether as many requests of a client wait as may, or as many in all
abbrev pub is_full_for : ℕ → List Waiting → Bool
is_full_for client waiting =
    nat_le MOST_ASKS (how_many_of client waiting) || nat_le MOST_WAITING (length waiting)

-- whether a request is refused for those that wait: one of its client has its id, or as many wait
-- as may
abbrev pub turns_away : ℕ → ℕ → List Waiting → Bool
turns_away client id waiting =
    has_open client id waiting || is_full_for client waiting

-- a request that waits for the fate of a forwarding
abbrev pub request_waiting_for : ℕ → ℕ → Bool → ℕ → Waiting
request_waiting_for client id opening serial = record {
  client = client;
  id = id;
  opening = opening;
  forwarding = serial;
  outcome = None;
}

-- ---- the outcome of a request

abbrev pub is_settled : Option (ℕ × RequestOutcome) → Bool
is_settled None = false
is_settled (Some o) = true

-- whether it has an outcome
abbrev pub has_outcome : Waiting → Bool
has_outcome w = is_settled w.outcome

abbrev pub same : Bool → Bool → Bool
same true b = b
same false true = false
same false false = true

abbrev pub is_ask_about : ℕ → Bool → Waiting → Bool
is_ask_about serial opening w = (w.forwarding == serial) && same w.opening opening

abbrev pub ask_settled_at : ℕ → RequestOutcome → Option (ℕ × RequestOutcome) → Option (ℕ × RequestOutcome)
ask_settled_at at outcome None = Some (at, outcome)
ask_settled_at at outcome (Some o) = Some o

-- it has this outcome as that many had one, if it is one of these and has none yet
abbrev pub settle_one : ℕ → Bool → ℕ → RequestOutcome → Waiting → Waiting
settle_one serial opening at outcome w = if is_ask_about serial opening w
    then record w { outcome = ask_settled_at at outcome w.outcome } else w

abbrev pub requests_settled : ℕ → Bool → ℕ → RequestOutcome → List Waiting → List Waiting
requests_settled serial opening at outcome waiting = map (settle_one serial opening at outcome) waiting

-- one more
abbrev pub one_more_outcome : ℕ → ℕ
one_more_outcome at = min (at + 1) (2 ^ 64 - 1)

-- all requests about a forwarding are refused
abbrev pub all_requests_refused : ℕ → ℕ → List Waiting → List Waiting
all_requests_refused serial at waiting =
    requests_settled serial false (one_more_outcome at) Refused (requests_settled serial true at Refused waiting)

-- whether the answer to a request to open this forwarding is still to be given
abbrev pub owes_opening : ℕ → List Waiting → Bool
owes_opening serial waiting = list_any (λ w. (w.forwarding == serial) && w.opening) waiting

-- ---- answers

abbrev pub stamp_of : Option (ℕ × RequestOutcome) → ℕ
stamp_of None = 0
stamp_of (Some o) = o.0

abbrev pub earlier_at : Option (ℕ × RequestOutcome) → Option Waiting → Waiting → Option Waiting
earlier_at None first w = first
earlier_at (Some o) None w = Some w
earlier_at (Some o) (Some f) w = if nat_lt o.0 (stamp_of f.outcome) then Some w else Some f

-- the one of both that had an outcome earlier
abbrev pub earlier_outcome : Option Waiting → Waiting → Option Waiting
earlier_outcome first w = earlier_at w.outcome first w

-- the one that had an outcome first
abbrev pub earliest : List Waiting → Option Waiting
earliest waiting = fold earlier_outcome None waiting

abbrev pub ask_reply_in : Option (ℕ × RequestOutcome) → Bool → HouseReply
ask_reply_in None opening = reply.Refused
ask_reply_in (Some (at, Done)) opening = reply.Done
ask_reply_in (Some (at, Port port)) opening = if opening then reply.Port port else reply.Refused
ask_reply_in (Some (at, Refused)) opening = reply.Refused

-- its answer
abbrev pub reply_of : Waiting → HouseReply
reply_of w = ask_reply_in w.outcome w.opening

abbrev pub answer_in : Option Waiting → Option (ℕ × ℕ × HouseReply)
answer_in None = None
answer_in (Some w) = Some (w.client, w.id, reply_of w)

-- the next answer
abbrev pub next_answer : List Waiting → Option (ℕ × ℕ × HouseReply)
next_answer waiting = answer_in (earliest waiting)

-- whether a request is of this client with this id
abbrev pub is_waiting : ℕ → ℕ → Waiting → Bool
is_waiting client id w = (w.client == client) && (w.id == id)

-- the one at a place waits no longer
abbrev pub without_request_at : Option ℕ → List Waiting → List Waiting
without_request_at None waiting = waiting
without_request_at (Some i) waiting = remove waiting i

-- those that wait after this answer: the first of its client with its id waits no longer
abbrev pub after_answer : Option (ℕ × ℕ × HouseReply) → List Waiting → List Waiting
after_answer None waiting = waiting
after_answer (Some a) waiting = without_request_at (position (is_waiting a.0 a.1) waiting) waiting

-- how many answers are given
abbrev pub answers_in : {X : Type 0} → Option X → ℕ
answers_in None = 0
answers_in (Some a) = 1
