-- What the master sends for a client that is lost, at once and later.
use Rattle.std.specs.Prelude.{ℕ, List, [], ◌∷◌, ◌++◌, Option, Some, None, Bool, true, false, not, ◌&&◌, ◌||◌, length, filter, is_none, flat_map, nat_lt}
use Rattle.ssh_grammar.specs.declared.side.Side.TheVariants.{Up}
use Rattle.ssh_grammar.specs.declared.numbers.TheConstants.{CONNECT_FAILED}
use Rattle.ssh_grammar.specs.Messages.{Key, Global, Forward, Cancel}
use Rattle.ssh_grammar.specs.SpellMessage.{close, open_failure, cancel_forward, client_is_gone}
use Rattle.mux_history.specs.Summary.{Summary, Succeeds, Refuses, Confirmation}
use Rattle.mux_history.specs.Rows.{Row, any_of, is_lost, is_admit}
use Rattle.mux_history.specs.Channels.{Channel, held_of, is_confirmed, is_up, any_by, is_closes, is_channel_held}
use Rattle.mux_history.specs.Requests.{Ask, wanted_requests, replies, asker}
use Rattle.mux_history.specs.Keys.{bound}
use Rattle.mux_history.specs.Forwardings.{Forwarding, forwarded, forwardings_of}

-- ---- at once

-- the payload for a number, where there is one
abbrev pub to_number : Option ℕ → (ℕ → List ℕ) → List (List ℕ)
to_number None f = []
to_number (Some n) f = f n ∷ []

-- CLOSE on a confirmed channel on which the client has not sent it; OPEN_FAILURE for a server's
-- open without an answer
abbrev pub leave_channel : Channel → List (List ℕ)
leave_channel x = elim (is_confirmed x) [
  | true ↦ elim (any_by Up is_closes x.acts) [ true ↦ [] | false ↦ to_number x.remote close ]
  | false ↦ elim (is_up x.by)
      [ true ↦ [] | false ↦ to_number x.remote (λ s. open_failure s CONNECT_FAILED client_is_gone) ]
]

-- a cancel without reply of a key that is live
abbrev pub cancel_live : Option Key → List (List ℕ)
cancel_live None = []
cancel_live (Some key) = cancel_forward key ∷ []

-- the same of a forwarding that no unanswered cancel means
abbrev pub leave_forwarding : Forwarding → List (List ℕ)
leave_forwarding f = elim (is_none f.cancel) [ true ↦ cancel_live f.live | false ↦ [] ]

-- for the row that loses the client, with its other outputs, after the client's rows before it:
-- channels in the order in which they began, then forwardings in order of asking; the loss itself
-- has not ended the forwardings here
abbrev pub farewell : Row → List Row → List (List ℕ)
farewell row own =
    flat_map leave_channel (held_of (row ∷ own))
    ++ flat_map leave_forwarding
    (filter (λ f. not f.over) (forwarded row own (forwardings_of own)))

-- ---- later

-- after a success: a forwarding that was asked is cancelled
abbrev pub late_success : List ℕ → Global → List (List ℕ)
late_success rest (Forward key) = cancel_forward (bound key rest) ∷ []
late_success rest _ = []

-- after a failure: a cancel that was asked is sent again, without reply
abbrev pub late_refusal : Global → List (List ℕ)
late_refusal (Cancel key) = cancel_forward key ∷ []
late_refusal _ = []

-- what follows for the request that is answered
abbrev pub with_ask : Option Ask → (Global → List (List ℕ)) → List (List ℕ)
with_ask None f = []
with_ask (Some a) f = f a.what

-- what a message for a lost client sends up, after the client's rows before it: CLOSE after a
-- confirmation, a cancel without reply after a success of its forwarding request or a failure of
-- its cancel
abbrev pub late : Summary → List Row → List (List ℕ)
late (Confirmation n s w m) own = close s ∷ []
late (Succeeds rest) own = with_ask (asker own) (late_success rest)
late Refuses own = with_ask (asker own) late_refusal
late _ own = []

-- ---- open matters

-- a client's matters are open while it is admitted and not lost, holds a channel, or has a sent
-- request without reply
abbrev pub has_open_matters : List Row → Bool
has_open_matters own =
    (any_of is_admit own && not (is_lost own))
    || (any_of is_channel_held (held_of own) || nat_lt (length (replies own)) (length (wanted_requests own)))
