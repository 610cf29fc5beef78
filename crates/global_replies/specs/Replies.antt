-- Requests that wait, and the answers that they hold back.
use Rattle.std.specs.Prelude.{◌≡◌, ℕ, ◌+◌, ◌==◌, List, [], ◌∷◌, ◌++◌, Bool, true, false, Option, Some, None}
use Rattle.mux_history.specs.Requests as history
use Rattle.global_replies.specs.declared.ask.Ask.{Ask}
use Rattle.global_replies.specs.declared.ask.AskRecord.{AskRecord}
use Rattle.global_replies.specs.Asks.{what_of}

-- ---- who asked

-- a request, with its client
abbrev pub request_of : ℕ → Ask → history.Ask
request_of k what = record { client = k; what = what_of what }

-- one that is kept
abbrev pub kept_ask_of : AskRecord → history.Ask
kept_ask_of a = request_of a.client a.what

-- a client's
abbrev pub is_request_of : ℕ → history.Ask → Bool
is_request_of k a = a.client == k

-- the one that waits longest, where one waits
abbrev pub FirstAsked : List history.Ask → Option (ℕ × Ask) → Type 0
FirstAsked [] None = Unit {0}
FirstAsked [] (Some a) = ⊥
FirstAsked (a ∷ later) None = ⊥
FirstAsked (a ∷ later) (Some b) = request_of b.0 b.1 ≡ a

-- those that wait after it
abbrev pub rest_of : List history.Ask → List history.Ask
rest_of [] = []
rest_of (a ∷ later) = later

-- ---- what a client is still to be answered: for each request, from the first on that was sent and
-- has no reply, whether it was sent

-- nothing waits
abbrev pub is_none_left : List Bool → Bool
is_none_left [] = true
is_none_left (sent ∷ flags) = false

-- a refusal after what waits, where something does
abbrev pub or_behind : List Bool → List Bool
or_behind [] = []
or_behind (sent ∷ flags) = (sent ∷ flags) ++ false ∷ []

-- the first was sent
abbrev pub IsReplyAwaited : List Bool → Type 0
IsReplyAwaited [] = ⊥
IsReplyAwaited (true ∷ flags) = Unit {0}
IsReplyAwaited (false ∷ flags) = ⊥

-- the refusals at the front
abbrev pub leading : List Bool → ℕ
leading [] = 0
leading (true ∷ flags) = 0
leading (false ∷ flags) = leading flags + 1

-- what waits after them
abbrev pub without_leading : List Bool → List Bool
without_leading [] = []
without_leading (true ∷ flags) = true ∷ flags
without_leading (false ∷ flags) = without_leading flags

-- the refusals that follow the reply to the first
abbrev pub refusals_behind : List Bool → ℕ
refusals_behind [] = 0
refusals_behind (sent ∷ flags) = leading flags

-- what waits after that reply and the refusals
abbrev pub after_reply : List Bool → List Bool
after_reply [] = []
after_reply (sent ∷ flags) = without_leading flags
