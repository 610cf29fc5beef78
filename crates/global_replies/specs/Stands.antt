-- What is kept represents the requests and the replies of a history so far.
use Rattle.std.specs.Prelude.{◌≡◌, ◌≤◌, ℕ, ◌+◌, ◌-◌, List, [], ◌∷◌, ◌++◌, Bool, true, false, Option, Some, None, length, drop, replicate, slice_get}
use Rattle.ssh_grammar.specs.SpellMessage.{request_failure}
use Rattle.mux_history.specs.Requests as history
use Rattle.mux_history.specs.Requests.{answers_to}
use Rattle.global_replies.specs.declared.ask.Ask.{Ask}
use Rattle.global_replies.specs.Replies.{request_of, IsReplyAwaited}

-- ---- who asked

-- the wanted requests that were sent, but for so many that have a reply
pub record IsQueue (queue asked : List history.Ask) (replied : ℕ) : Type 0 where
  pub waiting : queue ≡ drop replied asked
  pub awaited : replied ≤ length asked

-- one more request was sent
abbrev pub AskGoesOn : List history.Ask → List history.Ask → history.Ask → Type 0
AskGoesOn old new a =
    (asked : List history.Ask) (replied : ℕ) → IsQueue old asked replied
    → IsQueue new (asked ++ a ∷ []) replied

-- the asker of the next reply, and one more reply
abbrev pub IsAsker : List history.Ask → ℕ → List history.Ask → Option (ℕ × Ask) → Type 0
IsAsker asked replied new None = (slice_get asked replied ≡ None) × IsQueue new asked replied
IsAsker asked replied new (Some a) = (slice_get asked replied ≡ Some (request_of a.0 a.1))
    × IsQueue new asked (replied + 1)

-- as the history finds it: the request at the place of the reply
abbrev pub ReplyGoesOn : List history.Ask → List history.Ask → Option (ℕ × Ask) → Type 0
ReplyGoesOn old new asker =
    (asked : List history.Ask) (replied : ℕ) → IsQueue old asked replied
    → IsAsker asked replied new asker

-- ---- what a client is answered

-- for each wanted request whether it was sent, and the replies so far: what is kept is the part
-- without an answer, and no reply came before its request
abbrev pub Waits : List Bool → List (List ℕ) → List Bool → Type 0
Waits [] [] waiting = waiting ≡ []
Waits [] (p ∷ heard) waiting = ⊥
Waits (false ∷ flags) heard waiting = Waits flags heard waiting
Waits (true ∷ flags) [] waiting = waiting ≡ true ∷ flags
Waits (true ∷ flags) (p ∷ heard) waiting = Waits flags heard waiting

-- one more was sent: nothing is answered
abbrev pub SentGoesOn : List Bool → List Bool → Type 0
SentGoesOn old new =
    (flags : List Bool) (heard : List (List ℕ)) → Waits flags heard old
    → Waits (flags ++ true ∷ []) heard new
    × (answers_to (flags ++ true ∷ []) heard ≡ answers_to flags heard)

-- a refusal that is sent now, or isn't
abbrev pub refusal_sent_if : Bool → List (List ℕ)
refusal_sent_if true = request_failure ∷ []
refusal_sent_if false = []

-- one more was refused
abbrev pub RefusalGoesOn : List Bool → List Bool → Bool → Type 0
RefusalGoesOn old new now =
    (flags : List Bool) (heard : List (List ℕ)) → Waits flags heard old
    → Waits (flags ++ false ∷ []) heard new
    × (answers_to (flags ++ false ∷ []) heard ≡ answers_to flags heard ++ refusal_sent_if now)

-- one more reply arrived for a request that was sent: it is answered, and so many refusals after it
abbrev pub AnswerGoesOn : List Bool → List Bool → ℕ → Type 0
AnswerGoesOn old new refusals =
    (flags : List Bool) (heard : List (List ℕ)) (p : List ℕ) → IsReplyAwaited old → Waits flags heard old
    → Waits flags (heard ++ p ∷ []) new
    × (answers_to flags (heard ++ p ∷ []) ≡ answers_to flags heard
    ++ (p ∷ replicate refusals request_failure))

-- so many have no answer
abbrev pub LeavesUnanswered : List Bool → ℕ → Type 0
LeavesUnanswered waiting count =
    (flags : List Bool) (heard : List (List ℕ)) → Waits flags heard waiting
    → count ≡ length flags - length (answers_to flags heard)
