-- What a client is still to be answered, and how a request changes it.
use Rattle.std.specs.Prelude.{◌≡◌, ℕ, ◌+◌, ◌==◌, ◌++◌, ◌&&◌, nat_le, Bool, true, false, List, [], ◌∷◌, length}
use Rattle.ssh_grammar.specs.Messages.{Global, Key}
use Rattle.ssh_grammar.specs.SpellMessage.{request_failure}
use Rattle.proxy_frames.specs.State.{QueueState}
use Rattle.global_replies.specs.Replies.{is_none_left, or_behind}
use Rattle.mux_history.specs.declared.limits.TheConstants.{MAX_GLOBAL_REQUESTS}
use Rattle.mux_history.specs.Summary.{Requests}
use Rattle.mux_history.specs.Keys.{is_askable}
use Rattle.mux_history.specs.Policy.{Policy, permits}
use Rattle.mux_core.specs.declared.verdict.Verdict.{Verdict}
use Rattle.mux_core.specs.declared.verdict.Verdict.TheVariants as verdict
use Rattle.mux_core.specs.State.{MemberState, CoreState}
use Rattle.mux_core.specs.Calls.{SendsAs}

-- the place of a client, or the end
abbrev pub place_of_client : ℕ → List MemberState → ℕ
place_of_client k [] = 0
place_of_client k (c ∷ cs) = elim (c.number == k) [ true ↦ 0 | false ↦ place_of_client k cs + 1 ]

-- what it is still to be answered
abbrev pub member_waiting_of : ℕ → List MemberState → List Bool
member_waiting_of k [] = []
member_waiting_of k (c ∷ cs) = elim (c.number == k) [ true ↦ c.waiting | false ↦ member_waiting_of k cs ]

-- the first of that number, with what it is still to be answered changed
abbrev pub with_waiting : ℕ → (List Bool → List Bool) → List MemberState → List MemberState
with_waiting k change [] = []
with_waiting k change (c ∷ cs) = elim (c.number == k) [
  | true ↦ record c { waiting = change c.waiting } ∷ cs
  | false ↦ c ∷ with_waiting k change cs
]

-- a request that is sent is awaited
abbrev pub more_awaited : List Bool → List Bool
more_awaited w = w ++ true ∷ []

-- the verdict on a request that is refused: the refusal goes out at once, or waits; one that wants
-- no reply has none
abbrev pub refusal_now : Bool → Verdict
refusal_now true = verdict.Answer request_failure
refusal_now false = verdict.Held

abbrev pub refusal_verdict : Bool → List Bool → Verdict
refusal_verdict false w = verdict.Silent
refusal_verdict true w = refusal_now (is_none_left w)

abbrev pub after_refusal : Bool → ℕ → List MemberState → List MemberState
after_refusal false k cs = cs
after_refusal true k cs = with_waiting k or_behind cs

-- one wanted request too many
abbrev pub is_one_too_many : Bool → List Bool → Bool
is_one_too_many want w = want && nat_le MAX_GLOBAL_REQUESTS (length w)

-- a forwarding may be asked, however many there are
abbrev pub may_ask : Policy → Key → Bool → Bool
may_ask policy key want = want && (is_askable key && permits policy.listens key)

-- of a request that isn't one too many
abbrev pub SendsRoomy : CoreState → CoreState → ℕ → List ℕ → Global → Bool → QueueState → QueueState
    → Verdict → Type 0
SendsRoomy old new k p what want up up' v =
    is_one_too_many want (member_waiting_of k old.clients) ≡ false
    → SendsAs old new k p (Requests what want) 0 up up' v
