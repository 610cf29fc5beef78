-- What each call does with the forwardings that are asked or live, in order of asking.
use Rattle.std.specs.Prelude.{ℕ, ◌-◌, ◌==◌, ◌&&◌, Bool, true, false, not, List, [], ◌∷◌, length, filter, find, map, Option, Some, None, is_none, is_some, option_map, nat_lt, min}
use Rattle.ssh_grammar.specs.Messages.{Key}
use Rattle.mux_history.specs.Channels.{is_number}
use Rattle.mux_history.specs.Keys.{is_key}
use Rattle.conn_messages.specs.Keys.{key_with_port}
use Rattle.forward_rules.specs.State.{Forward}

-- a client's
abbrev pub is_forward_of : ℕ → Forward → Bool
is_forward_of k f = f.client == k

-- a client's of this key that has no success yet
abbrev pub is_asked_with_key : ℕ → Key → Forward → Bool
is_asked_with_key k key f = is_forward_of k f && (not f.live && is_key f.key key)

-- live with this key
abbrev pub is_live_at : Key → Forward → Bool
is_live_at key f = f.live && is_key f.key key

-- a client's that is live with this key, and no unanswered cancel means it
abbrev pub is_free_at : ℕ → Key → Forward → Bool
is_free_at k key f = is_forward_of k f && (is_none f.cancel && is_live_at key f)

-- a client's that is live with this key, and an unanswered cancel means it
abbrev pub is_leaving_with_key : ℕ → Key → Forward → Bool
is_leaving_with_key k key f = is_forward_of k f && (is_some f.cancel && is_live_at key f)

-- ---- changes of the first that passes

abbrev pub change_first_forward : (Forward → Bool) → (Forward → Forward) → List Forward → List Forward
change_first_forward test change [] = []
change_first_forward test change (f ∷ fs) =
    elim (test f) [ true ↦ change f ∷ fs | false ↦ f ∷ change_first_forward test change fs ]

abbrev pub without_first_forward : (Forward → Bool) → List Forward → List Forward
without_first_forward test [] = []
without_first_forward test (f ∷ fs) = elim (test f) [ true ↦ fs | false ↦ f ∷ without_first_forward test fs ]

-- ---- asking

-- a forwarding that is asked
abbrev pub asked_forward : ℕ → Key → Forward
asked_forward k key = record { client = k; key = key; live = false; cancel = None }

-- how many of a client are asked or live
abbrev pub forward_count_of : List Forward → ℕ → ℕ
forward_count_of fs k = length (filter (is_forward_of k) fs)

-- the server's answer to the one of this key that was asked first: it is live, or it is none
abbrev pub forward_answered : ℕ → Key → Option ℕ → List Forward → List Forward
forward_answered k key None fs = without_first_forward (is_asked_with_key k key) fs
forward_answered k key (Some port) fs =
    change_first_forward (is_asked_with_key k key) (λ f. record f { live = true; key = key_with_port port f.key }) fs

-- ---- cancelling

-- a client's that an unanswered cancel means
abbrev pub is_leaving : ℕ → Forward → Bool
is_leaving k f = is_forward_of k f && is_some f.cancel

-- how many cancels of a client have no reply
abbrev pub unanswered_cancels : ℕ → List Forward → ℕ
unanswered_cancels k fs = length (filter (is_leaving k) fs)

-- a cancel means the earliest that is free: one that wants a reply waits for it, after those that
-- wait, and one that wants none ends the forwarding
abbrev pub forward_cancelled : ℕ → Key → Bool → List Forward → List Forward
forward_cancelled k key true fs =
    change_first_forward (is_free_at k key) (λ f. record f { cancel = Some (unanswered_cancels k fs) }) fs
forward_cancelled k key false fs = without_first_forward (is_free_at k key) fs

-- there is one that may be cancelled
abbrev pub some_free : ℕ → Key → List Forward → Bool
some_free k key fs = is_some (find (is_free_at k key) fs)

-- the smaller place
abbrev pub smaller_place : Option ℕ → Option ℕ → Option ℕ
smaller_place None b = b
smaller_place (Some a) None = Some a
smaller_place (Some a) (Some b) = Some (min a b)

-- the cancel that was sent first of those that pass
abbrev pub first_cancel : (Forward → Bool) → List Forward → Option ℕ
first_cancel test [] = None
first_cancel test (f ∷ fs) =
    elim (test f) [ true ↦ smaller_place f.cancel (first_cancel test fs) | false ↦ first_cancel test fs ]

-- one cancel fewer was sent before a later one
abbrev pub moved_up : ℕ → Option ℕ → Option ℕ
moved_up r None = None
moved_up r (Some q) = elim (nat_lt r q) [ true ↦ Some (q - 1) | false ↦ Some q ]

-- a forwarding of the client whose cancel of a place is answered
abbrev pub without_cancel : ℕ → Forward → Forward
without_cancel r f = elim (is_number f.cancel r) [
  | true ↦ record f { cancel = None }
  | false ↦ record f { cancel = moved_up r f.cancel }
]

-- of this client alone
abbrev pub without_cancel_of : ℕ → ℕ → Forward → Forward
without_cancel_of k r f = elim (is_forward_of k f) [ true ↦ without_cancel r f | false ↦ f ]

-- the cancel of this place means it
abbrev pub is_cancelled_at : ℕ → ℕ → Forward → Bool
is_cancelled_at k r f = is_forward_of k f && is_number f.cancel r

-- the cancel of a place is answered: its forwarding ends, or stays
abbrev pub cancel_settled : ℕ → ℕ → Bool → List Forward → List Forward
cancel_settled k r true fs = map (without_cancel_of k r) (filter (λ f. not (is_cancelled_at k r f)) fs)
cancel_settled k r false fs = map (without_cancel_of k r) fs

-- where there is one
abbrev pub forward_settled_at : ℕ → Option ℕ → Bool → List Forward → List Forward
forward_settled_at k None done fs = fs
forward_settled_at k (Some r) done fs = cancel_settled k r done fs

-- the server's answer to the client's cancel of this key that was sent first
abbrev pub cancel_answered : ℕ → Key → Bool → List Forward → List Forward
cancel_answered k key done fs = forward_settled_at k (first_cancel (is_leaving_with_key k key) fs) done fs

-- ---- who is meant, and who leaves

-- the client of the earliest that is live with this key
abbrev pub forward_owner_at : Key → List Forward → Option ℕ
forward_owner_at key fs = option_map (λ f. f.client) (find (is_live_at key) fs)

-- without all of a client's
abbrev pub forwards_without_client : ℕ → List Forward → List Forward
forwards_without_client k fs = filter (λ f. not (is_forward_of k f)) fs
