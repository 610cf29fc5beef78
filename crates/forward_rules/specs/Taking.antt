-- What adding a forwarding answers, and what taking them out one by one gives.
use Rattle.std.specs.Prelude.{◌≡◌, ◌≤◌, ◌<◌, ℕ, ◌&&◌, Bool, true, false, List, filter, find, map, Option, Some, None, is_some, Result, Ok, Err}
use Rattle.ssh_grammar.specs.Messages as grammar
use Rattle.mux_history.specs.declared.limits.TheConstants.{MAX_FORWARDINGS}
use Rattle.conn_messages.specs.Keys.{own_key_of}
use Rattle.forward_rules.specs.State.{Forward}
use Rattle.forward_rules.specs.Step.{forward_count_of, is_forward_of, moved_up, forwards_without_client, without_first_forward}
use Rattle.conn_messages.specs.declared.key.OwnKey.{OwnKey}
use Rattle.forward_rules.specs.declared.forwards.ForwardRefused.{ForwardRefused}
use Rattle.forward_rules.specs.declared.forwards.ForwardRefused.TheVariants.{Full, OutOfMemory}

-- at 64 of a client none is added, and below none is refused for that; running out of memory is
-- free
abbrev pub AddsAs : List Forward → ℕ → Result Unit ForwardRefused → Type 0
AddsAs fs k (Ok u) = forward_count_of fs k < MAX_FORWARDINGS
AddsAs fs k (Err (Full count)) = (count ≡ forward_count_of fs k) × (count ≡ MAX_FORWARDINGS)
AddsAs fs k (Err OutOfMemory) = forward_count_of fs k < MAX_FORWARDINGS

-- no client has more than 64
abbrev pub AreFew : List Forward → Type 0
AreFew fs = (k : ℕ) → forward_count_of fs k ≤ MAX_FORWARDINGS

-- ---- taking out

-- a client's that is live
abbrev pub is_live_of : ℕ → Forward → Bool
is_live_of k f = is_forward_of k f && f.live

-- the earliest live one of a client
abbrev pub first_live : ℕ → List Forward → Option Forward
first_live k fs = find (is_live_of k) fs

-- what is recorded of it: its key, and whether a cancel of it has no reply
abbrev pub recorded_forward_of : Forward → grammar.Key × Bool
recorded_forward_of f = (f.key, is_some f.cancel)

-- what is handed out
abbrev pub recorded_taken_of : OwnKey × Bool → grammar.Key × Bool
recorded_taken_of t = (own_key_of t.0, t.1)

-- one cancel of the client fewer was sent before a later one
abbrev pub moved_up_of : ℕ → ℕ → Forward → Forward
moved_up_of k r f = elim (is_forward_of k f) [
  | true ↦ record f { cancel = moved_up r f.cancel }
  | false ↦ f
]

-- where there was one
abbrev pub closed_up : ℕ → Option ℕ → List Forward → List Forward
closed_up k None fs = fs
closed_up k (Some r) fs = map (moved_up_of k r) fs

-- what stays: all but that one; where there is none, all but the client's
abbrev pub rest_after : ℕ → List Forward → Option Forward → List Forward
rest_after k fs None = forwards_without_client k fs
rest_after k fs (Some f) = closed_up k f.cancel (without_first_forward (is_live_of k) fs)

abbrev pub after_taking : ℕ → List Forward → List Forward
after_taking k fs = rest_after k fs (first_live k fs)

-- what removing them records one after the other, until there is none
abbrev pub recorded_one_by_one : ℕ → List Forward → List (grammar.Key × Bool)
recorded_one_by_one k fs = map recorded_forward_of (filter (is_live_of k) fs)
