-- How many requests of each client wait, kept beside them.
use Rattle.std.specs.Prelude.{◌≡◌, ◌≤◌, ℕ, nat_eq, List, length, map, filter, Option, Some, None}
use Rattle.indexmap.specs.IndexMap.{IndexMap, get}
use Rattle.mux_history.specs.Requests as history
use Rattle.global_replies.specs.declared.ask.AskRecord.{AskRecord}
use Rattle.global_replies.specs.declared.ask.TheConstants.{MOST_WAITING}
use Rattle.global_replies.specs.Replies.{kept_ask_of, is_request_of}

-- a client of which nothing is kept has none
abbrev pub count_or_zero : Option ℕ → ℕ
count_or_zero None = 0
count_or_zero (Some n) = n

-- how many of these requests are a client's
abbrev pub request_count_of : ℕ → List history.Ask → ℕ
request_count_of k asks = length (filter (is_request_of k) asks)

-- each client has its count, and the requests are not too many
pub record IsTally {S : Type 0} (counts : IndexMap ℕ ℕ S) (asked : List AskRecord) : Type 0 where
  pub few : length asked ≤ MOST_WAITING
  pub counts_are : (k : ℕ) → count_or_zero (get nat_eq counts k) ≡ request_count_of k (map kept_ask_of asked)
