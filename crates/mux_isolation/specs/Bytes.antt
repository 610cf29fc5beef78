-- What an admitted client is given, byte for byte, is what its unshared connection gives it; and
-- what is sent for it is what that connection sends.
use Rattle.std.specs.Prelude.{ℕ, ◌≡◌, ◌<◌, false, List, flat_map, reverse}
use Rattle.mux_outside.specs.declared.house.HouseReply.{HouseReply}
use Rattle.mux_outside.specs.declared.mark.Mark.{Mark}
use Rattle.mux_outside.specs.OwnStreams.{is_own}
use Rattle.mux_history.specs.Rows.{Row, rows_of}
use Rattle.mux_history.specs.Pending.{given_to}
use Rattle.mux_history.specs.Policy.{Policy}
use Rattle.mux_history.specs.Log.{Setting}
use Rattle.mux_history.specs.Journal.{IsLawful, log_of_journal, taken_by}
use Rattle.mux_history.specs.Promises.{IsFront, TakesFront, Throughout}
use Rattle.mux_history.specs.Right.{AreFresh, IsAdmitted}
use Rattle.mux_history.specs.Settings.{by_lists}
use Rattle.mux_history.specs.Solo.{seen_row, solo}
use Rattle.mux_history.specs.Kept.{sent_for}
use Rattle.mux_history.specs.Laws.{OverRight}

-- all bytes that each admitted client is to be given
abbrev pub GivesAlike : Setting → List Row → Type 0
GivesAlike setting rows =
    (k : ℕ) → 0 < k → IsAdmitted k rows → given_to k rows ≡ given_to k (solo setting k rows)

-- in every right log
abbrev pub BytesAreUnshared : Type 0
BytesAreUnshared = OverRight GivesAlike

-- so the bytes that its stream accepted are a prefix of what the unshared connection gives; the
-- forwarder has none
abbrev pub TakesAlike : Setting → List Mark → Type 0
TakesAlike setting marks =
    (k : ℕ) → 0 < k → is_own k ≡ false → IsAdmitted k (log_of_journal setting marks)
    → IsFront (taken_by k marks) (given_to k (solo setting k (log_of_journal setting marks)))

-- where each take is the front of what waited
abbrev pub TakesAreUnshared : Type 0
TakesAreUnshared =
    (policy : Policy) (pid : ℕ) (picks : List ℕ) (given : List HouseReply) (marks : List Mark)
    → IsLawful marks → AreFresh (log_of_journal (by_lists policy pid picks given) marks)
    → Throughout (TakesFront (by_lists policy pid picks given)) marks
    → TakesAlike (by_lists policy pid picks given) marks

-- ---- what is sent for a client

-- under its own numbers: each number that the client's OPEN or CONFIRMATION carried up replaced by
-- its own
abbrev pub sent_as_own : ℕ → List Row → List (List ℕ)
sent_as_own k rows = flat_map (λ row. (seen_row row).sent) (reverse (rows_of k rows))

-- for each admitted client it is, payload by payload, what its unshared connection sends
abbrev pub SendsAlike : Setting → List Row → Type 0
SendsAlike setting rows =
    (k : ℕ) → 0 < k → IsAdmitted k rows → sent_as_own k rows ≡ sent_for k (solo setting k rows)

-- in every right log
abbrev pub SendsAreUnshared : Type 0
SendsAreUnshared = OverRight SendsAlike
