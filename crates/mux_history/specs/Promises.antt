-- What a run promises at each mark of its journal.
use Rattle.std.specs.Prelude.{ℕ, ◌==◌, ◌≡◌, ◌≤◌, ◌<◌, ◌+◌, ◌↔◌, ◌⊎◌, List, [], ◌∷◌, ◌++◌, Option, Some, None, Bool, true, false, not, ◌&&◌, filter, length, take, All, IsTrue, MatchBool}
use Rattle.mux_outside.specs.declared.mark.Mark.{Mark}
use Rattle.mux_outside.specs.declared.mark.Mark.TheVariants.{Waits, Fails, Takes, Holds, WriteFails, House}
use Rattle.mux_outside.specs.OwnStreams.{is_own}
use Rattle.mux_outside.specs.declared.house_mark.HouseMark.{HouseMark}
use Rattle.mux_outside.specs.declared.house_mark.HouseMark.TheVariants.{HouseSaid, HouseAsked, HouseOrder}
use Rattle.mux_outside.specs.declared.turn.Want.{Want}
use Rattle.mux_outside.specs.declared.turn.Want.TheVariants.{WriteOnly}
use Rattle.mux_outside.specs.declared.house.HouseReply.{HouseReply}
use Rattle.ssh_grammar.specs.Said.{Body}
use Rattle.mux_history.specs.declared.limits.TheConstants.{HOUSE, READING_STOPS_AT}
use Rattle.mux_history.specs.declared.ended.Ended.{Ended}
use Rattle.mux_history.specs.declared.ended.Ended.TheVariants.{Spent, StartRefused}
use Rattle.mux_history.specs.Rows.{Row, rows_of, is_run_over, Says}
use Rattle.mux_history.specs.Pending.{pending}
use Rattle.mux_history.specs.Controls.{client_has_greeted, body_stops}
use Rattle.mux_history.specs.Log.{Setting, goes, served, more_all}
use Rattle.mux_history.specs.Solo.{run_end_of}
use Rattle.mux_history.specs.Journal.{house_items, is_blocked, is_own_stream, items_in, log_of_journal}

-- a fact of each mark and the marks before it
abbrev pub Throughout : (List Mark → Mark → Type 0) → List Mark → Type 0
Throughout P [] = Unit {0}
Throughout P (mark ∷ before) = P before mark × Throughout P before

-- ---- Written: what a stream accepts is the front of what waits for it

-- no byte
abbrev pub is_empty : List ℕ → Bool
is_empty [] = true
is_empty (b ∷ bytes) = false

-- the bytes begin with these
abbrev pub IsFront : List ℕ → List ℕ → Type 0
IsFront front bytes = (rest : List ℕ) × (bytes ≡ front ++ rest)

-- of an accepted write; no row records what the master's own streams accept
abbrev pub TakesFront : Setting → List Mark → Mark → Type 0
TakesFront setting before (Takes stream bytes accepts) =
    MatchBool (is_own_stream stream) (Unit {0})
    (IsFront bytes (pending stream (log_of_journal setting before)))
TakesFront setting before _ = Unit {0}

-- the stream's last answer to a write was a failure
abbrev pub write_failed : ℕ → List Mark → Bool
write_failed t [] = false
write_failed t (WriteFails stream ∷ before) = elim (stream == t) [
  | true ↦ true
  | false ↦ write_failed t before
]
write_failed t (Takes stream bytes accepts ∷ before) = elim (stream == t) [
  | true ↦ false
  | false ↦ write_failed t before
]
write_failed t (Holds stream ∷ before) =
    elim (stream == t) [ true ↦ false | false ↦ write_failed t before ]
write_failed t (mark ∷ before) = write_failed t before

-- nothing more can be written to the stream now
abbrev pub IsSettled : Setting → List Mark → ℕ → Type 0
IsSettled setting marks t =
    (pending t (log_of_journal setting marks) ≡ [])
    ⊎ (IsTrue (is_blocked t marks) ⊎ IsTrue (write_failed t marks))

-- something waits for the stream
abbrev pub has_output : List Row → ℕ → Bool
has_output rows t = not (is_empty (pending t rows))

-- the stream failed, at a wait or at a write
abbrev pub has_failed : ℕ → List Mark → Bool
has_failed t [] = false
has_failed t (Fails stream ∷ before) =
    elim (stream == t) [ true ↦ true | false ↦ has_failed t before ]
has_failed t (WriteFails stream ∷ before) =
    elim (stream == t) [ true ↦ true | false ↦ has_failed t before ]
has_failed t (mark ∷ before) = has_failed t before

-- without the master's own, and without the forwarder
abbrev pub not_own : List ℕ → List ℕ
not_own streams = filter (λ t. not (is_own t)) streams

-- a stream of the master's own may be waited for as long as it did not fail
abbrev pub MayWaitForOwn : List Mark → ℕ → Type 0
MayWaitForOwn before t = IsTrue (is_own t) → has_failed t before ≡ false

-- A call of `wait`, while the run goes on.
--
-- - Of the server's stream and those of clients, the waiting ones are exactly the open ones with
--   output.
-- - None of the master's own that waits has failed.
-- - Each that waits is blocked.
-- - No more is read exactly while 4,194,304 bytes or more wait for the server.
-- - Every stream that is not waited for is settled.
-- - The forwarder was handed all that it is sent as a client.
pub record WaitsRight (setting : Setting) (before : List Mark) (waiting : List ℕ) (want : Want)
    (streams : List ℕ) : Type 0 where
  pub goes_on : is_run_over (log_of_journal setting before) ≡ false
  pub waits_for : not_own waiting
      ≡ filter (has_output (log_of_journal setting before)) (not_own streams)
  pub own : All (MayWaitForOwn before) waiting
  pub blocked : All (λ t. IsTrue (is_blocked t before)) waiting
  pub write_only : (want ≡ WriteOnly) ↔
      (READING_STOPS_AT ≤ length (pending 0 (log_of_journal setting before)))
  pub settled : (t : ℕ) → is_own t ≡ false → IsSettled setting before t
  pub house : pending HOUSE (log_of_journal setting before) ≡ []

-- of a wait
abbrev pub WaitsAt : Setting → List Mark → Mark → Type 0
WaitsAt setting before (Waits waiting want streams shown) =
    WaitsRight setting before waiting want streams
WaitsAt setting before _ = Unit {0}

-- the forwarder sends only while fewer than 4,194,304 bytes wait for the server, and when it was
-- handed all that it is sent as a client
pub record SpeaksRight (setting : Setting) (before : List Mark) : Type 0 where
  pub room : length (pending 0 (log_of_journal setting before)) < READING_STOPS_AT
  pub heard : pending HOUSE (log_of_journal setting before) ≡ []

-- of what it sends
abbrev pub SpeaksInTime : Setting → List Mark → Mark → Type 0
SpeaksInTime setting before (House (HouseSaid bytes)) = SpeaksRight setting before
SpeaksInTime setting before mark = Unit {0}

-- accepted writes and waits, and what the forwarder sends
pub record Written (setting : Setting) (marks : List Mark) : Type 0 where
  pub takes : Throughout (TakesFront setting) marks
  pub waits : Throughout (WaitsAt setting) marks
  pub speaks : Throughout (SpeaksInTime setting) marks

-- of the server's stream and those of clients, when the run ends
abbrev pub Settled : Setting → List Mark → Type 0
Settled setting marks = (t : ℕ) → is_own t ≡ false → IsSettled setting marks t

-- ---- Open: the streams that are open at a wait, and whether clients are accepted

-- a row serves STOP_LISTENING: it is sent after the hello, and the row goes on
abbrev pub serves_stop : Row → List Row → Bool
serves_stop row own =
    goes row.fate && elim row.item [
      | Says k outgoing given ↦ elim outgoing [
        | Body body ↦ client_has_greeted own && body_stops body
        | _ ↦ false
      ]
      | _ ↦ false
    ]

-- no row so far serves it
abbrev pub is_still_accepting : List Row → Bool
is_still_accepting [] = true
is_still_accepting (row ∷ before) = not (serves_stop row (rows_of row.client before)) && is_still_accepting before

-- the server's stream, and those of the admitted clients that are not lost, in the order in which
-- they came: of the streams that are open, all but the master's own; and the forwarder has none
pub record OpenRight (rows : List Row) (streams : List ℕ) (accepts : Bool) : Type 0 where
  pub open_streams : not_own streams ≡ 0 ∷ not_own (served rows)
  pub listening : accepts ≡ is_still_accepting rows

-- of a wait
abbrev pub OpenAt : Setting → List Mark → Mark → Type 0
OpenAt setting before (Waits waiting want streams shown) =
    OpenRight (log_of_journal setting before) streams shown.listens
OpenAt setting before _ = Unit {0}

-- of every wait
abbrev pub OpenStreams : Setting → List Mark → Type 0
OpenStreams setting marks = Throughout (OpenAt setting) marks

-- ---- Connection's end

-- how often the wire waited
abbrev pub waits_in : List Mark → ℕ
waits_in [] = 0
waits_in (Waits waiting want streams shown ∷ before) = waits_in before + 1
waits_in (mark ∷ before) = waits_in before

-- a piece that the forwarder sent, or an order of it
abbrev pub counts_as_turn : HouseMark → Bool
counts_as_turn (HouseSaid bytes) = true
counts_as_turn (HouseOrder order number) = true
counts_as_turn mark = false

-- how many turns were given: of the wire, of pieces sent, and of orders
abbrev pub turns_in : List Mark → ℕ
turns_in [] = 0
turns_in (Waits waiting want streams shown ∷ before) = turns_in before + 1
turns_in (House mark ∷ before) = elim (counts_as_turn mark) [
  | true ↦ turns_in before + 1
  | false ↦ turns_in before
]
turns_in (mark ∷ before) = turns_in before

-- the answer is what the log's end names; where no row ended the run, the forwarding of the start
-- that was refused first, where none may be; or else all turns were given
abbrev pub EndsAs : ℕ → List Mark → Option ℕ → Option Ended → Ended → Type 0
EndsAs turns marks refused (Some cause) answer = answer ≡ cause
EndsAs turns marks (Some index) None answer = answer ≡ StartRefused index
EndsAs turns marks None None answer = (answer ≡ Spent) × (turns_in marks ≡ turns)

-- of a run of at most so many turns; a forwarding of the start was refused, and none may be, or none
-- was
abbrev pub ConnectionEnds : Setting → ℕ → List Mark → Option ℕ → Ended → Type 0
ConnectionEnds setting turns marks refused answer =
    EndsAs turns marks refused (run_end_of (log_of_journal setting marks)) answer

-- ---- Out of memory

-- a request of a client, which is known from what the client sent before
abbrev pub is_house_request : HouseMark → Bool
is_house_request (HouseAsked client id opening ask given) = true
is_house_request mark = false

-- the log without some of the newest items of the last mark, where requests count to the mark
-- before
abbrev pub IsCut : Setting → List Mark → List Row → Type 0
IsCut setting [] rows = rows ≡ []
IsCut setting (House mark ∷ before) rows = let earlier = IsCut setting before rows in
    MatchBool (is_house_request mark) earlier
    ((n : ℕ) × (rows ≡ more_all setting (log_of_journal setting before)
    (take n (house_items before mark))))
IsCut setting (mark ∷ before) rows =
    (n : ℕ) × (rows ≡ more_all setting (log_of_journal setting before)
    (take n (items_in before mark)))

-- ---- the forwarder

-- each reply is one that the forwarder may give
abbrev pub MayGive : (HouseReply → Type 0) → List HouseReply → Type 0
MayGive May [] = Unit {0}
MayGive May (given ∷ replies) = May given × MayGive May replies
