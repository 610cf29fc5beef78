-- How much may wait for the server.
use Rattle.std.specs.Prelude.{ℕ, ◌+◌, ◌*◌, ◌≡◌, ◌<◌, ◌≤◌, ◌⊎◌, ◌||◌, List, [], ◌∷◌, Bool, true, false, MatchBool, map, length}
use Rattle.mux_outside.specs.declared.house.HouseReply.{HouseReply}
use Rattle.mux_outside.specs.declared.mark.Mark.{Mark}
use Rattle.mux_outside.specs.declared.mark.Mark.TheVariants.{House}
use Rattle.mux_outside.specs.declared.house_mark.HouseMark.TheVariants.{HouseIn, HouseSaid}
use Rattle.ssh_grammar.specs.declared.numbers.TheConstants.{LONGEST_FRAME}
use Rattle.ssh_grammar.specs.Messages.{Key}
use Rattle.ssh_grammar.specs.SpellMessage.{cancel_forward}
use Rattle.ssh_grammar.specs.Frames.{frame_payload}
use Rattle.ssh_grammar.specs.Said.{InControl, InProxy, Mode, Stopped, parse}
use Rattle.mux_history.specs.declared.limits.TheConstants.{MAX_CHANNELS, MAX_CLIENTS, MAX_FORWARDINGS, READING_STOPS_AT}
use Rattle.mux_history.specs.Rows.{Row, sent_by}
use Rattle.mux_history.specs.Pending.{joined, pending}
use Rattle.mux_history.specs.Policy.{Policy}
use Rattle.mux_history.specs.Keys.{is_askable}
use Rattle.mux_history.specs.Log.{Setting}
use Rattle.mux_history.specs.Journal.{IsLawful, log_of_journal}
use Rattle.mux_history.specs.Promises.{IsCut, SpeaksInTime, Throughout, WaitsAt, is_house_request}
use Rattle.mux_history.specs.Wires.{ReadsWhenAsked, reads}
use Rattle.mux_history.specs.Right.{AreFresh}
use Rattle.mux_history.specs.Settings.{by_lists}
use Rattle.mux_history.specs.Kept.{AtEach, ForEach}
use Rattle.mux_history.specs.Laws.{OverRight}

-- how many bytes payloads are as frames
abbrev pub weight : List (List ℕ) → ℕ
weight payloads = length (joined (map frame_payload payloads))

-- the frame of a failed open, which a farewell has for a channel at most
abbrev pub longest_leave : ℕ
longest_leave = 36

-- the frame of a cancel of a path of 255 bytes, which a farewell has for a forwarding at most
abbrev pub longest_cancel : ℕ
longest_cancel = 308

-- a farewell: 28,928 bytes
abbrev pub longest_farewell : ℕ
longest_farewell = MAX_CHANNELS * longest_leave + MAX_FORWARDINGS * longest_cancel

-- the farewells of 64 clients: 1,851,392 bytes
abbrev pub longest_farewells : ℕ
longest_farewells = MAX_CLIENTS * longest_farewell

-- a row: the longest frame of a payload, with its length in front, and a farewell: 291,076 bytes
abbrev pub longest_row : ℕ
longest_row = LONGEST_FRAME + 4 + longest_farewell

-- ---- one farewell

-- no key that may be asked for has a longer cancel
abbrev pub CancelsAreShort : Type 0
CancelsAreShort = (key : Key) → is_askable key ≡ true
    → weight (cancel_forward key ∷ []) ≤ longest_cancel

-- no row leaves more for its client
abbrev pub LeavesLittle : List Row → Row → Type 0
LeavesLittle before row = weight row.farewell ≤ longest_farewell

-- at every row of every right log
abbrev pub FarewellsAreShort : Type 0
FarewellsAreShort = OverRight (λ setting rows. ForEach LeavesLittle rows)

-- ---- one row

-- a row sends no more, and no more is added to what waits for the server
pub record AddsLittle (before : List Row) (row : Row) : Type 0 where
  pub sent : weight (sent_by row) ≤ longest_row
  pub waits : length (pending 0 (row ∷ before)) ≤ length (pending 0 before) + weight (sent_by row)

-- at every row of every right log
abbrev pub RowsAddLittle : Type 0
RowsAddLittle = OverRight (λ setting rows. ForEach AddsLittle rows)

-- ---- one mark

-- what waits for the server
abbrev pub waiting_up : Setting → List Mark → ℕ
waiting_up setting marks = length (pending 0 (log_of_journal setting marks))

-- the longest piece that a stream gives at once
abbrev pub longest_piece : ℕ
longest_piece = 65536

-- a mark: for each of 64 clients a farewell, and a cancel for each of 64 requests that are answered
-- late; besides these thrice the bytes that were read, those of a frame that wasn't whole among
-- them: 4,096,009 bytes
abbrev pub longest_mark : ℕ
longest_mark = longest_farewells + MAX_CLIENTS * (MAX_FORWARDINGS * longest_cancel) + 3 *
    (LONGEST_FRAME + 3 + longest_piece)

-- the log of all marks, or one that was cut as memory ran out
abbrev pub IsLog : Setting → List Mark → List Row → Type 0
IsLog setting marks rows = (rows ≡ log_of_journal setting marks) ⊎ IsCut setting marks rows

-- of every log of a lawful journal, whatever numbers are picked and whatever the forwarder replies
abbrev pub OverJournals : (Setting → List Mark → List Row → Type 0) → Type 0
OverJournals P =
    (policy : Policy) (pid : ℕ) (picks : List ℕ) (given : List HouseReply) (marks : List Mark)
    (rows : List Row) → IsLawful marks → IsLog (by_lists policy pid picks given) marks rows
    → AreFresh rows → P (by_lists policy pid picks given) marks rows

-- the rows of the newest mark add no more, where the requests of a client count to the mark before
abbrev pub AddsAtOnce : Setting → List Mark → List Row → Type 0
AddsAtOnce setting [] rows = pending 0 rows ≡ []
AddsAtOnce setting (House mark ∷ before) rows = let earlier = AddsAtOnce setting before rows in
    MatchBool (is_house_request mark) earlier
    (length (pending 0 rows) ≤ waiting_up setting before + longest_mark)
AddsAtOnce setting (mark ∷ before) rows =
    length (pending 0 rows) ≤ waiting_up setting before + longest_mark

abbrev pub MarksAddLittle : Type 0
MarksAddLittle = OverJournals AddsAtOnce

-- ---- all marks

-- the forwarder is admitted, or sends something
abbrev pub house_speaks : Mark → Bool
house_speaks (House HouseIn) = true
house_speaks (House (HouseSaid bytes)) = true
house_speaks mark = false

-- bytes are read, clients accepted and the forwarder read only while less than 4,194,304 bytes wait
-- for the server
abbrev pub ReadsWithRoom : Setting → List Mark → Mark → Type 0
ReadsWithRoom setting before mark =
    (reads mark || house_speaks mark) ≡ true → waiting_up setting before < READING_STOPS_AT

-- 8,388,608 bytes
abbrev pub longest_server_queue : ℕ
longest_server_queue = 8388608

-- less than that wait for it: no more than where reading stops, and one mark
pub record StaysBelow (rows : List Row) : Type 0 where
  pub within : length (pending 0 rows) ≤ READING_STOPS_AT + longest_mark
  pub below : length (pending 0 rows) < longest_server_queue

-- then so much waits for it at no row, so neither at any mark, whose log is that up to some row
abbrev pub ServerQueueIsBounded : Type 0
ServerQueueIsBounded =
    OverJournals (λ setting marks rows. Throughout (ReadsWithRoom setting) marks
    → AtEach StaysBelow rows)

-- ---- all marks of a wire

-- where what is read and accepted comes right after a wait for it, as every wire keeps it, and
-- where each wait, and all that the forwarder sends, keeps what a run promises of it, so much waits
-- for the server at no row
abbrev pub RunsAreBounded : Type 0
RunsAreBounded =
    OverJournals (λ setting marks rows. Throughout ReadsWhenAsked marks
    → Throughout (WaitsAt setting) marks → Throughout (SpeaksInTime setting) marks
    → AtEach StaysBelow rows)

-- ---- bytes that are not cut yet

-- less than a frame: 262,147 bytes
abbrev pub longest_rest : ℕ
longest_rest = LONGEST_FRAME + 3

-- of a stream that is read on
abbrev pub RestIsShort : Mode → List ℕ → Type 0
RestIsShort mode bytes = ((parse mode bytes).mode ≡ Stopped → ⊥)
    → length (parse mode bytes).rest ≤ longest_rest

-- whatever bytes it gave: a client's, and the server's
pub record RestsShort (bytes : List ℕ) : Type 0 where
  pub client : RestIsShort InControl bytes
  pub server : RestIsShort InProxy bytes

abbrev pub RestsAreShort : Type 0
RestsAreShort = (bytes : List ℕ) → RestsShort bytes
