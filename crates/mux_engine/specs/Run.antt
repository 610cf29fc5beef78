-- What is promised of a whole run.
use Rattle.std.specs.Prelude.{◌≡◌, ◌≢◌, ◌≤◌, ◌<◌, ◌⊎◌, ℕ, Bool, false, not, List, [], ◌++◌, filter, length, All, IsTrue, Option}
use Rattle.std.specs.Option.{option_map}
use Rattle.mux_outside.specs.House.{HouseState}
use Rattle.mux_outside.specs.HouseCalls.{HandsOn, HouseCall}
use Rattle.mux_outside.specs.declared.house_mark.HouseMark.{HouseMark}
use Rattle.mux_outside.specs.declared.house.HouseReply.{HouseReply}
use Rattle.mux_outside.specs.declared.mark.Mark.{Mark}
use Rattle.mux_outside.specs.declared.mark.Mark.TheVariants.{Waits, House}
use Rattle.mux_outside.specs.OwnStreams.{is_one, is_own}
use Rattle.mux_outside.specs.Seen.{Seen}
use Rattle.mux_history.specs.declared.ended.Ended.{Ended}
use Rattle.mux_history.specs.declared.ended.Ended.TheVariants.{OutOfMemory}
use Rattle.mux_history.specs.declared.limits.TheConstants.{HOUSE}
use Rattle.mux_history.specs.Policy.{Policy}
use Rattle.mux_history.specs.Rows.{Row}
use Rattle.mux_history.specs.Choices.{numbers_taken, replies_given}
use Rattle.mux_history.specs.Pending.{given_to, pending}
use Rattle.mux_history.specs.Log.{Setting}
use Rattle.mux_history.specs.Settings.{by_lists}
use Rattle.mux_history.specs.Solo.{solo}
use Rattle.mux_history.specs.Right.{AreFresh, IsAdmitted, TakesPick}
use Rattle.mux_history.specs.Journal.{IsLawful, Records, bytes_of, is_blocked, log_of_journal, taken_by}
use Rattle.mux_history.specs.Kept.{AtEach, ForEach, Kept, OwnWords}
use Rattle.mux_history.specs.Promises.{ConnectionEnds, IsFront, MayGive, OpenStreams, Settled, Throughout, Written, has_failed, is_house_request, turns_in}
use Rattle.mux_history.specs.Wires.{ReadsWhenAsked}
use Rattle.mux_isolation.specs.Bytes.{GivesAlike, SendsAlike}
use Rattle.mux_isolation.specs.Laws.{WaitsBounded}
use Rattle.mux_bounds.specs.Bounds.{IsLog, RestsShort, StaysBelow}
use Rattle.mux_bounds.specs.Few.{ChannelsBounded, ForwardingsBounded, LeavesNothing, MattersBounded, RequestsBounded, UnansweredBounded}
use Rattle.mux_peers.specs.Asked.{asks_of_rows, RecordsAsks}
use Rattle.mux_peers.specs.Starved.{BeginsWithAsked}
use Rattle.mux_engine.specs.AfterEnd.{AfterEnd}
use Rattle.mux_engine.specs.Answers.{AnswersOpen}
use Rattle.mux_engine.specs.Called.{calls_in}
use Rattle.mux_engine.specs.Places.{HasPlaces, KeepsOwn, listeners_in, own_in, unfailed_in}
use Rattle.mux_engine.specs.Rests.{refusal_after}
use Rattle.mux_engine.specs.SilentAnswers.{AnswersInSilence}
use Rattle.mux_engine.specs.Sides.{AtWaits, RestsOf, ask_marks_in, house_marks}

-- a journal that a wire can give: it is lawful, and the wire read and accepted only right after a
-- wait for that
pub record IsOfWire (journal : List Mark) : Type 0 where
  pub lawful : IsLawful journal
  pub asked : Throughout ReadsWhenAsked journal

-- What holds of a forwarder right before a wait holds at each wait, by what the journal has up to
-- there: what the forwarder recorded, its calls, the listeners and streams that its orders leave
-- open, and those of its streams that are waited for and those that have not failed.
abbrev pub RestedAt : AtWaits → Setting → Option (List HouseMark) → List Mark → Mark → Type 0
RestedAt Rest setting before journal (Waits waiting want streams shown) =
    Rest want (option_map (λ recorded. recorded ++ house_marks journal) before) (calls_in setting journal)
    (listeners_in journal) (own_in journal) (filter is_own waiting) (unfailed_in journal)
RestedAt Rest setting before journal mark = Unit {0}

abbrev pub Rested : AtWaits → Setting → Option (List HouseMark) → List Mark → Type 0
Rested Rest setting before journal = Throughout (RestedAt Rest setting before) journal

-- a mark of what a forwarder does by itself
abbrev pub is_by_house : Mark → Bool
is_by_house (House mark) = not (is_house_request mark)
is_by_house mark = false

-- nothing waits for this stream of the master's own, or it is blocked, or it failed
abbrev pub IsOwnSettled : (ℕ → List ℕ) → List Mark → ℕ → Type 0
IsOwnSettled queue journal t =
    (queue t ≡ []) ⊎ (IsTrue (is_blocked t journal) ⊎ IsTrue (has_failed t journal))

-- how a run ends: as the journal says, each stream was offered what waits for it, the forwarder was
-- handed all that it is sent as a client, and each of its open streams, for which this waits, was
-- offered it
pub record EndsRight (setting : Setting) (turns : ℕ) (queue : ℕ → List ℕ) (journal : List Mark)
    (refused : Option ℕ) (answer : Ended) : Type 0 where
  pub end : ConnectionEnds setting turns journal refused answer
  pub settled : Settled setting journal
  pub handed_over : pending HOUSE (log_of_journal setting journal) ≡ []
  pub own_settled : (t : ℕ) → IsTrue (is_one t (own_in journal)) → IsOwnSettled queue journal t

-- the bytes that the stream of each admitted client accepted are a prefix of what its unshared
-- connection gives it; the forwarder has no stream
abbrev pub TakesUnshared : Setting → List Mark → List Row → Type 0
TakesUnshared setting journal rows =
    (k : ℕ) → 0 < k → is_own k ≡ false → IsAdmitted k rows
    → IsFront (taken_by k journal) (given_to k (solo setting k rows))

-- What is promised of rows.
--
-- - Windows, permissions, askers, what is delivered and what goes up, numbers and the unshared
--   connection of each admitted client.
-- - Byte for byte each is given what that connection gives, and what is sent for it is, payload by
--   payload, what that sends.
-- - The numbers that were picked, and the master's own words.
-- - At every row the limits, that nothing is left of a client whose matters are closed, and how
--   much waits for a client and for the server.
pub record KeepsRows (setting : Setting) (rows : List Row) : Type 0 where
  pub kept : Kept setting rows
  pub gives : GivesAlike setting rows
  pub sends : SendsAlike setting rows
  pub picks : ForEach (TakesPick setting.choices) rows
  pub own_words : ForEach OwnWords rows
  pub channels : AtEach ChannelsBounded rows
  pub forwardings : AtEach ForwardingsBounded rows
  pub requests : AtEach RequestsBounded rows
  pub unanswered : AtEach UnansweredBounded rows
  pub clients : AtEach MattersBounded rows
  pub nothing_left : AtEach LeavesNothing rows
  pub client_queues : AtEach WaitsBounded rows
  pub server_queue : AtEach StaysBelow rows

-- these are the first of what the journal asks after those, by choices that go on with some more
-- numbers and some more replies, which the forwarder may give
pub record AsksOn (May : HouseReply → Type 0) (policy : Policy) (pid : ℕ) (picks : List ℕ)
    (replies : List HouseReply) (journal : List Mark) (asked more : List HouseMark) : Type 0 where
  pub more_picks : List ℕ
  pub more_replies : List HouseReply
  pub may : MayGive May more_replies
  pub begins : BeginsWithAsked asked more
      (asks_of_rows (log_of_journal
      (by_lists policy pid (picks ++ more_picks) (replies ++ more_replies)) journal))

-- ---- a run

-- what is chosen in a run
pub record RunChoices (May : HouseReply → Type 0) : Type 0 where
  -- the numbers that were picked for channels, in order
  pub picks : List ℕ
  -- the replies that the forwarder gave at once, in order
  pub replies : List HouseReply
  -- it may give each of them
  pub may : MayGive May replies

-- the setting of a run: what is permitted, the process id that clients are sent, and its choices
abbrev pub setting_of : {May : HouseReply → Type 0} → Policy → ℕ → RunChoices May → Setting
setting_of policy pid choices = by_lists policy pid choices.picks choices.replies

-- what the wire recorded in a run, of which this is seen at its end
pub record RunJournal (turns : ℕ) (start : Option (List Mark)) (seen : Seen) (answer : Ended) :
    Type 0 where
  -- its marks, the newest first, with those of the forwarder
  pub journal : List Mark
  -- if the wire records, it recorded these since the start
  pub records : Records start seen.recorded journal
  -- a wire can give them
  pub of_wire : IsOfWire journal
  -- no more turns were given than the run may use
  pub turns_given : turns_in journal ≤ turns
  -- what the bytes of a stream leave unread is short of a frame
  pub rests : (t : ℕ) → RestsShort (bytes_of t journal)
  -- at each wait the wire shows the own listeners and streams that the forwarder's orders leave
  -- open, paused and finished; a paused one gives nothing, and one that is finished or that failed
  -- is not written to
  pub own_streams : KeepsOwn journal
  -- unless memory runs out, these are the wire's at the end
  pub places : answer ≢ OutOfMemory → HasPlaces seen journal

-- what holds at each mark of a run, by the marks before it
pub record KeepsMarks (setting : Setting) (journal : List Mark) : Type 0 where
  -- each write, each wait and each piece that the forwarder sends is as it must be then
  pub written : Written setting journal
  -- at each wait the open streams are those of the rows, and clients are accepted until a row
  -- stops that
  pub open_streams : OpenStreams setting journal
  -- each later reply of the forwarder is to a request of the rows so far that is open then: one that
  -- it deferred and has not answered since
  pub answered : Throughout (AnswersOpen setting) journal
  -- after the row that ended the connection it orders, sends and answers nothing
  pub after_end : Throughout (AfterEnd setting) journal
  -- once a row ended the run or stopped clients from being accepted, a stream accepts bytes only
  -- where the wire accepts no clients
  pub silence : Throughout (AnswersInSilence setting) journal

-- the rows of a run, for which so many numbers were picked and replies given
pub record RunRows (setting : Setting) (picks : List ℕ) (replies : List HouseReply)
    (journal : List Mark) (answer : Ended) : Type 0 where
  -- its rows, the newest first
  pub rows : List Row
  -- they are those of the journal, of whose last event some may be cut
  pub is_log : IsLog setting journal rows
  -- unless memory runs out, none is cut
  pub whole : answer ≢ OutOfMemory → rows ≡ log_of_journal setting journal
  -- each number that was picked is fresh at its row
  pub fresh : AreFresh rows
  -- each row that uses a number has one of the picks
  pub numbers : numbers_taken rows ≡ length picks
  -- each row that asks the forwarder has one of the replies
  pub answers : replies_given rows ≡ length replies
  -- these rows, and all others that running out of memory may have left, keep what is promised of
  -- rows
  pub keeps : (others : List Row) → IsLog setting journal others → AreFresh others
      → KeepsRows setting others
  -- each admitted client accepted a prefix of what its unshared connection gives it
  pub alone : TakesUnshared setting journal rows

-- What the forwarder recorded, was asked and was handed in a run: one that represents `stands` as it
-- begins and `stands'` at its end, which recorded `before` and has recorded `now`.
pub record RunForwarder (May : HouseReply → Type 0) (Rest : AtWaits)
    (stands stands' : List HouseCall → Type 0) (present : Bool) (policy : Policy) (pid : ℕ)
    (choices : RunChoices May) (before now : Option (List HouseMark)) (journal : List Mark)
    (rows : List Row) (answer : Ended) : Type 0 where
  -- its last marks, which the journal lacks if memory ran out
  pub more : List HouseMark
  -- the requests among them that are of no row
  pub more_asks : List HouseMark
  -- it recorded what the journal has of it, and then these
  pub house : RecordsAsks before now (house_marks journal ++ more)
  -- its requests are those of the rows, and then these
  pub asked : ask_marks_in (house_marks journal ++ more) ≡ asks_of_rows rows ++ more_asks
  -- these are the first that the whole journal has after those of the rows
  pub asks_on : AsksOn May policy pid choices.picks choices.replies journal (asks_of_rows rows)
      more_asks
  -- unless memory runs out, it recorded just what the journal has of it
  pub house_whole : answer ≢ OutOfMemory → RecordsAsks before now (house_marks journal)
  -- unless memory runs out, its requests are just those of the rows
  pub asks_whole : answer ≢ OutOfMemory → ask_marks_in (house_marks journal) ≡ asks_of_rows rows
  -- unless memory runs out, it was handed all that the journal has for it, once and in order
  pub handed : answer ≢ OutOfMemory
      → HandsOn stands stands' (calls_in (setting_of policy pid choices) journal)
  -- at each wait it is as `Rest` says, knows the listeners and streams that its orders leave open,
  -- and waits for just those of its streams for which something waits
  pub rested : Rested Rest (setting_of policy pid choices) before journal
  -- where none is present, the journal has nothing of it but the requests of clients
  pub absent : present ≡ false → All (λ (mark : Mark). is_by_house mark ≡ false) journal

-- A run, which ended so. `last` is the forwarder at its end, and `refused` the forwarding of the
-- start that was refused, if none may be.
pub record IsRun (May : HouseReply → Type 0)
    (Rest : AtWaits)
    (stands : List HouseCall → Type 0) (last : HouseState) (present : Bool) (policy : Policy)
    (pid turns : ℕ) (before now : Option (List HouseMark)) (start : Option (List Mark)) (seen : Seen)
    (refused : Option ℕ) (answer : Ended) : Type 0 where
  -- the numbers that were picked, and the replies that the forwarder gave at once
  pub choices : RunChoices May
  -- what the wire recorded
  pub wire : RunJournal turns start seen answer
  -- at each mark all is written, kept open, answered and ended as it must be
  pub marks : KeepsMarks (setting_of policy pid choices) wire.journal
  -- its rows, and what is promised of them
  pub log : RunRows (setting_of policy pid choices) choices.picks choices.replies wire.journal answer
  -- what the forwarder recorded, was asked and was handed
  pub forwarder : RunForwarder May Rest stands last.stands present policy pid choices before now
      wire.journal log.rows answer
  -- unless memory runs out, it ends right
  pub ends : answer ≢ OutOfMemory → EndsRight (setting_of policy pid choices) turns last.queue
      wire.journal refused answer

-- the same of a run of this forwarder, which has become another, over a wire of which this was seen
-- as it began, and that as it ended
abbrev pub RunKept : {T : Type 0} → Ended → Policy → ℕ → ℕ → (HouseReply → Type 0)
    → (T → HouseState) → T → T → Seen → Seen → Type 0
RunKept answer policy pid turns May state house house' seen seen' =
    IsRun May (RestsOf state (state house).known.present house).rests (state house).stands
    (state house') (state house).known.present policy pid turns (state house).recorded
    (state house').recorded seen.recorded seen' (refusal_after (state house) (state house')) answer
