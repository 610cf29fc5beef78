-- What holds between an engine and its wire while it is served.
use Rattle.std.specs.Prelude.{◌≡◌, ◌≢◌, ◌≤◌, ◌<◌, ◌+◌, ◌⊎◌, ◌||◌, ◌==◌, ℕ, Bool, true, false, List, [], ◌∷◌, ◌++◌, length, IsTrue, All, Option, Some, None, Result, MatchResult}
use Rattle.mux_outside.specs.Counts.{Rose}
use Rattle.mux_outside.specs.Faults.{Faults}
use Rattle.mux_outside.specs.House.{HouseState, OpenAsk}
use Rattle.mux_outside.specs.HouseCalls.{HandsOn, HouseCall, calls_of}
use Rattle.mux_outside.specs.OwnStreams.{is_own}
use Rattle.mux_outside.specs.Seen.{Seen}
use Rattle.mux_outside.specs.Streams.{among, without}
use Rattle.mux_outside.specs.WireState.{WireState}
use Rattle.mux_outside.specs.declared.house.HouseReply.{HouseReply}
use Rattle.mux_outside.specs.declared.house_mark.HouseMark.{HouseMark}
use Rattle.mux_outside.specs.declared.mark.Mark.{Mark}
use Rattle.mux_outside.specs.declared.own_streams.TheConstants.{LAST_CLIENT}
use Rattle.mux_history.specs.declared.ended.Ended.{Ended}
use Rattle.mux_history.specs.declared.ended.Ended.TheVariants.{ServerFailed}
use Rattle.mux_history.specs.declared.limits.TheConstants.{HOUSE}
use Rattle.mux_history.specs.Policy.{Policy}
use Rattle.mux_history.specs.Rows.{Row, rows_of, is_out}
use Rattle.mux_history.specs.Choices.{numbers_taken, replies_given}
use Rattle.mux_history.specs.Log.{Setting}
use Rattle.mux_history.specs.Settings.{by_lists}
use Rattle.mux_history.specs.Right.{AreFresh}
use Rattle.mux_history.specs.Journal.{Records, is_accepted, is_blocked, is_own_stream, log_of_journal}
use Rattle.mux_history.specs.Promises.{IsSettled, MayGive, has_failed, not_own, turns_in, write_failed}
use Rattle.mux_history.specs.Wires.{OfWire}
use Rattle.mux_bounds.specs.Bounds.{IsLog}
use Rattle.mux_peers.specs.Asked.{asks_of_rows, RecordsAsks}
use Rattle.mux_state.specs.State.{EngineState, is_here, queue_in}
use Rattle.mux_state.specs.Events.{here}
use Rattle.mux_state.specs.Stands.{RepresentsSoFar}
use Rattle.mux_engine.specs.Answers.{opens_after}
use Rattle.mux_engine.specs.Called.{Handed, calls_in}
use Rattle.mux_engine.specs.Places.{HasPlaces, KeepsOwn}
use Rattle.mux_engine.specs.Rests.{refusal_after}
use Rattle.mux_engine.specs.Run.{AsksOn, IsOfWire, IsRun, KeepsMarks, Rested, is_by_house}
use Rattle.mux_engine.specs.Sides.{Resting, RestsOf, Side, Together, ask_marks_in, house_marks, all_marks_noted, outside}
use Rattle.mux_engine.specs.SilentAnswers.{AcceptsAs}
use Rattle.mux_engine.specs.declared.room.Lists.{Lists}

-- a stream that is open: the server's, and that of a client that is here
abbrev pub is_stream_open : EngineState → ℕ → Bool
is_stream_open s t = (t == 0) || is_here s t

-- a stream that is open and is none of the forwarder
pub record CanBeOffered (stream : ℕ) (s : EngineState) : Type 0 where
  pub opened : is_stream_open s stream ≡ true
  pub no_house : stream ≢ HOUSE

-- all that was promised so far: while the run goes on, a client to whose stream a write failed is
-- out; and the streams that are not in `todo` were offered what waits for them. No row records
-- anything of the master's own streams
pub record IsRunSound (setting : Setting) (journal : List Mark) (todo : List ℕ) (s : EngineState) :
    Type 0 where
  pub kept : KeepsMarks setting journal
  pub failed_out : (t : ℕ) → is_own_stream t ≡ false → write_failed t journal ≡ true
      → s.ended ≡ None → is_out (rows_of t (log_of_journal setting journal)) ≡ true
  pub settled : (t : ℕ) → is_own_stream t ≡ false → among t todo ≡ false
      → IsSettled setting journal t

-- a client that did not come yet
pub record IsUnseen (journal : List Mark) (blocked : List ℕ) (k : ℕ) : Type 0 where
  pub not_accepted : is_accepted k journal ≡ false
  pub never_blocked : is_blocked k journal ≡ false
  pub not_blocked : among k blocked ≡ false

-- the number of none of the wire's streams so far
pub record IsUnused (journal : List Mark) (seen : Seen) (k : ℕ) : Type 0 where
  pub not_open : among k seen.streams ≡ false
  pub never_blocked : is_blocked k journal ≡ false
  pub not_blocked : among k seen.blocked ≡ false
  pub never_failed : has_failed k journal ≡ false

-- such a number is one that is still to be given to a stream of the master's own, and that of the
-- forwarder
abbrev pub IsFreeForOwn : ℕ → ℕ → Type 0
IsFreeForOwn last k = (IsTrue (is_own k) × (last < k)) ⊎ (k ≡ HOUSE)

-- The engine represents what the wire recorded since the start, in which `given` turns were given.
-- It does so with the numbers that were picked, and the replies that the forwarder gave at once,
-- one to each request that was reported to it since it recorded `before`. All that the forwarder
-- recorded since is there except its last requests. One that was admitted is present; if none is,
-- the journal has nothing of a forwarder but the requests of clients. The journal is one that a
-- wire can give. The streams that are open are the server's, those of the clients that are here and
-- the master's own. Whatever is picked and replied later, all is sound. The calls of the forwarder
-- since are those of the journal and of what is not noted yet. The master's own listeners and
-- streams are those that the journal leaves open.
pub record Serving (May : HouseReply → Type 0) (Rest : Resting)
    (before : Option (List HouseMark)) (now : Side) (policy : Policy) (pid : ℕ)
    (start : Option (List Mark)) (seen : Seen) (held failed : List ℕ) (given : ℕ)
    (todo : List ℕ) (s : EngineState) : Type 0 where
  pub journal : List Mark
  pub closed : List ℕ
  pub picked : List ℕ
  pub replies : List HouseReply
  pub policy_is : s.core.policy ≡ policy
  pub pid_is : s.pid ≡ pid
  pub may : MayGive May replies
  pub stands : RepresentsSoFar picked replies s journal closed
  pub house : RecordsAsks before now.recorded (house_marks journal ++ now.unnoted)
  pub asked : ask_marks_in (house_marks journal ++ now.unnoted) ≡ stands.asks
  pub called : (picks : List ℕ) (given_later : List HouseReply)
      → calls_in (by_lists policy pid (picked ++ picks) (replies ++ given_later)) journal
      ++ calls_of now.unnoted ≡ now.calls
  pub askers : All (λ (a : OpenAsk). IsTrue (is_accepted a.client journal)) now.asks
  pub opens : now.asks ≡ opens_after (house_marks journal ++ now.unnoted) []
  pub house_in : is_accepted HOUSE journal ≡ now.let_in
  pub house_there : now.let_in ≡ true → Rest.present ≡ true
  pub rested : (picks : List ℕ) (given_later : List HouseReply)
      → Rested Rest.rests (by_lists policy pid (picked ++ picks) (replies ++ given_later)) before
      journal
  pub absent : Rest.present ≡ false → All (λ (mark : Mark). is_by_house mark ≡ false) journal
  pub records : Records start seen.recorded journal
  pub of_wire : OfWire seen.streams seen.blocked seen.last journal
  pub places : HasPlaces seen journal
  pub own_streams : KeepsOwn journal
  pub turns : turns_in journal ≡ given
  pub open_are : not_own seen.streams ≡ 0 ∷ not_own (here s)
  pub apart : (k : ℕ) → among k (here s) ≡ true → is_own_stream k ≡ false
  pub held_is : held ≡ seen.blocked
  pub blocked_is : (t : ℕ) → among t seen.streams ≡ true
      → among t seen.blocked ≡ is_blocked t journal
  pub unseen : (k : ℕ) → seen.last < k → k ≤ LAST_CLIENT → IsUnseen journal seen.blocked k
  pub unused : (k : ℕ) → IsFreeForOwn seen.last_own k → IsUnused journal seen k
  pub failed_are : (t : ℕ) → IsTrue (is_own t) → among t seen.streams ≡ true
      → has_failed t journal ≡ true → among t failed ≡ true
  pub failed_did : (t : ℕ) → among t failed ≡ true → has_failed t journal ≡ true
  pub receives : s.ended ≡ None → s.listening ≡ true → seen.listens ≡ true
  pub sound : (picks : List ℕ) (given_later : List HouseReply)
      → IsRunSound (by_lists policy pid (picked ++ picks) (replies ++ given_later)) journal todo s

-- ---- what is so between two calls

-- the streams and the engine of a run: what is seen of the wire, which streams are blocked, and which
-- of the master's own failed
pub record Scene : Type 0 where
  pub seen : Seen
  pub held : List ℕ
  pub failed : List ℕ
  pub engine : EngineState

abbrev pub scene_of : WireState → List ℕ → List ℕ → EngineState → Scene
scene_of wire held failed engine =
    record { seen = wire.seen; held = held; failed = failed; engine = engine }

abbrev pub scene : WireState → Lists → EngineState → Scene
scene wire lists engine = scene_of wire lists.held lists.failed engine

-- a run was served so far, whatever came before, and whichever streams are to be offered what waits
-- for them
pub record IsRunServed {T : Type 0} (May : HouseReply → Type 0) (state : T → HouseState) (seen : Seen)
    (held : List ℕ) (s : EngineState) : Type 0 where
  pub present : Bool
  pub first : T
  pub before : Option (List HouseMark)
  pub now : Side
  pub policy : Policy
  pub pid : ℕ
  pub start : Option (List Mark)
  pub failed : List ℕ
  pub given : ℕ
  pub todo : List ℕ
  pub serving : Serving May (RestsOf state present first) before now policy pid start seen held
      failed given todo s

-- the same with this forwarder, of which this is noted
pub record ServedAs {T : Type 0} (noted_of : HouseState → List HouseCall → Side)
    (May : HouseReply → Type 0) (state : T → HouseState) (house : T) (now : Scene) (todo : List ℕ) :
    Type 0 where
  pub first : T
  pub calls : List HouseCall
  pub hands : HandsOn (state first).stands (state house).stands calls
  pub before : Option (List HouseMark)
  pub policy : Policy
  pub pid : ℕ
  pub start : Option (List Mark)
  pub given : ℕ
  pub serving : Serving May (RestsOf state (state house).known.present first) before
      (noted_of (state house) calls) policy pid start now.seen now.held now.failed given todo
      now.engine

-- all of it is noted, and it is admitted where it is present
abbrev pub ServedWith : {T : Type 0} → (HouseReply → Type 0) → (T → HouseState) → T → Scene
    → List ℕ → Type 0
ServedWith May state house now todo =
    ServedAs (λ house calls. all_marks_noted house.recorded house.known calls) May state house now todo

-- a run goes on with this forwarder: it was served so far, and the server's stream and those of the
-- clients that are here are to be offered what waits for them
pub record IsOngoing {T : Type 0} (May : HouseReply → Type 0) (state : T → HouseState) (house : T)
    (wire : WireState) (lists : Lists) (s : EngineState) : Type 0 where
  pub served : ServedWith May state house (scene wire lists s) (0 ∷ here s)
  pub together : Together (state house) wire lists
  pub on : s.ended ≡ None

-- it was not admitted yet
abbrev pub ServedOutside : {T : Type 0} → (HouseReply → Type 0) → (T → HouseState) → T → Scene
    → List ℕ → Type 0
ServedOutside May state house now todo =
    ServedAs (λ house calls. outside house.recorded house.known calls) May state house now todo

-- ---- out of memory

-- rows that were left of the journal: so many used a number, and they request this
pub record IsLeft (setting : Setting) (journal : List Mark) (taken : ℕ) (asks : List HouseMark) :
    Type 0 where
  pub kept : KeepsMarks setting journal
  pub rows : List Row
  pub is_log : IsLog setting journal rows
  pub fresh : AreFresh rows
  pub taken_is : numbers_taken rows ≡ taken
  pub given_is : replies_given rows ≡ length asks
  pub asked_is : asks_of_rows rows ≡ asks

-- what is left of it if memory runs out: the forwarder may have recorded the first of the requests
-- that follow
pub record Promised (May : HouseReply → Type 0) (Rest : Resting)
    (before now : Option (List HouseMark)) (policy : Policy) (pid : ℕ)
    (start recorded : Option (List Mark)) (given : ℕ) : Type 0 where
  pub journal : List Mark
  pub picked : List ℕ
  pub replies : List HouseReply
  pub asks : List HouseMark
  pub more : List HouseMark
  pub more_asks : List HouseMark
  pub may : MayGive May replies
  pub each : length asks ≡ length replies
  pub house : RecordsAsks before now (house_marks journal ++ more)
  pub asked : ask_marks_in (house_marks journal ++ more) ≡ asks ++ more_asks
  pub asks_on : AsksOn May policy pid picked replies journal asks more_asks
  pub rested : (picks : List ℕ) (given_later : List HouseReply)
      → Rested Rest.rests (by_lists policy pid (picked ++ picks) (replies ++ given_later)) before
      journal
  pub absent : Rest.present ≡ false → All (λ (mark : Mark). is_by_house mark ≡ false) journal
  pub records : Records start recorded journal
  pub of_wire : IsOfWire journal
  pub own_streams : KeepsOwn journal
  pub turns : turns_in journal ≤ given
  pub left : (picks : List ℕ) (given_later : List HouseReply)
      → IsLeft (by_lists policy pid (picked ++ picks) (replies ++ given_later)) journal
      (length picked) asks

-- ---- going on

-- whatever came before: a run that was served with `todo` still to be offered is served on with
-- `rest`, or what was promised is left. The forwarder is not called meanwhile
abbrev pub ServesOn :
    {A E T : Type 0} → Result A E → (HouseReply → Type 0) → (T → HouseState) → Seen → Seen
    → List ℕ → List ℕ → List ℕ → (A → List ℕ) → EngineState → EngineState → Type 0
ServesOn {T = T} result May state seen seen' held held' todo rest s s' =
    (present : Bool) (first : T) (before : Option (List HouseMark)) (now : Side)
    (policy : Policy) (pid : ℕ) (start : Option (List Mark)) (failed : List ℕ) (given : ℕ)
    → Serving May (RestsOf state present first) before now policy pid start seen held failed given
    todo s
    → MatchResult result
    (λ x. Serving May (RestsOf state present first) before now policy pid start seen' held' failed
    given (rest x) s')
    (λ e. Promised May (RestsOf state present first) before now.recorded policy pid start seen'.recorded
    given)

-- the server's stream and those of the clients were to be offered what waits for them, and more
-- streams perhaps
abbrev pub OffersOn : {A E T : Type 0} → Result A E → (HouseReply → Type 0) → (T → HouseState) → Seen
    → Seen → List ℕ → List ℕ → EngineState → EngineState → (List ℕ → List ℕ) → Type 0
OffersOn result May state seen seen' held held' s s' rest =
    (left : List ℕ)
    → ServesOn result May state seen seen' held held' (0 ∷ (without HOUSE (here s) ++ left))
    (λ x. rest left) s s'

-- whatever came before, whatever is noted, and whichever streams are still to be offered what waits
-- for them: a run that was served is served on
abbrev pub StaysServed : {T : Type 0} → (HouseReply → Type 0) → (T → HouseState) → Seen → Seen
    → List ℕ → List ℕ → EngineState → EngineState → Type 0
StaysServed {T = T} May state seen seen' held held' s s' =
    (present : Bool) (first : T) (before : Option (List HouseMark)) (now : Side)
    (policy : Policy) (pid : ℕ) (start : Option (List Mark)) (failed : List ℕ) (given : ℕ)
    (todo : List ℕ)
    → Serving May (RestsOf state present first) before now policy pid start seen held failed given
    todo s
    → Serving May (RestsOf state present first) before now policy pid start seen' held' failed
    given todo s'

-- the same where streams of the master's own are offered what waits for them, and the forwarder,
-- all of which was noted, is handed what they accept and which of them fail
abbrev pub OwnOn :
    {A E T : Type 0} → Result A E → (HouseReply → Type 0) → (T → HouseState) → T → T → Seen → Seen
    → List ℕ → List ℕ → List ℕ → List ℕ → Type 0
OwnOn {T = T} result May state house house' seen seen' held held' failed failed' =
    (present : Bool) (first : T) (before : Option (List HouseMark)) (now : Side)
    (policy : Policy) (pid : ℕ) (start : Option (List Mark)) (given : ℕ) (todo : List ℕ)
    (s : EngineState) → AcceptsAs seen s → now.unnoted ≡ []
    → HandsOn (state first).stands (state house).stands now.calls
    → Serving May (RestsOf state present first) before now policy pid start seen held failed given
    todo s
    → MatchResult result
    (λ x. Handed (state first).stands (state house').stands (λ calls.
    Serving May (RestsOf state present first) before (record now { calls = calls }) policy pid start
    seen' held' failed' given todo s))
    (λ e. Promised May (RestsOf state present first) before now.recorded policy pid start seen'.recorded
    given)

-- the same where the forwarder, of which this is noted before and all after, is called: with so
-- many turns more, or with so many at most
abbrev pub RunsFrom :
    {A E T : Type 0} → Result A E → (List HouseCall → Side) → (HouseReply → Type 0)
    → (T → HouseState) → T → T → Scene → Scene → ℕ → (A → ℕ) → List ℕ → (A → List ℕ) → Type 0
RunsFrom {T = T} result now May state house house' old new most more todo rest =
    (first : T) (calls : List HouseCall) (before : Option (List HouseMark)) (policy : Policy)
    (pid : ℕ) (start : Option (List Mark)) (given : ℕ)
    → HandsOn (state first).stands (state house).stands calls
    → Serving May (RestsOf state (state house).known.present first) before (now calls) policy pid
    start old.seen old.held old.failed given todo old.engine
    → MatchResult result
    (λ x. Handed (state first).stands (state house').stands (λ all.
    Serving May (RestsOf state (state house).known.present first) before
    (all_marks_noted (state house').recorded (state house').known all) policy pid start new.seen new.held
    new.failed (given + more x) (rest x) new.engine))
    (λ e. Promised May (RestsOf state (state house).known.present first) before (state house').recorded
    policy pid start new.seen.recorded (given + most))

-- the same where all of it was noted before
abbrev pub RunsOn :
    {A E T : Type 0} → Result A E → (HouseReply → Type 0) → (T → HouseState) → T → T → Scene → Scene
    → ℕ → (A → ℕ) → List ℕ → (A → List ℕ) → Type 0
RunsOn result May state house house' old new most more todo rest =
    RunsFrom result (all_marks_noted (state house).recorded (state house).known) May state house house' old new
    most more todo rest

-- the streams that are to be offered what waits for them, unless all were
abbrev pub to_offer : Bool → EngineState → List ℕ
to_offer true s = []
to_offer false s = 0 ∷ here s

-- after a turn of the run, which was given; where the run doesn't go on perhaps none was
abbrev pub EndsTurn :
    Bool → ℕ → (HouseReply → Type 0) → Resting
    → Option (List HouseMark) → Side → Policy → ℕ → Option (List Mark) → Seen → List ℕ → List ℕ
    → List ℕ → EngineState → Type 0
EndsTurn on given May Rest before now policy pid start seen held failed todo s =
    Serving May Rest before now policy pid start seen held failed (given + 1) todo s
    ⊎ ((on ≡ false) × Serving May Rest before now policy pid start seen held failed given todo s)

-- after the turns of a run, which were all given unless it doesn't go on
pub record Spends (all : Bool) (turns : ℕ) (May : HouseReply → Type 0)
    (Rest : Resting) (before : Option (List HouseMark)) (now : Side)
    (policy : Policy) (pid : ℕ) (start : Option (List Mark)) (seen : Seen) (held failed : List ℕ)
    (todo : List ℕ) (s : EngineState) : Type 0 where
  pub given : ℕ
  pub most : given ≤ turns
  pub all_given : all ≡ true → given ≡ turns
  pub serving : Serving May Rest before now policy pid start seen held failed given todo s

-- a run whose forwarder, of which all was noted, is called for one turn
abbrev pub TurnsOn : {E T : Type 0} → Result Bool E → (HouseReply → Type 0) → (T → HouseState) → T
    → T → Scene → Scene → Bool → Type 0
TurnsOn {T = T} result May state house house' old new settled =
    (first : T) (calls : List HouseCall) (before : Option (List HouseMark)) (policy : Policy)
    (pid : ℕ) (start : Option (List Mark)) (given : ℕ)
    → HandsOn (state first).stands (state house).stands calls
    → Serving May (RestsOf state (state house).known.present first) before
    (all_marks_noted (state house).recorded (state house).known calls) policy pid start old.seen old.held
    old.failed given (0 ∷ here old.engine) old.engine
    → MatchResult result
    (λ on. Handed (state first).stands (state house').stands (λ all.
    EndsTurn on given May (RestsOf state (state house).known.present first) before
    (all_marks_noted (state house').recorded (state house').known all) policy pid start new.seen new.held
    new.failed (to_offer settled new.engine) new.engine))
    (λ e. Promised May (RestsOf state (state house).known.present first) before (state house').recorded
    policy pid start new.seen.recorded (given + 1))

-- the same for all turns of the run
abbrev pub SpendsTurns : {E T : Type 0} → Result Bool E → ℕ → (HouseReply → Type 0)
    → (T → HouseState) → T → T → Scene → Scene → Bool → Type 0
SpendsTurns {T = T} result turns May state house house' old new settled =
    (first : T) (calls : List HouseCall) (before : Option (List HouseMark)) (policy : Policy)
    (pid : ℕ) (start : Option (List Mark))
    → HandsOn (state first).stands (state house).stands calls
    → Serving May (RestsOf state (state house).known.present first) before
    (all_marks_noted (state house).recorded (state house).known calls) policy pid start old.seen old.held
    old.failed 0 (0 ∷ here old.engine) old.engine
    → MatchResult result
    (λ all. Handed (state first).stands (state house').stands (λ handed.
    Spends all turns May (RestsOf state (state house).known.present first) before
    (all_marks_noted (state house').recorded (state house').known handed) policy pid start new.seen new.held
    new.failed (to_offer settled new.engine) new.engine))
    (λ e. Promised May (RestsOf state (state house).known.present first) before (state house').recorded
    policy pid start new.seen.recorded turns)

-- ---- the beginning

-- before all else a forwarder that is present is admitted
abbrev pub LetsHouseIn : {A E T : Type 0} → Result A E → (HouseReply → Type 0) → (T → HouseState) → Seen
    → Seen → EngineState → EngineState → Type 0
LetsHouseIn {T = T} result May state seen seen' s s' =
    (present : Bool) (first : T) (before : Option (List HouseMark)) (now : Side) (policy : Policy)
    (pid : ℕ) (start : Option (List Mark)) (held failed : List ℕ) (given : ℕ)
    → (v : Serving May (RestsOf state present first) before now policy pid start seen held failed
    given (0 ∷ here s) s) → v.journal ≡ [] → present ≡ true
    → MatchResult result
    (λ x. Serving May (RestsOf state present first) before (record now { let_in = true }) policy
    pid start seen' held failed given (0 ∷ here s') s' × (s'.ended ≡ None))
    (λ e. Promised May (RestsOf state present first) before now.recorded policy pid start seen'.recorded
    given)

-- before all else this forwarder is admitted, where it is present
abbrev pub Enters : {A E T : Type 0} → Result A E → (HouseReply → Type 0) → (T → HouseState) → T
    → Seen → Seen → EngineState → EngineState → Type 0
Enters {T = T} result May state house seen seen' s s' =
    (first : T) (calls : List HouseCall) (before : Option (List HouseMark)) (policy : Policy)
    (pid : ℕ) (start : Option (List Mark)) (held failed : List ℕ) (given : ℕ)
    → (v : Serving May (RestsOf state (state house).known.present first) before
    (outside (state house).recorded (state house).known calls) policy pid start seen held failed given
    (0 ∷ here s) s) → v.journal ≡ []
    → MatchResult result
    (λ done. Serving May (RestsOf state (state house).known.present first) before
    (all_marks_noted (state house).recorded (state house).known calls) policy pid start seen' held failed given
    (0 ∷ here s') s' × (s'.ended ≡ None))
    (λ e. Promised May (RestsOf state (state house).known.present first) before (state house).recorded
    policy pid start seen'.recorded given)

-- a whole run that begins with this forwarder, of which nothing was noted
abbrev pub RunsWhole : {T : Type 0} → Ended → ℕ → (HouseReply → Type 0) → (T → HouseState) → T → T
    → Seen → Seen → EngineState → Type 0
RunsWhole answer turns May state house house' seen seen' s =
    (before : Option (List HouseMark)) (policy : Policy) (pid : ℕ) (start : Option (List Mark))
    → (v : Serving May (RestsOf state (state house).known.present house) before
    (outside (state house).recorded (state house).known []) policy pid start seen [] [] 0
    (0 ∷ here s) s) → v.journal ≡ []
    → IsRun May (RestsOf state (state house).known.present house).rests (state house).stands
    (state house') (state house).known.present policy pid turns before (state house').recorded
    start seen' (refusal_after (state house) (state house')) answer

-- ---- the end

-- it ended as before, or the server's stream failed, whose count rose
abbrev pub StaysOrFails : Option Ended → Option Ended → Faults → Faults → Type 0
StaysOrFails old new faults faults' = ((new ≡ old) × (faults.server ≤ faults'.server))
    ⊎ ((new ≡ Some ServerFailed) × Rose faults.server faults'.server)

-- a stream was offered what waits for it: those of the clients that are here stay, and only a failure
-- of the server's stream ended the run
pub record IsOfferedTo (stream : ℕ) (old new : EngineState) (faults faults' : Faults) : Type 0 where
  pub streams : here new ≡ here old
  pub ended : StaysOrFails old.ended new.ended faults faults'
  pub client : stream ≢ 0 → new.ended ≡ old.ended

-- less waits for it, and it is not blocked; and clients are accepted only as the engine does
pub record CanTakeMore (stream : ℕ) (old new : EngineState) (seen : Seen) : Type 0 where
  pub less : length (queue_in new stream) < length (queue_in old stream)
  pub free : among stream seen.blocked ≡ false
  pub silence : AcceptsAs seen new
