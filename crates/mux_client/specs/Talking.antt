-- What holds between a client, its wire and its sink while it talks, and once the talk is over.
use Rattle.std.specs.Prelude.{◌≡◌, ◌≢◌, ◌<◌, ◌⊎◌, ℕ, Bool, true, false, length, ⊤, List, [], ◌∷◌, ◌++◌, Option, Some, None, Result, Ok, Err}
use Rattle.std.specs.Option.{option_map}
use Rattle.mux_outside.specs.Marks.{bytes_taken}
use Rattle.mux_outside.specs.Seen.{Seen}
use Rattle.mux_outside.specs.WireState.{WireState}
use Rattle.mux_outside.specs.declared.mark.Mark.{Mark}
use Rattle.mux_client.specs.declared.asks.Asks.{Asks}
use Rattle.mux_client.specs.declared.stage.TalkStage.{TalkStage}
use Rattle.mux_client.specs.declared.stage.TalkStage.TheVariants as stage
use Rattle.mux_client.specs.declared.talked.Talked.{Talked}
use Rattle.mux_client.specs.declared.talked.Talked.TheVariants.{Done, Refused, BadMaster, WriteFault, ServerFailed, Spent, OutOfMemory}
use Rattle.mux_client.specs.Journal.{bytes_given, talk_has_ended, is_reply_held, held_streams, talk_of, TookAll, ThroughoutTalk, WaitOpen, AtEachMark, HasNoHouse, IsAnswerOfTalk, TalkShows, ShowsFront, ShowsRecorded, TalksRecorded}
use Rattle.mux_client.specs.Client.{TalkState, IsTalkSettled, TalkRepresents, awaited_place}

-- ---- the wire

-- stream 0 alone is open, no client is accepted, and no listener is open
pub record TransportIsAlone (seen : Seen) : Type 0 where
  pub streams : seen.streams ≡ 0 ∷ []
  pub listens : seen.listens ≡ false
  pub listeners : seen.listeners ≡ []
  pub own : seen.own ≡ []

-- no client came, and no stream of the master's own
pub record AcceptsNone (old new : Seen) : Type 0 where
  pub streams : new.streams ≡ old.streams
  pub listens : new.listens ≡ old.listens
  pub last : new.last ≡ old.last
  pub listeners : new.listeners ≡ old.listeners
  pub own : new.own ≡ old.own

-- where stream 0 accepts no bytes for now it is one of these, and else none is
abbrev pub IsHeld : List ℕ → Type 0
IsHeld held = (held ≡ []) ⊎ (held ≡ 0 ∷ [])

-- right after `join`: stream 0 alone is open, and it accepts bytes
pub record IsTransportJoined (seen : Seen) : Type 0 where
  pub alone : TransportIsAlone seen
  pub none_blocked : seen.blocked ≡ []

-- it stays the same wire: no client came, and it was neither opened nor joined
pub record SameWire (old new : WireState) : Type 0 where
  pub none_accepted : AcceptsNone old.seen new.seen
  pub openings : new.openings ≡ old.openings
  pub joinings : new.joinings ≡ old.joinings

-- ---- how far a talk is

-- between two turns: all frames that came were read, and it is known whether stream 0 is blocked
pub record IsBetween (s : TalkState) (held : List ℕ) (seen : Seen) : Type 0 where
  pub settled : IsTalkSettled s
  pub blocked : seen.blocked ≡ held
  pub is_reply_held : IsHeld held

-- the talk isn't over: a reply is awaited, or not all was accepted
abbrev pub IsGoing : TalkStage → List ℕ → Type 0
IsGoing stage.Greets queue = ⊤
IsGoing (stage.Asks id at) queue = ⊤
IsGoing stage.Granted queue = queue ≢ []
IsGoing (stage.Refused id) queue = ⊥
IsGoing (stage.Broken at) queue = ⊥

-- it is over with this answer
abbrev pub IsAnswerAt : Talked → TalkStage → List ℕ → Type 0
IsAnswerAt Done at queue = (at ≡ stage.Granted) × (queue ≡ [])
IsAnswerAt (Refused id) at queue = at ≡ stage.Refused id
IsAnswerAt (BadMaster n) at queue = at ≡ stage.Broken n
IsAnswerAt WriteFault at queue = ⊥
IsAnswerAt ServerFailed at queue = ⊥
IsAnswerAt Spent at queue = ⊥
IsAnswerAt OutOfMemory at queue = ⊥

abbrev pub IsTalkDecided : TalkState → Result (Unit {0}) Talked → Type 0
IsTalkDecided s (Ok x) = IsGoing s.stage s.queue
IsTalkDecided s (Err answer) = IsAnswerAt answer s.stage s.queue

-- where the master's bytes end a talk breaks off at the place of the reply that is awaited
abbrev pub BreaksOff : TalkState → Result (Unit {0}) Talked → Type 0
BreaksOff s (Ok x) = awaited_place s.stage ≡ None
BreaksOff s (Err answer) = (at : ℕ) × (awaited_place s.stage ≡ Some at) × (answer ≡ BadMaster at)

-- all was accepted that is to be sent, or stream 0 accepts no more for now
abbrev pub IsTalkOffered : List ℕ → TalkState → Type 0
IsTalkOffered held s = (s.queue ≡ []) ⊎ (held ≡ 0 ∷ [])

-- some of it was accepted, and stream 0 accepts more; or it was offered
abbrev pub TalkTookOrOffered : Bool → List ℕ → TalkState → TalkState → Type 0
TalkTookOrOffered true held old new = (held ≡ []) × (length new.queue < length old.queue)
TalkTookOrOffered false held old new = IsTalkOffered held new

-- an answer that writes to the wire give, and one that the sink gives
abbrev pub IsOfTransport : Talked → Type 0
IsOfTransport ServerFailed = ⊤
IsOfTransport OutOfMemory = ⊤
IsOfTransport Done = ⊥
IsOfTransport (Refused id) = ⊥
IsOfTransport (BadMaster at) = ⊥
IsOfTransport WriteFault = ⊥
IsOfTransport Spent = ⊥

abbrev pub IsOfSink : Talked → Type 0
IsOfSink WriteFault = ⊤
IsOfSink OutOfMemory = ⊤
IsOfSink Done = ⊥
IsOfSink (Refused id) = ⊥
IsOfSink (BadMaster at) = ⊥
IsOfSink ServerFailed = ⊥
IsOfSink Spent = ⊥

-- ---- the marks

-- the wire recorded these marks more
abbrev pub TalkRecords : Option (List Mark) → Option (List Mark) → List Mark → Type 0
TalkRecords start recorded marks = recorded ≡ option_map (λ m. m ++ marks) start

-- the marks so far are those of a talk
pub record IsJournal (asks : Asks) (marks : List Mark) : Type 0 where
  pub throughout : ThroughoutTalk asks [] marks
  pub opens : AtEachMark (WaitOpen asks) [] marks
  pub no_house : HasNoHouse marks

-- the client represents what the wire recorded since the start, and what was shown
pub record Talking (asks : Asks) (start recorded : Option (List Mark)) (held shown : List ℕ)
    (s : TalkState) : Type 0 where
  pub marks : List Mark
  pub records : TalkRecords start recorded marks
  pub journal : IsJournal asks marks
  pub stands : TalkRepresents asks (bytes_given marks) (bytes_taken 0 marks) shown s
  pub ended : talk_has_ended marks ≡ true → awaited_place s.stage ≡ None
  pub held_is : held ≡ held_streams (is_reply_held marks)

-- a talk that is over: these bytes were shown, and these were to be shown until then; a fault of
-- the sink comes at a line; and with its turns spent the master accepted all that is sent by then,
-- or accepts no more for now
pub record IsTalk (asks : Asks) (answer : Talked) (start recorded : Option (List Mark))
    (shown due : List ℕ) : Type 0 where
  pub marks : List Mark
  pub records : TalkRecords start recorded marks
  pub journal : IsJournal asks marks
  pub answers : IsAnswerOfTalk answer asks marks
  pub shows : TalkShows answer shown (talk_of asks marks).out
  pub due_front : ShowsFront due (talk_of asks marks).out
  pub fault : answer ≡ WriteFault → due ≢ []
  pub offered : answer ≡ Spent → marks ≢ [] → TookAll asks marks ⊎ (is_reply_held marks ≡ true)

-- it goes on, or is over with an answer
abbrev pub TalksOn : {A : Type 0} → Result A Talked → (A → Type 0) → (Talked → Type 0) → Type 0
TalksOn (Ok x) On Over = On x
TalksOn (Err answer) On Over = Over answer

-- ---- the sink

-- it accepted these bytes more, and where there are none it wasn't called
pub record ShowsOn {V : Type 0} (before now : Option (List ℕ)) (old new : V)
    (Holds : List ℕ → Type 0) : Type 0 where
  pub more : List ℕ
  pub put : now ≡ option_map (λ b. b ++ more) before
  pub quiet : more ≡ [] → new ≡ old
  pub holds : Holds more

-- it accepted these bytes more of those that were to be shown, and where there are none of these it
-- wasn't called
pub record ShowsLast {V : Type 0} (before now : Option (List ℕ)) (old new : V)
    (Holds : List ℕ → List ℕ → Type 0) : Type 0 where
  pub more : List ℕ
  pub due : List ℕ
  pub put : now ≡ option_map (λ b. b ++ more) before
  pub quiet : due ≡ [] → new ≡ old
  pub holds : Holds more due

-- a line that wasn't shown whole: for a fault of the sink a front of it, which has some bytes, and
-- else nothing of it
abbrev pub IsCutLine : Talked → List ℕ → List ℕ → List ℕ → Type 0
IsCutLine WriteFault line more due = (due ≡ line) × (due ≢ []) × ShowsFront more line
IsCutLine OutOfMemory line more due = (due ≡ line) × (more ≡ [])
IsCutLine Done line more due = ⊥
IsCutLine (Refused id) line more due = ⊥
IsCutLine (BadMaster at) line more due = ⊥
IsCutLine ServerFailed line more due = ⊥
IsCutLine Spent line more due = ⊥

-- a whole talk
abbrev pub WholeTalk : {V : Type 0} → Asks → Talked → Option (List Mark) → Option (List Mark)
    → Option (List ℕ) → Option (List ℕ) → V → V → Type 0
WholeTalk asks answer start recorded before now old new =
    ShowsLast before now old new (λ shown due. IsTalk asks answer start recorded shown due)

-- how a talk ended whose turns were spent, if it wasn't over before
abbrev pub talked_of : Result (Unit {0}) Talked → Talked
talked_of (Ok x) = Spent
talked_of (Err answer) = answer

-- the same, and what follows from it if the wire records, and the sink
pub record HasTalked {V : Type 0} (asks : Asks) (answer : Talked) (start recorded : Option (List Mark))
    (before now : Option (List ℕ)) (old new : V) : Type 0 where
  pub whole : WholeTalk asks answer start recorded before now old new
  pub talks : TalksRecorded asks answer start recorded
  pub shows : ShowsRecorded asks answer start recorded before now
