-- A talk over a wire that records its marks: what stream 0 gave and accepted, and what it must have
-- accepted at each wait.
use Rattle.std.specs.Prelude.{◌≡◌, ◌≢◌, ◌⊎◌, ℕ, ◌==◌, Bool, true, false, ◌||◌, List, [], ◌∷◌, ◌++◌, flat_map, All, Option, Some, None}
use Rattle.std.specs.List.{list_any}
use Rattle.mux_outside.specs.Marks.{bytes_taken}
use Rattle.mux_outside.specs.declared.mark.Mark.{Mark}
use Rattle.mux_outside.specs.declared.mark.Mark.TheVariants.{Waits, Gets, Ends, Frees, Holds, House}
use Rattle.mux_outside.specs.declared.turn.Want.{Want}
use Rattle.mux_outside.specs.declared.turn.Want.TheVariants.{Read}
use Rattle.mux_client.specs.declared.asks.Asks.{Asks}
use Rattle.mux_client.specs.declared.talked.Talked.{Talked}
use Rattle.mux_client.specs.declared.talked.Talked.TheVariants.{Done, Refused, BadMaster, WriteFault, ServerFailed, Spent, OutOfMemory}
use Rattle.mux_client.specs.Talk.{Talk, talk, Finished, RefusedAt, BrokenAt}

-- ---- what the marks say of stream 0

-- the bytes that it gave
abbrev pub given_at : Mark → List ℕ
given_at (Gets t bytes) = elim (t == 0) [ true ↦ bytes | false ↦ [] ]
given_at _ = []

abbrev pub bytes_given : List Mark → List ℕ
bytes_given marks = flat_map given_at marks

-- whether it ended
abbrev pub talk_ends_at : Mark → Bool
talk_ends_at (Ends t) = t == 0
talk_ends_at _ = false

abbrev pub talk_has_ended : List Mark → Bool
talk_has_ended marks = list_any talk_ends_at marks

-- whether it accepts nothing for now: by the last mark that records so, or that it accepts again
abbrev pub held_by : Bool → Mark → Bool
held_by held (Holds t) = t == 0 || held
held_by held (Frees t) = elim (t == 0) [ true ↦ false | false ↦ held ]
held_by held _ = held

abbrev pub is_held_from : Bool → List Mark → Bool
is_held_from held [] = held
is_held_from held (mark ∷ marks) = is_held_from (held_by held mark) marks

abbrev pub is_reply_held : List Mark → Bool
is_reply_held marks = is_held_from false marks

-- whether it is a mark of a forwarder: where that listens and connects among them
abbrev pub is_of_house : Mark → Bool
is_of_house (House mark) = true
is_of_house _ = false

abbrev pub HasNoHouse : List Mark → Type 0
HasNoHouse marks = All (λ (mark : Mark). is_of_house mark ≡ false) marks

-- ---- the talk of a journal

abbrev pub talk_of : Asks → List Mark → Talk
talk_of asks marks = talk asks (bytes_given marks) (talk_has_ended marks)

-- what it accepted is a front of what is sent
pub record TookFront (asks : Asks) (marks : List Mark) : Type 0 where
  pub rest : List ℕ
  pub whole : (talk_of asks marks).sent ≡ bytes_taken 0 marks ++ rest

-- it accepted all of it
abbrev pub TookAll : Asks → List Mark → Type 0
TookAll asks marks = bytes_taken 0 marks ≡ (talk_of asks marks).sent

-- at one mark: at a wait all was accepted that is sent for the bytes read so far, or stream 0 is
-- blocked
abbrev pub TalkWaitsRight : Asks → List Mark → Mark → Type 0
TalkWaitsRight asks before (Waits waiting want streams shown) =
    TookAll asks before ⊎ (is_reply_held before ≡ true)
TalkWaitsRight asks before _ = Unit {0}

-- at each mark after some others
abbrev pub ThroughoutTalk : Asks → List Mark → List Mark → Type 0
ThroughoutTalk asks before [] = Unit {0}
ThroughoutTalk asks before (mark ∷ marks) =
    TalkWaitsRight asks before mark × TookFront asks (before ++ mark ∷ [])
    × ThroughoutTalk asks (before ++ mark ∷ []) marks

-- at each mark, after some others
abbrev pub AtEachMark : (List Mark → Mark → Type 0) → List Mark → List Mark → Type 0
AtEachMark P before [] = Unit {0}
AtEachMark P before (mark ∷ marks) = P before mark × AtEachMark P (before ++ mark ∷ []) marks

-- ---- how it ended

-- this answer is that of the talk: the last reply came and all was accepted, a refusal, or a
-- breach; with any other answer the talk has no outcome, or not all was accepted
abbrev pub IsAnswerOfTalk : Talked → Asks → List Mark → Type 0
IsAnswerOfTalk Done asks marks = ((talk_of asks marks).outcome ≡ Some Finished) × TookAll asks marks
IsAnswerOfTalk (Refused id) asks marks = (talk_of asks marks).outcome ≡ Some (RefusedAt id)
IsAnswerOfTalk (BadMaster at) asks marks = (talk_of asks marks).outcome ≡ Some (BrokenAt at)
IsAnswerOfTalk Spent asks marks = ((talk_of asks marks).outcome ≡ None)
    ⊎ (((talk_of asks marks).outcome ≡ Some Finished) × (TookAll asks marks → ⊥))
IsAnswerOfTalk WriteFault asks marks = Unit {0}
IsAnswerOfTalk ServerFailed asks marks = Unit {0}
IsAnswerOfTalk OutOfMemory asks marks = Unit {0}

-- the streams that accept no bytes for now: stream 0, or none
abbrev pub held_streams : Bool → List ℕ
held_streams true = 0 ∷ []
held_streams false = []

-- a call of wait after these marks: it reads, and waits for stream 0 where that is blocked; and a
-- talk that is over waits no more, so it has no outcome yet, or not all was accepted
pub record IsOpenWait (asks : Asks) (before : List Mark) (waiting : List ℕ) (want : Want) : Type 0
  where
    pub opens : IsAnswerOfTalk Spent asks before
    pub reads : want ≡ Read
    pub waits_for : waiting ≡ held_streams (is_reply_held before)

abbrev pub WaitOpen : Asks → List Mark → Mark → Type 0
WaitOpen asks before (Waits waiting want streams shown) = IsOpenWait asks before waiting want
WaitOpen asks before _ = Unit {0}

-- a front of what is shown, and all of it, except at a fault of the sink and if memory runs out
pub record ShowsFront (shown out : List ℕ) : Type 0 where
  pub rest : List ℕ
  pub whole : out ≡ shown ++ rest

abbrev pub TalkShows : Talked → List ℕ → List ℕ → Type 0
TalkShows WriteFault shown out = ShowsFront shown out
TalkShows OutOfMemory shown out = ShowsFront shown out
TalkShows _ shown out = shown ≡ out

-- a whole talk, if the wire records: the marks and the bytes of the sink before it and after it
pub record Talks (asks : Asks) (answer : Talked) (old new : List Mark) : Type 0 where
  pub marks : List Mark
  pub added : new ≡ old ++ marks
  pub throughout : ThroughoutTalk asks [] marks
  -- it waits only where a reply is due, or bytes that stream 0 doesn't accept
  pub opens : AtEachMark (WaitOpen asks) [] marks
  -- it listens nowhere, and connects nowhere else
  pub no_house : HasNoHouse marks
  pub answers : IsAnswerOfTalk answer asks marks
  -- with its turns spent all was accepted that is sent by then, or stream 0 is blocked
  pub offered : answer ≡ Spent → marks ≢ [] → TookAll asks marks ⊎ (is_reply_held marks ≡ true)

abbrev pub TalksRecorded : Asks → Talked → Option (List Mark) → Option (List Mark) → Type 0
TalksRecorded asks answer (Some old) (Some new) = Talks asks answer old new
TalksRecorded asks answer None None = Unit {0}
TalksRecorded asks answer _ _ = ⊥

-- the same of the sink, if both record
pub record ShowsTalk (asks : Asks) (answer : Talked) (old new : List Mark) (before now : List ℕ)
    : Type 0 where
  pub marks : List Mark
  pub shown : List ℕ
  pub added : new ≡ old ++ marks
  pub put : now ≡ before ++ shown
  pub shows : TalkShows answer shown (talk_of asks marks).out

abbrev pub ShowsRecorded : Asks → Talked → Option (List Mark) → Option (List Mark)
    → Option (List ℕ) → Option (List ℕ) → Type 0
ShowsRecorded asks answer (Some old) (Some new) (Some before) (Some now) =
    ShowsTalk asks answer old new before now
ShowsRecorded asks answer _ _ _ _ = Unit {0}
