-- The calls of a wire and the faults that a talk counts.
use Rattle.std.specs.Prelude.{◌≡◌, ◌≢◌, ◌≤◌, ◌<◌, ◌+◌, ◌-◌, ◌^◌, ◌⊎◌, min, ℕ, Result, Ok, Err}
use Rattle.mux_outside.specs.Counts.{Rose, counted}
use Rattle.mux_outside.specs.CallCounts.{CallCounts}
use Rattle.mux_outside.specs.Faults.{Faults, ServerFault}
use Rattle.mux_client.specs.declared.stage.TalkStage.{TalkStage}
use Rattle.mux_client.specs.declared.talked.Talked.{Talked}
use Rattle.mux_client.specs.declared.talked.Talked.TheVariants.{Done, Refused, BadMaster, WriteFault, ServerFailed, Spent, OutOfMemory}

-- ---- calls

-- so many calls of `wait` were counted, whose count stays at the end of its type
pub record TalkWaited (waits old new : ℕ) : Type 0 where
  pub most : new ≤ old + waits
  pub least : min (old + waits) (2 ^ 64 - 1) ≤ new
  pub fits : old < 2 ^ 64 → new < 2 ^ 64

-- There were so many calls of `wait`, none that ran out of memory, and none after one that did. The
-- wire was not opened. The counts of what the master sent and of its end didn't fall, except for
-- one that was past the end of its type.
pub record CountsOfWholeTalk (waits : ℕ) (old new : CallCounts) : Type 0 where
  pub waited : TalkWaited waits old.waits new.waits
  pub wants : new.wants ≡ old.wants
  pub late : old.wants ≡ 0 → new.late ≡ old.late
  pub opens : new.opens ≡ old.opens
  pub server_pieces : min old.server_pieces (2 ^ 64 - 1) ≤ new.server_pieces
  pub server_ends : min old.server_ends (2 ^ 64 - 1) ≤ new.server_ends

-- so many calls of `wait`, and at most one call that ran out of memory, which was the last, and
-- after which the talk is over, out of memory
pub record CountsOfCutTalk (waits : ℕ) (answer : Talked) (old new : CallCounts) : Type 0 where
  pub waited : TalkWaited waits old.waits new.waits
  pub wants : new.wants ≤ old.wants + 1
  pub starved : new.wants ≢ old.wants → answer ≡ OutOfMemory
  pub late : old.wants ≡ 0 → new.late ≡ old.late
  pub opens : new.opens ≡ old.opens
  pub server_pieces : min old.server_pieces (2 ^ 64 - 1) ≤ new.server_pieces
  pub server_ends : min old.server_ends (2 ^ 64 - 1) ≤ new.server_ends

-- an answer cuts a call short
abbrev pub CountsOfTalk : {A : Type 0} → ℕ → Result A Talked → CallCounts → CallCounts → Type 0
CountsOfTalk waits (Ok x) old new = CountsOfWholeTalk waits old new
CountsOfTalk waits (Err answer) old new = CountsOfCutTalk waits answer old new

-- Of a whole talk: with its turns spent it made as many calls of `wait` as it has turns, and no
-- answer of the master, no fault of the sink comes without one. If a call ran out of memory it was
-- the last, and the talk ended out of memory. It opened nothing.
pub record TalkStops (turns : ℕ) (answer : Talked) (old new : CallCounts) : Type 0 where
  pub few : new.waits ≤ old.waits + turns
  pub spent : answer ≡ Spent → old.waits < 2 ^ 64 → new.waits ≡ min (old.waits + turns) (2 ^ 64 - 1)
  pub ends : answer ≢ Spent → answer ≢ OutOfMemory → answer ≢ ServerFailed
      → counted old.waits ≤ new.waits
  pub wants : new.wants ≤ old.wants + 1
  pub starved : new.wants ≢ old.wants → answer ≡ OutOfMemory
  pub late : old.wants ≡ 0 → new.late ≡ old.late
  pub opens : new.opens ≡ old.opens

-- ---- what came

-- a count went up, or stands at the end of its type
abbrev pub TalkCountWentUp : ℕ → ℕ → Type 0
TalkCountWentUp before now = counted before ≤ now

-- a piece of the master came where it granted or refused what was asked, or where a line couldn't be
-- shown; a piece or its end did where it broke the protocol
abbrev pub AnsweredBy : Talked → CallCounts → CallCounts → Type 0
AnsweredBy Done old new = TalkCountWentUp old.server_pieces new.server_pieces
AnsweredBy (Refused id) old new = TalkCountWentUp old.server_pieces new.server_pieces
AnsweredBy WriteFault old new = TalkCountWentUp old.server_pieces new.server_pieces
AnsweredBy (BadMaster at) old new =
    TalkCountWentUp old.server_pieces new.server_pieces ⊎ TalkCountWentUp old.server_ends new.server_ends
AnsweredBy answer old new = Unit {0}

-- the talk stands as it stood, or a piece of the master came
abbrev pub HasReceived : TalkStage → TalkStage → CallCounts → CallCounts → Type 0
HasReceived before now old new = (now ≡ before) ⊎ TalkCountWentUp old.server_pieces new.server_pieces

-- a call goes on, and the talk stands as it stood, or a piece of the master came; or it is over by
-- what came
abbrev pub CameTo : {A : Type 0} → Result A Talked → TalkStage → TalkStage → CallCounts → CallCounts → Type 0
CameTo (Ok x) before now old new = HasReceived before now old new
CameTo (Err answer) before now old new = AnsweredBy answer old new

-- ---- faults

-- the server's count rose where its stream failed, and with any other answer all stay
abbrev pub WireFaults : Talked → Faults → Faults → Type 0
WireFaults ServerFailed old new = ServerFault old new
WireFaults Done old new = new ≡ old
WireFaults (Refused id) old new = new ≡ old
WireFaults (BadMaster at) old new = new ≡ old
WireFaults WriteFault old new = new ≡ old
WireFaults Spent old new = new ≡ old
WireFaults OutOfMemory old new = new ≡ old

-- no call that goes on has a fault
abbrev pub StepFaults : {A : Type 0} → Result A Talked → Faults → Faults → Type 0
StepFaults (Ok x) old new = new ≡ old
StepFaults (Err answer) old new = WireFaults answer old new

-- the sink's count rose where it failed, and stays with any other answer
abbrev pub SinkFaults : Talked → ℕ → ℕ → Type 0
SinkFaults WriteFault faults faults' = Rose faults faults'
SinkFaults Done faults faults' = faults' ≡ faults
SinkFaults (Refused id) faults faults' = faults' ≡ faults
SinkFaults (BadMaster at) faults faults' = faults' ≡ faults
SinkFaults ServerFailed faults faults' = faults' ≡ faults
SinkFaults Spent faults faults' = faults' ≡ faults
SinkFaults OutOfMemory faults faults' = faults' ≡ faults

abbrev pub StepSinkFaults : {A : Type 0} → Result A Talked → ℕ → ℕ → Type 0
StepSinkFaults (Ok x) faults faults' = faults' ≡ faults
StepSinkFaults (Err answer) faults faults' = SinkFaults answer faults faults'
