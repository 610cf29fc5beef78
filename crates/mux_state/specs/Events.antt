-- What the events of an engine are in the journal, and what they change.
use Rattle.std.specs.Prelude.{◌≡◌, ◌≢◌, ◌⊎◌, ℕ, List, [], ◌∷◌, ◌++◌, true, Option, Some, None, Result, IfOk, OnErr, IsErr}
use Rattle.ssh_fields.specs.declared.out_of_memory.OutOfMemory.{OutOfMemory}
use Rattle.mux_history.specs.declared.ended.Ended.{Ended}
use Rattle.mux_history.specs.declared.ended.Ended.TheVariants as ended
use Rattle.mux_history.specs.declared.why.Why.{Why}
use Rattle.mux_outside.specs.declared.house.HouseReply.{HouseReply}
use Rattle.mux_outside.specs.declared.mark.Mark.{Mark}
use Rattle.mux_outside.specs.declared.mark.Mark.TheVariants.{Accepts, Gets, Ends, Fails, WriteFails, House}
use Rattle.mux_outside.specs.declared.house_mark.HouseMark.{HouseMark as Asked}
use Rattle.mux_outside.specs.declared.house_mark.HouseMark.TheVariants.{HouseAnswer}
use Rattle.mux_state.specs.declared.event.Event.{Event}
use Rattle.mux_state.specs.declared.event.Event.TheVariants.{Accepted, FromClient, ClientEnd, ClientFailed, HouseSays, FromServer, ServerEnd, ServerFailed}
use Rattle.mux_state.specs.declared.event.Went.{Went}
use Rattle.mux_state.specs.declared.event.Went.TheVariants.{On, Ended as Over}
use Rattle.mux_state.specs.Others.{ServerLeavesIdle}
use Rattle.mux_state.specs.State.{EngineState, SameClient, numbers}
use Rattle.mux_state.specs.Stands.{GoesOn, IsAllowed, RepresentsSoFar}

-- a mark records this event; a stream fails at a wait or at a write
abbrev pub MarkRecords : Event → Mark → Type 0
MarkRecords (Accepted k) mark = mark ≡ Accepts k
MarkRecords (FromClient k bytes) mark = (k ≢ 0) × (mark ≡ Gets k bytes.now)
MarkRecords (ClientEnd k) mark = (k ≢ 0) × (mark ≡ Ends k)
MarkRecords (ClientFailed k) mark = (k ≢ 0) × ((mark ≡ Fails k) ⊎ (mark ≡ WriteFails k))
MarkRecords (HouseSays k id given) mark = (k ≢ 0) × (mark ≡ House (HouseAnswer k id given))
MarkRecords (FromServer bytes) mark = mark ≡ Gets 0 bytes.now
MarkRecords ServerEnd mark = mark ≡ Ends 0
MarkRecords ServerFailed mark = (mark ≡ Fails 0) ⊎ (mark ≡ WriteFails 0)

abbrev pub went_of : Option Ended → Went
went_of None = On
went_of (Some ended) = Over ended

-- ---- what an event leaves as it was

-- the streams of clients that are open: of those that were admitted, then of those that were
-- refused
abbrev pub here : EngineState → List ℕ
here s = numbers s.clients ++ s.refused

-- the same streams are open
pub record SameStreams (old new : EngineState) : Type 0 where
  pub clients : numbers new.clients ≡ numbers old.clients
  pub refused : new.refused ≡ old.refused

-- a client was admitted
pub record LetsClientIn (k : ℕ) (old new : EngineState) : Type 0 where
  pub clients : numbers new.clients ≡ numbers old.clients ++ k ∷ []
  pub refused : new.refused ≡ old.refused

-- a client was refused
pub record Refuses (k : ℕ) (old new : EngineState) : Type 0 where
  pub clients : numbers new.clients ≡ numbers old.clients
  pub refused : new.refused ≡ old.refused ++ k ∷ []

-- who is here after an event of a run that goes on
abbrev pub Arrives : Event → EngineState → EngineState → Type 0
Arrives (Accepted k) old new = LetsClientIn k old new ⊎ Refuses k old new
Arrives event old new = SameStreams old new

-- each client but the one that the event is about; the server may send something to each of them
abbrev pub LeavesOthers : Event → EngineState → EngineState → Type 0
LeavesOthers (Accepted k) old new = (j : ℕ) → k ≢ j → SameClient j old.clients new.clients
LeavesOthers (FromClient k bytes) old new = (j : ℕ) → k ≢ j → SameClient j old.clients new.clients
LeavesOthers (ClientEnd k) old new = (j : ℕ) → k ≢ j → SameClient j old.clients new.clients
LeavesOthers (ClientFailed k) old new = (j : ℕ) → k ≢ j → SameClient j old.clients new.clients
LeavesOthers (HouseSays k id given) old new = (j : ℕ) → k ≢ j
    → SameClient j old.clients new.clients
LeavesOthers (FromServer bytes) old new = Unit {0}
LeavesOthers ServerEnd old new = new.clients ≡ old.clients
LeavesOthers ServerFailed old new = new.clients ≡ old.clients

-- How an event may end a run that goes on: only what a client or the server sends may, and the end
-- or the failure of the server. None spends the turns of the run, and none refuses a forwarding
-- that it began with.
abbrev pub MayEnd : Event → Option Ended → Type 0
MayEnd (Accepted k) now = now ≡ None
MayEnd (ClientEnd k) now = now ≡ None
MayEnd (ClientFailed k) now = now ≡ None
MayEnd (HouseSays k id given) now = now ≡ None
MayEnd ServerFailed now = now ≡ Some ended.ServerFailed
MayEnd event now = (now ≢ Some ended.ServerFailed) × (now ≢ Some ended.Spent)
    × ((index : ℕ) → now ≢ Some (ended.StartRefused index))

-- from each journal for which the engine stood while the run went on
abbrev pub EndsBy : Event → EngineState → EngineState → Mark → Type 0
EndsBy event old new mark =
    (picked : List ℕ) (given : List HouseReply) (marks : List Mark) (closed : List ℕ)
    → RepresentsSoFar picked given old marks closed → IsAllowed old marks mark → old.ended ≡ None
    → MayEnd event new.ended

-- an event was applied: the engine goes on by each mark that records it, the server's piece leaves
-- the clients as they were for which it makes no row, and the run may end so
pub record TakesIn (May : HouseReply → Type 0) (before now : Option (List Asked)) (event : Event)
    (old new : EngineState) : Type 0 where
  pub stands : (mark : Mark) → MarkRecords event mark → GoesOn May before now old new mark
  pub others : ServerLeavesIdle event old new
  pub ends : (mark : Mark) → MarkRecords event mark → EndsBy event old new mark

pub record EngineKeeps (event : Event) (old new : EngineState) : Type 0 where
  pub pid : new.pid ≡ old.pid
  pub policy : new.core.policy ≡ old.core.policy
  pub others : LeavesOthers event old new
  pub streams : old.ended ≡ None → Arrives event old new
  pub more_leaving : List (ℕ × Option Why)
  pub leaving : new.leaving ≡ old.leaving ++ more_leaving
  pub over : (cause : Ended) → old.ended ≡ Some cause → new ≡ old

-- what an event answers: how the run ended, if it did; and that there was no memory, which lasts
pub record AnswersSo (result : Result Went OutOfMemory) (old new : EngineState) : Type 0 where
  pub went : IfOk result (λ went. went ≡ went_of new.ended)
  pub starved : old.starved ≡ true → IsErr result
  pub err : OnErr result (new.starved ≡ true)
