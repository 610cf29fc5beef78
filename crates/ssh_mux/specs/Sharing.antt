-- What a master opens, and how its run goes.
use Rattle.std.specs.Prelude.{◌≡◌, ◌≢◌, ◌≤◌, ◌<◌, ◌+◌, ◌-◌, ◌^◌, min, ℕ, Bool, false, ◌⊎◌, List, [], ◌∷◌, ◌++◌, Option, Some, None, option_map, IsSome, IsTrue, Result, Ok, Err, codes}
use Rattle.std.specs.Bool.{OnFalse, OnTrue}
use Rattle.conf_rules.specs.CommandOutcome.{Drills, Opens}
use Rattle.conf_rules.specs.Texts.{Bytes}
use Rattle.conf_rules.specs.Recorded.{Recorded}
use Rattle.forward_rules.specs.Allows.{read_policy}
use Rattle.mux_engine.specs.Came.{WentUp}
use Rattle.mux_engine.specs.OwnFaults.{OwnCounted}
use Rattle.mux_engine.specs.Rests.{refusal_after}
use Rattle.mux_engine.specs.Run.{IsRun}
use Rattle.mux_engine.specs.Sides.{Resting}
use Rattle.mux_history.specs.declared.ended.Ended.{Ended}
use Rattle.mux_history.specs.declared.ended.Ended.TheVariants as ends
use Rattle.mux_history.specs.Policy.{Entries, Policy}
use Rattle.mux_outside.specs.Counts.{Rose, counted}
use Rattle.mux_outside.specs.House.{HouseState}
use Rattle.mux_outside.specs.HouseCalls.{HouseCall}
use Rattle.mux_outside.specs.WireState.{WireState}
use Rattle.mux_outside.specs.declared.house.HouseReply.{HouseReply}
use Rattle.mux_outside.specs.declared.house_mark.HouseMark.{HouseMark}
use Rattle.mux_outside.specs.declared.mark.Mark.{Mark}
use Rattle.mux_outside.specs.declared.mark.OpenCall.{OpenCall}
use Rattle.mux_outside.specs.declared.starts.ListenPermit.{ListenPermit}
use Rattle.mux_outside.specs.Seen.{Seen}
use Rattle.mux_outside.specs.CallCounts.{CallCounts}
use Rattle.mux_outside.specs.Faults.{Faults, OpeningFault}
use Rattle.mux_engine.specs.Wires.{NoFault}
use Rattle.ssh_mux.specs.declared.ending.Ending.{Ending as MeantEnding}
use Rattle.ssh_mux.specs.declared.ending.Ending.TheVariants as endings
use Rattle.ssh_mux.specs.declared.status.Status.{Status}
use Rattle.ssh_mux.specs.declared.status.Status.TheVariants.{Done, Config, Outside, Write}
use Rattle.ssh_mux.specs.declared.status.Status.TheVariants.{Open, Transport, Broke, Spent, StartRefused, Memory}
use Rattle.ssh_mux.specs.Answers.{may_share, serves_house, so_far}
use Rattle.ssh_mux.specs.Ending.{ending_shown}
use Rattle.ssh_mux.specs.Err.{Reports}
use Rattle.ssh_mux.specs.Here.{here_of}
use Rattle.ssh_mux.specs.Outcomes.{KnownCommand, Certain, Master}
use Rattle.ssh_mux.specs.Starts.{BeganWith, Begun, BegunRests, MustsAs, must_for}
use Rattle.ssh_mux.specs.World.{Sockets, World}
use Rattle.conf_rules.specs.declared.command.Permissions.{Permissions}

-- ---- the opening

-- one opening more
abbrev pub opened : Bytes → Bytes → Option (List OpenCall) → Option (List OpenCall)
opened control transport before =
    option_map (λ os. os ++ record { control = control; transport = transport } ∷ []) before

-- the wire was opened once, with this control path and transport, unless memory runs out
abbrev pub OpensAt : Bytes → Bytes → Status → Option (List OpenCall) → Option (List OpenCall) → Type 0
OpensAt control transport Memory before now =
    (now ≡ before) ⊎ (now ≡ opened control transport before)
OpensAt control transport status before now = now ≡ opened control transport before

-- the wire was opened with some control path and this transport
pub record OpensBy (transport : Bytes) (before now : Option (List OpenCall)) : Type 0 where
  pub control : Bytes
  pub once : now ≡ opened control transport before

-- it was opened so once, unless the configuration is refused, a fault came before or memory was
-- wanting
abbrev pub OpensSome : Bytes → Status → Option (List OpenCall) → Option (List OpenCall) → Type 0
OpensSome transport Config before now = now ≡ before
OpensSome transport Outside before now = now ≡ before
OpensSome transport Memory before now = (now ≡ before) ⊎ OpensBy transport before now
OpensSome transport status before now = OpensBy transport before now

-- the same of the outcome of words: but for a drill, of which `IsDrill` says it, only a master
-- opens the wire, and none after a fault
abbrev pub OpensOnce : KnownCommand → Status → Option (List OpenCall) → Option (List OpenCall) → Type 0
OpensOnce (Certain (Opens control transport permits)) Outside before now = now ≡ before
OpensOnce (Certain (Opens control transport permits)) status before now =
    OpensAt control transport status before now
OpensOnce (Certain (Drills seed clients messages)) status before now = Unit
OpensOnce (Master transport permits) status before now = OpensSome transport status before now
OpensOnce known status before now = now ≡ before

-- ---- the run

-- nothing is permitted
abbrev pub no_policy : Policy
no_policy = record { opens = Entries []; listens = Entries []; sessions = false }

-- the policy of permissions: one that does not read permits nothing
abbrev pub policy_of : Permissions → Policy
policy_of permits = elim (read_policy permits.opens permits.listens permits.sessions)
    [ Ok policy ↦ policy | Err bad ↦ no_policy ]

-- permissions of nothing
abbrev pub no_permissions : Permissions
no_permissions = record {
  opens = codes "none" ∷ [];
  listens = codes "none" ∷ [];
  sessions = false;
  here = codes "none" ∷ [];
}

-- the permissions of a master: what is none permits nothing
abbrev pub permissions_in : KnownCommand → Permissions
permissions_in (Certain (Opens control transport permits)) = permits
permissions_in (Master transport permits) = permits
permissions_in known = no_permissions

-- the policy of a master
abbrev pub policy_in : KnownCommand → Policy
policy_in known = policy_of (permissions_in known)

-- where the own forwardings of a master may listen on this machine
abbrev pub here_in : KnownCommand → ListenPermit
here_in known = here_of (permissions_in known).here

-- how the end of a run is recorded
abbrev pub recorded_as : Ended → Result Status MeantEnding
recorded_as ends.ServerEnd = Ok Done
recorded_as ends.Disconnected = Ok Done
recorded_as (ends.Terminated client id) = Ok Done
recorded_as ends.ServerFailed = Err endings.TransportFailed
recorded_as (ends.Broke index why) = Err (endings.ServerBroke index why)
recorded_as (ends.StartRefused index) = Err endings.StartRefused
recorded_as ends.Spent = Err endings.TurnsSpent
recorded_as ends.OutOfMemory = Err endings.NoMemory

-- nothing is served: the wire and the forwarder record what they recorded before
pub record IsUnserved (before now : Option (List HouseMark)) (start : Option (List Mark))
    (seen : Seen) : Type 0 where
  pub same_wire : seen.recorded ≡ start
  pub same_house : now ≡ before

-- a run that keeps its promises, and its very end; `Rest` is whether a forwarder is present, and
-- what is so of it right before a wait; `stands` are the calls that it represents before the run,
-- and `last` is what it is after the run; `before` and `now` are what it recorded, `start` what the
-- wire did, and `seen` what is seen of it in the end; `refused` is the forwarding of the start that
-- was refused, if none may be
pub record IsShared (May : HouseReply → Type 0) (Rest : Resting)
    (stands : List HouseCall → Type 0) (last : HouseState) (policy : Policy) (pid turns : ℕ)
    (before now : Option (List HouseMark)) (start : Option (List Mark)) (seen : Seen)
    (refused : Option ℕ) (result : Result Status MeantEnding) : Type 0 where
  pub answer : Ended
  pub is_recorded : result ≡ recorded_as answer
  pub run : IsRun May Rest.rests stands last Rest.present policy pid turns before now start seen
      refused answer

-- where the sockets weren't opened nothing is served
abbrev pub Shares : (HouseReply → Type 0) → Resting → (List HouseCall → Type 0)
    → HouseState → Policy → ℕ → ℕ
    → Option (List HouseMark) → Option (List HouseMark) → Option (List Mark) → Seen
    → Option ℕ → Result Status MeantEnding → Type 0
Shares May Rest stands last policy pid turns before now start seen refused
    (Err endings.NotOpened) =
    IsUnserved before now start seen
Shares May Rest stands last policy pid turns before now start seen refused
    (Err endings.NoMemory) =
    IsUnserved before now start seen
    ⊎ IsShared May Rest stands last policy pid turns before now start seen refused
    (Err endings.NoMemory)
Shares May Rest stands last policy pid turns before now start seen refused result =
    IsShared May Rest stands last policy pid turns before now start seen refused result

-- the same of a forwarder and a wire, from what they showed to what they show
abbrev pub SharesWith : (HouseReply → Type 0) → Resting → (List HouseCall → Type 0) → Policy → ℕ → ℕ
    → HouseState → HouseState → WireState → WireState → Result Status MeantEnding → Type 0
SharesWith May Rest stands policy pid turns house house' wire wire' result =
    Shares May Rest stands house' policy pid turns house.recorded house'.recorded wire.seen.recorded
    wire'.seen (refusal_after house house') result

-- the same of the words' outcome: only a master serves, with a forwarder that begins as is due by
-- what is recorded of files and commands, and that may listen where its permissions say
abbrev pub SharesFor : {T : Type 0} → (HouseReply → Type 0) → (T → HouseState) → KnownCommand
    → Option Recorded → ℕ → ℕ → Sockets → Sockets → Result Status MeantEnding → Type 0
SharesFor May state known by pid turns old new result =
    OnTrue (may_share known (so_far result)) (Begun (here_in known) by (λ starts. SharesWith May
    (BegunRests state old.house.known.present starts) (BeganWith starts) (policy_in known) pid turns
    old.house new.house old.wire new.wire result))

-- the line of an end was handed over, if it has one; there may be no memory for it
abbrev pub RecordsEnd :
    Result Status MeantEnding → Status → Option (List ℕ) → Option (List ℕ) → ℕ → ℕ → Type 0
RecordsEnd (Ok due) status err err' faults faults' = (status ≡ due) × (err' ≡ err)
RecordsEnd (Err ending) status err err' faults faults' =
    Reports status (ending_shown ending) err err' faults faults'

-- a run that keeps its promises, and the line of its very end
pub record IsShareServed (May : HouseReply → Type 0) (Rest : Resting)
    (stands : List HouseCall → Type 0) (last : HouseState) (policy : Policy) (pid turns : ℕ)
    (before now : Option (List HouseMark)) (start : Option (List Mark)) (seen : Seen)
    (refused : Option ℕ) (status : Status) (err err' : Option (List ℕ)) (faults faults' : ℕ) :
    Type 0 where
  pub answer : Ended
  pub run : IsRun May Rest.rests stands last Rest.present policy pid turns before now start seen
      refused answer
  pub line : RecordsEnd (recorded_as answer) status err err' faults faults'

-- the same of the program: where its sockets weren't opened nothing is served
abbrev pub Serves : (HouseReply → Type 0) → Resting → (List HouseCall → Type 0)
    → HouseState → Policy → ℕ → ℕ
    → Option (List HouseMark) → Option (List HouseMark) → Option (List Mark) → Seen
    → Option ℕ → Status → Option (List ℕ) → Option (List ℕ) → ℕ → ℕ → Type 0
Serves May Rest stands last policy pid turns before now start seen refused Open err err'
    faults faults' =
    IsUnserved before now start seen
Serves May Rest stands last policy pid turns before now start seen refused Memory err err'
    faults faults' =
    IsUnserved before now start seen
    ⊎ IsShareServed May Rest stands last policy pid turns before now start seen refused Memory err
    err' faults faults'
Serves May Rest stands last policy pid turns before now start seen refused status err err'
    faults faults' =
    IsShareServed May Rest stands last policy pid turns before now start seen refused status err err'
    faults faults'

-- the same from what a world showed to what it shows
abbrev pub ServesWith : (HouseReply → Type 0) → Resting → (List HouseCall → Type 0) → Policy → ℕ → ℕ
    → World → World → Status → Type 0
ServesWith May Rest stands policy pid turns before after status =
    Serves May Rest stands after.house policy pid turns before.house.recorded after.house.recorded
    before.wire.seen.recorded after.wire.seen (refusal_after before.house after.house) status
    before.err.recorded after.err.recorded before.err.faults after.err.faults

-- the same of the words' outcome: only a master serves, with a forwarder that begins as is due by
-- what is recorded of files and commands, and that may listen where its permissions say
abbrev pub ServesFor : {T : Type 0} → (HouseReply → Type 0) → (T → HouseState) → KnownCommand
    → Option Recorded → ℕ → ℕ → World → World → Status → Type 0
ServesFor May state known by pid turns before after status =
    OnTrue (may_share known status) (Begun (here_in known) by (λ starts. ServesWith May
    (BegunRests state before.house.known.present starts) (BeganWith starts) (policy_in known) pid
    turns before after status))

-- the process id that clients are sent: 0 where none is known
abbrev pub pid_of : Option ℕ → ℕ
pid_of None = 0
pid_of (Some pid) = pid

-- ---- causes

-- the sockets weren't opened only where a count rose, and the transport failed only where the
-- server's did
abbrev pub WireCause : Status → Faults → Faults → Type 0
WireCause Open old new = OpeningFault old new
WireCause Transport old new = Rose old.server new.server
WireCause status old new = Unit

-- a forwarding is recorded as refused only where one of the start was, and none may be
abbrev pub StartCause : Status → Option ℕ → Type 0
StartCause StartRefused refused = IsSome refused
StartCause status refused = Unit

-- `wait` is called at most so many times and `open` once, and a call that finds no memory is the
-- last
pub record CallsEnd (turns : ℕ) (status : Status) (old new : CallCounts) : Type 0 where
  pub few : new.waits ≤ old.waits + turns
  pub opens : new.opens ≤ old.opens + 1
  pub wants : new.wants ≤ old.wants + 1
  pub starved : new.wants ≢ old.wants → status ≡ Memory
  pub late : old.wants ≡ 0 → new.late ≡ old.late

-- of a run without a forwarder: where all turns were used `wait` was called once for each, and with
-- another end unless memory runs out it was called at least once; its count stays at the end of its
-- type
abbrev pub WaitsFor : ℕ → Status → CallCounts → CallCounts → Type 0
WaitsFor turns Spent old new =
    old.waits < 2 ^ 64 → new.waits ≡ min (old.waits + turns) (2 ^ 64 - 1)
WaitsFor turns Done old new = counted old.waits ≤ new.waits
WaitsFor turns Write old new = counted old.waits ≤ new.waits
WaitsFor turns Transport old new = counted old.waits ≤ new.waits
WaitsFor turns Broke old new = counted old.waits ≤ new.waits
WaitsFor turns status old new = Unit

-- What came at the wire by then: where the server broke the protocol a piece of it, or its end
-- inside a frame; and where a run ended well its end, a piece of it or of a client.
-- A count that went up may stand at the end of its type.
abbrev pub EndsCame : CallCounts → CallCounts → Type 0
EndsCame old new = WentUp old.server_ends new.server_ends
    ⊎ (WentUp old.server_pieces new.server_pieces ⊎ WentUp old.client_pieces new.client_pieces)

abbrev pub CameFor : Status → CallCounts → CallCounts → Type 0
CameFor Broke old new =
    WentUp old.server_pieces new.server_pieces ⊎ WentUp old.server_ends new.server_ends
CameFor Done old new = EndsCame old new
CameFor Write old new = EndsCame old new
CameFor status old new = Unit

-- what a run without turns and without a forwarder leaves of the counts of faults: the server's and
-- the clients', but where the sockets weren't opened or memory ran out
abbrev pub IdleCause : Status → Faults → Faults → Type 0
IdleCause Open old new = Unit
IdleCause Memory old new = Unit
IdleCause status old new = NoFault old new

-- ---- what is left of a wire

-- what a run over a wire that is opened leaves of what is counted there; `housed` is whether there
-- is a forwarder
pub record CountsFor (housed : Bool) (turns : ℕ) (status : Status) (old new : WireState)
    (faults faults' : Faults) : Type 0 where
  pub joinings : new.joinings ≡ old.joinings
  pub cause : WireCause status faults faults'
  pub own_faults : OwnCounted old.seen.recorded new.seen.recorded faults.own faults'.own
  pub calls : CallsEnd turns status old.calls new.calls
  pub came : CameFor status old.calls new.calls
  pub waited : OnFalse housed (WaitsFor turns status old.calls new.calls)
  pub idle : turns ≡ 0 → OnFalse housed (IdleCause status faults faults')

-- what a master of which this is known leaves of its wire and its forwarder
pub record MasterLeaves {T : Type 0} (May : HouseReply → Type 0) (state : T → HouseState)
    (known : KnownCommand) (by : Option Recorded) (pid turns : ℕ) (result : Result Status MeantEnding)
    (old new : Sockets) : Type 0 where
  -- the wire was opened once
  pub opened : OpensOnce known (so_far result) old.wire.openings new.wire.openings
  -- and not joined
  pub joinings : new.wire.joinings ≡ old.wire.joinings
  -- then it was served with a forwarder that had begun
  pub served : SharesFor May state known by pid turns old new result
  -- a forwarding is recorded as refused only where one of the start was, and none may be
  pub start : OnTrue (may_share known (so_far result))
      (StartCause (so_far result) (refusal_after old.house new.house))
  -- none may be where the settings say so
  pub must : IsTrue old.house.known.present → OnTrue (may_share known (so_far result))
      (MustsAs (so_far result) (must_for by) new.house.must)
  -- the sockets failed to open, and the transport failed, only where that was counted
  pub wire_cause : OnTrue (may_share known (so_far result))
      (WireCause (so_far result) old.faults new.faults)
  -- each order of a listener or a connection that got no number was counted as an own fault
  pub own_faults : OwnCounted old.wire.seen.recorded new.wire.seen.recorded old.faults.own
      new.faults.own
  -- calls were few, and none came after one that wanted memory
  pub calls : CallsEnd turns (so_far result) old.wire.calls new.wire.calls
  -- it ended only where that came which ends it so
  pub came : OnTrue (may_share known (so_far result))
      (CameFor (so_far result) old.wire.calls new.wire.calls)
  -- without a forwarder it waited once for each turn
  pub waited : OnFalse (serves_house old.house.known.present known)
      (OnTrue (may_share known (so_far result))
      (WaitsFor turns (so_far result) old.wire.calls new.wire.calls))
  -- and without turns nothing failed but the opening
  pub idle : turns ≡ 0 → OnFalse (serves_house old.house.known.present known)
      (IdleCause (so_far result) old.faults new.faults)
