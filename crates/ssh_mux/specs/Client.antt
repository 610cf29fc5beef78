-- What a client of a running master joins, and how its talk goes.
use Rattle.std.specs.Prelude.{◌≡◌, ◌<◌, ◌≤◌, ◌+◌, ◌-◌, ◌^◌, min, ℕ, ◌⊎◌, Bool, true, false, IsTrue, List, [], ◌∷◌, ◌++◌, Option, Some, None, option_map, Result, Ok, Err}
use Rattle.std.specs.Bool.{OnTrue}
use Rattle.conf_rules.specs.declared.causes.ResolveError.{ResolveError}
use Rattle.conf_rules.specs.CommandOutcome.{Joins}
use Rattle.conf_rules.specs.Texts.{Bytes}
use Rattle.mux_client.specs.declared.asks.Asks.{Asks}
use Rattle.mux_client.specs.declared.talked.Talked.{Talked}
use Rattle.mux_client.specs.declared.talked.Talked.TheVariants as talks
use Rattle.mux_client.specs.Journal.{TalksRecorded, ShowsRecorded}
use Rattle.mux_outside.specs.Counts.{counted}
use Rattle.mux_outside.specs.declared.mark.Mark.{Mark}
use Rattle.mux_outside.specs.CallCounts.{CallCounts}
use Rattle.mux_outside.specs.Faults.{Faults}
use Rattle.mux_outside.specs.WireState.{WireState}
use Rattle.ssh_mux.specs.declared.ending.Ending.{Ending as MeantEnding}
use Rattle.ssh_mux.specs.declared.ending.Ending.TheVariants as endings
use Rattle.ssh_mux.specs.declared.status.Status.{Status}
use Rattle.ssh_mux.specs.declared.status.Status.TheVariants.{Done, Config, Outside, Write}
use Rattle.ssh_mux.specs.declared.status.Status.TheVariants.{Open, Spent, Memory, Refused, BadMaster}
use Rattle.ssh_mux.specs.Answers.{has_no_line, may_have_joined, so_far}
use Rattle.ssh_mux.specs.Asks.{asks_for}
use Rattle.ssh_mux.specs.Outcomes.{KnownCommand, Certain, Client}
use Rattle.ssh_mux.specs.Causes.{OutCause}
use Rattle.ssh_mux.specs.Sharing.{CallsEnd, IdleCause, RecordsEnd, WireCause}
use Rattle.ssh_mux.specs.World.{OutState, World}

-- ---- the joining

-- one joining more
abbrev pub with_joined : Bytes → Option (List Bytes) → Option (List Bytes)
with_joined control before = option_map (λ js. js ++ control ∷ []) before

-- the wire was joined once, at this control path, unless memory ran out
abbrev pub JoinsAt : Bytes → Status → Option (List Bytes) → Option (List Bytes) → Type 0
JoinsAt control Memory before now = (now ≡ before) ⊎ (now ≡ with_joined control before)
JoinsAt control status before now = now ≡ with_joined control before

-- the wire was joined once, at some control path
pub record JoinsBy (before now : Option (List Bytes)) : Type 0 where
  pub control : Bytes
  pub once : now ≡ with_joined control before

-- it was joined so, unless the configuration is refused, a fault came before or memory ran out
abbrev pub JoinsSome : Status → Option (List Bytes) → Option (List Bytes) → Type 0
JoinsSome Config before now = now ≡ before
JoinsSome Outside before now = now ≡ before
JoinsSome Memory before now = (now ≡ before) ⊎ JoinsBy before now
JoinsSome status before now = JoinsBy before now

-- the same of the outcome of words: only a client joins the wire, and none whose forwardings are
-- refused or after a fault
abbrev pub JoinsOnce : KnownCommand → Status → Option (List Bytes) → Option (List Bytes) → Type 0
JoinsOnce (Certain (Joins control asked what)) Config before now = now ≡ before
JoinsOnce (Certain (Joins control asked what)) Outside before now = now ≡ before
JoinsOnce (Certain (Joins control asked what)) status before now =
    JoinsAt control status before now
JoinsOnce (Client asked what) status before now = JoinsSome status before now
JoinsOnce known status before now = now ≡ before

-- ---- the talk

-- how the end of a talk is reported
abbrev pub talk_recorded : Talked → Result Status MeantEnding
talk_recorded talks.Done = Ok Done
talk_recorded (talks.Refused id) = Err endings.MasterRefused
talk_recorded (talks.BadMaster at) = Err endings.MasterBroke
talk_recorded talks.WriteFault = Ok Write
talk_recorded talks.ServerFailed = Err endings.TransportFailed
talk_recorded talks.Spent = Err endings.TurnsSpent
talk_recorded talks.OutOfMemory = Err endings.NoMemory

-- whether a client ends so that found the control path and what it asks
abbrev pub ends_asking : MeantEnding → Bool
ends_asking endings.NotOpened = true
ends_asking endings.TransportFailed = true
ends_asking endings.TurnsSpent = true
ends_asking endings.MasterRefused = true
ends_asking endings.MasterBroke = true
ends_asking endings.NoMemory = true
ends_asking ending = false

-- it ends without a line, or by such an ending
abbrev pub EndsClient : Result Status MeantEnding → Type 0
EndsClient (Ok status) = IsTrue (has_no_line status)
EndsClient (Err ending) = IsTrue (ends_asking ending)

-- no master was asked: the wire and the output record what they recorded before
pub record IsUnasked (start recorded : Option (List Mark)) (out out' : Option (List ℕ)) : Type 0 where
  pub same_wire : recorded ≡ start
  pub same_out : out' ≡ out

-- A talk that keeps its promises, and its very end; `start` and `recorded` are what the wire
-- records, `out` and `out'` what the output records.
pub record IsTalkAsked (asks : Asks) (start recorded : Option (List Mark)) (out out' : Option (List ℕ))
    (result : Result Status MeantEnding) : Type 0 where
  pub answer : Talked
  pub is_recorded : result ≡ talk_recorded answer
  pub talks : TalksRecorded asks answer start recorded
  pub shows : ShowsRecorded asks answer start recorded out out'

-- if the wire wasn't joined no master was asked
abbrev pub Converses : Asks → Option (List Mark) → Option (List Mark)
    → Option (List ℕ) → Option (List ℕ) → Result Status MeantEnding → Type 0
Converses asks start recorded out out' (Err endings.NotOpened) = IsUnasked start recorded out out'
Converses asks start recorded out out' (Err endings.NoMemory) =
    IsUnasked start recorded out out' ⊎ IsTalkAsked asks start recorded out out' (Err endings.NoMemory)
Converses asks start recorded out out' result = IsTalkAsked asks start recorded out out' result

-- the same of what words ask, unless that is refused
abbrev pub ConversesOn : Result Asks ResolveError → Option (List Mark) → Option (List Mark)
    → Option (List ℕ) → Option (List ℕ) → Result Status MeantEnding → Type 0
ConversesOn (Ok asks) start recorded out out' result = Converses asks start recorded out out' result
ConversesOn (Err e) start recorded out out' result = IsUnasked start recorded out out'

-- what a client asks: others ask nothing
abbrev pub client_asks_in : KnownCommand → Option (Result Asks ResolveError)
client_asks_in (Certain (Joins control asked what)) = Some (asks_for asked what)
client_asks_in (Client asked what) = Some (asks_for asked what)
client_asks_in known = None

-- the same of the outcome of words: only a client asks
abbrev pub ConversesBy : Option (Result Asks ResolveError) → Option (List Mark)
    → Option (List Mark) → Option (List ℕ) → Option (List ℕ) → Result Status MeantEnding → Type 0
ConversesBy (Some asks) start recorded out out' result = ConversesOn asks start recorded out out' result
ConversesBy None start recorded out out' result = Unit

abbrev pub ConversesFor : KnownCommand → Option (List Mark) → Option (List Mark)
    → Option (List ℕ) → Option (List ℕ) → Result Status MeantEnding → Type 0
ConversesFor known start recorded out out' result =
    OnTrue (may_have_joined known (so_far result)) (ConversesBy (client_asks_in known) start recorded out out' result)

-- ---- the talk and its line

-- a talk that keeps its promises, and the line of its very end
pub record IsTalkAnswered (asks : Asks) (start recorded : Option (List Mark)) (out out' : Option (List ℕ))
    (status : Status) (err err' : Option (List ℕ)) (faults faults' : ℕ) : Type 0 where
  pub answer : Talked
  pub talks : TalksRecorded asks answer start recorded
  pub shows : ShowsRecorded asks answer start recorded out out'
  pub line : RecordsEnd (talk_recorded answer) status err err' faults faults'

-- the same of the program: if its wire wasn't joined no master was asked
abbrev pub ProgramAnswers : Asks → Option (List Mark) → Option (List Mark) → Option (List ℕ)
    → Option (List ℕ) → Status → Option (List ℕ) → Option (List ℕ) → ℕ → ℕ → Type 0
ProgramAnswers asks start recorded out out' Open err err' faults faults' = IsUnasked start recorded out out'
ProgramAnswers asks start recorded out out' Memory err err' faults faults' =
    IsUnasked start recorded out out'
    ⊎ IsTalkAnswered asks start recorded out out' Memory err err' faults faults'
ProgramAnswers asks start recorded out out' status err err' faults faults' =
    IsTalkAnswered asks start recorded out out' status err err' faults faults'

-- the same of what words ask
abbrev pub AnswersBy : Option (Result Asks ResolveError) → Option (List Mark)
    → Option (List Mark) → Option (List ℕ) → Option (List ℕ) → Status → Option (List ℕ)
    → Option (List ℕ) → ℕ → ℕ → Type 0
AnswersBy (Some (Ok asks)) start recorded out out' status err err' faults faults' =
    ProgramAnswers asks start recorded out out' status err err' faults faults'
AnswersBy (Some (Err e)) start recorded out out' status err err' faults faults' =
    IsUnasked start recorded out out'
AnswersBy None start recorded out out' status err err' faults faults' = Unit

-- the same of the outcome of words: only a client asks
abbrev pub AnswersFor : KnownCommand → Status → World → World → Type 0
AnswersFor known status before after = OnTrue (may_have_joined known status) (AnswersBy (client_asks_in known)
    before.wire.seen.recorded after.wire.seen.recorded before.out.recorded after.out.recorded status
    before.err.recorded after.err.recorded before.err.faults after.err.faults)

-- ---- turns

-- If all turns were used `wait` was called once for each, and a talk with another end, except out
-- of memory or a failed connection, called it at least once; its count stays at the end of its
-- type.
abbrev pub TalksFor : ℕ → Status → CallCounts → CallCounts → Type 0
TalksFor turns Spent old new =
    old.waits < 2 ^ 64 → new.waits ≡ min (old.waits + turns) (2 ^ 64 - 1)
TalksFor turns Done old new = counted old.waits ≤ new.waits
TalksFor turns Write old new = counted old.waits ≤ new.waits
TalksFor turns Refused old new = counted old.waits ≤ new.waits
TalksFor turns BadMaster old new = counted old.waits ≤ new.waits
TalksFor turns status old new = Unit

-- ---- what is left of a wire and an output

-- what a talk leaves of a wire that is joined, and is not opened
pub record TalkCounts (turns : ℕ) (status : Status) (old new : WireState)
    (faults faults' : Faults) : Type 0 where
  pub openings : new.openings ≡ old.openings
  pub unopened : new.calls.opens ≡ old.calls.opens
  pub cause : WireCause status faults faults'
  pub calls : CallsEnd turns status old.calls new.calls
  pub waited : TalksFor turns status old.calls new.calls
  pub idle : turns ≡ 0 → IdleCause status faults faults'

-- what a client of which this is known leaves of its wire and the output
pub record ClientLeaves (known : KnownCommand) (turns : ℕ) (result : Result Status MeantEnding)
    (old new : WireState) (faults faults' : Faults) (out out' : OutState) : Type 0 where
  -- the wire was joined once
  pub joined : JoinsOnce known (so_far result) old.joinings new.joinings
  -- and not opened
  pub openings : new.openings ≡ old.openings
  pub unopened : new.calls.opens ≡ old.calls.opens
  -- then a running master was asked
  pub talked : ConversesFor known old.seen.recorded new.seen.recorded out.recorded out'.recorded result
  -- the sockets failed to open, and the connection failed, only where that was counted
  pub wire_cause : OnTrue (may_have_joined known (so_far result))
      (WireCause (so_far result) faults faults')
  -- and the output only where that was
  pub out_cause : OutCause (so_far result) out.faults out'.faults
  -- calls were few, and none came after one that ran out of memory
  pub calls : CallsEnd turns (so_far result) old.calls new.calls
  -- it waited once for each turn
  pub waited : OnTrue (may_have_joined known (so_far result))
      (TalksFor turns (so_far result) old.calls new.calls)
  -- and without turns nothing failed but the joining
  pub idle : turns ≡ 0 → IdleCause (so_far result) faults faults'
