-- What a client sends next, by what stands at the front of its bytes.
use Rattle.std.specs.Prelude.{◌≡◌, ◌≤◌, ℕ, Bool, true, false, List, [], Option, None}
use Rattle.mux_outside.specs.House.{HouseState}
use Rattle.mux_outside.specs.declared.house_mark.HouseMark.{HouseMark as Asked}
use Rattle.mux_outside.specs.declared.house.HouseReply.{HouseReply}
use Rattle.ssh_grammar.specs.declared.fault.BadFrame.{BadFrame}
use Rattle.ssh_grammar.specs.Frames.{Front, Frame, More, Faulty}
use Rattle.ssh_grammar.specs.Said.{BadFraming}
use Rattle.proxy_frames.specs.State.{QueueState}
use Rattle.client_teardown.specs.declared.farewell.TheConstants.{FAREWELL_ROOM}
use Rattle.mux_history.specs.declared.why.Why.TheVariants as why
use Rattle.mux_history.specs.Rows.{Row, rows_of, is_run_over, Says}
use Rattle.mux_history.specs.Said.{drops}
use Rattle.mux_history.specs.Log.{row_of}
use Rattle.mux_core.specs.State.{CoreState}
use Rattle.mux_peers.specs.declared.decision.Decision.{Decision}
use Rattle.mux_peers.specs.declared.run_change.RunChange.{RunChange}
use Rattle.mux_peers.specs.declared.standing.Standing.{Standing}
use Rattle.mux_peers.specs.State.{ClientState, Part, part}
use Rattle.mux_peers.specs.Stands as stands
use Rattle.mux_peers.specs.Stands.{PartFits, is_greeted, is_proxied, is_read, rest_if}
use Rattle.mux_peers.specs.Decisions.{DecidesBy}
use Rattle.mux_peers.specs.Bodies.{DoesBody, FollowsBy}
use Rattle.mux_peers.specs.Says.{SendsPayload}

-- what a client sends next is read: there is room for its farewell, and the forwarder waits for no
-- number
pub record MaySend (standing : Standing) (up : QueueState) (house : HouseState) : Type 0 where
  pub read : is_read standing ≡ true
  pub room : FAREWELL_ROOM ≤ up.spare
  pub ordering : house.known.ordering ≡ None

-- a payload, after which these bytes are left
pub record NextPayload (before now : Option (List Asked)) (payload rest : List ℕ)
    (core core' : CoreState) (up up' : QueueState) (old : ClientState) (heard : RunChange)
    (new : ClientState) (heard' : RunChange) : Type 0 where
  pub says : SendsPayload payload (part core old.peer up) (part core' new.peer up')
  pub number : new.peer.number ≡ old.peer.number
  pub left : new.rest ≡ rest_if (is_read new.peer.standing) rest
  pub same : heard' ≡ heard
  pub recorded : now ≡ before

-- a control message
pub record NextBody (May : HouseReply → Type 0) (before now : Option (List Asked)) (pid : ℕ)
    (body rest : List ℕ) (core core' : CoreState) (up up' : QueueState) (old : ClientState)
    (heard : RunChange) (new : ClientState) (heard' : RunChange) : Type 0 where
  pub decision : Decision
  pub decides : DecidesBy May before now pid old.peer.number (is_greeted old.peer.standing)
      body decision
  pub follows : FollowsBy decision (part core old.peer up) heard (part core' new.peer up') heard'
  pub left : new.rest ≡ rest_if (is_read new.peer.standing) rest

-- a fault, from every log that the part represented
abbrev pub FaultBy : BadFrame → Part → RunChange → Part → RunChange → Type 0
FaultBy fault old heard new heard' =
    (rows : List Row) → PartFits rows old → is_run_over rows ≡ false
    → stands.is_standing_lost old.peer.standing ≡ false
    → DoesBody new heard heard' rows
    (row_of (Says old.peer.number (BadFraming fault) None) old.peer.number
    (drops (why.BadFrame fault)) (rows_of old.peer.number rows))

pub record NextFault (before now : Option (List Asked)) (fault : BadFrame) (core core' : CoreState)
    (up up' : QueueState) (old : ClientState) (heard : RunChange) (new : ClientState) (heard' : RunChange) :
    Type 0 where
  pub faults : FaultBy fault (part core old.peer up) heard (part core' new.peer up') heard'
  pub left : new.rest ≡ []
  pub out : is_read new.peer.standing ≡ false
  pub recorded : now ≡ before

-- nothing whole is there
pub record NextNone (before now : Option (List Asked)) (core core' : CoreState)
    (up up' : QueueState) (old : ClientState) (heard : RunChange) (new : ClientState) (heard' : RunChange) :
    Type 0 where
  pub same : new ≡ old
  pub core_same : core' ≡ core
  pub up_same : up' ≡ up
  pub received_same : heard' ≡ heard
  pub recorded : now ≡ before

-- a frame, by how its client is read
abbrev pub NextFrame : Bool → (HouseReply → Type 0) → Option (List Asked) → Option (List Asked) → ℕ
    → List ℕ → List ℕ → CoreState → CoreState → QueueState → QueueState → ClientState → RunChange
    → ClientState → RunChange → Type 0
NextFrame true May before now pid content rest core core' up up' old heard new heard' =
    NextPayload before now content rest core core' up up' old heard new heard'
NextFrame false May before now pid content rest core core' up up' old heard new heard' =
    NextBody May before now pid content rest core core' up up' old heard new heard'

abbrev pub SendsNext : (HouseReply → Type 0) → Option (List Asked) → Option (List Asked) → ℕ → Bool
    → Front → CoreState → CoreState → QueueState → QueueState → ClientState → RunChange → ClientState
    → RunChange → Type 0
SendsNext May before now pid true (Frame content rest) core core' up up' old heard new heard' =
    NextFrame (is_proxied old.peer.standing) May before now pid content rest core core' up up' old
    heard new heard'
SendsNext May before now pid true (Faulty fault) core core' up up' old heard new heard' =
    NextFault before now fault core core' up up' old heard new heard'
SendsNext May before now pid true More core core' up up' old heard new heard' = ⊥
SendsNext May before now pid false More core core' up up' old heard new heard' =
    NextNone before now core core' up up' old heard new heard'
SendsNext May before now pid false _ core core' up up' old heard new heard' = ⊥
