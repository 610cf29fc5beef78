-- What a piece of the server's bytes does, from every log for which the core and all clients stood.
use Rattle.std.specs.Prelude.{◌≡◌, ◌^◌, ◌-◌, ◌+◌, min, ℕ, Bool, true, false, List, [], ◌∷◌, ◌++◌, length, map, Option, Some, None}
use Rattle.ssh_grammar.specs.declared.fault.BadFrame.{BadFrame}
use Rattle.ssh_grammar.specs.declared.framing.Framing.{Framing}
use Rattle.ssh_grammar.specs.declared.framing.Framing.TheVariants as framing
use Rattle.ssh_grammar.specs.Frames.{Front, Frame, More, Faulty}
use Rattle.mux_history.specs.declared.broke.Break.TheVariants as broke
use Rattle.mux_history.specs.declared.ended.Ended.TheVariants as ended
use Rattle.mux_outside.specs.declared.house.HouseReply.{HouseReply}
use Rattle.ssh_grammar.specs.Said.{InProxy, Outgoing, first_in, parse}
use Rattle.proxy_frames.specs.State.{QueueState}
use Rattle.mux_history.specs.declared.ended.Ended.{Ended}
use Rattle.mux_history.specs.Policy.{Policy}
use Rattle.mux_history.specs.declared.why.Why.{Why}
use Rattle.mux_history.specs.Rows.{Row, is_run_over, losses}
use Rattle.mux_history.specs.Heard.{next_index}
use Rattle.mux_history.specs.Settings.{by_lists}
use Rattle.mux_history.specs.Solo.{run_end_of}
use Rattle.mux_history.specs.Journal.{received_item}
use Rattle.mux_history.specs.Log.{more_all}
use Rattle.mux_core.specs.State.{CoreState}
use Rattle.mux_peers.specs.State.{ClientState, ClientsAndQueue, IsUntouched}
use Rattle.mux_peers.specs.Among.{AllFit, AreAmong, KeepReading, is_present}
use Rattle.mux_peers.specs.Receivings.{AreHere, ReceivesPayload}
use Rattle.mux_peers.specs.Pieces.{with_sent_before}

-- the rows after what the server sends
abbrev pub rows_received : Policy → ℕ → List ℕ → List HouseReply → List Row → List Outgoing → List Row
rows_received policy pid picks given rows says =
    more_all (by_lists policy pid picks given) rows (map received_item says)

-- while the run goes on the rest says the rest, every client is here, and the next frame has this
-- place
pub record ReceivesOnwards (all : List ℕ) (cs : List ClientState) (rest : List ℕ) (index : ℕ)
    (rows' : List Row) (says : List Outgoing) : Type 0 where
  pub live : is_run_over rows' ≡ false
  pub sent_is : parse InProxy all ≡ with_sent_before says (parse InProxy rest)
  pub here : AreHere rows' cs
  pub place : index ≡ min (next_index rows') (2 ^ 64 - 1)

-- what was received so far, in rows, and the losses by them
pub record ReceivedTo (policy : Policy) (pid : ℕ) (picks : List ℕ) (given : List HouseReply)
    (all : List ℕ) (noted : List (ℕ × Option Why)) (rows : List Row) (core : CoreState)
    (cs : List ClientState) (queue : QueueState) (rest : List ℕ) (index : ℕ)
    (ended : Option Ended) : Type 0 where
  pub says : List Outgoing
  pub fit : AllFit (rows_received policy pid picks given rows says) core cs queue
  pub lost : losses (rows_received policy pid picks given rows says) ≡ losses rows ++ noted
  pub ended_is : ended ≡ run_end_of (rows_received policy pid picks given rows says)
  pub on : ended ≡ None
      → ReceivesOnwards all cs rest index (rows_received policy pid picks given rows says) says
  pub over : (more : List Outgoing) × ((parse InProxy all).says ≡ says ++ more)

-- ---- what it sends next

pub record ServerState : Type 0 where
  pub framing : Framing
  pub fault : Option BadFrame
  pub rest : List ℕ
  pub index : ℕ

-- a payload, which all clients receive
pub record ServerFrame (content rest : List ℕ) (old new : ClientsAndQueue) (was now : ServerState)
    (ended' : Option Ended) : Type 0 where
  pub receives : ReceivesPayload content was.index old new ended'
  pub present : (j : ℕ) → is_present new.clients.all j ≡ is_present old.clients.all j
  pub left : now.rest ≡ rest
  pub framing : now.framing ≡ was.framing
  pub fault : now.fault ≡ None
  pub next : now.index ≡ min (was.index + 1) (2 ^ 64 - 1)

-- a fault ends the run, and touches nothing else
pub record EndsByServerFault (fault : BadFrame) (old new : ClientsAndQueue) (was : ServerState)
    (ended' : Option Ended) : Type 0 where
  pub untouched : IsUntouched old new
  pub ends : ended' ≡ Some (ended.Broke was.index (broke.Frame fault))

pub record ServerNone (old new : ClientsAndQueue) (was now : ServerState) (ended ended' : Option Ended) :
    Type 0 where
  pub untouched : IsUntouched old new
  pub same : now ≡ was
  pub ended_same : ended' ≡ ended

abbrev pub ServerNext : Bool → Front → ClientsAndQueue → ClientsAndQueue → ServerState → ServerState → Option Ended
    → Option Ended → Type 0
ServerNext true (Frame content rest) old new was now ended ended' =
    ServerFrame content rest old new was now ended'
ServerNext true (Faulty fault) old new was now ended ended' = EndsByServerFault fault old new was ended'
ServerNext true More old new was now ended ended' = ⊥
ServerNext false More old new was now ended ended' = ServerNone old new was now ended ended'
ServerNext false _ old new was now ended ended' = ⊥

-- before it sent anything
abbrev pub new_server : ServerState
new_server = record { framing = framing.Proxy; fault = None; rest = []; index = 1 }

-- how the run ends where its stream ends: in the middle of a frame that breaks the protocol
abbrev pub stream_end : List ℕ → ℕ → Ended
stream_end [] index = ended.ServerEnd
stream_end (b ∷ rest) index = ended.Broke index (broke.Cut (length (b ∷ rest)))

-- ---- a piece

-- the run goes on, all clients represent its rows, each of them that isn't lost is here, and the
-- next frame has this place
pub record AllAwait (rows : List Row) (core : CoreState) (cs : List ClientState)
    (queue : QueueState) (index : ℕ) : Type 0 where
  pub fit : AllFit rows core cs queue
  pub live : is_run_over rows ≡ false
  pub here : AreHere rows cs
  pub place : index ≡ min (next_index rows) (2 ^ 64 - 1)

-- what was received of these bytes so far, from every list of rows; while the run goes on the
-- server is read as before
pub record ReceivingAll (all : List ℕ) (old new : ClientsAndQueue) (first now : ServerState)
    (ended : Option Ended) : Type 0 where
  pub noted : List (ℕ × Option Why)
  pub leaves : new.clients.leaving ≡ old.clients.leaving ++ noted
  pub policy : new.core.policy ≡ old.core.policy
  pub present : (j : ℕ) → is_present new.clients.all j ≡ is_present old.clients.all j
  pub among : AreAmong old.clients.all noted
  pub reading : KeepReading old.clients.all new.clients.all
  pub framing : ended ≡ None → now.framing ≡ first.framing
  pub fault : ended ≡ None → now.fault ≡ None
  pub goes : (pid : ℕ) (picks : List ℕ) (given : List HouseReply) (rows : List Row)
      → AllAwait rows old.core old.clients.all old.up first.index
      → ReceivedTo old.core.policy pid picks given all noted rows new.core new.clients.all new.up
      now.rest now.index ended

-- a piece of the server: all that is sent by it was received, or the run is over
pub record ServerReceivesBytes (bytes : List ℕ) (old new : ClientsAndQueue) (first now : ServerState)
    (ended : Option Ended) : Type 0 where
  pub receiving : ReceivingAll (first.rest ++ bytes) old new first now ended
  pub whole : ended ≡ None → first_in InProxy now.rest ≡ More
