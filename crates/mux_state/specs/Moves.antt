-- What an engine keeps after each thing that happens, and the laws that it then represents the
-- journal with the mark.
use Rattle.std.specs.Prelude.{◌≡◌, ◌≢◌, ◌==◌, ◌&&◌, ℕ, Bool, true, false, not, List, [], ◌∷◌, ◌++◌, length, Option, Some, None}
use Rattle.std.specs.List.{AllByRecursion}
use Rattle.mux_outside.specs.declared.house_mark.HouseMark.{HouseMark as Asked}
use Rattle.mux_outside.specs.declared.house.HouseReply.{HouseReply}
use Rattle.mux_outside.specs.declared.mark.Mark.{Mark}
use Rattle.mux_outside.specs.declared.mark.Mark.TheVariants.{Accepts, Gets, Ends, Fails, Takes, WriteFails, House}
use Rattle.mux_outside.specs.declared.house_mark.HouseMark.TheVariants.{HouseAnswer}
use Rattle.proxy_frames.specs.State.{QueueState}
use Rattle.mux_history.specs.declared.ended.Ended.{Ended}
use Rattle.mux_history.specs.declared.why.Why.{Why}
use Rattle.mux_history.specs.declared.ended.Ended.TheVariants as ended
use Rattle.mux_core.specs.State.{CoreState}
use Rattle.mux_peers.specs.declared.run_change.RunChange.{RunChange}
use Rattle.mux_peers.specs.declared.standing.Standing.{Standing}
use Rattle.mux_peers.specs.State.{ClientState}
use Rattle.mux_peers.specs.Stands.{is_standing_lost, is_read}
pub use Rattle.mux_peers.specs.Stands.{not_lost}
use Rattle.mux_peers.specs.Among.{ChangesOne, KeepReading, is_present}
use Rattle.mux_peers.specs.Answering.{AnswersNoting}
use Rattle.mux_peers.specs.Entering.{PeerEnters}
use Rattle.mux_peers.specs.Losing.{Loses}
use Rattle.mux_peers.specs.Pieces.{ReceivesPiece}
use Rattle.mux_peers.specs.Server.{ServerReceivesBytes}
use Rattle.mux_peers.specs.State as clients
use Rattle.mux_state.specs.State.{EngineState, closed_by, clients_and_queue_of, after_admission, loss_between, run_ended_by, server_cause, took_and_listed, waiting_streams}
use Rattle.mux_state.specs.Stands.{Closes, GoesAlone, GoesOn, IsFirstLost}

-- ---- marks

-- something happened at a stream
abbrev pub IsStreamEvent : Mark → Type 0
IsStreamEvent (Accepts k) = Unit {0}
IsStreamEvent (Gets k bytes) = Unit {0}
IsStreamEvent (Ends k) = Unit {0}
IsStreamEvent (Fails k) = Unit {0}
IsStreamEvent (WriteFails k) = Unit {0}
IsStreamEvent (House (HouseAnswer k id given)) = Unit {0}
IsStreamEvent mark = ⊥

-- a stream is gone
abbrev pub IsGone : Mark → ℕ → Type 0
IsGone (Ends j) k = j ≡ k
IsGone (Fails j) k = j ≡ k
IsGone (WriteFails j) k = j ≡ k
IsGone mark k = ⊥

-- ---- what is kept

-- no client of a number stands so
abbrev pub NoneStands : (Standing → Bool) → ℕ → List ClientState → Type 0
NoneStands test k cs =
    AllByRecursion (λ c. (c.peer.number == k) ≡ true → test c.peer.standing ≡ false) cs

-- the stream of a client that wasn't lost is gone
pub record LosesAt (s new : EngineState) (k : ℕ) : Type 0 where
  pub pid : new.pid ≡ s.pid
  pub policy : new.core.policy ≡ s.core.policy
  pub server : new.server ≡ s.server
  pub refused : new.refused ≡ s.refused
  pub listening : new.listening ≡ s.listening
  pub ended : new.ended ≡ s.ended
  pub changes : ChangesOne k (λ x y. (is_standing_lost x.peer.standing ≡ false)
      × Loses (clients.part s.core x.peer s.up) (clients.part new.core y.peer new.up))
      s.clients new.clients
  pub leaving : new.leaving ≡ s.leaving ++ (k, None) ∷ []
  pub waiting : new.waiting ≡ waiting_streams new

-- a client that is read gave bytes
pub record GainsAt (May : HouseReply → Type 0) (before recorded : Option (List Asked)) (s new : EngineState)
    (k : ℕ) (bytes : List ℕ) : Type 0 where
  pub heard : RunChange
  pub pid : new.pid ≡ s.pid
  pub server : new.server ≡ s.server
  pub refused : new.refused ≡ s.refused
  pub changes : ChangesOne k (λ x y. (is_read x.peer.standing ≡ true)
      × (ReceivesPiece May before recorded s.pid bytes s.core s.up x new.core new.up y heard
      × (new.leaving ≡ s.leaving ++ loss_between x.peer.standing y.peer.standing k)))
      s.clients new.clients
  pub listening : new.listening ≡ (s.listening && not heard.stops)
  pub ended : new.ended ≡ heard.ended
  pub waiting : new.waiting ≡ waiting_streams new

-- the forwarder replied to a client that isn't lost
pub record AnsweredAt (s new : EngineState) (k id : ℕ) (given : HouseReply) : Type 0 where
  pub pid : new.pid ≡ s.pid
  pub policy : new.core.policy ≡ s.core.policy
  pub server : new.server ≡ s.server
  pub refused : new.refused ≡ s.refused
  pub listening : new.listening ≡ s.listening
  pub ended : new.ended ≡ s.ended
  pub noted : List (ℕ × Option Why)
  pub leaving : new.leaving ≡ s.leaving ++ noted
  pub changes : ChangesOne k (λ x y. (is_standing_lost x.peer.standing ≡ false)
      × AnswersNoting k id given noted s.core new.core s.up new.up x y) s.clients new.clients
  pub reading : KeepReading s.clients new.clients
  pub waiting : new.waiting ≡ waiting_streams new

-- the server gave bytes
pub record ReceivedAt (s new : EngineState) (bytes : List ℕ) : Type 0 where
  pub pid : new.pid ≡ s.pid
  pub refused : new.refused ≡ s.refused
  pub listening : new.listening ≡ s.listening
  pub piece : ServerReceivesBytes bytes (clients_and_queue_of s) (clients_and_queue_of new) s.server new.server new.ended
  pub waiting : new.waiting ≡ waiting_streams new

-- ---- the laws

-- a stream is closed, and bytes are accepted by one
abbrev pub ClosedGoesOn : Type 0
ClosedGoesOn = (s : EngineState) (k : ℕ) → IsFirstLost k s.leaving → Closes s (closed_by s k) k

abbrev pub TakenGoesOn : Type 0
TakenGoesOn = (s : EngineState) (t n : ℕ) (bytes : List ℕ) (accepts : Bool)
    → length bytes ≡ n → GoesAlone s (took_and_listed s t n) (Takes t bytes accepts)

-- after the end of the run nothing changes
abbrev pub OverStays : Type 0
OverStays = (s : EngineState) (mark : Mark) (cause : Ended) → IsStreamEvent mark → s.ended ≡ Some cause
    → GoesAlone s s mark

-- the server's stream ends or fails
pub record ServerLaws : Type 0 where
  pub ends : (s : EngineState) → s.ended ≡ None → GoesAlone s (run_ended_by s (server_cause s)) (Ends 0)
  pub fails : (s : EngineState) → s.ended ≡ None → GoesAlone s (run_ended_by s ended.ServerFailed) (Fails 0)
  pub unwritten : (s : EngineState) → s.ended ≡ None
      → GoesAlone s (run_ended_by s ended.ServerFailed) (WriteFails 0)

-- a client comes
abbrev pub EnteredGoesOn : Type 0
EnteredGoesOn =
    (s : EngineState) (core' : CoreState) (up' : QueueState) (k : ℕ) (let_in : Bool)
    → s.ended ≡ None → core'.policy ≡ s.core.policy → up'.waiting ≡ s.up.waiting
    → PeerEnters k s.core core' s.clients (after_admission s core' up' k let_in).clients let_in
    → GoesAlone s (after_admission s core' up' k let_in) (Accepts k)

-- the stream of a client is gone: of one that wasn't lost, and of none
pub record LossLaws : Type 0 where
  pub goes : (s new : EngineState) (k : ℕ) (mark : Mark) → k ≢ 0 → IsGone mark k → s.ended ≡ None
      → is_present s.clients k ≡ true → LosesAt s new k → GoesAlone s new mark
  pub stays : (s : EngineState) (k : ℕ) (mark : Mark) → k ≢ 0 → IsGone mark k → s.ended ≡ None
      → NoneStands not_lost k s.clients → GoesAlone s s mark

-- the forwarder replies to a client later, and to one that is lost
abbrev pub AnsweredGoesOn : Type 0
AnsweredGoesOn = (s new : EngineState) (k id : ℕ) (given : HouseReply) → k ≢ 0 → s.ended ≡ None
    → is_present s.clients k ≡ true → AnsweredAt s new k id given
    → GoesAlone s new (House (HouseAnswer k id given))

-- a client that is read gave bytes
abbrev pub GainedGoesOn : (HouseReply → Type 0) → Type 0
GainedGoesOn May = (before recorded : Option (List Asked)) (s new : EngineState) (k : ℕ) (bytes : List ℕ)
    → s.ended ≡ None → is_present s.clients k ≡ true → k ≢ 0 → GainsAt May before recorded s new k bytes
    → GoesOn May before recorded s new (Gets k bytes)

-- and one that isn't
abbrev pub UnheardStays : (HouseReply → Type 0) → Type 0
UnheardStays May = (recorded : Option (List Asked)) (s : EngineState) (k : ℕ) (bytes : List ℕ) → k ≢ 0
    → s.ended ≡ None → NoneStands is_read k s.clients → GoesOn May recorded recorded s s (Gets k bytes)

-- the server gave bytes
abbrev pub ReceivedGoesOn : Type 0
ReceivedGoesOn = (s new : EngineState) (bytes : List ℕ) → s.ended ≡ None → ReceivedAt s new bytes
    → GoesAlone s new (Gets 0 bytes)
