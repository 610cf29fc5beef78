-- What the server sends, from every log that the core and all clients represented.
use Rattle.std.specs.Prelude.{◌≡◌, ◌^◌, ◌-◌, min, ℕ, true, false, List, ◌∷◌, ◌++◌, Option, Some, None}
use Rattle.mux_outside.specs.declared.house.HouseReply.{HouseReply}
use Rattle.proxy_frames.specs.State.{QueueState}
use Rattle.mux_history.specs.declared.ended.Ended.{Ended}
use Rattle.mux_history.specs.declared.why.Why.{Why}
use Rattle.mux_history.specs.Rows.{Row, rows_of, any_of, is_admit, is_run_over, is_lost, losses, Fate, End, Heard}
use Rattle.mux_history.specs.Heard.{next_index}
use Rattle.mux_history.specs.Settings.{by_lists}
use Rattle.mux_history.specs.Log.{next_row}
use Rattle.mux_core.specs.State.{CoreState}
use Rattle.mux_peers.specs.State.{ClientState, ClientsAndQueue}
use Rattle.mux_peers.specs.Among.{AllFit, AreAmong, KeepReading, is_present}

-- each client that was admitted and isn't lost is here
abbrev pub AreHere : List Row → List ClientState → Type 0
AreHere rows cs = (k : ℕ) → any_of is_admit (rows_of k rows) ≡ true
    → is_lost (rows_of k rows) ≡ false → is_present cs k ≡ true

-- how a row ends the run, if it does
abbrev pub end_by : Fate → Option Ended
end_by (End cause) = Some cause
end_by _ = None

-- with its row all clients represent the longer log, which has these losses more
pub record ReceivedBy (noted : List (ℕ × Option Why)) (core' : CoreState) (cs' : List ClientState)
    (up' : QueueState) (ended : Option Ended) (rows : List Row) (row : Row) : Type 0 where
  pub fit : AllFit (row ∷ rows) core' cs' up'
  pub lost : losses (row ∷ rows) ≡ losses rows ++ noted
  pub ended_is : ended ≡ end_by row.fate

-- one payload more, its place counted from 1
abbrev pub ReceivesAll : List ℕ → ℕ → List (ℕ × Option Why) → CoreState → CoreState → List ClientState
    → List ClientState → QueueState → QueueState → Option Ended → Type 0
ReceivesAll p index noted core core' cs cs' up up' ended =
    (pid : ℕ) (picks : List ℕ) (given : List HouseReply) (rows : List Row) → AllFit rows core cs up
    → is_run_over rows ≡ false → AreHere rows cs → index ≡ min (next_index rows) (2 ^ 64 - 1)
    → ReceivedBy noted core' cs' up' ended rows
    (next_row (by_lists core.policy pid picks given) rows (Heard p))

-- the same, and the losses are noted after those of before
pub record ReceivesPayload (p : List ℕ) (index : ℕ) (old new : ClientsAndQueue) (ended : Option Ended) :
    Type 0 where
  pub noted : List (ℕ × Option Why)
  pub leaves : new.clients.leaving ≡ old.clients.leaving ++ noted
  pub receives : ReceivesAll p index noted old.core new.core old.clients.all new.clients.all old.up
      new.up ended
  pub among : AreAmong old.clients.all noted
  pub reading : KeepReading old.clients.all new.clients.all
