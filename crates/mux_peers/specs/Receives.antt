-- What the server sends to a client, after the core has received it.
use Rattle.std.specs.Prelude.{◌≡◌, ℕ, List, ◌∷◌, ◌++◌, false, map}
use Rattle.ssh_grammar.specs.Frames.{frame_payload}
use Rattle.mux_history.specs.Rows.{Row, rows_of, Heard, Goes}
use Rattle.mux_history.specs.Pending.{joined, pending_up}
use Rattle.mux_history.specs.Said.{Outcome}
use Rattle.mux_history.specs.Log.{all_recorded, bare_row, row_of}
use Rattle.mux_core.specs.Stands as core
use Rattle.mux_peers.specs.State.{Part}
use Rattle.mux_peers.specs.Stands as stands
use Rattle.mux_peers.specs.Stands.{PartFits, PeerFits}

-- the row of what the server sends to the client, as far as the item goes
abbrev pub received_bare : ℕ → List ℕ → Outcome → Row
received_bare k p o = bare_row (Heard p) k o

-- before it: the core represents the row already, and what waits for the server has what the row
-- sends; the client isn't lost, and the row goes on and records these frames
pub record IsPayloadReceived (fs : List (List ℕ)) (p : List ℕ) (o : Outcome) (rows : List Row) (old : Part) :
    Type 0 where
  pub core : core.CoreRepresents old.core (received_bare old.peer.number p o ∷ rows)
  pub peer : PeerFits (rows_of old.peer.number rows) old.peer.standing old.peer.queue
  pub up : old.up.waiting ≡ pending_up rows ++ joined (map frame_payload o.sent)
  pub here : stands.is_standing_lost old.peer.standing ≡ false
  pub ends : o.ends ≡ Goes
  pub recorded : all_recorded (received_bare old.peer.number p o) (rows_of old.peer.number rows) ≡ fs

-- then the part represents the log with the whole row
pub record ReceivesRecorded (fs : List (List ℕ)) (old new : Part) : Type 0 where
  pub number : new.peer.number ≡ old.peer.number
  pub goes : (p : List ℕ) (o : Outcome) (rows : List Row) → IsPayloadReceived fs p o rows old
      → PartFits (row_of (Heard p) old.peer.number o (rows_of old.peer.number rows) ∷ rows) new
