-- What a client's control message does, from every log that the part represented.
use Rattle.std.specs.Prelude.{◌≡◌, ◌||◌, ◌&&◌, ℕ, false, List, ◌∷◌, Option, Some}
use Rattle.mux_outside.specs.declared.house.HouseReply.{HouseReply}
use Rattle.ssh_grammar.specs.ReadControl.{read_control}
use Rattle.ssh_grammar.specs.Said.{Body}
use Rattle.mux_history.specs.declared.ended.Ended.{Ended}
use Rattle.mux_history.specs.Rows.{Row, rows_of, is_run_over, Says, Fate, End}
use Rattle.mux_history.specs.Controls.{body_stops, client_has_greeted, sent_body}
use Rattle.mux_history.specs.Promises.{serves_stop}
use Rattle.mux_history.specs.Log.{row_of}
use Rattle.mux_peers.specs.declared.decision.Decision.{Decision}
use Rattle.mux_peers.specs.declared.run_change.RunChange.{RunChange}
use Rattle.mux_peers.specs.State.{Part}
use Rattle.mux_peers.specs.Stands.{PartFits, stands_by}
use Rattle.mux_peers.specs.Stands as stands
use Rattle.mux_peers.specs.Decisions.{StandsAs, is_stops, outcome_of, reading_answer}

-- the end of the run, where a row has it
abbrev pub end_in : Fate → Option Ended → Option Ended
end_in (End cause) before = Some cause
end_in _ before = before

-- with a row of what a client sends the part represents the longer log, and what was done beyond
-- the client is what the row does
pub record DoesBody (new : Part) (heard heard' : RunChange) (rows : List Row) (row : Row) : Type 0 where
  pub client_is : row.client ≡ new.peer.number
  pub fits : PartFits (row ∷ rows) new
  pub stops_is : heard'.stops ≡ (heard.stops || serves_stop row (rows_of row.client rows))
  pub ended_is : heard'.ended ≡ end_in row.fate heard.ended

-- a body of which this was decided, with the reply of the forwarder
pub record IsDecided (pid : ℕ) (given : Option HouseReply) (body : List ℕ) (rows : List Row)
    (old : Part) (d : Decision) : Type 0 where
  pub fits : PartFits rows old
  pub live : is_run_over rows ≡ false
  pub here : stands.is_standing_lost old.peer.standing ≡ false
  pub answers : reading_answer pid old.peer.number given (client_has_greeted (rows_of old.peer.number rows))
      (read_control body) ≡ outcome_of d
  pub stops : (client_has_greeted (rows_of old.peer.number rows) && body_stops body) ≡ is_stops d.effect
  pub stands : StandsAs d.effect (stands_by (Body body))

abbrev pub FollowsBy : Decision → Part → RunChange → Part → RunChange → Type 0
FollowsBy d old heard new heard' =
    (pid : ℕ) (given : Option HouseReply) (body : List ℕ) (rows : List Row)
    → IsDecided pid given body rows old d
    → DoesBody new heard heard' rows (row_of (Says old.peer.number (Body body) given) old.peer.number
    (sent_body pid old.peer.number given (client_has_greeted (rows_of old.peer.number rows)) body)
    (rows_of old.peer.number rows))
