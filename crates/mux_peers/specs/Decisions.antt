-- What becomes of a control message, as it is decided.
use Rattle.std.specs.Prelude.{◌≡◌, ℕ, ◌&&◌, Bool, true, false, List, [], ◌∷◌, Option, Some, None, is_some, Result}
use Rattle.mux_outside.specs.declared.house_mark.HouseMark.{HouseMark as Asked}
use Rattle.mux_outside.specs.declared.house.HouseReply.{HouseReply}
use Rattle.ssh_grammar.specs.declared.fault.BadControl.{BadControl}
use Rattle.ssh_grammar.specs.Control.{Control}
use Rattle.ssh_grammar.specs.ReadControl.{read_control}
use Rattle.ssh_grammar.specs.Said.{Body}
use Rattle.mux_history.specs.Rows as rows
use Rattle.mux_history.specs.Said.{Outcome}
use Rattle.mux_history.specs.Controls.{body_asks, body_stops, sent_first, sent_later}
use Rattle.mux_history.specs.Promises.{MayGive}
use Rattle.mux_peers.specs.declared.standing.Standing.{Standing}
use Rattle.mux_peers.specs.declared.standing.Standing.TheVariants.{Greeted, Proxied, Unread}
use Rattle.mux_peers.specs.declared.decision.Decision.{Decision}
use Rattle.mux_peers.specs.declared.decision.Effect.{Effect}
use Rattle.mux_peers.specs.declared.decision.Effect.TheVariants.{Goes, Switches, Unreads, Stops, Ends, Drops}
use Rattle.mux_peers.specs.Stands.{stands_by}
use Rattle.mux_peers.specs.Asked.{sending_asks, RecordsAsks}

-- what a body does by its reading, whether its client has greeted, and the reply of the forwarder
abbrev pub reading_answer : ℕ → ℕ → Option HouseReply → Bool → Result Control BadControl → Outcome
reading_answer pid k given has_greeted reading =
    elim has_greeted [ true ↦ sent_later pid k given reading | false ↦ sent_first reading ]

-- the frames of a decision
abbrev pub frames : Option (List ℕ) → List (List ℕ)
frames None = []
frames (Some frame) = frame ∷ []

-- its effect as the log has it: a fate
abbrev pub fate_of : Effect → rows.Fate
fate_of Goes = rows.Goes
fate_of Switches = rows.Goes
fate_of Unreads = rows.Goes
fate_of Stops = rows.Goes
fate_of (Ends cause) = rows.End cause
fate_of (Drops why) = rows.Drop why

-- and all of it
abbrev pub outcome_of : Decision → Outcome
outcome_of d = record { sent = []; recorded = frames d.recorded; ends = fate_of d.effect }

-- no client is to be accepted any more
abbrev pub is_stops : Effect → Bool
is_stops Stops = true
is_stops _ = false

-- how a client stands afterwards, where it goes on
abbrev pub StandsAs : Effect → Standing → Type 0
StandsAs Goes s = s ≡ Greeted
StandsAs Switches s = s ≡ Proxied
StandsAs Unreads s = s ≡ Unread
StandsAs Stops s = s ≡ Greeted
StandsAs (Ends cause) s = Unit {0}
StandsAs (Drops why) s = Unit {0}

-- neither the run ends nor the client is dropped
abbrev pub DecisionGoesOn : Effect → Type 0
DecisionGoesOn (Ends cause) = ⊥
DecisionGoesOn (Drops why) = ⊥
DecisionGoesOn effect = Unit {0}

-- a reply, if there is one
abbrev pub reply_list : Option HouseReply → List HouseReply
reply_list None = []
reply_list (Some given) = given ∷ []

-- what is decided of a body is what it does with this reply of the forwarder, to which the request
-- was made where it must be
pub record Decides (pid k : ℕ) (greeted : Bool) (body : List ℕ) (given : Option HouseReply)
    (d : Decision) : Type 0 where
  pub asked : is_some given ≡ (greeted && body_asks body)
  pub answers : reading_answer pid k given greeted (read_control body) ≡ outcome_of d
  pub stops : (greeted && body_stops body) ≡ is_stops d.effect
  pub stands : StandsAs d.effect (stands_by (Body body))

-- the same with some reply that the forwarder may give; that request was reported to it, or none,
-- and it records `before` and `now`
pub record DecidesBy (May : HouseReply → Type 0) (before now : Option (List Asked)) (pid k : ℕ)
    (greeted : Bool) (body : List ℕ) (d : Decision) : Type 0 where
  pub given : Option HouseReply
  pub may : MayGive May (reply_list given)
  pub recorded : RecordsAsks before now (sending_asks k (Body body) given)
  pub decides : Decides pid k greeted body given d
