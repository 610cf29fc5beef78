-- How far a drill has come, and what is counted by then.
use Rattle.std.specs.Prelude.{◌≡◌, ℕ, suc, ◌+◌, ◌-◌, ◌≤◌, ◌==◌, ◌&&◌, nat_lt, min, ◌^◌, if◌then◌else◌}
use Rattle.mux_outside.specs.declared.turn.Tally.{Tally}
use Rattle.mux_outside.specs.Counts.{counted}
use Rattle.mux_drill.specs.Generator.{draw, drawn, total_length}
use Rattle.mux_drill.specs.Plan.{IsPlan}
use Rattle.mux_drill.specs.declared.plan.Plan.{Plan}
use Rattle.mux_drill.specs.declared.stage.DrillStage.{DrillStage}
use Rattle.mux_drill.specs.declared.stage.DrillStage.TheVariants.{Unopened, Accepting, Entering, Confirming, Sending, Echoing, Adjusting, Closing, ClosingBack, Leaving, Ending}

-- a plan, and the step of it that comes next
pub record Spot : Type 0 where
  pub plan : Plan
  pub stage : DrillStage

-- ---- the order of the steps

-- message i, if there is one, else the first CLOSE
abbrev pub from_message : Plan → ℕ → DrillStage
from_message plan i = if nat_lt i plan.messages then Sending i else Closing 1

-- the step after one
abbrev pub drill_stage_after : Plan → DrillStage → DrillStage
drill_stage_after plan Unopened = Unopened
drill_stage_after plan (Accepting c) = Entering c
drill_stage_after plan (Entering c) = if nat_lt c plan.clients then Accepting (c + 1) else Confirming 1
drill_stage_after plan (Confirming c) = if nat_lt c plan.clients then Confirming (c + 1)
    else from_message plan 0
drill_stage_after plan (Sending i) = Echoing i
drill_stage_after plan (Echoing i) = Adjusting i
drill_stage_after plan (Adjusting i) = from_message plan (i + 1)
drill_stage_after plan (Closing c) = if nat_lt c plan.clients then Closing (c + 1) else ClosingBack 1
drill_stage_after plan (ClosingBack c) = if nat_lt c plan.clients then ClosingBack (c + 1) else Leaving 1
drill_stage_after plan (Leaving c) = if nat_lt c plan.clients then Leaving (c + 1) else Ending
drill_stage_after plan Ending = Ending

-- the same of a spot
abbrev pub spot_after : Spot → Spot
spot_after spot = record spot { stage = drill_stage_after spot.plan spot.stage }

-- ---- what is counted before a step

-- the clients accepted
abbrev pub accepted_at : Plan → DrillStage → ℕ
accepted_at plan Unopened = 0
accepted_at plan (Accepting c) = c - 1
accepted_at plan (Entering c) = c
accepted_at plan _ = plan.clients

-- the messages finished: the server has read the adjustment of each
abbrev pub finished_at : Plan → DrillStage → ℕ
finished_at plan Unopened = 0
finished_at plan (Accepting c) = 0
finished_at plan (Entering c) = 0
finished_at plan (Confirming c) = 0
finished_at plan (Sending i) = i - 1
finished_at plan (Echoing i) = i
finished_at plan (Adjusting i) = i
finished_at plan (Closing c) = if c == 1 then plan.messages - 1 else plan.messages
finished_at plan _ = plan.messages

-- the messages whose data the server has read
abbrev pub received_at : Plan → DrillStage → ℕ
received_at plan Unopened = 0
received_at plan (Accepting c) = 0
received_at plan (Entering c) = 0
received_at plan (Confirming c) = 0
received_at plan (Sending i) = i
received_at plan (Echoing i) = i
received_at plan (Adjusting i) = suc i
received_at plan _ = plan.messages

-- the messages whose data a client has read
abbrev pub answered_at : Plan → DrillStage → ℕ
answered_at plan Unopened = 0
answered_at plan (Accepting c) = 0
answered_at plan (Entering c) = 0
answered_at plan (Confirming c) = 0
answered_at plan (Sending i) = i
answered_at plan (Echoing i) = i
answered_at plan (Adjusting i) = i
answered_at plan _ = plan.messages

-- the clients whose channel was closed both ways
abbrev pub closed_at : Plan → DrillStage → ℕ
closed_at plan (Leaving c) = c - 1
closed_at plan Ending = plan.clients
closed_at plan _ = 0

-- all of it
abbrev pub tally_at : Spot → Tally
tally_at spot = record {
  clients = accepted_at spot.plan spot.stage;
  messages = finished_at spot.plan spot.stage;
  data_up = total_length spot.plan.seed (received_at spot.plan spot.stage);
  data_down = total_length spot.plan.seed (answered_at spot.plan spot.stage);
  closed = closed_at spot.plan spot.stage;
}

-- all that a plan has
abbrev pub full_tally : Plan → Tally
full_tally plan = record {
  clients = plan.clients;
  messages = plan.messages;
  data_up = total_length plan.seed plan.messages;
  data_down = total_length plan.seed plan.messages;
  closed = plan.clients;
}

-- ---- what is kept of it

-- the client or message of a step
abbrev pub place_of_stage : DrillStage → ℕ
place_of_stage Unopened = 1
place_of_stage (Accepting c) = c
place_of_stage (Entering c) = c
place_of_stage (Confirming c) = c
place_of_stage (Sending i) = i + 1
place_of_stage (Echoing i) = i + 1
place_of_stage (Adjusting i) = i + 1
place_of_stage (Closing c) = c
place_of_stage (ClosingBack c) = c
place_of_stage (Leaving c) = c
place_of_stage Ending = 1

-- the last one
abbrev pub last_of : Plan → DrillStage → ℕ
last_of plan (Sending i) = plan.messages
last_of plan (Echoing i) = plan.messages
last_of plan (Adjusting i) = plan.messages
last_of plan _ = plan.clients

-- how many numbers were drawn
abbrev pub draws_at : Plan → DrillStage → ℕ
draws_at plan Unopened = 0
draws_at plan (Accepting c) = 0
draws_at plan (Entering c) = 0
draws_at plan (Confirming c) = 0
draws_at plan (Sending i) = i
draws_at plan (Echoing i) = suc i
draws_at plan (Adjusting i) = suc i
draws_at plan _ = plan.messages

-- the number drawn last after a step: a message that is sent draws one
abbrev pub drawn_after : DrillStage → ℕ → ℕ
drawn_after (Sending i) x = draw x
drawn_after _ x = x

-- what was counted after a step, by the length of the message drawn last
abbrev pub counting : Plan → DrillStage → ℕ → Tally → Tally
counting plan (Accepting c) len tally = record tally { clients = counted tally.clients }
counting plan (Sending i) len tally = if nat_lt 0 i
    then record tally { messages = counted tally.messages } else tally
counting plan (Echoing i) len tally =
    record tally { data_up = min (tally.data_up + len) (2 ^ 64 - 1) }
counting plan (Adjusting i) len tally =
    record tally { data_down = min (tally.data_down + len) (2 ^ 64 - 1) }
counting plan (Closing c) len tally =
    if (c == 1) && nat_lt 0 plan.messages
    then record tally { messages = counted tally.messages } else tally
counting plan (Leaving c) len tally = record tally { closed = counted tally.closed }
counting plan _ len tally = tally

-- a step of the plan, the number drawn last and what was counted
pub record IsDrillTrace (plan : Plan) (stage : DrillStage) (x : ℕ) (tally : Tally) : Type 0 where
  pub sound : IsPlan plan
  pub first : 1 ≤ place_of_stage stage
  pub last : place_of_stage stage ≤ last_of plan stage
  pub drawn_is : x ≡ drawn plan.seed (draws_at plan stage)
  pub tally_is : tally ≡ tally_at (record { plan = plan; stage = stage })
