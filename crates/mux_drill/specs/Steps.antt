-- The steps of a drill: what has to be written before each, and what it gives.
use Rattle.std.specs.Prelude.{ℕ, suc, ◌-◌, ◌==◌, if◌then◌else◌, List, [], ◌++◌, slice_index}
use Rattle.mux_outside.specs.declared.turn.Turn.{Turn}
use Rattle.mux_outside.specs.declared.turn.Turn.TheVariants.{Accepted, Got, End, Failed}
use Rattle.mux_drill.specs.Frames.{open_frame, confirmation_frame, adjust_frame, data_frame, close_frame, greeting, welcome, opener_in}
use Rattle.mux_drill.specs.Generator.{drawn, drill_message_of}
use Rattle.mux_drill.specs.declared.generator.DrillMessage.{DrillMessage}
use Rattle.mux_drill.specs.declared.plan.Plan.{Plan}
use Rattle.mux_drill.specs.declared.stage.DrillStage.{DrillStage}
use Rattle.mux_drill.specs.declared.stage.DrillStage.TheVariants.{Unopened, Accepting, Entering, Confirming, Sending, Echoing, Adjusting, Closing, ClosingBack, Leaving, Ending}
use Rattle.mux_drill.specs.declared.step.DrillStep.{DrillStep}

-- ---- what is needed and given

-- a turn, before which nothing is needed and which sends nothing
abbrev pub turn_alone : Turn → DrillStep
turn_alone turn = record { up = []; client = 0; down = []; turn = turn; says = [] }

-- message i
abbrev pub message_at : Plan → ℕ → DrillMessage
message_at plan i = drill_message_of plan.clients (drawn plan.seed (suc i)) i

-- the message before message i
abbrev pub message_before : Plan → ℕ → DrillMessage
message_before plan i = drill_message_of plan.clients (drawn plan.seed i) (i - 1)

-- before message i is sent, or the first CLOSE, the adjustment of the message before has to be
-- written to the server
abbrev pub settled_up : DrillMessage → ℕ → List ℕ
settled_up before i = if i == 0 then [] else adjust_frame (before.client - 1) before.len

-- before the first, the last client's welcome has to be written
abbrev pub settled_down : ℕ → ℕ → List ℕ
settled_down clients i = if i == 0 then welcome (clients - 1) else []

-- before an open is confirmed, the welcome of the client before has to be written
abbrev pub welcome_before : ℕ → List ℕ
welcome_before client = if client == 1 then [] else welcome (client - 2)

-- the server confirms the open with this number
abbrev pub confirming : ℕ → ℕ → DrillStep
confirming client number = record {
  up = open_frame number;
  client = client - 1;
  down = welcome_before client;
  turn = Got 0;
  says = confirmation_frame number (client - 1);
}

-- message i is sent
abbrev pub message_step : ℕ → ℕ → DrillMessage → DrillMessage → DrillStep
message_step clients i before m = record {
  up = settled_up before i;
  client = clients;
  down = settled_down clients i;
  turn = Got m.client;
  says = data_frame (m.client - 1) m.len m.byte;
}

-- the server answers it
abbrev pub echoing : ℕ → DrillMessage → DrillStep
echoing number m = record {
  up = data_frame (m.client - 1) m.len m.byte;
  client = 0;
  down = [];
  turn = Got 0;
  says = adjust_frame number m.len ++ data_frame number m.len m.byte;
}

-- its client answers that
abbrev pub adjusting : DrillMessage → DrillStep
adjusting m = record {
  up = [];
  client = m.client;
  down = adjust_frame 0 m.len ++ data_frame 0 m.len m.byte;
  turn = Got m.client;
  says = adjust_frame (m.client - 1) m.len;
}

-- a client sends CLOSE, the first after so many messages
abbrev pub close_step : ℕ → ℕ → DrillMessage → ℕ → DrillStep
close_step clients messages before client = record {
  up = if client == 1 then settled_up before messages else [];
  client = clients;
  down = if client == 1 then settled_down clients messages else [];
  turn = Got client;
  says = close_frame (client - 1);
}

-- ---- the steps

-- the step of a stage, by the numbers that the master picked for the clients and the bytes that
-- wait for the server
abbrev pub step_at : List ℕ → List ℕ → Plan → DrillStage → DrillStep
step_at picks waiting plan Unopened = turn_alone (Failed 0)
step_at picks waiting plan (Accepting c) = turn_alone (Accepted c)
step_at picks waiting plan (Entering c) = record (turn_alone (Got c)) { says = greeting }
step_at picks waiting plan (Confirming c) = confirming c (opener_in waiting)
step_at picks waiting plan (Sending i) =
    message_step plan.clients i (message_before plan i) (message_at plan i)
step_at picks waiting plan (Echoing i) =
    echoing (slice_index picks (message_at plan i).client) (message_at plan i)
step_at picks waiting plan (Adjusting i) = adjusting (message_at plan i)
step_at picks waiting plan (Closing c) =
    close_step plan.clients plan.messages (message_before plan plan.messages) c
step_at picks waiting plan (ClosingBack c) =
    record (turn_alone (Got 0)) { up = close_frame (c - 1); says = close_frame (slice_index picks c) }
step_at picks waiting plan (Leaving c) = record (turn_alone (End c)) { client = c; down = close_frame 0 }
step_at picks waiting plan Ending = turn_alone (End 0)
