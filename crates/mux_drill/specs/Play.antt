-- How a drill is played, turn by turn.
use Rattle.std.specs.Prelude.{◌≡◌, ℕ, ◌+◌, ◌-◌, ◌==◌, ◌&&◌, not, nat_lt, Bool, true, false, if◌then◌else◌, List, [], length, take, replicate, slice_set}
use Rattle.conf_rules.specs.Texts.{is_empty_list}
use Rattle.mux_outside.specs.Seen.{Seen}
use Rattle.mux_outside.specs.Streams.{among}
use Rattle.mux_outside.specs.declared.own_streams.TheConstants.{LAST_CLIENT}
use Rattle.mux_outside.specs.declared.turn.Turn.{Turn}
use Rattle.mux_outside.specs.declared.turn.Turn.TheVariants.{Accepted, Got, End, Writable, Failed, Joined, NoMemory}
use Rattle.mux_drill.specs.Trace.{spot_after}
use Rattle.mux_drill.specs.Frames.{opener_in}
use Rattle.mux_drill.specs.Inboxes.{unread_at, without_first_message, stands_first, is_all_read}
use Rattle.mux_drill.specs.DrillOutgoing.{Said, gone_on}
use Rattle.mux_drill.specs.Steps.{step_at}
use Rattle.mux_drill.specs.declared.stage.DrillStage.{DrillStage}
use Rattle.mux_drill.specs.declared.stage.DrillStage.TheVariants.{Accepting, Confirming, Unopened}
use Rattle.mux_drill.specs.declared.step.DrillStep.{DrillStep}
use Rattle.mux_drill.specs.declared.plan.Plan.{Plan}
use Rattle.mux_drill.specs.declared.play.Play.{Play}
use Rattle.mux_drill.specs.declared.play.PlayChange.{PlayChange}
use Rattle.mux_drill.specs.declared.play.GivenTurn.{GivenTurn}
use Rattle.mux_drill.specs.declared.play.PlayChange.TheVariants.{Nothing, GoesOn, Takes}

-- ---- the next turn

-- whether a stream has bytes to give
abbrev pub has_bytes_left : Said → Bool
has_bytes_left said = not (is_empty_list said.rest)

-- whether what is outside lets a turn happen: a client comes where it listens and a number is left,
-- an open stream gives bytes or ends, and the server ends where all was read
abbrev pub may_happen : Turn → Seen → List (List ℕ) → Bool
may_happen (Accepted c) seen unread =
    seen.listens && (nat_lt 0 c && (c - 1 == seen.last && nat_lt seen.last LAST_CLIENT))
may_happen (Got t) seen unread = among t seen.streams
may_happen (End t) seen unread = among t seen.streams && (if t == 0 then is_all_read unread else true)
may_happen (Writable t) seen unread = false
may_happen (Failed t) seen unread = false
may_happen (Joined l t) seen unread = false
may_happen NoMemory seen unread = false

-- whether all that a step needs was written, and its turn may happen
abbrev pub is_met : DrillStep → Seen → List (List ℕ) → Bool
is_met step seen unread =
    stands_first 0 step.up unread
    && (stands_first step.client step.down unread && may_happen step.turn seen unread)

-- the step that comes next
abbrev pub next_step : Play → DrillStep
next_step play = step_at play.picks (unread_at 0 play.unread) play.trace.plan play.trace.stage

-- the next turn
abbrev pub next_turn : Play → Seen → Turn
next_turn play seen =
    let step = next_step play in
    let goes_on = if among play.said.stream seen.streams then Got play.said.stream else Failed 0 in
    let begins = if is_met step seen play.unread then step.turn else Failed 0 in
    if has_bytes_left play.said then goes_on else begins

-- the bytes that it gives, if it gives any
abbrev pub next_piece : Play → List ℕ
next_piece play = if has_bytes_left play.said then take 37 play.said.rest else take 37 (next_step play).says

-- ---- what it leaves

-- the stream of a turn
abbrev pub speaker_of : Turn → ℕ
speaker_of (Got t) = t
speaker_of (Accepted c) = c
speaker_of (End t) = t
speaker_of (Writable t) = t
speaker_of (Failed t) = t
speaker_of (Joined l t) = t
speaker_of NoMemory = 0

-- the numbers that the master picked: the server reads one with each open
abbrev pub picks_after : DrillStage → ℕ → List ℕ → List ℕ
picks_after (Confirming c) number picks = slice_set picks c number
picks_after _ number picks = picks

-- after a step was begun: its bytes were read, and a piece of what it sends was given
abbrev pub begun : DrillStep → Play → Play
begun step play = record play {
  trace = spot_after play.trace;
  said = gone_on (record { stream = speaker_of step.turn; rest = step.says });
  unread = without_first_message step.client (length step.down)
      (without_first_message 0 (length step.up) play.unread);
  picks = picks_after play.trace.stage (opener_in (unread_at 0 play.unread)) play.picks;
}

-- after a change
abbrev pub play_changed : PlayChange → Play → Play
play_changed Nothing play = play
play_changed GoesOn play = record play { said = gone_on play.said }
play_changed (Takes step) play = begun step play

-- the change of the next turn
abbrev pub next_change : Play → Seen → PlayChange
next_change play seen =
    let step = next_step play in
    let goes_on = if among play.said.stream seen.streams then GoesOn else Nothing in
    let begins = if is_met step seen play.unread then Takes step else Nothing in
    if has_bytes_left play.said then goes_on else begins

-- the bytes that the turn of a change gives, if it gives any
abbrev pub drill_piece_of : PlayChange → Play → List ℕ
drill_piece_of Nothing play = []
drill_piece_of GoesOn play = take 37 play.said.rest
drill_piece_of (Takes step) play = take 37 step.says

-- a turn, its bytes and what it leaves are the next ones
pub record GivesNextTurn (play : Play) (seen : Seen) (given : GivenTurn) : Type 0 where
  pub turn_is : given.turn ≡ next_turn play seen
  pub change_is : given.change ≡ next_change play seen
  pub piece_is : (t : ℕ) → given.turn ≡ Got t → drill_piece_of given.change play ≡ next_piece play

-- the play after the next turn
abbrev pub next_play : Play → Seen → Play
next_play play seen = play_changed (next_change play seen) play

-- a play at the start of a plan: nothing is sent, written or picked
pub record PlayStarts (plan : Plan) (play : Play) : Type 0 where
  pub trace_is : play.trace ≡ record { plan = plan; stage = Accepting 1 }
  pub sent_is : play.said ≡ record { stream = 0; rest = [] }
  pub unread_is : play.unread ≡ replicate (plan.clients + 1) []
  pub picks_are : play.picks ≡ replicate 65 0

-- no play: nothing is opened, sent, written or picked
pub record IsNothing (play : Play) : Type 0 where
  pub stage_is : play.trace.stage ≡ Unopened
  pub sent_is : play.said ≡ record { stream = 0; rest = [] }
  pub unread_is : play.unread ≡ []
  pub picks_are : play.picks ≡ replicate 65 0
