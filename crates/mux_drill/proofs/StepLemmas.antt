-- The turns of steps are turns that a wire may give.
use Rattle.std.proofs.Common.{◌≡◌, refl, sym, ap, subst, ℕ, ◌+◌, ◌-◌, ◌<◌, ◌≤◌, Bool, true, false, ◌&&◌, ◌==◌, nat_lt, List, [], ◌∷◌, ◌++◌, length, take, slice_index, IsTrue, not, arith, lit<, length-take}
use Rattle.std.proofs.lemmas.Grind.{common_steps}
use Rattle.conf_rules.specs.Texts.{is_empty_list}
use Rattle.mux_outside.specs.OwnStreams.{is_silent}
use Rattle.mux_outside.specs.Seen.{Seen}
use Rattle.mux_outside.specs.Streams.{among}
use Rattle.mux_outside.specs.Wire.{OwnFits, TurnFits}
use Rattle.mux_outside.specs.declared.own_streams.TheConstants.{LAST_CLIENT}
use Rattle.mux_outside.specs.declared.piece.TheConstants.{LONGEST_PIECE}
use Rattle.mux_outside.specs.declared.turn.Turn.{Turn}
use Rattle.mux_outside.specs.declared.turn.Turn.TheVariants.{Accepted, Got, End, Writable, Failed, Joined, NoMemory}
use Rattle.mux_outside.specs.declared.turn.Want.TheVariants.{Read}
use Rattle.mux_drill.specs.Frames.{confirmation_frame, adjust_frame, data_frame, close_frame, greeting, opener_in}
use Rattle.mux_drill.specs.Inboxes.{stands_first}
use Rattle.mux_drill.specs.Play.{may_happen, is_met}
use Rattle.mux_drill.specs.declared.step.DrillStep.{DrillStep}
use Rattle.mux_drill.specs.Steps.{step_at, message_at}
use Rattle.mux_drill.specs.declared.plan.Plan.{Plan}
use Rattle.mux_drill.specs.declared.stage.DrillStage.{DrillStage}
use Rattle.mux_drill.specs.declared.stage.DrillStage.TheVariants.{Unopened, Accepting, Entering, Confirming, Sending, Echoing, Adjusting, Closing, ClosingBack, Leaving, Ending}

-- a turn that gives bytes has some
abbrev pub SendsSome : Turn → List ℕ → Type 0
SendsSome (Got t) bytes = 0 < length bytes
SendsSome (Accepted c) bytes = Unit {0}
SendsSome (End t) bytes = Unit {0}
SendsSome (Writable t) bytes = Unit {0}
SendsSome (Failed t) bytes = Unit {0}
SendsSome (Joined l t) bytes = Unit {0}
SendsSome NoMemory bytes = Unit {0}

-- a list that isn't empty
abbrev IsNonEmpty : List ℕ → Type 0
IsNonEmpty [] = ⊥
IsNonEmpty (x ∷ xs) = Unit {0}

-- it has an element
some_of : (xs : List ℕ) → IsNonEmpty xs → 0 < length xs
some_of [] h = absurd h
some_of (x ∷ xs) h = omega arith

-- each step of a stream that sends has bytes
pub sends_some : (picks waiting : List ℕ) (plan : Plan) (stage : DrillStage)
    → SendsSome (step_at picks waiting plan stage).turn (step_at picks waiting plan stage).says
unfolding greeting confirmation_frame adjust_frame data_frame close_frame
sends_some picks waiting plan Unopened = tt
sends_some picks waiting plan (Accepting c) = tt
sends_some picks waiting plan (Entering c) = some_of greeting tt
sends_some picks waiting plan (Confirming c) = some_of (confirmation_frame (opener_in waiting) (c - 1)) tt
sends_some picks waiting plan (Sending i) =
    let m = message_at plan i in
    some_of (data_frame (m.client - 1) m.len m.byte) tt
sends_some picks waiting plan (Echoing i) =
    let m = message_at plan i in
    let number = slice_index picks m.client in
    some_of (adjust_frame number m.len ++ data_frame number m.len m.byte) tt
sends_some picks waiting plan (Adjusting i) =
    let m = message_at plan i in
    some_of (adjust_frame (m.client - 1) m.len) tt
sends_some picks waiting plan (Closing c) = some_of (close_frame (c - 1)) tt
sends_some picks waiting plan (ClosingBack c) = some_of (close_frame (slice_index picks c)) tt
sends_some picks waiting plan (Leaving c) = tt
sends_some picks waiting plan Ending = tt

-- both parts of what passes
pub both : (a b : Bool) → (a && b) ≡ true → IsTrue a × IsTrue b
both true b e = (refl, e)
both false b e = (e, cc)

-- the number above the last, where one is left
above : (c last : ℕ) → (nat_lt 0 c && (c - 1 == last && nat_lt last LAST_CLIENT)) ≡ true
    → (c ≡ last + 1) × (last < LAST_CLIENT)
above c last e =
    let is : c ≡ last + 1 = grind (arith, common_steps) in
    let left : last < LAST_CLIENT = grind (arith, common_steps) in
    (is, left)

-- the piece of some bytes
pub piece_fits : (n : ℕ) (bytes : List ℕ) → 0 < n → 0 < length bytes
    → (0 < length (take n bytes)) × (length (take n bytes) ≤ n)
piece_fits n bytes low some = (omega (arith, length-take n bytes), omega (arith, length-take n bytes))

-- at most the longest of a wire
pub piece_short : (bytes : List ℕ) → 0 < length bytes
    → (0 < length (take 37 bytes)) × (length (take 37 bytes) ≤ LONGEST_PIECE)
piece_short bytes some =
    let bounds = piece_fits 37 bytes (lit< tt) some in
    (bounds.0, omega (arith, bounds.1))

-- a stream that sends has bytes
pub speaks_some : (bytes : List ℕ) → not (is_empty_list bytes) ≡ true → 0 < length bytes
speaks_some [] e = cc
speaks_some (x ∷ xs) e = omega arith

-- a turn that may happen fits
pub turn_fits : (turn : Turn) (seen : Seen) (unread : List (List ℕ)) (says : List ℕ)
    → may_happen turn seen unread ≡ true → SendsSome turn says
    → TurnFits turn Read seen (take 37 says)
turn_fits (Accepted c) seen unread says may some =
    let parts = both seen.listens _ may in
    let number = above c seen.last parts.1 in
    (refl, parts.0, number.0, number.1)
turn_fits (Got t) seen unread says may some =
    let bounds = piece_short says some in
    (refl, may, bounds.0, bounds.1)
turn_fits (End t) seen unread says may some = (refl, (both (among t seen.streams) _ may).0)
turn_fits (Writable t) seen unread says may some = cc
turn_fits (Failed t) seen unread says may some = cc
turn_fits (Joined l t) seen unread says may some = cc
turn_fits NoMemory seen unread says may some = tt

-- a step that is met fits
pub begin_fits : (step : DrillStep) (seen : Seen) (unread : List (List ℕ)) (picks waiting : List ℕ) (plan : Plan) (stage : DrillStage)
    (piece : List ℕ) → step ≡ step_at picks waiting plan stage → is_met step seen unread ≡ true → piece ≡ take 37 step.says
    → TurnFits step.turn Read seen piece
begin_fits step seen unread picks waiting plan stage piece is met gives =
    let up = both (stands_first 0 step.up unread) (stands_first step.client step.down unread && may_happen step.turn seen unread) met in
    let down = both (stands_first step.client step.down unread) (may_happen step.turn seen unread) up.1 in
    let P : DrillStep → Type 0 = λ s. SendsSome s.turn s.says in
    rw gives (turn_fits step.turn seen unread step.says down.1 (subst P (sym is) (sends_some picks waiting plan stage)))

-- a turn that may happen is none of the master's own, where there is nothing of its own
pub turn_owns : (turn : Turn) (seen : Seen) (unread : List (List ℕ))
    → may_happen turn seen unread ≡ true → seen.own ≡ [] → OwnFits turn seen
turn_owns (Accepted c) seen unread may none = tt
turn_owns (Got t) seen unread may none = λ _. ap (is_silent t) none
turn_owns (End t) seen unread may none = λ _. ap (is_silent t) none
turn_owns (Writable t) seen unread may none = tt
turn_owns (Failed t) seen unread may none = tt
turn_owns (Joined l t) seen unread may none = cc
turn_owns NoMemory seen unread may none = tt

-- nor is that of a step that is met
pub begin_owns : (step : DrillStep) (seen : Seen) (unread : List (List ℕ))
    → is_met step seen unread ≡ true → seen.own ≡ [] → OwnFits step.turn seen
begin_owns step seen unread met none =
    let up = both (stands_first 0 step.up unread) (stands_first step.client step.down unread && may_happen step.turn seen unread) met in
    let down = both (stands_first step.client step.down unread) (may_happen step.turn seen unread) up.1 in
    turn_owns step.turn seen unread down.1 none
