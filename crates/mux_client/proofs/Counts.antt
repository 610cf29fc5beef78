-- The calls that a talk counts.
use Rattle.std.proofs.Common.{◌≡◌, ◌≤◌, ◌+◌, ◌-◌, ◌^◌, ◌∙◌, refl, sym, ap, subst, cond, inl, inr, ℕ, Bool, true, false, List, arith}
use Rattle.std.specs.Prelude.{min, Result, Ok, Err, IfErr, ◌==◌}
use Rattle.std.proofs.lemmas.Bool.{eq-eqb}
use Rattle.mux_outside.specs.Counts.{counted}
use Rattle.mux_outside.specs.CallCounts.{CallCounts, calls_after_wait, counted_if, is_server_end, is_server_piece, is_starved, late_after}
use Rattle.mux_outside.specs.declared.turn.Turn.{Turn}
use Rattle.mux_outside.specs.declared.turn.Turn.TheVariants as turn
use Rattle.mux_client.specs.declared.stage.TalkStage.{TalkStage}
use Rattle.mux_client.specs.declared.stage.TalkStage.TheVariants as stage
use Rattle.mux_client.specs.declared.talked.Talked.{Talked}
use Rattle.mux_client.specs.declared.talked.Talked.TheVariants as talked
use Rattle.mux_client.specs.Client.{TalkState}
use Rattle.mux_client.specs.Counted.{AnsweredBy, CameTo, CountsOfTalk, HasReceived, TalkWaited, CountsOfWholeTalk, TalkCountWentUp}
use Rattle.mux_client.specs.Talking.{BreaksOff, IsAnswerAt, IsTalkDecided, IsOfSink, IsOfTransport, talked_of}

waited-none : (n : ℕ) → TalkWaited 0 n n
waited-none n = record { most = omega arith; least = omega arith; fits = λ h. h }

-- first so many, then so many
waited-on : (m n k a b c : ℕ) → m + n ≡ k → TalkWaited m a b → TalkWaited n b c → TalkWaited k a c
waited-on m n k a b c e v w =
    let f : b ≤ a + m = v.most in let g : c ≤ b + n = w.most in
    let p : min (a + m) (2 ^ 64 - 1) ≤ b = v.least in let q : min (b + n) (2 ^ 64 - 1) ≤ c = w.least in
    record { most = omega arith; least = omega arith; fits = λ h. w.fits (v.fits h) }

-- a count that didn't fall
fell-never : (n : ℕ) → min n (2 ^ 64 - 1) ≤ n
fell-never n = omega arith

fell-then : (a b c : ℕ) → min a (2 ^ 64 - 1) ≤ b → min b (2 ^ 64 - 1) ≤ c → min a (2 ^ 64 - 1) ≤ c
fell-then a b c f g = omega arith

fell-if : (b : Bool) (n : ℕ) → min n (2 ^ 64 - 1) ≤ counted_if b n
fell-if true n = omega arith
fell-if false n = omega arith

pub well-none : (c : CallCounts) → CountsOfWholeTalk 0 c c
well-none c = record { waited = waited-none c.waits; wants = refl; late = λ z. refl; opens = refl; server_pieces = fell-never c.server_pieces; server_ends = fell-never c.server_ends }

pub well-on : (m n k : ℕ) (a b c : CallCounts) → m + n ≡ k → CountsOfWholeTalk m a b → CountsOfWholeTalk n b c → CountsOfWholeTalk k a c
well-on m n k a b c e v w = record { waited = waited-on m n k a.waits b.waits c.waits e v.waited w.waited; wants = w.wants ∙ v.wants; late = λ z. w.late (v.wants ∙ z) ∙ v.late z; opens = w.opens ∙ v.opens; server_pieces = fell-then a.server_pieces b.server_pieces c.server_pieces v.server_pieces w.server_pieces; server_ends = fell-then a.server_ends b.server_ends c.server_ends v.server_ends w.server_ends }

-- a call of wait that found memory
late-one : (c : CallCounts) → c.wants ≡ 0 → late_after c ≡ c.late
late-one c e = ap (λ b. cond b c.late (counted c.late)) (eq-eqb c.wants 0 e)

pub well-wait : (t : Turn) (c : CallCounts) → is_starved t ≡ false → CountsOfWholeTalk 1 c (calls_after_wait t c)
well-wait t c e = record {
  waited = record { most = omega arith; least = omega arith; fits = λ h. omega arith };
  wants = ap (λ b. cond b (counted c.wants) c.wants) e;
  late = late-one c;
  opens = refl;
  server_pieces = fell-if (is_server_piece t) c.server_pieces;
  server_ends = fell-if (is_server_end t) c.server_ends;
}

pub counts-wait : {A : Type 0} (r : Result A Talked) (t : Turn) (c : CallCounts) → is_starved t ≡ false → CountsOfTalk 1 r c (calls_after_wait t c)
counts-wait (Ok x) t c e = well-wait t c e
counts-wait (Err answer) t c e = let w : CountsOfWholeTalk 1 c (calls_after_wait t c) = well-wait t c e in record {
  waited = w.waited;
  wants = omega (arith, w.wants);
  starved = λ ne. absurd (ne w.wants);
  late = w.late;
  opens = w.opens;
  server_pieces = w.server_pieces;
  server_ends = w.server_ends;
}

-- ---- what came

up-stays : (a b c : ℕ) → TalkCountWentUp a b → min b (2 ^ 64 - 1) ≤ c → TalkCountWentUp a c
up-stays a b c f g = omega arith

up-later : (a b c : ℕ) → min a (2 ^ 64 - 1) ≤ b → TalkCountWentUp b c → TalkCountWentUp a c
up-later a b c f g = omega arith

up-if : (b : Bool) (n : ℕ) → b ≡ true → TalkCountWentUp n (counted_if b n)
up-if true n e = omega arith
up-if false n e = absurd (cc)

-- stream 0 gave a piece, or its end
pub piece-came : (k : ℕ) (c : CallCounts) → k ≡ 0 → TalkCountWentUp c.server_pieces (calls_after_wait (turn.Got k) c).server_pieces
piece-came k c zero = up-if (k == 0) c.server_pieces (eq-eqb k 0 zero)

pub end-came : (k : ℕ) (c : CallCounts) → k ≡ 0 → TalkCountWentUp c.server_ends (calls_after_wait (turn.End k) c).server_ends
end-came k c zero = up-if (k == 0) c.server_ends (eq-eqb k 0 zero)

pub wire-answered : (answer : Talked) (a b : CallCounts) → IsOfTransport answer → AnsweredBy answer a b
wire-answered talked.ServerFailed a b h = tt
wire-answered talked.OutOfMemory a b h = tt
wire-answered talked.Done a b h = absurd h
wire-answered (talked.Refused id) a b h = absurd h
wire-answered (talked.BadMaster at) a b h = absurd h
wire-answered talked.WriteFault a b h = absurd h
wire-answered talked.Spent a b h = absurd h

sink-answered : (answer : Talked) (a b : CallCounts) → IsOfSink answer → TalkCountWentUp a.server_pieces b.server_pieces → AnsweredBy answer a b
sink-answered talked.WriteFault a b h up = up
sink-answered talked.OutOfMemory a b h up = tt
sink-answered talked.ServerFailed a b h up = absurd h
sink-answered talked.Done a b h up = absurd h
sink-answered (talked.Refused id) a b h up = absurd h
sink-answered (talked.BadMaster at) a b h up = absurd h
sink-answered talked.Spent a b h up = absurd h

-- a piece came and was read, or the end came: the call goes on or the talk is over by that
pub came-read : {A : Type 0} (r : Result A Talked) (before now : TalkStage) (a b : CallCounts) → IfErr r IsOfSink → TalkCountWentUp a.server_pieces b.server_pieces → CameTo r before now a b
came-read (Ok x) before now a b h up = inr up
came-read (Err answer) before now a b h up = sink-answered answer a b h up

pub came-off : (s : TalkState) (r : Result (Unit {0}) Talked) (a b : CallCounts) → BreaksOff s r → TalkCountWentUp a.server_ends b.server_ends → CameTo r s.stage s.stage a b
came-off s (Ok x) a b h up = inl refl
came-off s (Err answer) a b h up = subst (λ (x : Talked). AnsweredBy x a b) (sym h.2) (inr up)

-- an answer by the stage of the talk
at-answered : (answer : Talked) (at : TalkStage) (queue : List ℕ) (a b : CallCounts) → IsAnswerAt answer at queue → HasReceived stage.Greets at a b → AnsweredBy answer a b
at-answered talked.Done at queue a b h (inl e) = absurd (let z : stage.Granted ≡ stage.Greets = sym h.0 ∙ e in cc)
at-answered talked.Done at queue a b h (inr up) = up
at-answered (talked.Refused id) at queue a b h (inl e) = absurd (let z : stage.Refused id ≡ stage.Greets = sym h ∙ e in cc)
at-answered (talked.Refused id) at queue a b h (inr up) = up
at-answered (talked.BadMaster n) at queue a b h (inl e) = absurd (let z : stage.Broken n ≡ stage.Greets = sym h ∙ e in cc)
at-answered (talked.BadMaster n) at queue a b h (inr up) = inl up
at-answered talked.WriteFault at queue a b h heard = absurd h
at-answered talked.ServerFailed at queue a b h heard = absurd h
at-answered talked.Spent at queue a b h heard = absurd h
at-answered talked.OutOfMemory at queue a b h heard = absurd h

pub decided-answered : (s : TalkState) (r : Result (Unit {0}) Talked) (a b : CallCounts) → IsTalkDecided s r → HasReceived stage.Greets s.stage a b → AnsweredBy (talked_of r) a b
decided-answered s (Ok x) a b h heard = tt
decided-answered s (Err answer) a b h heard = at-answered answer s.stage s.queue a b h heard

-- where some calls came before, or after
pub answered-later : (n : ℕ) (answer : Talked) (a b c : CallCounts) → CountsOfWholeTalk n a b → AnsweredBy answer b c → AnsweredBy answer a c
answered-later n talked.Done a b c w h = up-later a.server_pieces b.server_pieces c.server_pieces w.server_pieces h
answered-later n (talked.Refused id) a b c w h = up-later a.server_pieces b.server_pieces c.server_pieces w.server_pieces h
answered-later n talked.WriteFault a b c w h = up-later a.server_pieces b.server_pieces c.server_pieces w.server_pieces h
answered-later n (talked.BadMaster at) a b c w (inl h) = inl (up-later a.server_pieces b.server_pieces c.server_pieces w.server_pieces h)
answered-later n (talked.BadMaster at) a b c w (inr h) = inr (up-later a.server_ends b.server_ends c.server_ends w.server_ends h)
answered-later n talked.ServerFailed a b c w h = tt
answered-later n talked.Spent a b c w h = tt
answered-later n talked.OutOfMemory a b c w h = tt

pub heard-offered : (n : ℕ) (first before now : TalkStage) (a b c : CallCounts) → now ≡ before → HasReceived first before a b → CountsOfWholeTalk n b c → HasReceived first now a c
heard-offered n first before now a b c same (inl e) w = inl (same ∙ e)
heard-offered n first before now a b c same (inr up) w = inr (up-stays a.server_pieces b.server_pieces c.server_pieces up w.server_pieces)

pub heard-then : (m n : ℕ) (first before now : TalkStage) (a b c : CallCounts) → CountsOfWholeTalk m a b → HasReceived first before a b → CountsOfWholeTalk n b c → HasReceived before now b c → HasReceived first now a c
heard-then m n first before now a b c v (inl e) w (inl f) = inl (f ∙ e)
heard-then m n first before now a b c v (inr up) w (inl f) = inr (up-stays a.server_pieces b.server_pieces c.server_pieces up w.server_pieces)
heard-then m n first before now a b c v heard w (inr up) = inr (up-later a.server_pieces b.server_pieces c.server_pieces v.server_pieces up)
