-- A step after another is one of the plan, and what was counted goes with it.
use Rattle.std.proofs.Common.{◌≡◌, ◌∙◌, refl, sym, ap, subst, ℕ, suc, ◌+◌, ◌-◌, ◌<◌, ◌≤◌, ◌^◌, Bool, true, false, ◌&&◌, ◌==◌, nat_lt, min, if◌then◌else◌, arith}
use Rattle.std.proofs.lemmas.Bool.Decides.{nat_tests}
use Rattle.mux_outside.specs.Counts.{counted}
use Rattle.mux_outside.specs.declared.turn.Tally.{Tally}
use Rattle.mux_drill.specs.Trace.{IsDrillTrace, drill_stage_after, from_message, drawn_after, counting, tally_at, draws_at, place_of_stage, last_of}
use Rattle.mux_drill.specs.Generator.{drawn, length_of, total_length}
use Rattle.mux_drill.specs.Plan.{IsPlan}
use Rattle.mux_drill.specs.declared.plan.Plan.{Plan}
use Rattle.mux_drill.specs.declared.stage.DrillStage.{DrillStage}
use Rattle.mux_drill.specs.declared.stage.DrillStage.TheVariants.{Unopened, Accepting, Entering, Confirming, Sending, Echoing, Adjusting, Closing, ClosingBack, Leaving, Ending}
use Rattle.mux_drill.proofs.GeneratorLemmas.{length_short, total_short}

-- a tally of five numbers
abbrev tally : ℕ → ℕ → ℕ → ℕ → ℕ → Tally
tally a b c d e = record { clients = a; messages = b; data_up = c; data_down = d; closed = e }

-- what holds of both stages holds of the one that is chosen
chosen : (P : DrillStage → Type 0) (m n : ℕ) (more done : DrillStage)
    → (m < n → P more) → (n ≤ m → P done) → P (if nat_lt m n then more else done)
chosen P m n more done first last = by_case (nat_lt m n) refl
  where
    by_case : (b : Bool) → nat_lt m n ≡ b → P (if b then more else done)
    by_case true e = let less : m < n = grind (arith, nat_tests) in first less
    by_case false e = let most : n ≤ m = grind (arith, nat_tests) in last most

-- a count that is short rises by one
counts : (n : ℕ) → 1 ≤ n → n ≤ 100000 → counted (n - 1) ≡ n
counts n low high = omega arith

-- the lengths of one message more
adds : (seed i : ℕ) → i < 100000
    → min (total_length seed i + length_of (drawn seed (suc i))) (2 ^ 64 - 1) ≡ total_length seed (suc i)
adds seed i low = omega (arith, total_short seed i, length_short (drawn seed (suc i)))

-- the trace at a stage, for what is drawn and counted
abbrev At : Plan → ℕ → Tally → DrillStage → Type 0
At plan x counted_so stage = IsDrillTrace plan stage x counted_so

-- before the messages
at_first : (plan : Plan) → IsPlan plan → At plan plan.seed (tally plan.clients 0 0 0 0) (from_message plan 0)
at_first plan sound =
    chosen (At plan plan.seed (tally plan.clients 0 0 0 0)) 0 plan.messages (Sending 0) (Closing 1)
    (λ some. record { sound = sound; first = omega arith; last = omega arith; drawn_is = refl; tally_is = refl })
    (λ none.
    let zero_is : 0 ≡ plan.messages = omega arith in
    let less : 0 ≡ plan.messages - 1 = omega arith in
    record {
      sound = sound;
      first = omega arith;
      last = sound.some;
      drawn_is = ap (drawn plan.seed) zero_is;
      tally_is = ap (λ n. tally plan.clients n 0 0 0) less
          ∙ ap (λ n. tally plan.clients (plan.messages - 1) (total_length plan.seed n) (total_length plan.seed n) 0) zero_is;
    })

-- after message i
at_next : (plan : Plan) (i : ℕ) → IsPlan plan → i < plan.messages
    → At plan (drawn plan.seed (suc i)) (tally plan.clients i (total_length plan.seed (suc i)) (total_length plan.seed (suc i)) 0)
    (from_message plan (i + 1))
at_next plan i sound low =
    let one : suc i ≡ i + 1 = omega arith in
    let now = tally plan.clients i (total_length plan.seed (suc i)) (total_length plan.seed (suc i)) 0 in
    chosen (At plan (drawn plan.seed (suc i)) now) (i + 1) plan.messages (Sending (i + 1)) (Closing 1)
    (λ more.
    let before : i ≡ i + 1 - 1 = omega arith in
    record {
      sound = sound;
      first = omega arith;
      last = omega arith;
      drawn_is = ap (drawn plan.seed) one;
      tally_is = ap (λ n. tally plan.clients n (total_length plan.seed (suc i)) (total_length plan.seed (suc i)) 0) before
          ∙ ap (λ n. tally plan.clients (i + 1 - 1) (total_length plan.seed n) (total_length plan.seed n) 0) one;
    })
    (λ done.
    let all : suc i ≡ plan.messages = omega arith in
    let before : i ≡ plan.messages - 1 = omega arith in
    record {
      sound = sound;
      first = omega arith;
      last = sound.some;
      drawn_is = ap (drawn plan.seed) all;
      tally_is = ap (λ n. tally plan.clients n (total_length plan.seed (suc i)) (total_length plan.seed (suc i)) 0) before
          ∙ ap (λ n. tally plan.clients (plan.messages - 1) (total_length plan.seed n) (total_length plan.seed n) 0) all;
    })

-- what was counted once the first CLOSE is sent
closing_counts : (plan : Plan) (c : ℕ) → IsPlan plan → (is : Bool) → (c == 1) ≡ is → (more : Bool) → nat_lt 0 plan.messages ≡ more
    → (if is && more then counted (if is then plan.messages - 1 else plan.messages) else (if is then plan.messages - 1 else plan.messages))
    ≡ plan.messages
closing_counts plan c sound true e true some =
    let low : 1 ≤ plan.messages = grind (arith, nat_tests) in
    counts plan.messages low sound.short
closing_counts plan c sound true e false none = grind (arith, nat_tests)
closing_counts plan c sound false e more f = refl

-- the whole tally then
closing_tally : (plan : Plan) (c len : ℕ) → IsPlan plan
    → counting plan (Closing c) len (tally_at (record { plan = plan; stage = Closing c }))
    ≡ tally plan.clients plan.messages (total_length plan.seed plan.messages) (total_length plan.seed plan.messages) 0
closing_tally plan c len sound =
    moved (c == 1) (nat_lt 0 plan.messages)
    ∙ ap (λ n. tally plan.clients n (total_length plan.seed plan.messages) (total_length plan.seed plan.messages) 0)
    (closing_counts plan c sound (c == 1) refl (nat_lt 0 plan.messages) refl)
  where
    moved : (is more : Bool)
        → (if is && more
        then tally plan.clients (counted (if is then plan.messages - 1 else plan.messages)) (total_length plan.seed plan.messages) (total_length plan.seed plan.messages) 0
        else tally plan.clients (if is then plan.messages - 1 else plan.messages) (total_length plan.seed plan.messages) (total_length plan.seed plan.messages) 0)
        ≡ tally plan.clients (if is && more then counted (if is then plan.messages - 1 else plan.messages) else (if is then plan.messages - 1 else plan.messages)) (total_length plan.seed plan.messages) (total_length plan.seed plan.messages) 0
    moved true true = refl
    moved true false = refl
    moved false more = refl

-- a later CLOSE finds all messages counted
later_close : (plan : Plan) (c : ℕ) → 1 ≤ c
    → plan.messages ≡ (if c + 1 == 1 then plan.messages - 1 else plan.messages)
later_close plan c low = grind (arith, nat_tests)

-- so many messages are finished, and so many received
abbrev sums : Plan → ℕ → ℕ → Tally
sums plan i n = tally plan.clients n (total_length plan.seed i) (total_length plan.seed i) 0

-- the message that is sent counts the one before
sending_tally : (plan : Plan) (i len : ℕ) → i < 100000
    → counting plan (Sending i) len (tally_at (record { plan = plan; stage = Sending i }))
    ≡ tally plan.clients i (total_length plan.seed i) (total_length plan.seed i) 0
sending_tally plan i len low = by_case (nat_lt 0 i) refl
  where
    by_case : (b : Bool) → nat_lt 0 i ≡ b
        → (if b then sums plan i (counted (i - 1)) else sums plan i (i - 1)) ≡ sums plan i i
    by_case true e =
        let some : 1 ≤ i = grind (arith, nat_tests) in
        let few : i ≤ 100000 = omega arith in
        ap (sums plan i) (counts i some few)
    by_case false e =
        let none : i - 1 ≡ i = grind (arith, nat_tests) in
        ap (sums plan i) none

-- the step after one is one of the plan, and what was drawn and counted goes with it
pub step_trace : (plan : Plan) (stage : DrillStage) → IsPlan plan → 1 ≤ place_of_stage stage → place_of_stage stage ≤ last_of plan stage
    → IsDrillTrace plan (drill_stage_after plan stage) (drawn_after stage (drawn plan.seed (draws_at plan stage)))
    (counting plan stage (length_of (drawn plan.seed (draws_at plan stage))) (tally_at (record { plan = plan; stage = stage })))
step_trace plan Unopened sound first last =
    record { sound = sound; first = first; last = last; drawn_is = refl; tally_is = refl }
step_trace plan (Accepting c) sound first last =
    let high : c ≤ 100000 = omega (arith, sound.few) in
    record { sound = sound; first = first; last = last; drawn_is = refl; tally_is = ap (λ n. tally n 0 0 0 0) (counts c first high) }
step_trace plan (Entering c) sound first last =
    chosen (At plan plan.seed (tally c 0 0 0 0)) c plan.clients (Accepting (c + 1)) (Confirming 1)
    (λ more.
    let before : c ≡ c + 1 - 1 = omega arith in
    record { sound = sound; first = omega arith; last = omega arith; drawn_is = refl; tally_is = ap (λ n. tally n 0 0 0 0) before })
    (λ done.
    let all : c ≡ plan.clients = omega arith in
    record { sound = sound; first = omega arith; last = sound.some; drawn_is = refl; tally_is = ap (λ n. tally n 0 0 0 0) all })
step_trace plan (Confirming c) sound first last =
    chosen (At plan plan.seed (tally plan.clients 0 0 0 0)) c plan.clients (Confirming (c + 1)) (from_message plan 0)
    (λ more. record { sound = sound; first = omega arith; last = omega arith; drawn_is = refl; tally_is = refl })
    (λ done. at_first plan sound)
step_trace plan (Sending i) sound first last =
    let low : i < 100000 = omega (arith, sound.short) in
    record { sound = sound; first = first; last = last; drawn_is = refl; tally_is = sending_tally plan i (length_of (drawn plan.seed i)) low }
step_trace plan (Echoing i) sound first last =
    let low : i < 100000 = omega (arith, sound.short) in
    record {
      sound = sound;
      first = first;
      last = last;
      drawn_is = refl;
      tally_is = ap (λ n. tally plan.clients i n (total_length plan.seed i) 0) (adds plan.seed i low);
    }
step_trace plan (Adjusting i) sound first last =
    let low : i < 100000 = omega (arith, sound.short) in
    let within : i < plan.messages = omega arith in
    let P : Tally → Type 0 = λ t. At plan (drawn plan.seed (suc i)) t (from_message plan (i + 1)) in
    subst P
    (sym (ap (λ n. tally plan.clients i (total_length plan.seed (suc i)) n 0) (adds plan.seed i low)))
    (at_next plan i sound within)
step_trace plan (Closing c) sound first last =
    let all = tally plan.clients plan.messages (total_length plan.seed plan.messages) (total_length plan.seed plan.messages) 0 in
    let P : Tally → Type 0 = λ t. At plan (drawn plan.seed plan.messages) t (drill_stage_after plan (Closing c)) in
    subst P (sym (closing_tally plan c (length_of (drawn plan.seed plan.messages)) sound))
    (chosen (At plan (drawn plan.seed plan.messages) all) c plan.clients (Closing (c + 1)) (ClosingBack 1)
    (λ more. record {
      sound = sound;
      first = omega arith;
      last = omega arith;
      drawn_is = refl;
      tally_is = ap (λ n. tally plan.clients n (total_length plan.seed plan.messages) (total_length plan.seed plan.messages) 0) (later_close plan c first);
    })
    (λ done. record { sound = sound; first = omega arith; last = sound.some; drawn_is = refl; tally_is = refl }))
step_trace plan (ClosingBack c) sound first last =
    let all = tally plan.clients plan.messages (total_length plan.seed plan.messages) (total_length plan.seed plan.messages) 0 in
    chosen (At plan (drawn plan.seed plan.messages) all) c plan.clients (ClosingBack (c + 1)) (Leaving 1)
    (λ more. record { sound = sound; first = omega arith; last = omega arith; drawn_is = refl; tally_is = refl })
    (λ done. record { sound = sound; first = omega arith; last = sound.some; drawn_is = refl; tally_is = refl })
step_trace plan (Leaving c) sound first last =
    let high : c ≤ 100000 = omega (arith, sound.few) in
    let whole : ℕ → Tally = λ n. tally plan.clients plan.messages (total_length plan.seed plan.messages) (total_length plan.seed plan.messages) n in
    let P : ℕ → Type 0 = λ n. At plan (drawn plan.seed plan.messages) (whole n) (drill_stage_after plan (Leaving c)) in
    subst P (sym (counts c first high))
    (chosen (At plan (drawn plan.seed plan.messages) (whole c)) c plan.clients (Leaving (c + 1)) Ending
    (λ more.
    let before : c ≡ c + 1 - 1 = omega arith in
    record { sound = sound; first = omega arith; last = omega arith; drawn_is = refl; tally_is = ap whole before })
    (λ done.
    let end : c ≡ plan.clients = omega arith in
    record { sound = sound; first = omega arith; last = sound.some; drawn_is = refl; tally_is = ap whole end }))
step_trace plan Ending sound first last =
    record { sound = sound; first = first; last = last; drawn_is = refl; tally_is = refl }

-- the same for values that are equal to those
pub next_trace : (plan : Plan) (stage stage' : DrillStage) (x x' : ℕ) (t t' : Tally) → IsDrillTrace plan stage x t
    → stage' ≡ drill_stage_after plan stage → x' ≡ drawn_after stage x → t' ≡ counting plan stage (length_of x) t
    → IsDrillTrace plan stage' x' t'
next_trace plan stage stage' x x' t t' now stage_is x_is t_is =
    rw (stage_is, x_is, t_is, now.drawn_is, now.tally_is) (step_trace plan stage now.sound now.first now.last)
