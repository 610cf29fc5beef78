-- What a turn counts, and how it may end a run.
use Rattle.std.proofs.Common.{◌≡◌, ◌≢◌, ◌≤◌, ◌+◌, ℕ, Bool, true, false, List, Option, Some, None, refl, sym, ap, ◌∙◌, subst, inl, inr, cond, arith}
use Rattle.std.specs.Prelude.{Result, Ok, Err}
use Rattle.std.proofs.lemmas.Bool.{eq-eqb}
use Rattle.mux_outside.specs.Counts.{Rose, counted}
use Rattle.mux_outside.specs.CallCounts.{CallCounts, calls_after_wait, is_starved}
use Rattle.mux_outside.specs.Faults.{FaultOf, Faults}
use Rattle.mux_outside.specs.Wire.{TurnFaults}
use Rattle.mux_outside.specs.declared.mark.Mark.{Mark}
use Rattle.mux_outside.specs.declared.mark.Mark.TheVariants.{Accepts, Gets, Ends, Fails, WriteFails}
use Rattle.mux_outside.specs.declared.turn.Turn.{Turn}
use Rattle.mux_outside.specs.declared.turn.Turn.TheVariants as turn
use Rattle.mux_outside.specs.declared.whose.Whose.{Whose}
use Rattle.mux_outside.specs.declared.whose.Whose.TheVariants.{Server}
use Rattle.mux_history.specs.declared.ended.Ended.{Ended}
use Rattle.mux_history.specs.declared.ended.Ended.TheVariants as ended
use Rattle.mux_state.specs.declared.event.Event.{Event}
use Rattle.mux_state.specs.declared.event.Event.TheVariants.{Accepted, FromClient, ClientEnd, ClientFailed, HouseSays, FromServer, ServerEnd, ServerFailed}
use Rattle.mux_state.specs.Events.{MayEnd, MarkRecords}
use Rattle.mux_engine.specs.Counted.{CountsOfCall, CountsOfCutCall}
use Rattle.mux_engine.specs.Rests.{IsByRow}
use Rattle.mux_engine.specs.Turns.{IsEventOf}
use Rattle.mux_engine.proofs.Arms.{well-wait, whose-server}
use Rattle.mux_engine.proofs.Comes.{StaysBy, came-none, came-wait}

-- ---- calls

counted-most : (n : ℕ) → counted n ≤ n + 1
counted-most n = omega arith

late-wait : (t : Turn) (c : CallCounts) → c.wants ≡ 0 → (calls_after_wait t c).late ≡ c.late
late-wait t c e = ap (λ b. cond b c.late (counted c.late)) (eq-eqb c.wants 0 e)

wants-wait : (b : Bool) (c : CallCounts) → cond b (counted c.wants) c.wants ≤ c.wants + 1
wants-wait true c = counted-most c.wants
wants-wait false c = omega arith

-- a call of wait, whether or not it found memory
pub cut-wait : (t : Turn) (c : CallCounts) → CountsOfCutCall 1 c (calls_after_wait t c)
cut-wait t c = record { few = counted-most c.waits; wants = wants-wait (is_starved t) c; late = late-wait t c; came = came-wait t c }

-- one that found memory, where its turn reported an event
records-event : (e : Event) (t : Turn) (bytes : List ℕ) → IsEventOf e t bytes → is_starved t ≡ false
records-event e (turn.Accepted k) bytes next = refl
records-event e (turn.Got k) bytes next = refl
records-event e (turn.End k) bytes next = refl
records-event e (turn.Failed k) bytes next = refl
records-event e (turn.Writable k) bytes next = absurd next
records-event e (turn.Joined l k) bytes next = absurd next
records-event e turn.NoMemory bytes next = absurd next

pub counts-event : {A E : Type 0} (r : Result A E) (e : Event) (t : Turn) (bytes : List ℕ) (c : CallCounts) → IsEventOf e t bytes → CountsOfCall 1 r c (calls_after_wait t c)
counts-event (Ok x) e t bytes c next = well-wait t c (records-event e t bytes next)
counts-event (Err x) e t bytes c next = cut-wait t c

pub cut-none : (n : ℕ) (c : CallCounts) → CountsOfCutCall n c c
cut-none n c = record { few = omega arith; wants = omega arith; late = λ z. refl; came = came-none c }

-- ---- what a whole run counts

pub none-more : (given turns : ℕ) → given ≤ turns → given + 0 ≤ turns
none-more given turns le = omega arith

pub more-none : (given : ℕ) → given + 0 ≡ given
more-none given = omega arith

-- ---- the server's stream

abbrev IsServerFailed : Event → Type 0
IsServerFailed ServerFailed = Unit {0}
IsServerFailed e = ⊥

failed-by : (e : Event) (o : Option Ended) → MayEnd e o → o ≡ Some ended.ServerFailed → IsServerFailed e
failed-by ServerFailed o may is = tt
failed-by (Accepted k) o may is = absurd (let z : None ≡ Some ended.ServerFailed = sym may ∙ is in cc)
failed-by (ClientEnd k) o may is = absurd (let z : None ≡ Some ended.ServerFailed = sym may ∙ is in cc)
failed-by (ClientFailed k) o may is = absurd (let z : None ≡ Some ended.ServerFailed = sym may ∙ is in cc)
failed-by (HouseSays k id reply) o may is = absurd (let z : None ≡ Some ended.ServerFailed = sym may ∙ is in cc)
failed-by (FromClient k bytes) o may is = absurd (may.0 is)
failed-by (FromServer bytes) o may is = absurd (may.0 is)
failed-by ServerEnd o may is = absurd (may.0 is)

abbrev stream-of : Mark → ℕ
stream-of (Fails k) = k
stream-of mark = 0

failed-stream : (e : Event) (k : ℕ) → IsServerFailed e → MarkRecords e (Fails k) → k ≡ 0
failed-stream ServerFailed k is t = elim t [ inl m ↦ ap stream-of m | inr m ↦ absurd (cc) ]
failed-stream (Accepted j) k is t = absurd is
failed-stream (ClientEnd j) k is t = absurd is
failed-stream (ClientFailed j) k is t = absurd is
failed-stream (HouseSays j id reply) k is t = absurd is
failed-stream (FromClient j bytes) k is t = absurd is
failed-stream (FromServer bytes) k is t = absurd is
failed-stream ServerEnd k is t = absurd is

not-recorded : (e : Event) (mark : Mark) → IsServerFailed e → MarkRecords e mark → (mark ≡ Fails 0 → ⊥) → (mark ≡ WriteFails 0 → ⊥) → ⊥
not-recorded ServerFailed mark is t f g = elim t [ inl m ↦ f m | inr m ↦ g m ]
not-recorded (Accepted j) mark is t f g = is
not-recorded (ClientEnd j) mark is t f g = is
not-recorded (ClientFailed j) mark is t f g = is
not-recorded (HouseSays j id reply) mark is t f g = is
not-recorded (FromClient j bytes) mark is t f g = is
not-recorded (FromServer bytes) mark is t f g = is
not-recorded ServerEnd mark is t f g = is

-- its count rose where a turn ended the run so
rose-by : (e : Event) (t : Turn) (bytes : List ℕ) (f f' : Faults) → IsServerFailed e → IsEventOf e t bytes → TurnFaults t f f' → Rose f.server f'.server
rose-by e (turn.Failed k) bytes f f' is next c =
    let s : FaultOf Server f f' = subst (λ (w : Whose). FaultOf w f f') (whose-server k (eq-eqb k 0 (failed-stream e k is next.1))) c in s.rose
rose-by e (turn.Accepted k) bytes f f' is next c = absurd (not-recorded e (Accepts k) is next (λ z. cc) (λ z. cc))
rose-by e (turn.Got k) bytes f f' is next c = absurd (not-recorded e (Gets k bytes) is next.1 (λ z. cc) (λ z. cc))
rose-by e (turn.End k) bytes f f' is next c = absurd (not-recorded e (Ends k) is next.1 (λ z. cc) (λ z. cc))
rose-by e (turn.Writable k) bytes f f' is next c = absurd next
rose-by e (turn.Joined l k) bytes f f' is next c = absurd next
rose-by e turn.NoMemory bytes f f' is next c = absurd next

pub turn-rose : (e : Event) (o : Option Ended) (t : Turn) (bytes : List ℕ) (f f' : Faults) → MayEnd e o → IsEventOf e t bytes → TurnFaults t f f' → o ≡ Some ended.ServerFailed → Rose f.server f'.server
turn-rose e o t bytes f f' may next c over = rose-by e t bytes f f' (failed-by e o may over) next c

-- ---- how a run ends

-- no event spends the turns
turn-unspent : (e : Event) (o : Option Ended) → MayEnd e o → o ≢ Some ended.Spent
turn-unspent (Accepted k) o may is = let z : None ≡ Some ended.Spent = sym may ∙ is in cc
turn-unspent (ClientEnd k) o may is = let z : None ≡ Some ended.Spent = sym may ∙ is in cc
turn-unspent (ClientFailed k) o may is = let z : None ≡ Some ended.Spent = sym may ∙ is in cc
turn-unspent (HouseSays k id reply) o may is = let z : None ≡ Some ended.Spent = sym may ∙ is in cc
turn-unspent ServerFailed o may is = let z : Some ended.ServerFailed ≡ Some ended.Spent = sym may ∙ is in cc
turn-unspent (FromClient k bytes) o may is = may.1 is
turn-unspent (FromServer bytes) o may is = may.1 is
turn-unspent ServerEnd o may is = may.1 is

-- and none refuses a forwarding that the run began with
turn-permitted : (e : Event) (o : Option Ended) → MayEnd e o → (index : ℕ) → o ≢ Some (ended.StartRefused index)
turn-permitted (Accepted k) o may index is = let z : None ≡ Some (ended.StartRefused index) = sym may ∙ is in cc
turn-permitted (ClientEnd k) o may index is = let z : None ≡ Some (ended.StartRefused index) = sym may ∙ is in cc
turn-permitted (ClientFailed k) o may index is = let z : None ≡ Some (ended.StartRefused index) = sym may ∙ is in cc
turn-permitted (HouseSays k id reply) o may index is = let z : None ≡ Some (ended.StartRefused index) = sym may ∙ is in cc
turn-permitted ServerFailed o may index is = let z : Some ended.ServerFailed ≡ Some (ended.StartRefused index) = sym may ∙ is in cc
turn-permitted (FromClient k bytes) o may index is = may.2 index is
turn-permitted (FromServer bytes) o may index is = may.2 index is
turn-permitted ServerEnd o may index is = may.2 index is

pub turn-by-row : (e : Event) (o : Option Ended) → MayEnd e o → IsByRow o
turn-by-row e o may = record { unspent = turn-unspent e o may; permitted = turn-permitted e o may }

counted-least : (m n : ℕ) → m ≤ n → counted m ≤ counted n
counted-least m n h = omega arith

pub rose-behind : (m n o : ℕ) → m ≤ n → Rose n o → Rose m o
rose-behind m n o h r = let l : n ≤ o = r.later in let c : counted n ≤ o = r.rose in let d : counted m ≤ counted n = counted-least m n h in
    record { later = omega arith; rose = omega arith }

pub later-on : (a b c : ℕ) → a ≤ b → b ≤ c → a ≤ c
later-on a b c f g = omega arith

-- a run that went on is ended by a row, if at all
pub stays-by-row : (old new : Option Ended) (a b : ℕ) → StaysBy old new a b → IsByRow old → IsByRow new
stays-by-row old new a b (inl s) row = subst IsByRow (sym s.0) row
stays-by-row old new a b (inr f) row = record {
  unspent = λ is. let z : Some ended.ServerFailed ≡ Some ended.Spent = sym f.0 ∙ is in cc;
  permitted = λ index is. let z : Some ended.ServerFailed ≡ Some (ended.StartRefused index) = sym f.0 ∙ is in cc;
}
