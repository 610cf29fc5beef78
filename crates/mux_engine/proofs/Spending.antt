-- What the turns of a run count, and how the run counts after them.
use Rattle.std.proofs.Common.{◌≡◌, ◌≢◌, ◌≤◌, ◌<◌, ◌+◌, ◌-◌, ◌^◌, ℕ, Bool, true, false, refl, sym, ◌∙◌, subst, inl, inr, arith}
use Rattle.std.specs.Prelude.{min, Result, Ok, Err, IsErr}
use Rattle.std.specs.Result.{result_unwrap_or}
use Rattle.std.proofs.lemmas.Bool.Decides.{eqb_tells}
use Rattle.mux_outside.specs.Counts.{counted}
use Rattle.mux_outside.specs.CallCounts.{CallCounts}
use Rattle.mux_history.specs.declared.ended.Ended.{Ended}
use Rattle.mux_history.specs.declared.ended.Ended.TheVariants as ended
use Rattle.mux_engine.specs.Came.{Came}
use Rattle.mux_engine.specs.Counted.{CountsOfCutCall, Spent, RunStops, Turned, Waited, CountsOfWholeCall}
use Rattle.mux_engine.proofs.Arms.{well-none, well-on}
use Rattle.mux_engine.proofs.Comes.{came-none, came-then}
use Rattle.mux_engine.proofs.Counting.{cut-none}
use Rattle.mux_engine.proofs.Lists.{true-false}

-- ---- turns

pub spent-none : (present : Bool) (c : CallCounts) → Spent present true 0 c c
spent-none present c = record {
  few = omega arith;
  all_waited = λ p q. let w : CountsOfWholeCall 0 c c = well-none c in w.waited;
  one = λ p q. true-false q;
  wants = refl;
  late = λ z. refl;
  came = came-none c;
}

as-well : (present : Bool) (n : ℕ) (a b : CallCounts) → Spent present true n a b → present ≡ false → CountsOfWholeCall n a b
as-well present n a b s p = record { waited = s.all_waited p refl; wants = s.wants; late = s.late; came = s.came }

-- one turn more
pub spent-on : (present : Bool) (n : ℕ) (a b c : CallCounts) → Spent present true n a b → Turned present true b c → Spent present true (n + 1) a c
spent-on present n a b c s (inl w) = let f : b.waits ≤ a.waits + n = s.few in let m : c.waits ≤ b.waits + 1 = w.waited.most in record {
  few = omega arith;
  all_waited = λ p q. let v : CountsOfWholeCall (n + 1) a c = well-on n 1 (n + 1) a b c refl (as-well present n a b s p) w in v.waited;
  one = λ p q. true-false q;
  wants = w.wants ∙ s.wants;
  late = λ z. w.late (s.wants ∙ z) ∙ s.late z;
  came = came-then a b c s.came w.came;
}
spent-on present n a b c s (inr w) = let f : b.waits ≤ a.waits + n = s.few in let m : c.waits ≤ b.waits + 0 = w.0.waited.most in record {
  few = omega arith;
  all_waited = λ p q. elim w.1 [ inl t ↦ true-false (sym t ∙ p) | inr e ↦ true-false e ];
  one = λ p q. true-false q;
  wants = w.0.wants ∙ s.wants;
  late = λ z. w.0.late (s.wants ∙ z) ∙ s.late z;
  came = came-then a b c s.came w.0.came;
}

-- the forwarder used a turn, which waits for none
pub turned-stepped : (present on : Bool) (b c : CallCounts) → (present ≡ false → ⊥) → CountsOfWholeCall 0 b c → Turned present on b c
turned-stepped true on b c there w = inr (w, inl refl)
turned-stepped false on b c there w = absurd (there refl)

-- a wait may have been cut short as memory ran out
pub cut-one-more : (b c : CallCounts) → CountsOfCutCall 0 b c → CountsOfCutCall 1 b c
cut-one-more b c w = let f : c.waits ≤ b.waits + 0 = w.few in record { few = omega arith; wants = w.wants; late = w.late; came = w.came }

counted-on : (n a b c : ℕ) → n ≢ 0 → Waited n a b → min b (2 ^ 64 - 1) ≤ c → counted a ≤ c
counted-on n a b c nz w le = let l : min (a + n) (2 ^ 64 - 1) ≤ b = w.least in omega arith

counted-one : (a b c : ℕ) → Waited 0 a b → Waited 1 b c → counted a ≤ c
counted-one a b c v w = let l : min (a + 0) (2 ^ 64 - 1) ≤ b = v.least in let m : min (b + 1) (2 ^ 64 - 1) ≤ c = w.least in omega arith

none-lost : (on present : Bool) (b c : CallCounts) → Turned present on b c → min b.waits (2 ^ 64 - 1) ≤ c.waits
none-lost on present b c (inl w) = let l : min (b.waits + 1) (2 ^ 64 - 1) ≤ c.waits = w.waited.least in omega arith
none-lost on present b c (inr w) = let l : min (b.waits + 0) (2 ^ 64 - 1) ≤ c.waits = w.0.waited.least in omega arith

few-more : (on present : Bool) (b c : CallCounts) → Turned present on b c → (c.waits ≤ b.waits + 1) × (c.wants ≡ b.wants) × (b.wants ≡ 0 → c.late ≡ b.late)
few-more on present b c (inl w) = (w.waited.most, w.wants, w.late)
few-more on present b c (inr w) = let l : c.waits ≤ b.waits + 0 = w.0.waited.most in (omega arith, w.0.wants, w.0.late)

pub came-turned : (on present : Bool) (b c : CallCounts) → Turned present on b c → Came b c
came-turned on present b c (inl w) = w.came
came-turned on present b c (inr w) = w.0.came

-- the last one
pub spent-over : (present : Bool) (n turns : ℕ) (a b c : CallCounts) → n < turns → Spent present true n a b → Turned present false b c → (n ≡ 0 → present ≡ false → CountsOfWholeCall 1 b c) → Spent present false turns a c
spent-over present n turns a b c less s t first =
    let m = few-more false present b c t in
    let f : b.waits ≤ a.waits + n = s.few in let g : c.waits ≤ b.waits + 1 = m.0 in
    record {
      few = omega arith;
      all_waited = λ p q. true-false (sym q);
      one = λ p q. one p;
      wants = m.1 ∙ s.wants;
      late = λ z. m.2 (s.wants ∙ z) ∙ s.late z;
      came = came-then a b c s.came (came-turned false present b c t);
    }
  where
    one : present ≡ false → counted a.waits ≤ c.waits
    one p = elim (eqb_tells n 0) [
      | inl q ↦ let w : CountsOfWholeCall 1 b c = first q.1 p in counted-one a.waits b.waits c.waits (subst (λ k. Waited k a.waits b.waits) q.1 (s.all_waited p refl)) w.waited
      | inr q ↦ counted-on n a.waits b.waits c.waits q.1 (s.all_waited p refl) (none-lost false present b c t)
    ]

-- one that was cut short as memory ran out
pub spent-cut : (present : Bool) (n turns : ℕ) (a b c : CallCounts) → n < turns → Spent present true n a b → CountsOfCutCall 1 b c → CountsOfCutCall turns a c
spent-cut present n turns a b c less s w =
    let f : b.waits ≤ a.waits + n = s.few in let g : c.waits ≤ b.waits + 1 = w.few in let e : b.wants ≡ a.wants = s.wants in let h : c.wants ≤ b.wants + 1 = w.wants in
    record { few = omega arith; wants = omega arith; late = λ z. w.late (s.wants ∙ z) ∙ s.late z; came = came-then a b c s.came w.came }

pub spent-all : (present : Bool) (n turns : ℕ) (a b : CallCounts) → n ≡ turns → Spent present true n a b → Spent present true turns a b
spent-all present n turns a b e s = subst (λ k. Spent present true k a b) e s

-- ---- a run

all-waited : (n a b : ℕ) → Waited n a b → a < 2 ^ 64 → b ≡ min (a + n) (2 ^ 64 - 1)
all-waited n a b w h = let m : b ≤ a + n = w.most in let l : min (a + n) (2 ^ 64 - 1) ≤ b = w.least in let f : b < 2 ^ 64 = w.fits h in omega arith

some-waited : (n a b : ℕ) → n ≢ 0 → Waited n a b → counted a ≤ b
some-waited n a b nz w = let l : min (a + n) (2 ^ 64 - 1) ≤ b = w.least in omega arith

-- one that was cut short as memory ran out
pub stops-cut : (present : Bool) (turns : ℕ) (a b : CallCounts) → CountsOfCutCall turns a b → RunStops present turns ended.OutOfMemory a b
stops-cut present turns a b c = record {
  few = c.few;
  spent = λ p e h. absurd (let z : ended.OutOfMemory ≡ ended.Spent = e in cc);
  ends = λ p s o. absurd (o refl);
  wants = c.wants;
  starved = λ n. refl;
  late = c.late;
}

-- calls after those that left the counts as they were
pub cut-from : (n : ℕ) (a b c : CallCounts) → b ≡ a → CountsOfCutCall n b c → CountsOfCutCall n a c
cut-from n a b c e w = subst (λ (x : CallCounts). CountsOfCutCall n x c) e w

-- none
pub cut-idle : (n : ℕ) (a b : CallCounts) → b ≡ a → CountsOfCutCall n a b
cut-idle n a b e = subst (λ (x : CallCounts). CountsOfCutCall n a x) (sym e) (cut-none n a)

pub stops-starved : {E : Type 0} (r : Result Ended E) (present : Bool) (turns : ℕ) (a b : CallCounts) → IsErr r → CountsOfCutCall turns a b → RunStops present turns (result_unwrap_or r ended.OutOfMemory) a b
stops-starved (Ok x) present turns a b h c = absurd (let z : false ≡ true = h in cc)
stops-starved (Err e) present turns a b h c = stops-cut present turns a b c

-- turns that were given, and then calls that were cut short as memory ran out
pub spent-cuts : (present all : Bool) (turns : ℕ) (a b c : CallCounts) → Spent present all turns a b → CountsOfCutCall 0 b c → CountsOfCutCall turns a c
spent-cuts present all turns a b c s w =
    let f : b.waits ≤ a.waits + turns = s.few in let g : c.waits ≤ b.waits + 0 = w.few in let e : b.wants ≡ a.wants = s.wants in let h : c.wants ≤ b.wants + 1 = w.wants in
    record { few = omega arith; wants = omega arith; late = λ z. w.late (s.wants ∙ z) ∙ s.late z; came = came-then a b c s.came w.came }

-- turns that were given, and then no wait
pub spent-then : (present all : Bool) (turns : ℕ) (a b c : CallCounts) → Spent present all turns a b → CountsOfWholeCall 0 b c → Spent present all turns a c
spent-then present all turns a b c s w = let f : b.waits ≤ a.waits + turns = s.few in let m : c.waits ≤ b.waits + 0 = w.waited.most in record {
  few = omega arith;
  all_waited = λ p q. let v : CountsOfWholeCall turns a c = well-on turns 0 turns a b c (omega arith) (record { waited = s.all_waited p q; wants = s.wants; late = s.late; came = s.came }) w in v.waited;
  one = λ p q. kept (s.one p q);
  wants = w.wants ∙ s.wants;
  late = λ z. w.late (s.wants ∙ z) ∙ s.late z;
  came = came-then a b c s.came w.came;
}
  where
    kept : counted a.waits ≤ b.waits → counted a.waits ≤ c.waits
    kept h = let l : min (b.waits + 0) (2 ^ 64 - 1) ≤ c.waits = w.waited.least in omega arith

-- a run whose turns were spent, or that something ended
pub stops-spent : (present all : Bool) (turns : ℕ) (answer : Ended) (a b : CallCounts) → Spent present all turns a b → (present ≡ false → all ≡ false → answer ≢ ended.Spent) → (present ≡ false → turns ≡ 0 → answer ≡ ended.Spent) → RunStops present turns answer a b
stops-spent present true turns answer a b s unless none = let e : b.wants ≡ a.wants = s.wants in record {
  few = s.few;
  spent = λ p is h. all-waited turns a.waits b.waits (s.all_waited p refl) h;
  ends = λ p ns no. some-waited turns a.waits b.waits (λ z. ns (none p z)) (s.all_waited p refl);
  wants = omega arith;
  starved = λ n. absurd (n e);
  late = s.late;
}
stops-spent present false turns answer a b s unless none = let e : b.wants ≡ a.wants = s.wants in record {
  few = s.few;
  spent = λ p is h. absurd (unless p refl is);
  ends = λ p ns no. s.one p refl;
  wants = omega arith;
  starved = λ n. absurd (n e);
  late = s.late;
}

pub turned-is : (p q on on' : Bool) (b c : CallCounts) → p ≡ q → on ≡ on' → Turned p on b c → Turned q on' b c
turned-is p q on on' b c e f t = subst (λ (x : Bool). Turned q x b c) f (subst (λ (x : Bool). Turned x on b c) e t)
