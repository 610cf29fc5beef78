-- The calls of a wire that are made.
use Rattle.std.specs.Prelude.{◌≡◌, ◌≢◌, ◌≤◌, ◌<◌, ◌+◌, ◌-◌, ◌^◌, ◌⊎◌, min, ℕ, Bool, true, false, Result, Ok, Err}
use Rattle.mux_outside.specs.Counts.{counted}
use Rattle.mux_outside.specs.CallCounts.{CallCounts}
use Rattle.mux_history.specs.declared.ended.Ended.{Ended}
use Rattle.mux_history.specs.declared.ended.Ended.TheVariants.{OutOfMemory, Spent as TurnsSpent}
use Rattle.mux_engine.specs.Came.{Came}

-- so many calls of `wait` were counted, whose count stays at the end of its type
pub record Waited (waits old new : ℕ) : Type 0 where
  pub most : new ≤ old + waits
  pub least : min (old + waits) (2 ^ 64 - 1) ≤ new
  pub fits : old < 2 ^ 64 → new < 2 ^ 64

-- so many calls of `wait`, none that ran out of memory, and none after one that did; no count of
-- what came fell
pub record CountsOfWholeCall (waits : ℕ) (old new : CallCounts) : Type 0 where
  pub waited : Waited waits old.waits new.waits
  pub wants : new.wants ≡ old.wants
  pub late : old.wants ≡ 0 → new.late ≡ old.late
  pub came : Came old new

-- at most so many calls of `wait`, and at most one call that ran out of memory, which was the last
pub record CountsOfCutCall (waits : ℕ) (old new : CallCounts) : Type 0 where
  pub few : new.waits ≤ old.waits + waits
  pub wants : new.wants ≤ old.wants + 1
  pub late : old.wants ≡ 0 → new.late ≡ old.late
  pub came : Came old new

-- running out of memory cuts a call short
abbrev pub CountsOfCall : {A E : Type 0} → ℕ → Result A E → CallCounts → CallCounts → Type 0
CountsOfCall waits (Ok x) old new = CountsOfWholeCall waits old new
CountsOfCall waits (Err e) old new = CountsOfCutCall waits old new

-- a turn of a run: it made one call of `wait`; or none, where there is a forwarder or the run
-- doesn't go on
abbrev pub Turned : Bool → Bool → CallCounts → CallCounts → Type 0
Turned present on old new =
    CountsOfWholeCall 1 old new ⊎ (CountsOfWholeCall 0 old new × ((present ≡ true) ⊎ (on ≡ false)))

-- the turns of a run: where there is no forwarder, it made as many calls of `wait` as it has turns,
-- or one at least where it doesn't go on; where there is one, no more than those
pub record Spent (present all : Bool) (turns : ℕ) (old new : CallCounts) : Type 0 where
  pub few : new.waits ≤ old.waits + turns
  pub all_waited : present ≡ false → all ≡ true → Waited turns old.waits new.waits
  pub one : present ≡ false → all ≡ false → counted old.waits ≤ new.waits
  pub wants : new.wants ≡ old.wants
  pub late : old.wants ≡ 0 → new.late ≡ old.late
  pub came : Came old new

-- of a run: it made no more calls of `wait` than it has turns; if there is no forwarder, it made as
-- many with its turns spent, and no other end but out of memory comes without one; if a call ran
-- out of memory it was the last, and the run ended out of memory
pub record RunStops (present : Bool) (turns : ℕ) (answer : Ended) (old new : CallCounts) : Type 0 where
  pub few : new.waits ≤ old.waits + turns
  pub spent : present ≡ false → answer ≡ TurnsSpent → old.waits < 2 ^ 64
      → new.waits ≡ min (old.waits + turns) (2 ^ 64 - 1)
  pub ends : present ≡ false → answer ≢ TurnsSpent → answer ≢ OutOfMemory
      → counted old.waits ≤ new.waits
  pub wants : new.wants ≤ old.wants + 1
  pub starved : new.wants ≢ old.wants → answer ≡ OutOfMemory
  pub late : old.wants ≡ 0 → new.late ≡ old.late
