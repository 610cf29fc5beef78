-- What came at a wire by the time that a run ends, by its counts alone.
use Rattle.std.specs.Prelude.{◌≡◌, ◌≢◌, ◌≤◌, ◌-◌, ◌^◌, min, ℕ, Bool, true, Option, Some, None}
use Rattle.mux_outside.specs.Counts.{counted}
use Rattle.mux_outside.specs.CallCounts.{CallCounts}
use Rattle.mux_history.specs.declared.broke.Break.{Break}
use Rattle.mux_history.specs.declared.broke.Break.TheVariants.{Cut}
use Rattle.mux_history.specs.declared.ended.Ended.{Ended}
use Rattle.mux_history.specs.declared.ended.Ended.TheVariants.{Broke, Disconnected, ServerEnd, Terminated}
use Rattle.mux_history.specs.declared.limits.TheConstants.{HOUSE}

-- a count went up, or stands at the end of its type
abbrev pub WentUp : ℕ → ℕ → Type 0
WentUp before now = counted before ≤ now

-- it didn't fall, except for one that was past the end of its type
abbrev pub NeverFell : ℕ → ℕ → Type 0
NeverFell before now = min before (2 ^ 64 - 1) ≤ now

-- a wire was not opened again, and no count of what came fell
pub record Came (old new : CallCounts) : Type 0 where
  pub opens : new.opens ≡ old.opens
  pub accepts : NeverFell old.accepts new.accepts
  pub server_pieces : NeverFell old.server_pieces new.server_pieces
  pub client_pieces : NeverFell old.client_pieces new.client_pieces
  pub server_ends : NeverFell old.server_ends new.server_ends

-- the server broke the protocol by a piece that it sent, or by an end inside a frame
abbrev pub BrokenBy : Break → CallCounts → CallCounts → Type 0
BrokenBy (Cut have) old new = WentUp old.server_ends new.server_ends
BrokenBy why old new = WentUp old.server_pieces new.server_pieces

-- what came where a run ended so: a piece of the server where it disconnected or broke the protocol,
-- its end where it ended, and a piece of a client where one ended the run
abbrev pub EndedBy : Ended → CallCounts → CallCounts → Type 0
EndedBy ServerEnd old new = WentUp old.server_ends new.server_ends
EndedBy Disconnected old new = WentUp old.server_pieces new.server_pieces
EndedBy (Broke index why) old new = BrokenBy why old new
EndedBy (Terminated client id) old new = WentUp old.client_pieces new.client_pieces
EndedBy cause old new = Unit {0}

-- where it goes on nothing need have come, and nothing where a forwarder ended it, which is no
-- stream of the wire
abbrev pub OverBy : Bool → Option Ended → CallCounts → CallCounts → Type 0
OverBy present None old new = Unit {0}
OverBy present (Some (Terminated client id)) old new =
    (present ≡ true → client ≢ HOUSE) → EndedBy (Terminated client id) old new
OverBy present (Some cause) old new = EndedBy cause old new

-- a run goes on, or this client ended it
abbrev pub EndsFor : ℕ → Option Ended → Type 0
EndsFor client None = Unit {0}
EndsFor client (Some (Terminated k id)) = k ≡ client
EndsFor client (Some cause) = ⊥
