-- What the calls of a run leave of its wire.
use Rattle.std.specs.Prelude.{◌≡◌, ◌≤◌, ℕ, [], ◌∷◌, Result, true}
use Rattle.mux_outside.specs.Faults.{Faults}
use Rattle.mux_outside.specs.Seen.{Seen}
use Rattle.mux_outside.specs.WireState.{WireState}
use Rattle.mux_engine.specs.Counted.{CountsOfCall}
use Rattle.mux_engine.specs.OwnFaults.{OwnCounted}

-- it is open as `open` leaves it: the server's stream alone, and clients are accepted
pub record IsWireOpened (seen : Seen) : Type 0 where
  pub server_alone : seen.streams ≡ 0 ∷ []
  pub none_blocked : seen.blocked ≡ []
  pub listens : seen.listens ≡ true
  pub own : seen.own ≡ []
  pub listeners : seen.listeners ≡ []

-- neither the server's stream failed, nor the listening or a client's
pub record NoFault (faults faults' : Faults) : Type 0 where
  pub server : faults'.server ≡ faults.server
  pub client : faults'.client ≡ faults.client

-- it was neither opened nor joined; each order that got no number since is an own fault that was
-- counted; and the count of the server's faults did not fall
pub record KeepsWire (old new : WireState) (faults faults' : Faults) : Type 0 where
  pub openings : new.openings ≡ old.openings
  pub joinings : new.joinings ≡ old.joinings
  pub own_faults : OwnCounted old.seen.recorded new.seen.recorded faults.own faults'.own
  pub later : faults.server ≤ faults'.server

-- something was only recorded of it, or ordered: neither opened, joined, waited at nor written to,
-- and no stream failed but perhaps the master's own
pub record Untouched (old new : WireState) (faults faults' : Faults) : Type 0 where
  pub openings : new.openings ≡ old.openings
  pub joinings : new.joinings ≡ old.joinings
  pub calls : new.calls ≡ old.calls
  pub no_fault : NoFault faults faults'

-- and each order that got no number is an own fault that was counted
pub record IsIdleWire (old new : WireState) (faults faults' : Faults) : Type 0 where
  pub untouched : Untouched old new faults faults'
  pub own_faults : OwnCounted old.seen.recorded new.seen.recorded faults.own faults'.own

-- so many calls of `wait` were made, where running out of memory cut nothing short, and writes
pub record Works {A E : Type 0} (waits : ℕ) (result : Result A E) (old new : WireState)
    (faults faults' : Faults) : Type 0 where
  pub keeps : KeepsWire old new faults faults'
  pub calls : CountsOfCall waits result old.calls new.calls

-- writes to the master's own streams alone
pub record WorksOwn {A E : Type 0} (result : Result A E) (old new : WireState)
    (faults faults' : Faults) : Type 0 where
  pub works : Works 0 result old new faults faults'
  pub no_fault : NoFault faults faults'
