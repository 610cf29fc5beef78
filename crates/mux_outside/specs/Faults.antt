-- How often something failed at a wire, and what a failure leaves of the counts.
use Rattle.std.specs.Prelude.{◌≡◌, ◌≤◌, ◌⊎◌, ℕ}
use Rattle.mux_outside.specs.Counts.{Rose}
use Rattle.mux_outside.specs.declared.whose.Whose.{Whose}
use Rattle.mux_outside.specs.declared.whose.Whose.TheVariants.{Server, Client, Own}

-- how often the server's stream failed, the listening or a client's stream, and one of the master's
-- own listeners or streams
pub record Faults : Type 0 where
  pub server : ℕ
  pub client : ℕ
  pub own : ℕ

-- nothing failed
abbrev pub no_faults : Faults
no_faults = record { server = 0; client = 0; own = 0 }

-- the count of the server's faults rose, and the others stay
pub record ServerFault (old new : Faults) : Type 0 where
  pub rose : Rose old.server new.server
  pub client : new.client ≡ old.client
  pub own : new.own ≡ old.own

-- the same of the clients' faults
pub record ClientFault (old new : Faults) : Type 0 where
  pub server : new.server ≡ old.server
  pub rose : Rose old.client new.client
  pub own : new.own ≡ old.own

-- the same of the own ones
pub record OwnFault (old new : Faults) : Type 0 where
  pub server : new.server ≡ old.server
  pub client : new.client ≡ old.client
  pub rose : Rose old.own new.own

-- a stream of this one failed
abbrev pub FaultOf : Whose → Faults → Faults → Type 0
FaultOf Server old new = ServerFault old new
FaultOf (Client k) old new = ClientFault old new
FaultOf Own old new = OwnFault old new

-- the server's stream or the listening failed, or both
pub record OpeningFault (old new : Faults) : Type 0 where
  pub later_server : old.server ≤ new.server
  pub later_client : old.client ≤ new.client
  pub own : new.own ≡ old.own
  pub some : Rose old.server new.server ⊎ Rose old.client new.client
