-- How a master ends whose control path was found.
use Rattle.std.specs.Prelude.{◌≡◌, Bool, true, false, IsTrue, Result, Ok, Err}
use Rattle.ssh_mux.specs.declared.ending.Ending.{Ending}
use Rattle.ssh_mux.specs.declared.ending.Ending.TheVariants as endings
use Rattle.ssh_mux.specs.declared.status.Status.{Status}
use Rattle.ssh_mux.specs.declared.status.Status.TheVariants.{Done}

-- whether a master ends so
abbrev pub ends_sharing : Ending → Bool
ends_sharing endings.NotOpened = true
ends_sharing endings.TransportFailed = true
ends_sharing (endings.ServerBroke index why) = true
ends_sharing endings.TurnsSpent = true
ends_sharing endings.StartRefused = true
ends_sharing endings.NoMemory = true
ends_sharing ending = false

-- a master ends well, or by such an ending
abbrev pub EndsMaster : Result Status Ending → Type 0
EndsMaster (Ok status) = status ≡ Done
EndsMaster (Err ending) = IsTrue (ends_sharing ending)

-- only memory may run out
abbrev pub OnlyStarves : {A : Type 0} → Result A Ending → Type 0
OnlyStarves (Ok x) = Unit
OnlyStarves (Err ending) = ending ≡ endings.NoMemory
