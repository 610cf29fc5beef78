-- Where the forwarder of a run listens on this machine.
use Rattle.std.specs.Prelude.{ℕ, ◌≡◌, ◌≢◌, ◌<◌, ◌^◌, true, Bool, List, Option}
use Rattle.std.specs.List.{All}
use Rattle.mux_outside.specs.House.{HouseState}
use Rattle.mux_outside.specs.Seen.{Seen}
use Rattle.mux_outside.specs.declared.house.HouseReply.{HouseReply}
use Rattle.mux_outside.specs.declared.house_mark.HouseMark.{HouseMark}
use Rattle.mux_outside.specs.declared.house_mark.HouseMark.TheVariants.{HouseOrder}
use Rattle.mux_outside.specs.declared.mark.Mark.{Mark}
use Rattle.mux_outside.specs.declared.mark.Mark.TheVariants.{House}
use Rattle.mux_outside.specs.declared.order.Order.{Order}
use Rattle.mux_outside.specs.declared.order.Order.TheVariants.{Listen}
use Rattle.mux_outside.specs.declared.starts.ListenPermit.{ListenPermit}
use Rattle.mux_outside.specs.declared.starts.Starts.{Starts}
use Rattle.mux_history.specs.Policy.{Policy}
use Rattle.mux_history.specs.declared.ended.Ended.{Ended}
use Rattle.mux_history.specs.declared.ended.Ended.TheVariants.{OutOfMemory}
use Rattle.mux_engine.specs.Called.{calls_in}
use Rattle.mux_engine.specs.Run.{IsRun, setting_of}
use Rattle.house_forward.specs.RelayTraces.{accepted_length_in}
use Rattle.house_forward.specs.Rules.{is_permitted_here}
use Rattle.ssh_mux.specs.Starts.{BeganWith, BegunRests}

-- an order to listen is for an end that the list permits
abbrev pub IsPermittedOrder : ListenPermit → Order → Type 0
IsPermittedOrder here (Listen host port) = is_permitted_here here host port ≡ true
IsPermittedOrder here order = Unit {0}

abbrev pub IsPermittedMark : ListenPermit → HouseMark → Type 0
IsPermittedMark here (HouseOrder order number) = IsPermittedOrder here order
IsPermittedMark here mark = Unit {0}

-- and so is what a mark has of one
abbrev pub ListensWherePermitted : ListenPermit → Mark → Type 0
ListensWherePermitted here (House mark) = IsPermittedMark here mark
ListensWherePermitted here mark = Unit {0}

-- each listener on this machine is ordered where the list permits it with which the forwarder
-- began, unless memory ran out or its own streams accepted 2^64 bytes or more in all
abbrev pub RunsListen : {T : Type 0} → (HouseReply → Type 0) → (T → HouseState) → T → Type 0
RunsListen May state house = (present : Bool) (starts : Starts) (policy : Policy) (pid turns : ℕ)
    (before : Option (List HouseMark)) (start : Option (List Mark)) (seen : Seen)
    (refused : Option ℕ) (answer : Ended)
    → (run : IsRun May (BegunRests state present starts).rests (BeganWith starts)
    (state house) present policy pid turns before (state house).recorded start seen refused
    answer)
    → answer ≢ OutOfMemory
    → accepted_length_in (calls_in (setting_of policy pid run.choices) run.wire.journal) < 2 ^ 64
    → All (ListensWherePermitted starts.here) run.wire.journal
