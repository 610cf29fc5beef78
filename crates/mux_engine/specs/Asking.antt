-- An event of the engine, with what was requested of the forwarder by it, noted at the wire.
use Rattle.std.specs.Prelude.{◌≡◌, ◌⊎◌, ℕ, List, [], ◌++◌, length, map, take, Option, Some, Result, Ok, Err}
use Rattle.std.specs.Option.{option_map}
use Rattle.mux_outside.specs.House.{HouseState, Known}
use Rattle.mux_outside.specs.Seen.{Seen}
use Rattle.mux_outside.specs.declared.house.HouseReply.{HouseReply}
use Rattle.mux_outside.specs.declared.house_mark.HouseMark.{HouseMark}
use Rattle.mux_outside.specs.declared.mark.Mark.{Mark}
use Rattle.mux_outside.specs.declared.mark.Mark.TheVariants.{House}
use Rattle.mux_peers.specs.Asked.{known_after, RecordsAsks}
use Rattle.mux_state.specs.declared.event.Event.{Event}
use Rattle.mux_state.specs.Events.{EndsBy, EngineKeeps, MarkRecords}
use Rattle.mux_state.specs.Stands.{CutsShort, GoesOn}
use Rattle.mux_state.specs.State.{EngineState}

-- the engine applied the event, this was requested of the forwarder, and so many requests were
-- noted
pub record AppliesSo (May : HouseReply → Type 0) (e : Event) (s s' : EngineState) (asks : List HouseMark)
    (recorded recorded' : Option (List HouseMark)) (known known' : Known) (seen seen' : Seen) (n : ℕ) :
    Type 0 where
  pub goes : (mark : Mark) → MarkRecords e mark → GoesOn May (Some []) (Some asks) s s' mark
  pub keeps : EngineKeeps e s s'
  pub ends : (mark : Mark) → MarkRecords e mark → EndsBy e s s' mark
  pub recorded_is : RecordsAsks recorded recorded' asks
  pub known_is : known' ≡ known_after asks known
  pub seen_is : seen' ≡ record seen {
    recorded = option_map (λ (m : List Mark). m ++ map (λ (a : HouseMark). House a) (take n asks)) seen.recorded;
  }

-- there was no memory for the event, and the forwarder recorded perhaps the first of its requests
pub record Unheeded (May : HouseReply → Type 0) (e : Event) (s : EngineState)
    (recorded recorded' : Option (List HouseMark)) (seen seen' : Seen) : Type 0 where
  pub cut : (mark : Mark) → MarkRecords e mark → CutsShort May recorded recorded' s mark
  pub seen_is : seen' ≡ seen

-- all requests were noted; or there was no memory for the event, or to note all of them
abbrev pub Applied : {A E : Type 0} → Result A E → (HouseReply → Type 0) → Event → EngineState → EngineState
    → List HouseMark → Option (List HouseMark) → Option (List HouseMark) → Known → Known → Seen
    → Seen → Type 0
Applied (Ok x) May e s s' asks recorded recorded' known known' seen seen' =
    AppliesSo May e s s' asks recorded recorded' known known' seen seen' (length asks)
Applied (Err x) May e s s' asks recorded recorded' known known' seen seen' =
    Unheeded May e s recorded recorded' seen seen'
    ⊎ ((n : ℕ) × AppliesSo May e s s' asks recorded recorded' known known' seen seen' n)

-- the same of a forwarder
abbrev pub AppliesEvent : {A E : Type 0} → Result A E → (HouseReply → Type 0) → Event → EngineState → EngineState
    → List HouseMark → HouseState → HouseState → Seen → Seen → Type 0
AppliesEvent result May e s s' asks house house' seen seen' =
    Applied result May e s s' asks house.recorded house'.recorded house.known house'.known seen seen'
