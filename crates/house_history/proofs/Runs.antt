-- No row drops the forwarder in a run of the program.
use Rattle.std.proofs.Common.{List, [], ◌∷◌, refl, ap, ◌∙◌, subst}
use Rattle.mux_outside.specs.House.{HouseState}
use Rattle.mux_outside.specs.HouseCalls.{Begins}
use Rattle.mux_outside.specs.declared.house.HouseReply.{HouseReply}
use Rattle.mux_history.specs.declared.limits.TheConstants.{HOUSE}
use Rattle.mux_history.specs.Log.{Setting}
use Rattle.mux_history.specs.Right.{AreFresh}
use Rattle.mux_history.specs.Rows.{Row, is_lost, rows_of}
use Rattle.mux_history.specs.Settings.{by_lists}
use Rattle.mux_engine.specs.Called.{calls_in}
use Rattle.house_forward.specs.State.{StandsIn}
use Rattle.house_forward.specs.declared.forwarder_state.ForwarderState.{ForwarderState}
use Rattle.house_history.specs.Runs.{LeadsOn, RunsKeep}
use Rattle.house_history.proofs.Marks.{house-stays}

pub run-stays : {T : Type 0} (May : HouseReply → Type 0) (state : T → HouseState) (house : T) → LeadsOn (state house).stands → RunsKeep May state house
run-stays May state house leads present starts policy pid turns before start seen refused answer run ne small =
    let set : Setting = by_lists policy pid run.choices.picks run.choices.replies in
    let trace = leads (Begins starts ∷ calls_in set run.wire.journal) (run.forwarder.handed ne (Begins starts ∷ []) refl) small in
    ap (λ (rows : List Row). is_lost (rows_of HOUSE rows)) (run.log.whole ne) ∙ house-stays policy pid run.choices.picks run.choices.replies run.wire.journal trace.0 record {
      lawful = run.wire.of_wire.lawful;
      asked = run.wire.of_wire.asked;
      waits = run.marks.written.waits;
      speaks = run.marks.written.speaks;
      answered = run.marks.answered;
      others = run.wire.own_streams.others;
      fresh = subst AreFresh (run.log.whole ne) run.log.fresh;
      starts = starts;
      reached = trace.1;
    }

-- a forwarder represents its calls since the last order, or since before it
pub leads-on : (has : ForwarderState) → LeadsOn (StandsIn has)
leads-on has calls stands small = let lived = stands.since.1 small in (lived.trace, lived.reached)
