use Rattle.std.proofs.Common.{◌≡◌, [], ◌∷◌, ◌++◌, ℕ, Bool, List, Option, true, drop}
use Rattle.mux_outside.specs.declared.house_mark.HouseMark.{HouseMark}
use Rattle.mux_outside.specs.Streams.{among, without}
use Rattle.mux_outside.specs.declared.mark.Mark.{Mark}
use Rattle.mux_history.specs.declared.limits.TheConstants.{HOUSE}
use Rattle.mux_history.specs.Policy.{Policy}
use Rattle.mux_state.specs.Events.{here}
use Rattle.mux_engine.specs.Serving.{Serving}
use Rattle.mux_engine.specs.Sides.{RestsOf, SameSockets, Side}
use Rattle.mux_engine.specs.SilentAnswers.{AcceptsAs}
use Rattle.mux_engine.proofs.Loops.{IsClient}
use Rattle.mux_engine.proofs.Wired.{Worked}
use Rattle.mux_engine.proofs.settling.offer_clients.Given as goal

abbrev pub invariant-loop-stream : goal.invariant-loop-stream
invariant-loop-stream g l = let W = g.W.Wire in let H = g.H.Asks in record {
  serving : (left : List ℕ) (present : Bool) (first : _) (before : Option (List HouseMark)) (now : Side) (policy : Policy) (pid : ℕ) (start : Option (List Mark)) (failed : List ℕ) (given : ℕ) → Serving H.may (RestsOf H.state present first) before now policy pid start (W.state l.fn.wire).seen l.fn.held failed given (0 ∷ (without HOUSE (here l.fn.engine) ++ left)) l.fn.engine
      → Serving H.may (RestsOf H.state present first) before now policy pid start (W.state l.wire).seen l.held failed given (drop l.stream-index l.stream-items ++ (0 ∷ left)) l.engine;
  streams : here l.engine ≡ here l.fn.engine;
  holds : (t : ℕ) → among t l.fn.held ≡ true → among t l.held ≡ true;
  places : SameSockets (W.state l.fn.wire).seen (W.state l.wire).seen;
  clients : (t : ℕ) → among t l.stream-items ≡ true → IsClient l.fn.engine t;
  ended : l.engine.ended ≡ l.fn.engine.ended;
  silence : AcceptsAs (W.state l.wire).seen l.engine;
  wire : Worked 0 (W.state l.fn.wire) (W.state l.wire) (W.faults l.fn.wire) (W.faults l.wire);
  none : l.fn.engine.waiting ≡ [] → l.stream-items ≡ [];
  idle : l.fn.engine.waiting ≡ [] → (l.engine ≡ l.fn.engine) × (l.wire ≡ l.fn.wire);
}
