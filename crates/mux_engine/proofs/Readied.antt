-- A forwarder that is ready stays so where a client's stream is closed.
use Rattle.std.proofs.Common.{◌≡◌, ◌≢◌, ℕ, true, List, Option, ◌∙◌, inl, inr}
use Rattle.mux_outside.specs.House.{Known, Quiet}
use Rattle.mux_outside.specs.Seen.{Seen, seen_after_close}
use Rattle.mux_outside.specs.Streams.{among, without}
use Rattle.mux_outside.specs.declared.house.HouseReply.{HouseReply}
use Rattle.mux_outside.specs.declared.house_mark.HouseMark.{HouseMark}
use Rattle.mux_outside.specs.declared.mark.Mark.{Mark}
use Rattle.mux_history.specs.Policy.{Policy}
use Rattle.mux_state.specs.State.{EngineState, closed_by}
use Rattle.mux_state.specs.Stands.{IsFirstLost}
use Rattle.mux_engine.specs.Owned.{IsOwnOffered}
use Rattle.mux_engine.specs.Rests.{IsHouseReady}
use Rattle.mux_engine.specs.Serving.{Serving}
use Rattle.mux_engine.specs.Sides.{Housed, Resting, Side}
use Rattle.mux_engine.proofs.Closed.{housed-closed, was-among}
use Rattle.mux_engine.proofs.Left.{own-one}
use Rattle.mux_engine.proofs.Lists.{without-other}

offered-less : (queue held failed : List ℕ) (k t : ℕ) → k ≢ t → IsOwnOffered queue held failed t → IsOwnOffered queue (without k held) failed t
offered-less queue held failed k t other (inl empty) = inl empty
offered-less queue held failed k t other (inr (inl blocked)) = inr (inl (without-other k t held other ∙ blocked))
offered-less queue held failed k t other (inr (inr fails)) = inr (inr fails)

pub ready-closed : {May : HouseReply → Type 0} {Rest : Resting} {before : Option (List HouseMark)} {now : Side} {policy : Policy} {pid : ℕ} {start : Option (List Mark)} {seen : Seen} {held failed : List ℕ} {given : ℕ} {todo : List ℕ} {s : EngineState} (v : Serving May Rest before now policy pid start seen held failed given todo s) (k : ℕ) → IsFirstLost k s.leaving
    → (known : Known) (quiet : Quiet) (queue : ℕ → List ℕ) (fails own : List ℕ) → Housed known seen own → IsHouseReady known quiet queue held fails own s → IsHouseReady known quiet queue (without k held) fails own (closed_by s k)
ready-closed {seen = seen} {held = held} {s = s} v k first known quiet queue fails own housed ready = record {
  no_more = record {
    orders = ready.no_more.orders;
    answers = ready.no_more.answers;
    offered = λ t a. offered-less (queue t) held fails k t (other t a) (ready.no_more.offered t a);
  };
  rests = ready.rests;
}
  where
    shut : Housed known (seen_after_close k seen) own
    shut = housed-closed v k first known own housed

    other : (t : ℕ) → among t own ≡ true → k ≢ t
    other t a = (was-among k t seen.streams (shut.places.opened t (own-one known (seen_after_close k seen) own shut t a))).1
