-- What is decided of a request to the forwarder.
use Rattle.std.proofs.Common.{◌≡◌, ℕ, Bool, true, false, List, [], ◌∷◌, Option, Some, None, Ok, Err, refl, sym, ap, ◌∙◌, subst}
use Rattle.std.specs.Option.{option_map}
use Rattle.mux_outside.specs.declared.house_mark.HouseMark.{HouseMark as Asked}
use Rattle.mux_outside.specs.declared.house.HouseReply.{HouseReply}
use Rattle.ssh_grammar.specs.Control.{Answer, Control, ForwardAsk, OpenForward, CloseForward}
use Rattle.ssh_grammar.specs.ReadControl.{ControlReading, read_control}
use Rattle.ssh_grammar.specs.Frames.{frame_answer}
use Rattle.ssh_grammar.specs.Said.{after_control, Body, InControl}
use Rattle.mux_history.specs.Controls.{answers_maybe, house_answer, asks_house, is_stop}
use Rattle.mux_messages.specs.declared.control.Control.{Control as Message}
use Rattle.mux_messages.specs.Control.{Skipped, control_of}
use Rattle.mux_peers.specs.declared.decision.Decision.{Decision}
use Rattle.mux_peers.specs.declared.decision.Effect.TheVariants.{Goes}
use Rattle.mux_peers.specs.Asked.{ask_of, reading_asks, sending_asks, RecordsAsks}
use Rattle.mux_peers.specs.Stands.{standing_in}
use Rattle.mux_peers.specs.Decisions.{reading_answer}
use Rattle.mux_peers.specs.Decisions.{outcome_of, Decides, DecidesBy}
use Rattle.mux_peers.proofs.Heeding.{records_none}

abbrev read_as : Skipped → Message → ControlReading
read_as skipped message = Ok (control_of skipped message)

-- a body reads as the message that was read
pub reads_as : (body : List ℕ) (skipped : Skipped) (message variant : Message) → read_control body ≡ Ok (control_of skipped message) → message ≡ variant → read_control body ≡ Ok (control_of skipped variant)
reads_as body skipped message variant e is = e ∙ ap (read_as skipped) is

-- an answer, or none yet, as it is decided
answered : (o : Option Answer) → answers_maybe o ≡ outcome_of (record { recorded = option_map frame_answer o; effect = Goes })
answered None = refl
answered (Some answer) = refl

-- a body of this reading that is a request to the forwarder, is answered with a frame by the reply,
-- and lets its client go on
asks_by : (pid k : ℕ) (body : List ℕ) (r : Control) (given : HouseReply) (answer : Option (List ℕ)) → read_control body ≡ Ok r
    → asks_house r ≡ true → is_stop r ≡ false → after_control r ≡ InControl
    → reading_answer pid k (Some given) true (Ok r) ≡ outcome_of (record { recorded = answer; effect = Goes })
    → Decides pid k true body (Some given) (record { recorded = answer; effect = Goes })
asks_by pid k body r given answer e asks stops mode answers = record {
  asked = sym asks ∙ sym (ap (λ (x : ControlReading). elim x as (λ _. Bool) [ Err fault ↦ false | Ok c ↦ asks_house c ]) e);
  answers = ap (reading_answer pid k (Some given) true) e ∙ answers;
  stops = ap (λ (x : ControlReading). elim x as (λ _. Bool) [ Err fault ↦ false | Ok c ↦ is_stop c ]) e ∙ stops;
  stands = ap (λ (x : ControlReading). standing_in (elim x [ Err fault ↦ InControl | Ok c ↦ after_control c ])) e ∙ ap standing_in mode;
}

-- the same of a decision with the frame of the reply, where that request was reported to the
-- forwarder
decided_by : (May : HouseReply → Type 0) (before now : Option (List Asked)) (pid k id : ℕ) (opening : Bool) (body : List ℕ) (given : HouseReply) (answer : Option (List ℕ)) (d : Decision) → May given
    → answer ≡ option_map frame_answer (house_answer opening id given) → d ≡ record { recorded = answer; effect = Goes } → RecordsAsks before now (sending_asks k (Body body) (Some given))
    → Decides pid k true body (Some given) (record { recorded = option_map frame_answer (house_answer opening id given); effect = Goes })
    → DecidesBy May before now pid k true body d
decided_by May before now pid k id opening body given answer d may f e recorded decides = record {
  given = Some given;
  may = (may, tt);
  recorded = recorded;
  decides = subst (Decides pid k true body (Some given)) (sym (e ∙ ap (λ (x : Option (List ℕ)). record { recorded = x; effect = Goes }) f)) decides;
}

-- what a body that reads so requests
recorded_as : (before now : Option (List Asked)) (k : ℕ) (body : List ℕ) (r : Control) (given : HouseReply) → read_control body ≡ Ok r → RecordsAsks before now (reading_asks k given (Ok r)) → RecordsAsks before now (sending_asks k (Body body) (Some given))
recorded_as before now k body r given e recorded = subst (λ (x : ControlReading). RecordsAsks before now (reading_asks k given x)) (sym e) recorded

pub decides_open : (May : HouseReply → Type 0) (before now : Option (List Asked)) (pid k id : ℕ) (body : List ℕ) (what : ForwardAsk) (given : HouseReply) (answer : Option (List ℕ)) (d : Decision) → May given
    → read_control body ≡ Ok (OpenForward id what) → answer ≡ option_map frame_answer (house_answer true id given) → RecordsAsks before now (ask_of k id true what given ∷ []) → d ≡ record { recorded = answer; effect = Goes } → DecidesBy May before now pid k true body d
decides_open May before now pid k id body what given answer d may e f recorded g =
    decided_by May before now pid k id true body given answer d may f g (recorded_as before now k body (OpenForward id what) given e recorded)
    (asks_by pid k body (OpenForward id what) given (option_map frame_answer (house_answer true id given)) e refl refl refl (answered (house_answer true id given)))

pub decides_close : (May : HouseReply → Type 0) (before now : Option (List Asked)) (pid k id : ℕ) (body : List ℕ) (what : ForwardAsk) (given : HouseReply) (answer : Option (List ℕ)) (d : Decision) → May given
    → read_control body ≡ Ok (CloseForward id what) → answer ≡ option_map frame_answer (house_answer false id given) → RecordsAsks before now (ask_of k id false what given ∷ []) → d ≡ record { recorded = answer; effect = Goes } → DecidesBy May before now pid k true body d
decides_close May before now pid k id body what given answer d may e f recorded g =
    decided_by May before now pid k id false body given answer d may f g (recorded_as before now k body (CloseForward id what) given e recorded)
    (asks_by pid k body (CloseForward id what) given (option_map frame_answer (house_answer false id given)) e refl refl refl (answered (house_answer false id given)))

-- nothing is requested of the forwarder before the hello
pub decides_first : (May : HouseReply → Type 0) (recorded : Option (List Asked)) (pid k : ℕ) (greeted : Bool) (body : List ℕ) (d : Decision) → greeted ≡ false → ((pid k : ℕ) → Decides pid k false body None d) → DecidesBy May recorded recorded pid k greeted body d
decides_first May recorded pid k greeted body d e decides = record {
  given = None;
  may = tt;
  recorded = records_none recorded;
  decides = subst (λ (b : Bool). Decides pid k b body None d) (sym e) (decides pid k);
}
