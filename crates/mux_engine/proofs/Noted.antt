-- What is noted of a forwarder.
use Rattle.std.proofs.Common.{◌≡◌, ℕ, zero, suc, Bool, List, [], ◌∷◌, ◌++◌, take, drop, Option, Some, None, refl, sym, ap, ◌∙◌, subst, append_assoc, append-nil}
use Rattle.std.specs.Prelude.{map}
use Rattle.std.specs.Option.{option_map}
use Rattle.mux_outside.specs.Seen.{Seen}
use Rattle.mux_outside.specs.declared.house.HouseReply.{HouseReply}
use Rattle.mux_outside.specs.declared.house_mark.HouseMark.{HouseMark}
use Rattle.mux_outside.specs.declared.house_mark.HouseMark.TheVariants.{HouseIn, HouseSaid, HouseTook, HouseAsked, HouseAnswer, HouseOrder}
use Rattle.mux_outside.specs.declared.mark.Mark.{Mark}
use Rattle.mux_outside.specs.declared.mark.Mark.TheVariants.{House}
use Rattle.mux_outside.specs.declared.start_ask.StartAsk.{StartAsk}
use Rattle.mux_history.specs.Policy.{Policy}
use Rattle.mux_history.proofs.Wires.{wire-keeps}
use Rattle.mux_state.specs.State.{EngineState}
use Rattle.mux_state.proofs.Twins.{own-silent, stands-alike}
use Rattle.mux_engine.specs.Serving.{Serving}
use Rattle.mux_engine.specs.Sides.{Resting, Side}
use Rattle.mux_engine.proofs.Asks.{EachAsked}
use Rattle.mux_engine.proofs.Called.{calls-recorded}
use Rattle.mux_engine.proofs.Owns.{owns-plain}
use Rattle.mux_engine.proofs.Places.{placed-still}
use Rattle.mux_engine.proofs.Quiet.{serve-quiet}
use Rattle.mux_engine.proofs.Recorded.{records-none, recorded-none}

-- what is seen with these marks of a forwarder
abbrev pub seen-with : List HouseMark → Seen → Seen
seen-with marks seen = record seen { recorded = option_map (λ (m : List Mark). m ++ map (λ (a : HouseMark). House a) marks) seen.recorded }

module _ {May : HouseReply → Type 0} {Rest : Resting} {before : Option (List HouseMark)} {policy : Policy} {pid : ℕ} {start : Option (List Mark)} {held failed : List ℕ} {given : ℕ} {todo : List ℕ} {s : EngineState} where
  -- the first of the requests that are not noted
  note-one : {now : Side} {seen : Seen} (v : Serving May Rest before now policy pid start seen held failed given todo s) (client id : ℕ) (opening : Bool) (ask : StartAsk) (reply : HouseReply) (rest : List HouseMark) → now.unnoted ≡ HouseAsked client id opening ask reply ∷ rest
      → Serving May Rest before (record now { unnoted = rest }) policy pid start (seen-with (HouseAsked client id opening ask reply ∷ []) seen) held failed given todo s
  note-one {now} {seen} v client id opening ask reply rest e =
      let m : HouseMark = HouseAsked client id opening ask reply in
      let alike = own-silent.asked v.journal client id opening ask reply in
      serve-quiet v (record now { unnoted = rest }) (seen-with (m ∷ []) seen) held failed given (House m)
      (record { log = alike.log; blocked = λ t client. refl; unwritten = λ t client. refl; promise = λ picks later. record { takes = tt; waits = tt; speaks = tt; open_streams = tt; answers = tt; after_end = tt; silence = tt }; rested = λ set. tt; absent = λ e. refl; house = refl })
      (stands-alike v.journal (House m ∷ v.journal) v.picked v.replies s v.closed alike v.stands)
      (record { more = []; recorded_is = records-none now.recorded; noted_is = sym e ∙ sym (append-nil now.unnoted); asks_are = refl; opens_are = refl })
      (λ set. calls-recorded now (record now { unnoted = rest }) (m ∷ []) [] (sym e ∙ sym (append-nil now.unnoted)) (sym (append-nil now.calls)))
      refl refl refl v.turns
      (placed-still v (House m) (seen-with (m ∷ []) seen) s ((wire-keeps seen v.journal).note m tt refl v.of_wire) refl refl refl refl refl refl (λ t. refl) (λ t. refl) (λ t. refl)
      (owns-plain v.journal seen (seen-with (m ∷ []) seen) (House m) tt v.places refl refl refl))

  -- as many as were
  pub note-some : (n : ℕ) (asks : List HouseMark) (P : ℕ → Type 0) → EachAsked P asks → {now : Side} {seen : Seen} → Serving May Rest before now policy pid start seen held failed given todo s → now.unnoted ≡ asks
      → Serving May Rest before (record now { unnoted = drop n asks }) policy pid start (seen-with (take n asks) seen) held failed given todo s
  note-some zero asks P each {now} {seen} v e =
      subst (λ (recorded : Option (List Mark)). Serving May Rest before (record now { unnoted = asks }) policy pid start (record seen { recorded = recorded }) held failed given todo s) (sym (recorded-none seen.recorded))
      (subst (λ (l : List HouseMark). Serving May Rest before (record now { unnoted = l }) policy pid start seen held failed given todo s) e v)
  note-some (suc n) [] P each {now} {seen} v e =
      subst (λ (recorded : Option (List Mark)). Serving May Rest before (record now { unnoted = [] }) policy pid start (record seen { recorded = recorded }) held failed given todo s) (sym (recorded-none seen.recorded))
      (subst (λ (l : List HouseMark). Serving May Rest before (record now { unnoted = l }) policy pid start seen held failed given todo s) e v)
  note-some (suc n) (HouseAsked client id opening ask reply ∷ asks) P each {now} {seen} v e =
      let m : HouseMark = HouseAsked client id opening ask reply in
      subst (λ (recorded : Option (List Mark)). Serving May Rest before (record now { unnoted = drop n asks }) policy pid start (record seen { recorded = recorded }) held failed given todo s) (twice m (take n asks) seen.recorded)
      (note-some n asks P each.1 (note-one v client id opening ask reply asks e) refl)
    where
      twice : (m : HouseMark) (ms : List HouseMark) (recorded : Option (List Mark)) → option_map (λ (l : List Mark). l ++ map (λ (a : HouseMark). House a) ms) (option_map (λ (l : List Mark). l ++ House m ∷ []) recorded) ≡ option_map (λ (l : List Mark). l ++ map (λ (a : HouseMark). House a) (m ∷ ms)) recorded
      twice m ms None = refl
      twice m ms (Some l) = ap (λ (x : List Mark). Some x) (append_assoc l (House m ∷ []) (map (λ (a : HouseMark). House a) ms))
  note-some (suc n) (HouseIn ∷ asks) P each v e = absurd each.0
  note-some (suc n) (HouseSaid bytes ∷ asks) P each v e = absurd each.0
  note-some (suc n) (HouseTook size ∷ asks) P each v e = absurd each.0
  note-some (suc n) (HouseAnswer client id reply ∷ asks) P each v e = absurd each.0
  note-some (suc n) (HouseOrder order number ∷ asks) P each v e = absurd each.0
