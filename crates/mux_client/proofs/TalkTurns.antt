-- A talk at a turn.
use Rattle.std.proofs.Common.{◌≡◌, ◌∙◌, refl, sym, ap, subst, ℕ, Bool, true, false, List, [], ◌∷◌, ◌++◌, Option, Some, None, inl, inr}
use Rattle.std.specs.Prelude.{Result, Ok, Err, IfErr, IsTrue, ◌==◌, ◌||◌}
use Rattle.std.specs.Option.{option_map}
use Rattle.std.proofs.lemmas.Bool.{eqb-true}
use Rattle.std.proofs.lemmas.List.{append-nil}
use Rattle.mux_outside.specs.Seen.{Seen, seen_after_turn, shown_of}
use Rattle.mux_outside.specs.Streams.{among, without}
use Rattle.mux_outside.specs.Faults.{FaultOf, Faults, ServerFault}
use Rattle.mux_outside.specs.Whose.{whose}
use Rattle.mux_outside.specs.declared.mark.Mark.{Mark}
use Rattle.mux_outside.specs.declared.mark.Mark.TheVariants.{Waits, Gets, Ends, Frees, Fails}
use Rattle.mux_outside.specs.declared.turn.Turn.TheVariants as turn
use Rattle.mux_outside.specs.declared.turn.Want.TheVariants.{Read}
use Rattle.mux_client.specs.declared.asks.Asks.{Asks}
use Rattle.mux_client.specs.declared.talked.Talked.{Talked}
use Rattle.mux_client.specs.declared.talked.Talked.TheVariants as talked
use Rattle.mux_client.specs.Client.{TalkState, talk_received, awaited_place, IsTalkSettled}
use Rattle.mux_client.specs.Counted.{StepFaults, WireFaults}
use Rattle.mux_client.specs.Talking.{IsHeld, IsGoing, IsTalkOffered, IsOfSink, BreaksOff, Talking, IsTalk, TalksOn}
use Rattle.mux_client.proofs.JournalGrows.{recorded-two, recorded-none}
use Rattle.mux_client.proofs.TalkSteps.{talk-breaks-off, talk-ends, talk-fails, talk-frees, talk-gets, talk-starved, talk-waits}

-- ---- stream 0 alone

zero-test : (k : ℕ) (b : Bool) → (0 == k) ≡ b → (b || false) ≡ true → k ≡ 0
zero-test k true e f = sym (eqb-true 0 k e)
zero-test k false e f = absurd (let z : false ≡ true = f in cc)

pub is-zero : (k : ℕ) (streams : List ℕ) → streams ≡ 0 ∷ [] → IsTrue (among k streams) → k ≡ 0
is-zero k streams e found = zero-test k (0 == k) refl (subst (λ l. among k l ≡ true) e found)

pub without-held : (held : List ℕ) → IsHeld held → without 0 held ≡ []
without-held held (inl e) = ap (without 0) e
without-held held (inr e) = ap (without 0) e

-- ---- nothing more was shown

pub still-talking : {asks : Asks} {start recorded : Option (List Mark)} {held shown : List ℕ} {s : TalkState} → Talking asks start recorded held shown s → Talking asks start recorded held (shown ++ []) s
still-talking {asks} {start} {recorded} {held} {shown} {s} v = subst (λ x. Talking asks start recorded held x s) (sym (append-nil shown)) v

pub still-over : {asks : Asks} {start recorded : Option (List Mark)} {answer : Talked} (shown : List ℕ) → IsTalk asks answer start recorded shown shown → IsTalk asks answer start recorded (shown ++ []) (shown ++ [])
still-over {asks} {start} {recorded} {answer} shown t = subst (λ x. IsTalk asks answer start recorded x x) (sym (append-nil shown)) t

pub starved : {asks : Asks} {start recorded : Option (List Mark)} {held shown : List ℕ} {s : TalkState} → Talking asks start recorded held shown s → IsTalk asks talked.OutOfMemory start recorded (shown ++ []) (shown ++ [])
starved {shown = shown} v = still-over shown (talk-starved v shown [] (sym (append-nil shown)))

-- ---- a turn

module _ {asks : Asks} {start : Option (List Mark)} (seen : Seen) {held shown : List ℕ} {s : TalkState}
    (v : Talking asks start seen.recorded held shown s) (settled : IsTalkSettled s) (offered : IsTalkOffered held s) (going : IsGoing s.stage s.queue) (now : Seen) where
  -- with the call of wait
  abbrev recorded-waiting : Option (List Mark)
  recorded-waiting = option_map (λ m. m ++ Waits held Read seen.streams (shown_of seen) ∷ []) seen.recorded

  waiting : Talking asks start recorded-waiting held shown s
  waiting = talk-waits v settled offered going seen.streams (shown_of seen)

  pub turn-gets : (k : ℕ) (bytes : List ℕ) → k ≡ 0 → now ≡ seen_after_turn (turn.Got k) held Read bytes seen → Talking asks start now.recorded held shown (talk_received bytes s)
  turn-gets k bytes zero e =
      subst (λ t. Talking asks start t held shown (talk_received bytes s))
      (sym (ap (λ (x : Seen). x.recorded) e ∙ recorded-two (Waits held Read seen.streams (shown_of seen)) (Gets k bytes) seen.recorded ∙ ap (λ n. option_map (λ m. m ++ Gets n bytes ∷ []) recorded-waiting) zero))
      (talk-gets waiting bytes)

  pub turn-ends : (k : ℕ) (bytes : List ℕ) → k ≡ 0 → now ≡ seen_after_turn (turn.End k) held Read bytes seen → awaited_place s.stage ≡ None → Talking asks start now.recorded held shown s
  turn-ends k bytes zero e none =
      subst (λ t. Talking asks start t held shown s)
      (sym (ap (λ (x : Seen). x.recorded) e ∙ recorded-two (Waits held Read seen.streams (shown_of seen)) (Ends k) seen.recorded ∙ ap (λ n. option_map (λ m. m ++ Ends n ∷ []) recorded-waiting) zero))
      (talk-ends waiting none)

  pub turn-breaks : (k : ℕ) (bytes : List ℕ) → k ≡ 0 → now ≡ seen_after_turn (turn.End k) held Read bytes seen → (at : ℕ) → awaited_place s.stage ≡ Some at → IsTalk asks (talked.BadMaster at) start now.recorded shown shown
  turn-breaks k bytes zero e at place =
      subst (λ t. IsTalk asks (talked.BadMaster at) start t shown shown)
      (sym (ap (λ (x : Seen). x.recorded) e ∙ recorded-two (Waits held Read seen.streams (shown_of seen)) (Ends k) seen.recorded ∙ ap (λ n. option_map (λ m. m ++ Ends n ∷ []) recorded-waiting) zero))
      (talk-breaks-off waiting settled at place)

  pub turn-frees : (k : ℕ) (bytes : List ℕ) → k ≡ 0 → now ≡ seen_after_turn (turn.Writable k) held Read bytes seen → Talking asks start now.recorded [] shown s
  turn-frees k bytes zero e =
      subst (λ t. Talking asks start t [] shown s)
      (sym (ap (λ (x : Seen). x.recorded) e ∙ recorded-two (Waits held Read seen.streams (shown_of seen)) (Frees k) seen.recorded ∙ ap (λ n. option_map (λ m. m ++ Frees n ∷ []) recorded-waiting) zero))
      (talk-frees waiting)

  pub turn-fails : (k : ℕ) (bytes : List ℕ) → k ≡ 0 → now ≡ seen_after_turn (turn.Failed k) held Read bytes seen → IsTalk asks talked.ServerFailed start now.recorded shown shown
  turn-fails k bytes zero e =
      subst (λ t. IsTalk asks talked.ServerFailed start t shown shown)
      (sym (ap (λ (x : Seen). x.recorded) e ∙ recorded-two (Waits held Read seen.streams (shown_of seen)) (Fails k) seen.recorded ∙ ap (λ n. option_map (λ m. m ++ Fails n ∷ []) recorded-waiting) zero))
      (talk-fails waiting settled)

  pub turn-starved : (bytes : List ℕ) → now ≡ seen_after_turn turn.NoMemory held Read bytes seen → IsTalk asks talked.OutOfMemory start now.recorded (shown ++ []) (shown ++ [])
  turn-starved bytes e =
      subst (λ t. IsTalk asks talked.OutOfMemory start t (shown ++ []) (shown ++ [])) (sym (ap (λ (x : Seen). x.recorded) e ∙ recorded-none seen.recorded)) (starved v)

-- ---- the end of the master's bytes

pub off-or-on : (s : TalkState) (r : Result (Unit {0}) Talked) (On : Unit {0} → Type 0) (Over : Talked → Type 0) → BreaksOff s r → (awaited_place s.stage ≡ None → On tt) → ((at : ℕ) → awaited_place s.stage ≡ Some at → Over (talked.BadMaster at))
    → TalksOn r On Over
off-or-on s (Ok x) On Over b on over = on b
off-or-on s (Err answer) On Over b on over = subst Over (sym b.2) (over b.0 b.1)

-- ---- faults

no-fault : (answer : Talked) (old new : Faults) → IsOfSink answer → new ≡ old → WireFaults answer old new
no-fault talked.WriteFault old new own same = same
no-fault talked.OutOfMemory old new own same = same
no-fault talked.ServerFailed old new own same = absurd own
no-fault talked.Done old new own same = absurd own
no-fault (talked.Refused id) old new own same = absurd own
no-fault (talked.BadMaster at) old new own same = absurd own
no-fault talked.Spent old new own same = absurd own

pub no-faults : {A : Type 0} (r : Result A Talked) (old new : Faults) → IfErr r IsOfSink → new ≡ old → StepFaults r old new
no-faults (Ok x) old new own same = same
no-faults (Err answer) old new own same = no-fault answer old new own same

-- stream 0 is the server's
pub failed-server : (k : ℕ) (old new : Faults) → k ≡ 0 → FaultOf (whose k) old new → ServerFault old new
failed-server k old new zero f = subst (λ (t : ℕ). FaultOf (whose t) old new) zero f
