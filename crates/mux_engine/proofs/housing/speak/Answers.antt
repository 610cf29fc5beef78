use Rattle.std.proofs.Common.{◌≡◌, ◌+◌, ◌∙◌, ◌∷◌, [], refl, ap, subst, ℕ, Bool, true, false, List, arith}
use Rattle.std.specs.Prelude.{Ok}
use Rattle.mux_outside.specs.House.{Known}
use Rattle.mux_outside.specs.HouseCalls.{calls_of}
use Rattle.mux_outside.specs.WireState.{WireState}
use Rattle.mux_outside.specs.declared.house_mark.HouseMark.TheVariants.{HouseSaid}
use Rattle.mux_outside.proofs.HouseCalls.{hands-then}
use Rattle.mux_engine.proofs.OwnAsks.{applied-counted, house-comes}
use Rattle.mux_engine.proofs.OwnFaults.{own-same, own-then}
use Rattle.mux_engine.specs.Sides.{SameHouse}
use Rattle.mux_engine.proofs.Arms.{on-err}
use Rattle.mux_engine.proofs.Called.{handed-more}
use Rattle.mux_engine.proofs.Cuts.{cut-here}
use Rattle.mux_engine.proofs.Handed.{turn-house}
use Rattle.mux_engine.proofs.Heeding.{applied-streams}
use Rattle.mux_engine.proofs.HouseCalls.{still-handed, streams-note, streams-then}
use Rattle.mux_engine.proofs.Noted.{seen-with}
use Rattle.mux_engine.proofs.Spoken.{IsPiece, Said, asks-ends, cut-said, err-serves, hands-nothing, ok-serves, said-ends, said-applies, said-so, recorded-nothing}
use Rattle.mux_engine.proofs.Wired.{idle-note, untouched-none, untouched-note, untouched-then}
use Rattle.mux_engine.proofs.housing.speak.Given.{Over}
use Rattle.mux_engine.proofs.housing.speak.Goals.{After-event_of_bytes-said, In_ok-note_said, In_ok-says}
use Rattle.mux_engine.proofs.housing.speak.Goals as goal

pub returns-in_err-says-clause-serving : goal.returns-in_err-says-clause-serving
returns-in_err-says-clause-serving g c held failed first calls before policy pid start given hands v = on-err c.from_residual.result _ _ c.from_residual.ensures.0
    (cut-here v (g.H.Asks.state c.says.new.self).recorded _ (given + 1) [] refl c.in_err-says.ensures.gave.recorded refl (omega arith))

-- ---- it sent something

said : (g : Over) (c : In_ok-says g) → c.in_ok-says.field-0 ≡ true → Said (g.H.Asks.state c.args.house.now) (g.H.Asks.state c.says.new.self) c.says.new.into
said g c more = let o = c.says.ensures in said-so c.says.result (g.H.Asks.state c.args.house.now) (g.H.Asks.state c.says.new.self) c.says.new.into (c.in_ok-says.was ∙ ap (λ (b : Bool). Ok b) more) o.gave.recorded c.in_ok-says.ensures.gave.known o.gave.stands o.fits

-- it was noted, and is an event
noted-so : (g : Over) (c : In_ok-note_said g) → (g.W.Wire.state c.note_said.new.self).seen ≡ seen-with (HouseSaid c.says.new.into ∷ []) (g.W.Wire.state c.args.wire.now).seen
noted-so g c = ap (λ (x : WireState). x.seen) c.in_ok-note_said.ensures.state ∙ ap (λ (l : List ℕ). seen-with (HouseSaid l ∷ []) (g.W.Wire.state c.args.wire.now).seen) c.as_bytes.ensures.bytes

piece : (g : Over) (c : After-event_of_bytes-said g) → IsPiece c.event_of_bytes-said.result c.says.new.into
piece g c = let o = c.event_of_bytes-said.ensures in subst (λ (l : List ℕ). IsPiece c.event_of_bytes-said.result l) c.as_bytes-2.ensures.bytes record { is = o.records; few = c.as_bytes-2.ensures.room; are = o.bytes }

pub returns-in_err-note_said-clause-serving : goal.returns-in_err-note_said-clause-serving
returns-in_err-note_said-clause-serving g c held failed first calls before policy pid start given hands v = on-err c.from_residual-in_err-note_said.result _ _ c.from_residual-in_err-note_said.ensures.0
    (cut-said (said g (goal.at.returns-in_err-note_said-clause-serving g c).In_ok-says c.if-not-branch.false) v c.requires.on c.requires.present c.requires.room _ (ap (λ (x : WireState). x.seen.recorded) c.in_err-note_said.ensures.state))

pub returns-in_err-apply-clause-serving : goal.returns-in_err-apply-clause-serving
returns-in_err-apply-clause-serving g c held failed first calls before policy pid start given hands v =
    let p = goal.at.returns-in_err-apply-clause-serving g c in
    on-err c.from_residual-in_err-apply.result _ _ c.from_residual-in_err-apply.ensures.0
    (err-serves c.apply.result _ _ c.in_err-apply.was (said-applies (said g p.In_ok-says c.if-not-branch.false) v c.requires.on c.requires.present c.requires.room (piece g p.After-event_of_bytes-said) c.apply.result c.apply.new.engine c.apply.new.asks (g.H.Asks.state c.apply.new.house) _ (g.W.Wire.state c.apply.new.wire).seen (noted-so g p.In_ok-note_said) c.apply.ensures.applied))

pub returns-clause-serving : goal.returns-clause-serving
returns-clause-serving g c held failed first calls before policy pid start given hands v =
    let p = goal.at.returns-clause-serving g c in
    let d = said g p.In_ok-says c.if-not-branch.false in
    let served = ok-serves c.apply.result _ _ c.in_ok-apply.was (said-applies d v c.requires.on c.requires.present c.requires.room (piece g p.After-event_of_bytes-said) c.apply.result c.apply.new.engine c.apply.new.asks (g.H.Asks.state c.apply.new.house) _ (g.W.Wire.state c.apply.new.wire).seen (noted-so g p.In_ok-note_said) c.apply.ensures.applied) in
    handed-more _ (calls_of c.apply.new.asks) (hands-then (g.H.Asks.state first).stands (g.H.Asks.state c.args.house.now).stands (g.H.Asks.state c.says.new.self).stands calls (calls_of (HouseSaid c.says.new.into ∷ [])) hands d.hands) c.in_ok-apply.ensures.handed served

pub returns-clause-house : goal.returns-clause-house
returns-clause-house g c =
    let H = g.H.Asks in
    record {
      known = subst (λ (k : Known). SameHouse k (H.state c.apply.new.house).known) c.in_ok-says.ensures.gave.known
          (ok-serves c.apply.result _ _ c.in_ok-apply.was (turn-house c.apply.result H.may c.event_of_bytes-said.result _ _ c.apply.new.asks _ _ (H.state c.says.new.self).known (H.state c.apply.new.house).known _ _ c.apply.ensures.applied));
      must = c.apply.ensures.must ∙ c.says.ensures.gave.must;
    }

pub returns-clause-ends : goal.returns-clause-ends
returns-clause-ends g c held failed served =
    let p = goal.at.returns-clause-ends g c in
    let e = piece g p.After-event_of_bytes-said in
    asks-ends c.event_of_bytes-said.result c.says.new.into _ e.is (ok-serves c.apply.result _ _ c.in_ok-apply.was (said-ends (said g p.In_ok-says c.if-not-branch.false) served.serving c.requires.on c.requires.present c.requires.room e c.apply.result c.apply.new.engine c.apply.new.asks (g.H.Asks.state c.apply.new.house) _ (g.W.Wire.state c.apply.new.wire).seen c.apply.ensures.applied))

-- ---- nothing is sent

pub returns-then-not-branch-clause-serving : goal.returns-then-not-branch-clause-serving
returns-then-not-branch-clause-serving g c held failed first calls before policy pid start given hands v =
    let H = g.H.Asks in
    let none : c.says.result ≡ Ok false = c.in_ok-says.was ∙ ap (λ (b : Bool). Ok b) c.if-not-branch.true in
    still-handed (H.state c.says.new.self).known hands (hands-nothing (H.state c.args.house.now).stands (H.state c.says.new.self).stands c.says.result c.says.new.into none c.says.ensures.gave.stands)
    (recorded-nothing c.says.result c.says.new.into (H.state c.args.house.now).recorded (H.state c.says.new.self).recorded none c.says.ensures.gave.recorded) c.in_ok-says.ensures.gave.known v

-- ---- the wire

pub returns-in_err-note_said-clause-streams : goal.returns-in_err-note_said-clause-streams
returns-in_err-note_said-clause-streams g c = streams-note c.note_said.result (HouseSaid c.as_bytes.result.now) _ _ (ap (λ (x : WireState). x.seen) c.note_said.ensures.state)

pub returns-in_err-apply-clause-streams : goal.returns-in_err-apply-clause-streams
returns-in_err-apply-clause-streams g c =
    streams-then _ _ _ (streams-note c.note_said.result (HouseSaid c.as_bytes.result.now) _ _ (ap (λ (x : WireState). x.seen) c.note_said.ensures.state)) (applied-streams c.apply.result g.H.Asks.may c.event_of_bytes-said.result _ _ c.apply.new.asks _ _ _ _ _ _ c.apply.ensures.applied)

pub returns-clause-streams : goal.returns-clause-streams
returns-clause-streams g c =
    streams-then _ _ _ (streams-note c.note_said.result (HouseSaid c.as_bytes.result.now) _ _ (ap (λ (x : WireState). x.seen) c.note_said.ensures.state)) (applied-streams c.apply.result g.H.Asks.may c.event_of_bytes-said.result _ _ c.apply.new.asks _ _ _ _ _ _ c.apply.ensures.applied)

pub returns-in_err-says-clause-wire : goal.returns-in_err-says-clause-wire
returns-in_err-says-clause-wire g c = untouched-none _ _

pub returns-then-not-branch-clause-wire : goal.returns-then-not-branch-clause-wire
returns-then-not-branch-clause-wire g c = untouched-none _ _

pub returns-in_err-note_said-clause-wire : goal.returns-in_err-note_said-clause-wire
returns-in_err-note_said-clause-wire g c = untouched-note c.note_said.result (HouseSaid c.as_bytes.result.now) c.note_said.ensures.state c.note_said.ensures.faults

pub returns-in_err-apply-clause-wire : goal.returns-in_err-apply-clause-wire
returns-in_err-apply-clause-wire g c = untouched-then (untouched-note c.note_said.result (HouseSaid c.as_bytes.result.now) c.note_said.ensures.state c.note_said.ensures.faults) c.apply.ensures.wire

pub returns-clause-wire : goal.returns-clause-wire
returns-clause-wire g c = untouched-then (untouched-note c.note_said.result (HouseSaid c.as_bytes.result.now) c.note_said.ensures.state c.note_said.ensures.faults) c.apply.ensures.wire

-- ---- own faults

pub returns-in_err-says-clause-counted : goal.returns-in_err-says-clause-counted
returns-in_err-says-clause-counted g c picked replies journal closed st within = own-same _ _

pub returns-then-not-branch-clause-counted : goal.returns-then-not-branch-clause-counted
returns-then-not-branch-clause-counted g c picked replies journal closed st within = own-same _ _

pub returns-in_err-note_said-clause-counted : goal.returns-in_err-note_said-clause-counted
returns-in_err-note_said-clause-counted g c picked replies journal closed st within = (idle-note c.note_said.result (HouseSaid c.as_bytes.result.now) refl c.note_said.ensures.state c.note_said.ensures.faults).own_faults

pub returns-in_err-apply-clause-counted : goal.returns-in_err-apply-clause-counted
returns-in_err-apply-clause-counted g c picked replies journal closed st within =
    own-then _ _ _ _ _ _ (idle-note c.note_said.result (HouseSaid c.as_bytes.result.now) refl c.note_said.ensures.state c.note_said.ensures.faults).own_faults
    (applied-counted st (house-comes c.event_of_bytes-said.result c.args.engine.now journal c.as_bytes-2.result.now within c.event_of_bytes-said.ensures.bytes c.event_of_bytes-said.ensures.records) c.apply.result g.H.Asks.may c.apply.new.engine c.apply.new.asks _ _ _ _ _ _ _ _ c.apply.ensures.own_faults c.apply.ensures.applied)

pub returns-clause-counted : goal.returns-clause-counted
returns-clause-counted g c picked replies journal closed st within =
    own-then _ _ _ _ _ _ (idle-note c.note_said.result (HouseSaid c.as_bytes.result.now) refl c.note_said.ensures.state c.note_said.ensures.faults).own_faults
    (applied-counted st (house-comes c.event_of_bytes-said.result c.args.engine.now journal c.as_bytes-2.result.now within c.event_of_bytes-said.ensures.bytes c.event_of_bytes-said.ensures.records) c.apply.result g.H.Asks.may c.apply.new.engine c.apply.new.asks _ _ _ _ _ _ _ _ c.apply.ensures.own_faults c.apply.ensures.applied)
