-- What is looked for while the master's own streams are held back reports nothing of them.
use Rattle.std.proofs.Common.{◌≡◌, ℕ, Bool, true, false, List, Option, Some, None, inl, inr, IfSome, IsSomeAnd, slice_get, sym, ap, ◌∙◌, subst}
use Rattle.mux_outside.specs.OwnStreams.{is_own}
use Rattle.mux_outside.specs.declared.turn.Turn.{Turn}
use Rattle.mux_outside.specs.declared.turn.Turn.TheVariants.{Accepted, Got, End, Writable, Failed, Joined, NoMemory}
use Rattle.mux_edge.specs.Ready.{IsLookedFor}
use Rattle.mux_edge.specs.Shares.{PassesOwn}
use Rattle.mux_edge.specs.Sockets.{IsTurnOf, ServesReady}
use Rattle.mux_edge.specs.declared.numbers.StreamNumbers.{StreamNumbers}
use Rattle.mux_edge.specs.declared.table.ready.Ready.{Ready}
use Rattle.mux_edge.specs.declared.table.ready.Ready.TheVariants.{Accept, Join, Read, Write, Connect}

-- what stands at the place that was found is looked for
looked_for : (at : Option ℕ) (items : List Ready) (held : Bool) (ready : Ready) → IfSome at (λ i. IsSomeAnd (slice_get items i) (IsLookedFor held)) → IsSomeAnd at (λ i. slice_get items i ≡ Some ready) → IsLookedFor held ready
looked_for None items held ready found there = absurd there
looked_for (Some i) items held ready found there = subst (λ (r : Option Ready). IsSomeAnd r (IsLookedFor held)) there found

accepted : (client : Option ℕ) (turn : Turn) → IsSomeAnd client (λ k. turn ≡ Accepted k) → PassesOwn turn
accepted None turn serves = absurd serves
accepted (Some k) turn serves = subst PassesOwn (sym serves) tt

joined : (listener : ℕ) (own : Option ℕ) (turn : Turn) → IsSomeAnd own (λ t. turn ≡ Joined listener t) → PassesOwn turn
joined listener None turn serves = absurd serves
joined listener (Some t) turn serves = subst PassesOwn (sym serves) tt

read : (number : ℕ) (turn : Turn) → is_own number ≡ false → IsTurnOf number turn → PassesOwn turn
read number (Accepted k) clients serves = tt
read number (Got t) clients serves = ap is_own serves ∙ clients
read number (End t) clients serves = ap is_own serves ∙ clients
read number (Writable t) clients serves = tt
read number (Failed t) clients serves = tt
read number (Joined l t) clients serves = tt
read number NoMemory clients serves = tt

served : (ready : Ready) (numbers : StreamNumbers) (turn : Turn) → IsLookedFor true ready → ServesReady ready numbers turn → PassesOwn turn
served Accept numbers turn looked serves = accepted numbers.client turn serves
served (Join listener) numbers turn looked serves = joined listener numbers.own turn serves
served (Read number) numbers turn looked serves = read number turn looked serves
served (Write number) numbers turn looked serves = subst PassesOwn (sym serves) tt
served (Connect number) numbers turn looked serves = elim serves [ inl w ↦ subst PassesOwn (sym w) tt | inr f ↦ subst PassesOwn (sym f) tt ]

-- so a turn that serves it passes them
pub passes : (at : Option ℕ) (items : List Ready) (held : Bool) (ready : Ready) (numbers : StreamNumbers) (turn : Turn) → IfSome at (λ i. IsSomeAnd (slice_get items i) (IsLookedFor held)) → IsSomeAnd at (λ i. slice_get items i ≡ Some ready) → ServesReady ready numbers turn → held ≡ true → PassesOwn turn
passes at items held ready numbers turn found there serves is_held =
    served ready numbers turn (subst (λ (b : Bool). IsLookedFor b ready) is_held (looked_for at items held ready found there)) serves
