-- The first of those asked for at the start that was refused.
use Rattle.std.proofs.Common.{◌≡◌, ◌∙◌, refl, sym, ap, ℕ, Bool, List, Option, Some, None}
use Rattle.std.specs.Prelude.{find}
use Rattle.std.specs.List.{position}
use Rattle.std.proofs.lemmas.List.Quantifiers.{position-Some}
use Rattle.house_forward.specs.Forwardings.{ForwardingFailsAt, first_refused, forwarding_start_of}
use Rattle.house_forward.specs.declared.forwarding.Forwarding.{Forwarding}
use Rattle.house_forward.proofs.Lists.{found-first, none-found, none-passes}

none-more : (old : Option ℕ) → old ≡ first_refused old None
none-more None = refl
none-more (Some i) = refl

-- none passes a test
pub none-refused : (p : Forwarding → Bool) (fs : List Forwarding) (old : Option ℕ) → position p fs ≡ None
    → old ≡ first_refused old (forwarding_start_of (find p fs))
none-refused p fs old e = none-more old
    ∙ ap (λ o. first_refused old (forwarding_start_of o)) (sym (none-found p fs (none-passes p fs e)))

-- the first that passes isn't possible
pub first-refused : (p : Forwarding → Bool) (fs : List Forwarding) (i : ℕ) (old new : Option ℕ) → position p fs ≡ Some i
    → ForwardingFailsAt i fs old new → new ≡ first_refused old (forwarding_start_of (find p fs))
first-refused p fs i old new e h =
    let first = position-Some p fs i h.0 e in
    h.2 ∙ ap (λ o. first_refused old (forwarding_start_of o))
    (ap (λ (f : Forwarding). Some f) h.1 ∙ sym (found-first p fs i h.0 first.0 first.1 first.2))
