-- When more is wanted, and when a fault is reported.
use Rattle.std.proofs.Common.{rules, ◌≡◌, ℕ, ◌-◌, List, ◌++◌, length, take, drop, refl, sym, ◌∙◌, ap, subst, Option, Some, None, inl, inr}
use Rattle.std.specs.Prelude.{◌↔◌}
use Rattle.std.proofs.lemmas.List.{take_rest}
use Rattle.ssh_fields.specs.Fields.{AreBytes}
use Rattle.ssh_grammar.specs.declared.fault.BadFrame.{BadFrame}
use Rattle.ssh_grammar.specs.Frames.{Front, Frame, More, Faulty, first_frame}
use Rattle.ssh_grammar.proofs.Cuts.{Extends, first-extends}
use Rattle.proxy_frames.specs.declared.next.Next.{Next}
use Rattle.proxy_frames.specs.declared.next.Next.TheVariants as next
use Rattle.proxy_frames.specs.State.{FramerState}
use Rattle.proxy_frames.specs.Steps.{once_recorded, front_of, answer_to}
use Rattle.proxy_frames.specs.Fronts.{WantsMore, HasFault}
use Rattle.proxy_frames.specs.Laws.{MoreIsPartial, FaultsAreRecorded, FaultsStay}

-- ---- at the front of bytes

pub more-partial : MoreIsPartial
more-partial framing bytes = search rules

pub fault-recorded : FaultsAreRecorded
fault-recorded framing bytes fault = search rules

pub fault-stays : FaultsStay
fault-stays framing bytes more fault is =
    let there : first_frame framing bytes ≡ Faulty fault = (fault-recorded framing bytes fault).1 is in
    (fault-recorded framing (bytes ++ more) fault).0 (subst (λ (front : Front). Extends more front (first_frame framing (bytes ++ more))) there (first-extends framing bytes more))

-- ---- at a framer

-- before a fault was reported the front is that of the rest
front-untold : (f : FramerState) → f.fault ≡ None → front_of f ≡ first_frame f.framing f.rest
front-untold f e = ap (λ (t : Option BadFrame). once_recorded t Faulty (first_frame f.framing f.rest)) e

front-recorded : (f : FramerState) (bad : BadFrame) → f.fault ≡ Some bad → front_of f ≡ Faulty bad
front-recorded f bad e = ap (λ (t : Option BadFrame). once_recorded t Faulty (first_frame f.framing f.rest)) e

pub more-wanted : (f : FramerState) (answer : Next) → answer ≡ answer_to (front_of f) → (answer ≡ next.More) ↔ WantsMore f
more-wanted f answer is = by_recorded f.fault refl
  where
    by_front : f.fault ≡ None → (front : Front) → first_frame f.framing f.rest ≡ front → answer ≡ answer_to front → (answer ≡ next.More) ↔ WantsMore f
    by_front none (Frame content rest) e is = (λ (more : answer ≡ next.More). absurd (cc), λ (w : WantsMore f). let more : first_frame f.framing f.rest ≡ More = (more-partial f.framing f.rest).1 w.1 in absurd (cc))
    by_front none More e is = (λ _. (none, (more-partial f.framing f.rest).0 e), λ _. is)
    by_front none (Faulty bad) e is = (λ (more : answer ≡ next.More). absurd (cc), λ (w : WantsMore f). let more : first_frame f.framing f.rest ≡ More = (more-partial f.framing f.rest).1 w.1 in absurd (cc))

    by_recorded : (t : Option BadFrame) → f.fault ≡ t → (answer ≡ next.More) ↔ WantsMore f
    by_recorded None e = by_front e (first_frame f.framing f.rest) refl (is ∙ ap answer_to (front-untold f e))
    by_recorded (Some bad) e = let recorded : answer ≡ next.Bad bad = is ∙ ap answer_to (front-recorded f bad e) in
        (λ (more : answer ≡ next.More). absurd (cc), λ (w : WantsMore f). let none : f.fault ≡ None = w.0 in absurd (cc))

pub fault-had : (f : FramerState) (answer : Next) → answer ≡ answer_to (front_of f) → (fault : BadFrame) → (answer ≡ next.Bad fault) ↔ HasFault f fault
fault-had f answer is fault = by_recorded f.fault refl
  where
    no_fault : f.fault ≡ None → (front : Front) → first_frame f.framing f.rest ≡ front → (front ≡ Faulty fault → ⊥) → HasFault f fault → ⊥
    no_fault none front e other (inl recorded) = absurd (cc)
    no_fault none front e other (inr is) = other (sym e ∙ (fault-recorded f.framing f.rest fault).1 is.1)

    by_front : f.fault ≡ None → (front : Front) → first_frame f.framing f.rest ≡ front → answer ≡ answer_to front → (answer ≡ next.Bad fault) ↔ HasFault f fault
    by_front none (Frame content rest) e is = (λ (b : answer ≡ next.Bad fault). absurd (cc), λ h. absurd (no_fault none (Frame content rest) e (λ (b : Frame content rest ≡ Faulty fault). cc) h))
    by_front none More e is = (λ (b : answer ≡ next.Bad fault). absurd (cc), λ h. absurd (no_fault none More e (λ (b : More ≡ Faulty fault). cc) h))
    by_front none (Faulty bad) e is = (
      λ (b : answer ≡ next.Bad fault). let same : bad ≡ fault = cc in inr (none, (fault-recorded f.framing f.rest fault).0 (e ∙ ap Faulty same)),
      by_had none e is,
    )
      where
        by_had : f.fault ≡ None → first_frame f.framing f.rest ≡ Faulty bad → answer ≡ next.Bad bad → HasFault f fault → answer ≡ next.Bad fault
        by_had none e is (inl recorded) = absurd (cc)
        by_had none e is (inr h) = let there : first_frame f.framing f.rest ≡ Faulty fault = (fault-recorded f.framing f.rest fault).1 h.1 in let same : bad ≡ fault = cc in is ∙ ap next.Bad same

    by_recorded : (t : Option BadFrame) → f.fault ≡ t → (answer ≡ next.Bad fault) ↔ HasFault f fault
    by_recorded None e = by_front e (first_frame f.framing f.rest) refl (is ∙ ap answer_to (front-untold f e))
    by_recorded (Some bad) e =
        let recorded : answer ≡ next.Bad bad = is ∙ ap answer_to (front-recorded f bad e) in
        (λ (b : answer ≡ next.Bad fault). let same : bad ≡ fault = cc in inl (e ∙ ap Some same), by_had e recorded)
      where
        by_had : f.fault ≡ Some bad → answer ≡ next.Bad bad → HasFault f fault → answer ≡ next.Bad fault
        by_had e recorded (inl there) = let same : bad ≡ fault = cc in recorded ∙ ap next.Bad same
        by_had e recorded (inr h) = let none : f.fault ≡ None = h.0 in absurd (cc)

-- ---- at the call

-- the bytes from a place on are bytes where the part that was looked at is
pub rest-bytes : (kept seen : List ℕ) (at : ℕ) (f : FramerState) → drop at kept ≡ f.rest → seen ≡ kept → AreBytes (take (length seen - at) (drop at seen)) → AreBytes f.rest
rest-bytes kept seen at f rest same bytes = subst AreBytes (take_rest seen at ∙ (ap (drop at) same ∙ rest)) bytes
