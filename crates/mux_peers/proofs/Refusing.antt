-- A client for which frames are recorded, one by one.
use Rattle.std.proofs.Common.{◌≡◌, ◌+◌, ℕ, suc, Bool, true, false, List, [], ◌∷◌, ◌++◌, length, Option, Some, None, refl, sym, ap, ◌∙◌, subst, append_assoc, append-nil, length-append}
use Rattle.std.specs.Prelude.{nat_le}
use Rattle.ssh_grammar.specs.Frames.{frame_payload}
use Rattle.ssh_grammar.specs.SpellMessage.{request_failure}
use Rattle.mux_history.specs.declared.limits.TheConstants.{MAX_QUEUE}
use Rattle.mux_history.specs.declared.why.Why.{Why}
use Rattle.mux_history.specs.declared.why.Why.TheVariants as why
use Rattle.mux_history.specs.Pending.{joined}
use Rattle.mux_history.specs.Log.{frames_that_fit, overflow}
use Rattle.mux_peers.specs.State.{PeerState, refusals_of}

-- the frame of a refusal
abbrev pub refusal : List ℕ
refusal = frame_payload request_failure

-- what is still to be recorded goes on from where the queue is now
pub record Refusing (all left : ℕ) (first now : PeerState) : Type 0 where
  pub number : now.number ≡ first.number
  pub standing : now.standing ≡ first.standing
  pub queue : now.queue ++ joined (frames_that_fit (length now.queue) (refusals_of left)) ≡ first.queue ++ joined (frames_that_fit (length first.queue) (refusals_of all))
  pub full : overflow (length now.queue) (refusals_of left) ≡ overflow (length first.queue) (refusals_of all)

-- ---- one frame and those after it

test-none : (n : ℕ) (f : List ℕ) (b : Bool) → (elim b as (λ _. Option Why) [ true ↦ None | false ↦ Some (why.QueueFull n (length f)) ]) ≡ None → b ≡ true
test-none n f true e = refl
test-none n f false e = absurd (cc)

test-some : (n : ℕ) (f : List ℕ) (b : Bool) (cause : Why) → (elim b as (λ _. Option Why) [ true ↦ None | false ↦ Some (why.QueueFull n (length f)) ]) ≡ Some cause → b ≡ false
test-some n f true cause e = absurd (cc)
test-some n f false cause e = refl

abbrev fitting_if : Bool → ℕ → List ℕ → List (List ℕ) → List (List ℕ)
fitting_if b n f gs = elim b as (λ _. List (List ℕ)) [ true ↦ f ∷ frames_that_fit (n + length f) gs | false ↦ [] ]

abbrev overflow_if : Bool → ℕ → List ℕ → List (List ℕ) → Option Why
overflow_if b n f gs = elim b as (λ _. Option Why) [ true ↦ overflow (n + length f) gs | false ↦ Some (why.QueueFull n (length f)) ]

fit-head : (n : ℕ) (f : List ℕ) (gs : List (List ℕ)) → overflow n (f ∷ []) ≡ None → (frames_that_fit n (f ∷ gs) ≡ f ∷ frames_that_fit (n + length f) gs) × (overflow n (f ∷ gs) ≡ overflow (n + length f) gs)
fit-head n f gs e =
    let t : nat_le (n + length f) MAX_QUEUE ≡ true = test-none n f (nat_le (n + length f) MAX_QUEUE) e in
    (ap (λ b. fitting_if b n f gs) t, ap (λ b. overflow_if b n f gs) t)

full-head : (n : ℕ) (f : List ℕ) (gs : List (List ℕ)) (cause : Why) → overflow n (f ∷ []) ≡ Some cause → (frames_that_fit n (f ∷ gs) ≡ frames_that_fit n (f ∷ [])) × (overflow n (f ∷ gs) ≡ Some cause)
full-head n f gs cause e =
    let t : nat_le (n + length f) MAX_QUEUE ≡ false = test-some n f (nat_le (n + length f) MAX_QUEUE) cause e in
    (ap (λ b. fitting_if b n f gs) t ∙ sym (ap (λ b. fitting_if b n f []) t), (ap (λ b. overflow_if b n f gs) t ∙ sym (ap (λ b. overflow_if b n f []) t)) ∙ e)

peer-same : (s t : PeerState) → s.number ≡ t.number → s.standing ≡ t.standing → s.queue ≡ t.queue → s ≡ t
peer-same s t n a q = λ i. record { number = n i; standing = a i; queue = q i }

-- a client for which frames were recorded, as far as they fit
abbrev pub Recorded : List (List ℕ) → PeerState → PeerState → Type 0
Recorded fs old new = new ≡ record old { queue = old.queue ++ joined (frames_that_fit (length old.queue) fs) }

-- where the first fits, those after it go on from there
recorded-head : (f : List ℕ) (peer new : PeerState) → Recorded (f ∷ []) peer new → overflow (length peer.queue) (f ∷ []) ≡ None → new.queue ≡ peer.queue ++ f
recorded-head f peer new recorded fit =
    ap (λ (t : PeerState). t.queue) recorded
    ∙ ap (λ gs. peer.queue ++ joined gs) (fit-head (length peer.queue) f [] fit).0
    ∙ ap (λ l. peer.queue ++ l) (append-nil f)

pub recorded-then : (f : List ℕ) (gs : List (List ℕ)) (peer new : PeerState) → Recorded (f ∷ []) peer new → overflow (length peer.queue) (f ∷ []) ≡ None
    → (new.queue ++ joined (frames_that_fit (length new.queue) gs) ≡ peer.queue ++ joined (frames_that_fit (length peer.queue) (f ∷ gs))) × (overflow (length new.queue) gs ≡ overflow (length peer.queue) (f ∷ gs))
recorded-then f gs peer new recorded fit =
    let q : new.queue ≡ peer.queue ++ f = recorded-head f peer new recorded fit in
    let long : length new.queue ≡ length peer.queue + length f = ap length q ∙ length-append peer.queue f in
    let h = fit-head (length peer.queue) f gs fit in (
      ap (λ n. new.queue ++ joined (frames_that_fit n gs)) long
          ∙ (ap (λ l. l ++ joined (frames_that_fit (length peer.queue + length f) gs)) q
          ∙ (append_assoc peer.queue f (joined (frames_that_fit (length peer.queue + length f) gs)) ∙ ap (λ l. peer.queue ++ joined l) (sym h.0))),
      ap (λ n. overflow n gs) long ∙ sym h.1,
    )

-- where it doesn't, they are left out
pub recorded-full : (f : List ℕ) (gs : List (List ℕ)) (peer new : PeerState) (cause : Why) → Recorded (f ∷ []) peer new → overflow (length peer.queue) (f ∷ []) ≡ Some cause → Recorded (f ∷ gs) peer new
recorded-full f gs peer new cause recorded full = recorded ∙ ap (λ l. let t : PeerState = record peer { queue = peer.queue ++ joined l } in t) (sym (full-head (length peer.queue) f gs cause full).0)

pub over-full : (f : List ℕ) (gs : List (List ℕ)) (n : ℕ) (cause : Why) → overflow n (f ∷ []) ≡ Some cause → overflow n (f ∷ gs) ≡ Some cause
over-full f gs n cause full = (full-head n f gs cause full).1

-- ---- refusals

one-more : (left m : ℕ) → left ≡ suc m → refusals_of left ≡ refusal ∷ refusals_of m
one-more left m e = ap refusals_of e

pub refusing-on : (all left m : ℕ) (first now new : PeerState) (f : List ℕ) → f ≡ refusal → left ≡ suc m → Refusing all left first now → Recorded (f ∷ []) now new → overflow (length now.queue) (f ∷ []) ≡ None → Refusing all m first new
refusing-on all left m first now new f is e r recorded fit =
    let t : Recorded (refusal ∷ []) now new = subst (λ g. Recorded (g ∷ []) now new) is recorded in
    let fit' : overflow (length now.queue) (refusal ∷ []) ≡ None = subst (λ g. overflow (length now.queue) (g ∷ []) ≡ None) is fit in
    let h = recorded-then refusal (refusals_of m) now new t fit' in
    record {
      number = ap (λ (t : PeerState). t.number) recorded ∙ r.number;
      standing = ap (λ (t : PeerState). t.standing) recorded ∙ r.standing;
      queue = h.0 ∙ (ap (λ gs. now.queue ++ joined (frames_that_fit (length now.queue) gs)) (sym (one-more left m e)) ∙ r.queue);
      full = h.1 ∙ (ap (overflow (length now.queue)) (sym (one-more left m e)) ∙ r.full);
    }

pub refusing-full : (all left m : ℕ) (first now new : PeerState) (f : List ℕ) (cause : Why) → f ≡ refusal → left ≡ suc m → Refusing all left first now → Recorded (f ∷ []) now new → overflow (length now.queue) (f ∷ []) ≡ Some cause
    → Recorded (refusals_of all) first new × (Some cause ≡ overflow (length first.queue) (refusals_of all))
refusing-full all left m first now new f cause is e r recorded full =
    let t : Recorded (refusal ∷ []) now new = subst (λ g. Recorded (g ∷ []) now new) is recorded in
    let full' : overflow (length now.queue) (refusal ∷ []) ≡ Some cause = subst (λ g. overflow (length now.queue) (g ∷ []) ≡ Some cause) is full in
    let all-recorded = recorded-full refusal (refusals_of m) now new cause t full' in (
      peer-same new _ (ap (λ (t : PeerState). t.number) recorded ∙ r.number) (ap (λ (t : PeerState). t.standing) recorded ∙ r.standing)
          (ap (λ (t : PeerState). t.queue) all-recorded ∙ (ap (λ gs. now.queue ++ joined (frames_that_fit (length now.queue) gs)) (sym (one-more left m e)) ∙ r.queue)),
      sym (over-full refusal (refusals_of m) (length now.queue) cause full') ∙ (ap (overflow (length now.queue)) (sym (one-more left m e)) ∙ r.full),
    )

pub none-of : (o : Option Why) → ((why : Why) → o ≡ Some why → ⊥) → o ≡ None
none-of None n = refl
none-of (Some why) n = absurd (n why refl)
