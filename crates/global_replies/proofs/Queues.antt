-- The requests without a reply, by one more request and by one more reply.
use Rattle.std.proofs.Common.{◌≡◌, ◌≤◌, ◌+◌, ℕ, List, [], ◌∷◌, length, drop, Option, Some, None, refl, ◌∙◌, ap, sym, arith, suc, zero}
use Rattle.std.specs.Prelude.{slice_get}
use Rattle.mux_history.specs.Requests as history
use Rattle.global_replies.specs.declared.ask.Ask.{Ask}
use Rattle.global_replies.specs.Replies.{FirstAsked, rest_of}
use Rattle.global_replies.specs.Stands.{ReplyGoesOn}

-- what stands first was asked at the place of the next reply
first-of : (n : ℕ) (xs : List history.Ask) (a : history.Ask) (later : List history.Ask) → drop n xs ≡ a ∷ later → (slice_get xs n ≡ Some a) × (drop (suc n) xs ≡ later) × (suc n ≤ length xs)
first-of zero [] a later h = absurd (cc)
first-of zero (x ∷ xs) a later h = (cc, cc, omega arith)
first-of (suc n) [] a later h = absurd (cc)
first-of (suc n) (x ∷ xs) a later h = let i = first-of n xs a later h in (i.0, i.1, let j = i.2 in omega (arith, j))

none-of : (n : ℕ) (xs : List history.Ask) → drop n xs ≡ [] → slice_get xs n ≡ None
none-of zero [] h = refl
none-of zero (x ∷ xs) h = absurd (cc)
none-of (suc n) [] h = refl
none-of (suc n) (x ∷ xs) h = none-of n xs h

pub reply-goes-on : (old new : List history.Ask) (asker : Option (ℕ × Ask)) → FirstAsked old asker → new ≡ rest_of old → ReplyGoesOn old new asker
reply-goes-on [] new None first is asked replied queue = (none-of replied asked (sym queue.waiting), record { waiting = is ∙ queue.waiting; awaited = queue.awaited })
reply-goes-on [] new (Some a) first is asked replied queue = absurd first
reply-goes-on (a ∷ later) new None first is asked replied queue = absurd first
reply-goes-on (a ∷ later) new (Some b) first is asked replied queue =
    let f = first-of replied asked a later (sym queue.waiting) in
    let e : replied + 1 ≡ suc replied = omega arith in
    (f.0 ∙ ap Some (sym first), record { waiting = is ∙ (sym f.1 ∙ ap (λ n. drop n asked) (sym e)); awaited = let l = f.2 in omega (arith, l) })
