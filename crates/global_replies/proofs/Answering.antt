-- The answers of one client, by what it waits for.
use Rattle.std.proofs.Common.{◌≡◌, ◌+◌, ℕ, List, [], ◌∷◌, ◌++◌, length, true, false, Bool, refl, ◌∙◌, ap, sym, subst, arith, suc}
use Rattle.std.specs.Prelude.{replicate}
use Rattle.ssh_grammar.specs.SpellMessage.{request_failure}
use Rattle.mux_history.specs.Requests.{answers_to}
use Rattle.global_replies.specs.Replies.{after_reply, is_none_left, leading, or_behind, refusals_behind, without_leading}
use Rattle.global_replies.specs.Stands.{AnswerGoesOn, LeavesUnanswered, RefusalGoesOn, SentGoesOn, Waits, refusal_sent_if}

-- ---- a request is sent

sent : (flags : List Bool) (heard : List (List ℕ)) (w : List Bool) → Waits flags heard w → Waits (flags ++ true ∷ []) heard (w ++ true ∷ []) × (answers_to (flags ++ true ∷ []) heard ≡ answers_to flags heard)
sent [] [] w h = (ap (λ v. v ++ true ∷ []) h, refl)
sent [] (p ∷ heard) w h = absurd h
sent (false ∷ flags) heard w h = let i = sent flags heard w h in (i.0, ap (λ rs. request_failure ∷ rs) i.1)
sent (true ∷ flags) [] w h = (ap (λ v. v ++ true ∷ []) h, refl)
sent (true ∷ flags) (p ∷ heard) w h = let i = sent flags heard w h in (i.0, ap (λ rs. p ∷ rs) i.1)

pub sent-goes-on : (old new : List Bool) → new ≡ old ++ true ∷ [] → SentGoesOn old new
sent-goes-on old new is flags heard h = let i = sent flags heard old h in (subst (Waits (flags ++ true ∷ []) heard) (sym is) i.0, i.1)

-- ---- a request is refused, at once or after what waits

refusal : (flags : List Bool) (heard : List (List ℕ)) (w : List Bool) → Waits flags heard w → Waits (flags ++ false ∷ []) heard (or_behind w) × (answers_to (flags ++ false ∷ []) heard ≡ answers_to flags heard ++ refusal_sent_if (is_none_left w))
refusal [] [] w h = (ap or_behind h, ap (λ v. refusal_sent_if (is_none_left v)) (sym h))
refusal [] (p ∷ heard) w h = absurd h
refusal (false ∷ flags) heard w h = let i = refusal flags heard w h in (i.0, ap (λ rs. request_failure ∷ rs) i.1)
refusal (true ∷ flags) [] w h = (ap or_behind h, ap (λ v. refusal_sent_if (is_none_left v)) (sym h))
refusal (true ∷ flags) (p ∷ heard) w h = let i = refusal flags heard w h in (i.0, ap (λ rs. p ∷ rs) i.1)

pub refusal-goes-on : (old new : List Bool) (now : Bool) → now ≡ is_none_left old → new ≡ or_behind old → RefusalGoesOn old new now
refusal-goes-on old new now said is flags heard h =
    let i = refusal flags heard old h in
    (subst (Waits (flags ++ false ∷ []) heard) (sym is) i.0, i.1 ∙ ap (λ b. answers_to flags heard ++ refusal_sent_if b) (sym said))

-- ---- the server's reply comes, and the refusals after it

pub no-replies : (ws : List Bool) → answers_to ws [] ≡ replicate (leading ws) request_failure
no-replies [] = refl
no-replies (true ∷ ws) = refl
no-replies (false ∷ ws) = ap (λ rs. request_failure ∷ rs) (no-replies ws) ∙ one-more (leading ws)
  where
    one-more : (n : ℕ) → request_failure ∷ replicate n request_failure ≡ replicate (n + 1) request_failure
    one-more n = let e : n + 1 ≡ suc n = omega arith in rw e refl

left-none : (ws : List Bool) → Waits ws [] (without_leading ws)
left-none [] = refl
left-none (true ∷ ws) = refl
left-none (false ∷ ws) = left-none ws

reply : (flags : List Bool) (heard : List (List ℕ)) (ws : List Bool) (p : List ℕ) → Waits flags heard (true ∷ ws) → Waits flags (heard ++ p ∷ []) (without_leading ws) × (answers_to flags (heard ++ p ∷ []) ≡ answers_to flags heard ++ (p ∷ replicate (leading ws) request_failure))
reply [] [] ws p h = absurd (cc)
reply [] (q ∷ heard) ws p h = absurd h
reply (false ∷ flags) heard ws p h = let i = reply flags heard ws p h in (i.0, ap (λ rs. request_failure ∷ rs) i.1)
reply (true ∷ flags) [] ws p h =
    let same : ws ≡ flags = cc in
    (subst (λ v. Waits flags [] (without_leading v)) (sym same) (left-none flags), ap (λ rs. p ∷ rs) (no-replies flags ∙ ap (λ v. replicate (leading v) request_failure) (sym same)))
reply (true ∷ flags) (q ∷ heard) ws p h = let i = reply flags heard ws p h in (i.0, ap (λ rs. q ∷ rs) i.1)

pub answer-goes-on : (old new : List Bool) (refusals : ℕ) → refusals ≡ refusals_behind old → new ≡ after_reply old → AnswerGoesOn old new refusals
answer-goes-on [] new refusals count is flags heard p awaited h = absurd awaited
answer-goes-on (false ∷ ws) new refusals count is flags heard p awaited h = absurd awaited
answer-goes-on (true ∷ ws) new refusals count is flags heard p awaited h =
    let i = reply flags heard ws p h in
    (subst (Waits flags (heard ++ p ∷ [])) (sym is) i.0, i.1 ∙ ap (λ n. answers_to flags heard ++ (p ∷ replicate n request_failure)) (sym count))

-- ---- how many have no answer

unanswered : (flags : List Bool) (heard : List (List ℕ)) (w : List Bool) → Waits flags heard w → length (answers_to flags heard) + length w ≡ length flags
unanswered [] [] w h = let e = ap length h in omega (arith, e)
unanswered [] (p ∷ heard) w h = absurd h
unanswered (false ∷ flags) heard w h = let i = unanswered flags heard w h in omega (arith, i)
unanswered (true ∷ flags) [] w h = let e = ap length h in omega (arith, e)
unanswered (true ∷ flags) (p ∷ heard) w h = let i = unanswered flags heard w h in omega (arith, i)

pub leaves-unanswered : (waiting : List Bool) (count : ℕ) → count ≡ length waiting → LeavesUnanswered waiting count
leaves-unanswered waiting count is flags heard h = let i = unanswered flags heard waiting h in omega (arith, i, is)
