-- What a reply records its asker: the reply, and the refusals that waited after it.
use Rattle.std.proofs.Common.{◌≡◌, ℕ, List, [], ◌∷◌, ◌++◌, length, drop, map, true, false, Bool, refl, ◌∙◌, ap, Ok, zero, suc}
use Rattle.std.specs.Prelude.{not, replicate}
use Rattle.std.proofs.lemmas.List.{append-nil}
use Rattle.std.proofs.Math.Seq.{drop-append_seam}
use Rattle.ssh_grammar.specs.Frames.{frame_payload}
use Rattle.ssh_grammar.specs.SpellMessage.{request_failure}
use Rattle.mux_history.specs.Summary.{Summary, read_summary}
use Rattle.mux_history.specs.Rows.{Heard, Row, is_lost}
use Rattle.mux_history.specs.Requests.{answers, answers_to, is_reply, replies, reply_in, wanted}
use Rattle.mux_history.specs.Said.{silent}
use Rattle.mux_history.specs.Treat.{all_recorded, bare_row, new_answers}
use Rattle.mux_history.proofs.Readings.{reading-ok}
use Rattle.global_replies.specs.Replies.{leading}
use Rattle.mux_core.specs.declared.heard.Delivery.TheVariants as heard
use Rattle.mux_core.specs.Calls.{recorded_by}
use Rattle.mux_core.proofs.Answering.{Waits, replied-answers}

map-replicate : (n : ℕ) (x : List ℕ) → map frame_payload (replicate n x) ≡ replicate n (frame_payload x)
map-replicate zero x = refl
map-replicate (suc n) x = ap (λ xs. frame_payload x ∷ xs) (map-replicate n x)

pub reply-recorded : (k : ℕ) (p : List ℕ) (m : Summary) (own : List Row) (ws : List Bool) → read_summary p ≡ Ok m → is_reply m ≡ true → is_lost own ≡ false → Waits (wanted own) (replies own) (true ∷ ws) → all_recorded (bare_row (Heard p) k silent) own ≡ recorded_by (heard.Client k (leading ws)) p
reply-recorded k p m own ws e reply here waits =
    ap (λ (b : Bool). elim (not b) as (λ _. List (List ℕ)) [ true ↦ new_answers (bare_row (Heard p) k silent) own | false ↦ [] ]) here
    ∙ (ap (λ (rs : List (List ℕ)). map frame_payload (drop (length (answers own)) rs)) after
    ∙ (ap (map frame_payload) (drop-append_seam (answers own) (p ∷ replicate (leading ws) request_failure))
    ∙ ap (λ xs. frame_payload p ∷ xs) (map-replicate (leading ws) request_failure)))
  where
    came : reply_in (Heard p) ≡ p ∷ []
    came = ap (λ (b : Bool). elim b as (λ _. List (List ℕ)) [ true ↦ p ∷ [] | false ↦ [] ]) (reading-ok p m is_reply false e ∙ reply)

    after : answers (bare_row (Heard p) k silent ∷ own) ≡ answers own ++ (p ∷ replicate (leading ws) request_failure)
    after = ap (λ fs. answers_to fs (replies own ++ reply_in (Heard p))) (append-nil (wanted own)) ∙ (ap (λ rs. answers_to (wanted own) (replies own ++ rs)) came ∙ replied-answers (wanted own) (replies own) ws p waits)
