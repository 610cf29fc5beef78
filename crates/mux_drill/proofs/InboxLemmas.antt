-- Bytes that are written to a stream and taken back.
use Rattle.std.proofs.Common.{◌≡◌, ◌∙◌, ap, inl, inr, ℕ, ◌-◌, List, [], ◌++◌, length, take, get_or, set, arith}
use Rattle.std.proofs.Math.Seq.{take-append_seam}
use Rattle.std.proofs.lemmas.Bool.{cases_lt}
use Rattle.std.proofs.lemmas.List.{get_or-set_same, set-get_or, set_past, length-append, set-set}
use Rattle.mux_drill.specs.Inboxes.{with_more_bytes, without_last}

-- what was before the last bytes
before_last : (xs ys : List ℕ) → take (length (xs ++ ys) - length ys) (xs ++ ys) ≡ xs
before_last xs ys =
    let count : length (xs ++ ys) - length ys ≡ length xs = omega (arith, length-append xs ys) in
    ap (λ n. take n (xs ++ ys)) count ∙ take-append_seam xs ys

-- bytes taken back leave what was before
pub back_again : (stream : ℕ) (bytes : List ℕ) (unread : List (List ℕ))
    → without_last stream (length bytes) (with_more_bytes stream bytes unread) ≡ unread
back_again stream bytes unread =
    elim (cases_lt stream (length unread)) [
      | inl within ↦
          let at = get_or-set_same unread stream (get_or unread stream [] ++ bytes) [] within in
          ap (λ (b : List ℕ). set (set unread stream (get_or unread stream [] ++ bytes)) stream (take (length b - length bytes) b)) at
          ∙ ap (λ (b : List ℕ). set (set unread stream (get_or unread stream [] ++ bytes)) stream b) (before_last (get_or unread stream []) bytes)
          ∙ set-set unread stream (get_or unread stream [] ++ bytes) (get_or unread stream [])
          ∙ set-get_or unread stream []
      | inr past ↦
          ap (λ (u : List (List ℕ)). without_last stream (length bytes) u) (set_past unread stream (get_or unread stream [] ++ bytes) past)
          ∙ set_past unread stream (take (length (get_or unread stream []) - length bytes) (get_or unread stream [])) past
    ]
