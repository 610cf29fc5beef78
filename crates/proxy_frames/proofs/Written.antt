-- A write over the current frame, in the bytes that are kept.
use Rattle.std.proofs.Common.{◌≡◌, ℕ, zero, suc, ◌-◌, ◌+◌, ◌≤◌, List, [], ◌∷◌, ◌++◌, length, take, drop, slice_range, sym, ◌∙◌, ap, arith, Option, Some, None, true, false, length-take-le, length-append, length-drop}
use Rattle.std.specs.Prelude.{IsSome, unwrap_or}
use Rattle.std.proofs.lemmas.List.{take-append-le, take-append-drop, drop_at, drop-drop}
use Rattle.ssh_grammar.specs.declared.fault.BadFrame.{BadFrame}
use Rattle.ssh_grammar.specs.declared.framing.Framing.{Framing}
use Rattle.proxy_frames.specs.State.{kept_state, current_from, IsFrameWithin}
use Rattle.proxy_frames.specs.Steps.{written_over, with_written}

-- what is written at a place leaves the bytes before it
over-at : (xs written more : List ℕ) (s : ℕ) → s ≤ length xs
    → take (length xs) ((take s xs ++ (written ++ drop (length written) (drop s xs))) ++ more) ≡ take s xs ++ written_over written (drop s xs)
over-at xs written more zero h = take-append-le (length xs) (written ++ drop (length written) xs) more (omega (arith, length-append written (drop (length written) xs), length-drop (length written) xs))
over-at [] written more (suc s) h = absurd (omega arith)
over-at (x ∷ xs) written more (suc s) h = ap (λ l. x ∷ l) (over-at xs written more s (omega arith))

-- a part, and the bytes after it
part-and_rest : (xs : List ℕ) (s e : ℕ) → s ≤ e → slice_range xs s e ++ drop e xs ≡ drop s xs
part-and_rest xs s e h =
    let end : s + (e - s) ≡ e = omega arith in
    ap (λ k. slice_range xs s e ++ drop k xs) (sym end) ∙ (ap (λ l. slice_range xs s e ++ l) (sym (drop-drop (e - s) s xs)) ∙ take-append-drop (e - s) (drop s xs))

-- bytes with a write over their part from s on
abbrev pub written_at : List ℕ → ℕ → List ℕ → List ℕ → List ℕ
written_at xs s written more = take (length xs) ((take s xs ++ (written ++ drop (length written) (drop s xs))) ++ more)

part-written : (xs written more : List ℕ) (s : ℕ) → s ≤ length xs → drop s (written_at xs s written more) ≡ written_over written (drop s xs)
part-written xs written more s h = ap (drop s) (over-at xs written more s h) ∙ drop_at (take s xs) (written_over written (drop s xs)) s (length-take-le s xs h)

part_len : (xs : List ℕ) (s e : ℕ) → s ≤ e → e ≤ length xs → length (slice_range xs s e) ≡ e - s
part_len xs s e h k = length-take-le (e - s) (drop s xs) (omega (arith, length-drop s xs))

-- the state after the write is that of the written bytes
pub state-written : (framing : Framing) (fault : Option BadFrame) (xs written more : List ℕ) (current : Option ℕ) (start at : ℕ)
    → IsSome (current_from current at xs) → IsFrameWithin current at → at ≤ length xs → start ≡ unwrap_or current at
    → kept_state framing fault current at (written_at xs start written more) ≡ with_written (kept_state framing fault current at xs) written
state-written framing fault xs written more None start at some within low is = let no : false ≡ true = some in absurd (cc)
state-written framing fault xs written more (Some s) start at some within low is =
    let place : s + (at - s) ≡ at = omega arith in
    let all : written_over written (slice_range xs s at ++ drop at xs) ≡ written_over written (drop s xs) = ap (written_over written) (part-and_rest xs s at within) in
    let size : length (slice_range xs s at) ≡ at - s = part_len xs s at within low in
    let bytes : drop s (written_at xs start written more) ≡ written_over written (drop s xs) = ap (λ k. drop s (written_at xs k written more)) is ∙ part-written xs written more s (omega arith) in
    let rest : drop at (written_at xs start written more) ≡ drop (length (slice_range xs s at)) (written_over written (slice_range xs s at ++ drop at xs)) =
    ap (λ k. drop k (written_at xs start written more)) (sym place) ∙ (sym (drop-drop (at - s) s (written_at xs start written more)) ∙ (ap (drop (at - s)) (bytes ∙ sym all) ∙ ap (λ k. drop k (written_over written (slice_range xs s at ++ drop at xs))) (sym size))) in
    let front : take (at - s) (drop s (written_at xs start written more)) ≡ take (length (slice_range xs s at)) (written_over written (slice_range xs s at ++ drop at xs)) =
    ap (take (at - s)) (bytes ∙ sym all) ∙ ap (λ k. take k (written_over written (slice_range xs s at ++ drop at xs))) (sym size) in
    (λ i. record { framing = framing; rest = rest i; current = Some (front i); fault = fault })

-- the current frame, by its place
pub frame-at : (xs : List ℕ) (current : Option ℕ) (start at : ℕ) → IsSome (current_from current at xs) → start ≡ unwrap_or current at → current_from current at xs ≡ Some (slice_range xs start at)
frame-at xs None start at some is = let no : false ≡ true = some in absurd (cc)
frame-at xs (Some s) start at some is = ap (λ k. Some (slice_range xs k at)) (sym is)
