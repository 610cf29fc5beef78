-- The lines of a text, one at a time.
use Rattle.std.proofs.Common.{◌≡◌, ℕ, suc, ◌+◌, ◌==◌, Bool, true, false, cond, not, eqb, List, [], ◌∷◌, length, take, drop, refl, sym, ap, ◌∙◌, subst, arith}
use Rattle.std.specs.List.{prefix_len}
use Rattle.std.specs.declared.net.ip_addr.IpAddr.{IpAddr}
use Rattle.mux_edge.specs.Names.{AddsRow, AddsRows, in_first_line, lines_of}

-- where the first line ends
abbrev pub line_end : List ℕ → ℕ
line_end text = prefix_len (λ b. not (eqb b 10)) text

one_more : (t : Bool) (b : ℕ) (bs : List ℕ) (m : ℕ) (first : List ℕ) (others : List (List ℕ)) → lines_of bs ≡ first ∷ others → first ≡ take m bs → others ≡ lines_of (drop 1 (drop m bs))
    → cond t ([] ∷ lines_of bs) (in_first_line b (lines_of bs)) ≡ take (cond (not t) (1 + m) 0) (b ∷ bs) ∷ lines_of (drop 1 (drop (cond (not t) (1 + m) 0) (b ∷ bs)))
one_more true b bs m first others e f o = refl
one_more false b bs m first others e f o =
    let k : 1 + m ≡ suc m = omega arith in
    rw (e, k, f, o) refl

-- the first line stands before its end, and the other lines after it
first_line : (b : ℕ) (bs : List ℕ) → lines_of (b ∷ bs) ≡ take (line_end (b ∷ bs)) (b ∷ bs) ∷ lines_of (drop 1 (drop (line_end (b ∷ bs)) (b ∷ bs)))
first_line b [] = elim (eqb b 10) as (λ t. cond t ([] ∷ []) (in_first_line b []) ≡ take (cond (not t) (1 + 0) 0) (b ∷ []) ∷ lines_of (drop 1 (drop (cond (not t) (1 + 0) 0) (b ∷ [])))) [ true ↦ refl | false ↦ refl ]
first_line b (c ∷ cs) = one_more (eqb b 10) b (c ∷ cs) (line_end (c ∷ cs)) (take (line_end (c ∷ cs)) (c ∷ cs)) (lines_of (drop 1 (drop (line_end (c ∷ cs)) (c ∷ cs)))) (first_line c cs) refl refl

first_of : (text : List ℕ) → (length text == 0) ≡ false → lines_of text ≡ take (line_end text) text ∷ lines_of (drop 1 (drop (line_end text) text))
first_of [] some = cc
first_of (b ∷ bs) some = first_line b bs

-- a line and the lines after it add what the whole text adds
pub one_row : (text line behind rest : List ℕ) (n : ℕ) (found now all : List IpAddr)
    → (length text == 0) ≡ false → n ≡ line_end text → line ≡ take n text → behind ≡ drop n text → rest ≡ drop 1 behind
    → AddsRow line found now → AddsRows (lines_of rest) now all → AddsRows (lines_of text) found all
one_row text line behind rest n found now all some count front back after row others =
    let first : line ≡ take (line_end text) text = front ∙ ap (λ k. take k text) count in
    let left : rest ≡ drop 1 (drop (line_end text) text) = after ∙ ap (λ b. drop 1 b) (back ∙ ap (λ k. drop k text) count) in
    subst (λ (lines : List (List ℕ)). AddsRows lines found all) (sym (first_of text some))
    (now, subst (λ (l : List ℕ). AddsRow l found now) first row, subst (λ (r : List ℕ). AddsRows (lines_of r) now all) left others)
