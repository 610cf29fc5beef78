-- Open blocks, seen as marks.
use Rattle.std.proofs.Common.{◌≡◌, ℕ, zero, suc, ◌+◌, ◌<◌, ◌≤◌, Bool, true, false, cond, ◌&&◌, List, [], ◌∷◌, ◌++◌, length, map, take, Option, Some, None, refl, sym, ap, ◌∙◌, arith}
use Rattle.std.specs.Prelude.{flat_map, option_to_list, unwrap_or}
use Rattle.std.specs.List.{list_all, slice_get}
use Rattle.std.proofs.lemmas.List.{map-append, take-map}
use Rattle.std.proofs.lemmas.List.Folds.{list_all-append}
use Rattle.conf_rules.specs.Sources.{own_block}
use Rattle.conf_rules.specs.Rows.{LineRow, Pass}
use Rattle.conf_rules.specs.Resolution.{row_applies, applies_at, pass_start_of}
use Rattle.conf_reader.specs.Blocks.{Blocks, or_none}
use Rattle.conf_fold.specs.FoldRepresents.{open_applies, IsBlockBefore, EachBefore, marks_in_file, own_mark}

-- ---- lists

pub slice_get-front : {X : Type 0} (xs ys : List X) (i : ℕ) → i < length xs → slice_get (xs ++ ys) i ≡ slice_get xs i
slice_get-front [] ys i h = absurd (omega (arith, h))
slice_get-front (x ∷ xs) ys zero h = refl
slice_get-front (x ∷ xs) ys (suc i) h = slice_get-front xs ys i (omega (arith, h))

pub slice_get-next : {X : Type 0} (xs : List X) (x : X) (ys : List X) → slice_get (xs ++ x ∷ ys) (length xs) ≡ Some x
slice_get-next [] x ys = refl
slice_get-next (y ∷ xs) x ys = slice_get-next xs x ys

-- ---- one more row

pub applies-kept : (rows : List LineRow) (row : LineRow) (pass : Pass) (b : Option ℕ) → IsBlockBefore rows pass b → open_applies (rows ++ row ∷ []) pass b ≡ open_applies rows pass b
applies-kept rows row pass None h = refl
applies-kept rows row pass (Some line) h = ap row_applies (slice_get-front rows (row ∷ []) (pass_start_of pass + line) h)

pub marks-kept : (rows : List LineRow) (row : LineRow) (pass : Pass) (bs : Blocks) → EachBefore rows pass bs → map (open_applies (rows ++ row ∷ []) pass) bs ≡ map (open_applies rows pass) bs
marks-kept rows row pass [] h = refl
marks-kept rows row pass (b ∷ bs) h = rw (applies-kept rows row pass b h.0, marks-kept rows row pass bs h.1) refl

pub applies-new : (rows : List LineRow) (row : LineRow) (pass : Pass) (place : ℕ) → length rows ≡ pass_start_of pass + place → open_applies (rows ++ row ∷ []) pass (Some place) ≡ row.applies
applies-new rows row pass place e = ap row_applies (ap (slice_get (rows ++ row ∷ [])) (sym e) ∙ slice_get-next rows row [])

before-kept : (rows : List LineRow) (row : LineRow) (pass : Pass) (b : Option ℕ) → IsBlockBefore rows pass b → IsBlockBefore (rows ++ row ∷ []) pass b
before-kept rows row pass None h = tt
before-kept rows row pass (Some line) h = let e : length (rows ++ row ∷ []) ≡ length rows + 1 = Rattle.std.proofs.Common.length-append rows (row ∷ []) in omega (arith, e, h)

pub each-kept : (rows : List LineRow) (row : LineRow) (pass : Pass) (bs : Blocks) → EachBefore rows pass bs → EachBefore (rows ++ row ∷ []) pass bs
each-kept rows row pass [] h = tt
each-kept rows row pass (b ∷ bs) h = (before-kept rows row pass b h.0, each-kept rows row pass bs h.1)

pub each-take : (rows : List LineRow) (pass : Pass) (n : ℕ) (bs : Blocks) → EachBefore rows pass bs → EachBefore rows pass (take n bs)
each-take rows pass zero bs h = tt
each-take rows pass (suc n) [] h = tt
each-take rows pass (suc n) (b ∷ bs) h = (h.0, each-take rows pass n bs h.1)

pub each-more : (rows : List LineRow) (pass : Pass) (bs : Blocks) (b : Option ℕ) → EachBefore rows pass bs → IsBlockBefore rows pass b → EachBefore rows pass (bs ++ b ∷ [])
each-more rows pass [] b h k = (k, tt)
each-more rows pass (x ∷ bs) b h k = (h.0, each-more rows pass bs b h.1 k)

each-at : (rows : List LineRow) (pass : Pass) (n : ℕ) (bs : Blocks) → EachBefore rows pass bs → IsBlockBefore rows pass (or_none (slice_get bs n))
each-at rows pass n [] h = tt
each-at rows pass zero (b ∷ bs) h = h.0
each-at rows pass (suc n) (b ∷ bs) h = each-at rows pass n bs h.1

pub own-before : (rows : List LineRow) (pass : Pass) (opens : Bool) (n : ℕ) (bs : Blocks) → EachBefore rows pass bs → IsBlockBefore rows pass (cond opens None (or_none (slice_get bs n)))
own-before rows pass true n bs h = tt
own-before rows pass false n bs h = each-at rows pass n bs h

-- ---- active lines

all-marks : (rows : List LineRow) (pass : Pass) (bs : Blocks) → list_all (applies_at rows pass) (flat_map option_to_list bs) ≡ list_all (λ m. m) (map (open_applies rows pass) bs)
all-marks rows pass [] = refl
all-marks rows pass (None ∷ bs) = all-marks rows pass bs
all-marks rows pass (Some b ∷ bs) = ap (λ x. applies_at rows pass b && x) (all-marks rows pass bs)

and-true : (b : Bool) → (b && true) ≡ b
and-true true = refl
and-true false = refl

own-active : (rows : List LineRow) (pass : Pass) (opening : Bool) (own : Option ℕ) → list_all (applies_at rows pass) (own_block opening own) ≡ cond opening true (open_applies rows pass own)
own-active rows pass true None = refl
own-active rows pass true (Some b) = refl
own-active rows pass false None = refl
own-active rows pass false (Some b) = and-true (applies_at rows pass b)

marked : (rows : List LineRow) (pass : Pass) (n : ℕ) (bs : Blocks) → open_applies rows pass (or_none (slice_get bs n)) ≡ unwrap_or (slice_get (map (open_applies rows pass) bs) n) true
marked rows pass n [] = refl
marked rows pass zero (b ∷ bs) = refl
marked rows pass (suc n) (b ∷ bs) = marked rows pass n bs

pub own-marked : (rows : List LineRow) (pass : Pass) (opens : Bool) (n : ℕ) (bs : Blocks) → open_applies rows pass (cond opens None (or_none (slice_get bs n))) ≡ own_mark n opens (map (open_applies rows pass) bs)
own-marked rows pass true n bs = refl
own-marked rows pass false n bs = marked rows pass n bs

-- a line is active where all marks below its own are set, and its own, unless it opens a block
pub active-marked : (rows : List LineRow) (pass : Pass) (n : ℕ) (opening : Bool) (bs : Blocks) (own : Option ℕ)
    → list_all (applies_at rows pass) (flat_map option_to_list (take n bs) ++ own_block opening own)
    ≡ (list_all (λ m. m) (take n (map (open_applies rows pass) bs)) && cond opening true (open_applies rows pass own))
active-marked rows pass n opening bs own =
    list_all-append (applies_at rows pass) (flat_map option_to_list (take n bs)) (own_block opening own)
    ∙ ap (λ x. x && list_all (applies_at rows pass) (own_block opening own)) (all-marks rows pass (take n bs) ∙ ap (list_all (λ m. m)) (sym (take-map (open_applies rows pass) n bs)))
    ∙ ap (λ x. list_all (λ m. m) (take n (map (open_applies rows pass) bs)) && x) (own-active rows pass opening own)

-- ---- the marks after a line

one-more : (rows : List LineRow) (pass : Pass) (n : ℕ) (bs : Blocks) → n < length bs → map (open_applies rows pass) (take n bs ++ or_none (slice_get bs n) ∷ []) ≡ take (suc n) (map (open_applies rows pass) bs)
one-more rows pass n [] h = absurd (omega (arith, h))
one-more rows pass zero (b ∷ bs) h = refl
one-more rows pass (suc n) (b ∷ bs) h = ap (λ xs. open_applies rows pass b ∷ xs) (one-more rows pass n bs (omega (arith, h)))

pub marks-entered : (rows : List LineRow) (pass : Pass) (opens : Bool) (n : ℕ) (bs : Blocks) → (opens ≡ false → n < length bs)
    → map (open_applies rows pass) (take n bs ++ cond opens None (or_none (slice_get bs n)) ∷ []) ≡ marks_in_file n opens (map (open_applies rows pass) bs)
marks-entered rows pass true n bs h = map-append (open_applies rows pass) (take n bs) (None ∷ []) ∙ ap (λ xs. xs ++ true ∷ []) (sym (take-map (open_applies rows pass) n bs))
marks-entered rows pass false n bs h = one-more rows pass n bs (h refl) ∙ (let k : suc n ≡ n + 1 = omega arith in ap (λ m. take m (map (open_applies rows pass) bs)) k)
