-- A list whose elements are changed one by one, as they are seen.
use Rattle.std.proofs.Common.{◌≡◌, ◌∙◌, ◌<◌, ◌++◌, length, map, take, drop, ap, sym, arith, List, ℕ, slice_index_or, slice_set, ◌+◌}
use Rattle.std.proofs.lemmas.List.{drop-map, get_or-map, length-map, map-set, take-map}
use Rattle.std.proofs.lemmas.List.Edits.{map_over_more}
use Rattle.forward_rules.specs.State.{Forward}
use Rattle.forward_rules.specs.Listing.{listed_forward_of}
use Rattle.forward_rules.specs.declared.listed.Listed.{Listed}

-- one more of a list is changed, as it is seen
pub one-more : (g : Forward → Forward) (xs cur : List Listed) (i : ℕ) (x y : Listed) → i < length xs → length cur ≡ length xs → map listed_forward_of cur ≡ map g (map listed_forward_of (take i xs)) ++ map listed_forward_of (drop i xs) → x ≡ slice_index_or cur i x → listed_forward_of y ≡ g (listed_forward_of x) → map listed_forward_of (slice_set cur i y) ≡ map g (map listed_forward_of (take (i + 1) xs)) ++ map listed_forward_of (drop (i + 1) xs)
one-more g xs cur i x y lt long so is does =
    map-set listed_forward_of cur i y
    ∙ (ap (slice_set (map listed_forward_of cur) i) does
    ∙ (map_over_more g (map listed_forward_of xs) (map listed_forward_of cur) i (listed_forward_of x) (let e = length-map xs listed_forward_of in omega (arith, e, lt)) (so ∙ (ap (λ a. map g a ++ map listed_forward_of (drop i xs)) (sym (take-map listed_forward_of i xs)) ∙ ap (λ a. map g (take i (map listed_forward_of xs)) ++ a) (sym (drop-map listed_forward_of i xs)))) (ap listed_forward_of is ∙ sym (get_or-map listed_forward_of cur i x (listed_forward_of x) (omega (arith, lt, long))))
    ∙ (ap (λ a. map g a ++ drop (i + 1) (map listed_forward_of xs)) (take-map listed_forward_of (i + 1) xs) ∙ ap (λ a. map g (map listed_forward_of (take (i + 1) xs)) ++ a) (drop-map listed_forward_of (i + 1) xs))))
