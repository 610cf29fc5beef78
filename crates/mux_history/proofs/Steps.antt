-- How the channels that are not over go on by one row.
use Rattle.std.proofs.Common.{◌≡◌, ℕ, List, [], ◌∷◌, ◌++◌, true, false, Bool, refl, ◌∙◌, ap, map, sym, Option, None, Ok, Err}
use Rattle.std.specs.Prelude.{◌==◌, ◌&&◌, filter}
use Rattle.std.proofs.lemmas.List.Elements.{filter-append}
use Rattle.mux_history.specs.Channels.{Channel, after_farewell, after_item, begun_by, channels_of, channel_after_item, held_of, is_channel_held, is_number, own_number_of, with_down, with_up, with_ups}
use Rattle.mux_history.specs.Summary.{Confirmation, Summary, Within, read_summary, reading}
use Rattle.mux_history.specs.Rows.{Heard, Item, Row}
use Rattle.mux_history.proofs.Finds.{filter-no, filter-yes}

-- a change that leaves what is over
abbrev pub LeavesOver : (Channel → Channel) → Type 0
LeavesOver f = (x : Channel) → is_channel_held x ≡ false → f x ≡ x

none_held : (b : Bool) (x : Channel) → is_channel_held x ≡ false → (b && is_channel_held x) ≡ false
none_held true x over = over
none_held false x over = refl

down-over : (m : Summary) → LeavesOver (with_down m)
down-over (Confirmation n s w m) x over = rw (none_held (is_number x.number n) x over, with_down) refl
down-over (Within n act) x over = rw (none_held (is_number x.number n) x over, with_down) refl
down-over m x over = refl

up-over : (own : Option ℕ) (m : Summary) → LeavesOver (with_up own m)
up-over own (Confirmation s n w m) x over = rw (none_held (is_number x.remote s) x over, with_up) refl
up-over own (Within s act) x over = rw (none_held (is_number x.remote s) x over, with_up) refl
up-over own m x over = refl

reading-over : (p : List ℕ) (f : Summary → Channel) (x : Channel) → ((m : Summary) → f m ≡ x) → reading p f x ≡ x
reading-over p f x each = elim (read_summary p) as (λ r. (elim r as (λ _. Channel) [ Err e ↦ x | Ok m ↦ f m ]) ≡ x) [ Err e ↦ refl | Ok m ↦ each m ]

ups-over : (own : Option ℕ) (ps : List (List ℕ)) → LeavesOver (with_ups own ps)
ups-over own [] x over = refl
ups-over own (p ∷ ps) x over = ap (with_ups own ps) (reading-over p (λ m. with_up own m x) x (λ m. up-over own m x over)) ∙ ups-over own ps x over

heard-over : (item : Item) → LeavesOver (channel_after_item item)
heard-over (Heard p) x over = reading-over p (λ m. with_down m x) x (λ m. down-over m x over)
heard-over item x over = refl

pub item-over : (row : Row) → LeavesOver (after_item row)
item-over row x over = elim (x.client == row.client) as (λ b. (elim b as (λ _. Channel) [ true ↦ with_ups (own_number_of row.item) row.up (channel_after_item row.item x) | false ↦ x ]) ≡ x)
    [ true ↦ ap (with_ups (own_number_of row.item) row.up) (heard-over row.item x over) ∙ ups-over (own_number_of row.item) row.up x over | false ↦ refl ]

pub farewell-over : (row : Row) → LeavesOver (after_farewell row)
farewell-over row x over = elim (x.client == row.client) as (λ b. (elim b as (λ _. Channel) [ true ↦ with_ups None row.farewell x | false ↦ x ]) ≡ x)
    [ true ↦ ups-over None row.farewell x over | false ↦ refl ]

-- what is over stays out
held-map : (f : Channel → Channel) → LeavesOver f → (xs : List Channel) → filter is_channel_held (map f xs) ≡ filter is_channel_held (map f (filter is_channel_held xs))
held-map f leaves [] = refl
held-map f leaves (x ∷ xs) = choose (held-map f leaves xs) (is_channel_held x) refl (is_channel_held (f x)) refl
  where
    choose : filter is_channel_held (map f xs) ≡ filter is_channel_held (map f (filter is_channel_held xs)) → (b : Bool) → is_channel_held x ≡ b → (b' : Bool) → is_channel_held (f x) ≡ b' → filter is_channel_held (map f (x ∷ xs)) ≡ filter is_channel_held (map f (filter is_channel_held (x ∷ xs)))
    choose ih false over b' e' =
        filter-no is_channel_held (f x) (map f xs) (ap is_channel_held (leaves x over) ∙ over) ∙ (ih ∙ sym (ap (λ ys. filter is_channel_held (map f ys)) (filter-no is_channel_held x xs over)))
    choose ih true held true e' =
        filter-yes is_channel_held (f x) (map f xs) e' ∙ (ap (λ ys. f x ∷ ys) ih ∙ sym (ap (λ ys. filter is_channel_held (map f ys)) (filter-yes is_channel_held x xs held) ∙ filter-yes is_channel_held (f x) (map f (filter is_channel_held xs)) e'))
    choose ih true held false e' =
        filter-no is_channel_held (f x) (map f xs) e' ∙ (ih ∙ sym (ap (λ ys. filter is_channel_held (map f ys)) (filter-yes is_channel_held x xs held) ∙ filter-no is_channel_held (f x) (map f (filter is_channel_held xs)) e'))

-- the channels that are not over after one more row, from those before it
abbrev pub next_held : Row → List Channel → List Channel
next_held row hs = filter is_channel_held (map (after_farewell row) (filter is_channel_held (map (after_item row) hs ++ begun_by row.client row.up row.item)))

pub held-step : (row : Row) (before : List Row) → held_of (row ∷ before) ≡ next_held row (held_of before)
held-step row before =
    held-map (after_farewell row) (farewell-over row) (map (after_item row) (channels_of before) ++ begun_by row.client row.up row.item)
    ∙ ap (λ ys. filter is_channel_held (map (after_farewell row) ys))
    (filter-append is_channel_held (map (after_item row) (channels_of before)) (begun_by row.client row.up row.item)
    ∙ (ap (λ ys. ys ++ filter is_channel_held (begun_by row.client row.up row.item)) (held-map (after_item row) (item-over row) (channels_of before))
    ∙ sym (filter-append is_channel_held (map (after_item row) (held_of before)) (begun_by row.client row.up row.item))))
