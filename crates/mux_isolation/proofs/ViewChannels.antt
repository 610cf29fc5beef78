-- What is seen of a client's channels goes on by one row.
use Rattle.std.proofs.Common.{◌≡◌, ℕ, ◌+◌, List, [], ◌∷◌, ◌++◌, map, true, false, Bool, refl, ◌∙◌, ap, sym, Option, Some, None, Ok, Err}
use Rattle.std.specs.Prelude.{◌==◌, ◌&&◌, ◌||◌, not, filter, find, flat_map, option_map, Result}
use Rattle.std.proofs.lemmas.List.{map-append}
use Rattle.ssh_grammar.specs.SpellMessage.{client_is_gone, close, open_failure}
use Rattle.ssh_grammar.specs.declared.fault.Bad.{Bad}
use Rattle.ssh_grammar.specs.declared.numbers.TheConstants.{CONNECT_FAILED}
use Rattle.ssh_grammar.specs.declared.side.Side.{Side}
use Rattle.ssh_grammar.specs.declared.side.Side.TheVariants.{Down, Up}
use Rattle.mux_history.specs.Channels.{Channel, after_farewell, after_item, begun_by, channel_after_item, held_of, is_closes, is_confirms, is_ends, is_fails, is_channel_held, is_number, is_up, own_number_of, same_side, with_down, with_up, with_ups}
use Rattle.mux_history.specs.Farewell.{leave_channel, to_number}
use Rattle.mux_history.specs.Summary.{Act, Confirmation, Confirms, Summary, Within, read_summary, reading}
use Rattle.mux_history.specs.Ledger.{reply_count, request_count, carried, first_window, granted_size, other_side, packet}
use Rattle.mux_history.specs.Rows.{Heard, Item, Row, any_of}
use Rattle.mux_isolation.specs.LogView.{ChannelView, Way, channel_view}
use Rattle.mux_history.proofs.Finds.{filter-no, filter-yes, find-no, find-yes}
use Rattle.mux_history.proofs.Steps.{held-step}

-- ---- one more act

abbrev pub held_seen : ChannelView → Bool
held_seen v = not (v.failed || (v.up.closed && v.down.closed))

-- a direction `way` of a channel opened by `by`, after an act in the direction `side`
abbrev act_way : Side → Side → Side → Act → Way → Way
act_way by side way act w = record {
  window = elim (same_side by way) [ true ↦ elim (same_side side (other_side way)) [ true ↦ first_window act + w.window | false ↦ w.window ] | false ↦ w.window ];
  adjustments = elim (same_side side (other_side way)) [ true ↦ granted_size act + w.adjustments | false ↦ w.adjustments ];
  sizes = elim (same_side side way) [ true ↦ carried act + w.sizes | false ↦ w.sizes ];
  maximum = elim (same_side by way) [ true ↦ elim (same_side side (other_side way)) [ true ↦ packet act + w.maximum | false ↦ w.maximum ] | false ↦ w.maximum ];
  requests = elim (same_side side way) [ true ↦ request_count act + w.requests | false ↦ w.requests ];
  replies = elim (same_side side (other_side way)) [ true ↦ reply_count act + w.replies | false ↦ w.replies ];
  eof = (same_side side way && is_ends act) || w.eof;
  closed = (same_side side way && is_closes act) || w.closed;
}

abbrev add_act : Side → Act → ChannelView → ChannelView
add_act side act v = record v {
  confirmed = is_confirms act || v.confirmed;
  failed = is_fails act || v.failed;
  up = act_way v.by side Up act v.up;
  down = act_way v.by side Down act v.down;
}

act-seen : (side : Side) (act : Act) (x : Channel) → channel_view (record x { acts = (side, act) ∷ x.acts }) ≡ add_act side act (channel_view x)
act-seen side act x = by_side x.by
  where
    by_side : (b : Side) → channel_view (record x { by = b; acts = (side, act) ∷ x.acts }) ≡ add_act side act (channel_view (record x { by = b }))
    by_side Up = refl
    by_side Down = refl

-- ---- messages

abbrev down_seen : Summary → ChannelView → ChannelView
down_seen (Confirmation n s w m) v = elim (is_number v.number n && held_seen v) [ true ↦ add_act Down (Confirms w m) (record v { remote = Some s }) | false ↦ v ]
down_seen (Within n act) v = elim (is_number v.number n && held_seen v) [ true ↦ add_act Down act v | false ↦ v ]
down_seen _ v = v

down-seen : (m : Summary) (x : Channel) → channel_view (with_down m x) ≡ down_seen m (channel_view x)
down-seen (Confirmation n s w m) x = by_case (is_number x.number n && is_channel_held x)
  where
    by_case : (b : Bool) → channel_view (elim b as (λ _. Channel) [ true ↦ record x { remote = Some s; acts = (Down, Confirms w m) ∷ x.acts } | false ↦ x ]) ≡ (elim b as (λ _. ChannelView) [ true ↦ add_act Down (Confirms w m) (record (channel_view x) { remote = Some s }) | false ↦ channel_view x ])
    by_case true = act-seen Down (Confirms w m) (record x { remote = Some s })
    by_case false = refl
down-seen (Within n act) x = by_case (is_number x.number n && is_channel_held x)
  where
    by_case : (b : Bool) → channel_view (elim b as (λ _. Channel) [ true ↦ record x { acts = (Down, act) ∷ x.acts } | false ↦ x ]) ≡ (elim b as (λ _. ChannelView) [ true ↦ add_act Down act (channel_view x) | false ↦ channel_view x ])
    by_case true = act-seen Down act x
    by_case false = refl
down-seen m x = refl

abbrev up_seen : Option ℕ → Summary → ChannelView → ChannelView
up_seen own (Confirmation s n w m) v = elim (is_number v.remote s && held_seen v) [ true ↦ add_act Up (Confirms w m) (record v { own = own; number = Some n }) | false ↦ v ]
up_seen own (Within s act) v = elim (is_number v.remote s && held_seen v) [ true ↦ add_act Up act v | false ↦ v ]
up_seen own _ v = v

up-seen : (own : Option ℕ) (m : Summary) (x : Channel) → channel_view (with_up own m x) ≡ up_seen own m (channel_view x)
up-seen own (Confirmation s n w m) x = by_case (is_number x.remote s && is_channel_held x)
  where
    by_case : (b : Bool) → channel_view (elim b as (λ _. Channel) [ true ↦ record x { own = own; number = Some n; acts = (Up, Confirms w m) ∷ x.acts } | false ↦ x ]) ≡ (elim b as (λ _. ChannelView) [ true ↦ add_act Up (Confirms w m) (record (channel_view x) { own = own; number = Some n }) | false ↦ channel_view x ])
    by_case true = act-seen Up (Confirms w m) (record x { own = own; number = Some n })
    by_case false = refl
up-seen own (Within s act) x = by_case (is_number x.remote s && is_channel_held x)
  where
    by_case : (b : Bool) → channel_view (elim b as (λ _. Channel) [ true ↦ record x { acts = (Up, act) ∷ x.acts } | false ↦ x ]) ≡ (elim b as (λ _. ChannelView) [ true ↦ add_act Up act (channel_view x) | false ↦ channel_view x ])
    by_case true = act-seen Up act x
    by_case false = refl
up-seen own m x = refl

reading-seen : (p : List ℕ) (f : Summary → Channel) (g : Summary → ChannelView) (x : Channel) → ((m : Summary) → channel_view (f m) ≡ g m) → channel_view (reading p f x) ≡ reading p g (channel_view x)
reading-seen p f g x each = by_case (read_summary p)
  where
    by_case : (r : Result Summary Bad) → channel_view (elim r as (λ _. Channel) [ Err e ↦ x | Ok m ↦ f m ]) ≡ (elim r as (λ _. ChannelView) [ Err e ↦ channel_view x | Ok m ↦ g m ])
    by_case (Err e) = refl
    by_case (Ok m) = each m

abbrev ups_seen : Option ℕ → List (List ℕ) → ChannelView → ChannelView
ups_seen own [] v = v
ups_seen own (p ∷ ps) v = ups_seen own ps (reading p (λ m. up_seen own m v) v)

ups-seen : (own : Option ℕ) (ps : List (List ℕ)) (x : Channel) → channel_view (with_ups own ps x) ≡ ups_seen own ps (channel_view x)
ups-seen own [] x = refl
ups-seen own (p ∷ ps) x = ups-seen own ps (reading p (λ m. with_up own m x) x) ∙ ap (ups_seen own ps) (reading-seen p (λ m. with_up own m x) (λ m. up_seen own m (channel_view x)) x (λ m. up-seen own m x))

abbrev received_seen : Item → ChannelView → ChannelView
received_seen (Heard p) v = reading p (λ m. down_seen m v) v
received_seen _ v = v

heard-seen : (item : Item) (x : Channel) → channel_view (channel_after_item item x) ≡ received_seen item (channel_view x)
heard-seen (Heard p) x = reading-seen p (λ m. with_down m x) (λ m. down_seen m (channel_view x)) x (λ m. down-seen m x)
heard-seen item x = refl

-- ---- one row

abbrev item_seen : Row → ChannelView → ChannelView
item_seen row v = elim (v.client == row.client) [ true ↦ ups_seen (own_number_of row.item) row.up (received_seen row.item v) | false ↦ v ]

item-seen : (row : Row) (x : Channel) → channel_view (after_item row x) ≡ item_seen row (channel_view x)
item-seen row x = by_case (x.client == row.client)
  where
    by_case : (b : Bool) → channel_view (elim b as (λ _. Channel) [ true ↦ with_ups (own_number_of row.item) row.up (channel_after_item row.item x) | false ↦ x ]) ≡ (elim b as (λ _. ChannelView) [ true ↦ ups_seen (own_number_of row.item) row.up (received_seen row.item (channel_view x)) | false ↦ channel_view x ])
    by_case true = ups-seen (own_number_of row.item) row.up (channel_after_item row.item x) ∙ ap (ups_seen (own_number_of row.item) row.up) (heard-seen row.item x)
    by_case false = refl

abbrev farewell_seen : Row → ChannelView → ChannelView
farewell_seen row v = elim (v.client == row.client) [ true ↦ ups_seen None row.farewell v | false ↦ v ]

farewell-seen : (row : Row) (x : Channel) → channel_view (after_farewell row x) ≡ farewell_seen row (channel_view x)
farewell-seen row x = by_case (x.client == row.client)
  where
    by_case : (b : Bool) → channel_view (elim b as (λ _. Channel) [ true ↦ with_ups None row.farewell x | false ↦ x ]) ≡ (elim b as (λ _. ChannelView) [ true ↦ ups_seen None row.farewell (channel_view x) | false ↦ channel_view x ])
    by_case true = ups-seen None row.farewell x
    by_case false = refl

-- ---- lists of channels

map-view : (f : Channel → Channel) (g : ChannelView → ChannelView) → ((x : Channel) → channel_view (f x) ≡ g (channel_view x)) → (xs : List Channel) → map channel_view (map f xs) ≡ map g (map channel_view xs)
map-view f g each [] = refl
map-view f g each (x ∷ xs) = ap (λ y. y ∷ map channel_view (map f xs)) (each x) ∙ ap (λ ys. g (channel_view x) ∷ ys) (map-view f g each xs)

filter-view : (xs : List Channel) → map channel_view (filter is_channel_held xs) ≡ filter held_seen (map channel_view xs)
filter-view [] = refl
filter-view (x ∷ xs) = by_case (filter-view xs) (is_channel_held x) refl
  where
    by_case : map channel_view (filter is_channel_held xs) ≡ filter held_seen (map channel_view xs) → (b : Bool) → is_channel_held x ≡ b → map channel_view (filter is_channel_held (x ∷ xs)) ≡ filter held_seen (map channel_view (x ∷ xs))
    by_case ih true e = ap (map channel_view) (filter-yes is_channel_held x xs e) ∙ (ap (λ ys. channel_view x ∷ ys) ih ∙ sym (filter-yes held_seen (channel_view x) (map channel_view xs) e))
    by_case ih false e = ap (map channel_view) (filter-no is_channel_held x xs e) ∙ (ih ∙ sym (filter-no held_seen (channel_view x) (map channel_view xs) e))

pub find-view : (test : ChannelView → Bool) (xs : List Channel) → option_map channel_view (find (λ x. test (channel_view x)) xs) ≡ find test (map channel_view xs)
find-view test [] = refl
find-view test (x ∷ xs) = by_case (find-view test xs) (test (channel_view x)) refl
  where
    by_case : option_map channel_view (find (λ x. test (channel_view x)) xs) ≡ find test (map channel_view xs) → (b : Bool) → test (channel_view x) ≡ b → option_map channel_view (find (λ x. test (channel_view x)) (x ∷ xs)) ≡ find test (map channel_view (x ∷ xs))
    by_case ih true e = ap (option_map channel_view) (find-yes (λ (x : Channel). test (channel_view x)) x xs e) ∙ sym (find-yes test (channel_view x) (map channel_view xs) e)
    by_case ih false e = ap (option_map channel_view) (find-no (λ (x : Channel). test (channel_view x)) x xs e) ∙ (ih ∙ sym (find-no test (channel_view x) (map channel_view xs) e))

pub any-view : (xs : List Channel) → any_of is_channel_held xs ≡ any_of held_seen (map channel_view xs)
any-view [] = refl
any-view (x ∷ xs) = ap (λ b. is_channel_held x || b) (any-view xs)

-- those that are not over after a row
abbrev pub next_channels : Row → List ChannelView → List ChannelView
next_channels row vs = filter held_seen (map (farewell_seen row) (filter held_seen (map (item_seen row) vs ++ map channel_view (begun_by row.client row.up row.item))))

pub channels-step : (row : Row) (own : List Row) → map channel_view (held_of (row ∷ own)) ≡ next_channels row (map channel_view (held_of own))
channels-step row own =
    ap (map channel_view) (held-step row own)
    ∙ (filter-view (map (after_farewell row) inner)
    ∙ (ap (filter held_seen) (map-view (after_farewell row) (farewell_seen row) (farewell-seen row) inner)
    ∙ (ap (λ ys. filter held_seen (map (farewell_seen row) ys)) (filter-view (map (after_item row) (held_of own) ++ begun_by row.client row.up row.item))
    ∙ (ap (λ ys. filter held_seen (map (farewell_seen row) (filter held_seen ys))) (map-append channel_view (map (after_item row) (held_of own)) (begun_by row.client row.up row.item))
    ∙ ap (λ ys. filter held_seen (map (farewell_seen row) (filter held_seen (ys ++ map channel_view (begun_by row.client row.up row.item))))) (map-view (after_item row) (item_seen row) (item-seen row) (held_of own))))))
  where
    inner : List Channel
    inner = filter is_channel_held (map (after_item row) (held_of own) ++ begun_by row.client row.up row.item)

-- ---- the farewell

abbrev leave_seen : ChannelView → List (List ℕ)
leave_seen v = elim v.confirmed [
  | true ↦ elim v.up.closed [ true ↦ [] | false ↦ to_number v.remote close ]
  | false ↦ elim (is_up v.by) [ true ↦ [] | false ↦ to_number v.remote (λ s. open_failure s CONNECT_FAILED client_is_gone) ]
]

leaves-view : (xs : List Channel) → flat_map leave_channel xs ≡ flat_map leave_seen (map channel_view xs)
leaves-view [] = refl
leaves-view (x ∷ xs) = ap (λ ys. leave_channel x ++ ys) (leaves-view xs)

pub leaves-step : (row : Row) (own : List Row) → flat_map leave_channel (held_of (row ∷ own)) ≡ flat_map leave_seen (next_channels row (map channel_view (held_of own)))
leaves-step row own = leaves-view (held_of (row ∷ own)) ∙ ap (flat_map leave_seen) (channels-step row own)

pub leaves-same : (row : Row) (own others : List Row) → map channel_view (held_of own) ≡ map channel_view (held_of others) → flat_map leave_channel (held_of (row ∷ own)) ≡ flat_map leave_channel (held_of (row ∷ others))
leaves-same row own others same = leaves-step row own ∙ (ap (λ vs. flat_map leave_seen (next_channels row vs)) same ∙ sym (leaves-step row others))
