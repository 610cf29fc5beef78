-- A client's channels, here and alone: the same, but that each number is the client's own.
use Rattle.std.proofs.Common.{◌≡◌, ℕ, List, [], ◌∷◌, ◌++◌, true, false, Bool, refl, ◌∙◌, ap, map, sym, Option, Some, None, Ok, Err}
use Rattle.std.specs.Prelude.{◌==◌, ◌&&◌, Result}
use Rattle.std.proofs.lemmas.List.{map-append}
use Rattle.mux_history.specs.Channels.{Channel, after_farewell, after_item, begun_by, channels_of, channel_after_item, is_channel_held, is_number, own_number_of, with_up, with_ups}
use Rattle.mux_history.specs.Summary.{Act, Confirmation, Confirms, Summary, Within, read_summary, reading}
use Rattle.mux_history.specs.Kept.{Every}
use Rattle.mux_history.specs.Rows.{Heard, Item, Row}
use Rattle.mux_history.specs.Solo.{item_for, own_ups}
use Rattle.ssh_grammar.specs.Said.{heard}
use Rattle.ssh_grammar.specs.SpellMessage.{with_sender}
use Rattle.ssh_grammar.specs.declared.fault.Bad.{Bad}
use Rattle.ssh_grammar.specs.declared.side.Side.TheVariants.{Up}
use Rattle.mux_history.proofs.Finds.{Each}
use Rattle.mux_history.proofs.Quiets.{IsQuiet, Quiet}
use Rattle.mux_history.proofs.Readings.{reading-ok}
use Rattle.mux_history.proofs.Renumbered.{resent}
use Rattle.mux_isolation.proofs.Heard.{Named, heard-alone}
use Rattle.mux_isolation.proofs.Meets.{own_numbered}
use Rattle.mux_isolation.proofs.Solos.{alone, alone_row}

pub record Numbered (c : ℕ) (q : List ℕ) : Type 0 where
  pub said : Summary
  pub reads : read_summary q ≡ Ok said
  pub again : read_summary (with_sender q c) ≡ Ok (resent c said)

abbrev pub UpsNamed : Option ℕ → List (List ℕ) → Type 0
UpsNamed None ups = Every Quiet ups
UpsNamed (Some c) ups = Every (Numbered c) ups

within-up : (own : Option ℕ) (s : ℕ) (act : Act) (x : Channel) → with_up own (Within s act) (own_numbered x) ≡ own_numbered (with_up own (Within s act) x)
within-up own s act x = pick (is_number x.remote s && is_channel_held x)
  where
    pick : (b : Bool) → (elim b as (λ _. Channel) [ true ↦ record x { number = x.own; acts = (Up, act) ∷ x.acts } | false ↦ own_numbered x ]) ≡ own_numbered (elim b as (λ _. Channel) [ true ↦ record x { acts = (Up, act) ∷ x.acts } | false ↦ x ])
    pick true = refl
    pick false = refl

confirmation-up : (c s a w m : ℕ) (x : Channel) → with_up (Some c) (Confirmation s c w m) (own_numbered x) ≡ own_numbered (with_up (Some c) (Confirmation s a w m) x)
confirmation-up c s a w m x = pick (is_number x.remote s && is_channel_held x)
  where
    pick : (b : Bool) → (elim b as (λ _. Channel) [ true ↦ record x { own = Some c; number = Some c; acts = (Up, Confirms w m) ∷ x.acts } | false ↦ own_numbered x ]) ≡ own_numbered (elim b as (λ _. Channel) [ true ↦ record x { own = Some c; number = Some a; acts = (Up, Confirms w m) ∷ x.acts } | false ↦ x ])
    pick true = refl
    pick false = refl

quiet-up : (own : Option ℕ) (m : Summary) → IsQuiet m → (x : Channel) → with_up own m (own_numbered x) ≡ own_numbered (with_up own m x)
quiet-up own (Confirmation s n w m) quiet x = absurd quiet
quiet-up own (Within s act) quiet x = within-up own s act x
quiet-up own m quiet x = refl

resent-up : (c : ℕ) (m : Summary) (x : Channel) → with_up (Some c) (resent c m) (own_numbered x) ≡ own_numbered (with_up (Some c) m x)
resent-up c (Confirmation s a w m) x = confirmation-up c s a w m x
resent-up c (Within s act) x = within-up (Some c) s act x
resent-up c m x = refl

quiet-one : (q : List ℕ) → Quiet q → (x : Channel) → reading q (λ m. with_up None m (own_numbered x)) (own_numbered x) ≡ own_numbered (reading q (λ m. with_up None m x) x)
quiet-one q quiet x = by_case (read_summary q) (λ m e. quiet m e)
  where
    by_case : (r : Result Summary Bad) → ((m : Summary) → r ≡ Ok m → IsQuiet m) → (elim r as (λ _. Channel) [ Err e ↦ own_numbered x | Ok m ↦ with_up None m (own_numbered x) ]) ≡ own_numbered (elim r as (λ _. Channel) [ Err e ↦ x | Ok m ↦ with_up None m x ])
    by_case (Err e) quiet = refl
    by_case (Ok m) quiet = quiet-up None m (quiet m refl) x

quiet-ups : (ups : List (List ℕ)) → Every Quiet ups → (x : Channel) → with_ups None ups (own_numbered x) ≡ own_numbered (with_ups None ups x)
quiet-ups [] quiet x = refl
quiet-ups (q ∷ ups) quiet x = ap (with_ups None ups) (quiet-one q quiet.0 x) ∙ quiet-ups ups quiet.1 (reading q (λ m. with_up None m x) x)

numbered-ups : (c : ℕ) (ups : List (List ℕ)) → Every (Numbered c) ups → (x : Channel) → with_ups (Some c) (own_ups (Some c) ups) (own_numbered x) ≡ own_numbered (with_ups (Some c) ups x)
numbered-ups c [] each x = refl
numbered-ups c (q ∷ ups) each x =
    ap (with_ups (Some c) (own_ups (Some c) ups))
    (reading-ok (with_sender q c) (resent c each.0.said) (λ m. with_up (Some c) m (own_numbered x)) (own_numbered x) each.0.again
    ∙ (resent-up c each.0.said x ∙ sym (ap own_numbered (reading-ok q each.0.said (λ m. with_up (Some c) m x) x each.0.reads))))
    ∙ numbered-ups c ups each.1 (reading q (λ m. with_up (Some c) m x) x)

ups-alone : (own : Option ℕ) (ups : List (List ℕ)) → UpsNamed own ups → (x : Channel) → with_ups own (own_ups own ups) (own_numbered x) ≡ own_numbered (with_ups own ups x)
ups-alone None ups named x = quiet-ups ups named x
ups-alone (Some c) ups named x = numbered-ups c ups named x

-- what is known of a row of the client when it comes
abbrev pub ReceivedOne : List Row → Item → Channel → Type 0
ReceivedOne before (Heard p) x = Named before p x
ReceivedOne before item x = Unit {0}

pub record RowNamed (before : List Row) (row : Row) : Type 0 where
  pub heard : Each (ReceivedOne before row.item) (channels_of before)
  pub ups : UpsNamed (own_number_of row.item) row.up
  pub parting : Every Quiet row.farewell
  pub begun : begun_by row.client (own_ups (own_number_of row.item) row.up) (item_for before row.item) ≡ map own_numbered (begun_by row.client row.up row.item)

abbrev pub AllNamed : List Row → Type 0
AllNamed [] = Unit {0}
AllNamed (row ∷ before) = RowNamed before row × AllNamed before

own_number_of-item : (before : List Row) (item : Item) → own_number_of (item_for before item) ≡ own_number_of item
own_number_of-item before (Heard p) = refl
own_number_of-item before item = refl

heard-one : (before : List Row) (item : Item) (x : Channel) → ReceivedOne before item x → channel_after_item (item_for before item) (own_numbered x) ≡ own_numbered (channel_after_item item x)
heard-one before (Heard p) x named = heard-alone before p x named
heard-one before item x named = refl

item-alone : (before : List Row) (row : Row) (x : Channel) → ReceivedOne before row.item x → UpsNamed (own_number_of row.item) row.up → after_item (alone_row before row) (own_numbered x) ≡ own_numbered (after_item row x)
item-alone before row x heard ups = by_case (x.client == row.client)
  where
    by_case : (b : Bool) → (elim b as (λ _. Channel) [ true ↦ with_ups (own_number_of (item_for before row.item)) (own_ups (own_number_of row.item) row.up) (channel_after_item (item_for before row.item) (own_numbered x)) | false ↦ own_numbered x ]) ≡ own_numbered (elim b as (λ _. Channel) [ true ↦ with_ups (own_number_of row.item) row.up (channel_after_item row.item x) | false ↦ x ])
    by_case true =
        ap (with_ups (own_number_of (item_for before row.item)) (own_ups (own_number_of row.item) row.up)) (heard-one before row.item x heard)
        ∙ (ap (λ o. with_ups o (own_ups (own_number_of row.item) row.up) (own_numbered (channel_after_item row.item x))) (own_number_of-item before row.item)
        ∙ ups-alone (own_number_of row.item) row.up ups (channel_after_item row.item x))
    by_case false = refl

leave-alone : (before : List Row) (row : Row) (x : Channel) → Every Quiet row.farewell → after_farewell (alone_row before row) (own_numbered x) ≡ own_numbered (after_farewell row x)
leave-alone before row x quiet = by_case (x.client == row.client)
  where
    by_case : (b : Bool) → (elim b as (λ _. Channel) [ true ↦ with_ups None row.farewell (own_numbered x) | false ↦ own_numbered x ]) ≡ own_numbered (elim b as (λ _. Channel) [ true ↦ with_ups None row.farewell x | false ↦ x ])
    by_case true = quiet-ups row.farewell quiet x
    by_case false = refl

item-all : (before : List Row) (row : Row) (xs : List Channel) → Each (ReceivedOne before row.item) xs → UpsNamed (own_number_of row.item) row.up → map (after_item (alone_row before row)) (map own_numbered xs) ≡ map own_numbered (map (after_item row) xs)
item-all before row [] heard ups = refl
item-all before row (x ∷ xs) heard ups = ap (λ y. y ∷ map (after_item (alone_row before row)) (map own_numbered xs)) (item-alone before row x heard.0 ups) ∙ ap (λ ys. own_numbered (after_item row x) ∷ ys) (item-all before row xs heard.1 ups)

leave-all : (before : List Row) (row : Row) (xs : List Channel) → Every Quiet row.farewell → map (after_farewell (alone_row before row)) (map own_numbered xs) ≡ map own_numbered (map (after_farewell row) xs)
leave-all before row [] quiet = refl
leave-all before row (x ∷ xs) quiet = ap (λ y. y ∷ map (after_farewell (alone_row before row)) (map own_numbered xs)) (leave-alone before row x quiet) ∙ ap (λ ys. own_numbered (after_farewell row x) ∷ ys) (leave-all before row xs quiet)

-- the channels of a client alone are those that it has here, each under the client's own number
pub channels-alone : (own : List Row) → AllNamed own → channels_of (alone own) ≡ map own_numbered (channels_of own)
channels-alone [] named = refl
channels-alone (row ∷ before) named =
    ap (map (after_farewell (alone_row before row)))
    (ap (λ cs. map (after_item (alone_row before row)) cs ++ begun_by row.client (own_ups (own_number_of row.item) row.up) (item_for before row.item)) (channels-alone before named.1)
    ∙ (ap (λ cs. cs ++ begun_by row.client (own_ups (own_number_of row.item) row.up) (item_for before row.item)) (item-all before row (channels_of before) named.0.heard named.0.ups)
    ∙ (ap (λ bs. map own_numbered (map (after_item row) (channels_of before)) ++ bs) named.0.begun
    ∙ sym (map-append own_numbered (map (after_item row) (channels_of before)) (begun_by row.client row.up row.item)))))
    ∙ leave-all before row (map (after_item row) (channels_of before) ++ begun_by row.client row.up row.item) named.0.parting
