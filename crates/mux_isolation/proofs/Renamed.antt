-- A client's rows and what is seen of it, alone: the same under its own numbers.
use Rattle.std.proofs.Common.{◌≡◌, ℕ, suc, List, [], ◌∷◌, ◌++◌, length, true, false, Bool, refl, ◌∙◌, ap, map, sym}
use Rattle.std.specs.Prelude.{◌==◌, filter}
use Rattle.mux_history.specs.Channels.{Channel, channels_of, held_of, is_channel_held}
use Rattle.mux_history.specs.Kept.{AtEach, ForEach}
use Rattle.mux_history.specs.Log.{more_of}
use Rattle.mux_history.specs.Policy.{Policy}
use Rattle.mux_history.specs.Rows.{Row, rows_of}
use Rattle.mux_history.specs.Settings.{by_own}
use Rattle.mux_history.specs.Solo.{item_for, items_for}
use Rattle.mux_isolation.specs.Renaming.{MoreItems, RowIsRenamed, ViewIsRenamed, channel_alone, view_alone}
use Rattle.mux_isolation.specs.LogView.{channel_view, view_of}
use Rattle.mux_history.proofs.Finds.{filter-no, filter-yes}
use Rattle.mux_history.proofs.OwnRows.{AllOf, rows-all}
use Rattle.mux_isolation.proofs.Alike.{held-own}
use Rattle.mux_isolation.proofs.Alone.{asks-alone, lost-alone, pending-alone, wanted-alone}
use Rattle.mux_isolation.proofs.Meets.{own_numbered}
use Rattle.mux_isolation.proofs.Numbers.{AllNamed, channels-alone}
use Rattle.mux_isolation.proofs.Rows.{AllSmall, alone-all, forwardings-alone, replies-alone}
use Rattle.mux_isolation.proofs.Solos.{alone, alone_row}
use Rattle.mux_isolation.proofs.Treats.{alone-admits, greeted-alone, proxy-alone, out-alone}
use Rattle.mux_isolation.proofs.Unshared.{AllOwn, one-more, solo-alone}
use Rattle.mux_isolation.proofs.ViewSent.{own_view}
use Rattle.mux_isolation.proofs.Views.{view-own}

-- ---- rows

-- the rows so far are those of the unshared connection, and the next is the next of them
pub rows-renamed : (policy : Policy) (pid : ℕ) (own : List Row) → AllOwn policy pid own → ForEach (RowIsRenamed (by_own policy pid)) own
rows-renamed policy pid [] known = tt
rows-renamed policy pid (row ∷ own) known = (
  ap (λ rows. more_of (by_own policy pid) rows (item_for own row.item)) (solo-alone policy pid own known.1)
      ∙ (one-more policy pid (alone own) (item_for own row.item) known.0.makes
      ∙ (ap (λ r. r ∷ alone own) known.0.treats
      ∙ sym (ap (λ rows. alone_row own row ∷ rows) (solo-alone policy pid own known.1)))),
  rows-renamed policy pid own known.1,
)

-- ---- what is seen

channels-seen : (xs : List Channel) → map channel_view (map own_numbered xs) ≡ map channel_alone (map channel_view xs)
channels-seen [] = refl
channels-seen (x ∷ xs) = ap (λ ys. channel_alone (channel_view x) ∷ ys) (channels-seen xs)

held-alone : (own : List Row) → AllNamed own → map channel_view (held_of (alone own)) ≡ map channel_alone (map channel_view (held_of own))
held-alone own named = ap (λ xs. map channel_view (filter is_channel_held xs)) (channels-alone own named) ∙ (ap (map channel_view) (held-own (channels_of own)) ∙ channels-seen (held_of own))

view-alone : (k : ℕ) (own : List Row) → AllOf k own → AllNamed own → AllSmall own → own_view (alone own) ≡ view_alone (own_view own)
view-alone k own all named small =
    rw (alone-admits own, greeted-alone own, proxy-alone own, lost-alone own, out-alone own, held-alone own named, asks-alone own, replies-alone own small, wanted-alone own, forwardings-alone k own all small, pending-alone own) refl

view-renamed : (policy : Policy) (pid k : ℕ) (own : List Row) → AllOf k own → AllNamed own → AllSmall own → AllOwn policy pid own → ViewIsRenamed (by_own policy pid) k own
view-renamed policy pid k own all named small known =
    ap (view_of k) (solo-alone policy pid own known)
    ∙ (view-own k (alone own)
    ∙ (ap own_view (rows-all k (alone own) (alone-all k own all))
    ∙ (view-alone k own all named small
    ∙ sym (ap view_alone (view-own k own ∙ ap own_view (rows-all k own all))))))

-- at each row of the client
pub views-renamed : (policy : Policy) (pid k : ℕ) (own : List Row) → AllOf k own → AllNamed own → AllSmall own → AllOwn policy pid own → AtEach (ViewIsRenamed (by_own policy pid) k) own
views-renamed policy pid k [] all named small known = view-renamed policy pid k [] all named small known
views-renamed policy pid k (row ∷ own) all named small known = (
  view-renamed policy pid k (row ∷ own) all named small known,
  views-renamed policy pid k own all.1 named.1 small.1 known.1,
)

-- ---- items

pub more-items : (k : ℕ) (newer before : List Row) → MoreItems k newer before
more-items k [] before = record { more = []; one_each = refl; items = refl }
more-items k (row ∷ newer) before = by_client (more-items k newer before) (row.client == k) refl
  where
    by_client : MoreItems k newer before → (b : Bool) → (row.client == k) ≡ b → MoreItems k (row ∷ newer) before
    by_client ih true e = record {
      more = item_for (rows_of k (newer ++ before)) row.item ∷ ih.more;
      one_each = ap suc ih.one_each ∙ sym (ap length (filter-yes (λ (r : Row). r.client == k) row newer e));
      items = ap items_for (filter-yes (λ (r : Row). r.client == k) row (newer ++ before) e) ∙ ap (λ xs. item_for (rows_of k (newer ++ before)) row.item ∷ xs) ih.items;
    }
    by_client ih false e = record {
      more = ih.more;
      one_each = ih.one_each ∙ sym (ap length (filter-no (λ (r : Row). r.client == k) row newer e));
      items = ap items_for (filter-no (λ (r : Row). r.client == k) row (newer ++ before) e) ∙ ih.items;
    }
