-- A row that loses its client sends a farewell of at most 28,928 bytes; another sends none.
use Rattle.std.proofs.Common.{◌≡◌, ℕ, ◌+◌, ◌≤◌, List, [], ◌∷◌, length, true, false, Bool, refl, ap, arith, subst}
use Rattle.std.specs.Prelude.{filter, flat_map}
use Rattle.mux_history.specs.Controls.{house_sends}
use Rattle.mux_history.specs.Channels.{begun_by, held_of}
use Rattle.mux_history.specs.Farewell.{farewell, leave_channel, leave_forwarding}
use Rattle.mux_history.specs.Forwardings.{forwarded, forwardings_of}
use Rattle.mux_history.specs.Heard.{Breaks, Dest, Disconnects, ToClient, ToMaster, dest, received_for}
use Rattle.mux_history.specs.Kept.{ForEach}
use Rattle.mux_history.specs.Log.{admits, all_recorded, bare_row, received_row, queued, row_of, sent_by_client, treat}
use Rattle.mux_history.specs.Policy.{Policy}
use Rattle.mux_history.specs.Rows.{Admit, Gone, Heard, HouseSays, Item, Row, Says, loses, rows_of}
use Rattle.mux_history.specs.Said.{Outcome, silent}
use Rattle.mux_bounds.specs.Bounds.{weight}
use Rattle.mux_history.proofs.OwnRows.{rows-twice}
use Rattle.mux_history.proofs.RightLogs.{RowKnown}
use Rattle.mux_bounds.proofs.Begun.{held-count}
use Rattle.mux_bounds.proofs.Counts.{count, is_on}
use Rattle.mux_bounds.proofs.Few.{Few, few-held, few-rows}
use Rattle.mux_bounds.proofs.Offers.{Fits, fits-held, fits-rows}
use Rattle.mux_bounds.proofs.Shorts.{asked-short, forwarded-short, forwardings-short, owned-short, part-short}
use Rattle.mux_bounds.proofs.Weights.{EachOf, IsShort, leaves-weight, stops-weight, weight-append}

-- the bytes of a farewell, where there is one
abbrev pub if_lost : Bool → ℕ
if_lost true = 28928
if_lost false = 0

-- what is known of the client's channels and forwardings
pub record Bounds (own : List Row) (row : Row) : Type 0 where
  pub channels : length (held_of own) + length (begun_by row.client row.up row.item) ≤ 256
  pub forwardings : count (forwarded row own (forwardings_of own)) ≤ 64
  pub short : EachOf IsShort (forwarded row own (forwardings_of own))

farewell-weight : (row : Row) (own : List Row) → Bounds own row → weight (farewell row own) ≤ 28928
farewell-weight row own bounds =
    let held = held-count row own in
    let fits = bounds.channels in
    let few = bounds.forwardings in
    let a = leaves-weight (held_of (row ∷ own)) in
    let b = stops-weight (filter is_on (forwarded row own (forwardings_of own))) (part-short is_on (forwarded row own (forwardings_of own)) bounds.short) in
    let c = weight-append (flat_map leave_channel (held_of (row ∷ own))) (flat_map leave_forwarding (filter is_on (forwarded row own (forwardings_of own)))) in
    omega arith

abbrev Leaves : List Row → Row → Type 0
Leaves before row = Bounds (rows_of row.client before) row → weight row.farewell ≤ if_lost (loses row)

leaves-none : (before : List Row) (row : Row) → row.farewell ≡ [] → Leaves before row
leaves-none before row none bounds = let e = ap weight none in omega arith

leaves-row : (before : List Row) (item : Item) (k : ℕ) (o : Outcome) → Leaves before (row_of item k o (rows_of k before))
leaves-row before item k o = by_case (loses recorded) refl
  where
    recorded : Row
    recorded = queued (all_recorded (bare_row item k o) (rows_of k before)) (bare_row item k o) (rows_of k before)

    by_case : (b : Bool) → loses recorded ≡ b → Leaves before (elim b as (λ _. Row) [ true ↦ record recorded { farewell = farewell recorded (rows_of k before) } | false ↦ recorded ])
    by_case true e bounds =
        let w = farewell-weight recorded (rows_of k before) (record { channels = bounds.channels; forwardings = bounds.forwardings; short = bounds.short }) in
        let l = ap if_lost e in
        omega (arith, w, l)
    by_case false e bounds = omega arith

leaves-dest : (before : List Row) (p : List ℕ) (d : Dest) → Leaves before (received_row before p d)
leaves-dest before p ToMaster = leaves-none before (received_row before p ToMaster) refl
leaves-dest before p (ToClient k) = leaves-row before (Heard p) k (received_for (rows_of k before) p)
leaves-dest before p Disconnects = leaves-none before (received_row before p Disconnects) refl
leaves-dest before p (Breaks cause) = leaves-none before (received_row before p (Breaks cause)) refl

leaves-treat : (policy : Policy) (pid pick : ℕ) (before : List Row) (item : Item) → Leaves before (treat policy pid pick before item)
leaves-treat policy pid pick before (Admit k) = leaves-row before (Admit k) k (admits before)
leaves-treat policy pid pick before (Says k outgoing given) = leaves-row before (Says k outgoing given) k (sent_by_client policy pid k (rows_of k before) pick outgoing given)
leaves-treat policy pid pick before (HouseSays k id given) = leaves-row before (HouseSays k id given) k (house_sends (rows_of k before) id given)
leaves-treat policy pid pick before (Gone k) = leaves-row before (Gone k) k silent
leaves-treat policy pid pick before (Heard p) = leaves-dest before p (dest before p)
leaves-treat policy pid pick before item = leaves-none before (treat policy pid pick before item) refl

bounds-of : (policy : Policy) (pid : ℕ) (before : List Row) (row : Row) → RowKnown policy pid before row → ForEach (RowKnown policy pid) before → Few before row → Fits before row → Bounds (rows_of row.client before) row
bounds-of policy pid before row known each few fits = record {
  channels = few (few-held before (few-rows policy pid before each) row.client);
  forwardings = subst (λ (own : List Row). count (forwarded row own (forwardings_of (rows_of row.client before))) ≤ 64) (rows-twice row.client before) (fits (fits-held before (fits-rows policy pid before each) row.client));
  short = forwarded-short row (rows_of row.client before) (forwardings_of (rows_of row.client before)) (asked-short policy pid before row known (forwardings-short policy pid before each)) (owned-short row.client before (forwardings-short policy pid before each));
}

pub row-bounds : (policy : Policy) (pid : ℕ) (before : List Row) (row : Row) → RowKnown policy pid before row → ForEach (RowKnown policy pid) before → Bounds (rows_of row.client before) row
row-bounds policy pid before row known each = bounds-of policy pid before row known each (few-rows policy pid (row ∷ before) (known, each)).0 (fits-rows policy pid (row ∷ before) (known, each)).0

-- what each row leaves
abbrev pub LeavesLittle : List Row → Row → Type 0
LeavesLittle before row = weight row.farewell ≤ if_lost (loses row)

pub leaves-little : (policy : Policy) (pid : ℕ) (rows : List Row) → ForEach (RowKnown policy pid) rows → ForEach LeavesLittle rows
leaves-little policy pid [] each = tt
leaves-little policy pid (row ∷ before) each = (
  subst (Leaves before) each.0.is (leaves-treat policy pid each.0.pick before each.0.item)
      (bounds-of policy pid before row each.0 each.1 (few-rows policy pid (row ∷ before) each).0 (fits-rows policy pid (row ∷ before) each).0),
  leaves-little policy pid before each.1,
)
