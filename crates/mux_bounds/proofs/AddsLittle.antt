-- A row adds little to what waits for the server.
use Rattle.std.proofs.Common.{ℕ, ◌+◌, ◌≤◌, List, [], ◌∷◌, ◌++◌, length, length-append, length-drop, true, false, Bool, arith}
use Rattle.ssh_grammar.specs.Said.{BadFraming, Body, Payload}
use Rattle.mux_history.specs.Kept.{ForEach}
use Rattle.mux_history.specs.Pending.{given_by, pending_up, took_up}
use Rattle.mux_history.specs.Policy.{Policy}
use Rattle.mux_history.specs.Rows.{Heard, Item, Row, Says, loses, sent_by}
use Rattle.mux_bounds.specs.Bounds.{AddsLittle, weight}
use Rattle.mux_bounds.specs.Bounds as bounds
use Rattle.mux_history.proofs.RightLogs.{RowKnown}
use Rattle.mux_bounds.proofs.Farewells.{LeavesLittle, if_lost, leaves-little}
use Rattle.mux_bounds.proofs.Sizes.{SmallItem}
use Rattle.mux_bounds.proofs.Ups.{brought, row-brings}
use Rattle.mux_bounds.proofs.Weights.{weight-append}

lost-few : (b : Bool) → if_lost b ≤ 28928
lost-few true = omega arith
lost-few false = omega arith

brought-few : (item : Item) → SmallItem item → brought item ≤ 262148
brought-few (Says k (Payload p) given) small = omega (arith, small)
brought-few (Says k (Body body) given) small = omega arith
brought-few (Says k (BadFraming fault) given) small = omega arith
brought-few (Heard p) small = omega arith
brought-few item small = omega arith

pub grows-by : (row : Row) (before : List Row) → length (pending_up (row ∷ before)) ≤ length (pending_up before) + weight (sent_by row)
grows-by row before =
    let a = length-drop (took_up row.item) (pending_up before ++ given_by 0 row) in
    let b = length-append (pending_up before) (given_by 0 row) in
    omega arith

adds : (before : List Row) (row : Row) → weight row.up ≤ brought row.item → SmallItem row.item → LeavesLittle before row → AddsLittle before row
adds before row brings small leaves = record {
  sent = let a = weight-append row.up row.farewell in let b = brought-few row.item small in let c = lost-few (loses row) in omega (arith, brings, leaves);
  waits = grows-by row before;
}

pub rows-add : (policy : Policy) (pid : ℕ) (rows : List Row) → ForEach (RowKnown policy pid) rows → ForEach (λ before row. SmallItem row.item) rows → ForEach AddsLittle rows
rows-add policy pid [] each small = tt
rows-add policy pid (row ∷ before) each small = (adds before row (row-brings policy pid before row each.0 each.1) small.0 (leaves-little policy pid (row ∷ before) each).0, rows-add policy pid before each.1 small.1)

-- no farewell is longer than the longest
pub leaves-few : (policy : Policy) (pid : ℕ) (rows : List Row) → ForEach (RowKnown policy pid) rows → ForEach bounds.LeavesLittle rows
leaves-few policy pid rows each = every rows (leaves-little policy pid rows each)
  where
    every : (rows : List Row) → ForEach LeavesLittle rows → ForEach bounds.LeavesLittle rows
    every [] all = tt
    every (row ∷ before) all = (let c = lost-few (loses row) in let l = all.0 in omega (arith, c, l), every before all.1)
