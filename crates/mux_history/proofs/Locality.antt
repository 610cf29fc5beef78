-- A client's row looks at nothing but the client's rows.
use Rattle.std.proofs.Common.{◌≡◌, ℕ, List, refl, ◌∙◌, ap, sym, subst}
use Rattle.mux_history.specs.Controls.{house_sends}
use Rattle.mux_history.specs.Heard.{ToClient, dest, received_for}
use Rattle.mux_history.specs.Laws.{IsOf, RowsAreLocal}
use Rattle.mux_history.specs.Log.{received_row, row_of, sent_by_client, treat}
use Rattle.mux_history.specs.Policy.{Policy}
use Rattle.mux_history.specs.Rows.{Gone, Heard, HouseSays, Item, Row, Says, Took, rows_of}
use Rattle.mux_history.specs.Said.{silent}
use Rattle.mux_history.proofs.OwnRows.{rows-twice}

own-local : (policy : Policy) (pid pick k : ℕ) (rows : List Row) (item : Item) → IsOf k item → treat policy pid pick rows item ≡ treat policy pid pick (rows_of k rows) item
own-local policy pid pick k rows (Says j outgoing given) is = subst (λ (i : ℕ). treat policy pid pick rows (Says i outgoing given) ≡ treat policy pid pick (rows_of k rows) (Says i outgoing given)) (sym is) (ap (λ own. row_of (Says k outgoing given) k (sent_by_client policy pid k own pick outgoing given) own) (sym (rows-twice k rows)))
own-local policy pid pick k rows (HouseSays j id given) is = subst (λ (i : ℕ). treat policy pid pick rows (HouseSays i id given) ≡ treat policy pid pick (rows_of k rows) (HouseSays i id given)) (sym is) (ap (λ own. row_of (HouseSays k id given) k (house_sends own id given) own) (sym (rows-twice k rows)))
own-local policy pid pick k rows (Gone j) is = subst (λ (i : ℕ). treat policy pid pick rows (Gone i) ≡ treat policy pid pick (rows_of k rows) (Gone i)) (sym is) (ap (row_of (Gone k) k silent) (sym (rows-twice k rows)))
own-local policy pid pick k rows (Took j size) is = refl
own-local policy pid pick k rows item is = absurd is

heard-local : (policy : Policy) (pid pick k : ℕ) (rows : List Row) (p : List ℕ) → dest rows p ≡ ToClient k → treat policy pid pick rows (Heard p) ≡ received_row (rows_of k rows) p (ToClient k)
heard-local policy pid pick k rows p to = ap (received_row rows p) to ∙ ap (λ own. row_of (Heard p) k (received_for own p) own) (sym (rows-twice k rows))

pub rows-local : (policy : Policy) (pid pick k : ℕ) (rows : List Row) → RowsAreLocal policy pid pick k rows
rows-local policy pid pick k rows = record { own = own-local policy pid pick k rows; heard = heard-local policy pid pick k rows }
