-- No reply comes before its request.
use Rattle.std.proofs.Common.{◌≡◌, ℕ, ◌≤◌, List, [], ◌∷◌, length, true, false, Bool, refl, arith}
use Rattle.mux_history.specs.Kept.{AtEach, ForEach}
use Rattle.mux_history.specs.Policy.{Policy}
use Rattle.mux_history.specs.Requests.{replies, wanted}
use Rattle.mux_history.specs.Rows.{Row, is_run_over, rows_of}
use Rattle.mux_bounds.specs.Awaited.{RepliesAwaited}
use Rattle.mux_isolation.specs.LogView.{waiting_left_of}
use Rattle.mux_history.proofs.Askers.{Orderly}
use Rattle.mux_history.proofs.RightLogs.{RowKnown}
use Rattle.mux_bounds.proofs.Asked.{asks-trues, trues}
use Rattle.mux_bounds.proofs.OwedFew.{within-own}

none-early : (flags : List Bool) (heard : List (List ℕ)) → length heard ≤ trues flags → (waiting_left_of flags heard).early ≡ []
none-early [] [] le = refl
none-early [] (p ∷ heard) le = absurd (omega (arith, le))
none-early (false ∷ flags) heard le = none-early flags heard le
none-early (true ∷ flags) [] le = refl
none-early (true ∷ flags) (p ∷ heard) le = none-early flags heard (omega (arith, le))

awaited : (rows : List Row) → (is_run_over rows ≡ false → Orderly rows) → RepliesAwaited rows
awaited rows orderly going k =
    let a = within-own rows k (orderly going) in
    let b = asks-trues (rows_of k rows) in
    none-early (wanted (rows_of k rows)) (replies (rows_of k rows)) (omega (arith, a, b))

pub each-awaited : (policy : Policy) (pid : ℕ) (rows : List Row) → ForEach (RowKnown policy pid) rows → (is_run_over rows ≡ false → Orderly rows) → AtEach RepliesAwaited rows
each-awaited policy pid [] each orderly = awaited [] orderly
each-awaited policy pid (row ∷ before) each orderly = (awaited (row ∷ before) orderly, each-awaited policy pid before each.1 each.0.orderly)
