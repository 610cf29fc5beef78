-- What a view shows of replies.
use Rattle.std.specs.Prelude.{ℕ, ◌≡◌, List, [], false}
use Rattle.mux_history.specs.Rows.{Row, is_run_over}
use Rattle.mux_history.specs.Kept.{AtEach}
use Rattle.mux_history.specs.Laws.{OverRight}
use Rattle.mux_isolation.specs.LogView.{view_of}

-- while the run goes on no reply of a client came before its request
abbrev pub RepliesAwaited : List Row → Type 0
RepliesAwaited rows = is_run_over rows ≡ false → (k : ℕ) → (view_of k rows).waiting.early ≡ []

abbrev pub RepliesAreAwaited : Type 0
RepliesAreAwaited = OverRight (λ setting rows. AtEach RepliesAwaited rows)
