-- What a client is given among others and alone.
use Rattle.std.proofs.Common.{◌≡◌, ℕ, ◌<◌, List, [], ◌∷◌, ◌++◌, true, false, Bool, refl, ◌∙◌, ap, arith, map, sym}
use Rattle.std.specs.Prelude.{◌==◌}
use Rattle.std.proofs.lemmas.Bool.Decides.{nat_tests}
use Rattle.std.proofs.lemmas.List.{append-nil}
use Rattle.mux_outside.specs.declared.mark.Mark.{Mark}
use Rattle.ssh_grammar.specs.Frames.{frame_payload}
use Rattle.mux_history.specs.Journal.{log_of_journal}
use Rattle.mux_history.specs.Log.{Setting}
use Rattle.mux_history.specs.Pending.{given_by, given_to, joined, pending}
use Rattle.mux_history.specs.Promises.{TakesFront, Throughout}
use Rattle.mux_history.specs.Rows.{Row, rows_of, sent_by}
use Rattle.mux_history.proofs.Finds.{filter-no, filter-yes}
use Rattle.mux_history.proofs.Written.{adds-up}
use Rattle.mux_isolation.specs.Bytes.{GivesAlike, TakesAlike}
use Rattle.mux_isolation.proofs.Solos.{alone, alone_row}

not-server : (k : ℕ) → 0 < k → (k == 0) ≡ false
not-server k lt = grind (arith, nat_tests)

-- what a row gives a client
by-row : (k : ℕ) → (k == 0) ≡ false → (row : Row) (b : Bool) → (row.client == k) ≡ b → given_by k row ≡ (elim b as (λ _. List ℕ) [ true ↦ joined row.down | false ↦ [] ])
by-row k real row b e =
    ap (λ s. elim s as (λ _. List ℕ) [ true ↦ joined (map frame_payload (sent_by row)) | false ↦ elim (row.client == k) as (λ _. List ℕ) [ true ↦ joined row.down | false ↦ [] ] ]) real
    ∙ ap (λ s. elim s as (λ _. List ℕ) [ true ↦ joined row.down | false ↦ [] ]) e

-- its own rows give it all
pub given-own : (k : ℕ) → 0 < k → (rows : List Row) → given_to k rows ≡ given_to k (rows_of k rows)
given-own k lt [] = refl
given-own k lt (row ∷ rows) = by_client (given-own k lt rows) (row.client == k) refl
  where
    by_client : given_to k rows ≡ given_to k (rows_of k rows) → (b : Bool) → (row.client == k) ≡ b → given_to k (row ∷ rows) ≡ given_to k (rows_of k (row ∷ rows))
    by_client ih true e =
        ap (λ bytes. bytes ++ given_by k row) ih
        ∙ sym (ap (given_to k) (filter-yes (λ (r : Row). r.client == k) row rows e))
    by_client ih false e =
        ap (λ bytes. given_to k rows ++ bytes) (by-row k (not-server k lt) row false e)
        ∙ (append-nil (given_to k rows)
        ∙ (ih ∙ sym (ap (given_to k) (filter-no (λ (r : Row). r.client == k) row rows e))))

-- alone they record the same
pub given-alone : (k : ℕ) → 0 < k → (own : List Row) → given_to k (alone own) ≡ given_to k own
given-alone k lt [] = refl
given-alone k lt (row ∷ own) =
    ap (λ bytes. bytes ++ given_by k (alone_row own row)) (given-alone k lt own)
    ∙ ap (λ bytes. given_to k own ++ bytes) (by-row k (not-server k lt) (alone_row own row) (row.client == k) refl ∙ sym (by-row k (not-server k lt) row (row.client == k) refl))

-- what was accepted and what waits make up what the unshared connection gives
pub takes-alike : (setting : Setting) (marks : List Mark) → Throughout (TakesFront setting) marks → GivesAlike setting (log_of_journal setting marks) → TakesAlike setting marks
takes-alike setting marks takes gives k lt client admitted = (
  pending k (log_of_journal setting marks),
  sym (gives k lt admitted) ∙ sym (adds-up setting marks takes k client),
)
