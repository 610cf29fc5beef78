-- A client that was refused: its only row.
use Rattle.std.proofs.Common.{◌≡◌, ◌≢◌, ℕ, Bool, true, false, List, [], ◌∷◌, refl, sym, ap, ◌∙◌}
use Rattle.std.specs.Prelude.{◌==◌}
use Rattle.std.proofs.lemmas.Bool.{eqb-true}
use Rattle.mux_history.specs.Rows.{Row, rows_of, any_of, is_admit, is_out}
use Rattle.mux_peers.specs.State.{ClientState}
use Rattle.mux_peers.specs.Among.{EachFits, is_present}
use Rattle.mux_state.specs.Stands.{refused_client_row}
use Rattle.mux_state.proofs.Lists.{either, true_false}

pub refused-out : (k : ℕ) (rows : List Row) → rows_of k rows ≡ refused_client_row k ∷ [] → is_out (rows_of k rows) ≡ true
refused-out k rows e = ap is_out e

-- one that is here was admitted
pub let-in-here : (rows : List Row) (cs : List ClientState) (k : ℕ) → EachFits rows cs → is_present cs k ≡ true → any_of is_admit (rows_of k rows) ≡ true
let-in-here rows [] k each here = absurd (cc)
let-in-here rows (c ∷ cs) k each here = by_head (c.peer.number == k) refl here (let-in-here rows cs k each.1)
  where
    by_head : (b : Bool) → (c.peer.number == k) ≡ b → either b (is_present cs k) ≡ true → (is_present cs k ≡ true → any_of is_admit (rows_of k rows) ≡ true) → any_of is_admit (rows_of k rows) ≡ true
    by_head true e p ih = ap (λ j. any_of is_admit (rows_of j rows)) (sym (eqb-true c.peer.number k e)) ∙ each.0.peer.admitted
    by_head false e p ih = ih p

-- so it is another
pub apart-refused : (rows : List Row) (cs : List ClientState) (k j : ℕ) → EachFits rows cs → is_present cs k ≡ true → rows_of j rows ≡ refused_client_row j ∷ [] → k ≢ j
apart-refused rows cs k j each here only e = true_false (sym (let-in-here rows cs k each here) ∙ (ap (λ i. any_of is_admit (rows_of i rows)) e ∙ ap (any_of is_admit) only))

-- and no server
pub refused-client : (rows : List Row) (j : ℕ) → is_out (rows_of 0 rows) ≡ false → rows_of j rows ≡ refused_client_row j ∷ [] → j ≢ 0
refused-client rows j in' only e = true_false (sym (refused-out j rows only) ∙ (ap (λ i. is_out (rows_of i rows)) e ∙ in'))
