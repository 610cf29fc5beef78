-- The number that an open or a confirmation of a client uses is the one that goes up.
use Rattle.std.proofs.Common.{◌≡◌, ℕ, List, [], ◌∷◌, true, false, Bool, refl, ◌∙◌, ap, sym, Option, None, Result, Ok, Err, inl, inr}
use Rattle.std.specs.Prelude.{◌&&◌, is_some}
use Rattle.ssh_grammar.specs.declared.fault.Bad.{Bad}
use Rattle.mux_history.specs.Summary.{Summary, read_summary, reading, summary_sender_of}
use Rattle.mux_history.specs.Rows.{rows_of}
use Rattle.mux_history.specs.Choices.{sent_number}
use Rattle.mux_history.specs.Right.{carried_number}
use Rattle.mux_history.specs.declared.why.Why.TheVariants as why
use Rattle.mux_history.specs.Said.{Outcome, drops, sent_summary, sent_payload}
use Rattle.mux_history.proofs.Readings.{reading-ok}
use Rattle.mux_history.proofs.Renumbered.{number-sent, sender-in, spelled}
use Rattle.mux_history.proofs.Sends.{Sent, sent-by}
use Rattle.mux_core.specs.Calls.{row_sent}
use Rattle.mux_core.specs.Laws.{CarriesPick}
use Rattle.mux_core.proofs.SendsWithin.{said-ok}

-- a row uses a number where these go up, and this number is sent
abbrev takes : List (List ℕ) → Option ℕ → Bool
takes ups own = (elim ups as (λ _. Bool) [ [] ↦ false | p ∷ ps ↦ true ]) && is_some own

not-taken : (ups : List (List ℕ)) → takes ups None ≡ false
not-taken [] = refl
not-taken (p ∷ ps) = refl

pub carries-pick : CarriesPick
carries-pick s k p pick rows bytes small taken = by_read (read_summary p) refl
  where
    ups : List (List ℕ)
    ups = (sent_payload s.policy k (rows_of k rows) pick p).sent

    by_sent : (m : Summary) → read_summary p ≡ Ok m → Sent (rows_of k rows) pick p m (sent_summary s.policy k (rows_of k rows) pick p m).sent → carried_number (row_sent s k p pick rows).up ≡ pick
    by_sent m e (inl none) =
        let empty : ups ≡ [] = ap (λ o. o.sent) (said-ok s.policy k pick (rows_of k rows) p m e) ∙ none in
        let no : false ≡ true = sym (ap (λ us. takes us (reading p summary_sender_of None)) empty) ∙ taken in
        absurd (cc)
    by_sent m e (inr (inl plain)) =
        let owned : reading p summary_sender_of None ≡ None = reading-ok p m summary_sender_of None e ∙ plain.unowned in
        let no : false ≡ true = sym (ap (takes ups) owned ∙ not-taken ups) ∙ taken in
        absurd (cc)
    by_sent m e (inr (inr fresh)) =
        ap carried_number (ap (λ o. o.sent) (said-ok s.policy k pick (rows_of k rows) p m e) ∙ fresh.up)
        ∙ (ap sent_number (number-sent p m (sender-in p m fresh.c bytes e fresh.owned) pick) ∙ spelled pick small)

    by_read : (r : Result Summary Bad) → read_summary p ≡ r → carried_number (row_sent s k p pick rows).up ≡ pick
    by_read (Err bad) e =
        let empty : ups ≡ [] = ap (λ (x : Result Summary Bad). (elim x as (λ _. Outcome) [ Err bad ↦ drops (why.BadMessage bad) | Ok m ↦ sent_summary s.policy k (rows_of k rows) pick p m ]).sent) e in
        let no : false ≡ true = sym (ap (λ us. takes us (reading p summary_sender_of None)) empty) ∙ taken in
        absurd (cc)
    by_read (Ok m) e = by_sent m e (sent-by s.policy k (rows_of k rows) pick p m)
