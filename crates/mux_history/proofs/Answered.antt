-- A row only adds answers.
use Rattle.std.proofs.Common.{◌≡◌, ℕ, List, [], ◌∷◌, ◌++◌, true, false, Bool, refl, ap}
use Rattle.ssh_grammar.specs.SpellMessage.{request_failure}
use Rattle.mux_history.specs.Rows.{Row}
use Rattle.mux_history.specs.Requests.{answers, answers_to, is_sent, replies, reply_in, sent_flags, wanted, wanted_by}

-- more requests and more replies
more-answers : (flags more : List Bool) (heard later : List (List ℕ)) → (rest : List (List ℕ)) × (answers_to (flags ++ more) (heard ++ later) ≡ answers_to flags heard ++ rest)
more-answers [] more heard later = (answers_to more (heard ++ later), refl)
more-answers (false ∷ flags) more heard later = let r = more-answers flags more heard later in (r.0, ap (λ xs. request_failure ∷ xs) r.1)
more-answers (true ∷ flags) more [] later = (answers_to (true ∷ (flags ++ more)) later, refl)
more-answers (true ∷ flags) more (p ∷ heard) later = let r = more-answers flags more heard later in (r.0, ap (λ xs. p ∷ xs) r.1)

pub answers-grow : (row : Row) (own : List Row) → (more : List (List ℕ)) × (answers (row ∷ own) ≡ answers own ++ more)
answers-grow row own = more-answers (wanted own) (sent_flags (is_sent row) (wanted_by row)) (replies own) (reply_in row.item)
