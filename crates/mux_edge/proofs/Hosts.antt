-- A text in brackets, once each of them is looked for.
use Rattle.std.proofs.Common.{◌≡◌, ◌≢◌, ℕ, List, [], ◌∷◌, ◌++◌, Option, None, Some, MatchOption, Bor, drop, ap, sym, ◌∙◌}
use Rattle.mux_edge.specs.Hosts.{IsInBrackets}

pub in_brackets : (host rest : List ℕ) (r : Option (Bor (List ℕ))) → host ≡ 91 ∷ rest
    → MatchOption r ((front : List ℕ) → rest ≢ front ++ 93 ∷ []) (λ x. rest ≡ x.now ++ 93 ∷ [])
    → MatchOption r ((inner : List ℕ) → ¬ (IsInBrackets host inner)) (λ inner. IsInBrackets host inner.now)
in_brackets host rest None e m = λ inner f. m inner (ap (drop 1) (sym e ∙ f))
in_brackets host rest (Some x) e m = e ∙ ap (λ l. 91 ∷ l) m
