-- What is sent for a client among others and alone.
use Rattle.std.proofs.Common.{◌≡◌, ℕ, List, [], ◌∷◌, ◌++◌, refl, ◌∙◌, ap, sym}
use Rattle.std.specs.Prelude.{flat_map, reverse}
use Rattle.std.proofs.lemmas.Grind.{reverse_onto}
use Rattle.std.proofs.lemmas.List.{append-nil}
use Rattle.std.proofs.lemmas.List.Concat.{flat_map-append}
use Rattle.mux_history.specs.Kept.{sent_for}
use Rattle.mux_history.specs.Rows.{Row, sent_by}
use Rattle.mux_history.specs.Solo.{seen_row}
use Rattle.mux_history.proofs.OwnRows.{AllOf, rows-all}
use Rattle.mux_isolation.proofs.Solos.{alone, alone_row}

-- the newest row's come last
last-sent : (f : Row → List (List ℕ)) (row : Row) (own : List Row) → flat_map f (reverse (row ∷ own)) ≡ flat_map f (reverse own) ++ f row
last-sent f row own =
    ap (flat_map f) (reverse_onto own row [])
    ∙ (flat_map-append f (reverse own) (row ∷ [])
    ∙ ap (λ ps. flat_map f (reverse own) ++ ps) (append-nil (f row)))

own-sent : (own : List Row) → flat_map (λ row. (seen_row row).sent) (reverse own) ≡ flat_map sent_by (reverse (alone own))
own-sent [] = refl
own-sent (row ∷ own) =
    last-sent (λ r. (seen_row r).sent) row own
    ∙ (ap (λ ps. ps ++ (seen_row row).sent) (own-sent own)
    ∙ sym (last-sent sent_by (alone_row own row) (alone own)))

all-alone : (k : ℕ) (own : List Row) → AllOf k own → AllOf k (alone own)
all-alone k [] all = tt
all-alone k (row ∷ own) all = (all.0, all-alone k own all.1)

-- alone they send the same under the client's own numbers
pub sent-alone : (k : ℕ) (own : List Row) → AllOf k own → flat_map (λ row. (seen_row row).sent) (reverse own) ≡ sent_for k (alone own)
sent-alone k own all = own-sent own ∙ sym (ap (λ rows. flat_map sent_by (reverse rows)) (rows-all k (alone own) (all-alone k own all)))
