-- Where the pieces of a stream are cut makes no difference.
use Rattle.std.proofs.Common.{◌≡◌, ◌∙◌, ℕ, Bool, true, false, List, [], ◌∷◌, ◌++◌, refl, sym, subst}
use Rattle.std.specs.Prelude.{◌==◌}
use Rattle.std.proofs.lemmas.List.{append-nil}
use Rattle.mux_outside.specs.Seen.{nothing_seen, shown_of}
use Rattle.mux_outside.specs.declared.mark.Mark.{Mark}
use Rattle.mux_outside.specs.declared.mark.Mark.TheVariants as wire
use Rattle.mux_outside.specs.declared.shown.Shown.{Shown}
use Rattle.mux_outside.specs.declared.turn.Want.{Want}
use Rattle.mux_outside.specs.declared.turn.Want.TheVariants.{Read}
use Rattle.mux_history.specs.Journal.{bytes_of}
use Rattle.mux_history.proofs.Bools.{same-number}
use Rattle.mux_pieces.specs.Pieces.{AreCutAlike, joined_to, uncut}
use Rattle.mux_pieces.proofs.Pieces.{goes-on, parts-alike}

same : (marks : List Mark) → AreCutAlike marks marks
same marks = record { same_items = refl; same_bytes = λ t. refl }

back : (marks others : List Mark) → AreCutAlike marks others → AreCutAlike others marks
back marks others a = record { same_items = sym a.same_items; same_bytes = λ t. sym (a.same_bytes t) }

then : (xs ys zs : List Mark) → AreCutAlike xs ys → AreCutAlike ys zs → AreCutAlike xs zs
then xs ys zs a b = record { same_items = a.same_items ∙ b.same_items; same_bytes = λ t. a.same_bytes t ∙ b.same_bytes t }

-- a wait says nothing
waits-alike : (before : List Mark) (waiting : List ℕ) (want : Want) (streams : List ℕ) (shown : Shown) → AreCutAlike (wire.Waits waiting want streams shown ∷ before) before
waits-alike before waiting want streams shown = record { same_items = refl; same_bytes = λ t. append-nil (bytes_of t before) }

-- two pieces are one
pieces-alike : (before : List Mark) (t : ℕ) (a b : List ℕ) → AreCutAlike (wire.Gets t b ∷ wire.Gets t a ∷ before) (wire.Gets t (a ++ b) ∷ before)
pieces-alike before t a b =
    let first : List Mark = wire.Gets t a ∷ before in
    let waited : List Mark = wire.Waits [] Read [] (shown_of nothing_seen) ∷ first in
    then (wire.Gets t b ∷ first) (wire.Gets t b ∷ waited) (wire.Gets t (a ++ b) ∷ before)
    (goes-on first waited (wire.Gets t b) (back waited first (waits-alike first [] Read [] (shown_of nothing_seen))))
    (parts-alike before t a b [] Read [] (shown_of nothing_seen))

piece-joins : (before : List Mark) (s t : ℕ) (a b : List ℕ) (same_stream : Bool) → (s == t) ≡ same_stream
    → AreCutAlike (wire.Gets t b ∷ wire.Gets s a ∷ before) (elim same_stream as (λ _. List Mark) [ true ↦ wire.Gets s (a ++ b) ∷ before | false ↦ wire.Gets t b ∷ wire.Gets s a ∷ before ])
piece-joins before s t a b true e = subst (λ (u : ℕ). AreCutAlike (wire.Gets u b ∷ wire.Gets s a ∷ before) (wire.Gets s (a ++ b) ∷ before)) (same-number s t e) (pieces-alike before s a b)
piece-joins before s t a b false e = same _

joins : (before : List Mark) (mark : Mark) → AreCutAlike (mark ∷ before) (joined_to before mark)
joins (wire.Gets s a ∷ before) (wire.Gets t b) = piece-joins before s t a b (s == t) refl
joins before (wire.Waits waiting want streams shown) = waits-alike before waiting want streams shown
joins before mark = same _

pub uncut-alike : (marks : List Mark) → AreCutAlike marks (uncut marks)
uncut-alike [] = same []
uncut-alike (mark ∷ before) = then (mark ∷ before) (mark ∷ uncut before) (uncut (mark ∷ before)) (goes-on before (uncut before) mark (uncut-alike before)) (joins (uncut before) mark)
