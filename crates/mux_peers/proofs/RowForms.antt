-- The forms of a client's row: one that goes on, one whose frame doesn't fit, and one that drops
-- its client.
use Rattle.std.proofs.Common.{◌≡◌, ◌+◌, ℕ, Bool, true, false, ◌&&◌, not, List, [], ◌∷◌, ◌++◌, length, Option, Some, None, refl, sym, ap, ◌∙◌}
use Rattle.std.specs.Prelude.{nat_le}
use Rattle.mux_outside.specs.declared.house.HouseReply.{HouseReply}
use Rattle.ssh_grammar.specs.Said.{Outgoing}
use Rattle.mux_history.specs.declared.limits.TheConstants.{MAX_QUEUE}
use Rattle.mux_history.specs.declared.why.Why.{Why}
use Rattle.mux_history.specs.declared.why.Why.TheVariants as why
use Rattle.mux_history.specs.Rows.{Row, loses, is_lost, Item, Says, Fate, Goes, Drop}
use Rattle.mux_history.specs.Pending.{waiting_down}
use Rattle.mux_history.specs.Farewell.{farewell}
use Rattle.mux_history.specs.Said.{Outcome}
use Rattle.mux_history.specs.Treat.{bare_row, goes, all_recorded, frames_that_fit, overflow, fate_with, new_answers, queued, with_farewell, row_of}

-- a row by its parts
abbrev pub made : Item → ℕ → List (List ℕ) → List (List ℕ) → List (List ℕ) → Fate → Row
made item k up farewell down fate = record { item = item; client = k; up = up; farewell = farewell; down = down; fate = fate }

pub fits-all : (n : ℕ) (fs : List (List ℕ)) → overflow n fs ≡ None → frames_that_fit n fs ≡ fs
fits-all n [] e = refl
fits-all n (f ∷ fs) e = by_fit (nat_le (n + length f) MAX_QUEUE) refl (λ t. fits-all (n + length f) fs t)
  where
    by_fit : (b : Bool) → nat_le (n + length f) MAX_QUEUE ≡ b → (overflow (n + length f) fs ≡ None → frames_that_fit (n + length f) fs ≡ fs) → frames_that_fit n (f ∷ fs) ≡ f ∷ fs
    by_fit true t ih =
        let rest : overflow (n + length f) fs ≡ None = sym (ap (λ b. elim b as (λ _. Option Why) [ true ↦ overflow (n + length f) fs | false ↦ Some (why.QueueFull n (length f)) ]) t) ∙ e in
        ap (λ b. elim b as (λ _. List (List ℕ)) [ true ↦ f ∷ frames_that_fit (n + length f) fs | false ↦ [] ]) t ∙ ap (λ gs. f ∷ gs) (ih rest)
    by_fit false t ih = absurd (let d : Some (why.QueueFull n (length f)) ≡ None = sym (ap (λ b. elim b as (λ _. Option Why) [ true ↦ overflow (n + length f) fs | false ↦ Some (why.QueueFull n (length f)) ]) t) ∙ e in cc)

-- a client's row, by what it records in all
recorded-row : (item : Item) (k : ℕ) (o : Outcome) (own : List Row) (fs : List (List ℕ)) → all_recorded (bare_row item k o) own ≡ fs
    → row_of item k o own ≡ with_farewell (made item k o.sent [] (frames_that_fit (waiting_down own) fs) (fate_with o.ends (overflow (waiting_down own) fs))) own
recorded-row item k o own fs e = ap (λ gs. with_farewell (queued gs (bare_row item k o) own) own) e

with-none : (row : Row) (own : List Row) → loses row ≡ false → with_farewell row own ≡ row
with-none row own e = ap (λ b. elim b as (λ _. Row) [ true ↦ record row { farewell = farewell row own } | false ↦ row ]) e

-- one that goes on, and all that it records fits
pub row-on : (item : Item) (k : ℕ) (o : Outcome) (own : List Row) (fs : List (List ℕ)) → loses (made item k o.sent [] fs Goes) ≡ false → o.ends ≡ Goes → all_recorded (bare_row item k o) own ≡ fs → overflow (waiting_down own) fs ≡ None
    → row_of item k o own ≡ made item k o.sent [] fs Goes
row-on item k o own fs keeps ends recorded fits =
    recorded-row item k o own fs recorded
    ∙ (ap (λ (f : Fate). with_farewell (made item k o.sent [] (frames_that_fit (waiting_down own) fs) (fate_with f (overflow (waiting_down own) fs))) own) ends
    ∙ (ap (λ (w : Option Why). with_farewell (made item k o.sent [] (frames_that_fit (waiting_down own) fs) (fate_with Goes w)) own) fits
    ∙ (ap (λ (gs : List (List ℕ)). with_farewell (made item k o.sent [] gs Goes) own) (fits-all (waiting_down own) fs fits)
    ∙ with-none (made item k o.sent [] fs Goes) own keeps)))

-- of what a client sends
pub row-goes : (k j : ℕ) (x : Outgoing) (given : Option HouseReply) (o : Outcome) (own : List Row) (fs : List (List ℕ)) → o.ends ≡ Goes → all_recorded (bare_row (Says j x given) k o) own ≡ fs → overflow (waiting_down own) fs ≡ None
    → row_of (Says j x given) k o own ≡ made (Says j x given) k o.sent [] fs Goes
row-goes k j x given o own fs ends recorded fits = row-on (Says j x given) k o own fs refl ends recorded fits

-- one that goes on, and something of what it records doesn't fit
pub row-full : (item : Item) (k : ℕ) (o : Outcome) (own : List Row) (fs : List (List ℕ)) (cause : Why) → o.ends ≡ Goes → all_recorded (bare_row item k o) own ≡ fs → overflow (waiting_down own) fs ≡ Some cause
    → row_of item k o own ≡ with_farewell (made item k o.sent [] (frames_that_fit (waiting_down own) fs) (Drop cause)) own
row-full item k o own fs cause ends recorded full =
    recorded-row item k o own fs recorded
    ∙ (ap (λ (f : Fate). with_farewell (made item k o.sent [] (frames_that_fit (waiting_down own) fs) (fate_with f (overflow (waiting_down own) fs))) own) ends
    ∙ ap (λ (w : Option Why). with_farewell (made item k o.sent [] (frames_that_fit (waiting_down own) fs) (fate_with Goes w)) own) full)

-- one that drops its client, and records it nothing
pub row-drops : (item : Item) (k : ℕ) (o : Outcome) (own : List Row) (cause : Why) → o.ends ≡ Drop cause → o.recorded ≡ []
    → row_of item k o own ≡ with_farewell (made item k o.sent [] [] (Drop cause)) own
row-drops item k o own cause ends recorded =
    recorded-row item k o own [] untold
    ∙ ap (λ (f : Fate). with_farewell (made item k o.sent [] [] (fate_with f None)) own) ends
  where
    untold : all_recorded (bare_row item k o) own ≡ []
    untold = ap (λ (f : Fate). elim (goes f && not (is_lost own)) as (λ _. List (List ℕ)) [ true ↦ o.recorded ++ new_answers (bare_row item k o) own | false ↦ o.recorded ]) ends ∙ recorded
