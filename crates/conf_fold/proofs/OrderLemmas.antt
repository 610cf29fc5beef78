-- The rows of lines one after the other, up to the first refused one.
use Rattle.std.proofs.Common.{◌≡◌, ℕ, ◌+◌, Bool, true, false, cond, List, [], ◌∷◌, ◌++◌, Option, Some, None, Result, Ok, Err, refl, sym, ◌∙◌, append_assoc}
use Rattle.std.proofs.lemmas.List.{append-nil}
use Rattle.conf_rules.specs.declared.causes.Cause.{Cause}
use Rattle.conf_rules.specs.declared.causes.ResolveError.{ResolveError}
use Rattle.conf_rules.specs.declared.entry.LineContent.{LineContent}
use Rattle.conf_rules.specs.Recorded.{Recorded}
use Rattle.conf_rules.specs.Sources.{Line}
use Rattle.conf_rules.specs.Rows.{LineRow, Pass}
use Rattle.conf_rules.specs.Entries.{entry_of}
use Rattle.conf_rules.specs.Resolution.{row_of, rows_from, is_refused, refusal_at, or_later, refusal_in}
use Rattle.conf_fold.specs.FoldRepresents.{next_row}

-- the rows of lines from a place on, after others
abbrev pub from : Recorded → Pass → List LineRow → ℕ → List Line → List LineRow
from recorded pass rows place lines = rows_from recorded entry_of rows (record { pass = pass; line = place }) lines

-- ---- refusals

later-none : (o : Option ResolveError) → or_later o None ≡ o
later-none None = refl
later-none (Some e) = refl

behind-first : (o before after : Option ResolveError) → (before ≡ None → after ≡ o) → (first : Option ResolveError) → or_later first before ≡ None → or_later first after ≡ o
behind-first o before after later None e = later e
behind-first o before after later (Some x) e = absurd cc

-- a row after others that aren't refused
pub refusal-behind : (rows : List LineRow) (row : LineRow) → refusal_in rows ≡ None → refusal_in (rows ++ row ∷ []) ≡ refusal_at row.line row.entry
refusal-behind [] row none = later-none (refusal_at row.line row.entry)
refusal-behind (p ∷ ps) row none = behind-first _ (refusal_in ps) (refusal_in (ps ++ row ∷ [])) (refusal-behind ps row) (refusal_at p.line p.entry) none

pub ok-none : (line : Line) (r : Result LineContent Cause) → is_refused r ≡ false → refusal_at line r ≡ None
ok-none line (Ok e) h = refl
ok-none line (Err c) h = absurd cc

pub some-refused : (line : Line) (r : Result LineContent Cause) (e : ResolveError) → refusal_at line r ≡ Some e → is_refused r ≡ true
some-refused line (Ok x) e h = absurd cc
some-refused line (Err c) e h = refl

pub not-none : (line : Line) (r : Result LineContent Cause) → is_refused r ≡ true → refusal_at line r ≡ None → ⊥
not-none line (Ok e) h n = absurd cc
not-none line (Err c) h n = absurd cc

first-none : (o later : Option ResolveError) → or_later o later ≡ None → (o ≡ None) × (later ≡ None)
first-none None later e = (refl, e)
first-none (Some x) later e = absurd cc

none-both : (o later : Option ResolveError) → o ≡ None → later ≡ None → or_later o later ≡ None
none-both o later h k = rw h k

-- rows of which none is refused, in two parts
pub none-parts : (xs ys : List LineRow) → refusal_in (xs ++ ys) ≡ None → (refusal_in xs ≡ None) × (refusal_in ys ≡ None)
none-parts [] ys h = (refl, h)
none-parts (x ∷ xs) ys h = let k = first-none (refusal_at x.line x.entry) (refusal_in (xs ++ ys)) h in let r = none-parts xs ys k.1 in (none-both (refusal_at x.line x.entry) (refusal_in xs) k.0 r.0, r.1)

-- ---- one row

pub rows-step : (recorded : Recorded) (pass : Pass) (rows : List LineRow) (place : ℕ) (line : Line) (more : List Line)
    → from recorded pass rows place (line ∷ more)
    ≡ cond (is_refused (next_row recorded pass rows place line).entry) (rows ++ next_row recorded pass rows place line ∷ []) (from recorded pass (rows ++ next_row recorded pass rows place line ∷ []) (place + 1) more)
unfolding rows_from next_row
rows-step recorded pass rows place line more = refl

pub rows-on : (recorded : Recorded) (pass : Pass) (rows : List LineRow) (place : ℕ) (line : Line) (more : List Line) → is_refused (next_row recorded pass rows place line).entry ≡ false
    → from recorded pass rows place (line ∷ more) ≡ from recorded pass (rows ++ next_row recorded pass rows place line ∷ []) (place + 1) more
rows-on recorded pass rows place line more ok = rows-step recorded pass rows place line more ∙ rw ok refl

pub rows-end : (recorded : Recorded) (pass : Pass) (rows : List LineRow) (place : ℕ) (line : Line) (more : List Line) → is_refused (next_row recorded pass rows place line).entry ≡ true
    → from recorded pass rows place (line ∷ more) ≡ rows ++ next_row recorded pass rows place line ∷ []
rows-end recorded pass rows place line more refused = rows-step recorded pass rows place line more ∙ rw refused refl

pub row-line : (recorded : Recorded) (pass : Pass) (rows : List LineRow) (place : ℕ) (line : Line) → (next_row recorded pass rows place line).line ≡ line
unfolding next_row row_of
row-line recorded pass rows place line = refl

pub behind-ok : (recorded : Recorded) (pass : Pass) (rows : List LineRow) (place : ℕ) (x : Line) → refusal_in rows ≡ None → is_refused (next_row recorded pass rows place x).entry ≡ false → refusal_in (rows ++ next_row recorded pass rows place x ∷ []) ≡ None
behind-ok recorded pass rows place x none h = refusal-behind rows (next_row recorded pass rows place x) none ∙ ok-none (next_row recorded pass rows place x).line (next_row recorded pass rows place x).entry h

-- the rows before stand first
pub from-front : (recorded : Recorded) (pass : Pass) (lines : List Line) (rows : List LineRow) (place : ℕ) → (more : List LineRow) × (from recorded pass rows place lines ≡ rows ++ more)
unfolding rows_from
from-front recorded pass [] rows place = ([], sym (append-nil rows))
from-front recorded pass (x ∷ xs) rows place = on (is_refused (next_row recorded pass rows place x).entry) refl (from-front recorded pass xs (rows ++ next_row recorded pass rows place x ∷ []) (place + 1))
  where
    on : (t : Bool) → is_refused (next_row recorded pass rows place x).entry ≡ t → (more : List LineRow) × (from recorded pass (rows ++ next_row recorded pass rows place x ∷ []) (place + 1) xs ≡ (rows ++ next_row recorded pass rows place x ∷ []) ++ more)
        → (more : List LineRow) × (from recorded pass rows place (x ∷ xs) ≡ rows ++ more)
    on true h later = (next_row recorded pass rows place x ∷ [], rows-end recorded pass rows place x xs h)
    on false h later = (next_row recorded pass rows place x ∷ later.0, rows-on recorded pass rows place x xs h ∙ later.1 ∙ append_assoc rows (next_row recorded pass rows place x ∷ []) later.0)
