-- One more row after the rows that a fold represents.
use Rattle.std.proofs.Common.{◌≡◌, ℕ, zero, suc, ◌+◌, ◌<◌, Bool, true, false, cond, not, ◌&&◌, ◌||◌, List, [], ◌∷◌, ◌++◌, length, map, take, Option, Some, Ok, refl, sym, ap, ◌∙◌, arith}
use Rattle.std.specs.Prelude.{flat_map}
use Rattle.std.specs.List.{list_all, list_any, slice_get}
use Rattle.std.proofs.lemmas.List.{map-append, take-map, append-nil, length-append}
use Rattle.std.proofs.lemmas.List.Folds.{list_any-append}
use Rattle.std.proofs.lemmas.Grind.{flat_map-append}
use Rattle.conf_rules.specs.declared.entry.LineContent.{LineContent}
use Rattle.conf_rules.specs.Recorded.{Recorded}
use Rattle.conf_rules.specs.Sources.{Line, block_behind}
use Rattle.conf_rules.specs.Rows.{LineRow, Pass, First, Second, given}
use Rattle.conf_rules.specs.Entries.{entry_of}
use Rattle.conf_rules.specs.Resolution.{applies_at, pass_start_of, active_before, wants_second, is_of_command_line, is_active, effect_of, row_with, row_of}
use Rattle.conf_fold.specs.declared.fold.Fold.{Fold}
use Rattle.conf_reader.specs.declared.line.ConfLine.{ConfLine}
use Rattle.conf_options.specs.Kept.{KeepsSettings}
use Rattle.conf_reader.specs.Blocks.{Blocks, own_block_of, keyword_opens_block, open_behind, IsLine}
use Rattle.conf_fold.specs.FoldRepresents.{open_applies, collects_here, IsBlockBefore, collects, collected, InPass, FoldRepresents, IsNextLine, next_row, marks_in_file, own_mark}
use Rattle.conf_fold.proofs.BlockLemmas.{marks-kept, applies-new, each-kept, each-take, each-more, own-before, own-marked, active-marked, marks-entered}
use Rattle.conf_fold.proofs.EntryLemmas.{line-collects, row-collects}

-- ---- the row of a line

-- a line is active where the marks of its files are set
pub line-active : (recorded : Recorded) (pass : Pass) (fold : Fold) (rows : List LineRow) (blocks : Blocks) (line : Line) (given : ConfLine)
    → FoldRepresents recorded pass fold rows blocks → IsLine given blocks line
    → is_active rows pass line ≡ (list_all (λ m. m) (take given.depth fold.applies) && cond (keyword_opens_block given.keyword) true (own_mark given.depth given.opens fold.applies))
line-active recorded pass fold rows blocks line given s is =
    ap (list_all (applies_at rows pass)) is.stands
    ∙ active-marked rows pass given.depth (keyword_opens_block given.keyword) blocks (own_block_of given blocks)
    ∙ ap (λ x. list_all (λ m. m) (take given.depth (map (open_applies rows pass) blocks)) && cond (keyword_opens_block given.keyword) true x) (own-marked rows pass given.opens given.depth blocks)
    ∙ ap (λ ms. list_all (λ m. m) (take given.depth ms) && cond (keyword_opens_block given.keyword) true (own_mark given.depth given.opens ms)) (sym s.applies)

-- the row of a line that says this
unfoldable pub said : Recorded → Pass → List LineRow → ℕ → Line → Bool → LineContent → LineRow
said recorded pass rows place line active e = row_with line active (active_before pass place) (effect_of recorded pass rows active (Ok e))

pub row-said : (recorded : Recorded) (pass : Pass) (rows : List LineRow) (blocks : Blocks) (given : ConfLine) (place : ℕ) (line : Line) (e : LineContent)
    → IsNextLine recorded pass rows blocks given place line → entry_of rows line ≡ Ok e → next_row recorded pass rows place line ≡ said recorded pass rows place line (is_active rows pass line) e
unfolding next_row row_of said
row-said recorded pass rows blocks given place line e next h = rw (next.within, h) refl

-- ---- one more row

pub or-false : (b : Bool) → (b || false) ≡ b
or-false true = refl
or-false false = refl

pub given-more : (rows : List LineRow) (row : LineRow) → flat_map given (rows ++ row ∷ []) ≡ flat_map given rows ++ given row
given-more rows row = flat_map-append given rows (row ∷ []) ∙ ap (λ xs. flat_map given rows ++ xs) (append-nil (given row))

pub collected-more : (rows : List LineRow) (row : LineRow) → flat_map collected (rows ++ row ∷ []) ≡ flat_map collected rows ++ collected row
collected-more rows row = flat_map-append collected rows (row ∷ []) ∙ ap (λ xs. flat_map collected rows ++ xs) (append-nil (collected row))

pub wants-more : (rows : List LineRow) (row : LineRow) → list_any wants_second (rows ++ row ∷ []) ≡ (list_any wants_second rows || wants_second row)
wants-more rows row = list_any-append wants_second rows (row ∷ []) ∙ ap (λ b. list_any wants_second rows || b) (or-false (wants_second row))

pub behind-before : (rows : List LineRow) (row : LineRow) (pass : Pass) (opening : Bool) (place : ℕ) (own : Option ℕ) → length rows ≡ pass_start_of pass + place → IsBlockBefore (rows ++ row ∷ []) pass own → IsBlockBefore (rows ++ row ∷ []) pass (block_behind opening place own)
behind-before rows row pass true place own e h = let k : length (rows ++ row ∷ []) ≡ length rows + 1 = length-append rows (row ∷ []) in omega (arith, k, e)
behind-before rows row pass false place own e h = h

-- what stands after one more row
pub record More (recorded : Recorded) (pass : Pass) (fold new : Fold) (rows : List LineRow) (blocks : Blocks) (l : ConfLine) (place : ℕ) (row : LineRow) : Type 0 where
  pub original : new.original ≡ fold.original
  pub keeps : KeepsSettings new.settings (flat_map given rows ++ given row)
  pub applies : new.applies ≡ map (open_applies (rows ++ row ∷ []) pass) (open_behind l place blocks)
  pub again : new.asks_again ≡ (fold.asks_again || wants_second row)
  pub in_pass : InPass recorded pass new (rows ++ row ∷ [])

pub stands-more : (recorded : Recorded) (pass : Pass) (fold new : Fold) (rows : List LineRow) (blocks : Blocks) (l : ConfLine) (place : ℕ) (row : LineRow)
    → FoldRepresents recorded pass fold rows blocks → length rows ≡ pass_start_of pass + place → More recorded pass fold new rows blocks l place row
    → FoldRepresents recorded pass new (rows ++ row ∷ []) (open_behind l place blocks)
stands-more recorded pass fold new rows blocks l place row s e m = record {
  original = m.original ∙ s.original;
  keeps = rw (given-more rows row) m.keeps;
  applies = m.applies;
  before =
      let kept = each-kept rows row pass blocks s.before in
      each-more (rows ++ row ∷ []) pass (take l.depth blocks) (block_behind (keyword_opens_block l.keyword) place (own_block_of l blocks))
      (each-take (rows ++ row ∷ []) pass l.depth blocks kept)
      (behind-before rows row pass (keyword_opens_block l.keyword) place (own_block_of l blocks) e (own-before (rows ++ row ∷ []) pass l.opens l.depth blocks kept));
  again = m.again ∙ ap (λ b. b || wants_second row) s.again ∙ sym (wants-more rows row);
  in_pass = m.in_pass;
}

-- the marks after a line that opens no block
pub marks-same : (recorded : Recorded) (pass : Pass) (fold : Fold) (rows : List LineRow) (blocks : Blocks) (l : ConfLine) (place : ℕ) (row : LineRow)
    → FoldRepresents recorded pass fold rows blocks → keyword_opens_block l.keyword ≡ false → (l.opens ≡ false → l.depth < length fold.applies)
    → marks_in_file l.depth l.opens fold.applies ≡ map (open_applies (rows ++ row ∷ []) pass) (open_behind l place blocks)
marks-same recorded pass fold rows blocks l place row s o known =
    let size : length fold.applies ≡ length blocks = ap length s.applies ∙ Rattle.std.proofs.lemmas.List.length-map blocks (open_applies rows pass) in
    let before = each-more rows pass (take l.depth blocks) (own_block_of l blocks) (each-take rows pass l.depth blocks s.before) (own-before rows pass l.opens l.depth blocks s.before) in
    ap (marks_in_file l.depth l.opens) s.applies
    ∙ sym (marks-entered rows pass l.opens l.depth blocks (λ c. let h = known c in omega (arith, h, size)))
    ∙ sym (marks-kept rows row pass (take l.depth blocks ++ own_block_of l blocks ∷ []) before)
    ∙ ap (λ t. map (open_applies (rows ++ row ∷ []) pass) (take l.depth blocks ++ block_behind t place (own_block_of l blocks) ∷ [])) (sym o)

-- the marks after a line that opens a block
pub marks-opened : (recorded : Recorded) (pass : Pass) (fold : Fold) (rows : List LineRow) (blocks : Blocks) (l : ConfLine) (place : ℕ) (row : LineRow)
    → FoldRepresents recorded pass fold rows blocks → keyword_opens_block l.keyword ≡ true → length rows ≡ pass_start_of pass + place
    → take l.depth fold.applies ++ row.applies ∷ [] ≡ map (open_applies (rows ++ row ∷ []) pass) (open_behind l place blocks)
marks-opened recorded pass fold rows blocks l place row s o e =
    ap (λ ms. take l.depth ms ++ row.applies ∷ []) s.applies
    ∙ ap (λ ms. ms ++ row.applies ∷ []) (take-map (open_applies rows pass) l.depth blocks ∙ sym (marks-kept rows row pass (take l.depth blocks) (each-take rows pass l.depth blocks s.before)))
    ∙ ap (λ m. map (open_applies (rows ++ row ∷ []) pass) (take l.depth blocks) ++ m ∷ []) (sym (applies-new rows row pass place e))
    ∙ sym (map-append (open_applies (rows ++ row ∷ []) pass) (take l.depth blocks) (Some place ∷ []))
    ∙ ap (λ t. map (open_applies (rows ++ row ∷ []) pass) (take l.depth blocks ++ block_behind t place (own_block_of l blocks) ∷ [])) (sym o)

-- ---- what is kept of a pass

-- a row of a file collects where its entry does
pub here-collects : (row : LineRow) → is_of_command_line row.line.source ≡ false → collects_here row ≡ collects row.entry
here-collects row h = rw h refl

and-none : (b c : Bool) → c ≡ false → (b && c) ≡ false
and-none true c h = h
and-none false c h = refl

-- a row whose entry doesn't collect
pub none-collected : (row : LineRow) → collects row.entry ≡ false → collected row ≡ []
none-collected row h = ap (λ t. cond t (row.active ∷ []) []) (and-none (not (is_of_command_line row.line.source)) (collects row.entry) h)

-- a row that does
pub one-collected : (row : LineRow) → collects_here row ≡ true → collected row ≡ row.active ∷ []
one-collected row h = ap (λ t. cond t (row.active ∷ []) []) h

-- the row of the same line in the first pass
unfoldable pub again-row : (recorded : Recorded) (before rows : List LineRow) (blocks : Blocks) (l : ConfLine) (place : ℕ) (line : Line) → IsNextLine recorded (Second before) rows blocks l place line → LineRow
again-row recorded before rows blocks l place line n = row_of recorded entry_of (take place before) (record { pass = First; line = place }) line

pub again-line : (recorded : Recorded) (before rows : List LineRow) (blocks : Blocks) (l : ConfLine) (place : ℕ) (line : Line) (n : IsNextLine recorded (Second before) rows blocks l place line) → (again-row recorded before rows blocks l place line n).line ≡ line
unfolding again-row row_of
again-line recorded before rows blocks l place line n = refl

pub take-next : (xs : List LineRow) (i : ℕ) (x : LineRow) → slice_get xs i ≡ Some x → take (suc i) xs ≡ take i xs ++ x ∷ []
take-next [] i x e = absurd cc
take-next (y ∷ ys) zero x e = let k : y ≡ x = cc in ap (λ z. z ∷ []) k
take-next (y ∷ ys) (suc i) x e = ap (λ zs. y ∷ zs) (take-next ys i x e)

pub mark-at : (xs : List LineRow) (i : ℕ) (x : LineRow) → slice_get xs i ≡ Some x → collects_here x ≡ true → slice_get (flat_map collected xs) (length (flat_map collected (take i xs))) ≡ Some x.active
mark-at [] i x e h = absurd cc
mark-at (y ∷ ys) zero x e h = let k : y ≡ x = cc in rw (k, h) refl
mark-at (y ∷ ys) (suc i) x e h = mark-on (collects_here y) (mark-at ys i x e h)
  where
    mark-on : (t : Bool) → slice_get (flat_map collected ys) (length (flat_map collected (take i ys))) ≡ Some x.active
        → slice_get (cond t (y.active ∷ []) [] ++ flat_map collected ys) (length (cond t (y.active ∷ []) [] ++ flat_map collected (take i ys))) ≡ Some x.active
    mark-on true m = m
    mark-on false m = m

-- what is kept of a pass speaks of three fields
pub in-pass-same : (recorded : Recorded) (pass : Pass) (fold new : Fold) (rows : List LineRow) → InPass recorded pass fold rows → new.name ≡ fold.name → new.were_active ≡ fold.were_active → new.seen ≡ fold.seen → InPass recorded pass new rows
in-pass-same recorded First fold new rows p name active seen = record { name = name ∙ p.name; active = active ∙ p.active }
in-pass-same recorded (Second before) fold new rows p name active seen = record { name = name ∙ p.name; active = active ∙ p.active; seen = λ i e. seen ∙ p.seen i e }

-- where nothing is collected, what is kept of the pass stays
pub pass-idle : (recorded : Recorded) (pass : Pass) (fold : Fold) (rows : List LineRow) (blocks : Blocks) (l : ConfLine) (place : ℕ) (line : Line) (row : LineRow)
    → InPass recorded pass fold rows → IsNextLine recorded pass rows blocks l place line → collects row.entry ≡ false → collects (entry_of rows line) ≡ false → InPass recorded pass fold (rows ++ row ∷ [])
unfolding again-row
pass-idle recorded First fold rows blocks l place line row p n c d = record {
  name = p.name;
  active = p.active ∙ sym (append-nil (flat_map collected rows)) ∙ ap (λ xs. flat_map collected rows ++ xs) (sym (none-collected row c)) ∙ sym (collected-more rows row);
}
pass-idle recorded (Second before) fold rows blocks l place line row p n c d = record {
  name = p.name;
  active = p.active;
  seen = λ i e.
      let b = again-row recorded before rows blocks l place line n in
      let k : length (rows ++ row ∷ []) ≡ length rows + 1 = length-append rows (row ∷ []) in
      let i-is : i ≡ suc place = omega (arith, k, e, n.at) in
      let none : collects b.entry ≡ false = row-collects recorded First (take place before) place line n.within ∙ line-collects (take place before) rows line l blocks n.is_line ∙ d in
      let none-more : flat_map collected (take (suc place) before) ≡ flat_map collected (take place before) =
      ap (flat_map collected) (take-next before place b n.again) ∙ collected-more (take place before) b ∙ ap (λ xs. flat_map collected (take place before) ++ xs) (none-collected b none) ∙ append-nil _ in
      p.seen place n.at ∙ sym (ap length none-more) ∙ ap (λ m. length (flat_map collected (take m before))) (sym i-is);
}
