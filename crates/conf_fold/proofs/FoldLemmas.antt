-- What a fold does with a line that says nothing, or opens a block.
use Rattle.std.proofs.Common.{◌≡◌, ℕ, ◌<◌, Bool, true, false, cond, ◌&&◌, ◌||◌, List, [], ◌∷◌, ◌++◌, length, take, Result, Ok, Err, refl, sym, ap, ◌∙◌}
use Rattle.std.specs.Prelude.{flat_map}
use Rattle.std.specs.List.{list_all, list_any}
use Rattle.std.proofs.lemmas.List.{append-nil}
use Rattle.conf_rules.specs.declared.criterion.Criterion.{Criterion}
use Rattle.conf_rules.specs.declared.causes.Cause.{Cause}
use Rattle.conf_rules.specs.declared.causes.TokenError.{TokenError}
use Rattle.conf_rules.specs.declared.causes.Cause.TheVariants as causes
use Rattle.conf_rules.specs.declared.entry.LineContent.{LineContent}
use Rattle.conf_rules.specs.declared.entry.LineContent.TheVariants.{Nothing, Host, Match}
use Rattle.conf_rules.specs.Texts.{Bytes}
use Rattle.conf_rules.specs.Recorded.{Recorded}
use Rattle.conf_rules.specs.Patterns.{answer_of, is_yes}
use Rattle.conf_rules.specs.Evaluation.{verdict}
use Rattle.conf_rules.specs.Sources.{Line}
use Rattle.conf_rules.specs.Rows.{LineRow, Pass, given, entry_gives}
use Rattle.conf_rules.specs.Entries.{entry_of}
use Rattle.conf_rules.specs.Resolution.{seen_at, name_in_pass, asks_again, is_final, is_active, Effect, effect_of, no_block, is_refused}
use Rattle.conf_fold.specs.declared.fold.Fold.{Fold}
use Rattle.conf_reader.specs.declared.line.ConfLine.{ConfLine}
use Rattle.conf_reader.specs.declared.errors.LineError.{LineError}
use Rattle.conf_reader.specs.declared.errors.LineError.TheVariants as line_errors
use Rattle.conf_rules.specs.Diagnostics.{is_fault}
use Rattle.conf_fold.specs.Results.{LineEvaluated}
use Rattle.conf_reader.specs.Blocks.{Blocks, open_behind, IsLine}
use Rattle.conf_fold.specs.FoldRepresents.{collects, FoldRepresents, IsNextLine, next_row, FoldsEntry, block_name, fold_view_of, entry_so_far, marks_in_file, own_mark}
use Rattle.conf_fold.proofs.SeenLemmas.{name-same, view-same}
use Rattle.conf_fold.proofs.EntryLemmas.{entry-same, opens, entry-opens}
use Rattle.conf_fold.proofs.RowLemmas.{line-active, said, row-said, or-false, More, stands-more, marks-same, marks-opened, in-pass-same, pass-idle}

-- ---- a line that says nothing

pub folds-nothing : (recorded : Recorded) (pass : Pass) (fold new : Fold) (rows : List LineRow) (blocks : Blocks) (l : ConfLine) (place : ℕ) (line : Line)
    → FoldRepresents recorded pass fold rows blocks → IsNextLine recorded pass rows blocks l place line → entry_so_far fold l ≡ Ok Nothing
    → (l.opens ≡ false → l.depth < length fold.applies) → new ≡ record fold { applies = marks_in_file l.depth l.opens fold.applies }
    → (is_refused (next_row recorded pass rows place line).entry ≡ false) × FoldRepresents recorded pass new (rows ++ next_row recorded pass rows place line ∷ []) (open_behind l place blocks)
unfolding opens said
folds-nothing recorded pass fold new rows blocks l place line s n e known new-is =
    let says : entry_of rows line ≡ Ok Nothing = entry-same recorded pass fold rows blocks line l s n.is_line ∙ e in
    let active = is_active rows pass line in
    let row : LineRow = said recorded pass rows place line active Nothing in
    let here : next_row recorded pass rows place line ≡ row = row-said recorded pass rows blocks l place line Nothing n says in
    let effect : effect_of recorded pass rows active (Ok Nothing) ≡ no_block (Ok Nothing) = nothing-effect recorded pass rows active in
    let entry : row.entry ≡ Ok Nothing = ap (λ (f : Effect). f.entry) effect in
    let more : More recorded pass fold new rows blocks l place row = record {
      original = ap (λ (f : Fold). f.original) new-is;
      keeps = rw (ap (λ (f : Fold). f.settings) new-is, nothing-given row.active row.again row.entry entry, append-nil (flat_map given rows)) s.keeps;
      applies = ap (λ (f : Fold). f.applies) new-is ∙ marks-same recorded pass fold rows blocks l place row s (entry-opens fold l Nothing e) known;
      again = ap (λ (f : Fold). f.asks_again) new-is ∙ sym (ap (λ r. fold.asks_again || asks_again r) entry ∙ or-false fold.asks_again);
      in_pass = in-pass-same recorded pass fold new (rows ++ row ∷ []) (pass-idle recorded pass fold rows blocks l place line row s.in_pass n (ap collects entry) (ap collects says)) (ap (λ (f : Fold). f.name) new-is) (ap (λ (f : Fold). f.were_active) new-is) (ap (λ (f : Fold). f.seen) new-is);
    } in
    (rw here (ap is_refused entry), rw here (stands-more recorded pass fold new rows blocks l place row s n.at more))
  where
    nothing-effect : (recorded : Recorded) (pass : Pass) (rows : List LineRow) (active : Bool) → effect_of recorded pass rows active (Ok Nothing) ≡ no_block (Ok Nothing)
    nothing-effect recorded pass rows true = refl
    nothing-effect recorded pass rows false = refl

    nothing-given : (active again : Bool) (r : Result LineContent Cause) → r ≡ Ok Nothing → cond active (entry_gives again r) [] ≡ []
    nothing-given true again r h = ap (entry_gives again) h
    nothing-given false again r h = refl

-- a row that gives nothing
pub gives-nothing : (active again : Bool) (r : Result LineContent Cause) → entry_gives again r ≡ [] → cond active (entry_gives again r) [] ≡ []
gives-nothing true again r h = h
gives-nothing false again r h = refl

-- ---- a Host line

pub folds-block : (recorded : Recorded) (pass : Pass) (fold new : Fold) (rows : List LineRow) (blocks : Blocks) (l : ConfLine) (place : ℕ) (line : Line) (ps : List Bytes)
    → FoldRepresents recorded pass fold rows blocks → IsNextLine recorded pass rows blocks l place line → entry_so_far fold l ≡ Ok (Host ps)
    → new ≡ record fold { applies = take l.depth fold.applies ++ is_yes (answer_of ps (block_name fold)) ∷ [] }
    → (is_refused (next_row recorded pass rows place line).entry ≡ false) × FoldRepresents recorded pass new (rows ++ next_row recorded pass rows place line ∷ []) (open_behind l place blocks)
unfolding opens said
folds-block recorded pass fold new rows blocks l place line ps s n e new-is =
    let says : entry_of rows line ≡ Ok (Host ps) = entry-same recorded pass fold rows blocks line l s n.is_line ∙ e in
    let active = is_active rows pass line in
    let row : LineRow = said recorded pass rows place line active (Host ps) in
    let here : next_row recorded pass rows place line ≡ row = row-said recorded pass rows blocks l place line (Host ps) n says in
    let name : is_yes (answer_of ps (block_name fold)) ≡ is_yes (answer_of ps (name_in_pass recorded pass)) = ap (λ o. is_yes (answer_of ps o)) (name-same recorded pass fold rows blocks s) in
    let effect : effect_of recorded pass rows active (Ok (Host ps)) ≡ record { entry = Ok (Host ps); applies = is_yes (answer_of ps (name_in_pass recorded pass)); ran = [] } = block-effect recorded pass rows active ps in
    let entry : row.entry ≡ Ok (Host ps) = ap (λ (f : Effect). f.entry) effect in
    let more : More recorded pass fold new rows blocks l place row = record {
      original = ap (λ (f : Fold). f.original) new-is;
      keeps = rw (ap (λ (f : Fold). f.settings) new-is, gives-nothing row.active row.again row.entry (ap (entry_gives row.again) entry), append-nil (flat_map given rows)) s.keeps;
      applies = ap (λ (f : Fold). f.applies) new-is ∙ ap (λ b. take l.depth fold.applies ++ b ∷ []) (name ∙ sym (ap (λ (f : Effect). f.applies) effect)) ∙ marks-opened recorded pass fold rows blocks l place row s (entry-opens fold l (Host ps) e) n.at;
      again = ap (λ (f : Fold). f.asks_again) new-is ∙ sym (ap (λ r. fold.asks_again || asks_again r) entry ∙ or-false fold.asks_again);
      in_pass = in-pass-same recorded pass fold new (rows ++ row ∷ []) (pass-idle recorded pass fold rows blocks l place line row s.in_pass n (ap collects entry) (ap collects says)) (ap (λ (f : Fold). f.name) new-is) (ap (λ (f : Fold). f.were_active) new-is) (ap (λ (f : Fold). f.seen) new-is);
    } in
    (rw here (ap is_refused entry), rw here (stands-more recorded pass fold new rows blocks l place row s n.at more))
  where
    block-effect : (recorded : Recorded) (pass : Pass) (rows : List LineRow) (active : Bool) (ps : List Bytes) → effect_of recorded pass rows active (Ok (Host ps)) ≡ record { entry = Ok (Host ps); applies = is_yes (answer_of ps (name_in_pass recorded pass)); ran = [] }
    block-effect recorded pass rows true ps = refl
    block-effect recorded pass rows false ps = refl

-- ---- a Match line

-- what an effect is where criteria were evaluated, or not
pub tests-effect : (recorded : Recorded) (pass : Pass) (rows : List LineRow) (active : Bool) (cs : List Criterion) (b : Bool)
    → (active ≡ true → (verdict recorded.status (seen_at recorded pass rows) cs).holds ≡ Ok b) → (active ≡ false → b ≡ false)
    → ((effect_of recorded pass rows active (Ok (Match cs))).entry ≡ Ok (Match cs)) × ((effect_of recorded pass rows active (Ok (Match cs))).applies ≡ b)
tests-effect recorded pass rows true cs b held none = let h = held refl in (rw h refl, rw h refl)
tests-effect recorded pass rows false cs b held none = (refl, sym (none refl))

pub and-one : (b : Bool) → (b && true) ≡ b
and-one true = refl
and-one false = refl

-- where a Match line stands, all its marks are below its own file
pub tests-active : (recorded : Recorded) (pass : Pass) (fold : Fold) (rows : List LineRow) (blocks : Blocks) (line : Line) (l : ConfLine) (cs : List Criterion)
    → FoldRepresents recorded pass fold rows blocks → IsLine l blocks line → entry_so_far fold l ≡ Ok (Match cs) → is_active rows pass line ≡ list_all (λ m. m) (take l.depth fold.applies)
unfolding opens
tests-active recorded pass fold rows blocks line l cs s is e =
    line-active recorded pass fold rows blocks line l s is
    ∙ ap (λ o. list_all (λ m. m) (take l.depth fold.applies) && cond o true (own_mark l.depth l.opens fold.applies)) (entry-opens fold l (Match cs) e)
    ∙ and-one (list_all (λ m. m) (take l.depth fold.applies))

pub folds-tests : (recorded : Recorded) (pass : Pass) (fold new : Fold) (rows : List LineRow) (blocks : Blocks) (l : ConfLine) (place : ℕ) (line : Line) (cs : List Criterion) (b : Bool)
    → FoldRepresents recorded pass fold rows blocks → IsNextLine recorded pass rows blocks l place line → entry_so_far fold l ≡ Ok (Match cs)
    → (list_all (λ m. m) (take l.depth fold.applies) ≡ true → (verdict recorded.status (fold_view_of fold recorded.facts) cs).holds ≡ Ok b) → (list_all (λ m. m) (take l.depth fold.applies) ≡ false → b ≡ false)
    → new ≡ record fold { applies = take l.depth fold.applies ++ b ∷ []; asks_again = fold.asks_again || list_any is_final cs }
    → (is_refused (next_row recorded pass rows place line).entry ≡ false) × FoldRepresents recorded pass new (rows ++ next_row recorded pass rows place line ∷ []) (open_behind l place blocks)
unfolding opens said
folds-tests recorded pass fold new rows blocks l place line cs b s n e held none new-is =
    let says : entry_of rows line ≡ Ok (Match cs) = entry-same recorded pass fold rows blocks line l s n.is_line ∙ e in
    let active = is_active rows pass line in
    let active-is : active ≡ list_all (λ m. m) (take l.depth fold.applies) = tests-active recorded pass fold rows blocks line l cs s n.is_line e in
    let row : LineRow = said recorded pass rows place line active (Match cs) in
    let here : next_row recorded pass rows place line ≡ row = row-said recorded pass rows blocks l place line (Match cs) n says in
    let effect = tests-effect recorded pass rows active cs b
    (λ a. ap (λ v. (verdict recorded.status v cs).holds) (sym (view-same recorded pass fold rows blocks s)) ∙ held (sym active-is ∙ a))
    (λ a. none (sym active-is ∙ a)) in
    let entry : row.entry ≡ Ok (Match cs) = effect.0 in
    let more : More recorded pass fold new rows blocks l place row = record {
      original = ap (λ (f : Fold). f.original) new-is;
      keeps = rw (ap (λ (f : Fold). f.settings) new-is, gives-nothing row.active row.again row.entry (ap (entry_gives row.again) entry), append-nil (flat_map given rows)) s.keeps;
      applies = ap (λ (f : Fold). f.applies) new-is ∙ ap (λ b. take l.depth fold.applies ++ b ∷ []) (sym effect.1) ∙ marks-opened recorded pass fold rows blocks l place row s (entry-opens fold l (Match cs) e) n.at;
      again = ap (λ (f : Fold). f.asks_again) new-is ∙ sym (ap (λ r. fold.asks_again || asks_again r) entry);
      in_pass = in-pass-same recorded pass fold new (rows ++ row ∷ []) (pass-idle recorded pass fold rows blocks l place line row s.in_pass n (ap collects entry) (ap collects says)) (ap (λ (f : Fold). f.name) new-is) (ap (λ (f : Fold). f.were_active) new-is) (ap (λ (f : Fold). f.seen) new-is);
    } in
    (rw here (ap is_refused entry), rw here (stands-more recorded pass fold new rows blocks l place row s n.at more))

-- ---- refusals of criteria

pub refused-effect : (recorded : Recorded) (pass : Pass) (rows : List LineRow) (active : Bool) (cs : List Criterion) (t : TokenError) → active ≡ true → (verdict recorded.status (seen_at recorded pass rows) cs).holds ≡ Err t
    → (effect_of recorded pass rows active (Ok (Match cs))).entry ≡ Err (causes.Token t)
refused-effect recorded pass rows true cs t a h = rw h refl
refused-effect recorded pass rows false cs t a h = absurd cc

pub token-refused : (recorded : Recorded) (pass : Pass) (fold : Fold) (rows : List LineRow) (blocks : Blocks) (l : ConfLine) (place : ℕ) (line : Line) (cs : List Criterion) (t : TokenError)
    → FoldRepresents recorded pass fold rows blocks → IsNextLine recorded pass rows blocks l place line → entry_so_far fold l ≡ Ok (Match cs)
    → list_all (λ m. m) (take l.depth fold.applies) ≡ true → (verdict recorded.status (fold_view_of fold recorded.facts) cs).holds ≡ Err t
    → (next_row recorded pass rows place line).entry ≡ Err (causes.Token t)
unfolding said
token-refused recorded pass fold rows blocks l place line cs t s n e a h =
    let says : entry_of rows line ≡ Ok (Match cs) = entry-same recorded pass fold rows blocks line l s n.is_line ∙ e in
    ap (λ (r : LineRow). r.entry) (row-said recorded pass rows blocks l place line (Match cs) n says)
    ∙ refused-effect recorded pass rows (is_active rows pass line) cs t (tests-active recorded pass fold rows blocks line l cs s n.is_line e ∙ a)
    (ap (λ v. (verdict recorded.status v cs).holds) (sym (view-same recorded pass fold rows blocks s)) ∙ h)

pub no-fault : (b : Bool) → b ≡ true → b ≡ false → ⊥
no-fault b e f = let k : true ≡ false = sym e ∙ f in cc

pub tests-refused : (recorded : Recorded) (pass : Pass) (fold new : Fold) (rows : List LineRow) (blocks : Blocks) (l : ConfLine) (place : ℕ) (line : Line) (cs : List Criterion) (e : LineError)
    → FoldRepresents recorded pass fold rows blocks → IsNextLine recorded pass rows blocks l place line → entry_so_far fold l ≡ Ok (Match cs)
    → list_all (λ m. m) (take l.depth fold.applies) ≡ true → LineEvaluated (Err e) (verdict recorded.status (fold_view_of fold recorded.facts) cs).holds
    → FoldsEntry recorded pass rows blocks l place line (Err e) new
tests-refused recorded pass fold new rows blocks l place line cs line_errors.OutOfMemory s n e a v = tt
tests-refused recorded pass fold new rows blocks l place line cs (line_errors.Refused (causes.Token t)) s n e a v = λ f. token-refused recorded pass fold rows blocks l place line cs t s n e a v
tests-refused recorded pass fold new rows blocks l place line cs (line_errors.Refused cause) s n e a v = λ f. absurd (no-fault (is_fault cause) v f)
