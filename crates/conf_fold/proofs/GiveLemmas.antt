-- What a fold does with a line of a key.
use Rattle.std.proofs.Common.{◌≡◌, ℕ, suc, ◌+◌, ◌<◌, Bool, true, false, cond, not, ◌&&◌, List, [], ◌∷◌, ◌++◌, length, take, Option, Some, None, Ok, refl, sym, ap, ◌∙◌, arith}
use Rattle.std.specs.Prelude.{flat_map}
use Rattle.std.specs.List.{list_all, slice_get}
use Rattle.std.proofs.lemmas.List.{length-append}
use Rattle.conf_rules.specs.declared.key.Key.{Key}
use Rattle.conf_rules.specs.declared.value.Value.{Value}
use Rattle.conf_rules.specs.declared.entry.LineContent.TheVariants.{Gives}
use Rattle.conf_rules.specs.Texts.{Bytes}
use Rattle.conf_rules.specs.Recorded.{Recorded}
use Rattle.conf_rules.specs.Sources.{Line}
use Rattle.conf_rules.specs.Rows.{LineRow, Pass, First, Second, is_collected, given}
use Rattle.conf_rules.specs.Entries.{entry_of}
use Rattle.conf_rules.specs.Resolution.{active_before, is_active_row, is_of_command_line, is_active, effect_of, no_block, row_with, is_refused}
use Rattle.conf_fold.specs.declared.fold.Fold.{Fold}
use Rattle.conf_reader.specs.declared.line.ConfLine.{ConfLine}
use Rattle.conf_options.specs.Kept.{Given, KeepsSettings}
use Rattle.conf_reader.specs.Blocks.{Blocks, open_behind}
use Rattle.conf_fold.specs.FoldRepresents.{collects_here, collects, collected, InFirst, InSecond, InPass, FoldRepresents, IsNextLine, next_row, entry_so_far, marks_in_file, own_mark, does_count, activity_noted, if_counts}
use Rattle.conf_fold.proofs.EntryLemmas.{entry-same, opens, entry-opens, line-collects, row-collects}
use Rattle.conf_fold.proofs.RowLemmas.{here-collects, one-collected, again-line, line-active, said, row-said, or-false, collected-more, More, stands-more, marks-same, again-row, take-next, mark-at, in-pass-same, pass-idle}

-- ---- a line of a key

pub gives-effect : (recorded : Recorded) (pass : Pass) (rows : List LineRow) (active : Bool) (key : Key) (v : Value) → effect_of recorded pass rows active (Ok (Gives key v)) ≡ no_block (Ok (Gives key v))
gives-effect recorded pass rows true key v = refl
gives-effect recorded pass rows false key v = refl

-- the row of a line that gives a value
abbrev pub giving : Pass → ℕ → Line → Bool → Key → Value → LineRow
giving pass place line active key v = record { line = line; entry = Ok (Gives key v); applies = false; active = active; again = active_before pass place; ran = [] }

-- what counts is what the row gives, and what is kept of the pass goes on
pub record Counts (recorded : Recorded) (pass : Pass) (fold : Fold) (rows : List LineRow) (key : Key) (active : Bool) (v : Value) (row : LineRow) : Type 0 where
  pub counts : if_counts (does_count key active fold) key v ≡ given row
  pub in_pass : InPass recorded pass (activity_noted key active fold) (rows ++ row ∷ [])

pub counts-none : (active again : Bool) (key : Key) (v : Value) (k : Bool) → if_counts active key v ≡ cond active (cond (again && false) [] ((key, v) ∷ [])) []
counts-none true true key v k = refl
counts-none true false key v k = refl
counts-none false again key v k = refl

pub counts-again : (active again : Bool) (key : Key) (v : Value) → if_counts (active && not again) key v ≡ cond active (cond (again && true) [] ((key, v) ∷ [])) []
counts-again true true key v = refl
counts-again true false key v = refl
counts-again false again key v = refl

-- where the key doesn't collect
pub counts-plain : (recorded : Recorded) (pass : Pass) (fold : Fold) (rows : List LineRow) (blocks : Blocks) (l : ConfLine) (place : ℕ) (line : Line) (key : Key) (v : Value) (active : Bool) → is_collected key ≡ false
    → InPass recorded pass fold rows → IsNextLine recorded pass rows blocks l place line → entry_of rows line ≡ Ok (Gives key v)
    → Counts recorded pass fold rows key active v (giving pass place line active key v)
counts-plain recorded pass fold rows blocks l place line key v active h p n e = record {
  counts = rw h (counts-none active (active_before pass place) key v true);
  in_pass = rw h (pass-idle recorded pass fold rows blocks l place line (giving pass place line active key v) p n h (ap collects e ∙ h));
}

pub noted-none : (n : Option Bytes) (w : Option Bool) (active : Bool) (f : Fold) → n ≡ None
    → elim n [ None ↦ record f { were_active = f.were_active ++ active ∷ [] } | Some m ↦ elim w [ None ↦ f | Some was ↦ record f { seen = f.seen + 1 } ] ] ≡ record f { were_active = f.were_active ++ active ∷ [] }
noted-none None w active f e = refl
noted-none (Some m) w active f e = absurd cc

pub noted-some : (n : Option Bytes) (w : Option Bool) (active : Bool) (f : Fold) (m : Bytes) (b : Bool) → n ≡ Some m → w ≡ Some b
    → elim n [ None ↦ record f { were_active = f.were_active ++ active ∷ [] } | Some m ↦ elim w [ None ↦ f | Some was ↦ record f { seen = f.seen + 1 } ] ] ≡ record f { seen = f.seen + 1 }
noted-some None w active f m b e h = absurd cc
noted-some (Some n) None active f m b e h = absurd cc
noted-some (Some n) (Some was) active f m b e h = refl

-- where it does, in the first pass
pub counts-first : (recorded : Recorded) (fold : Fold) (rows : List LineRow) (place : ℕ) (line : Line) (key : Key) (v : Value) (active : Bool) → is_of_command_line line.source ≡ false → is_collected key ≡ true
    → InFirst fold rows → Counts recorded First fold rows key active v (giving First place line active key v)
counts-first recorded fold rows place line key v active asked h p =
    let noted-is : activity_noted key active fold ≡ record fold { were_active = fold.were_active ++ active ∷ [] } = rw h (noted-none fold.name (slice_get fold.were_active fold.seen) active fold p.name) in
    let row = giving First place line active key v in
    let marks : collected row ≡ active ∷ [] = one-collected row (here-collects row asked ∙ h) in
    record {
      counts = rw (h, p.name) (counts-none active false key v true);
      in_pass = rw noted-is (record { name = p.name; active = ap (λ xs. xs ++ active ∷ []) p.active ∙ ap (λ xs. flat_map collected rows ++ xs) (sym marks) ∙ sym (collected-more rows row) });
    }

-- and in the second
pub counts-second : (recorded : Recorded) (fold : Fold) (rows before : List LineRow) (blocks : Blocks) (l : ConfLine) (place : ℕ) (line : Line) (key : Key) (v : Value) (active : Bool) → is_collected key ≡ true
    → InSecond recorded fold rows before → IsNextLine recorded (Second before) rows blocks l place line → entry_of rows line ≡ Ok (Gives key v)
    → Counts recorded (Second before) fold rows key active v (giving (Second before) place line active key v)
unfolding again-row
counts-second recorded fold rows before blocks l place line key v active h p n e =
    let b : LineRow = again-row recorded before rows blocks l place line n in
    let row = giving (Second before) place line active key v in
    let b-collects : collects b.entry ≡ true = row-collects recorded First (take place before) place line n.within ∙ line-collects (take place before) rows line l blocks n.is_line ∙ ap collects e ∙ h in
    let b-here : collects_here b ≡ true = here-collects b (ap (λ (x : Line). is_of_command_line x.source) (again-line recorded before rows blocks l place line n) ∙ n.is_line.asked) ∙ b-collects in
    let was : slice_get fold.were_active fold.seen ≡ Some b.active =
    ap (λ xs. slice_get xs fold.seen) p.active ∙ ap (slice_get (flat_map collected before)) (p.seen place n.at) ∙ mark-at before place b n.again b-here in
    let again-is : active_before (Second before) place ≡ b.active = ap is_active_row n.again in
    let noted-is : activity_noted key active fold ≡ record fold { seen = fold.seen + 1 } = rw h (noted-some fold.name (slice_get fold.were_active fold.seen) active fold _ b.active p.name was) in
    record {
      counts = rw (h, p.name, was, again-is) (counts-again active b.active key v);
      in_pass = rw noted-is (record {
        name = p.name;
        active = p.active;
        seen = λ i d.
            let k : length (rows ++ row ∷ []) ≡ length rows + 1 = length-append rows (row ∷ []) in
            let i-is : i ≡ suc place = omega (arith, k, d, n.at) in
            let mark : collected b ≡ b.active ∷ [] = one-collected b b-here in
            let more : flat_map collected (take (suc place) before) ≡ flat_map collected (take place before) ++ b.active ∷ [] =
            ap (flat_map collected) (take-next before place b n.again) ∙ collected-more (take place before) b ∙ ap (λ xs. flat_map collected (take place before) ++ xs) mark in
            ap (λ m. m + 1) (p.seen place n.at) ∙ sym (length-append (flat_map collected (take place before)) (b.active ∷ [])) ∙ sym (ap length more) ∙ ap (λ m. length (flat_map collected (take m before))) (sym i-is);
      });
    }

pub counts-in : (recorded : Recorded) (pass : Pass) (fold : Fold) (rows : List LineRow) (blocks : Blocks) (l : ConfLine) (place : ℕ) (line : Line) (key : Key) (v : Value) (active t : Bool) → is_collected key ≡ t
    → InPass recorded pass fold rows → IsNextLine recorded pass rows blocks l place line → entry_of rows line ≡ Ok (Gives key v)
    → Counts recorded pass fold rows key active v (giving pass place line active key v)
counts-in recorded pass fold rows blocks l place line key v active false h p n e = counts-plain recorded pass fold rows blocks l place line key v active h p n e
counts-in recorded First fold rows blocks l place line key v active true h p n e = counts-first recorded fold rows place line key v active n.is_line.asked h p
counts-in recorded (Second before) fold rows blocks l place line key v active true h p n e = counts-second recorded fold rows before blocks l place line key v active h p n e

-- what noting leaves alone
pub record Alone (f g : Fold) : Type 0 where
  pub original : g.original ≡ f.original
  pub applies : g.applies ≡ f.applies
  pub again : g.asks_again ≡ f.asks_again

pub alone-by : (t : Bool) (n : Option Bytes) (w : Option Bool) (active : Bool) (f : Fold) → Alone f (cond t (elim n [ None ↦ record f { were_active = f.were_active ++ active ∷ [] } | Some m ↦ elim w [ None ↦ f | Some was ↦ record f { seen = f.seen + 1 } ] ]) f)
alone-by false n w active f = record { original = refl; applies = refl; again = refl }
alone-by true None w active f = record { original = refl; applies = refl; again = refl }
alone-by true (Some m) None active f = record { original = refl; applies = refl; again = refl }
alone-by true (Some m) (Some was) active f = record { original = refl; applies = refl; again = refl }

pub folds-gives : (recorded : Recorded) (pass : Pass) (fold mid new : Fold) (rows : List LineRow) (blocks : Blocks) (l : ConfLine) (place : ℕ) (line : Line) (key : Key) (v : Value) (active : Bool)
    → FoldRepresents recorded pass fold rows blocks → IsNextLine recorded pass rows blocks l place line → entry_so_far fold l ≡ Ok (Gives key v) → (l.opens ≡ false → l.depth < length fold.applies)
    → active ≡ (list_all (λ m. m) (take l.depth fold.applies) && own_mark l.depth l.opens fold.applies)
    → mid ≡ record fold { applies = marks_in_file l.depth l.opens fold.applies }
    → ((gs : List Given) → KeepsSettings mid.settings gs → KeepsSettings new.settings (gs ++ if_counts (does_count key active mid) key v))
    → new ≡ record (activity_noted key active mid) { settings = new.settings }
    → (is_refused (next_row recorded pass rows place line).entry ≡ false) × FoldRepresents recorded pass new (rows ++ next_row recorded pass rows place line ∷ []) (open_behind l place blocks)
unfolding opens said
folds-gives recorded pass fold mid new rows blocks l place line key v active s n e known active-is mid-is keeps others =
    let says : entry_of rows line ≡ Ok (Gives key v) = entry-same recorded pass fold rows blocks line l s n.is_line ∙ e in
    let row : LineRow = giving pass place line active key v in
    let is-active : is_active rows pass line ≡ active =
    line-active recorded pass fold rows blocks line l s n.is_line
    ∙ ap (λ o. list_all (λ m. m) (take l.depth fold.applies) && cond o true (own_mark l.depth l.opens fold.applies)) (entry-opens fold l (Gives key v) e) ∙ sym active-is in
    let here : next_row recorded pass rows place line ≡ row =
    row-said recorded pass rows blocks l place line (Gives key v) n says
    ∙ ap (λ f. row_with line (is_active rows pass line) (active_before pass place) f) (gives-effect recorded pass rows (is_active rows pass line) key v)
    ∙ ap (λ a. row_with line a (active_before pass place) (no_block (Ok (Gives key v)))) is-active in
    let in-mid : InPass recorded pass mid rows = in-pass-same recorded pass fold mid rows s.in_pass (ap (λ (f : Fold). f.name) mid-is) (ap (λ (f : Fold). f.were_active) mid-is) (ap (λ (f : Fold). f.seen) mid-is) in
    let counts : Counts recorded pass mid rows key active v row = counts-in recorded pass mid rows blocks l place line key v active (is_collected key) refl in-mid n says in
    let alone : Alone mid (activity_noted key active mid) = alone-by (is_collected key) mid.name (slice_get mid.were_active mid.seen) active mid in
    let kept : KeepsSettings mid.settings (flat_map given rows) = rw (ap (λ (f : Fold). f.settings) mid-is) s.keeps in
    let more : More recorded pass fold new rows blocks l place row = record {
      original = ap (λ (f : Fold). f.original) others ∙ alone.original ∙ ap (λ (f : Fold). f.original) mid-is;
      keeps = rw counts.counts at (keeps (flat_map given rows) kept);
      applies = ap (λ (f : Fold). f.applies) others ∙ alone.applies ∙ ap (λ (f : Fold). f.applies) mid-is ∙ marks-same recorded pass fold rows blocks l place row s (entry-opens fold l (Gives key v) e) known;
      again = ap (λ (f : Fold). f.asks_again) others ∙ alone.again ∙ ap (λ (f : Fold). f.asks_again) mid-is ∙ sym (or-false fold.asks_again);
      in_pass = in-pass-same recorded pass (activity_noted key active mid) new (rows ++ row ∷ []) counts.in_pass (ap (λ (f : Fold). f.name) others) (ap (λ (f : Fold). f.were_active) others) (ap (λ (f : Fold). f.seen) others);
    } in
    (rw here refl, rw here (stands-more recorded pass fold new rows blocks l place row s n.at more))

-- an evaluation that failed
