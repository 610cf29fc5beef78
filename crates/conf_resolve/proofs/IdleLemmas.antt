-- Lines that say nothing, in a pass.
use Rattle.std.proofs.Common.{◌≡◌, ℕ, suc, ◌+◌, Bool, true, false, ◌||◌, List, [], ◌∷◌, ◌++◌, length, take, None, Ok, refl, sym, ap, subst, ◌∙◌, append_assoc, arith}
use Rattle.std.specs.Prelude.{flat_map}
use Rattle.std.specs.List.{list_any}
use Rattle.std.proofs.lemmas.List.{append-nil, length-append}
use Rattle.conf_rules.specs.declared.entry.LineContent.TheVariants.{Nothing}
use Rattle.conf_rules.specs.Recorded.{Recorded}
use Rattle.conf_rules.specs.Sources.{Line}
use Rattle.conf_rules.specs.Rows.{LineRow, Pass, First, Second, given, entry_gives}
use Rattle.conf_rules.specs.Entries.{entry_of}
use Rattle.conf_rules.specs.Resolution.{pass_start_of, is_active, Effect, effect_of, no_block, row_of, rows_from, is_refused, refusal_in, wants_second, asks_again}
use Rattle.conf_reader.specs.Blocks.{Blocks}
use Rattle.conf_reader.specs.ReaderReads.{IsIdleLine, AreIdle}
use Rattle.conf_fold.specs.declared.fold.Fold.{Fold}
use Rattle.conf_fold.specs.FoldRepresents.{FoldRepresents, IsAgain, next_row, InPass, collects, collected}
use Rattle.conf_fold.proofs.BlockLemmas.{marks-kept, each-kept}
use Rattle.conf_fold.proofs.RowLemmas.{or-false, given-more, wants-more, collected-more, take-next, none-collected}
use Rattle.conf_fold.proofs.FoldLemmas.{gives-nothing}
use Rattle.conf_fold.proofs.OrderLemmas.{refusal-behind, ok-none, rows-on}
use Rattle.conf_resolve.specs.PassGives.{commands, AreAgain}
use Rattle.conf_resolve.proofs.CommandLemmas.{idle-commands}

-- ---- lines that say nothing

idle-effect : (recorded : Recorded) (pass : Pass) (rows : List LineRow) (active : Bool) → effect_of recorded pass rows active (Ok Nothing) ≡ no_block (Ok Nothing)
idle-effect recorded pass rows true = refl
idle-effect recorded pass rows false = refl

idle-entry : (recorded : Recorded) (pass : Pass) (rows : List LineRow) (place : ℕ) (line : Line) → IsIdleLine recorded place line → (row_of recorded entry_of rows (record { pass = pass; line = place }) line).entry ≡ Ok Nothing
unfolding row_of
idle-entry recorded pass rows place line idle = rw (idle rows) (ap (λ (f : Effect). f.entry) (idle-effect recorded pass rows (is_active rows pass line)))

pass-idle : (recorded : Recorded) (pass : Pass) (fold : Fold) (rows : List LineRow) (place : ℕ) (line : Line) (row : LineRow) → InPass recorded pass fold rows → length rows ≡ pass_start_of pass + place → IsIdleLine recorded place line → IsAgain recorded pass place line → row.entry ≡ Ok Nothing → InPass recorded pass fold (rows ++ row ∷ [])
pass-idle recorded First fold rows place line row p at idle again entry = record {
  name = p.name;
  active = p.active ∙ sym (append-nil (flat_map collected rows)) ∙ ap (λ xs. flat_map collected rows ++ xs) (sym (none-collected row (ap collects entry))) ∙ sym (collected-more rows row);
}
pass-idle recorded (Second before) fold rows place line row p at idle again entry = record {
  name = p.name;
  active = p.active;
  seen = λ i e.
      let b = row_of recorded entry_of (take place before) (record { pass = First; line = place }) line in
      let k : length (rows ++ row ∷ []) ≡ length rows + 1 = length-append rows (row ∷ []) in
      let i-is : i ≡ suc place = omega (arith, k, e, at) in
      let none : b.entry ≡ Ok Nothing = idle-entry recorded First (take place before) place line idle in
      let none-more : flat_map collected (take (suc place) before) ≡ flat_map collected (take place before) =
      ap (flat_map collected) (take-next before place b again) ∙ collected-more (take place before) b ∙ ap (λ xs. flat_map collected (take place before) ++ xs) (none-collected b (ap collects none)) ∙ append-nil _ in
      p.seen place at ∙ sym (ap length none-more) ∙ ap (λ m. length (flat_map collected (take m before))) (sym i-is);
}

-- the fold represents one more idle row
pub stands-idle : (recorded : Recorded) (pass : Pass) (fold : Fold) (rows : List LineRow) (blocks : Blocks) (place : ℕ) (line : Line) → FoldRepresents recorded pass fold rows blocks → length rows ≡ pass_start_of pass + place → IsIdleLine recorded place line → IsAgain recorded pass place line
    → ((next_row recorded pass rows place line).entry ≡ Ok Nothing) × FoldRepresents recorded pass fold (rows ++ next_row recorded pass rows place line ∷ []) blocks
unfolding next_row
stands-idle recorded pass fold rows blocks place line s at idle again =
    let row = next_row recorded pass rows place line in
    let entry : row.entry ≡ Ok Nothing = idle-entry recorded pass rows place line idle in (
      entry,
      record {
        original = s.original;
        keeps = rw (given-more rows row, gives-nothing row.active row.again row.entry (ap (entry_gives row.again) entry), append-nil (flat_map given rows)) s.keeps;
        applies = s.applies ∙ sym (marks-kept rows row pass blocks s.before);
        before = each-kept rows row pass blocks s.before;
        again = s.again ∙ sym (wants-more rows row ∙ ap (λ r. list_any wants_second rows || asks_again r) entry ∙ or-false (list_any wants_second rows));
        in_pass = pass-idle recorded pass fold rows place line row s.in_pass at idle again entry;
      },
    )

-- after idle lines
pub record Ahead (recorded : Recorded) (pass : Pass) (fold : Fold) (blocks : Blocks) (place : ℕ) (rest : List Line) (final start : List LineRow) : Type 0 where
  pub rows : List LineRow
  pub stands : FoldRepresents recorded pass fold rows blocks
  pub at : length rows ≡ pass_start_of pass + place
  pub none : refusal_in rows ≡ None
  pub final_is : rows_from recorded entry_of rows (record { pass = pass; line = place }) rest ≡ final
  pub again : AreAgain recorded pass place rest
  pub ran : commands rows ≡ commands start
  pub more : List LineRow
  pub begins : rows ≡ start ++ more

pub idle-many : (recorded : Recorded) (pass : Pass) (fold : Fold) (blocks : Blocks) (comments rest : List Line) (rows final : List LineRow) (place : ℕ) → FoldRepresents recorded pass fold rows blocks → length rows ≡ pass_start_of pass + place → refusal_in rows ≡ None
    → AreIdle recorded place comments → AreAgain recorded pass place (comments ++ rest) → rows_from recorded entry_of rows (record { pass = pass; line = place }) (comments ++ rest) ≡ final → Ahead recorded pass fold blocks (place + length comments) rest final rows
idle-many recorded pass fold blocks [] rest rows final place s at none idle again final-is =
    let z : place ≡ place + 0 = omega arith in
    record {
      rows = rows;
      stands = s;
      at = at ∙ ap (λ n. pass_start_of pass + n) z;
      none = none;
      final_is = ap (λ n. rows_from recorded entry_of rows (record { pass = pass; line = n }) rest) (sym z) ∙ final-is;
      again = subst (λ n. AreAgain recorded pass n rest) z again;
      ran = refl;
      more = [];
      begins = sym (append-nil rows);
    }
idle-many recorded pass fold blocks (l ∷ ls) rest rows final place s at none idle again final-is =
    let one = stands-idle recorded pass fold rows blocks place l s at idle.0 again.0 in
    let row = next_row recorded pass rows place l in
    let ok : is_refused row.entry ≡ false = ap is_refused one.0 in
    let k : length (rows ++ row ∷ []) ≡ length rows + 1 = length-append rows (row ∷ []) in
    let at' : length (rows ++ row ∷ []) ≡ pass_start_of pass + (place + 1) = omega (arith, k, at) in
    let more = idle-many recorded pass fold blocks ls rest (rows ++ row ∷ []) final (place + 1) one.1 at' (refusal-behind rows row none ∙ ok-none row.line row.entry ok) idle.1 again.1 (sym (rows-on recorded pass rows place l (ls ++ rest) ok) ∙ final-is) in
    let n : place + 1 + length ls ≡ place + suc (length ls) = omega arith in
    let same : commands (rows ++ row ∷ []) ≡ commands rows = idle-commands recorded pass rows place l idle.0 in
    let a = subst (λ m. Ahead recorded pass fold blocks m rest final (rows ++ row ∷ [])) n more in
    record {
      rows = a.rows;
      stands = a.stands;
      at = a.at;
      none = a.none;
      final_is = a.final_is;
      again = a.again;
      ran = a.ran ∙ same;
      more = row ∷ a.more;
      begins = a.begins ∙ append_assoc rows (row ∷ []) a.more;
    }
