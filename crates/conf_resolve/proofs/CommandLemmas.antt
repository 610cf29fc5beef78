-- The commands of rows.
use Rattle.std.proofs.Common.{◌≡◌, ℕ, ◌+◌, Bool, true, false, List, [], ◌∷◌, ◌++◌, map, Some, None, Result, Ok, Err, refl, sym, ap, ◌∙◌, append_assoc}
use Rattle.std.proofs.lemmas.List.{append-nil}
use Rattle.std.proofs.lemmas.Grind.{flat_map-append}
use Rattle.conf_rules.specs.declared.asked.AskedLine.{AskedLine}
use Rattle.conf_rules.specs.declared.causes.Cause.{Cause}
use Rattle.conf_rules.specs.declared.entry.LineContent.{LineContent}
use Rattle.conf_rules.specs.declared.entry.LineContent.TheVariants.{Nothing}
use Rattle.conf_rules.specs.Recorded.{Recorded}
use Rattle.conf_rules.specs.Sources.{Line, asked_line}
use Rattle.conf_rules.specs.Rows.{LineRow, Pass}
use Rattle.conf_rules.specs.Entries.{entry_of}
use Rattle.conf_rules.specs.Resolution.{line_within_limit, is_active, effect_of, row_of, rows_from, is_refused}
use Rattle.conf_match.specs.Evaluated.{RanAll, RanSome}
use Rattle.conf_reader.specs.ReaderReads.{IsIdleLine}
use Rattle.conf_fold.specs.FoldRepresents.{next_row}
use Rattle.conf_fold.proofs.AskedLemmas.{asked_with, asked-row-is, asked-row-says}
use Rattle.conf_fold.proofs.OrderLemmas.{from, rows-on, rows-end}
use Rattle.conf_resolve.specs.PassGives.{Commands, commands}

-- ---- one row

pub commands-more : (rows : List LineRow) (row : LineRow) → commands (rows ++ row ∷ []) ≡ commands rows ++ row.ran
commands-more rows row = flat_map-append (λ r. r.ran) rows (row ∷ []) ∙ ap (λ cs. commands rows ++ cs) (append-nil row.ran)

pub commands-quiet : (rows : List LineRow) (row : LineRow) → row.ran ≡ [] → commands (rows ++ row ∷ []) ≡ commands rows
commands-quiet rows row h = commands-more rows row ∙ ap (λ cs. commands rows ++ cs) h ∙ append-nil (commands rows)

idle-effect : (recorded : Recorded) (pass : Pass) (rows : List LineRow) (active : Bool) → (effect_of recorded pass rows active (Ok Nothing)).ran ≡ []
idle-effect recorded pass rows true = refl
idle-effect recorded pass rows false = refl

idle-ran : (recorded : Recorded) (pass : Pass) (rows : List LineRow) (place : ℕ) (line : Line) → IsIdleLine recorded place line → (next_row recorded pass rows place line).ran ≡ []
unfolding next_row row_of
idle-ran recorded pass rows place line idle = rw (idle rows) (idle-effect recorded pass rows (is_active rows pass line))

-- a line that says nothing runs nothing
pub idle-commands : (recorded : Recorded) (pass : Pass) (rows : List LineRow) (place : ℕ) (line : Line) → IsIdleLine recorded place line → commands (rows ++ next_row recorded pass rows place line ∷ []) ≡ commands rows
idle-commands recorded pass rows place line idle = commands-quiet rows (next_row recorded pass rows place line) (idle-ran recorded pass rows place line idle)

refused-effect : (recorded : Recorded) (pass : Pass) (rows : List LineRow) (active : Bool) (c : Cause) → (effect_of recorded pass rows active (Err c)).ran ≡ []
refused-effect recorded pass rows true c = refl
refused-effect recorded pass rows false c = refl

-- a line that the reader refuses runs nothing
pub refused-ran : (recorded : Recorded) (pass : Pass) (rows : List LineRow) (place : ℕ) (line : Line) (c : Cause) → ((rows : List LineRow) → line_within_limit recorded entry_of rows line place ≡ Err c) → (next_row recorded pass rows place line).ran ≡ []
unfolding next_row row_of
refused-ran recorded pass rows place line c refused = rw (refused rows) (refused-effect recorded pass rows (is_active rows pass line) c)

-- ---- the command line

asked-ran : (recorded : Recorded) (pass : Pass) (rows : List LineRow) (place : ℕ) (l : AskedLine) → (next_row recorded pass rows place (asked_line l)).ran ≡ []
unfolding asked_with
asked-ran recorded pass rows place l = on (entry_of rows (asked_line l)) refl
  where
    on : (r : Result LineContent Cause) → entry_of rows (asked_line l) ≡ r → (next_row recorded pass rows place (asked_line l)).ran ≡ []
    on (Ok e) is = ap (λ (x : LineRow). x.ran) (asked-row-says recorded pass rows place l e is)
    on (Err c) is = ap (λ (x : LineRow). x.ran) (asked-row-is recorded pass rows place l) ∙ ap (λ r. (effect_of recorded pass rows true r).ran) is ∙ refused-effect recorded pass rows true c

-- the lines of the command line run nothing
pub asked-quiet : (recorded : Recorded) (pass : Pass) (ls : List AskedLine) (rows : List LineRow) (place : ℕ) → commands (from recorded pass rows place (map asked_line ls)) ≡ commands rows
unfolding rows_from
asked-quiet recorded pass [] rows place = refl
asked-quiet recorded pass (l ∷ ls) rows place = on (is_refused (next_row recorded pass rows place (asked_line l)).entry) refl (asked-quiet recorded pass ls (rows ++ next_row recorded pass rows place (asked_line l) ∷ []) (place + 1))
  where
    quiet : commands (rows ++ next_row recorded pass rows place (asked_line l) ∷ []) ≡ commands rows
    quiet = commands-quiet rows (next_row recorded pass rows place (asked_line l)) (asked-ran recorded pass rows place l)

    on : (t : Bool) → is_refused (next_row recorded pass rows place (asked_line l)).entry ≡ t → commands (from recorded pass (rows ++ next_row recorded pass rows place (asked_line l) ∷ []) (place + 1) (map asked_line ls)) ≡ commands (rows ++ next_row recorded pass rows place (asked_line l) ∷ [])
        → commands (from recorded pass rows place (map asked_line (l ∷ ls))) ≡ commands rows
    on true h later = ap commands (rows-end recorded pass rows place (asked_line l) (map asked_line ls) h) ∙ quiet
    on false h later = ap commands (rows-on recorded pass rows place (asked_line l) (map asked_line ls) h) ∙ later ∙ quiet

-- ---- commands that were run

pub ran-nothing : (now : Commands) → RanAll now now []
ran-nothing None = refl
ran-nothing (Some cs) = ap (λ x. Some x) (sym (append-nil cs))

ran-joined : (o : Commands) (xs ys : List (List ℕ)) → Rattle.std.specs.Option.option_map (λ cs. cs ++ ys) (Rattle.std.specs.Option.option_map (λ cs. cs ++ xs) o) ≡ Rattle.std.specs.Option.option_map (λ cs. cs ++ (xs ++ ys)) o
ran-joined None xs ys = refl
ran-joined (Some cs) xs ys = ap (λ x. Some x) (append_assoc cs xs ys)

pub ran-on : (before now later : Commands) (xs ys : List (List ℕ)) → RanAll before now xs → RanAll now later ys → RanAll before later (xs ++ ys)
ran-on before now later xs ys h k = k ∙ ap (Rattle.std.specs.Option.option_map (λ cs. cs ++ ys)) h ∙ ran-joined before xs ys

-- a call that broke off, after others
pub ran-some : (before now later : Commands) (xs ys more : List (List ℕ)) → RanAll before now xs → RanSome now later ys → RanSome before later ((xs ++ ys) ++ more)
ran-some before now later xs ys more h r = record {
  done = xs ++ r.done;
  others = r.others ++ more;
  parts = ap (λ zs. (xs ++ zs) ++ more) r.parts ∙ parts xs r.done r.others more;
  ran = ran-on before now later xs r.done h r.ran;
}
  where
    parts : (ws xs ys zs : List (List ℕ)) → (ws ++ (xs ++ ys)) ++ zs ≡ (ws ++ xs) ++ (ys ++ zs)
    parts ws xs ys zs = append_assoc ws (xs ++ ys) zs ∙ ap (λ us. ws ++ us) (append_assoc xs ys zs) ∙ sym (append_assoc ws xs (ys ++ zs))

-- where more commands were to come
pub ran-front : (before now : Commands) (xs more : List (List ℕ)) → RanAll before now xs → RanSome before now (xs ++ more)
ran-front before now xs more h = record { done = xs; others = more; parts = refl; ran = h }

pub ran-longer : (before now : Commands) (xs more : List (List ℕ)) → RanSome before now xs → RanSome before now (xs ++ more)
ran-longer before now xs more r = record { done = r.done; others = r.others ++ more; parts = ap (λ zs. zs ++ more) r.parts ∙ append_assoc r.done r.others more; ran = r.ran }
