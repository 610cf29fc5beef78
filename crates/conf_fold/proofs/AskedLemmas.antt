-- What a fold does with the lines of the command line.
use Rattle.std.proofs.Common.{◌≡◌, ℕ, ◌+◌, ◌<◌, Bool, true, false, ◌||◌, List, [], ◌∷◌, ◌++◌, length, map, drop, Option, Some, None, Ok, Err, refl, sym, ap, subst, ◌∙◌}
use Rattle.std.specs.Prelude.{flat_map, codes}
use Rattle.std.specs.List.{list_any}
use Rattle.std.proofs.lemmas.List.{append-nil, length-append, drop_more}
use Rattle.std.proofs.Math.ListN.{get_or}
use Rattle.conf_rules.specs.declared.key.Key.{Key}
use Rattle.conf_rules.specs.declared.key.Key.TheVariants as keys
use Rattle.conf_rules.specs.declared.asked.AskedLine.{AskedLine}
use Rattle.conf_rules.specs.declared.asked.AskedLine.TheVariants as asks
use Rattle.conf_rules.specs.declared.causes.Cause.{Cause}
use Rattle.conf_rules.specs.declared.causes.Cause.TheVariants as causes
use Rattle.conf_rules.specs.declared.causes.ResolveError.{ResolveError}
use Rattle.conf_rules.specs.declared.causes.ResolveError.TheVariants as resolve_errors
use Rattle.conf_rules.specs.declared.entry.LineContent.{LineContent}
use Rattle.conf_rules.specs.declared.entry.LineContent.TheVariants.{Nothing, Host, Match, Gives}
use Rattle.conf_rules.specs.declared.key_kind.KeyKind.{KeyKind}
use Rattle.conf_rules.specs.declared.key_kind.KeyKind.TheVariants as kinds
use Rattle.conf_rules.specs.Results.{as_error}
use Rattle.conf_rules.specs.Texts.{Bytes}
use Rattle.conf_rules.specs.Heads.{Heading, Comment, Says, head_of}
use Rattle.conf_rules.specs.Recorded.{Recorded}
use Rattle.conf_rules.specs.Includes.{CommandLine}
use Rattle.conf_rules.specs.Sources.{Line, Content, Spelled, Parts, Refused, asked_line}
use Rattle.conf_rules.specs.Rows.{LineRow, Pass, First, Second, LinePlace, given, entry_gives, value, word_in}
use Rattle.conf_rules.specs.Keywords.{meaning_of}
use Rattle.conf_rules.specs.Entries.{ReadEntry, SplitWords, split, entry_of, content_entry, headed_entry, keyword_entry}
use Rattle.conf_rules.specs.Resolution.{is_active, active_before, Effect, effect_of, no_block, line_within_limit, row_of, row_with, rows_from, first_place, is_refused, refusal_at, refusal_in, wants_second, asks_again, is_of_command_line}
use Rattle.conf_options.specs.Kept.{Given, KeepsSettings}
use Rattle.conf_fold.specs.declared.fold.Fold.{Fold}
use Rattle.conf_reader.specs.declared.errors.LineError.{LineError}
use Rattle.conf_reader.specs.declared.errors.LineError.TheVariants as line_errors
use Rattle.conf_reader.specs.Results.{RefusesLine}
use Rattle.conf_fold.specs.Results.{FailsLine}
use Rattle.conf_fold.specs.FoldRepresents.{FoldRepresents, next_row, value_of_key, collected}
use Rattle.conf_fold.specs.Begins.{asked_rows, IsEmpty, IsFoldBegun, asked_row, TakesAsked}
use Rattle.conf_fold.proofs.SeenLemmas.{setting-value}
use Rattle.conf_fold.proofs.EntryLemmas.{opens, bind-ok}
use Rattle.conf_fold.proofs.RowLemmas.{given-more, collected-more, wants-more, or-false}
use Rattle.conf_fold.proofs.OrderLemmas.{from, refusal-behind, some-refused, rows-on, rows-end, row-line, behind-ok}

-- ---- what a line of the command line is

pub asked-source : (l : AskedLine) → (asked_line l).source ≡ CommandLine
asked-source (asks.Line word line) = refl
asked-source (asks.Parts word keyword words) = refl

pub asked-blocks : (l : AskedLine) → (asked_line l).blocks ≡ []
asked-blocks (asks.Line word line) = refl
asked-blocks (asks.Parts word keyword words) = refl

pub asked-file : (l : AskedLine) → (asked_line l).file ≡ codes "command line"
asked-file (asks.Line word line) = refl
asked-file (asks.Parts word keyword words) = refl

-- ---- what it sends

unknown-plain : (t : Bool) (keyword : Bytes) (words : SplitWords) (e : LineContent) → Rattle.conf_rules.specs.Entries.unknown_entry t keyword words ≡ Ok e → opens e ≡ false
unfolding opens
unknown-plain true keyword words e h = let a = bind-ok words _ e h in let k : Nothing ≡ e = cc in sym (ap opens k)
unknown-plain false keyword words e h = absurd cc

keyword-plain : (ignored : Option Bytes) (keyword rest : Bytes) (words : SplitWords) (m : KeyKind) (e : LineContent) → keyword_entry ignored CommandLine keyword rest words m ≡ Ok e → opens e ≡ false
unfolding opens
keyword-plain ignored keyword rest words (kinds.Key key) e h =
    let a = bind-ok (Rattle.conf_rules.specs.Entries.key_words (Rattle.conf_rules.specs.Kinds.is_raw key) words) _ e h in
    let b = bind-ok (as_error causes.Value (Rattle.conf_rules.specs.Values.value_for key rest a.0)) _ e a.2 in
    let k : Gives key b.0 ≡ e = cc in sym (ap opens k)
keyword-plain ignored keyword rest words kinds.Host e h = absurd cc
keyword-plain ignored keyword rest words kinds.Match e h = absurd cc
keyword-plain ignored keyword rest words kinds.Include e h = absurd cc
keyword-plain ignored keyword rest words kinds.Unchecked e h = let k : Nothing ≡ e = cc in sym (ap opens k)
keyword-plain ignored keyword rest words kinds.Unknown e h = unknown-plain (Rattle.conf_rules.specs.Entries.takes_keyword ignored keyword) keyword words e h

heading-plain : (ignored : Option Bytes) (heading : Heading) (e : LineContent) → headed_entry ignored CommandLine heading ≡ Ok e → opens e ≡ false
unfolding opens
heading-plain ignored Comment e h = let k : Nothing ≡ e = cc in sym (ap opens k)
heading-plain ignored (Says keyword rest) e h = keyword-plain ignored keyword rest (split rest) (meaning_of keyword) e h

-- a line of the command line opens no block
pub content-plain : (ignored : Option Bytes) (content : Content) (e : LineContent) → content_entry ignored CommandLine content ≡ Ok e → opens e ≡ false
content-plain ignored (Spelled bytes) e h = let a = bind-ok (as_error causes.Lex (head_of bytes)) (headed_entry ignored CommandLine) e h in heading-plain ignored a.0 e a.2
content-plain ignored (Parts keyword words) e h = keyword-plain ignored keyword [] (Ok words) (meaning_of keyword) e h
content-plain ignored (Refused cause) e h = absurd cc

-- its content after rows
pub asked-says : (rows : List LineRow) (l : AskedLine) → entry_of rows (asked_line l) ≡ content_entry (word_in (value keys.IgnoreUnknown rows)) CommandLine (asked_line l).content
unfolding entry_of
asked-says rows l = ap (λ s. content_entry (word_in (value keys.IgnoreUnknown rows)) s (asked_line l).content) (asked-source l)

-- ---- its row

-- the row of a line of the command line, which is active
unfoldable pub asked_with : Line → Bool → Effect → LineRow
asked_with line again effect = row_with line true again effect

no-limit : (recorded : Recorded) (line : Line) (place : ℕ) → line.source ≡ CommandLine → Rattle.conf_rules.specs.Resolution.is_past_limit recorded line place ≡ false
no-limit recorded line place h = rw h refl

no-blocks : (rows : List LineRow) (pass : Pass) (line : Line) → line.blocks ≡ [] → is_active rows pass line ≡ true
no-blocks rows pass line h = rw h refl

pub asked-row-is : (recorded : Recorded) (pass : Pass) (rows : List LineRow) (place : ℕ) (l : AskedLine) → next_row recorded pass rows place (asked_line l) ≡ asked_with (asked_line l) (active_before pass place) (effect_of recorded pass rows true (entry_of rows (asked_line l)))
unfolding next_row row_of asked_with
asked-row-is recorded pass rows place l = rw (no-blocks rows pass (asked_line l) (asked-blocks l), no-limit recorded (asked_line l) place (asked-source l)) refl

plain-effect : (recorded : Recorded) (pass : Pass) (rows : List LineRow) (e : LineContent) → opens e ≡ false → effect_of recorded pass rows true (Ok e) ≡ no_block (Ok e)
unfolding opens
plain-effect recorded pass rows Nothing h = refl
plain-effect recorded pass rows (Gives key v) h = refl
plain-effect recorded pass rows (Host ps) h = absurd cc
plain-effect recorded pass rows (Match cs) h = absurd cc

-- the row of one that says this
pub asked-row-says : (recorded : Recorded) (pass : Pass) (rows : List LineRow) (place : ℕ) (l : AskedLine) (e : LineContent) → entry_of rows (asked_line l) ≡ Ok e
    → next_row recorded pass rows place (asked_line l) ≡ row_with (asked_line l) true (active_before pass place) (no_block (Ok e))
unfolding asked_with
asked-row-says recorded pass rows place l e h =
    let plain : opens e ≡ false = content-plain (word_in (value keys.IgnoreUnknown rows)) (asked_line l).content e (sym (asked-says rows l) ∙ h) in
    asked-row-is recorded pass rows place l ∙ ap (λ r. row_with (asked_line l) true (active_before pass place) (effect_of recorded pass rows true r)) h ∙ ap (row_with (asked_line l) true (active_before pass place)) (plain-effect recorded pass rows e plain)

-- one of the command line collects nothing for a second pass
pub asked-collected : (row : LineRow) (l : AskedLine) → row.line ≡ asked_line l → collected row ≡ []
asked-collected row l h =
    let is : is_of_command_line row.line.source ≡ true = ap (λ (x : Line). is_of_command_line x.source) h ∙ ap is_of_command_line (asked-source l) in
    rw is refl

pub plain-wants : (e : LineContent) → opens e ≡ false → asks_again (Ok e) ≡ false
unfolding opens
plain-wants Nothing h = refl
plain-wants (Gives key v) h = refl
plain-wants (Host ps) h = refl
plain-wants (Match cs) h = absurd cc

-- ---- one line

pub asked-taken : (recorded : Recorded) (fold new : Fold) (rows : List LineRow) (l : AskedLine) (e : LineContent) → FoldRepresents recorded First fold rows [] → content_entry (word_in (value_of_key keys.IgnoreUnknown fold)) CommandLine (asked_line l).content ≡ Ok e
    → ((gs : List Given) → KeepsSettings fold.settings gs → KeepsSettings new.settings (gs ++ entry_gives false (Ok e))) → new ≡ record fold { settings = new.settings }
    → TakesAsked recorded rows (asked_line l) (Ok tt) new
asked-taken recorded fold new rows l e s says keeps others =
    let here : entry_of rows (asked_line l) ≡ Ok e = asked-says rows l ∙ ap (λ v. content_entry (word_in v) CommandLine (asked_line l).content) (sym (setting-value recorded First fold rows [] keys.IgnoreUnknown s)) ∙ says in
    let plain : opens e ≡ false = content-plain (word_in (value_of_key keys.IgnoreUnknown fold)) (asked_line l).content e says in
    let row = asked_row recorded rows (asked_line l) in
    let is : row ≡ row_with (asked_line l) true false (no_block (Ok e)) = asked-row-says recorded First rows (length rows) l e here in
    let gives : given row ≡ entry_gives false (Ok e) = ap given is in (
      ap (λ (r : LineRow). is_refused r.entry) is,
      record {
        original = ap (λ (f : Fold). f.original) others ∙ s.original;
        keeps = rw (given-more rows row, gives) (keeps (flat_map given rows) s.keeps);
        applies = ap (λ (f : Fold). f.applies) others ∙ s.applies;
        before = tt;
        again = ap (λ (f : Fold). f.asks_again) others ∙ s.again ∙ sym (wants-more rows row ∙ ap (λ b. list_any wants_second rows || b) (ap wants_second is ∙ plain-wants e plain) ∙ or-false (list_any wants_second rows));
        in_pass = record {
          name = ap (λ (f : Fold). f.name) others ∙ s.in_pass.name;
          active = ap (λ (f : Fold). f.were_active) others ∙ s.in_pass.active ∙ sym (collected-more rows row ∙ ap (λ xs. flat_map collected rows ++ xs) (asked-collected row l (row-line recorded First rows (length rows) (asked_line l))) ∙ append-nil (flat_map collected rows));
        };
      },
    )

asked-refused-row : (recorded : Recorded) (rows : List LineRow) (l : AskedLine) (c : Cause) → entry_of rows (asked_line l) ≡ Err c → (asked_row recorded rows (asked_line l)).entry ≡ Err c
unfolding asked_with
asked-refused-row recorded rows l c h = ap (λ (r : LineRow). r.entry) (asked-row-is recorded First rows (length rows) l) ∙ ap (λ r. (effect_of recorded First rows true r).entry) h

pub asked-refused : (recorded : Recorded) (fold new : Fold) (rows : List LineRow) (l : AskedLine) (e : LineError) (number : ℕ) (d : ResolveError) → FoldRepresents recorded First fold rows [] → FailsLine e (content_entry (word_in (value_of_key keys.IgnoreUnknown fold)) CommandLine (asked_line l).content)
    → number ≡ (asked_line l).number → RefusesLine e (codes "command line") number d → TakesAsked recorded rows (asked_line l) (Err d) new
asked-refused recorded fold new rows l e number resolve_errors.OutOfMemory s f at r = tt
asked-refused recorded fold new rows l line_errors.OutOfMemory number (resolve_errors.At file n cause) s f at r = absurd cc
asked-refused recorded fold new rows l (line_errors.Refused c) number (resolve_errors.At file n cause) s f at r =
    let here : entry_of rows (asked_line l) ≡ Err c = asked-says rows l ∙ ap (λ v. content_entry (word_in v) CommandLine (asked_line l).content) (sym (setting-value recorded First fold rows [] keys.IgnoreUnknown s)) ∙ f in
    ap (refusal_at (asked_line l)) (asked-refused-row recorded rows l c here)
    ∙ ap (λ x. Some x) (ap (λ x. resolve_errors.At x (asked_line l).number c) (asked-file l) ∙ ap (λ x. resolve_errors.At (codes "command line") x c) (sym at) ∙ sym r)

-- ---- all of them

-- what a fold represents before some of them
pub record SoFar (recorded : Recorded) (fold : Fold) (lines : List AskedLine) : Type 0 where
  pub rows : List LineRow
  pub stands : FoldRepresents recorded First fold rows []
  pub none : refusal_in rows ≡ None
  pub is : from recorded First rows (length rows) (map asked_line lines) ≡ asked_rows recorded

pub begins : (recorded : Recorded) (fold : Fold) → IsEmpty recorded.asked.original fold → SoFar recorded fold recorded.asked.lines
begins recorded fold e = record {
  rows = [];
  stands = record {
    original = e.original_is;
    keeps = rw e.settings (record { each = λ key. nothing-kept (Rattle.conf_rules.specs.Kinds.keeping key) key });
    applies = e.applies;
    before = tt;
    again = e.again;
    in_pass = record { name = e.name; active = e.active };
  };
  none = refl;
  is = refl;
}
  where
    nothing-kept : (how : Rattle.conf_rules.specs.Kinds.Keeping) (key : Key) → Rattle.conf_rules.specs.Rows.values_among key [] ≡ Rattle.conf_rules.specs.Rows.kept_values how key []
    nothing-kept Rattle.conf_rules.specs.Kinds.TheFirst key = refl
    nothing-kept Rattle.conf_rules.specs.Kinds.Every key = refl
    nothing-kept Rattle.conf_rules.specs.Kinds.Patterns key = refl
    nothing-kept Rattle.conf_rules.specs.Kinds.Shared key = refl

pub goes-on : (recorded : Recorded) (fold new : Fold) (l : AskedLine) (ls : List AskedLine) → (s : SoFar recorded fold (l ∷ ls)) → TakesAsked recorded s.rows (asked_line l) (Ok tt) new → SoFar recorded new ls
goes-on recorded fold new l ls s t =
    let row = asked_row recorded s.rows (asked_line l) in
    let k : length (s.rows ++ row ∷ []) ≡ length s.rows + 1 = length-append s.rows (row ∷ []) in
    record {
      rows = s.rows ++ row ∷ [];
      stands = t.1;
      none = behind-ok recorded First s.rows (length s.rows) (asked_line l) s.none t.0;
      is = ap (λ n. from recorded First (s.rows ++ row ∷ []) n (map asked_line ls)) k ∙ sym (rows-on recorded First s.rows (length s.rows) (asked_line l) (map asked_line ls) t.0) ∙ s.is;
    }

pub stops : (recorded : Recorded) (fold new : Fold) (l : AskedLine) (ls : List AskedLine) (e : ResolveError) → (s : SoFar recorded fold (l ∷ ls)) → TakesAsked recorded s.rows (asked_line l) (Err e) new → IsFoldBegun recorded (Err e)
stops recorded fold new l ls resolve_errors.OutOfMemory s t = tt
stops recorded fold new l ls (resolve_errors.At file number cause) s t =
    let row = asked_row recorded s.rows (asked_line l) in
    let refused : is_refused row.entry ≡ true = some-refused (asked_line l) row.entry _ t in
    ap refusal_in (sym s.is ∙ rows-end recorded First s.rows (length s.rows) (asked_line l) (map asked_line ls) refused) ∙ refusal-behind s.rows row s.none
    ∙ ap (λ x. refusal_at x row.entry) (row-line recorded First s.rows (length s.rows) (asked_line l)) ∙ t

pub ends : (recorded : Recorded) (fold : Fold) → SoFar recorded fold [] → IsFoldBegun recorded (Ok fold)
unfolding rows_from
ends recorded fold s = (subst (λ rows. FoldRepresents recorded First fold rows []) s.is s.stands, ap refusal_in (sym s.is) ∙ s.none)

-- the next of some lines, and those after it
pub next-asked : (lines items : List AskedLine) (i : ℕ) (x : AskedLine) → items ≡ lines → i < length items → x ≡ get_or items i x → drop i lines ≡ x ∷ drop (i + 1) lines
next-asked lines items i x same low is =
    let here : x ≡ get_or lines i x = is ∙ ap (λ xs. get_or xs i x) same in
    drop_more lines i x (subst (λ xs. i < length xs) same low) ∙ ap (λ y. y ∷ drop (i + 1) lines) (sym here)
