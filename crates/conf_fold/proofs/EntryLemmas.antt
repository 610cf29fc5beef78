-- What a given line says.
use Rattle.std.proofs.Common.{◌≡◌, ℕ, Bool, true, false, cond, ◌||◌, List, Option, Some, None, Result, Ok, Err, refl, sym, ap, ◌∙◌}
use Rattle.std.specs.Prelude.{codes}
use Rattle.std.specs.List.{list_any}
use Rattle.std.proofs.lemmas.Slice.Eq.{bytes_eq-Decides}
use Rattle.conf_rules.specs.declared.key.Key.{Key}
use Rattle.conf_rules.specs.declared.key.Key.TheVariants as keys
use Rattle.conf_rules.specs.declared.criterion.Criterion.{Criterion}
use Rattle.conf_rules.specs.declared.causes.Cause.{Cause}
use Rattle.conf_rules.specs.declared.causes.TokenError.{TokenError}
use Rattle.conf_rules.specs.declared.causes.Cause.TheVariants as causes
use Rattle.conf_rules.specs.declared.entry.LineContent.{LineContent}
use Rattle.conf_rules.specs.declared.entry.LineContent.TheVariants.{Nothing, Host, Match, Gives}
use Rattle.conf_rules.specs.Results.{◌>>=◌, as_error}
use Rattle.conf_rules.specs.Texts.{Bytes, same_word, lower}
use Rattle.conf_rules.specs.Heads.{Says}
use Rattle.conf_rules.specs.Recorded.{Recorded}
use Rattle.conf_rules.specs.Evaluation.{verdict}
use Rattle.conf_rules.specs.Includes.{Source, CommandLine, UserFile, SystemFile}
use Rattle.conf_rules.specs.Sources.{Line}
use Rattle.conf_rules.specs.Kinds.{keeping}
use Rattle.conf_rules.specs.Rows.{LineRow, Pass, is_collected, value, given, word_in}
use Rattle.conf_rules.specs.declared.key_kind.KeyKind.{KeyKind}
use Rattle.conf_rules.specs.declared.key_kind.KeyKind.TheVariants as kinds
use Rattle.conf_rules.specs.Keywords.{meaning_of}
use Rattle.conf_rules.specs.Entries.{ReadEntry, SplitWords, split, entry_of, keyword_entry, headed_entry, content_entry, in_file}
use Rattle.conf_rules.specs.Resolution.{seen_at, is_of_command_line, is_past_limit, line_within_limit, is_active, effect_of, tested, row_of}
use Rattle.conf_fold.specs.declared.fold.Fold.{Fold}
use Rattle.conf_reader.specs.declared.line.ConfLine.{ConfLine}
use Rattle.conf_reader.specs.Blocks.{Blocks, keyword_opens_block, IsLine}
use Rattle.conf_fold.specs.FoldRepresents.{collects, FoldRepresents, value_of_key, entry_so_far}
use Rattle.conf_fold.proofs.SeenLemmas.{setting-value}

-- ---- entries

pub in-any-file : (source : Source) (e : ReadEntry) → is_of_command_line source ≡ false → in_file source e ≡ in_file UserFile e
in-any-file CommandLine e h = absurd cc
in-any-file UserFile e h = refl
in-any-file SystemFile e h = refl

pub entry-any-file : (ignored : Option Bytes) (source : Source) (keyword rest : Bytes) (words : SplitWords) (m : KeyKind) → is_of_command_line source ≡ false → keyword_entry ignored source keyword rest words m ≡ keyword_entry ignored UserFile keyword rest words m
entry-any-file ignored source keyword rest words (kinds.Key key) h = refl
entry-any-file ignored source keyword rest words kinds.Host h = in-any-file source _ h
entry-any-file ignored source keyword rest words kinds.Match h = in-any-file source _ h
entry-any-file ignored source keyword rest words kinds.Include h = in-any-file source _ h
entry-any-file ignored source keyword rest words kinds.Unchecked h = refl
entry-any-file ignored source keyword rest words kinds.Unknown h = refl

-- the content of a given line after rows
pub line-says : (rows : List LineRow) (line : Line) (given : ConfLine) (blocks : Blocks) → IsLine given blocks line
    → entry_of rows line ≡ headed_entry (word_in (value keys.IgnoreUnknown rows)) UserFile (Says given.keyword given.rest)
unfolding entry_of
line-says rows line given blocks is =
    let ignored = word_in (value keys.IgnoreUnknown rows) in
    ap (content_entry ignored line.source) is.spelled
    ∙ ap (λ h. as_error causes.Lex h >>= headed_entry ignored line.source) is.says
    ∙ entry-any-file ignored line.source given.keyword given.rest (split given.rest) (meaning_of given.keyword) is.asked

pub entry-same : (recorded : Recorded) (pass : Pass) (fold : Fold) (rows : List LineRow) (blocks : Blocks) (line : Line) (given : ConfLine)
    → FoldRepresents recorded pass fold rows blocks → IsLine given blocks line → entry_of rows line ≡ entry_so_far fold given
unfolding entry_so_far
entry-same recorded pass fold rows blocks line given s is =
    line-says rows line given blocks is
    ∙ ap (λ v. headed_entry (word_in v) UserFile (Says given.keyword given.rest)) (sym (setting-value recorded pass fold rows blocks keys.IgnoreUnknown s))

-- whether an entry opens a block
unfoldable pub opens : LineContent → Bool
opens (Host patterns) = true
opens (Match criteria) = true
opens entry = false

-- ---- what opens a block

pub bind-ok : {A B E : Type 0} (r : Result A E) (f : A → Result B E) (b : B) → (r >>= f) ≡ Ok b → (a : A) × (r ≡ Ok a) × (f a ≡ Ok b)
bind-ok (Ok a) f b h = (a, refl, h)
bind-ok (Err e) f b h = absurd cc

-- whether a keyword's meaning is that of a block
unfoldable pub is_block : KeyKind → Bool
is_block kinds.Host = true
is_block kinds.Match = true
is_block m = false

pub host-meaning : (keyword : Bytes) → same_word keyword (codes "host") ≡ true → meaning_of keyword ≡ kinds.Host
unfolding meaning_of Rattle.conf_rules.specs.Keys.key_of Rattle.conf_rules.specs.Keywords.unchecked
host-meaning keyword same =
    let lowered : lower keyword ≡ lower (codes "host") = (bytes_eq-Decides (lower keyword) (lower (codes "host"))).0 same in
    rw lowered (rw lowered refl)

pub match-meaning : (keyword : Bytes) → same_word keyword (codes "match") ≡ true → meaning_of keyword ≡ kinds.Match
unfolding meaning_of Rattle.conf_rules.specs.Keys.key_of Rattle.conf_rules.specs.Keywords.unchecked
match-meaning keyword same =
    let lowered : lower keyword ≡ lower (codes "match") = (bytes_eq-Decides (lower keyword) (lower (codes "match"))).0 same in
    rw lowered (rw lowered refl)

pub besides : (keyword : Bytes) (k : Option Key) (i u : Bool) → is_block (elim k [ Some key ↦ kinds.Key key | None ↦ cond i kinds.Include (cond u kinds.Unchecked kinds.Unknown) ]) ≡ false
unfolding is_block
besides keyword (Some key) i u = refl
besides keyword None true u = refl
besides keyword None false true = refl
besides keyword None false false = refl

pub other-meaning : (keyword : Bytes) (k : Option Key) → same_word keyword (codes "host") ≡ false → same_word keyword (codes "match") ≡ false → is_block (Rattle.conf_rules.specs.Keywords.meaning_with k keyword) ≡ false
unfolding is_block
other-meaning keyword (Some key) h m = refl
other-meaning keyword None h m = rw (h, m) (besides keyword None (same_word keyword (codes "include")) (list_any (same_word keyword) Rattle.conf_rules.specs.Keywords.unchecked))

pub no-block : (keyword : Bytes) → same_word keyword (codes "host") ≡ false → same_word keyword (codes "match") ≡ false → is_block (meaning_of keyword) ≡ false
unfolding meaning_of
no-block keyword h m = other-meaning keyword (Rattle.conf_rules.specs.Keys.key_of keyword) h m

pub opens-by : (keyword : Bytes) (h m : Bool) → same_word keyword (codes "host") ≡ h → same_word keyword (codes "match") ≡ m → (h || m) ≡ is_block (meaning_of keyword)
unfolding is_block
opens-by keyword true m h k = sym (ap is_block (host-meaning keyword h))
opens-by keyword false true h k = sym (ap is_block (match-meaning keyword k))
opens-by keyword false false h k = sym (no-block keyword h k)

pub opens-meaning : (keyword : Bytes) → keyword_opens_block keyword ≡ is_block (meaning_of keyword)
opens-meaning keyword = opens-by keyword (same_word keyword (codes "host")) (same_word keyword (codes "match")) refl refl

pub said-opens : (ignored : Option Bytes) (keyword rest : Bytes) (words : SplitWords) (m : KeyKind) (e : LineContent) → keyword_entry ignored UserFile keyword rest words m ≡ Ok e → is_block m ≡ opens e
unfolding is_block opens
said-opens ignored keyword rest words (kinds.Key key) e h =
    let a = bind-ok (Rattle.conf_rules.specs.Entries.key_words (Rattle.conf_rules.specs.Kinds.is_raw key) words) _ e h in
    let b = bind-ok (as_error causes.Value (Rattle.conf_rules.specs.Values.value_for key rest a.0)) _ e a.2 in
    let k : Gives key b.0 ≡ e = cc in ap opens k
said-opens ignored keyword rest words kinds.Host e h = let a = bind-ok words _ e h in let k : Host a.0 ≡ e = cc in ap opens k
said-opens ignored keyword rest words kinds.Match e h =
    let a = bind-ok words _ e h in
    let b = bind-ok (as_error causes.Match (Rattle.conf_rules.specs.Criteria.read_criteria a.0)) _ e a.2 in
    let k : Match b.0 ≡ e = cc in ap opens k
said-opens ignored keyword rest words kinds.Include e h = let a = bind-ok words _ e h in let k : Nothing ≡ e = cc in ap opens k
said-opens ignored keyword rest words kinds.Unchecked e h = let k : Nothing ≡ e = cc in ap opens k
said-opens ignored keyword rest words kinds.Unknown e h = ignored-opens (Rattle.conf_rules.specs.Entries.takes_keyword ignored keyword) h
  where
    ignored-opens : (t : Bool) → Rattle.conf_rules.specs.Entries.unknown_entry t keyword words ≡ Ok e → false ≡ opens e
    ignored-opens true h = let a = bind-ok words _ e h in let k : Nothing ≡ e = cc in ap opens k
    ignored-opens false h = absurd cc

-- a line's keyword opens a block exactly where its content does
pub entry-opens : (fold : Fold) (l : ConfLine) (e : LineContent) → entry_so_far fold l ≡ Ok e → keyword_opens_block l.keyword ≡ opens e
unfolding entry_so_far
entry-opens fold l e h = opens-meaning l.keyword ∙ said-opens (word_in (value_of_key keys.IgnoreUnknown fold)) l.keyword l.rest (split l.rest) (meaning_of l.keyword) e h

-- ---- what collects

pub unknown-collects : (t : Bool) (keyword : Bytes) (words : SplitWords) → collects (Rattle.conf_rules.specs.Entries.unknown_entry t keyword words) ≡ false
unknown-collects true keyword (Ok ws) = refl
unknown-collects true keyword (Err c) = refl
unknown-collects false keyword words = refl

pub keyword-collects : (i j : Option Bytes) (keyword rest : Bytes) (words : SplitWords) (m : KeyKind) → collects (keyword_entry i UserFile keyword rest words m) ≡ collects (keyword_entry j UserFile keyword rest words m)
keyword-collects i j keyword rest words kinds.Unknown = unknown-collects (Rattle.conf_rules.specs.Entries.takes_keyword i keyword) keyword words ∙ sym (unknown-collects (Rattle.conf_rules.specs.Entries.takes_keyword j keyword) keyword words)
keyword-collects i j keyword rest words m = refl

-- a given line collects after any rows alike
pub line-collects : (rows others : List LineRow) (line : Line) (l : ConfLine) (blocks : Blocks) → IsLine l blocks line → collects (entry_of rows line) ≡ collects (entry_of others line)
line-collects rows others line l blocks is =
    ap collects (line-says rows line l blocks is)
    ∙ keyword-collects _ _ l.keyword l.rest (split l.rest) (meaning_of l.keyword)
    ∙ sym (ap collects (line-says others line l blocks is))

pub tested-collects : (h : Result Bool TokenError) (ran : List Bytes) (cs : List Criterion) → collects (tested (record { holds = h; ran = ran }) (Match cs)).entry ≡ false
tested-collects (Ok b) ran cs = refl
tested-collects (Err e) ran cs = refl

pub effect-collects : (recorded : Recorded) (pass : Pass) (rows : List LineRow) (active : Bool) (r : Result LineContent Cause) → collects (effect_of recorded pass rows active r).entry ≡ collects r
effect-collects recorded pass rows active (Err c) = elim active as (λ a. collects (effect_of recorded pass rows a (Err c)).entry ≡ false) [ true ↦ refl | false ↦ refl ]
effect-collects recorded pass rows active (Ok Nothing) = elim active as (λ a. collects (effect_of recorded pass rows a (Ok Nothing)).entry ≡ false) [ true ↦ refl | false ↦ refl ]
effect-collects recorded pass rows active (Ok (Gives k v)) = elim active as (λ a. collects (effect_of recorded pass rows a (Ok (Gives k v))).entry ≡ is_collected k) [ true ↦ refl | false ↦ refl ]
effect-collects recorded pass rows active (Ok (Host ps)) = elim active as (λ a. collects (effect_of recorded pass rows a (Ok (Host ps))).entry ≡ false) [ true ↦ refl | false ↦ refl ]
effect-collects recorded pass rows true (Ok (Match cs)) = tested-collects (verdict recorded.status (seen_at recorded pass rows) cs).holds _ cs
effect-collects recorded pass rows false (Ok (Match cs)) = refl

-- the row of a given line collects where the line does
pub row-collects : (recorded : Recorded) (pass : Pass) (rows : List LineRow) (place : ℕ) (line : Line) → is_past_limit recorded line place ≡ false
    → collects (row_of recorded entry_of rows (record { pass = pass; line = place }) line).entry ≡ collects (entry_of rows line)
unfolding row_of
row-collects recorded pass rows place line within =
    effect-collects recorded pass rows (is_active rows pass line) (line_within_limit recorded entry_of rows line place)
    ∙ ap collects (let k : line_within_limit recorded entry_of rows line place ≡ entry_of rows line = rw within refl in k)
