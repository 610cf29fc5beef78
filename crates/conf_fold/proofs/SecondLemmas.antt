-- A second pass begins: the lines of the command line give nothing that counts again.
use Rattle.std.proofs.Common.{◌≡◌, suc, ◌+◌, Bool, true, false, cond, ◌||◌, List, [], ◌∷◌, ◌++◌, length, map, take, Option, Some, None, Result, Ok, Err, refl, sym, ap, subst, ◌∙◌, append_assoc, arith}
use Rattle.std.specs.Prelude.{flat_map}
use Rattle.std.specs.List.{list_any, slice_get}
use Rattle.std.proofs.lemmas.List.{append-nil, length-append}
use Rattle.std.proofs.lemmas.Grind.{flat_map-append}
use Rattle.conf_rules.specs.declared.key.Key.{Key}
use Rattle.conf_rules.specs.declared.key.Key.TheVariants as keys
use Rattle.conf_rules.specs.declared.value.Value.{Value}
use Rattle.conf_rules.specs.declared.value.Value.TheVariants.{Word}
use Rattle.conf_rules.specs.declared.asked.AskedLine.{AskedLine}
use Rattle.conf_rules.specs.declared.causes.Cause.{Cause}
use Rattle.conf_rules.specs.declared.causes.Cause.TheVariants as causes
use Rattle.conf_rules.specs.declared.entry.LineContent.{LineContent}
use Rattle.conf_rules.specs.declared.entry.LineContent.TheVariants.{Nothing, Host, Match, Gives}
use Rattle.conf_rules.specs.declared.key_kind.KeyKind.{KeyKind}
use Rattle.conf_rules.specs.declared.key_kind.KeyKind.TheVariants as kinds
use Rattle.conf_rules.specs.Results.{◌>>=◌, as_error}
use Rattle.conf_rules.specs.Texts.{Bytes}
use Rattle.conf_rules.specs.Heads.{Heading, Comment, Says, head_of}
use Rattle.conf_rules.specs.Recorded.{Recorded}
use Rattle.conf_rules.specs.Includes.{CommandLine}
use Rattle.conf_rules.specs.Sources.{Content, Spelled, Parts, Refused, asked_line}
use Rattle.conf_rules.specs.Kinds.{TheFirst}
use Rattle.conf_rules.specs.Keys.{same_key}
use Rattle.conf_rules.specs.Rows.{LineRow, First, Second, is_collected, given, entry_gives, kept_values, values, value, word_in}
use Rattle.conf_rules.specs.Keywords.{meaning_of}
use Rattle.conf_rules.specs.Entries.{SplitWords, split, entry_of, content_entry, headed_entry, keyword_entry}
use Rattle.conf_rules.specs.Resolution.{host_at, active_before, is_active_row, no_block, row_with, rows_from, first_place, is_refused, refusal_at, refusal_in, wants_second}
use Rattle.conf_options.specs.Kept.{Given, KeepsSettings}
use Rattle.conf_reader.specs.Blocks.{Blocks}
use Rattle.conf_rules.proofs.SameKeys.{same-key-refl}
use Rattle.conf_fold.specs.declared.fold.Fold.{Fold}
use Rattle.conf_fold.specs.FoldRepresents.{FoldRepresents, next_row, host_so_far, collected}
use Rattle.conf_fold.specs.Begins.{Behind, asked_again, SecondBegins}
use Rattle.conf_fold.proofs.AgainLemmas.{has_key, keeps-again, value-front}
use Rattle.conf_fold.proofs.BlockLemmas.{slice_get-next}
use Rattle.conf_fold.proofs.SeenLemmas.{host-same}
use Rattle.conf_fold.proofs.EntryLemmas.{opens}
use Rattle.conf_fold.proofs.RowLemmas.{given-more, wants-more, or-false}
use Rattle.conf_fold.proofs.OrderLemmas.{from, refusal-behind, ok-none, not-none, none-parts, rows-on, rows-end, row-line, from-front}
use Rattle.conf_fold.proofs.AskedLemmas.{asked_with, content-plain, asked-says, asked-row-is, asked-row-says, asked-collected, plain-wants}

-- ---- what a line of the command line says again

word-is : (v : Option Value) (p : Bytes) → word_in v ≡ Some p → v ≡ Some (Word p)
word-is (Some (Word text)) p e = let k : text ≡ p = cc in ap (λ x. Some (Word x)) k
word-is None p e = absurd cc
word-is (Some v) p e = absurd cc

-- patterns that were ignored stay ignored after more rows
ignored-front : (rows more : List LineRow) (p : Bytes) → word_in (value keys.IgnoreUnknown rows) ≡ Some p → word_in (value keys.IgnoreUnknown (rows ++ more)) ≡ Some p
unfolding values
ignored-front rows more p e =
    let here : value keys.IgnoreUnknown rows ≡ Some (Word p) = word-is (value keys.IgnoreUnknown rows) p e in
    let there : slice_get (kept_values TheFirst keys.IgnoreUnknown (flat_map given rows ++ flat_map given more)) 0 ≡ Some (Word p) = value-front TheFirst keys.IgnoreUnknown (flat_map given rows) (flat_map given more) (Word p) refl here in
    ap (λ gs. word_in (slice_get (kept_values TheFirst keys.IgnoreUnknown gs) 0)) (flat_map-append given rows more) ∙ ap word_in there

keyword-free : (j : Option Bytes) (keyword rest : Bytes) (words : SplitWords) (m : KeyKind) (e : LineContent) → keyword_entry None CommandLine keyword rest words m ≡ Ok e → keyword_entry j CommandLine keyword rest words m ≡ Ok e
keyword-free j keyword rest words kinds.Unknown e h = absurd cc
keyword-free j keyword rest words (kinds.Key key) e h = h
keyword-free j keyword rest words kinds.Host e h = h
keyword-free j keyword rest words kinds.Match e h = h
keyword-free j keyword rest words kinds.Include e h = h
keyword-free j keyword rest words kinds.Unchecked e h = h

heading-free : (j : Option Bytes) (h : Heading) (e : LineContent) → headed_entry None CommandLine h ≡ Ok e → headed_entry j CommandLine h ≡ Ok e
heading-free j Comment e h = h
heading-free j (Says keyword rest) e h = keyword-free j keyword rest (split rest) (meaning_of keyword) e h

spelled-free : (j : Option Bytes) (h : Result Heading Cause) (e : LineContent) → (h >>= headed_entry None CommandLine) ≡ Ok e → (h >>= headed_entry j CommandLine) ≡ Ok e
spelled-free j (Ok h) e k = heading-free j h e k
spelled-free j (Err c) e k = absurd cc

content-free : (j : Option Bytes) (content : Content) (e : LineContent) → content_entry None CommandLine content ≡ Ok e → content_entry j CommandLine content ≡ Ok e
content-free j (Spelled bytes) e h = spelled-free j (as_error causes.Lex (head_of bytes)) e h
content-free j (Parts keyword words) e h = keyword-free j keyword [] (Ok words) (meaning_of keyword) e h
content-free j (Refused cause) e h = absurd cc

-- a line of the command line that wasn't refused says the same after more rows
says-again : (rows more : List LineRow) (l : AskedLine) (e : LineContent) → entry_of rows (asked_line l) ≡ Ok e → entry_of (rows ++ more) (asked_line l) ≡ Ok e
says-again rows more l e h = asked-says (rows ++ more) l ∙ on (word_in (value keys.IgnoreUnknown rows)) refl (sym (asked-says rows l) ∙ h)
  where
    on : (i : Option Bytes) → word_in (value keys.IgnoreUnknown rows) ≡ i → content_entry (word_in (value keys.IgnoreUnknown rows)) CommandLine (asked_line l).content ≡ Ok e → content_entry (word_in (value keys.IgnoreUnknown (rows ++ more))) CommandLine (asked_line l).content ≡ Ok e
    on None is k = content-free (word_in (value keys.IgnoreUnknown (rows ++ more))) (asked_line l).content e (rw is at k)
    on (Some p) is k = ap (λ i. content_entry i CommandLine (asked_line l).content) (ignored-front rows more p is) ∙ (rw is at k)

-- ---- what it gives again

-- what an entry gives again changes nothing, where it gave it before
gives-again : (settings all : List Given) (e : LineContent) → ((key : Key) (v : Value) → e ≡ Gives key v → has_key key all ≡ true) → KeepsSettings settings all → KeepsSettings settings (all ++ entry_gives true (Ok e))
gives-again settings all Nothing has s = rw (append-nil all) s
gives-again settings all (Host ps) has s = rw (append-nil all) s
gives-again settings all (Match cs) has s = rw (append-nil all) s
gives-again settings all (Gives key v) has s = on (is_collected key) refl
  where
    on : (t : Bool) → is_collected key ≡ t → KeepsSettings settings (all ++ cond t [] ((key, v) ∷ []))
    on true h = rw (append-nil all) s
    on false h = keeps-again settings all key v h (has key v refl) s

has-behind : (key : Key) (xs ys : List Given) (v : Value) → has_key key (xs ++ (key, v) ∷ ys) ≡ true
has-behind key [] ys v = rw (same-key-refl key) refl
has-behind key (x ∷ xs) ys v = rw (has-behind key xs ys v) (or-true (same_key key x.0))
  where
    or-true : (b : Bool) → (b || true) ≡ true
    or-true true = refl
    or-true false = refl

-- ---- one line again

-- where a second pass stands among the lines of the command line
pub record Again (recorded : Recorded) (rows : List LineRow) (new : Fold) (done later extra : List LineRow) : Type 0 where
  pub parts : rows ≡ done ++ later
  pub idle : flat_map collected done ≡ []
  pub size : length extra ≡ length done
  pub stands : FoldRepresents recorded (Second rows) new (rows ++ extra) []
  pub none : refusal_in (rows ++ extra) ≡ None

abbrev first_row : Recorded → List LineRow → AskedLine → LineRow
first_row recorded done l = next_row recorded First done (length done) (asked_line l)

abbrev second_row : Recorded → List LineRow → List LineRow → AskedLine → LineRow
second_row recorded rows extra l = next_row recorded (Second rows) (rows ++ extra) (length extra) (asked_line l)

took : (r : Result LineContent Cause) → is_refused r ≡ false → (e : LineContent) × (r ≡ Ok e)
took (Ok e) h = (e, refl)
took (Err c) h = absurd cc

first-entry : (recorded : Recorded) (done : List LineRow) (l : AskedLine) → is_refused (first_row recorded done l).entry ≡ false → is_refused (entry_of done (asked_line l)) ≡ false
unfolding asked_with
first-entry recorded done l h = on (entry_of done (asked_line l)) refl
  where
    on : (r : Result LineContent Cause) → entry_of done (asked_line l) ≡ r → is_refused r ≡ false
    on (Ok e) is = refl
    on (Err c) is =
        let k : (first_row recorded done l).entry ≡ Err c = ap (λ (x : LineRow). x.entry) (asked-row-is recorded First done (length done) l) ∙ ap (λ r. (Rattle.conf_rules.specs.Resolution.effect_of recorded First done true r).entry) is in
        let b : false ≡ true = sym h ∙ ap is_refused k in absurd cc

one-again : (recorded : Recorded) (rows : List LineRow) (new : Fold) (done later extra : List LineRow) (l : AskedLine) → is_refused (first_row recorded done l).entry ≡ false → Again recorded rows new done (first_row recorded done l ∷ later) extra
    → (is_refused (second_row recorded rows extra l).entry ≡ false) × Again recorded rows new (done ++ first_row recorded done l ∷ []) later (extra ++ second_row recorded rows extra l ∷ [])
unfolding asked_with
one-again recorded rows new done later extra l ok a =
    let row = first_row recorded done l in
    let e = took (entry_of done (asked_line l)) (first-entry recorded done l ok) in
    let is : row ≡ row_with (asked_line l) true false (no_block (Ok e.0)) = asked-row-says recorded First done (length done) l e.0 e.1 in
    let whole : rows ++ extra ≡ done ++ (row ∷ later ++ extra) = ap (λ rs. rs ++ extra) a.parts ∙ append_assoc done (row ∷ later) extra in
    let says : entry_of (rows ++ extra) (asked_line l) ≡ Ok e.0 = ap (λ rs. entry_of rs (asked_line l)) whole ∙ says-again done (row ∷ later ++ extra) l e.0 e.1 in
    let other = second_row recorded rows extra l in
    let at : slice_get rows (length extra) ≡ Some row = ap (slice_get rows) a.size ∙ ap (λ rs. slice_get rs (length done)) a.parts ∙ slice_get-next done row later in
    let again : active_before (Second rows) (length extra) ≡ true = ap is_active_row at ∙ ap (λ (r : LineRow). r.active) is in
    let other-is : other ≡ row_with (asked_line l) true true (no_block (Ok e.0)) = asked-row-says recorded (Second rows) (rows ++ extra) (length extra) l e.0 says ∙ ap (λ t. row_with (asked_line l) true t (no_block (Ok e.0))) again in
    let gives : given other ≡ entry_gives true (Ok e.0) = ap given other-is in
    let had : flat_map given (rows ++ extra) ≡ flat_map given done ++ (given row ++ flat_map given (later ++ extra)) = ap (flat_map given) whole ∙ flat_map-append given done (row ∷ later ++ extra) in
    let has : (key : Key) (v : Value) → e.0 ≡ Gives key v → has_key key (flat_map given (rows ++ extra)) ≡ true =
    λ key v g. ap (has_key key) (had ∙ ap (λ xs. flat_map given done ++ (xs ++ flat_map given (later ++ extra))) (ap given is ∙ ap (λ x. entry_gives false (Ok x)) g)) ∙ has-behind key (flat_map given done) (flat_map given (later ++ extra)) v in
    let plain : opens e.0 ≡ false = content-plain (word_in (value keys.IgnoreUnknown done)) (asked_line l).content e.0 (sym (asked-says done l) ∙ e.1) in
    let okay : is_refused other.entry ≡ false = ap (λ (r : LineRow). is_refused r.entry) other-is in
    let s = a.stands in
    let behind : (rows ++ extra) ++ other ∷ [] ≡ rows ++ (extra ++ other ∷ []) = append_assoc rows extra (other ∷ []) in (
      okay,
      record {
        parts = a.parts ∙ sym (append_assoc done (row ∷ []) later);
        idle = Rattle.conf_fold.proofs.RowLemmas.collected-more done row ∙ ap (λ xs. xs ++ collected row) a.idle ∙ asked-collected row l (row-line recorded First done (length done) (asked_line l));
        size = length-append extra (other ∷ []) ∙ ap (λ n. n + 1) a.size ∙ sym (length-append done (row ∷ []));
        stands = subst (λ rs. FoldRepresents recorded (Second rows) new rs []) behind (record {
          original = s.original;
          keeps = rw (given-more (rows ++ extra) other, gives) (gives-again new.settings (flat_map given (rows ++ extra)) e.0 has s.keeps);
          applies = s.applies;
          before = tt;
          again = s.again ∙ sym (wants-more (rows ++ extra) other ∙ ap (λ b. list_any wants_second (rows ++ extra) || b) (ap wants_second other-is ∙ plain-wants e.0 plain) ∙ or-false (list_any wants_second (rows ++ extra)));
          in_pass = record {
            name = s.in_pass.name;
            active = s.in_pass.active;
            seen = λ i h.
                let n : length ((rows ++ extra) ++ other ∷ []) ≡ length (rows ++ extra) + 1 = length-append (rows ++ extra) (other ∷ []) in
                let m : length (rows ++ extra) ≡ length rows + length extra = length-append rows extra in
                let z = a.size in
                let i-is : i ≡ suc (length done) = omega (arith, n, m, h, z) in
                let before : length rows + length extra ≡ length rows + length done = ap (λ x. length rows + x) z in
                let old : new.seen ≡ 0 = s.in_pass.seen (length done) (m ∙ before) ∙ ap (λ rs. length (flat_map collected rs)) (ap (take (length done)) a.parts ∙ take-front done (row ∷ later)) ∙ ap length a.idle in
                let more : flat_map collected (done ++ row ∷ []) ≡ [] = Rattle.conf_fold.proofs.RowLemmas.collected-more done row ∙ ap (λ xs. xs ++ collected row) a.idle ∙ asked-collected row l (row-line recorded First done (length done) (asked_line l)) in
                let front : take i rows ≡ done ++ row ∷ [] = ap (λ x. take x rows) i-is ∙ ap (take (suc (length done))) a.parts ∙ take-one done row later in
                old ∙ sym (ap length (ap (flat_map collected) front ∙ more));
          };
        });
        none = ap refusal_in (sym behind) ∙ refusal-behind (rows ++ extra) other a.none ∙ ok-none other.line other.entry okay;
      },
    )
  where
    take-front : (xs ys : List LineRow) → take (length xs) (xs ++ ys) ≡ xs
    take-front [] ys = refl
    take-front (x ∷ xs) ys = ap (λ zs. x ∷ zs) (take-front xs ys)

    take-one : (xs : List LineRow) (y : LineRow) (ys : List LineRow) → take (suc (length xs)) (xs ++ y ∷ ys) ≡ xs ++ y ∷ []
    take-one [] y ys = refl
    take-one (x ∷ xs) y ys = ap (λ zs. x ∷ zs) (take-one xs y ys)

-- ---- all of them

refused-front : (recorded : Recorded) (rows done later extra : List LineRow) (new : Fold) (l : AskedLine) (ls : List AskedLine) → refusal_in rows ≡ None → rows ≡ from recorded First done (length done) (map asked_line (l ∷ ls)) ++ later
    → is_refused (first_row recorded done l).entry ≡ false
refused-front recorded rows done later extra new l ls none parts = on (is_refused (first_row recorded done l).entry) refl
  where
    on : (t : Bool) → is_refused (first_row recorded done l).entry ≡ t → t ≡ false
    on false h = refl
    on true h =
        let row = first_row recorded done l in
        let is : rows ≡ (done ++ row ∷ []) ++ later = parts ∙ ap (λ rs. rs ++ later) (rows-end recorded First done (length done) (asked_line l) (map asked_line ls) h) in
        let front : refusal_in (done ++ row ∷ []) ≡ None = (none-parts (done ++ row ∷ []) later (ap refusal_in (sym is) ∙ none)).0 in
        let low : refusal_in done ≡ None = (none-parts done (row ∷ []) front).0 in
        let here : refusal_at row.line row.entry ≡ None = sym (refusal-behind done row low) ∙ front in
        absurd (not-none row.line row.entry h here)

-- the parts of rows after one more line
next-later : (recorded : Recorded) (rows done later : List LineRow) (l : AskedLine) (ls : List AskedLine) → rows ≡ from recorded First done (length done) (map asked_line (l ∷ ls)) ++ later → is_refused (first_row recorded done l).entry ≡ false
    → rows ≡ from recorded First (done ++ first_row recorded done l ∷ []) (length (done ++ first_row recorded done l ∷ [])) (map asked_line ls) ++ later
next-later recorded rows done later l ls parts ok =
    let row = first_row recorded done l in
    let n : length (done ++ row ∷ []) ≡ length done + 1 = length-append done (row ∷ []) in
    parts ∙ ap (λ rs. rs ++ later) (rows-on recorded First done (length done) (asked_line l) (map asked_line ls) ok ∙ ap (λ m. from recorded First (done ++ row ∷ []) m (map asked_line ls)) (sym n))

pub all-again : (recorded : Recorded) (rows : List LineRow) (new : Fold) (ls : List AskedLine) (done extra rest later : List LineRow) → refusal_in rows ≡ None → rows ≡ from recorded First done (length done) (map asked_line ls) ++ later → Again recorded rows new done rest extra
    → FoldRepresents recorded (Second rows) new (from recorded (Second rows) (rows ++ extra) (length extra) (map asked_line ls)) [] × (refusal_in (from recorded (Second rows) (rows ++ extra) (length extra) (map asked_line ls)) ≡ None)
unfolding rows_from
all-again recorded rows new [] done extra rest later none parts a = (a.stands, a.none)
all-again recorded rows new (l ∷ ls) done extra rest later none parts a =
    let row = first_row recorded done l in
    let ok : is_refused row.entry ≡ false = refused-front recorded rows done later extra new l ls none parts in
    let parts' = next-later recorded rows done later l ls parts ok in
    let front = from-front recorded First (map asked_line ls) (done ++ row ∷ []) (length (done ++ row ∷ [])) in
    let rest-is : rows ≡ done ++ (row ∷ (front.0 ++ later)) = parts' ∙ ap (λ rs. rs ++ later) front.1 ∙ append_assoc (done ++ row ∷ []) front.0 later ∙ append_assoc done (row ∷ []) (front.0 ++ later) in
    let a' : Again recorded rows new done (row ∷ (front.0 ++ later)) extra = record { parts = rest-is; idle = a.idle; size = a.size; stands = a.stands; none = a.none } in
    let one = one-again recorded rows new done (front.0 ++ later) extra l ok a' in
    let other = second_row recorded rows extra l in
    let n : length (extra ++ other ∷ []) ≡ length extra + 1 = length-append extra (other ∷ []) in
    let step : from recorded (Second rows) (rows ++ extra) (length extra) (map asked_line (l ∷ ls)) ≡ from recorded (Second rows) (rows ++ (extra ++ other ∷ [])) (length (extra ++ other ∷ [])) (map asked_line ls) =
    rows-on recorded (Second rows) (rows ++ extra) (length extra) (asked_line l) (map asked_line ls) one.0
    ∙ ap (λ rs. from recorded (Second rows) rs (length extra + 1) (map asked_line ls)) (append_assoc rows extra (other ∷ []))
    ∙ ap (λ m. from recorded (Second rows) (rows ++ (extra ++ other ∷ [])) m (map asked_line ls)) (sym n) in
    let r = all-again recorded rows new ls (done ++ row ∷ []) (extra ++ other ∷ []) (front.0 ++ later) later none parts' one.1 in
    (subst (λ rs. FoldRepresents recorded (Second rows) new rs []) (sym step) r.0, ap refusal_in step ∙ r.1)

-- what a fold is where the second pass begins
abbrev pub again_of : Fold → Fold
again_of fold = record fold { name = Some (host_so_far fold); applies = []; seen = 0 }

pub second-begins : (recorded : Recorded) (old new : Fold) (rows : List LineRow) (blocks : Blocks) → FoldRepresents recorded First old rows blocks → Behind recorded rows → old.asks_again ≡ true → new ≡ again_of old → SecondBegins recorded rows new true
second-begins recorded old new rows blocks s b asks is =
    let z : rows ++ [] ≡ rows = append-nil rows in
    let start : Again recorded rows new [] rows [] = record {
      parts = refl;
      idle = refl;
      size = refl;
      stands = subst (λ rs. FoldRepresents recorded (Second rows) new rs []) (sym z) (record {
        original = ap (λ (f : Fold). f.original) is ∙ s.original;
        keeps = rw (ap (λ (f : Fold). f.settings) is) s.keeps;
        applies = ap (λ (f : Fold). f.applies) is;
        before = tt;
        again = ap (λ (f : Fold). f.asks_again) is ∙ s.again;
        in_pass = record {
          name = ap (λ (f : Fold). f.name) is ∙ ap (λ h. Some h) (host-same recorded First old rows blocks s);
          active = ap (λ (f : Fold). f.were_active) is ∙ s.in_pass.active;
          seen = λ i h. let k : i ≡ 0 = omega (arith, h) in ap (λ (f : Fold). f.seen) is ∙ sym (ap (λ n. length (flat_map collected (take n rows))) k);
        };
      });
      none = ap refusal_in z ∙ b.none;
    } in
    let r = all-again recorded rows new recorded.asked.lines [] [] rows b.later b.none b.parts start in
    let same : from recorded (Second rows) (rows ++ []) 0 (map asked_line recorded.asked.lines) ≡ asked_again recorded rows = ap (λ rs. from recorded (Second rows) rs 0 (map asked_line recorded.asked.lines)) z in
    (sym s.again ∙ asks, (subst (λ rs. FoldRepresents recorded (Second rows) new rs []) same r.0, ap refusal_in (sym same) ∙ r.1))
