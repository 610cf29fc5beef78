-- Where a failed read may be reported: at an Include line of rows that looks at its path, or at a
-- file that no line includes.
use Rattle.std.proofs.Common.{◌≡◌, ℕ, suc, ◌-◌, Bool, true, false, ◌&&◌, ◌||◌, List, [], ◌∷◌, ◌++◌, Some, refl, sym, ap, subst, ◌∙◌, ◌⊎◌, inl, inr}
use Rattle.std.specs.Prelude.{◌==◌, codes}
use Rattle.std.specs.List.{list_all, list_any, slice_get}
use Rattle.std.specs.Str.{bytes_eq}
use Rattle.std.proofs.Math.Bool.{or-true}
use Rattle.std.proofs.lemmas.Bool.{eq-eqb, eqb-true}
use Rattle.std.proofs.lemmas.List.Folds.{list_any-append}
use Rattle.std.proofs.lemmas.Slice.Eq.{bytes_eq-Decides}
use Rattle.conf_rules.specs.Texts.{Bytes, same_word}
use Rattle.conf_rules.specs.Recorded.{Recorded}
use Rattle.conf_rules.specs.Includes.{Source}
use Rattle.conf_rules.specs.Looks.{looks_at, looked_at}
use Rattle.conf_rules.specs.Sources.{Line}
use Rattle.conf_rules.specs.Rows.{LineRow}
use Rattle.conf_reader.specs.declared.line.ConfLine.{ConfLine}
use Rattle.conf_reader.specs.declared.stack.OpenFiles.{OpenFiles}
use Rattle.conf_reader.specs.declared.lines.FirstFile.{FirstFile}
use Rattle.conf_reader.specs.declared.lines.Lines.{Lines}
use Rattle.conf_reader.specs.Blocks.{Blocks, IsLine}
use Rattle.conf_reader.specs.Firsts.{firsts_of}
use Rattle.conf_reader.specs.Left.{source_of, stack}
use Rattle.conf_reader.specs.Looking.{to_look, meets_in, meets, firsts_meet, all_meet, line_meets}
use Rattle.conf_resolve.specs.Faults.{LooksFrom, IsFirstFault}

-- ---- lists

both : (a b : Bool) → (a && b) ≡ true → (a ≡ true) × (b ≡ true)
both true b e = (refl, e)
both false b e = absurd cc

either : (a b : Bool) → (a || b) ≡ true → (a ≡ true) ⊎ (b ≡ true)
either true b e = inl refl
either false b e = inr e

-- where one test implies another
all-more : {X : Type 0} (p q : X → Bool) (xs : List X) → ((x : X) → p x ≡ true → q x ≡ true) → list_all p xs ≡ true → list_all q xs ≡ true
all-more p q [] h e = refl
all-more p q (x ∷ xs) h e = let k = both (p x) (list_all p xs) e in rw (h x k.0) (all-more p q xs h k.1)

-- each of some is among them
all-among : {X : Type 0} (same : X → X → Bool) (all xs : List X) → ((x : X) → same x x ≡ true) → ((x : X) → list_any (same x) xs ≡ true → list_any (same x) all ≡ true) → list_all (λ x. list_any (same x) all) xs ≡ true
all-among same all [] self h = refl
all-among same all (x ∷ xs) self h = rw (h x (rw (self x) refl)) (all-among same all xs self (λ y e. h y (rw e (or-true (same y x)))))

found-next : {X : Type 0} (p : X → Bool) (x : X) (xs : List X) (t : Bool) → p x ≡ t → (p x || list_any p xs) ≡ true → (list_any p xs ≡ true → (at : ℕ) × ((y : X) × ((slice_get xs at ≡ Some y) × (p y ≡ true))))
    → (at : ℕ) × ((y : X) × ((slice_get (x ∷ xs) at ≡ Some y) × (p y ≡ true)))
found-next p x xs true h e later = (0, (x, (refl, h)))
found-next p x xs false h e later = let l = later (rw h at e) in (suc l.0, l.1)

-- the place of one that meets it
found : {X : Type 0} (p : X → Bool) (xs : List X) → list_any p xs ≡ true → (at : ℕ) × ((x : X) × ((slice_get xs at ≡ Some x) × (p x ≡ true)))
found p [] e = absurd cc
found p (x ∷ xs) e = found-next p x xs (p x) refl e (λ h. found p xs h)

same-path : (path : Bytes) → bytes_eq path path ≡ true
same-path path = (bytes_eq-Decides path path).1 refl

-- ---- the test

-- whether a row's line stands there and looks at this path
abbrev pub looks_from : Recorded → Bytes → ℕ → Bytes → LineRow → Bool
looks_from recorded file number path row = bytes_eq row.line.file file && ((row.line.number == number) && list_any (bytes_eq path) (looked_at row.line.source recorded row.line.content))

-- whether line 0 of a first file is meant, and its path
abbrev pub is_first : Bytes → ℕ → Bytes → FirstFile → Bool
is_first file number path f = bytes_eq f.path file && (bytes_eq f.path path && (number == 0))

-- whether a failed read of a path may be reported there, after these rows
pub may_record : Recorded → List LineRow → Bytes → ℕ → Bytes → Bool
may_record recorded rows file number path = list_any (looks_from recorded file number path) rows || list_any (is_first file number path) (firsts_of recorded.facts.home recorded.asked.from)

-- the place where it is reported
pub recorded-place : (recorded : Recorded) (rows : List LineRow) (file : Bytes) (number : ℕ) (path : Bytes) → may_record recorded rows file number path ≡ true → LooksFrom recorded rows file number path ⊎ IsFirstFault recorded file number path
unfolding may_record
recorded-place recorded rows file number path e = on (either (list_any (looks_from recorded file number path) rows) _ e)
  where
    on : ((list_any (looks_from recorded file number path) rows ≡ true) ⊎ (list_any (is_first file number path) (firsts_of recorded.facts.home recorded.asked.from) ≡ true)) → LooksFrom recorded rows file number path ⊎ IsFirstFault recorded file number path
    on (inl h) =
        let f = found (looks_from recorded file number path) rows h in
        let row = f.1.0 in
        let file-is = both (bytes_eq row.line.file file) _ f.1.1.1 in
        let number-is = both (row.line.number == number) _ file-is.1 in
        inl (record { at = f.0; row = row; is = f.1.1.0; looks = number-is.1; file_is = (bytes_eq-Decides row.line.file file).0 file-is.0; number_is = eqb-true row.line.number number number-is.0 })
    on (inr h) =
        let f = found (is_first file number path) (firsts_of recorded.facts.home recorded.asked.from) h in
        let first = f.1.0 in
        let file-is = both (bytes_eq first.path file) _ f.1.1.1 in
        let path-is = both (bytes_eq first.path path) _ file-is.1 in
        inr (record { at = f.0; first = first; is = f.1.1.0; path_is = (bytes_eq-Decides first.path path).0 path-is.0; file_is = (bytes_eq-Decides first.path file).0 file-is.0; number_is = eqb-true number 0 path-is.1 })

-- ---- after more rows

or-more : (a b c : Bool) → (a || c) ≡ true → ((a || b) || c) ≡ true
or-more true b c e = refl
or-more false b c e = rw e (or-true b)

more-recorded : (recorded : Recorded) (rows more : List LineRow) (file : Bytes) (number : ℕ) (path : Bytes) → may_record recorded rows file number path ≡ true → may_record recorded (rows ++ more) file number path ≡ true
unfolding may_record
more-recorded recorded rows more file number path e = rw (list_any-append (looks_from recorded file number path) rows more) (or-more (list_any (looks_from recorded file number path) rows) _ _ e)

pub meets-more : (recorded : Recorded) (rows more : List LineRow) (o : OpenFiles) → meets (may_record recorded rows) recorded o ≡ true → meets (may_record recorded (rows ++ more)) recorded o ≡ true
meets-more recorded rows more o e =
    all-more (meets_in (may_record recorded rows) recorded (source_of o.system)) (meets_in (may_record recorded (rows ++ more)) recorded (source_of o.system)) (stack o)
    (λ f h. all-more (may_record recorded rows f.path (f.number - 1)) (may_record recorded (rows ++ more) f.path (f.number - 1)) (to_look recorded (source_of o.system) f) (λ path k. more-recorded recorded rows more f.path (f.number - 1) path k) h) e

-- ---- first files

same_first : FirstFile → FirstFile → Bool
same_first f g = is_first f.path 0 f.path g

first-self : (f : FirstFile) → same_first f f ≡ true
unfolding same_first
first-self f = rw (same-path f.path) refl

first-recorded : (recorded : Recorded) (rows : List LineRow) (f : FirstFile) → list_any (same_first f) (firsts_of recorded.facts.home recorded.asked.from) ≡ true → may_record recorded rows f.path 0 f.path ≡ true
unfolding may_record same_first
first-recorded recorded rows f e = rw e (or-true (list_any (looks_from recorded f.path 0 f.path) rows))

firsts-recorded : (recorded : Recorded) (rows : List LineRow) (firsts : List FirstFile) → firsts ≡ firsts_of recorded.facts.home recorded.asked.from → firsts_meet (may_record recorded rows) firsts ≡ true
firsts-recorded recorded rows firsts e =
    all-more (λ f. list_any (same_first f) firsts) (λ f. may_record recorded rows f.path 0 f.path) firsts (λ f h. first-recorded recorded rows f (subst (λ fs. list_any (same_first f) fs ≡ true) e h))
    (all-among same_first firsts firsts first-self (λ f h. h))

-- all that a reader has still to look at
pub all-recorded : (recorded : Recorded) (rows : List LineRow) (r : Lines) → r.firsts.items ≡ firsts_of recorded.facts.home recorded.asked.from → meets (may_record recorded rows) recorded r.open_files ≡ true → all_meet (may_record recorded rows) recorded r ≡ true
all-recorded recorded rows r firsts e = rw e (firsts-recorded recorded rows r.firsts.items firsts)

-- ---- the row of a line that was given

own-recorded : (recorded : Recorded) (rows : List LineRow) (row : LineRow) (file : Bytes) (number : ℕ) (path : Bytes) → row.line.file ≡ file → row.line.number ≡ number → list_any (bytes_eq path) (looked_at row.line.source recorded row.line.content) ≡ true → may_record recorded (rows ++ row ∷ []) file number path ≡ true
unfolding may_record
own-recorded recorded rows row file number path f n h =
    rw (list_any-append (looks_from recorded file number path) rows (row ∷ []), (bytes_eq-Decides row.line.file file).1 f, eq-eqb row.line.number number n, h, or-true (list_any (looks_from recorded file number path) rows)) refl

pub line-recorded : (recorded : Recorded) (rows : List LineRow) (row : LineRow) (blocks : Blocks) (given : ConfLine) (line : Line) (source : Source) → row.line ≡ line → IsLine given blocks line → line.source ≡ source → line_meets (may_record recorded (rows ++ row ∷ [])) recorded source given ≡ true
line-recorded recorded rows row blocks given line source is l from = on (same_word given.keyword (codes "include")) refl
  where
    looked : same_word given.keyword (codes "include") ≡ true → looked_at row.line.source recorded row.line.content ≡ looks_at source recorded given.rest
    looked e = rw (is, l.spelled, l.says, e, from) refl

    on : (t : Bool) → same_word given.keyword (codes "include") ≡ t → line_meets (may_record recorded (rows ++ row ∷ [])) recorded source given ≡ true
    on false e = rw e refl
    on true e =
        rw e (all-more (λ path. list_any (bytes_eq path) (looks_at source recorded given.rest)) (may_record recorded (rows ++ row ∷ []) given.file given.number) (looks_at source recorded given.rest)
        (λ path h. own-recorded recorded rows row given.file given.number path (ap (λ (x : Line). x.file) is ∙ l.file) (ap (λ (x : Line). x.number) is ∙ l.number) (subst (λ ps. list_any (bytes_eq path) ps ≡ true) (sym (looked e)) h))
        (all-among bytes_eq (looks_at source recorded given.rest) (looks_at source recorded given.rest) same-path (λ path h. h)))

-- ---- the test that anything meets

pub any_place : Bytes → ℕ → Bytes → Bool
any_place file number path = true

all-true : {X : Type 0} (p : X → Bool) (xs : List X) → ((x : X) → p x ≡ true) → list_all p xs ≡ true
all-true p [] h = refl
all-true p (x ∷ xs) h = rw (h x) (all-true p xs h)

pub any-meets : (recorded : Recorded) (r : Lines) → all_meet any_place recorded r ≡ true
unfolding any_place
any-meets recorded r = rw (all-true (meets_in any_place recorded (source_of r.open_files.system)) (stack r.open_files) (λ f. all-true (any_place f.path (f.number - 1)) (to_look recorded (source_of r.open_files.system) f) (λ path. refl)))
    (all-true (λ (f : FirstFile). any_place f.path 0 f.path) r.firsts.items (λ f. refl))
