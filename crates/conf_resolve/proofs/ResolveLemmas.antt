-- All rows, from those of the command line and of files, in one pass or two.
use Rattle.std.proofs.Common.{◌≡◌, ℕ, ◌+◌, Bool, true, false, List, [], ◌∷◌, ◌++◌, length, map, take, Some, None, Result, Ok, Err, refl, sym, ap, subst, ◌∙◌, append_assoc, arith}
use Rattle.std.specs.Prelude.{flat_map}
use Rattle.std.specs.List.{list_any, slice_get}
use Rattle.std.proofs.lemmas.List.{append-nil, length-append, length-map}
use Rattle.std.proofs.lemmas.Grind.{flat_map-append}
use Rattle.conf_rules.specs.declared.causes.ResolveError.{ResolveError}
use Rattle.conf_rules.specs.declared.causes.ResolveError.TheVariants as errors
use Rattle.conf_rules.specs.Recorded.{Recorded}
use Rattle.conf_rules.specs.Diagnostics.{is_fault}
use Rattle.conf_rules.specs.Sources.{Line, asked_line, all_lines}
use Rattle.conf_rules.specs.Rows.{LineRow, Pass, First, Second, given}
use Rattle.conf_rules.specs.Entries.{entry_of}
use Rattle.conf_rules.specs.Resolution.{row_of, rows_from, rows_behind, rows_by, all_rows, is_refused, refuses, refusal_in, execs, wants_second}
use Rattle.conf_options.specs.Kept.{Given, KeepsSettings}
use Rattle.conf_match.specs.Evaluated.{RanAll, RanSome}
use Rattle.conf_reader.specs.declared.lines.Lines.{Lines}
use Rattle.conf_reader.specs.Left.{lines_to_give, Bounded}
use Rattle.conf_reader.specs.Looking.{Test, meets}
use Rattle.conf_fold.specs.declared.fold.Fold.{Fold}
use Rattle.conf_fold.specs.Results.{RanUnless, breaks_off}
use Rattle.conf_fold.specs.FoldRepresents.{FoldRepresents, next_row}
use Rattle.conf_fold.specs.Begins.{asked_rows, IsFoldBegun, Behind, asked_again, SecondBegins}
use Rattle.conf_fold.proofs.BlockLemmas.{slice_get-next}
use Rattle.conf_fold.proofs.OrderLemmas.{from, none-parts, rows-on, from-front}
use Rattle.conf_resolve.specs.PassGives.{Commands, commands, AreAgain, file_lines, PassBegins, PassGives, PassesRepresent, final_rows, first_rows, BothPass, Resolved}
use Rattle.conf_resolve.proofs.PartsLemmas.{none-refused, any-refused, ends-refused, rows-append, rows-stop, rows-length}
use Rattle.conf_resolve.proofs.CommandLemmas.{asked-quiet, ran-nothing, ran-front, ran-longer}
use Rattle.conf_resolve.proofs.IncludeLemmas.{may_record}
use Rattle.conf_resolve.proofs.PassLemmas.{Underway}

-- ---- the first pass

again-first : (recorded : Recorded) (place : ℕ) (lines : List Line) → AreAgain recorded First place lines
again-first recorded place [] = tt
again-first recorded place (l ∷ ls) = (tt, again-first recorded (place + 1) ls)

pub asked-length : (recorded : Recorded) → refusal_in (asked_rows recorded) ≡ None → length (asked_rows recorded) ≡ length recorded.asked.lines
asked-length recorded none = let k = rows-length recorded First (map asked_line recorded.asked.lines) [] 0 refl none in let n = length-map recorded.asked.lines asked_line in omega (arith, k, n)

pub first-begins : (recorded : Recorded) (fold : Fold) → FoldRepresents recorded First fold (asked_rows recorded) [] → refusal_in (asked_rows recorded) ≡ None → PassBegins recorded First fold (asked_rows recorded)
first-begins recorded fold s none = record {
  stands = s;
  at = let k = asked-length recorded none in omega (arith, k);
  none = none;
  again = again-first recorded _ _;
}

-- where a pass begins
pub underway : (recorded : Recorded) (pass : Pass) (fold : Fold) (reader : Lines) (rows : List LineRow) (start : Commands) → PassBegins recorded pass fold rows → lines_to_give recorded (length recorded.asked.lines) [] reader ≡ file_lines recorded → reader.read ≡ 0 → Bounded reader.open_files 0 → ((test : Test) (recorded : Recorded) → meets test recorded reader.open_files ≡ true)
    → Underway recorded pass fold reader (final_rows recorded pass rows) rows start start
underway recorded pass fold reader rows start b is read bounded looks = record {
  rows = rows;
  place = length recorded.asked.lines;
  blocks = [];
  stands = b.stands;
  at = b.at;
  none = b.none;
  count = omega (arith, read);
  bounded = bounded;
  final_is = ap (rows_from recorded entry_of rows (record { pass = pass; line = length recorded.asked.lines })) is;
  again = subst (AreAgain recorded pass (length recorded.asked.lines)) (sym is) b.again;
  ran = λ before r. r;
  looks = looks (may_record recorded rows) recorded;
}

-- the rows of all lines in a pass
pass-rows : (recorded : Recorded) (pass : Pass) (rows : List LineRow) → refusal_in rows ≡ None → refusal_in (from recorded pass rows 0 (map asked_line recorded.asked.lines)) ≡ None
    → final_rows recorded pass (from recorded pass rows 0 (map asked_line recorded.asked.lines)) ≡ from recorded pass rows 0 (all_lines recorded)
unfolding all_lines
pass-rows recorded pass rows none all =
    let n : 0 + length (map asked_line recorded.asked.lines) ≡ length recorded.asked.lines = let k = length-map recorded.asked.lines asked_line in omega (arith, k) in
    ap (λ m. from recorded pass (from recorded pass rows 0 (map asked_line recorded.asked.lines)) m (file_lines recorded)) (sym n)
    ∙ sym (rows-append recorded pass (map asked_line recorded.asked.lines) (file_lines recorded) rows 0 none all)

pub first-is : (recorded : Recorded) → refusal_in (asked_rows recorded) ≡ None → final_rows recorded First (asked_rows recorded) ≡ first_rows recorded
first-is recorded none = pass-rows recorded First [] refl none

-- ---- all rows

all-first : (recorded : Recorded) → list_any refuses (first_rows recorded) ≡ true → all_rows recorded ≡ first_rows recorded
unfolding all_rows rows_by rows_behind
all-first recorded h = rw h refl

all-once : (recorded : Recorded) → list_any refuses (first_rows recorded) ≡ false → list_any wants_second (first_rows recorded) ≡ false → all_rows recorded ≡ first_rows recorded
unfolding all_rows rows_by rows_behind
all-once recorded h w = rw (h, w) refl

all-twice : (recorded : Recorded) → list_any refuses (first_rows recorded) ≡ false → list_any wants_second (first_rows recorded) ≡ true → all_rows recorded ≡ from recorded (Second (first_rows recorded)) (first_rows recorded) 0 (all_lines recorded)
unfolding all_rows rows_by rows_behind
all-twice recorded h w = rw (h, w) refl

-- those of the first pass stand first
pub all-front : (recorded : Recorded) → (more : List LineRow) × (all_rows recorded ≡ first_rows recorded ++ more)
all-front recorded = on (list_any refuses (first_rows recorded)) refl (list_any wants_second (first_rows recorded)) refl
  where
    on : (r : Bool) → list_any refuses (first_rows recorded) ≡ r → (w : Bool) → list_any wants_second (first_rows recorded) ≡ w → (more : List LineRow) × (all_rows recorded ≡ first_rows recorded ++ more)
    on true h w k = ([], all-first recorded h ∙ sym (append-nil (first_rows recorded)))
    on false h false k = ([], all-once recorded h k ∙ sym (append-nil (first_rows recorded)))
    on false h true k = let front = from-front recorded (Second (first_rows recorded)) (all_lines recorded) (first_rows recorded) 0 in (front.0, all-twice recorded h k ∙ front.1)

-- ---- refusals

-- a refusal of the command line
asked-all : (recorded : Recorded) (e : ResolveError) → refusal_in (asked_rows recorded) ≡ Some e → all_rows recorded ≡ asked_rows recorded
unfolding all_lines
asked-all recorded e some =
    let same : first_rows recorded ≡ asked_rows recorded = rows-stop recorded First (map asked_line recorded.asked.lines) (file_lines recorded) [] 0 e refl some in
    all-first recorded (any-refused (first_rows recorded) e (ap refusal_in same ∙ some)) ∙ same

-- a refusal in the first pass
first-all : (recorded : Recorded) (e : ResolveError) → refusal_in (asked_rows recorded) ≡ None → refusal_in (final_rows recorded First (asked_rows recorded)) ≡ Some e → all_rows recorded ≡ first_rows recorded
first-all recorded e none some = all-first recorded (any-refused (first_rows recorded) e (ap refusal_in (sym (first-is recorded none)) ∙ some))

pub first-refused : (recorded : Recorded) (new : Fold) (e : ResolveError) → refusal_in (asked_rows recorded) ≡ None → PassGives recorded First (asked_rows recorded) new (Err e) → BothPass recorded new (Err e)
first-refused recorded new errors.OutOfMemory none p = tt
first-refused recorded new (errors.At file number cause) none p = λ fault.
    let some = p fault in
    ap refusal_in (first-all recorded _ none some) ∙ ap refusal_in (sym (first-is recorded none)) ∙ some

-- a fold that wasn't begun
pub begin-refused : (recorded : Recorded) (e : ResolveError) → IsFoldBegun recorded (Err e) → Resolved recorded (Err e)
begin-refused recorded errors.OutOfMemory b = tt
begin-refused recorded (errors.At file number cause) b = λ fault. ap refusal_in (asked-all recorded (errors.At file number cause) b) ∙ b

-- ---- after the first pass

pub first-stands : (recorded : Recorded) (new : Fold) → refusal_in (asked_rows recorded) ≡ None → PassesRepresent recorded First new (final_rows recorded First (asked_rows recorded)) → PassesRepresent recorded First new (first_rows recorded)
first-stands recorded new none s = subst (PassesRepresent recorded First new) (first-is recorded none) s

pub behind-asked : (recorded : Recorded) → refusal_in (asked_rows recorded) ≡ None → refusal_in (first_rows recorded) ≡ None → Behind recorded (first_rows recorded)
behind-asked recorded asked none =
    let front = from-front recorded First (file_lines recorded) (asked_rows recorded) (length recorded.asked.lines) in
    record { later = front.0; parts = sym (first-is recorded asked) ∙ front.1; none = none }

-- where no second one begins
pub once : (recorded : Recorded) (old new : Fold) → PassesRepresent recorded First old (first_rows recorded) → list_any wants_second (first_rows recorded) ≡ false → new ≡ old → BothPass recorded new (Ok tt)
once recorded old new s w same =
    let all : all_rows recorded ≡ first_rows recorded = all-once recorded (none-refused (first_rows recorded) s.none) w in
    (ap refusal_in all ∙ s.none, rw (all, same) s.stands.keeps)

-- ---- the second pass

take-front : (xs ys : List LineRow) → take (length xs) (xs ++ ys) ≡ xs
take-front [] ys = refl
take-front (x ∷ xs) ys = ap (λ zs. x ∷ zs) (take-front xs ys)

row-again : (recorded : Recorded) (rows full : List LineRow) (place : ℕ) (x : Line) → take place full ≡ rows → next_row recorded First rows place x ≡ row_of recorded entry_of (take place full) (record { pass = First; line = place }) x
unfolding next_row
row-again recorded rows full place x e = ap (λ rs. row_of recorded entry_of rs (record { pass = First; line = place }) x) (sym e)

-- each line of the first pass is given again
again-all : (recorded : Recorded) (full : List LineRow) (lines : List Line) (rows : List LineRow) (place : ℕ) → place ≡ length rows → refusal_in rows ≡ None → refusal_in full ≡ None → full ≡ from recorded First rows place lines → AreAgain recorded (Second full) place lines
unfolding rows_from
again-all recorded full [] rows place at none all is = tt
again-all recorded full (x ∷ xs) rows place at none all is = on (is_refused (next_row recorded First rows place x).entry) refl (again-all recorded full xs (rows ++ next_row recorded First rows place x ∷ []) (place + 1))
  where
    on : (t : Bool) → is_refused (next_row recorded First rows place x).entry ≡ t
        → (place + 1 ≡ length (rows ++ next_row recorded First rows place x ∷ []) → refusal_in (rows ++ next_row recorded First rows place x ∷ []) ≡ None → refusal_in full ≡ None → full ≡ from recorded First (rows ++ next_row recorded First rows place x ∷ []) (place + 1) xs → AreAgain recorded (Second full) (place + 1) xs)
        → AreAgain recorded (Second full) place (x ∷ xs)
    on true h more = absurd (ends-refused recorded First rows place x xs none h (ap refusal_in (sym is) ∙ all))
    on false h more =
        let row = next_row recorded First rows place x in
        let later : full ≡ from recorded First (rows ++ row ∷ []) (place + 1) xs = is ∙ rows-on recorded First rows place x xs h in
        let front = from-front recorded First xs (rows ++ row ∷ []) (place + 1) in
        let parts : full ≡ rows ++ (row ∷ front.0) = later ∙ front.1 ∙ append_assoc rows (row ∷ []) front.0 in
        let before : take place full ≡ rows = ap (λ n. take n full) at ∙ ap (take (length rows)) parts ∙ take-front rows (row ∷ front.0) in
        let here : slice_get full place ≡ Some row = ap (slice_get full) at ∙ ap (λ rs. slice_get rs (length rows)) parts ∙ slice_get-next rows row front.0 in
        let size : place + 1 ≡ length (rows ++ row ∷ []) = let k = length-append rows (row ∷ []) in omega (arith, at, k) in
        let low : refusal_in (rows ++ row ∷ []) ≡ None = (none-parts (rows ++ row ∷ []) front.0 (ap refusal_in (sym (later ∙ front.1)) ∙ all)).0 in
        (here ∙ ap (λ x. Some x) (row-again recorded rows full place x before), more size low all later)

-- the second pass begins
pub second-begins : (recorded : Recorded) (new : Fold) → refusal_in (asked_rows recorded) ≡ None → refusal_in (first_rows recorded) ≡ None → SecondBegins recorded (first_rows recorded) new true → PassBegins recorded (Second (first_rows recorded)) new (asked_again recorded (first_rows recorded))
second-begins recorded new asked none b = record {
  stands = b.1.0;
  at = let k = rows-length recorded (Second (first_rows recorded)) (map asked_line recorded.asked.lines) (first_rows recorded) 0 none b.1.1 in let n = length-map recorded.asked.lines asked_line in omega (arith, k, n);
  none = b.1.1;
  again = again-all recorded (first_rows recorded) (file_lines recorded) (asked_rows recorded) (length recorded.asked.lines) (sym (asked-length recorded asked)) asked none (sym (first-is recorded asked));
}

second-is : (recorded : Recorded) → refusal_in (first_rows recorded) ≡ None → refusal_in (asked_again recorded (first_rows recorded)) ≡ None → final_rows recorded (Second (first_rows recorded)) (asked_again recorded (first_rows recorded)) ≡ from recorded (Second (first_rows recorded)) (first_rows recorded) 0 (all_lines recorded)
second-is recorded none again = pass-rows recorded (Second (first_rows recorded)) (first_rows recorded) none again

pub twice-all : (recorded : Recorded) (mid : Fold) → refusal_in (first_rows recorded) ≡ None → SecondBegins recorded (first_rows recorded) mid true → final_rows recorded (Second (first_rows recorded)) (asked_again recorded (first_rows recorded)) ≡ all_rows recorded
twice-all recorded mid none b = second-is recorded none b.1.1 ∙ sym (all-twice recorded (none-refused (first_rows recorded) none) b.0)

pub twice : (recorded : Recorded) (old new mid : Fold) (r : Result (Unit {0}) ResolveError) → PassesRepresent recorded First old (first_rows recorded) → SecondBegins recorded (first_rows recorded) mid true → PassGives recorded (Second (first_rows recorded)) (asked_again recorded (first_rows recorded)) new r → BothPass recorded new r
twice recorded old new mid (Ok x) s b p =
    let all = twice-all recorded mid s.none b in
    (ap refusal_in (sym all) ∙ p.none, subst (λ rows. KeepsSettings new.settings (flat_map given rows)) all p.stands.keeps)
twice recorded old new mid (Err errors.OutOfMemory) s b p = tt
twice recorded old new mid (Err (errors.At file number cause)) s b p = λ fault. ap refusal_in (sym (twice-all recorded mid s.none b)) ∙ p fault

-- ---- commands

-- the command line alone runs nothing
pub asked-commands : (recorded : Recorded) → commands (asked_rows recorded) ≡ []
asked-commands recorded = asked-quiet recorded First recorded.asked.lines [] 0

pub asked-start : (recorded : Recorded) (start : Commands) → RanAll start start (commands (asked_rows recorded))
asked-start recorded start = subst (RanAll start start) (sym (asked-commands recorded)) (ran-nothing start)

pub begin-ran : (recorded : Recorded) (e : ResolveError) (now : Commands) → IsFoldBegun recorded (Err e) → RanUnless (breaks_off {A = Unit {0}} (Err e)) now now (execs recorded)
begin-ran recorded errors.OutOfMemory now b = ran-front now now [] (execs recorded) (ran-nothing now)
begin-ran recorded (errors.At file number cause) now b = on (is_fault cause)
  where
    none : execs recorded ≡ []
    none = ap commands (asked-all recorded (errors.At file number cause) b) ∙ asked-commands recorded

    on : (t : Bool) → RanUnless t now now (execs recorded)
    on true = ran-front now now [] (execs recorded) (ran-nothing now)
    on false = subst (RanAll now now) (sym none) (ran-nothing now)

first-more : (recorded : Recorded) (before now : Commands) → RanSome before now (commands (first_rows recorded)) → RanSome before now (execs recorded)
first-more recorded before now r =
    let front = all-front recorded in
    let is : execs recorded ≡ commands (first_rows recorded) ++ commands front.0 = ap commands front.1 ∙ flat_map-append (λ x. x.ran) (first_rows recorded) front.0 in
    subst (RanSome before now) (sym is) (ran-longer before now (commands (first_rows recorded)) (commands front.0) r)

pub first-broken : (recorded : Recorded) (before now : Commands) → refusal_in (asked_rows recorded) ≡ None → RanAll before now (commands (final_rows recorded First (asked_rows recorded))) → RanSome before now (execs recorded)
first-broken recorded before now none r =
    first-more recorded before now (record { done = commands (first_rows recorded); others = []; parts = sym (append-nil (commands (first_rows recorded))); ran = subst (λ rs. RanAll before now (commands rs)) (first-is recorded none) r })

pub first-ran : (recorded : Recorded) (new : Fold) (e : ResolveError) (before now : Commands) → refusal_in (asked_rows recorded) ≡ None → PassGives recorded First (asked_rows recorded) new (Err e)
    → RanUnless (breaks_off {A = Unit {0}} (Err e)) before now (commands (final_rows recorded First (asked_rows recorded))) → RanUnless (breaks_off {A = Unit {0}} (Err e)) before now (execs recorded)
first-ran recorded new errors.OutOfMemory before now none p r = first-more recorded before now (subst (λ rs. RanSome before now (commands rs)) (first-is recorded none) r)
first-ran recorded new (errors.At file number cause) before now none p r = on (is_fault cause) refl p r
  where
    on : (t : Bool) → is_fault cause ≡ t → (is_fault cause ≡ false → refusal_in (final_rows recorded First (asked_rows recorded)) ≡ Some (errors.At file number cause)) → RanUnless t before now (commands (final_rows recorded First (asked_rows recorded))) → RanUnless t before now (execs recorded)
    on true h p r = first-more recorded before now (subst (λ rs. RanSome before now (commands rs)) (first-is recorded none) r)
    on false h p r = subst (λ rs. RanAll before now (commands rs)) (first-is recorded none ∙ sym (first-all recorded _ none (p h))) r

pub once-ran : (recorded : Recorded) (old : Fold) (before now : Commands) → refusal_in (asked_rows recorded) ≡ None → PassesRepresent recorded First old (first_rows recorded) → list_any wants_second (first_rows recorded) ≡ false
    → RanAll before now (commands (final_rows recorded First (asked_rows recorded))) → RanAll before now (execs recorded)
once-ran recorded old before now none s w r =
    let all : all_rows recorded ≡ first_rows recorded = all-once recorded (none-refused (first_rows recorded) s.none) w in
    subst (λ rs. RanAll before now (commands rs)) (first-is recorded none ∙ sym all) r

-- what ran before the second pass
pub second-start : (recorded : Recorded) (before now : Commands) → refusal_in (asked_rows recorded) ≡ None → RanAll before now (commands (final_rows recorded First (asked_rows recorded))) → RanAll before now (commands (asked_again recorded (first_rows recorded)))
second-start recorded before now none r =
    let same : commands (asked_again recorded (first_rows recorded)) ≡ commands (first_rows recorded) = asked-quiet recorded (Second (first_rows recorded)) recorded.asked.lines (first_rows recorded) 0 in
    subst (RanAll before now) (ap commands (first-is recorded none) ∙ sym same) r

pub twice-ran : (recorded : Recorded) (mid : Fold) (b : Bool) (before now : Commands) → refusal_in (first_rows recorded) ≡ None → SecondBegins recorded (first_rows recorded) mid true → RanUnless b before now (commands (final_rows recorded (Second (first_rows recorded)) (asked_again recorded (first_rows recorded)))) → RanUnless b before now (execs recorded)
twice-ran recorded mid b before now none s r = subst (λ rs. RanUnless b before now (commands rs)) (twice-all recorded mid none s) r

-- ---- the end

-- the refusal of both passes is that of the resolution
pub over : (recorded : Recorded) (new : Fold) (e : ResolveError) → BothPass recorded new (Err e) → Resolved recorded (Err e)
over recorded new errors.OutOfMemory b = tt
over recorded new (errors.At file number cause) b = b

same-break : (e : ResolveError) → breaks_off {A = Unit {0}} (Err e) ≡ breaks_off {A = List Given} (Err e)
same-break errors.OutOfMemory = refl
same-break (errors.At file number cause) = refl

pub over-err : (e : ResolveError) (before now : Commands) (cs : List (List ℕ)) → RanUnless (breaks_off {A = Unit {0}} (Err e)) before now cs → RanUnless (breaks_off {A = List Given} (Err e)) before now cs
over-err e before now cs r = subst (λ b. RanUnless b before now cs) (same-break e) r
