-- What a reader gives and a fold applies makes the rows of a pass.
use Rattle.std.proofs.Common.{◌≡◌, ℕ, zero, suc, ◌+◌, ◌≤◌, Bool, true, false, List, [], ◌∷◌, ◌++◌, length, take, Option, Some, None, Ok, Err, refl, sym, ap, subst, ◌∙◌, append_assoc, arith}
use Rattle.std.proofs.lemmas.List.{append-nil, length-append}
use Rattle.std.proofs.lemmas.Grind.{flat_map-append}
use Rattle.conf_rules.specs.declared.causes.Cause.{Cause}
use Rattle.conf_rules.specs.declared.causes.ResolveError.{ResolveError}
use Rattle.conf_rules.specs.declared.causes.ResolveError.TheVariants as errors
use Rattle.conf_rules.specs.Recorded.{Recorded}
use Rattle.conf_rules.specs.Diagnostics.{is_fault}
use Rattle.conf_rules.specs.Sources.{Line}
use Rattle.conf_rules.specs.Rows.{LineRow, Pass}
use Rattle.conf_rules.specs.Entries.{entry_of}
use Rattle.conf_rules.specs.Resolution.{pass_start_of, line_within_limit, is_active, effect_of, row_of, rows_from, is_refused, refusal_at, refusal_in}
use Rattle.conf_reader.specs.declared.line.ConfLine.{ConfLine}
use Rattle.conf_reader.specs.declared.lines.Lines.{Lines}
use Rattle.conf_reader.specs.Blocks.{Blocks, open_behind}
use Rattle.conf_reader.specs.Firsts.{firsts_of}
use Rattle.conf_reader.specs.Left.{lines_to_give, source_of, Bounded}
use Rattle.conf_reader.specs.Looking.{Test, meets, all_meet, line_meets}
use Rattle.conf_reader.specs.ReaderReads.{AreIdle, GivesNextLine, RefusesNextLine, ReaderReads}
use Rattle.conf_match.specs.Evaluated.{RanAll, RanSome}
use Rattle.conf_fold.specs.declared.fold.Fold.{Fold}
use Rattle.conf_fold.specs.Results.{RanUnless, breaks_off}
use Rattle.conf_fold.specs.FoldRepresents.{FoldRepresents, IsNextLine, next_row, Folds}
use Rattle.conf_fold.proofs.OrderLemmas.{from, refusal-behind, ok-none, some-refused, rows-on, rows-end, row-line, from-front}
use Rattle.conf_resolve.specs.PassGives.{Commands, commands, AreAgain, PassesRepresent, PassGives, final_rows, file_lines}
use Rattle.conf_resolve.proofs.IdleLemmas.{idle-many}
use Rattle.conf_resolve.proofs.IncludeLemmas.{may_record, meets-more, all-recorded, line-recorded}
use Rattle.conf_resolve.proofs.CommandLemmas.{commands-more, commands-quiet, refused-ran, ran-on, ran-some, ran-front}

-- ---- the steps of a pass

-- where a pass stands that began after these rows, with these commands run
pub record Underway (recorded : Recorded) (pass : Pass) (fold : Fold) (reader : Lines) (final first : List LineRow) (start now : Commands) : Type 0 where
  pub rows : List LineRow
  pub place : ℕ
  pub blocks : Blocks
  pub stands : FoldRepresents recorded pass fold rows blocks
  pub at : length rows ≡ pass_start_of pass + place
  pub none : refusal_in rows ≡ None
  pub count : place ≡ length recorded.asked.lines + reader.read
  pub bounded : Bounded reader.open_files (length blocks)
  pub final_is : rows_from recorded entry_of rows (record { pass = pass; line = place }) (lines_to_give recorded place blocks reader) ≡ final
  pub again : AreAgain recorded pass place (lines_to_give recorded place blocks reader)
  pub ran : (before : Commands) → RanAll before start (commands first) → RanAll before now (commands rows)
  pub looks : meets (may_record recorded rows) recorded reader.open_files ≡ true

take-size : (d : ℕ) (bs : Blocks) → d ≤ length bs → length (take d bs) ≡ d
take-size zero bs h = refl
take-size (suc d) [] h = absurd (omega (arith, h))
take-size (suc d) (b ∷ bs) h = ap suc (take-size d bs (omega (arith, h)))

-- how many blocks are open after a line
behind-length : (line : ConfLine) (place : ℕ) (bs : Blocks) → line.depth ≤ length bs → length (open_behind line place bs) ≡ line.depth + 1
behind-length line place bs h = length-append (take line.depth bs) (_ ∷ []) ∙ ap (λ n. n + 1) (take-size line.depth bs h)

-- a line that was given and taken
pub goes-on : (recorded : Recorded) (pass : Pass) (fold new : Fold) (old reader : Lines) (final : List LineRow) (first : List LineRow) (start now : Commands) (u : Underway recorded pass fold old final first start now) (line : ConfLine) → GivesNextLine recorded u.place u.blocks old reader line
    → ((rows : List LineRow) (place : ℕ) (l : Line) → FoldRepresents recorded pass fold rows u.blocks → IsNextLine recorded pass rows u.blocks line place l → Folds recorded pass rows u.blocks line place l (Ok tt) new)
    → Bounded reader.open_files (line.depth + 1) → line.depth ≤ length u.blocks → old.firsts.items ≡ firsts_of recorded.facts.home recorded.asked.from
    → ((test : Test) → all_meet test recorded old ≡ true → line_meets test recorded (source_of reader.open_files.system) line ≡ true → meets test recorded reader.open_files ≡ true) → (later : Commands)
    → ((rows : List LineRow) (place : ℕ) (l : Line) → FoldRepresents recorded pass fold rows u.blocks → IsNextLine recorded pass rows u.blocks line place l → RanAll now later (next_row recorded pass rows place l).ran)
    → Underway recorded pass new reader final first start later
goes-on recorded pass fold new old reader final first start now u line gives folds bounded deep firsts looks later runs =
    let place = u.place + length gives.comments in
    let rest = lines_to_give recorded (place + 1) (open_behind line place u.blocks) reader in
    let a = idle-many recorded pass fold u.blocks gives.comments (gives.line ∷ rest) u.rows final u.place u.stands u.at u.none gives.idle (subst (AreAgain recorded pass u.place) gives.is u.again) (ap (rows_from recorded entry_of u.rows (record { pass = pass; line = u.place })) (sym gives.is) ∙ u.final_is) in
    let next : IsNextLine recorded pass a.rows u.blocks line place gives.line = record { is_line = gives.is_line; at = a.at; within = gives.within; again = a.again.0 } in
    let f = folds a.rows place gives.line a.stands next in
    let row = next_row recorded pass a.rows place gives.line in
    let k : length (a.rows ++ row ∷ []) ≡ length a.rows + 1 = length-append a.rows (row ∷ []) in
    let h = a.at in
    let behind : u.rows ++ (a.more ++ row ∷ []) ≡ a.rows ++ row ∷ [] = sym (append_assoc u.rows a.more (row ∷ [])) ∙ ap (λ rs. rs ++ row ∷ []) (sym a.begins) in
    record {
      rows = a.rows ++ row ∷ [];
      place = place + 1;
      blocks = open_behind line place u.blocks;
      stands = f.1;
      at = omega (arith, k, h);
      none = refusal-behind a.rows row a.none ∙ ok-none row.line row.entry f.0;
      count = gives.count;
      bounded = subst (Bounded reader.open_files) (sym (behind-length line place u.blocks deep)) bounded;
      final_is = sym (rows-on recorded pass a.rows place gives.line rest f.0) ∙ a.final_is;
      again = a.again.1;
      ran = λ before r. subst (RanAll before later) (sym (commands-more a.rows row)) (ran-on before now later (commands a.rows) row.ran (subst (RanAll before now) (sym a.ran) (u.ran before r)) (runs a.rows place gives.line a.stands next));
      looks = looks (may_record recorded (a.rows ++ row ∷ []))
          (all-recorded recorded (a.rows ++ row ∷ []) old firsts (subst (λ rs. meets (may_record recorded rs) recorded old.open_files ≡ true) behind (meets-more recorded u.rows (a.more ++ row ∷ []) old.open_files u.looks)))
          (line-recorded recorded a.rows row u.blocks line gives.line (source_of reader.open_files.system) (row-line recorded pass a.rows place gives.line) gives.is_line gives.source);
    }

-- a line that was given and refused
pub line-refused : (recorded : Recorded) (pass : Pass) (fold new : Fold) (old reader : Lines) (final : List LineRow) (first : List LineRow) (start now : Commands) (u : Underway recorded pass fold old final first start now) (line : ConfLine) (file : List ℕ) (number : ℕ) (cause : Cause) → GivesNextLine recorded u.place u.blocks old reader line
    → ((rows : List LineRow) (place : ℕ) (l : Line) → FoldRepresents recorded pass fold rows u.blocks → IsNextLine recorded pass rows u.blocks line place l → Folds recorded pass rows u.blocks line place l (Err (errors.At file number cause)) new)
    → is_fault cause ≡ false → refusal_in final ≡ Some (errors.At file number cause)
line-refused recorded pass fold new old reader final first start now u line file number cause gives folds fault =
    let place = u.place + length gives.comments in
    let rest = lines_to_give recorded (place + 1) (open_behind line place u.blocks) reader in
    let a = idle-many recorded pass fold u.blocks gives.comments (gives.line ∷ rest) u.rows final u.place u.stands u.at u.none gives.idle (subst (AreAgain recorded pass u.place) gives.is u.again) (ap (rows_from recorded entry_of u.rows (record { pass = pass; line = u.place })) (sym gives.is) ∙ u.final_is) in
    let next : IsNextLine recorded pass a.rows u.blocks line place gives.line = record { is_line = gives.is_line; at = a.at; within = gives.within; again = a.again.0 } in
    let row = next_row recorded pass a.rows place gives.line in
    let says : refusal_at gives.line row.entry ≡ Some (errors.At file number cause) = folds a.rows place gives.line a.stands next fault in
    let refused : is_refused row.entry ≡ true = some-refused gives.line row.entry _ says in
    ap refusal_in (sym a.final_is ∙ rows-end recorded pass a.rows place gives.line rest refused) ∙ refusal-behind a.rows row a.none ∙ ap (λ l. refusal_at l row.entry) (row-line recorded pass a.rows place gives.line) ∙ says

refused-entry : (recorded : Recorded) (pass : Pass) (rows : List LineRow) (active : Bool) (c : Cause) → (effect_of recorded pass rows active (Err c)).entry ≡ Err c
refused-entry recorded pass rows true c = refl
refused-entry recorded pass rows false c = refl

row-refused : (recorded : Recorded) (pass : Pass) (rows : List LineRow) (place : ℕ) (line : Line) (c : Cause) → ((rows : List LineRow) → line_within_limit recorded entry_of rows line place ≡ Err c) → (next_row recorded pass rows place line).entry ≡ Err c
unfolding next_row row_of
row-refused recorded pass rows place line c refused = rw (refused rows) (refused-entry recorded pass rows (is_active rows pass line) c)

-- what a reader refuses
pub reader-refused : (recorded : Recorded) (pass : Pass) (fold : Fold) (old : Lines) (final : List LineRow) (first : List LineRow) (start now : Commands) (u : Underway recorded pass fold old final first start now) (file : List ℕ) (number : ℕ) (cause : Cause) → RefusesNextLine recorded u.place (lines_to_give recorded u.place u.blocks old) file number cause
    → refusal_in final ≡ Some (errors.At file number cause)
reader-refused recorded pass fold old final first start now u file number cause r =
    let place = u.place + length r.comments in
    let a = idle-many recorded pass fold u.blocks r.comments (r.line ∷ r.rest) u.rows final u.place u.stands u.at u.none r.idle (subst (AreAgain recorded pass u.place) r.is u.again) (ap (rows_from recorded entry_of u.rows (record { pass = pass; line = u.place })) (sym r.is) ∙ u.final_is) in
    let row = next_row recorded pass a.rows place r.line in
    let entry : row.entry ≡ Err cause = row-refused recorded pass a.rows place r.line cause r.refused in
    ap refusal_in (sym a.final_is ∙ rows-end recorded pass a.rows place r.line r.rest (ap is_refused entry)) ∙ refusal-behind a.rows row a.none
    ∙ ap (λ l. refusal_at l row.entry) (row-line recorded pass a.rows place r.line) ∙ ap (refusal_at r.line) entry
    ∙ ap (λ f. Some (errors.At f r.line.number cause)) r.file_is ∙ ap (λ n. Some (errors.At file n cause)) r.number_is

-- the end of all lines
pub all-given : (recorded : Recorded) (pass : Pass) (fold : Fold) (old : Lines) (final : List LineRow) (first : List LineRow) (start now : Commands) (u : Underway recorded pass fold old final first start now) → AreIdle recorded u.place (lines_to_give recorded u.place u.blocks old) → PassesRepresent recorded pass fold final
unfolding rows_from
all-given recorded pass fold old final first start now u idle =
    let all = lines_to_give recorded u.place u.blocks old in
    let a = idle-many recorded pass fold u.blocks all [] u.rows final u.place u.stands u.at u.none idle (subst (AreAgain recorded pass u.place) (sym (append-nil all)) u.again) (ap (rows_from recorded entry_of u.rows (record { pass = pass; line = u.place })) (append-nil all) ∙ u.final_is) in
    record { blocks = u.blocks; stands = subst (λ rows. FoldRepresents recorded pass fold rows u.blocks) a.final_is a.stands; none = ap refusal_in (sym a.final_is) ∙ a.none }

-- ---- as the code needs them

pub line-fails : (recorded : Recorded) (pass : Pass) (rows : List LineRow) (fold new : Fold) (old reader : Lines) (first : List LineRow) (start now : Commands) (u : Underway recorded pass fold old (final_rows recorded pass rows) first start now) (line : ConfLine) (e : ResolveError) → GivesNextLine recorded u.place u.blocks old reader line
    → ((rows : List LineRow) (place : ℕ) (l : Line) → FoldRepresents recorded pass fold rows u.blocks → IsNextLine recorded pass rows u.blocks line place l → Folds recorded pass rows u.blocks line place l (Err e) new)
    → PassGives recorded pass rows new (Err e)
line-fails recorded pass rows fold new old reader first start now u line errors.OutOfMemory gives folds = tt
line-fails recorded pass rows fold new old reader first start now u line (errors.At file number cause) gives folds = line-refused recorded pass fold new old reader (final_rows recorded pass rows) first start now u line file number cause gives folds

pub reader-fails : (recorded : Recorded) (pass : Pass) (rows : List LineRow) (fold : Fold) (old new : Lines) (first : List LineRow) (start now : Commands) (u : Underway recorded pass fold old (final_rows recorded pass rows) first start now) (e : ResolveError) → ReaderReads recorded u.place u.blocks old new (Err e) → PassGives recorded pass rows fold (Err e)
reader-fails recorded pass rows fold old new first start now u errors.OutOfMemory r = tt
reader-fails recorded pass rows fold old new first start now u (errors.At file number cause) r = λ fault. reader-refused recorded pass fold old (final_rows recorded pass rows) first start now u file number cause (r fault)

-- where no line is given, none is left
pub none-given : (recorded : Recorded) (place : ℕ) (blocks : Blocks) (old new : Lines) (v : Option ConfLine) → ((line : ConfLine) → v ≡ Some line → ⊥) → ReaderReads recorded place blocks old new (Ok v) → AreIdle recorded place (lines_to_give recorded place blocks old)
none-given recorded place blocks old new None n r = r
none-given recorded place blocks old new (Some line) n r = absurd (n line refl)

-- ---- commands

-- the commands of a row and of what may come after it
step-front : (recorded : Recorded) (pass : Pass) (rows : List LineRow) (place : ℕ) (line : Line) (rest : List Line)
    → (more : List (List ℕ)) × (commands (from recorded pass rows place (line ∷ rest)) ≡ (commands rows ++ (next_row recorded pass rows place line).ran) ++ more)
step-front recorded pass rows place line rest = on (is_refused (next_row recorded pass rows place line).entry) refl
  where
    on : (t : Bool) → is_refused (next_row recorded pass rows place line).entry ≡ t → (more : List (List ℕ)) × (commands (from recorded pass rows place (line ∷ rest)) ≡ (commands rows ++ (next_row recorded pass rows place line).ran) ++ more)
    on true h = ([], ap commands (rows-end recorded pass rows place line rest h) ∙ commands-more rows (next_row recorded pass rows place line) ∙ sym (append-nil (commands rows ++ (next_row recorded pass rows place line).ran)))
    on false h =
        let row = next_row recorded pass rows place line in
        let front = from-front recorded pass rest (rows ++ row ∷ []) (place + 1) in (
          commands front.0,
          ap commands (rows-on recorded pass rows place line rest h ∙ front.1) ∙ flat_map-append (λ r. r.ran) (rows ++ row ∷ []) front.0 ∙ ap (λ cs. cs ++ commands front.0) (commands-more rows row),
        )

-- a line that was given, and taken or refused
pub line-ran : (recorded : Recorded) (pass : Pass) (fold new : Fold) (old reader : Lines) (final first : List LineRow) (start now later before : Commands) (u : Underway recorded pass fold old final first start now) (line : ConfLine) (e : ResolveError) → GivesNextLine recorded u.place u.blocks old reader line
    → ((rows : List LineRow) (place : ℕ) (l : Line) → FoldRepresents recorded pass fold rows u.blocks → IsNextLine recorded pass rows u.blocks line place l → Folds recorded pass rows u.blocks line place l (Err e) new)
    → ((rows : List LineRow) (place : ℕ) (l : Line) → FoldRepresents recorded pass fold rows u.blocks → IsNextLine recorded pass rows u.blocks line place l → RanUnless (breaks_off {A = Unit {0}} (Err e)) now later (next_row recorded pass rows place l).ran)
    → RanAll before start (commands first) → RanUnless (breaks_off {A = Unit {0}} (Err e)) before later (commands final)
line-ran recorded pass fold new old reader final first start now later before u line e gives folds runs began =
    let place = u.place + length gives.comments in
    let rest = lines_to_give recorded (place + 1) (open_behind line place u.blocks) reader in
    let a = idle-many recorded pass fold u.blocks gives.comments (gives.line ∷ rest) u.rows final u.place u.stands u.at u.none gives.idle (subst (AreAgain recorded pass u.place) gives.is u.again) (ap (rows_from recorded entry_of u.rows (record { pass = pass; line = u.place })) (sym gives.is) ∙ u.final_is) in
    let next : IsNextLine recorded pass a.rows u.blocks line place gives.line = record { is_line = gives.is_line; at = a.at; within = gives.within; again = a.again.0 } in
    let row = next_row recorded pass a.rows place gives.line in
    let far : RanAll before now (commands a.rows) = subst (RanAll before now) (sym a.ran) (u.ran before began) in
    broken e line u.blocks a.rows place gives.line rest (folds a.rows place gives.line a.stands next) (runs a.rows place gives.line a.stands next) far (ap commands (sym a.final_is))
  where
    some : (rows : List LineRow) (at : ℕ) (l : Line) (rest : List Line) → RanAll before now (commands rows) → commands final ≡ commands (from recorded pass rows at (l ∷ rest)) → RanSome now later (next_row recorded pass rows at l).ran → RanSome before later (commands final)
    some rows at l rest far is r =
        let front = step-front recorded pass rows at l rest in
        subst (RanSome before later) (sym (is ∙ front.1)) (ran-some before now later (commands rows) (next_row recorded pass rows at l).ran front.0 far r)

    all : (rows : List LineRow) (at : ℕ) (l : Line) (rest : List Line) → RanAll before now (commands rows) → commands final ≡ commands (from recorded pass rows at (l ∷ rest)) → is_refused (next_row recorded pass rows at l).entry ≡ true → RanAll now later (next_row recorded pass rows at l).ran → RanAll before later (commands final)
    all rows at l rest far is refused r =
        subst (RanAll before later) (sym (is ∙ ap commands (rows-end recorded pass rows at l rest refused) ∙ commands-more rows (next_row recorded pass rows at l))) (ran-on before now later (commands rows) (next_row recorded pass rows at l).ran far r)

    by : (t : Bool) (file : List ℕ) (number : ℕ) (cause : Cause) (rows : List LineRow) (at : ℕ) (l : Line) (rest : List Line) → is_fault cause ≡ t → (is_fault cause ≡ false → refusal_at l (next_row recorded pass rows at l).entry ≡ Some (errors.At file number cause))
        → RanUnless t now later (next_row recorded pass rows at l).ran → RanAll before now (commands rows) → commands final ≡ commands (from recorded pass rows at (l ∷ rest)) → RanUnless t before later (commands final)
    by true file number cause rows at l rest h f r far is = some rows at l rest far is r
    by false file number cause rows at l rest h f r far is = all rows at l rest far is (some-refused l (next_row recorded pass rows at l).entry _ (f h)) r

    broken : (e : ResolveError) (given : ConfLine) (blocks : Blocks) (rows : List LineRow) (at : ℕ) (l : Line) (rest : List Line) → Folds recorded pass rows blocks given at l (Err e) new → RanUnless (breaks_off {A = Unit {0}} (Err e)) now later (next_row recorded pass rows at l).ran
        → RanAll before now (commands rows) → commands final ≡ commands (from recorded pass rows at (l ∷ rest)) → RanUnless (breaks_off {A = Unit {0}} (Err e)) before later (commands final)
    broken errors.OutOfMemory given blocks rows at l rest f r far is = some rows at l rest far is r
    broken (errors.At file number cause) given blocks rows at l rest f r far is = by (is_fault cause) file number cause rows at l rest refl f r far is

-- what a reader refuses, or its fault
pub reader-ran : (recorded : Recorded) (pass : Pass) (fold : Fold) (old new : Lines) (final first : List LineRow) (start now before : Commands) (u : Underway recorded pass fold old final first start now) (e : ResolveError) → ReaderReads recorded u.place u.blocks old new (Err e)
    → RanAll before start (commands first) → RanUnless (breaks_off {A = Unit {0}} (Err e)) before now (commands final)
reader-ran recorded pass fold old new final first start now before u e reads began = on e reads
  where
    some : RanSome before now (commands final)
    some =
        let front = from-front recorded pass (lines_to_give recorded u.place u.blocks old) u.rows u.place in
        let is : commands final ≡ commands u.rows ++ commands front.0 = ap commands (sym u.final_is ∙ front.1) ∙ flat_map-append (λ r. r.ran) u.rows front.0 in
        subst (RanSome before now) (sym is) (ran-front before now (commands u.rows) (commands front.0) (u.ran before began))

    all : (file : List ℕ) (number : ℕ) (cause : Cause) → RefusesNextLine recorded u.place (lines_to_give recorded u.place u.blocks old) file number cause → RanAll before now (commands final)
    all file number cause r =
        let place = u.place + length r.comments in
        let a = idle-many recorded pass fold u.blocks r.comments (r.line ∷ r.rest) u.rows final u.place u.stands u.at u.none r.idle (subst (AreAgain recorded pass u.place) r.is u.again) (ap (rows_from recorded entry_of u.rows (record { pass = pass; line = u.place })) (sym r.is) ∙ u.final_is) in
        let row = next_row recorded pass a.rows place r.line in
        let entry : row.entry ≡ Err cause = row-refused recorded pass a.rows place r.line cause r.refused in
        let is : final ≡ a.rows ++ row ∷ [] = sym a.final_is ∙ rows-end recorded pass a.rows place r.line r.rest (ap is_refused entry) in
        let quiet : commands final ≡ commands u.rows = ap commands is ∙ commands-quiet a.rows row (refused-ran recorded pass a.rows place r.line cause r.refused) ∙ a.ran in
        subst (RanAll before now) (sym quiet) (u.ran before began)

    by : (t : Bool) (file : List ℕ) (number : ℕ) (cause : Cause) → is_fault cause ≡ t → (is_fault cause ≡ false → RefusesNextLine recorded u.place (lines_to_give recorded u.place u.blocks old) file number cause) → RanUnless t before now (commands final)
    by true file number cause h r = some
    by false file number cause h r = all file number cause (r h)

    on : (e : ResolveError) → ReaderReads recorded u.place u.blocks old new (Err e) → RanUnless (breaks_off {A = Unit {0}} (Err e)) before now (commands final)
    on errors.OutOfMemory r = some
    on (errors.At file number cause) r = by (is_fault cause) file number cause refl r

-- the end of all lines
pub all-ran : (recorded : Recorded) (pass : Pass) (fold : Fold) (old : Lines) (final first : List LineRow) (start now before : Commands) (u : Underway recorded pass fold old final first start now) → AreIdle recorded u.place (lines_to_give recorded u.place u.blocks old)
    → RanAll before start (commands first) → RanAll before now (commands final)
unfolding rows_from
all-ran recorded pass fold old final first start now before u idle began =
    let all = lines_to_give recorded u.place u.blocks old in
    let a = idle-many recorded pass fold u.blocks all [] u.rows final u.place u.stands u.at u.none idle (subst (AreAgain recorded pass u.place) (sym (append-nil all)) u.again) (ap (rows_from recorded entry_of u.rows (record { pass = pass; line = u.place })) (append-nil all) ∙ u.final_is) in
    subst (RanAll before now) (sym a.ran ∙ ap commands a.final_is) (u.ran before began)

-- where nothing was read
pub start-ran : (recorded : Recorded) (pass : Pass) (rows : List LineRow) (before now : Commands) → RanAll before now (commands rows) → RanSome before now (commands (final_rows recorded pass rows))
start-ran recorded pass rows before now r =
    let front = from-front recorded pass (file_lines recorded) rows (length recorded.asked.lines) in
    let is : commands (final_rows recorded pass rows) ≡ commands rows ++ commands front.0 = ap commands front.1 ∙ flat_map-append (λ r. r.ran) rows front.0 in
    subst (RanSome before now) (sym is) (ran-front before now (commands rows) (commands front.0) r)
