-- Which commands a line runs, and where a fault comes from.
use Rattle.std.proofs.Common.{◌≡◌, ℕ, Bool, true, false, List, [], take, Option, Some, None, Result, Ok, Err, refl, sym, ap, subst, ◌∙◌}
use Rattle.std.specs.Prelude.{OnOk, OnErr}
use Rattle.std.specs.List.{list_all}
use Rattle.std.proofs.lemmas.List.{append-nil}
use Rattle.conf_rules.specs.declared.criterion.Criterion.{Criterion}
use Rattle.conf_rules.specs.declared.causes.Cause.{Cause}
use Rattle.conf_rules.specs.declared.causes.Cause.TheVariants as causes
use Rattle.conf_rules.specs.declared.causes.TokenError.{TokenError}
use Rattle.conf_rules.specs.declared.causes.ResolveError.{ResolveError}
use Rattle.conf_rules.specs.declared.causes.ResolveError.TheVariants as resolve_errors
use Rattle.conf_rules.specs.declared.entry.LineContent.{LineContent}
use Rattle.conf_rules.specs.declared.entry.LineContent.TheVariants.{Nothing, Host, Match, Gives}
use Rattle.conf_rules.specs.Texts.{Bytes}
use Rattle.conf_rules.specs.Recorded.{Recorded}
use Rattle.conf_rules.specs.Diagnostics.{is_fault}
use Rattle.conf_rules.specs.Evaluation.{verdict}
use Rattle.conf_rules.specs.Sources.{Line}
use Rattle.conf_rules.specs.Rows.{LineRow, Pass}
use Rattle.conf_rules.specs.Entries.{entry_of}
use Rattle.conf_rules.specs.Resolution.{seen_at, is_active, effect_of, tested}
use Rattle.conf_match.specs.Evaluated.{RanAll, RanSome, FailsOne}
use Rattle.conf_reader.specs.declared.line.ConfLine.{ConfLine}
use Rattle.conf_reader.specs.Blocks.{Blocks}
use Rattle.conf_fold.specs.declared.fold.Fold.{Fold}
use Rattle.conf_reader.specs.declared.errors.LineError.{LineError}
use Rattle.conf_reader.specs.declared.errors.LineError.TheVariants as line_errors
use Rattle.conf_reader.specs.Results.{RefusesLine, is_line_fault, resolve_error_at}
use Rattle.conf_rules.specs.Results.{as_error}
use Rattle.conf_fold.specs.Results.{RanUnless, breaks_line, breaks_off, FailsInLine, FailsAtLine, HasLineCause, HasRunCause, FailsLine}
use Rattle.conf_fold.specs.FoldRepresents.{FoldRepresents, IsNextLine, next_row, entry_so_far, fold_view_of}
use Rattle.conf_fold.proofs.SeenLemmas.{view-same}
use Rattle.conf_fold.proofs.EntryLemmas.{entry-same}
use Rattle.conf_fold.proofs.RowLemmas.{said, row-said}
use Rattle.conf_fold.proofs.FoldLemmas.{tests-active}
use Rattle.conf_fold.proofs.RefusedLemmas.{failing}

-- commands that were run, if they are recorded
abbrev pub Commands : Type 0
Commands = Option (List Bytes)

-- ---- no command

none-behind : (old : Commands) → RanAll old old []
none-behind None = refl
none-behind (Some cs) = ap (λ x. Some x) (sym (append-nil cs))

pub ran-none : (b : Bool) (old new : Commands) (commands : List Bytes) → commands ≡ [] → new ≡ old → RanUnless b old new commands
ran-none true old new commands h k = record { done = []; others = []; parts = h; ran = k ∙ none-behind old }
ran-none false old new commands h k = rw (h, k) (none-behind old)

-- a call that did what it had to, and broke off later
pub ran-weaker : (b c : Bool) (old new : Commands) (commands : List Bytes) → (b ≡ true → c ≡ true) → RanUnless b old new commands → RanUnless c old new commands
ran-weaker true true old new commands h r = r
ran-weaker true false old new commands h r = absurd (let k = h refl in cc)
ran-weaker false true old new commands h r = record { done = commands; others = []; parts = sym (append-nil commands); ran = r }
ran-weaker false false old new commands h r = r

-- ---- the commands of a row

-- what is no Match line runs nothing
pub effect-quiet : (recorded : Recorded) (pass : Pass) (rows : List LineRow) (active : Bool) (e : LineContent) → ((cs : List Criterion) → e ≡ Match cs → ⊥) → (effect_of recorded pass rows active (Ok e)).ran ≡ []
effect-quiet recorded pass rows true Nothing h = refl
effect-quiet recorded pass rows false Nothing h = refl
effect-quiet recorded pass rows true (Host ps) h = refl
effect-quiet recorded pass rows false (Host ps) h = refl
effect-quiet recorded pass rows true (Gives k v) h = refl
effect-quiet recorded pass rows false (Gives k v) h = refl
effect-quiet recorded pass rows active (Match cs) h = absurd (h cs refl)

pub quiet-row : (recorded : Recorded) (pass : Pass) (fold : Fold) (rows : List LineRow) (blocks : Blocks) (l : ConfLine) (place : ℕ) (line : Line) (e : LineContent)
    → FoldRepresents recorded pass fold rows blocks → IsNextLine recorded pass rows blocks l place line → entry_so_far fold l ≡ Ok e → ((cs : List Criterion) → e ≡ Match cs → ⊥) → (next_row recorded pass rows place line).ran ≡ []
unfolding said
quiet-row recorded pass fold rows blocks l place line e s n h other =
    let says : entry_of rows line ≡ Ok e = entry-same recorded pass fold rows blocks line l s n.is_line ∙ h in
    ap (λ (r : LineRow). r.ran) (row-said recorded pass rows blocks l place line e n says) ∙ effect-quiet recorded pass rows (is_active rows pass line) e other

tested-ran : (h : Result Bool TokenError) (ran : List Bytes) (cs : List Criterion) → (tested (record { holds = h; ran = ran }) (Match cs)).ran ≡ ran
tested-ran (Ok b) ran cs = refl
tested-ran (Err e) ran cs = refl

tests-run : (recorded : Recorded) (pass : Pass) (rows : List LineRow) (active : Bool) (cs : List Criterion) → active ≡ true → (effect_of recorded pass rows active (Ok (Match cs))).ran ≡ (verdict recorded.status (seen_at recorded pass rows) cs).ran
tests-run recorded pass rows true cs h = tested-ran (verdict recorded.status (seen_at recorded pass rows) cs).holds _ cs
tests-run recorded pass rows false cs h = absurd cc

tests-idle : (recorded : Recorded) (pass : Pass) (rows : List LineRow) (active : Bool) (cs : List Criterion) → active ≡ false → (effect_of recorded pass rows active (Ok (Match cs))).ran ≡ []
tests-idle recorded pass rows true cs h = absurd cc
tests-idle recorded pass rows false cs h = refl

-- a Match line runs what its criteria reach, where it is active
pub tests-ran : (recorded : Recorded) (pass : Pass) (fold : Fold) (rows : List LineRow) (blocks : Blocks) (l : ConfLine) (place : ℕ) (line : Line) (cs : List Criterion) (t b : Bool) (old new : Commands)
    → FoldRepresents recorded pass fold rows blocks → IsNextLine recorded pass rows blocks l place line → entry_so_far fold l ≡ Ok (Match cs) → t ≡ list_all (λ m. m) (take l.depth fold.applies)
    → (t ≡ true → RanUnless b old new (verdict recorded.status (fold_view_of fold recorded.facts) cs).ran) → (t ≡ false → new ≡ old)
    → RanUnless b old new (next_row recorded pass rows place line).ran
unfolding said
tests-ran recorded pass fold rows blocks l place line cs t b old new s n e a ran quiet =
    let says : entry_of rows line ≡ Ok (Match cs) = entry-same recorded pass fold rows blocks line l s n.is_line ∙ e in
    let active : is_active rows pass line ≡ t = tests-active recorded pass fold rows blocks line l cs s n.is_line e ∙ sym a in
    let row = ap (λ (r : LineRow). r.ran) (row-said recorded pass rows blocks l place line (Match cs) n says) in
    on t refl active row
  where
    on : (u : Bool) → t ≡ u → is_active rows pass line ≡ t → (next_row recorded pass rows place line).ran ≡ (effect_of recorded pass rows (is_active rows pass line) (Ok (Match cs))).ran → RanUnless b old new (next_row recorded pass rows place line).ran
    on true is active row =
        let commands : (verdict recorded.status (fold_view_of fold recorded.facts) cs).ran ≡ (next_row recorded pass rows place line).ran =
        ap (λ v. (verdict recorded.status v cs).ran) (view-same recorded pass fold rows blocks s) ∙ sym (row ∙ tests-run recorded pass rows (is_active rows pass line) cs (active ∙ is)) in
        subst (RanUnless b old new) commands (ran is)
    on false is active row = ran-none b old new _ (row ∙ tests-idle recorded pass rows (is_active rows pass line) cs (active ∙ is)) (quiet is)

refused-quiet : (recorded : Recorded) (pass : Pass) (rows : List LineRow) (active : Bool) (c : Cause) → (effect_of recorded pass rows active (Err c)).ran ≡ []
refused-quiet recorded pass rows true c = refl
refused-quiet recorded pass rows false c = refl

pub some-broken : (old new : Commands) (commands : List Bytes) → new ≡ old → RanSome old new commands
some-broken old new commands k = record { done = []; others = commands; parts = refl; ran = k ∙ none-behind old }

-- a line that says nothing that can be read runs nothing
pub refused-ran : (recorded : Recorded) (pass : Pass) (fold : Fold) (rows : List LineRow) (blocks : Blocks) (l : ConfLine) (place : ℕ) (line : Line) (e : LineError) (old new : Commands)
    → FoldRepresents recorded pass fold rows blocks → IsNextLine recorded pass rows blocks l place line → FailsLine e (entry_so_far fold l) → new ≡ old → RanUnless (breaks_line {A = Unit {0}} (Err e)) old new (next_row recorded pass rows place line).ran
unfolding next_row Rattle.conf_rules.specs.Resolution.row_of
refused-ran recorded pass fold rows blocks l place line line_errors.OutOfMemory old new s n f k = some-broken old new _ k
refused-ran recorded pass fold rows blocks l place line (line_errors.Refused c) old new s n f k =
    let says : entry_of rows line ≡ Err c = entry-same recorded pass fold rows blocks line l s n.is_line ∙ f in
    ran-none (is_fault c) old new _ (rw (n.within, says) (refused-quiet recorded pass rows (is_active rows pass line) c)) k

-- ---- a command that could not be run

-- an evaluation's error as that of its line, at the same commands
failed-in : (e : LineError) (old new : Commands) (a b : List Bytes) → a ≡ b → FailsInLine {A = Bool} (Err e) old new a → FailsInLine {A = Unit {0}} (Err e) old new b
failed-in line_errors.OutOfMemory old new a b h f = tt
failed-in (line_errors.Refused causes.RunFault) old new a b h f = subst (FailsOne old new) h f
failed-in (line_errors.Refused c) old new a b h f = tt

-- where the runner failed at a Match line, it failed at one of the commands of its row
pub tests-broken : (recorded : Recorded) (pass : Pass) (fold : Fold) (rows : List LineRow) (blocks : Blocks) (l : ConfLine) (place : ℕ) (line : Line) (cs : List Criterion) (e : LineError) (t : Bool) (old new : Commands)
    → FoldRepresents recorded pass fold rows blocks → IsNextLine recorded pass rows blocks l place line → entry_so_far fold l ≡ Ok (Match cs) → t ≡ list_all (λ m. m) (take l.depth fold.applies)
    → (t ≡ true → FailsInLine {A = Bool} (Err e) old new (verdict recorded.status (fold_view_of fold recorded.facts) cs).ran) → (t ≡ false → failing e ≡ Ok false)
    → FailsInLine {A = Unit {0}} (Err e) old new (next_row recorded pass rows place line).ran
unfolding said
tests-broken recorded pass fold rows blocks l place line cs e false old new s n h a failed idle = absurd (let k = idle refl in cc)
tests-broken recorded pass fold rows blocks l place line cs e true old new s n h a failed idle =
    let says : entry_of rows line ≡ Ok (Match cs) = entry-same recorded pass fold rows blocks line l s n.is_line ∙ h in
    let active : is_active rows pass line ≡ true = tests-active recorded pass fold rows blocks line l cs s n.is_line h ∙ sym a in
    let row = ap (λ (r : LineRow). r.ran) (row-said recorded pass rows blocks l place line (Match cs) n says) in
    let commands : (verdict recorded.status (fold_view_of fold recorded.facts) cs).ran ≡ (next_row recorded pass rows place line).ran =
    ap (λ v. (verdict recorded.status v cs).ran) (view-same recorded pass fold rows blocks s) ∙ sym (row ∙ tests-run recorded pass rows (is_active rows pass line) cs active) in
    failed-in e old new _ _ commands (failed refl)

-- the same of a refusal with its place
placed-failed : (c : Cause) (file : Bytes) (number : ℕ) (old new : Commands) (commands : List Bytes) → FailsInLine {A = Unit {0}} (Err (line_errors.Refused c)) old new commands → FailsAtLine {A = Unit {0}} file number (Err (resolve_errors.At file number c)) old new commands
placed-failed causes.RunFault file number old new commands f = (refl, (refl, f))
placed-failed c file number old new commands f = tt

pub failed-placed : (e : LineError) (file : Bytes) (number : ℕ) (d : ResolveError) (old new : Commands) (commands : List Bytes) → RefusesLine e file number d → FailsInLine {A = Unit {0}} (Err e) old new commands → FailsAtLine {A = Unit {0}} file number (Err d) old new commands
failed-placed e file number resolve_errors.OutOfMemory old new commands r f = tt
failed-placed line_errors.OutOfMemory file number (resolve_errors.At g n c) old new commands r f = absurd cc
failed-placed (line_errors.Refused c) file number (resolve_errors.At g n d) old new commands r f = subst (λ x. FailsAtLine {A = Unit {0}} file number (Err x) old new commands) (sym r) (placed-failed c file number old new commands f)

-- where no fault of the outside is, the runner did not fail
pub never-failed : (e : LineError) (file : Bytes) (number : ℕ) (d : ResolveError) (old new : Commands) (commands : List Bytes) → is_line_fault e ≡ false → RefusesLine e file number d → FailsAtLine {A = Unit {0}} file number (Err d) old new commands
never-failed e file number d old new commands f r = failed-placed e file number d old new commands r (none e f)
  where
    none : (x : LineError) → is_line_fault x ≡ false → FailsInLine {A = Unit {0}} (Err x) old new commands
    none line_errors.OutOfMemory h = tt
    none (line_errors.Refused causes.RunFault) h = absurd cc
    none (line_errors.Refused c) h = tt

-- ---- the place of a refusal

pub breaks-placed : (e : LineError) (file : Bytes) (number : ℕ) (d : ResolveError) → RefusesLine e file number d → breaks_line {A = Unit {0}} (Err e) ≡ true → breaks_off {A = Unit {0}} (Err d) ≡ true
breaks-placed e file number resolve_errors.OutOfMemory r h = refl
breaks-placed line_errors.OutOfMemory file number (resolve_errors.At f n c) r h = absurd cc
breaks-placed (line_errors.Refused cause) file number (resolve_errors.At f n c) r h = let same : c ≡ cause = cc in ap is_fault same ∙ h

placed-cause : (c : Cause) (file : Bytes) (number before now : ℕ) → HasLineCause {A = Unit {0}} (Err (line_errors.Refused c)) before now → HasRunCause {A = Unit {0}} (Err (resolve_errors.At file number c)) before now
placed-cause causes.RunFault file number before now h = h
placed-cause causes.ReadFault file number before now h = h
placed-cause c file number before now h = h

-- where no fault is, the count stays
pub no-cause : (e : LineError) (before now : ℕ) → is_line_fault e ≡ false → now ≡ before → HasLineCause {A = Unit {0}} (Err e) before now
no-cause line_errors.OutOfMemory before now f h = h
no-cause (line_errors.Refused causes.RunFault) before now f h = absurd cc
no-cause (line_errors.Refused causes.ReadFault) before now f h = absurd cc
no-cause (line_errors.Refused c) before now f h = h

-- a refusal that is no fault leaves the count
pub plain-placed : (e : LineError) (file : Bytes) (number before now : ℕ) (d : ResolveError) → is_line_fault e ≡ false → now ≡ before → RefusesLine e file number d → HasRunCause {A = Unit {0}} (Err d) before now
plain-placed e file number before now resolve_errors.OutOfMemory plain same r = same
plain-placed line_errors.OutOfMemory file number before now (resolve_errors.At f n d) plain same r = absurd cc
plain-placed (line_errors.Refused c) file number before now (resolve_errors.At f n d) plain same r = subst (λ x. HasRunCause {A = Unit {0}} (Err x) before now) (sym r) (placed-cause c file number before now (no-cause (line_errors.Refused c) before now plain same))

-- ---- the outcome of a line, with its place

-- what was returned, reported at a place
abbrev pub Placed : Result (Unit {0}) LineError → Bytes → ℕ → Result (Unit {0}) ResolveError
Placed taken file number = as_error (λ e. resolve_error_at e file number) taken

pub placed-ran : (taken : Result (Unit {0}) LineError) (file : Bytes) (number : ℕ) (old new : Commands) (commands : List Bytes) → RanUnless (breaks_line taken) old new commands → RanUnless (breaks_off (Placed taken file number)) old new commands
placed-ran (Ok x) file number old new commands h = h
placed-ran (Err line_errors.OutOfMemory) file number old new commands h = h
placed-ran (Err (line_errors.Refused c)) file number old new commands h = h

pub placed-fails : (taken : Result (Unit {0}) LineError) (file : Bytes) (number : ℕ) (old new : Commands) (commands : List Bytes) → FailsInLine taken old new commands → FailsAtLine file number (Placed taken file number) old new commands
placed-fails (Ok x) file number old new commands h = tt
placed-fails (Err line_errors.OutOfMemory) file number old new commands h = tt
placed-fails (Err (line_errors.Refused c)) file number old new commands h = placed-failed c file number old new commands h

pub placed-run : (taken : Result (Unit {0}) LineError) (file : Bytes) (number before now : ℕ) → HasLineCause taken before now → HasRunCause (Placed taken file number) before now
placed-run (Ok x) file number before now h = h
placed-run (Err line_errors.OutOfMemory) file number before now h = h
placed-run (Err (line_errors.Refused c)) file number before now h = placed-cause c file number before now h

pub placed-ok : (taken : Result (Unit {0}) LineError) (file : Bytes) (number : ℕ) (fact : Type 0) → OnOk taken fact → OnOk (Placed taken file number) fact
placed-ok (Ok x) file number fact h = h
placed-ok (Err e) file number fact h = tt

pub placed-err : (taken : Result (Unit {0}) LineError) (file : Bytes) (number : ℕ) (fact : Type 0) → OnErr taken fact → OnErr (Placed taken file number) fact
placed-err (Ok x) file number fact h = tt
placed-err (Err e) file number fact h = h
