-- What calls do to the files, one after the other.
use Rattle.std.proofs.Common.{◌≡◌, ◌∙◌, ℕ, true, false, List, Option, Some, None, Result, Ok, Err, refl, sym, ap, subst}
use Rattle.std.specs.Prelude.{IsSome, IfSome}
use Rattle.std.specs.Bool.{MatchBool}
use Rattle.mux_outside.specs.Counts.{Rose}
use Rattle.conf_rules.specs.declared.causes.Cause.{Cause}
use Rattle.conf_rules.specs.declared.causes.Cause.TheVariants as causes
use Rattle.conf_rules.specs.declared.causes.ResolveError.{ResolveError}
use Rattle.conf_rules.specs.declared.causes.ResolveError.TheVariants as errors
use Rattle.conf_rules.specs.Diagnostics.{is_fault}
use Rattle.conf_rules.specs.Texts.{Bytes}
use Rattle.conf_rules.specs.Recorded.{Facts, Recorded}
use Rattle.conf_reader.specs.declared.errors.LineError.{LineError}
use Rattle.conf_reader.specs.declared.errors.LineError.TheVariants as line_errors
use Rattle.conf_reader.specs.declared.open_file.OpenFile.{OpenFile}
use Rattle.conf_reader.specs.declared.lines.Lines.{Lines}
use Rattle.conf_reader.specs.declared.stack.OpenFiles.{OpenFiles}
use Rattle.conf_reader.specs.FilesState.{FilesState}
use Rattle.conf_reader.specs.Known.{RecordsFiles}
use Rattle.conf_reader.specs.Looking.{Test, RecordsFailed}
use Rattle.conf_reader.specs.Results.{IsFilesCause, HasReadCause, HasFilesCause, RefusesLine, resolve_error_at, is_fault_at, is_run_fault}
use Rattle.conf_reader.specs.ToRead.{ReadsSome}
use Rattle.conf_reader.specs.Uses.{Coming, of_open, of_all, UsesFiles, UsesFilesFor}
use Rattle.conf_reader.proofs.LookingLemmas.{all-look, files-meet, records-err, records-on}
use Rattle.conf_reader.proofs.ToReadLemmas.{all-note, stays-read, then-read, then-some}

-- ---- causes

-- the value doesn't matter, nor do calls before it that counted no fault
pub cause-on : (A B : Type 0) (e : ResolveError) (before mid now : ℕ) → mid ≡ before → HasFilesCause {A = A} (Err e) mid now → HasFilesCause {A = B} (Err e) before now
cause-on A B errors.OutOfMemory before mid now same h = h ∙ same
cause-on A B (errors.At file line cause) before mid now same h = subst (λ b. IsFilesCause cause b now) same h

-- a refusal that is no fault
pub quiet-cause : (A : Type 0) (e : ResolveError) (before now : ℕ) → now ≡ before → is_fault_at e ≡ false → HasFilesCause {A = A} (Err e) before now
quiet-cause A errors.OutOfMemory before now same quiet = same
quiet-cause A (errors.At file line cause) before now same quiet = subst (λ b. MatchBool b ((cause ≡ causes.ReadFault) × Rose before now) (now ≡ before)) (sym quiet) same

-- nor is it a failed read
quiet-records : (A : Type 0) (test : Test) (e : ResolveError) (before now : Option (List Bytes)) → now ≡ before → is_fault_at e ≡ false → RecordsFailed {A = A} test (Err e) before now
quiet-records A test errors.OutOfMemory before now same quiet = same
quiet-records A test (errors.At file number causes.ReadFault) before now same quiet = absurd cc
quiet-records A test (errors.At file number cause) before now same quiet = same

-- the refusal of a line whose error is no fault
pub refuses-quiet : (cause : Cause) (file : Bytes) (number : ℕ) (e : ResolveError) → is_fault cause ≡ false → RefusesLine (line_errors.Refused cause) file number e → is_fault_at e ≡ false
refuses-quiet cause file number errors.OutOfMemory quiet h = refl
refuses-quiet cause file number (errors.At f n c) quiet h = let same : c ≡ cause = cc in ap is_fault same ∙ quiet

pub line-quiet : (cause : Cause) (t : Option OpenFile) (e : ResolveError) → is_fault cause ≡ false → IsSome t → IfSome t (λ f. RefusesLine (line_errors.Refused cause) f.path f.number e) → is_fault_at e ≡ false
line-quiet cause None e quiet some h = absurd (let k : false ≡ true = some in cc)
line-quiet cause (Some f) e quiet some h = refuses-quiet cause f.path f.number e quiet h

-- a line's error, reported as a refusal
pub line-cause : (A B : Type 0) (le : LineError) (file : Bytes) (number : ℕ) (e : ResolveError) (before now : ℕ) → e ≡ resolve_error_at le file number → HasReadCause {A = A} (Err le) before now → HasFilesCause {A = B} (Err e) before now
line-cause A B line_errors.OutOfMemory file number e before now is h = subst (λ x. HasFilesCause {A = B} (Err x) before now) (sym is) h
line-cause A B (line_errors.Refused cause) file number e before now is h = subst (λ x. HasFilesCause {A = B} (Err x) before now) (sym is) h

-- a failed read
pub read-cause : (A : Type 0) (file : Bytes) (number : ℕ) (e : ResolveError) (before now : ℕ) → e ≡ errors.At file number causes.ReadFault → Rose before now → HasFilesCause {A = A} (Err e) before now
read-cause A file number e before now is rose = subst (λ x. HasFilesCause {A = A} (Err x) before now) (sym is) (refl, rose)

-- no run fault is reported
pub no-run-fault : (A : Type 0) (e : ResolveError) (before now : ℕ) → HasFilesCause {A = A} (Err e) before now → is_run_fault e ≡ false
no-run-fault A errors.OutOfMemory before now h = refl
no-run-fault A (errors.At file line causes.RunFault) before now h = absurd (let k : causes.RunFault ≡ causes.ReadFault = h.0 in cc)
no-run-fault A (errors.At file line cause) before now h = refl

-- ---- calls

-- what a call did to the files that gave something
abbrev pub Used : FilesState → FilesState → Coming → Coming → Type 0
Used before now old new = UsesFiles {A = Unit {0}} before now old new (Ok tt)

-- files that show what they did before
pub uses-none : {A : Type 0} {s : FilesState} {x y : Coming} {v : A} → ((recorded : Recorded) (test : Test) → x.meets test recorded → y.meets test recorded) → ((recorded : Recorded) → x.paths recorded ≡ y.paths recorded) → UsesFiles s s x y (Ok v)
uses-none on same = record { recorded = refl; cause = refl; looks = λ recorded test h. (refl, on recorded test h); noted = λ recorded records. stays-read _ _ _ _ (same recorded) refl }

-- a call after another
pub uses-then : {A B C : Type 0} {s t u : FilesState} {x y z : Coming} {v : A} {w : B} (k : C) → UsesFiles s t x y (Ok v) → UsesFiles t u y z (Ok w) → UsesFiles s u x z (Ok k)
uses-then k a b = record {
  recorded = b.recorded ∙ a.recorded;
  cause = b.cause ∙ a.cause;
  looks = λ recorded test h.
      let before = a.looks recorded test h in
      let step = b.looks recorded test before.1 in
      (step.0 ∙ before.0, step.1);
  noted = λ recorded records. then-read _ _ _ _ _ _ (a.noted recorded records) (b.noted recorded (subst (λ files. RecordsFiles files recorded) (sym a.recorded) records));
}

-- one that fails
pub uses-fails : {A B C : Type 0} {s t u : FilesState} {x y z w : Coming} {v : A} {e : ResolveError} → UsesFiles s t x y (Ok v) → UsesFiles {A = B} t u y z (Err e) → UsesFiles {A = C} s u x w (Err e)
uses-fails {A} {B} {C} {s} {t} {u} {x} {y} {z} {w} {v} {e} a b = record {
  recorded = b.recorded ∙ a.recorded;
  cause = cause-on B C e s.faults t.faults u.faults a.cause b.cause;
  looks = λ recorded test h.
      let before = a.looks recorded test h in
      (records-on B C test e s.failed t.failed u.failed before.0 (b.looks recorded test before.1).0, tt);
  noted = λ recorded records. then-some _ _ _ _ _ (a.noted recorded records) (b.noted recorded (subst (λ files. RecordsFiles files recorded) (sym a.recorded) records));
}

-- the value doesn't matter where a call failed
pub uses-err : {A B : Type 0} {s t : FilesState} {x y w : Coming} {e : ResolveError} → UsesFiles {A = A} s t x y (Err e) → UsesFiles {A = B} s t x w (Err e)
uses-err {A} {B} {s} {t} {x} {y} {w} {e} a = record {
  recorded = a.recorded;
  cause = cause-on A B e s.faults s.faults t.faults refl a.cause;
  looks = λ recorded test h. (records-err A B test e s.failed t.failed (a.looks recorded test h).0, tt);
  noted = λ recorded records. a.noted recorded records;
}

-- a refusal that is no fault
pub uses-quiet : {A : Type 0} {s t : FilesState} {x y : Coming} {e : ResolveError} → is_fault_at e ≡ false → t.recorded ≡ s.recorded → t.faults ≡ s.faults → t.failed ≡ s.failed → ((recorded : Recorded) → RecordsFiles s.recorded recorded → ReadsSome (x.paths recorded) s.readings t.readings) → UsesFiles {A = A} s t x y (Err e)
uses-quiet {A} {s} {t} {x} {y} {e} quiet recorded faults failed noted = record {
  recorded = recorded;
  cause = quiet-cause A e s.faults t.faults faults quiet;
  looks = λ recorded test h. (quiet-records A test e s.failed t.failed failed quiet, tt);
  noted = noted;
}

-- one after a call
pub uses-refused : {A B : Type 0} {s t : FilesState} {x y w : Coming} {v : A} {e : ResolveError} → is_fault_at e ≡ false → UsesFiles s t x y (Ok v) → UsesFiles {A = B} s t x w (Err e)
uses-refused {A} {B} {s} {t} {x} {y} {w} {v} {e} quiet a = record {
  recorded = a.recorded;
  cause = quiet-cause B e s.faults t.faults a.cause quiet;
  looks = λ recorded test h. (quiet-records B test e s.failed t.failed (a.looks recorded test h).0 quiet, tt);
  noted = λ recorded records. (y.paths recorded, a.noted recorded records);
}

-- a step of the open files
pub uses-all : {A : Type 0} {s t : FilesState} (r : Lines) (o : OpenFiles) (result : Result A ResolveError) → UsesFiles s t (of_open r.open_files) (of_open o) result → UsesFiles s t (of_all r) (of_all (record r { open_files = o })) result
uses-all {A} {s} {t} r o result a = record {
  recorded = a.recorded;
  cause = a.cause;
  looks = λ recorded test h. all-look A test recorded r o result s.failed t.failed h (a.looks recorded test (files-meet test recorded r h));
  noted = λ recorded records. all-note A recorded r o result s.readings t.readings (a.noted recorded records);
}

-- ---- calls that look at the machine too

pub uses-for : {A : Type 0} {facts : Facts} {original : Bytes} {s t : FilesState} {x y : Coming} {result : Result A ResolveError} → UsesFiles s t x y result → UsesFilesFor facts original s t x y result
uses-for a = record { recorded = a.recorded; cause = a.cause; looks = λ recorded test records facts original h. a.looks recorded test h; noted = λ recorded records facts original. a.noted recorded records }

pub uses-all-for : {A : Type 0} {facts : Facts} {original : Bytes} {s t : FilesState} (r : Lines) (o : OpenFiles) (result : Result A ResolveError) → UsesFilesFor facts original s t (of_open r.open_files) (of_open o) result → UsesFilesFor facts original s t (of_all r) (of_all (record r { open_files = o })) result
uses-all-for {A} {facts} {original} {s} {t} r o result a = record {
  recorded = a.recorded;
  cause = a.cause;
  looks = λ recorded test records facts original h. all-look A test recorded r o result s.failed t.failed h (a.looks recorded test records facts original (files-meet test recorded r h));
  noted = λ recorded records facts original. all-note A recorded r o result s.readings t.readings (a.noted recorded records facts original);
}

-- a call after one
pub uses-from : {A B : Type 0} {facts : Facts} {original : Bytes} {s t u : FilesState} {x y z : Coming} {v : A} (result : Result B ResolveError) → UsesFilesFor facts original s t x y (Ok v) → UsesFiles t u y z result → UsesFilesFor facts original s u x z result
uses-from {A} {B} {facts} {original} {s} {t} {u} (Ok w) a b = record {
  recorded = b.recorded ∙ a.recorded;
  cause = b.cause ∙ a.cause;
  looks = λ recorded test records facts original h.
      let before = a.looks recorded test records facts original h in
      let step = b.looks recorded test before.1 in
      (step.0 ∙ before.0, step.1);
  noted = λ recorded records facts original. then-read _ _ _ _ _ _ (a.noted recorded records facts original) (b.noted recorded (subst (λ files. RecordsFiles files recorded) (sym a.recorded) records));
}
uses-from {A} {B} {facts} {original} {s} {t} {u} (Err e) a b = record {
  recorded = b.recorded ∙ a.recorded;
  cause = cause-on B B e s.faults t.faults u.faults a.cause b.cause;
  looks = λ recorded test records facts original h.
      let before = a.looks recorded test records facts original h in
      (records-on B B test e s.failed t.failed u.failed before.0 (b.looks recorded test before.1).0, tt);
  noted = λ recorded records facts original. then-some _ _ _ _ _ (a.noted recorded records facts original) (b.noted recorded (subst (λ files. RecordsFiles files recorded) (sym a.recorded) records));
}

pub uses-for-err : {A B : Type 0} {facts : Facts} {original : Bytes} {s t : FilesState} {x y w : Coming} {e : ResolveError} → UsesFilesFor {A = A} facts original s t x y (Err e) → UsesFilesFor {A = B} facts original s t x w (Err e)
uses-for-err {A} {B} {facts} {original} {s} {t} {x} {y} {w} {e} a = record {
  recorded = a.recorded;
  cause = cause-on A B e s.faults s.faults t.faults refl a.cause;
  looks = λ recorded test records facts original h. (records-err A B test e s.failed t.failed (a.looks recorded test records facts original h).0, tt);
  noted = λ recorded records facts original. a.noted recorded records facts original;
}

-- the same host that was asked for
pub uses-named : {A : Type 0} {facts : Facts} {original named : Bytes} {s t : FilesState} {x y : Coming} {result : Result A ResolveError} → named ≡ original → UsesFilesFor facts named s t x y result → UsesFilesFor facts original s t x y result
uses-named same a = record {
  recorded = a.recorded;
  cause = a.cause;
  looks = λ recorded test records facts original h. a.looks recorded test records facts (original ∙ sym same) h;
  noted = λ recorded records facts original. a.noted recorded records facts (original ∙ sym same);
}
