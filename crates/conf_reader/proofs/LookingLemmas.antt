-- What open files have still to look at, step by step, and where a failed read is reported.
use Rattle.std.proofs.Common.{◌≡◌, ℕ, zero, suc, ◌+◌, ◌-◌, ◌<◌, Bool, true, false, List, [], ◌∷◌, ◌++◌, length, drop, Option, Some, None, Result, Ok, Err, refl, sym, ap, subst, ◌∙◌, arith}
use Rattle.std.specs.Prelude.{flat_map, option_to_list, codes, ◌&&◌, ◌||◌, IfSome, OnOk}
use Rattle.std.specs.List.{slice_get, list_all, list_any}
use Rattle.std.specs.Option.{option_map}
use Rattle.std.specs.Str.{bytes_eq}
use Rattle.std.proofs.lemmas.List.Folds.{list_all-append}
use Rattle.std.proofs.lemmas.Slice.Eq.{bytes_eq-Decides}
use Rattle.std.proofs.Math.ListN.{drop_of_length-le}
use Rattle.conf_rules.specs.declared.causes.Cause.TheVariants as causes
use Rattle.conf_rules.specs.declared.causes.ResolveError.{ResolveError}
use Rattle.conf_rules.specs.declared.causes.ResolveError.TheVariants as errors
use Rattle.conf_rules.specs.declared.causes.LexError.{LexError}
use Rattle.conf_rules.specs.declared.causes.TokenError.{TokenError}
use Rattle.conf_rules.specs.Texts.{Bytes, same_word}
use Rattle.conf_rules.specs.Recorded.{Recorded}
use Rattle.conf_rules.specs.Results.{◌>>=◌}
use Rattle.conf_rules.specs.Words.{words_of}
use Rattle.conf_rules.specs.Includes.{Source, paths_of, globbed}
use Rattle.conf_rules.specs.Looks.{folders_of, looks_of, looks_along, looks_in, looks_at}
use Rattle.conf_reader.specs.declared.errors.LineError.{LineError}
use Rattle.conf_reader.specs.declared.errors.LineError.TheVariants as line_errors
use Rattle.conf_reader.specs.declared.files.FoundFile.{FoundFile}
use Rattle.conf_reader.specs.declared.line.ConfLine.{ConfLine}
use Rattle.conf_reader.specs.declared.open_file.OpenFile.{OpenFile}
use Rattle.conf_reader.specs.declared.open_file.Said.{Said}
use Rattle.conf_reader.specs.declared.lines.FirstFile.{FirstFile}
use Rattle.conf_reader.specs.declared.lines.Lines.{Lines}
use Rattle.conf_reader.specs.declared.stack.OpenFiles.{OpenFiles}
use Rattle.conf_reader.specs.Results.{resolve_error_at}
use Rattle.conf_reader.specs.Left.{source_of, IsFileSettled, GivenBy, gone, include_of, named_as, named_by}
use Rattle.conf_reader.specs.Looking.{FailsAmong, FirstFails, LineFails, Test, meets_in, meets, firsts_meet, all_meet, line_meets, RecordsFailed}
use Rattle.conf_reader.proofs.OpenLemmas.{drop-at}

-- ---- lists

pub both-left : (a b : Bool) → (a && b) ≡ true → a ≡ true
both-left true b e = refl
both-left false b e = e

pub both-right : (a b : Bool) → (a && b) ≡ true → b ≡ true
both-right true b e = e
both-right false b e = absurd cc

pub both : (a b : Bool) → a ≡ true → b ≡ true → (a && b) ≡ true
both a b e f = rw e f

all-left : {X : Type 0} (p : X → Bool) (xs ys : List X) → list_all p (xs ++ ys) ≡ true → list_all p xs ≡ true
all-left p xs ys e = both-left (list_all p xs) (list_all p ys) (sym (list_all-append p xs ys) ∙ e)

all-right : {X : Type 0} (p : X → Bool) (xs ys : List X) → list_all p (xs ++ ys) ≡ true → list_all p ys ≡ true
all-right p xs ys e = both-right (list_all p xs) (list_all p ys) (sym (list_all-append p xs ys) ∙ e)

all-both : {X : Type 0} (p : X → Bool) (xs ys : List X) → list_all p xs ≡ true → list_all p ys ≡ true → list_all p (xs ++ ys) ≡ true
all-both p xs ys a b = list_all-append p xs ys ∙ both (list_all p xs) (list_all p ys) a b

first-or-later : (p : Bytes → Bool) (x y : Bytes) (t rest : Bool) → bytes_eq x y ≡ t → p y ≡ true → (rest ≡ true → p x ≡ true) → (t || rest) ≡ true → p x ≡ true
first-or-later p x y true rest e here later any = ap p ((bytes_eq-Decides x y).0 e) ∙ here
first-or-later p x y false rest e here later any = later any

-- a test that all meet is met by one of them
pub one-meets : (p : Bytes → Bool) (xs : List Bytes) (x : Bytes) → list_all p xs ≡ true → list_any (bytes_eq x) xs ≡ true → p x ≡ true
one-meets p [] x all any = absurd cc
one-meets p (y ∷ ys) x all any =
    first-or-later p x y (bytes_eq x y) (list_any (bytes_eq x) ys) refl (both-left (p y) (list_all p ys) all) (λ k. one-meets p ys x (both-right (p y) (list_all p ys) all) k) any

all-next : (p : Bytes → Bool) (xs : List Bytes) (i : ℕ) → list_all p (drop i xs) ≡ true → list_all p (drop (suc i) xs) ≡ true
all-next p [] i e = refl
all-next p (x ∷ xs) zero e = both-right (p x) (list_all p xs) e
all-next p (x ∷ xs) (suc i) e = all-next p xs i e

-- ---- where a failed read is reported

-- the value doesn't matter
pub records-err : (A B : Type 0) (test : Test) (e : ResolveError) (before now : Option (List Bytes)) → RecordsFailed {A = A} test (Err e) before now → RecordsFailed {A = B} test (Err e) before now
records-err A B test errors.OutOfMemory before now h = h
records-err A B test (errors.At file number causes.ReadFault) before now h = h
records-err A B test (errors.At file number cause) before now h = h

-- nor do steps before it that left the failed paths
pub records-on : (A B : Type 0) (test : Test) (e : ResolveError) (before mid now : Option (List Bytes)) → mid ≡ before → RecordsFailed {A = A} test (Err e) mid now → RecordsFailed {A = B} test (Err e) before now
records-on A B test e before mid now same h = subst (λ b. RecordsFailed {A = B} test (Err e) b now) same (records-err A B test e mid now h)

-- a failed read that is reported at a place where its path may be
pub records-at : (A : Type 0) (test : Test) (file : Bytes) (number : ℕ) (paths : List Bytes) (e : ResolveError) (before now : Option (List Bytes)) → e ≡ errors.At file number causes.ReadFault → FailsAmong paths before now → list_all (test file number) paths ≡ true
    → RecordsFailed {A = A} test (Err e) before now
records-at A test file number paths e before now r fails all =
    subst (λ x. RecordsFailed {A = A} test (Err x) before now) (sym r) (record { path = fails.path; is = fails.is; meets = one-meets (test file number) paths fails.path all fails.among })

-- the same of a line's error
pub records-line : (A B : Type 0) (test : Test) (file : Bytes) (number : ℕ) (paths : List Bytes) (le : LineError) (e : ResolveError) (before now : Option (List Bytes)) → e ≡ resolve_error_at le file number → LineFails {A = B} paths (Err le) before now → list_all (test file number) paths ≡ true
    → RecordsFailed {A = A} test (Err e) before now
records-line A B test file number paths line_errors.OutOfMemory e before now r fails all = subst (λ x. RecordsFailed {A = A} test (Err x) before now) (sym r) fails
records-line A B test file number paths (line_errors.Refused causes.ReadFault) e before now r fails all = records-at A test file number paths e before now r fails all
records-line A B test file number paths (line_errors.Refused cause) e before now r fails all = subst (λ x. RecordsFailed {A = A} test (Err x) before now) (sym r) fails

-- ---- one file

-- a file that names no more files has nothing to look at
pub settled-meets : (test : Test) (recorded : Recorded) (source : Source) (f : OpenFile) → IsFileSettled f → meets_in test recorded source f ≡ true
settled-meets test recorded source f s = let none : drop f.next f.named ≡ [] = drop_of_length-le f.named s.1 in rw (s.0, none) refl

pub begun-meets : (test : Test) (recorded : Recorded) (source : Source) (f : OpenFile) → f.include ≡ None → f.named ≡ [] → meets_in test recorded source f ≡ true
begun-meets test recorded source f none names = settled-meets test recorded source f (none, let k = ap length names in omega (arith, k))

-- one that meets a path over
pub next-meets : (test : Test) (recorded : Recorded) (source : Source) (f g : OpenFile) → g ≡ record f { next = f.next + 1 } → f.include ≡ None → meets_in test recorded source f ≡ true → meets_in test recorded source g ≡ true
next-meets test recorded source f g is include h =
    let next : f.next + 1 ≡ suc f.next = omega arith in
    let named : list_all (test f.path (f.number - 1)) (drop f.next f.named) ≡ true = rw include at h in
    let later : list_all (test f.path (f.number - 1)) (drop (f.next + 1) f.named) ≡ true = rw next (all-next (test f.path (f.number - 1)) f.named f.next named) in
    let all : meets_in test recorded source (record f { next = f.next + 1 }) ≡ true = rw include later in
    subst (λ x. meets_in test recorded source x ≡ true) (sym is) all

-- the path that is opened next
pub path-meets : (test : Test) (recorded : Recorded) (source : Source) (f : OpenFile) (path : Bytes) → f.include ≡ None → slice_get f.named f.next ≡ Some path → meets_in test recorded source f ≡ true → list_all (test f.path (f.number - 1)) (path ∷ []) ≡ true
path-meets test recorded source f path include named h =
    let p = test f.path (f.number - 1) in
    let all : list_all p (drop f.next f.named) ≡ true = rw include at h in
    let some : list_all p (path ∷ drop (suc f.next) f.named) ≡ true = subst (λ xs. list_all p xs ≡ true) (drop-at f.named f.next path named) all in
    both (p path) true (both-left (p path) (list_all p (drop (suc f.next) f.named)) some) refl

-- one that goes after a line that is given
pub said-meets : (test : Test) (recorded : Recorded) (source : Source) (o : OpenFiles) (f : OpenFile) (next : ℕ) (said : Said) (line : ConfLine) → IsFileSettled f → GivenBy o f said line → line_meets test recorded source line ≡ true → meets_in test recorded source (gone next (include_of said) f) ≡ true
said-meets test recorded source o f next said line s g h = by (same_word said.keyword (codes "include")) refl
  where
    by : (t : Bool) → same_word said.keyword (codes "include") ≡ t → meets_in test recorded source (gone next (include_of said) f) ≡ true
    by true e =
        let number : f.number + 1 - 1 ≡ f.number = omega arith in
        let key : same_word line.keyword (codes "include") ≡ true = ap (λ k. same_word k (codes "include")) g.keyword ∙ e in
        let all : list_all (test line.file line.number) (looks_at source recorded line.rest) ≡ true = rw key at h in
        let here : list_all (test f.path f.number) (looks_at source recorded said.rest) ≡ true = rw (g.file, g.number, g.rest) at all in
        rw (e, number) here
    by false e =
        let is : include_of said ≡ None = rw e refl in
        settled-meets test recorded source (gone next (include_of said) f) (is, s.1)

-- the paths that a line names are among those that it looks at
found-meet : (p : Bytes → Bool) (recorded : Recorded) (ps : List Bytes) → list_all p (looks_of recorded ps) ≡ true → list_all p (flat_map (globbed recorded) ps) ≡ true
found-meet p recorded [] h = refl
found-meet p recorded (x ∷ xs) h =
    let here = all-left p (folders_of recorded x ++ globbed recorded x) (looks_of recorded xs) h in
    let later = all-right p (folders_of recorded x ++ globbed recorded x) (looks_of recorded xs) h in
    all-both p (globbed recorded x) (flat_map (globbed recorded) xs) (all-right p (folders_of recorded x) (globbed recorded x) here) (found-meet p recorded xs later)

along-meet : (p : Bytes → Bool) (recorded : Recorded) (read : Result (List Bytes) TokenError) (paths : List Bytes) → (read >>= λ ps. Ok (flat_map (globbed recorded) ps)) ≡ Ok paths → list_all p (looks_along recorded read) ≡ true → list_all p paths ≡ true
along-meet p recorded (Err e) paths named h = absurd cc
along-meet p recorded (Ok ps) paths named h = let k : flat_map (globbed recorded) ps ≡ paths = cc in subst (λ xs. list_all p xs ≡ true) k (found-meet p recorded ps h)

named-meet : (p : Bytes → Bool) (source : Source) (recorded : Recorded) (words : Result (List Bytes) LexError) (paths : List Bytes) → named_by source recorded words ≡ Ok paths → list_all p (looks_in source recorded words) ≡ true → list_all p paths ≡ true
named-meet p source recorded (Err e) paths named h = let k : [] ≡ paths = cc in subst (λ xs. list_all p xs ≡ true) k refl
named-meet p source recorded (Ok words) paths named h = along-meet p recorded (paths_of source recorded words) paths named h

pub include-meets : (test : Test) (recorded : Recorded) (source : Source) (f : OpenFile) (rest : Bytes) → f.include ≡ Some rest → meets_in test recorded source f ≡ true → list_all (test f.path (f.number - 1)) (looks_in source recorded (words_of rest)) ≡ true
unfolding looks_at
include-meets test recorded source f rest include h = rw include at h

pub found-meets : (test : Test) (recorded : Recorded) (source : Source) (f : OpenFile) (rest : Bytes) (paths : List Bytes) → f.include ≡ Some rest → named_by source recorded (words_of rest) ≡ Ok paths → meets_in test recorded source f ≡ true → meets_in test recorded source (named_as paths f) ≡ true
found-meets test recorded source f rest paths include named h = named-meet (test f.path (f.number - 1)) source recorded (words_of rest) paths named (include-meets test recorded source f rest include h)

-- ---- open files

-- the last of them
pub top-meets : (test : Test) (recorded : Recorded) (o : OpenFiles) (f : OpenFile) → o.top ≡ Some f → meets test recorded o ≡ true → meets_in test recorded (source_of o.system) f ≡ true
top-meets test recorded o f top h =
    let p = meets_in test recorded (source_of o.system) in
    let last : list_all p (option_to_list o.top) ≡ true = all-right p o.below.items (option_to_list o.top) h in
    both-left (p f) true (subst (λ t. list_all p (option_to_list t) ≡ true) top last)

below-meet : (test : Test) (recorded : Recorded) (o : OpenFiles) → meets test recorded o ≡ true → list_all (meets_in test recorded (source_of o.system)) o.below.items ≡ true
below-meet test recorded o h = all-left (meets_in test recorded (source_of o.system)) o.below.items (option_to_list o.top) h

-- open files of which the last one changed
pub changed-meets : (test : Test) (recorded : Recorded) (o : OpenFiles) (below : List OpenFile) (t : Option OpenFile) (f g : OpenFile) → o.top ≡ Some f → t ≡ Some g → below ≡ o.below.items → (meets_in test recorded (source_of o.system) f ≡ true → meets_in test recorded (source_of o.system) g ≡ true)
    → meets test recorded o ≡ true → list_all (meets_in test recorded (source_of o.system)) (below ++ option_to_list t) ≡ true
changed-meets test recorded o below t f g top now same step h =
    let p = meets_in test recorded (source_of o.system) in
    let last : list_all p (option_to_list t) ≡ true = subst (λ t. list_all p (option_to_list t) ≡ true) (sym now) (both (p g) true (step (top-meets test recorded o f top h)) refl) in
    all-both p below (option_to_list t) (subst (λ fs. list_all p fs ≡ true) (sym same) (below-meet test recorded o h)) last

-- the last one is closed
pub closed-meets : (test : Test) (recorded : Recorded) (o : OpenFiles) (below : List OpenFile) (t : Option OpenFile) → o.below.items ≡ below ++ option_to_list t → meets test recorded o ≡ true → list_all (meets_in test recorded (source_of o.system)) (below ++ option_to_list t) ≡ true
closed-meets test recorded o below t parts h = subst (λ fs. list_all (meets_in test recorded (source_of o.system)) fs ≡ true) parts (below-meet test recorded o h)

-- a file is opened
pub entered-meets : (test : Test) (recorded : Recorded) (o : OpenFiles) (below : List OpenFile) (f g new : OpenFile) → o.top ≡ Some f → below ≡ o.below.items ++ g ∷ [] → g ≡ record f { next = f.next + 1 } → f.include ≡ None → new.include ≡ None → new.named ≡ []
    → meets test recorded o ≡ true → list_all (meets_in test recorded (source_of o.system)) (below ++ option_to_list (Some new)) ≡ true
entered-meets test recorded o below f g new top more is include none names h =
    let source = source_of o.system in
    let p = meets_in test recorded source in
    let met : p g ≡ true = next-meets test recorded source f g is include (top-meets test recorded o f top h) in
    let all : list_all p (o.below.items ++ g ∷ []) ≡ true = all-both p o.below.items (g ∷ []) (below-meet test recorded o h) (both (p g) true met refl) in
    all-both p below (new ∷ []) (subst (λ fs. list_all p fs ≡ true) (sym more) all) (both (p new) true (begun-meets test recorded source new none names) refl)

-- a failed read of the path that is opened next
pub top-records : (A : Type 0) (test : Test) (recorded : Recorded) (o : OpenFiles) (f : OpenFile) (path : Bytes) (e : ResolveError) (before now : Option (List Bytes)) → o.top ≡ Some f → f.include ≡ None → slice_get f.named f.next ≡ Some path → e ≡ errors.At f.path (f.number - 1) causes.ReadFault
    → FailsAmong (path ∷ []) before now → meets test recorded o ≡ true → RecordsFailed {A = A} test (Err e) before now
top-records A test recorded o f path e before now top include named r fails h =
    records-at A test f.path (f.number - 1) (path ∷ []) e before now r fails (path-meets test recorded (source_of o.system) f path include named (top-meets test recorded o f top h))

-- ---- a line

pub given-looks : (test : Test) (recorded : Recorded) (o : OpenFiles) (t : Option OpenFile) (next : ℕ) (said : Said) (line : ConfLine) → o.top ≡ t → IfSome t (λ f. IsFileSettled f × (f.at < length f.text)) → IfSome t (λ f. GivenBy o f said line) → line_meets test recorded (source_of o.system) line ≡ true → meets test recorded o ≡ true
    → list_all (meets_in test recorded (source_of o.system)) (o.below.items ++ option_to_list (option_map (gone next (include_of said)) t)) ≡ true
given-looks test recorded o None next said line top at by looks h = subst (λ t. list_all (meets_in test recorded (source_of o.system)) (o.below.items ++ option_to_list t) ≡ true) top h
given-looks test recorded o (Some f) next said line top at by looks h =
    let g = gone next (include_of said) f in
    changed-meets test recorded o o.below.items (Some g) f g top refl refl (λ k. said-meets test recorded (source_of o.system) o f next said line at.0 by looks) h

-- ---- the files that a line includes

pub named-looks : (test : Test) (recorded : Recorded) (o n : OpenFiles) (f : OpenFile) (rest : Bytes) (paths : List Bytes) → o.top ≡ Some f → f.include ≡ Some rest → named_by (source_of o.system) recorded (words_of rest) ≡ Ok paths → n ≡ record o { top = option_map (named_as paths) o.top } → meets test recorded o ≡ true → meets test recorded n ≡ true
named-looks test recorded o n f rest paths top include named is h =
    let now : option_map (named_as paths) o.top ≡ Some (named_as paths f) = ap (option_map (named_as paths)) top in
    let all : meets test recorded (record o { top = option_map (named_as paths) o.top }) ≡ true =
    changed-meets test recorded o o.below.items (option_map (named_as paths) o.top) f (named_as paths f) top now refl (found-meets test recorded (source_of o.system) f rest paths include named) h in
    subst (λ (x : OpenFiles). meets test recorded x ≡ true) (sym is) all

pub include-records : (A B : Type 0) (test : Test) (recorded : Recorded) (o : OpenFiles) (f : OpenFile) (rest given : Bytes) (le : LineError) (e : ResolveError) (before now : Option (List Bytes)) → o.top ≡ Some f → f.include ≡ Some rest → given ≡ rest → e ≡ resolve_error_at le f.path (f.number - 1)
    → LineFails {A = A} (looks_in (source_of o.system) recorded (words_of given)) (Err le) before now → meets test recorded o ≡ true → RecordsFailed {A = B} test (Err e) before now
include-records A B test recorded o f rest given le e before now top include same r fails h =
    let source = source_of o.system in
    let here : LineFails {A = A} (looks_in source recorded (words_of rest)) (Err le) before now = subst (λ x. LineFails {A = A} (looks_in source recorded (words_of x)) (Err le) before now) same fails in
    records-line B A test f.path (f.number - 1) (looks_in source recorded (words_of rest)) le e before now r here (include-meets test recorded source f rest include (top-meets test recorded o f top h))

-- ---- first files

pub first-meets : (test : Test) (fs : List FirstFile) (i : ℕ) (f : FirstFile) → slice_get fs i ≡ Some f → firsts_meet test fs ≡ true → test f.path 0 f.path ≡ true
first-meets test [] i f e h = absurd cc
first-meets test (g ∷ gs) zero f e h = let same : g ≡ f = cc in subst (λ (x : FirstFile). test x.path 0 x.path ≡ true) same (both-left (test g.path 0 g.path) (firsts_meet test gs) h)
first-meets test (g ∷ gs) (suc i) f e h = first-meets test gs i f e (both-right (test g.path 0 g.path) (firsts_meet test gs) h)

-- a failed read of a first file
pub first-records : (A : Type 0) (test : Test) (recorded : Recorded) (r : Lines) (f : FirstFile) (path : Bytes) (e : ResolveError) (before now : Option (List Bytes)) → slice_get r.firsts.items r.next_first ≡ Some f → path ≡ f.path → FirstFails {A = FoundFile} path (Err e) before now
    → all_meet test recorded r ≡ true → RecordsFailed {A = A} test (Err e) before now
first-records A test recorded r f path errors.OutOfMemory before now named same fails h = fails
first-records A test recorded r f path (errors.At file line cause) before now named same fails h =
    let meets_it : test f.path 0 f.path ≡ true = first-meets test r.firsts.items r.next_first f named (both-right (meets test recorded r.open_files) (firsts_meet test r.firsts.items) h) in
    let here : test path 0 path ≡ true = rw same meets_it in
    records-at A test path 0 (path ∷ []) (errors.At file line cause) before now fails.0 fails.1 (both (test path 0 path) true here refl)

-- ---- readers

pub files-meet : (test : Test) (recorded : Recorded) (r : Lines) → all_meet test recorded r ≡ true → meets test recorded r.open_files ≡ true
files-meet test recorded r h = both-left (meets test recorded r.open_files) (firsts_meet test r.firsts.items) h

-- the first files stay
pub all-on : (test : Test) (recorded : Recorded) (old new : Lines) → new.firsts ≡ old.firsts → meets test recorded new.open_files ≡ true → all_meet test recorded old ≡ true → all_meet test recorded new ≡ true
all-on test recorded old new firsts on h =
    both (meets test recorded new.open_files) (firsts_meet test new.firsts.items) on (ap (λ fs. firsts_meet test fs.items) firsts ∙ both-right (meets test recorded old.open_files) (firsts_meet test old.firsts.items) h)

-- a step of the open files
pub all-look : (A : Type 0) (test : Test) (recorded : Recorded) (r : Lines) (o : OpenFiles) (result : Result A ResolveError) (before now : Option (List Bytes)) → all_meet test recorded r ≡ true → RecordsFailed test result before now × OnOk result (meets test recorded o ≡ true)
    → RecordsFailed test result before now × OnOk result (all_meet test recorded (record r { open_files = o }) ≡ true)
all-look A test recorded r o (Ok x) before now h step = (step.0, all-on test recorded r (record r { open_files = o }) refl step.1 h)
all-look A test recorded r o (Err e) before now h step = (step.0, tt)
