-- What is refused where a file would be opened, and steps of open files as the code needs them.
use Rattle.std.proofs.Common.{◌≡◌, ℕ, zero, suc, ◌+◌, ◌-◌, ◌<◌, ◌≤◌, Bool, true, false, eqb, List, [], ◌∷◌, ◌++◌, length, drop, Option, Some, None, Ok, Err, refl, sym, ap, subst, ◌∙◌, arith}
use Rattle.std.specs.Prelude.{flat_map, option_to_list, nat_lt, IfSome, IsSome, is_none, ◌&&◌}
use Rattle.std.specs.List.{slice_get, list_all}
use Rattle.std.proofs.lemmas.Bool.{ne_eqb, eq-eqb}
use Rattle.conf_rules.specs.declared.causes.Cause.{Cause}
use Rattle.conf_rules.specs.declared.causes.Cause.TheVariants as causes
use Rattle.conf_rules.specs.declared.causes.ResolveError.{ResolveError}
use Rattle.conf_rules.specs.declared.causes.ResolveError.TheVariants as errors
use Rattle.conf_reader.specs.declared.errors.LineError.{LineError}
use Rattle.conf_reader.specs.declared.errors.LineError.TheVariants as line_errors
use Rattle.conf_reader.specs.declared.files.FoundFile.{FoundFile}
use Rattle.conf_reader.specs.declared.files.FoundFile.TheVariants.{Nothing, TooLarge, Holds}
use Rattle.conf_reader.specs.Results.{RefusesLine, resolve_error_at}
use Rattle.conf_rules.specs.Texts.{Bytes}
use Rattle.conf_rules.specs.Recorded.{Recorded}
use Rattle.conf_rules.specs.Includes.{Source, file_at, file_of}
use Rattle.conf_rules.specs.Sources.{Line, Refused, depth_limit, size_limit, each_file}
use Rattle.conf_reader.specs.declared.open_file.OpenFile.{OpenFile}
use Rattle.conf_reader.specs.declared.stack.OpenFiles.{OpenFiles}
use Rattle.conf_reader.specs.Blocks.{Blocks, or_none}
use Rattle.conf_reader.specs.Left.{source_of, frame_files, frames_left, cur, open_left, AreFilesReady, is_expanded, RefusesFirst, RefusesTop, RefusesNextFile, Names, Moves, IsFound, deeper, one_below}
use Rattle.conf_reader.proofs.LeftLemmas.{top_depth, top_outer, top-depth, front, refuses, depth-refuses, size-refuses}
use Rattle.conf_reader.proofs.OpenLemmas.{drop-at}

-- ---- refusals

-- the refusal that stands first in what is left
pub first-refused : (recorded : Recorded) (place : ℕ) (blocks : Blocks) (o : OpenFiles) (f : OpenFile) (line : Line) (rest : List Line) (file : Bytes) (number : ℕ) (cause : Cause) → o.top ≡ Some f
    → frames_left recorded (source_of o.system) (top_depth 0 o.below.items) (top_outer [] o.below.items (cur o blocks)) (f ∷ []) (drop (length o.below.items) (cur o blocks)) place ≡ line ∷ rest
    → line.file ≡ file → line.number ≡ number → line.content ≡ Refused cause → RefusesFirst (open_left recorded place blocks o) file number cause
first-refused recorded place blocks o f line rest file number cause top first file-is number-is content =
    let all = front recorded (source_of o.system) 0 [] o.below.items (f ∷ []) (cur o blocks) place (line ∷ []) rest first in
    record {
      line = line;
      rest = all.0;
      is = ap (λ t. frames_left recorded (source_of o.system) 0 [] (o.below.items ++ option_to_list t) (cur o blocks) place) top ∙ all.1;
      file_is = file-is;
      number_is = number-is;
      content = content;
    }

next-files : (recorded : Recorded) (source : Source) (f : OpenFile) (path text : Bytes) → f.include ≡ None → slice_get f.named f.next ≡ Some path → recorded.content path ≡ Some text
    → frame_files recorded source f ≡ Ok (record { path = path; text = text } ∷ flat_map (file_at recorded) (drop (suc f.next) f.named))
next-files recorded source f path text include named content =
    rw include (ap (λ x. Ok x) (ap (flat_map (file_at recorded)) (drop-at f.named f.next path named) ∙ ap (λ t. file_of path t ++ flat_map (file_at recorded) (drop (suc f.next) f.named)) content))

pub deep-refused : (recorded : Recorded) (place : ℕ) (blocks : Blocks) (o : OpenFiles) (f : OpenFile) (path text : Bytes) → o.top ≡ Some f → f.include ≡ None → slice_get f.named f.next ≡ Some path → recorded.content path ≡ Some text
    → length o.below.items ≡ depth_limit → RefusesFirst (open_left recorded place blocks o) f.path (f.number - 1) causes.TooDeep
deep-refused recorded place blocks o f path text top include named content deep =
    let fs = o.below.items in
    let source = source_of o.system in
    let depth = top_depth 0 fs in
    let outer = top_outer [] fs (cur o blocks) in
    let at = drop (length fs) (cur o blocks) in
    let inside = outer ++ option_to_list (or_none (slice_get at 0)) in
    let line : Line = record { source = source; file = f.path; number = f.number - 1; depth = depth; blocks = []; content = Refused causes.TooDeep } in
    let is-deep : eqb depth depth_limit ≡ true = let k = top-depth 0 fs in eq-eqb depth depth_limit (let h : depth ≡ depth_limit = omega (arith, k, deep) in h) in
    let left = refuses recorded source depth outer f at place (line ∷ []) [] (ap (deeper recorded source depth inside f.path (f.number - 1) (place + 0)) (next-files recorded source f path text include named content)
    ∙ depth-refuses recorded source depth inside f.path (f.number - 1) (place + 0) (record { path = path; text = text }) (flat_map (file_at recorded) (drop (suc f.next) f.named)) is-deep) in
    first-refused recorded place blocks o f line left.0 f.path (f.number - 1) causes.TooDeep top left.1 refl refl refl

pub large-refused : (recorded : Recorded) (place : ℕ) (blocks : Blocks) (o : OpenFiles) (f : OpenFile) (path text : Bytes) → o.top ≡ Some f → f.include ≡ None → slice_get f.named f.next ≡ Some path → recorded.content path ≡ Some text
    → length o.below.items < depth_limit → nat_lt size_limit (length text) ≡ true → RefusesFirst (open_left recorded place blocks o) path 0 causes.TooLarge
large-refused recorded place blocks o f path text top include named content low large =
    let fs = o.below.items in
    let source = source_of o.system in
    let depth = top_depth 0 fs in
    let outer = top_outer [] fs (cur o blocks) in
    let at = drop (length fs) (cur o blocks) in
    let inside = outer ++ option_to_list (or_none (slice_get at 0)) in
    let others = flat_map (file_at recorded) (drop (suc f.next) f.named) in
    let line : Line = record { source = source; file = path; number = 0; depth = depth + 1; blocks = []; content = Refused causes.TooLarge } in
    let not-deep : eqb depth depth_limit ≡ false = let k = top-depth 0 fs in ne_eqb depth depth_limit (λ h. absurd (omega (arith, k, low, h))) in
    let left = refuses recorded source depth outer f at place (line ∷ []) (each_file (one_below recorded source depth inside) (place + 0 + 1) others) (ap (deeper recorded source depth inside f.path (f.number - 1) (place + 0)) (next-files recorded source f path text include named content)
    ∙ size-refuses recorded source depth inside f.path (f.number - 1) (place + 0) (record { path = path; text = text }) others not-deep large) in
    first-refused recorded place blocks o f line left.0 path 0 causes.TooLarge top left.1 refl refl refl

-- ---- as the code needs them

pub refused-as : (before : List Line) (f g : Bytes) (m n : ℕ) (c d : Cause) → RefusesFirst before f m c → g ≡ f → n ≡ m → d ≡ c → RefusesFirst before g n d
refused-as before f g m n c d r file number cause = record { line = r.line; rest = r.rest; is = r.is; file_is = r.file_is ∙ sym file; number_is = r.number_is ∙ sym number; content = r.content ∙ ap (λ x. Refused x) (sym cause) }

-- an error that is this refusal
abbrev pub moved : List Line → List Line → ResolveError → Type 0
moved before after e = Moves {A = Unit {0}} before after (Err e)

-- a refusal that wants no memory is one
pub refuses-at : (le : LineError) (file : Bytes) (number : ℕ) (e : ResolveError) → e ≡ resolve_error_at le file number → RefusesLine le file number e
refuses-at line_errors.OutOfMemory file number e r = r
refuses-at (line_errors.Refused cause) file number e r = subst (λ x. RefusesLine (line_errors.Refused cause) file number x) (sym r) refl

pub moves-refused : (before after : List Line) (file : Bytes) (number : ℕ) (cause : Cause) (e : ResolveError) → RefusesLine (line_errors.Refused cause) file number e → RefusesFirst before file number cause → moved before after e
moves-refused before after file number cause errors.OutOfMemory r first = tt
moves-refused before after file number cause (errors.At f n c) r first = λ fault. refused-as before file f number n cause c first (cc) (cc) (cc)

past : (xs : List Bytes) (i : ℕ) → i < length xs → slice_get xs i ≡ None → ⊥
past [] i h e = omega (arith, h)
past (x ∷ xs) zero h e = cc
past (x ∷ xs) (suc i) h e = past xs i (omega (arith, h)) e

-- a file was found, if it was
pub found-text : (found : FoundFile) (content : Option Bytes) → (found ≡ Nothing → ⊥) → IsFound found content → (text : Bytes) × (content ≡ Some text)
found-text Nothing content some is = absurd (some refl)
found-text TooLarge None some is = absurd is
found-text TooLarge (Some text) some is = (text, refl)
found-text (Holds text) content some is = (text, is.0)

large-text : (content : Option Bytes) → IsFound TooLarge content → (text : Bytes) × ((content ≡ Some text) × (nat_lt size_limit (length text) ≡ true))
large-text None is = absurd is
large-text (Some text) is = (text, (refl, is))

abbrev pub named_one : OpenFile → Type 0
named_one f = (f.include ≡ None) × (f.next < length f.named)

pub moves-deep : (recorded : Recorded) (place : ℕ) (blocks : Blocks) (o : OpenFiles) (after : List Line) (found : FoundFile) (e : ResolveError) (t : Option OpenFile) → o.top ≡ t → IsSome t → IfSome t named_one → length o.below.items ≡ depth_limit
    → (found ≡ Nothing → ⊥) → Names t (λ path. IsFound found (recorded.content path)) → RefusesTop t causes.TooDeep e → moved (open_left recorded place blocks o) after e
moves-deep recorded place blocks o after found e None top some named deep is names r = absurd (let k : false ≡ true = some in cc)
moves-deep recorded place blocks o after found e (Some f) top some named deep is names r = by-path (slice_get f.named f.next) refl names
  where
    by-path : (p : Option Bytes) → slice_get f.named f.next ≡ p → IfSome p (λ path. IsFound found (recorded.content path)) → moved (open_left recorded place blocks o) after e
    by-path None at h = absurd (past f.named f.next named.1 at)
    by-path (Some path) at h = let text = found-text found (recorded.content path) is h in moves-refused (open_left recorded place blocks o) after f.path (f.number - 1) causes.TooDeep e r (deep-refused recorded place blocks o f path text.0 top named.0 at text.1 deep)

pub moves-large : (recorded : Recorded) (place : ℕ) (blocks : Blocks) (o : OpenFiles) (after : List Line) (e : ResolveError) (t : Option OpenFile) → o.top ≡ t → IsSome t → IfSome t named_one → length o.below.items < depth_limit
    → Names t (λ path. IsFound TooLarge (recorded.content path)) → RefusesNextFile t causes.TooLarge e → moved (open_left recorded place blocks o) after e
moves-large recorded place blocks o after e None top some named low names r = absurd (let k : false ≡ true = some in cc)
moves-large recorded place blocks o after e (Some f) top some named low names r = by-path (slice_get f.named f.next) refl names r
  where
    by-path : (p : Option Bytes) → slice_get f.named f.next ≡ p → IfSome p (λ path. IsFound TooLarge (recorded.content path)) → IfSome p (λ path. RefusesLine (line_errors.Refused causes.TooLarge) path 0 e) → moved (open_left recorded place blocks o) after e
    by-path None at h k = absurd (past f.named f.next named.1 at)
    by-path (Some path) at h k = let text = large-text (recorded.content path) h in moves-refused (open_left recorded place blocks o) after path 0 causes.TooLarge e k (large-refused recorded place blocks o f path text.0 top named.0 at text.1.0 low text.1.1)

-- what a file holds that was found
pub holds-names : (recorded : Recorded) (text : Bytes) (t : Option OpenFile) → IsSome t → IfSome t named_one → Names t (λ path. IsFound (Holds text) (recorded.content path)) → Names t (λ path. recorded.content path ≡ Some text) × (nat_lt size_limit (length text) ≡ false)
holds-names recorded text None some named names = absurd (let k : false ≡ true = some in cc)
holds-names recorded text (Some f) some named names = by-path (slice_get f.named f.next) refl names
  where
    by-path : (p : Option Bytes) → slice_get f.named f.next ≡ p → IfSome p (λ path. IsFound (Holds text) (recorded.content path)) → IfSome p (λ path. recorded.content path ≡ Some text) × (nat_lt size_limit (length text) ≡ false)
    by-path None at h = absurd (past f.named f.next named.1 at)
    by-path (Some path) at h = h

-- the last file has no paths to find
pub ready-top : (o : OpenFiles) (f : OpenFile) → AreFilesReady o → o.top ≡ Some f → f.include ≡ None
ready-top o f ready top = is-none f.include (last o.below.items f (ap (λ t. list_all is_expanded (o.below.items ++ option_to_list t)) (sym top) ∙ ready.expanded))
  where
    both : (a b : Bool) → (a && b) ≡ true → b ≡ true
    both true b e = e
    both false b e = absurd cc

    one : (a : Bool) → (a && true) ≡ true → a ≡ true
    one true e = refl
    one false e = absurd cc

    last : (fs : List OpenFile) (f : OpenFile) → list_all is_expanded (fs ++ f ∷ []) ≡ true → is_none f.include ≡ true
    last [] f e = one (is_none f.include) e
    last (g ∷ fs) f e = last fs f (both (is_expanded g) (list_all is_expanded (fs ++ f ∷ [])) e)

    is-none : (o : Option Bytes) → is_none o ≡ true → o ≡ None
    is-none None e = refl
    is-none (Some b) e = absurd cc

-- no path is left
pub none-left : (xs : List Bytes) (i : ℕ) → None ≡ slice_get xs i → length xs ≤ i
none-left [] i e = omega arith
none-left (x ∷ xs) zero e = absurd cc
none-left (x ∷ xs) (suc i) e = let k = none-left xs i e in omega (arith, k)

-- one is
pub one-left-path : (xs : List Bytes) (i : ℕ) (p : Bytes) → Some p ≡ slice_get xs i → i < length xs
one-left-path [] i p e = absurd cc
one-left-path (x ∷ xs) zero p e = omega arith
one-left-path (x ∷ xs) (suc i) p e = let k = one-left-path xs i p e in omega (arith, k)

-- what was found at the path that is opened next
pub found-names : (recorded : Recorded) (found : FoundFile) (f : OpenFile) (path : Bytes) → slice_get f.named f.next ≡ Some path → IsFound found (recorded.content path) → Names (Some f) (λ path. IsFound found (recorded.content path))
found-names recorded found f path named is = rw named is

-- what a step did to what was left, it did to what was left before
pub moved-before : (before now : List Line) (e : ResolveError) → before ≡ now → moved now [] e → moved before [] e
moved-before before now e same m = subst (λ b. moved b [] e) (sym same) m
