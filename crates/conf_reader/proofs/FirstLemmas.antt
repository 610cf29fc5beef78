-- Files that no line includes.
use Rattle.std.proofs.Common.{◌≡◌, ℕ, zero, suc, ◌+◌, ◌<◌, Bool, true, false, not, ◌&&◌, List, [], ◌∷◌, ◌++◌, length, drop, Option, Some, None, Result, Ok, Err, refl, sym, ap, ◌∙◌, arith}
use Rattle.std.specs.Prelude.{nat_lt, IfSome}
use Rattle.std.specs.List.{slice_get, list_all}
use Rattle.std.proofs.lemmas.List.{append-nil}
use Rattle.conf_rules.specs.declared.causes.Cause.{Cause}
use Rattle.conf_rules.specs.declared.causes.Cause.TheVariants as causes
use Rattle.conf_rules.specs.Texts.{Bytes}
use Rattle.conf_rules.specs.Recorded.{Recorded}
use Rattle.conf_rules.specs.Includes.{UserFile}
use Rattle.conf_rules.specs.Sources.{Line, Refused, file_lines, first_file, size_limit}
use Rattle.conf_reader.specs.declared.open_file.OpenFile.{OpenFile}
use Rattle.conf_reader.specs.declared.stack.OpenFiles.{OpenFiles}
use Rattle.conf_reader.specs.declared.lines.FirstFile.{FirstFile}
use Rattle.conf_reader.specs.declared.lines.Lines.{Lines}
use Rattle.conf_reader.specs.Blocks.{Blocks}
use Rattle.conf_reader.specs.Left.{source_of, open_left, parts_left, first_left, firsts_left, lines_to_give, is_plain_first, RefusesFirst, IsLacking, IsFound, Moves}
use Rattle.conf_reader.proofs.LeftLemmas.{new-left}
use Rattle.conf_reader.proofs.OpenLemmas.{drop-at}
use Rattle.conf_reader.proofs.RefusalLemmas.{moved, moves-refused}
use Rattle.conf_rules.specs.declared.causes.ResolveError.{ResolveError}
use Rattle.conf_rules.specs.declared.causes.ResolveError.TheVariants as errors
use Rattle.conf_reader.specs.declared.errors.LineError.TheVariants as line_errors
use Rattle.conf_reader.specs.declared.files.FoundFile.{FoundFile}
use Rattle.conf_reader.specs.declared.files.FoundFile.TheVariants.{TooLarge}
use Rattle.conf_reader.specs.Looking.{FirstFails}
use Rattle.conf_rules.specs.Diagnostics.{is_fault}
use Rattle.conf_reader.specs.Results.{RefusesLine}

-- a file that is there and not too large
first-text : (recorded : Recorded) (place : ℕ) (f : FirstFile) (text : Bytes) (t : Bool) → f.required ≡ t → is_plain_first f ≡ true → recorded.content f.path ≡ Some text → first_left recorded place f ≡ first_file (source_of f.system) recorded place (record { path = f.path; text = text })
first-text recorded place f text true required plain content = rw (required, content) (ap (λ s. first_file (source_of s) recorded place (record { path = f.path; text = text })) (user f.system (rw required at plain)))
  where
    user : (s : Bool) → not s ≡ true → false ≡ s
    user true e = absurd cc
    user false e = refl
first-text recorded place f text false required plain content = rw (required, content) (append-nil (first_file (source_of f.system) recorded place (record { path = f.path; text = text })))

-- one that isn't there is skipped, or refused
pub first-none : (recorded : Recorded) (place : ℕ) (f : FirstFile) → f.required ≡ false → recorded.content f.path ≡ None → first_left recorded place f ≡ []
first-none recorded place f required content = rw (required, content) refl

-- a first file begins
pub begins-left : (recorded : Recorded) (place : ℕ) (blocks : Blocks) (r : Lines) (f : FirstFile) (path text : Bytes) (new : OpenFile) → r.open_files.top ≡ None → r.open_files.below.items ≡ [] → slice_get r.firsts.items r.next_first ≡ Some f → is_plain_first f ≡ true
    → path ≡ f.path → recorded.content f.path ≡ Some text → nat_lt size_limit (length text) ≡ false
    → new ≡ record { path = path; text = text; at = 0; number = 1; include = None; named = []; next = 0 }
    → lines_to_give recorded place blocks r ≡ parts_left recorded place blocks f.system r.open_files.below.items (Some new) true ++ firsts_left recorded (place + length (parts_left recorded place blocks f.system r.open_files.below.items (Some new) true)) (drop (r.next_first + 1) r.firsts.items)
unfolding file_lines
begins-left recorded place blocks r f path text new top below named plain path-is content small new-is =
    let source = source_of f.system in
    let file : OpenFile = record { path = f.path; text = text; at = 0; number = 1; include = None; named = []; next = 0 } in
    let file-is : file ≡ new = ap (λ p. record { path = p; text = text; at = 0; number = 1; include = None; named = []; next = 0 }) (sym path-is) ∙ sym new-is in
    let here = first_left recorded (place + 0) f in
    let later = drop (r.next_first + 1) r.firsts.items in
    let nothing : open_left recorded place blocks r.open_files ≡ [] = rw (top, below) refl in
    let next : suc r.next_first ≡ r.next_first + 1 = omega arith in
    let firsts : drop r.next_first r.firsts.items ≡ f ∷ later = drop-at r.firsts.items r.next_first f named ∙ ap (λ i. f ∷ drop i r.firsts.items) next in
    let old : lines_to_give recorded place blocks r ≡ here ++ firsts_left recorded (place + 0 + length here) later =
    ap (λ o. o ++ firsts_left recorded (place + length o) (drop r.next_first r.firsts.items)) nothing ∙ ap (firsts_left recorded (place + 0)) firsts in
    let opened : parts_left recorded place blocks f.system r.open_files.below.items (Some new) true ≡ here =
    ap (λ fs. parts_left recorded place blocks f.system fs (Some new) true) below
    ∙ ap (λ x. parts_left recorded place blocks f.system [] (Some x) true) (sym file-is)
    ∙ new-left recorded source 0 [] file (place + 0) refl refl refl
    ∙ sym (first-text recorded (place + 0) f text f.required refl plain content ∙ rw small refl) in
    let z : place + 0 + length here ≡ place + length here = omega arith in
    old ∙ ap (λ n. here ++ firsts_left recorded n later) z ∙ ap (λ o. o ++ firsts_left recorded (place + length o) later) (sym opened)

-- each of some first files is plain
pub plain-at : (fs : List FirstFile) (i : ℕ) (f : FirstFile) → list_all is_plain_first fs ≡ true → slice_get fs i ≡ Some f → is_plain_first f ≡ true
plain-at [] i f e h = absurd cc
plain-at (g ∷ fs) zero f e h = let k : g ≡ f = cc in rw (sym k) (one (is_plain_first g) (list_all is_plain_first fs) e)
  where
    one : (a b : Bool) → (a && b) ≡ true → a ≡ true
    one true b e = refl
    one false b e = absurd cc
plain-at (g ∷ fs) (suc i) f e h = plain-at fs i f (two (is_plain_first g) (list_all is_plain_first fs) e) h
  where
    two : (a b : Bool) → (a && b) ≡ true → b ≡ true
    two true b e = e
    two false b e = absurd cc

-- nothing is open
nothing-open : (recorded : Recorded) (place : ℕ) (blocks : Blocks) (r : Lines) → r.open_files.top ≡ None → r.open_files.below.items ≡ [] → open_left recorded place blocks r.open_files ≡ []
nothing-open recorded place blocks r top below = rw (top, below) refl

-- what is left begins with the next first file
next-left : (recorded : Recorded) (place : ℕ) (blocks : Blocks) (r : Lines) (f : FirstFile) → r.open_files.top ≡ None → r.open_files.below.items ≡ [] → slice_get r.firsts.items r.next_first ≡ Some f
    → lines_to_give recorded place blocks r ≡ first_left recorded (place + 0) f ++ firsts_left recorded (place + 0 + length (first_left recorded (place + 0) f)) (drop (r.next_first + 1) r.firsts.items)
next-left recorded place blocks r f top below named =
    let next : suc r.next_first ≡ r.next_first + 1 = omega arith in
    let firsts : drop r.next_first r.firsts.items ≡ f ∷ drop (r.next_first + 1) r.firsts.items = drop-at r.firsts.items r.next_first f named ∙ ap (λ i. f ∷ drop i r.firsts.items) next in
    ap (λ o. o ++ firsts_left recorded (place + length o) (drop r.next_first r.firsts.items)) (nothing-open recorded place blocks r top below) ∙ ap (firsts_left recorded (place + 0)) firsts

pub skips-left : (recorded : Recorded) (place : ℕ) (blocks : Blocks) (r : Lines) (f : FirstFile) → r.open_files.top ≡ None → r.open_files.below.items ≡ [] → slice_get r.firsts.items r.next_first ≡ Some f → recorded.content f.path ≡ None → f.required ≡ false
    → lines_to_give recorded place blocks r ≡ lines_to_give recorded place blocks (record r { next_first = r.next_first + 1 })
skips-left recorded place blocks r f top below named none required =
    let later = drop (r.next_first + 1) r.firsts.items in
    let z : place + 0 + 0 ≡ place + 0 = omega arith in
    next-left recorded place blocks r f top below named
    ∙ ap (λ here. here ++ firsts_left recorded (place + 0 + length here) later) (first-none recorded (place + 0) f required none)
    ∙ ap (λ n. firsts_left recorded n later) z
    ∙ sym (ap (λ o. o ++ firsts_left recorded (place + length o) later) (nothing-open recorded place blocks r top below))

-- a file that is refused
pub file-refused : (recorded : Recorded) (place : ℕ) (blocks : Blocks) (r : Lines) (f : FirstFile) (line : Line) (rest : List Line) (cause : Cause) → r.open_files.top ≡ None → r.open_files.below.items ≡ [] → slice_get r.firsts.items r.next_first ≡ Some f
    → first_left recorded (place + 0) f ≡ line ∷ rest → line.file ≡ f.path → line.number ≡ 0 → line.content ≡ Refused cause → RefusesFirst (lines_to_give recorded place blocks r) f.path 0 cause
file-refused recorded place blocks r f line rest cause top below named here file number content = record {
  line = line;
  rest = rest ++ firsts_left recorded (place + 0 + length (first_left recorded (place + 0) f)) (drop (r.next_first + 1) r.firsts.items);
  is = next-left recorded place blocks r f top below named ∙ ap (λ xs. xs ++ firsts_left recorded (place + 0 + length (first_left recorded (place + 0) f)) (drop (r.next_first + 1) r.firsts.items)) here;
  file_is = file;
  number_is = number;
  content = content;
}

pub lack-refused : (recorded : Recorded) (place : ℕ) (blocks : Blocks) (r : Lines) (f : FirstFile) → r.open_files.top ≡ None → r.open_files.below.items ≡ [] → slice_get r.firsts.items r.next_first ≡ Some f → recorded.content f.path ≡ None → f.required ≡ true
    → RefusesFirst (lines_to_give recorded place blocks r) f.path 0 causes.NoFile
lack-refused recorded place blocks r f top below named none required =
    file-refused recorded place blocks r f (record { source = UserFile; file = f.path; number = 0; depth = 0; blocks = []; content = Refused causes.NoFile }) [] causes.NoFile top below named (rw (required, none) refl) refl refl refl

pub size-refused : (recorded : Recorded) (place : ℕ) (blocks : Blocks) (r : Lines) (f : FirstFile) (text : Bytes) → r.open_files.top ≡ None → r.open_files.below.items ≡ [] → slice_get r.firsts.items r.next_first ≡ Some f → is_plain_first f ≡ true → recorded.content f.path ≡ Some text → nat_lt size_limit (length text) ≡ true
    → RefusesFirst (lines_to_give recorded place blocks r) f.path 0 causes.TooLarge
unfolding file_lines
size-refused recorded place blocks r f text top below named plain content large =
    file-refused recorded place blocks r f (record { source = source_of f.system; file = f.path; number = 0; depth = 0; blocks = []; content = Refused causes.TooLarge }) [] causes.TooLarge top below named
    (first-text recorded (place + 0) f text f.required refl plain content ∙ rw large refl) refl refl refl

-- ---- as the code needs them

within : (fs : List FirstFile) (i : ℕ) → i < length fs → slice_get fs i ≡ None → ⊥
within [] i h e = omega (arith, h)
within (x ∷ xs) zero h e = cc
within (x ∷ xs) (suc i) h e = within xs i (omega (arith, h)) e

pub below-end : (fs : List FirstFile) (i : ℕ) (f : FirstFile) → slice_get fs i ≡ Some f → i < length fs
below-end [] i f e = absurd cc
below-end (x ∷ xs) zero f e = omega arith
below-end (x ∷ xs) (suc i) f e = let k = below-end xs i f e in omega (arith, k)

pub skips-next : (recorded : Recorded) (place : ℕ) (blocks : Blocks) (r : Lines) → r.open_files.top ≡ None → r.open_files.below.items ≡ [] → r.next_first < length r.firsts.items → IsLacking recorded r → lines_to_give recorded place blocks r ≡ lines_to_give recorded place blocks (record r { next_first = r.next_first + 1 })
skips-next recorded place blocks r top below low lacks = by (slice_get r.firsts.items r.next_first) refl lacks
  where
    by : (o : Option FirstFile) → slice_get r.firsts.items r.next_first ≡ o → IfSome o (λ f. (recorded.content f.path ≡ None) × (f.required ≡ false)) → lines_to_give recorded place blocks r ≡ lines_to_give recorded place blocks (record r { next_first = r.next_first + 1 })
    by None e h = absurd (within r.firsts.items r.next_first low e)
    by (Some f) e h = skips-left recorded place blocks r f top below e h.0 h.1

pub size-moves : (recorded : Recorded) (place : ℕ) (blocks : Blocks) (r : Lines) (f : FirstFile) (e : ResolveError) (content : Option Bytes) → recorded.content f.path ≡ content → r.open_files.top ≡ None → r.open_files.below.items ≡ [] → slice_get r.firsts.items r.next_first ≡ Some f → is_plain_first f ≡ true → IsFound TooLarge content
    → RefusesLine (line_errors.Refused causes.TooLarge) f.path 0 e → moved (lines_to_give recorded place blocks r) [] e
size-moves recorded place blocks r f e None content top below named plain found refused = absurd found
size-moves recorded place blocks r f e (Some text) content top below named plain found refused = moves-refused (lines_to_give recorded place blocks r) [] f.path 0 causes.TooLarge e refused (size-refused recorded place blocks r f text top below named plain content found)

-- ---- steps of open files are steps of a reader

lift-first : (recorded : Recorded) (place : ℕ) (blocks : Blocks) (r : Lines) (file : Bytes) (number : ℕ) (cause : Cause) → RefusesFirst (open_left recorded place blocks r.open_files) file number cause → RefusesFirst (lines_to_give recorded place blocks r) file number cause
lift-first recorded place blocks r file number cause f =
    let later = firsts_left recorded (place + length (open_left recorded place blocks r.open_files)) (drop r.next_first r.firsts.items) in
    record { line = f.line; rest = f.rest ++ later; is = ap (λ o. o ++ later) f.is; file_is = f.file_is; number_is = f.number_is; content = f.content }

pub lift-moves : {A : Type 0} (recorded : Recorded) (place : ℕ) (blocks : Blocks) (r : Lines) (n : OpenFiles) (res : Result A ResolveError) → Moves {A = A} (open_left recorded place blocks r.open_files) (open_left recorded place blocks n) res
    → Moves {A = A} (lines_to_give recorded place blocks r) (lines_to_give recorded place blocks (record r { open_files = n })) res
lift-moves recorded place blocks r n (Ok b) m = ap (λ o. o ++ firsts_left recorded (place + length o) (drop r.next_first r.firsts.items)) m
lift-moves recorded place blocks r n (Err errors.OutOfMemory) m = tt
lift-moves recorded place blocks r n (Err (errors.At file number cause)) m = λ fault. lift-first recorded place blocks r file number cause (m fault)

-- a failed read refuses none of the lines that are left
pub fails-moved : (before : List Line) (path : Bytes) (e : ResolveError) (failed now : Option (List Bytes)) → FirstFails {A = FoundFile} path (Err e) failed now → moved before [] e
fails-moved before path errors.OutOfMemory failed now fails = tt
fails-moved before path (errors.At file line cause) failed now fails = λ quiet. absurd (let same : cause ≡ causes.ReadFault = cc in let loud : is_fault cause ≡ true = ap is_fault same in let k : true ≡ false = sym loud ∙ quiet in cc)
