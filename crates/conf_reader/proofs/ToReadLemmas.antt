-- What open files have still to read, step by step.
use Rattle.std.proofs.Common.{◌≡◌, ℕ, zero, suc, ◌+◌, ◌-◌, ◌<◌, ◌≤◌, Bool, true, false, List, [], ◌∷◌, ◌++◌, length, drop, Option, Some, None, Result, Ok, Err, refl, sym, ap, subst, ◌∙◌, append_assoc, arith, codes}
use Rattle.std.specs.Prelude.{flat_map, map, option_to_list, IfSome, IsSome}
use Rattle.std.specs.List.{slice_get}
use Rattle.std.specs.Option.{option_map}
use Rattle.std.proofs.lemmas.List.{append-nil, length-append, map-append}
use Rattle.std.proofs.Math.ListN.{drop_of_length-le}
use Rattle.mux_outside.specs.declared.reading.Reading.{Reading}
use Rattle.conf_rules.specs.declared.causes.LexError.{LexError}
use Rattle.conf_rules.specs.declared.causes.ResolveError.{ResolveError}
use Rattle.conf_rules.specs.declared.causes.ResolveError.TheVariants as errors
use Rattle.conf_reader.specs.declared.files.FoundFile.{FoundFile}
use Rattle.conf_rules.specs.declared.causes.TokenError.{TokenError}
use Rattle.conf_rules.specs.declared.asked.ConfigFrom.{ConfigFrom}
use Rattle.conf_rules.specs.declared.asked.ConfigFrom.TheVariants.{Standard, Nothing, File}
use Rattle.conf_rules.specs.Texts.{Bytes, same_word}
use Rattle.conf_rules.specs.Heads.{Comment, Says, head_of, lines_of}
use Rattle.conf_rules.specs.Words.{words_of}
use Rattle.conf_rules.specs.Recorded.{Recorded}
use Rattle.conf_rules.specs.Results.{◌>>=◌}
use Rattle.conf_rules.specs.Includes.{Source, UserFile, SystemFile, file_at, paths_of, globbed}
use Rattle.conf_rules.specs.Sources.{depth_limit, user_path}
use Rattle.conf_rules.specs.ReadOrder.{paths_behind, paths_in, paths_at, read_along, read_by, read_first, read_once}
use Rattle.conf_reader.specs.declared.open_file.OpenFile.{OpenFile}
use Rattle.conf_reader.specs.declared.open_file.Said.{Said}
use Rattle.conf_reader.specs.declared.open_file.NextFile.{NextFile}
use Rattle.conf_reader.specs.declared.stack.OpenFiles.{OpenFiles}
use Rattle.conf_reader.specs.declared.lines.FirstFile.{FirstFile}
use Rattle.conf_reader.specs.declared.lines.Lines.{Lines}
use Rattle.conf_reader.specs.Firsts.{firsts_of}
use Rattle.conf_reader.specs.Left.{source_of, IsFileSettled, HeadIs, Names, heading_of, gone, include_of, named_as, named_by}
use Rattle.conf_reader.specs.ToRead.{names_left, file_reads, files_read, open_reads, first_reads, all_to_read, reading_of, ReadsTo, ReadsSome, Notes, NotesFirst}
use Rattle.conf_reader.proofs.OpenLemmas.{drop-at}

-- ---- readings

none-more : (rs : Option (List Reading)) → rs ≡ option_map (λ xs. xs ++ []) rs
none-more None = refl
none-more (Some rs) = ap (λ x. Some x) (sym (append-nil rs))

-- nothing was read
pub stays-read : (before after : List Bytes) (readings now : Option (List Reading)) → before ≡ after → now ≡ readings → ReadsTo before after readings now
stays-read before after readings now e n = record { read = []; parts = e; noted = n ∙ none-more readings }

pub none-read : (before : List Bytes) (readings now : Option (List Reading)) → now ≡ readings → ReadsSome before readings now
none-read before readings now n = (before, stays-read before before readings now refl n)

-- one path was read
pub one-read : (path : Bytes) (before after : List Bytes) (readings now : Option (List Reading)) → before ≡ path ∷ after → now ≡ option_map (λ rs. rs ++ reading_of path ∷ []) readings → ReadsTo before after readings now
one-read path before after readings now e n = record { read = path ∷ []; parts = e; noted = n }

more-noted : (xs ys : List Bytes) (o : Option (List Reading)) → option_map (λ rs. rs ++ map reading_of ys) (option_map (λ rs. rs ++ map reading_of xs) o) ≡ option_map (λ rs. rs ++ map reading_of (xs ++ ys)) o
more-noted xs ys None = refl
more-noted xs ys (Some rs) = ap (λ z. Some z) (append_assoc rs (map reading_of xs) (map reading_of ys) ∙ ap (λ l. rs ++ l) (sym (map-append reading_of xs ys)))

-- what was read, and then more
pub then-read : (a b c : List Bytes) (r m n : Option (List Reading)) → ReadsTo a b r m → ReadsTo b c m n → ReadsTo a c r n
then-read a b c r m n x y = record {
  read = x.read ++ y.read;
  parts = x.parts ∙ ap (λ l. x.read ++ l) y.parts ∙ sym (append_assoc x.read y.read c);
  noted = y.noted ∙ ap (option_map (λ rs. rs ++ map reading_of y.read)) x.noted ∙ more-noted x.read y.read r;
}

pub then-some : (a b : List Bytes) (r m n : Option (List Reading)) → ReadsTo a b r m → ReadsSome b m n → ReadsSome a r n
then-some a b r m n x y = (y.0, then-read a b y.0 r m n x y.1)

-- ---- one file

along-none : (source : Source) (recorded : Recorded) (m : ℕ) → read_along source recorded m [] ≡ []
unfolding read_along
along-none source recorded zero = refl
along-none source recorded (suc m) = refl

-- what is read between a path and the next one
abbrev pub below_path : Source → Recorded → ℕ → Bytes → List Bytes
below_path source recorded zero path = []
below_path source recorded (suc m) path = flat_map (λ f. flat_map (read_by source recorded m) (lines_of f.text)) (file_at recorded path)

along-next : (source : Source) (recorded : Recorded) (m : ℕ) (path : Bytes) (rest : List Bytes) → read_along source recorded m (path ∷ rest) ≡ path ∷ (below_path source recorded m path ++ read_along source recorded m rest)
unfolding read_along
along-next source recorded zero path rest = refl
along-next source recorded (suc m) path rest = refl

nobody-below : (source : Source) (recorded : Recorded) (m : ℕ) (path : Bytes) → recorded.content path ≡ None → below_path source recorded m path ≡ []
nobody-below source recorded zero path none = refl
nobody-below source recorded (suc m) path none = rw none refl

file-below : (source : Source) (recorded : Recorded) (m : ℕ) (path text : Bytes) → recorded.content path ≡ Some text → below_path source recorded (suc m) path ≡ flat_map (read_by source recorded m) (lines_of text)
file-below source recorded m path text some = rw some (append-nil (flat_map (read_by source recorded m) (lines_of text)))

settled-names : (recorded : Recorded) (source : Source) (f : OpenFile) → IsFileSettled f → names_left recorded source f ≡ []
settled-names recorded source f s = let none : drop f.next f.named ≡ [] = drop_of_length-le f.named s.1 in rw (s.0, none) refl

next-reads : (recorded : Recorded) (source : Source) (depth : ℕ) (f : OpenFile) (path : Bytes) → f.include ≡ None → slice_get f.named f.next ≡ Some path
    → file_reads recorded source depth f ≡ path ∷ (below_path source recorded (depth_limit - depth) path ++ file_reads recorded source depth (record f { next = f.next + 1 }))
next-reads recorded source depth f path include named =
    let m = depth_limit - depth in
    let lines = flat_map (read_by source recorded m) (lines_of (drop f.at f.text)) in
    let rest = drop (f.next + 1) f.named in
    let next : suc f.next ≡ f.next + 1 = omega arith in
    let names : drop f.next f.named ≡ path ∷ rest = drop-at f.named f.next path named ∙ ap (λ i. path ∷ drop i f.named) next in
    let here : names_left recorded source f ≡ path ∷ rest = rw include names in
    let later : names_left recorded source (record f { next = f.next + 1 }) ≡ rest = rw include refl in
    ap (λ xs. read_along source recorded m xs ++ lines) here
    ∙ ap (λ xs. xs ++ lines) (along-next source recorded m path rest)
    ∙ ap (λ xs. path ∷ xs) (append_assoc (below_path source recorded m path) (read_along source recorded m rest) lines)
    ∙ ap (λ xs. path ∷ (below_path source recorded m path ++ (read_along source recorded m xs ++ lines))) (sym later)

-- a file at its end
closed-reads : (recorded : Recorded) (source : Source) (depth : ℕ) (f : OpenFile) → IsFileSettled f → length f.text ≤ f.at → file_reads recorded source depth f ≡ []
unfolding lines_of
closed-reads recorded source depth f s ended =
    let m = depth_limit - depth in
    ap (λ xs. read_along source recorded m xs ++ flat_map (read_by source recorded m) (lines_of (drop f.at f.text))) (settled-names recorded source f s)
    ∙ ap (λ t. read_along source recorded m [] ++ flat_map (read_by source recorded m) (lines_of t)) (drop_of_length-le f.text ended)
    ∙ ap (λ xs. xs ++ []) (along-none source recorded m)

-- a file at its beginning
begun-reads : (recorded : Recorded) (source : Source) (depth : ℕ) (path text : Bytes) → file_reads recorded source depth (record { path = path; text = text; at = 0; number = 1; include = None; named = []; next = 0 }) ≡ flat_map (read_by source recorded (depth_limit - depth)) (lines_of text)
begun-reads recorded source depth path text = ap (λ xs. xs ++ flat_map (read_by source recorded (depth_limit - depth)) (lines_of text)) (along-none source recorded (depth_limit - depth))

-- a file after its next line
taken-reads : (recorded : Recorded) (source : Source) (depth : ℕ) (f : OpenFile) (next : ℕ) (include : Option Bytes) (bytes : Bytes) → IsFileSettled f → lines_of (drop f.at f.text) ≡ bytes ∷ lines_of (drop next f.text)
    → names_left recorded source (gone next include f) ≡ paths_at source recorded bytes → file_reads recorded source depth f ≡ file_reads recorded source depth (gone next include f)
taken-reads recorded source depth f next include bytes s is names =
    let m = depth_limit - depth in
    let reads = read_by source recorded m in
    let later = flat_map reads (lines_of (drop next f.text)) in
    ap (λ xs. read_along source recorded m xs ++ flat_map reads (lines_of (drop f.at f.text))) (settled-names recorded source f s)
    ∙ ap (λ xs. xs ++ flat_map reads (lines_of (drop f.at f.text))) (along-none source recorded m)
    ∙ ap (flat_map reads) is
    ∙ ap (λ xs. read_along source recorded m xs ++ later) (sym names)

comment-names : (recorded : Recorded) (source : Source) (f : OpenFile) (next : ℕ) (bytes : Bytes) → IsFileSettled f → head_of bytes ≡ Ok Comment → names_left recorded source (gone next None f) ≡ paths_at source recorded bytes
unfolding paths_at
comment-names recorded source f next bytes s h = let none : drop f.next f.named ≡ [] = drop_of_length-le f.named s.1 in rw (h, none) refl

said-names : (recorded : Recorded) (source : Source) (f : OpenFile) (next : ℕ) (said : Said) (bytes : Bytes) (t : Bool) → same_word said.keyword (codes "include") ≡ t → IsFileSettled f → head_of bytes ≡ Ok (Says said.keyword said.rest)
    → names_left recorded source (gone next (include_of said) f) ≡ paths_at source recorded bytes
unfolding paths_at
said-names recorded source f next said bytes true same s h = rw (h, same) refl
said-names recorded source f next said bytes false same s h = let none : drop f.next f.named ≡ [] = drop_of_length-le f.named s.1 in rw (h, same, none) refl

-- the paths of an Include line that were found
paths-named : (source : Source) (recorded : Recorded) (words : Result (List Bytes) LexError) (paths : List Bytes) → named_by source recorded words ≡ Ok paths → paths_in source recorded words ≡ paths
paths-named source recorded (Err e) paths h = let k : [] ≡ paths = cc in k
paths-named source recorded (Ok words) paths h = by (paths_of source recorded words) h
  where
    by : (read : Result (List Bytes) TokenError) → (read >>= λ ps. Ok (flat_map (globbed recorded) ps)) ≡ Ok paths → paths_behind recorded read ≡ paths
    by (Err e) h = absurd cc
    by (Ok ps) h = let k : flat_map (globbed recorded) ps ≡ paths = cc in k

found-reads : (recorded : Recorded) (source : Source) (depth : ℕ) (f : OpenFile) (rest : Bytes) (paths : List Bytes) → f.include ≡ Some rest → named_by source recorded (words_of rest) ≡ Ok paths → file_reads recorded source depth f ≡ file_reads recorded source depth (named_as paths f)
found-reads recorded source depth f rest paths include named =
    let m = depth_limit - depth in
    let here : names_left recorded source f ≡ paths = rw include (paths-named source recorded (words_of rest) paths named) in
    ap (λ xs. read_along source recorded m xs ++ flat_map (read_by source recorded m) (lines_of (drop f.at f.text))) here

-- ---- open files

files-top : (recorded : Recorded) (source : Source) (depth : ℕ) (fs : List OpenFile) (f : OpenFile) → files_read recorded source depth (fs ++ f ∷ []) ≡ file_reads recorded source (depth + length fs) f ++ files_read recorded source depth fs
files-top recorded source depth [] f = let z : depth ≡ depth + 0 = omega arith in ap (λ d. file_reads recorded source d f) z ∙ sym (append-nil (file_reads recorded source (depth + 0) f))
files-top recorded source depth (x ∷ xs) f =
    let n : depth + 1 + length xs ≡ depth + suc (length xs) = omega arith in
    ap (λ ys. ys ++ file_reads recorded source depth x) (files-top recorded source (depth + 1) xs f)
    ∙ append_assoc (file_reads recorded source (depth + 1 + length xs) f) (files_read recorded source (depth + 1) xs) (file_reads recorded source depth x)
    ∙ ap (λ d. file_reads recorded source d f ++ (files_read recorded source (depth + 1) xs ++ file_reads recorded source depth x)) n

top-reads : (recorded : Recorded) (o : OpenFiles) (f : OpenFile) → o.top ≡ Some f → open_reads recorded o ≡ file_reads recorded (source_of o.system) (0 + length o.below.items) f ++ files_read recorded (source_of o.system) 0 o.below.items
top-reads recorded o f top = ap (λ t. files_read recorded (source_of o.system) 0 (o.below.items ++ option_to_list t)) top ∙ files-top recorded (source_of o.system) 0 o.below.items f

-- the last one changed
changed-reads : (recorded : Recorded) (o : OpenFiles) (f g : OpenFile) → o.top ≡ Some f → file_reads recorded (source_of o.system) (0 + length o.below.items) f ≡ file_reads recorded (source_of o.system) (0 + length o.below.items) g
    → open_reads recorded o ≡ files_read recorded (source_of o.system) 0 (o.below.items ++ g ∷ [])
changed-reads recorded o f g top same =
    top-reads recorded o f top ∙ ap (λ xs. xs ++ files_read recorded (source_of o.system) 0 o.below.items) same ∙ sym (files-top recorded (source_of o.system) 0 o.below.items g)

-- the path that is read next
pub path-first : (recorded : Recorded) (o : OpenFiles) (f : OpenFile) (path : Bytes) → o.top ≡ Some f → f.include ≡ None → slice_get f.named f.next ≡ Some path → (rest : List Bytes) × (open_reads recorded o ≡ path ∷ rest)
path-first recorded o f path top include named =
    (_, top-reads recorded o f top ∙ ap (λ xs. xs ++ files_read recorded (source_of o.system) 0 o.below.items) (next-reads recorded (source_of o.system) (0 + length o.below.items) f path include named))

pub skips-reads : (recorded : Recorded) (o : OpenFiles) (f : OpenFile) (path : Bytes) → o.top ≡ Some f → f.include ≡ None → slice_get f.named f.next ≡ Some path → recorded.content path ≡ None
    → open_reads recorded o ≡ path ∷ open_reads recorded (record o { top = Some (record f { next = f.next + 1 }) })
skips-reads recorded o f path top include named none =
    let source = source_of o.system in
    let depth = 0 + length o.below.items in
    let g : OpenFile = record f { next = f.next + 1 } in
    let below = files_read recorded source 0 o.below.items in
    top-reads recorded o f top
    ∙ ap (λ xs. xs ++ below) (next-reads recorded source depth f path include named)
    ∙ ap (λ b. path ∷ ((b ++ file_reads recorded source depth g) ++ below)) (nobody-below source recorded (depth_limit - depth) path none)
    ∙ ap (λ xs. path ∷ xs) (sym (files-top recorded source 0 o.below.items g))

pub enters-reads : (recorded : Recorded) (o : OpenFiles) (below : List OpenFile) (f g new : OpenFile) (path text : Bytes) → length o.below.items < depth_limit → o.top ≡ Some f → f.include ≡ None → slice_get f.named f.next ≡ Some path → recorded.content path ≡ Some text
    → below ≡ o.below.items ++ g ∷ [] → g ≡ record f { next = f.next + 1 } → new ≡ record { path = path; text = text; at = 0; number = 1; include = None; named = []; next = 0 }
    → open_reads recorded o ≡ path ∷ files_read recorded (source_of o.system) 0 (below ++ new ∷ [])
enters-reads recorded o below f g new path text deep top include named some below-is g-is new-is =
    let source = source_of o.system in
    let fs = o.below.items in
    let depth = 0 + length fs in
    let g' : OpenFile = record f { next = f.next + 1 } in
    let new' : OpenFile = record { path = path; text = text; at = 0; number = 1; include = None; named = []; next = 0 } in
    let under = files_read recorded source 0 fs in
    let inner : ℕ = 0 + length (fs ++ g' ∷ []) in
    let more : depth_limit - depth ≡ suc (depth_limit - inner) = let k = length-append fs (g' ∷ []) in omega (arith, k, deep) in
    let here : below_path source recorded (depth_limit - depth) path ≡ file_reads recorded source inner new' =
    ap (λ m. below_path source recorded m path) more ∙ file-below source recorded (depth_limit - inner) path text some ∙ sym (begun-reads recorded source inner path text) in
    let parts : (fs ++ g' ∷ []) ++ new' ∷ [] ≡ below ++ new ∷ [] = ap (λ xs. (fs ++ xs ∷ []) ++ new' ∷ []) (sym g-is) ∙ ap (λ xs. xs ++ new' ∷ []) (sym below-is) ∙ ap (λ x. below ++ x ∷ []) (sym new-is) in
    top-reads recorded o f top
    ∙ ap (λ xs. xs ++ under) (next-reads recorded source depth f path include named)
    ∙ ap (λ b. path ∷ ((b ++ file_reads recorded source depth g') ++ under)) here
    ∙ ap (λ xs. path ∷ xs) (append_assoc (file_reads recorded source inner new') (file_reads recorded source depth g') under)
    ∙ ap (λ xs. path ∷ (file_reads recorded source inner new' ++ xs)) (sym (files-top recorded source 0 fs g'))
    ∙ ap (λ xs. path ∷ xs) (sym (files-top recorded source 0 (fs ++ g' ∷ []) new'))
    ∙ ap (λ xs. path ∷ files_read recorded source 0 xs) parts

-- the last one is closed
pub closes-reads : (recorded : Recorded) (o : OpenFiles) (below : List OpenFile) (n t : Option OpenFile) → o.top ≡ n → IsSome n → IfSome n (λ f. IsFileSettled f × (length f.text ≤ f.at)) → o.below.items ≡ below ++ option_to_list t
    → open_reads recorded o ≡ files_read recorded (source_of o.system) 0 (below ++ option_to_list t)
closes-reads recorded o below None t top some ended same = absurd (let k : false ≡ true = some in cc)
closes-reads recorded o below (Some f) t top some ended same =
    top-reads recorded o f top ∙ ap (λ xs. xs ++ files_read recorded (source_of o.system) 0 o.below.items) (closed-reads recorded (source_of o.system) (0 + length o.below.items) f ended.0 ended.1) ∙ ap (files_read recorded (source_of o.system) 0) same

-- a comment names nothing to read
pub comment-reads : (recorded : Recorded) (o : OpenFiles) (t : Option OpenFile) (next : NextFile) → o.top ≡ t → IsSome t → IfSome t (λ f. IsFileSettled f × (f.at < length f.text)) → IfSome t (λ f. HeadIs f (Ok next)) → next.said ≡ None
    → open_reads recorded o ≡ open_reads recorded (record o { top = option_map (gone next.next None) t })
comment-reads recorded o None next top some line head said = absurd (let k : false ≡ true = some in cc)
comment-reads recorded o (Some f) next top some line head said =
    let source = source_of o.system in
    let n = rw (ap heading_of said) at head in
    changed-reads recorded o f (gone next.next None f) top (taken-reads recorded source (0 + length o.below.items) f next.next None n.bytes line.0 n.is (comment-names recorded source f next.next n.bytes line.0 n.head))

-- a line is given
pub gives-reads : (recorded : Recorded) (o : OpenFiles) (t : Option OpenFile) (next : NextFile) (said : Said) → o.top ≡ t → IsSome t → IfSome t (λ f. IsFileSettled f × (f.at < length f.text)) → IfSome t (λ f. HeadIs f (Ok next)) → next.said ≡ Some said
    → open_reads recorded o ≡ open_reads recorded (record o { top = option_map (gone next.next (include_of said)) t; fresh = false })
gives-reads recorded o None next said top some line head says = absurd (let k : false ≡ true = some in cc)
gives-reads recorded o (Some f) next said top some line head says =
    let source = source_of o.system in
    let n = rw (ap heading_of says) at head in
    changed-reads recorded o f (gone next.next (include_of said) f) top
    (taken-reads recorded source (0 + length o.below.items) f next.next (include_of said) n.bytes line.0 n.is (said-names recorded source f next.next said n.bytes (same_word said.keyword (codes "include")) refl line.0 n.head))

-- the paths of the last line are known
pub named-reads : (recorded : Recorded) (o : OpenFiles) (f : OpenFile) (rest : Bytes) (paths : List Bytes) → o.top ≡ Some f → f.include ≡ Some rest → named_by (source_of o.system) recorded (words_of rest) ≡ Ok paths
    → open_reads recorded o ≡ open_reads recorded (record o { top = Some (named_as paths f) })
named-reads recorded o f rest paths top include named = changed-reads recorded o f (named_as paths f) top (found-reads recorded (source_of o.system) (0 + length o.below.items) f rest paths include named)

-- ---- all files

pub more-left : (before left more : List Bytes) (readings now : Option (List Reading)) → ReadsTo before left readings now → ReadsTo (before ++ more) (left ++ more) readings now
more-left before left more readings now h = record { read = h.read; parts = ap (λ xs. xs ++ more) h.parts ∙ append_assoc h.read left more; noted = h.noted }

pub all-note : (A : Type 0) (recorded : Recorded) (r : Lines) (new : OpenFiles) (result : Result A ResolveError) (readings now : Option (List Reading)) → Notes (open_reads recorded r.open_files) (open_reads recorded new) result readings now → Notes (all_to_read recorded r) (all_to_read recorded (record r { open_files = new })) result readings now
all-note A recorded r new (Ok x) readings now h = more-left (open_reads recorded r.open_files) (open_reads recorded new) (flat_map (first_reads recorded) (drop r.next_first r.firsts.items)) readings now h
all-note A recorded r new (Err e) readings now h =
    let more = flat_map (first_reads recorded) (drop r.next_first r.firsts.items) in
    (h.0 ++ more, more-left (open_reads recorded r.open_files) h.0 more readings now h.1)

none-open : (recorded : Recorded) (o : OpenFiles) → o.top ≡ None → o.below.items ≡ [] → open_reads recorded o ≡ []
none-open recorded o top below = rw (top, below) refl

-- the first file that is read next
first-next : (recorded : Recorded) (r : Lines) (f : FirstFile) → r.open_files.top ≡ None → r.open_files.below.items ≡ [] → slice_get r.firsts.items r.next_first ≡ Some f
    → all_to_read recorded r ≡ f.path ∷ (below_path (source_of f.system) recorded (suc depth_limit) f.path ++ flat_map (first_reads recorded) (drop (r.next_first + 1) r.firsts.items))
first-next recorded r f top below named =
    let next : suc r.next_first ≡ r.next_first + 1 = omega arith in
    let firsts : drop r.next_first r.firsts.items ≡ f ∷ drop (r.next_first + 1) r.firsts.items = drop-at r.firsts.items r.next_first f named ∙ ap (λ i. f ∷ drop i r.firsts.items) next in
    ap (λ xs. xs ++ flat_map (first_reads recorded) (drop r.next_first r.firsts.items)) (none-open recorded r.open_files top below) ∙ ap (flat_map (first_reads recorded)) firsts

pub first-some : (recorded : Recorded) (r : Lines) (f : FirstFile) → r.open_files.top ≡ None → r.open_files.below.items ≡ [] → slice_get r.firsts.items r.next_first ≡ Some f → (rest : List Bytes) × (all_to_read recorded r ≡ f.path ∷ rest)
first-some recorded r f top below named = (_, first-next recorded r f top below named)

pub first-skipped : (recorded : Recorded) (r : Lines) (f : FirstFile) → r.open_files.top ≡ None → r.open_files.below.items ≡ [] → slice_get r.firsts.items r.next_first ≡ Some f → recorded.content f.path ≡ None
    → all_to_read recorded r ≡ f.path ∷ all_to_read recorded (record r { next_first = r.next_first + 1 })
first-skipped recorded r f top below named none =
    let rest = flat_map (first_reads recorded) (drop (r.next_first + 1) r.firsts.items) in
    first-next recorded r f top below named ∙ ap (λ b. f.path ∷ (b ++ rest)) (nobody-below (source_of f.system) recorded (suc depth_limit) f.path none)
    ∙ ap (λ o. f.path ∷ (o ++ rest)) (sym (none-open recorded r.open_files top below))

pub first-begun : (recorded : Recorded) (r : Lines) (f : FirstFile) (path text : Bytes) (new : OpenFile) → r.open_files.top ≡ None → r.open_files.below.items ≡ [] → slice_get r.firsts.items r.next_first ≡ Some f → recorded.content f.path ≡ Some text
    → path ≡ f.path → new ≡ record { path = path; text = text; at = 0; number = 1; include = None; named = []; next = 0 }
    → all_to_read recorded r ≡ f.path ∷ (files_read recorded (source_of f.system) 0 (r.open_files.below.items ++ new ∷ []) ++ flat_map (first_reads recorded) (drop (r.next_first + 1) r.firsts.items))
first-begun recorded r f path text new top below named some path-is new-is =
    let source = source_of f.system in
    let rest = flat_map (first_reads recorded) (drop (r.next_first + 1) r.firsts.items) in
    let new' : OpenFile = record { path = path; text = text; at = 0; number = 1; include = None; named = []; next = 0 } in
    let whole : depth_limit ≡ depth_limit - 0 = omega arith in
    let here : below_path source recorded (suc depth_limit) f.path ≡ file_reads recorded source 0 new' =
    file-below source recorded depth_limit f.path text some ∙ ap (λ m. flat_map (read_by source recorded m) (lines_of text)) whole ∙ sym (begun-reads recorded source 0 path text) in
    first-next recorded r f top below named
    ∙ ap (λ b. f.path ∷ (b ++ rest)) here
    ∙ ap (λ n. f.path ∷ (file_reads recorded source 0 n ++ rest)) (sym new-is)
    ∙ ap (λ fs. f.path ∷ (files_read recorded source 0 (fs ++ new ∷ []) ++ rest)) (sym below)

-- at the end
pub ended-reads : (recorded : Recorded) (r : Lines) → r.open_files.top ≡ None → r.open_files.below.items ≡ [] → length r.firsts.items ≤ r.next_first → all_to_read recorded r ≡ []
ended-reads recorded r top below past =
    ap (λ xs. xs ++ flat_map (first_reads recorded) (drop r.next_first r.firsts.items)) (none-open recorded r.open_files top below) ∙ ap (flat_map (first_reads recorded)) (drop_of_length-le r.firsts.items past)

-- at the beginning
pub firsts-once : (recorded : Recorded) (home : Option Bytes) (from : ConfigFrom) → recorded.facts.home ≡ home → flat_map (first_reads recorded) (firsts_of home from) ≡ read_once recorded from
unfolding read_once
firsts-once recorded None Standard h =
    let system = read_first SystemFile recorded (codes "/etc/ssh/ssh_config") in
    append-nil system ∙ ap (λ known. flat_map (read_first UserFile recorded) (user_path known) ++ system) (sym h)
firsts-once recorded (Some home) Standard h =
    let user = read_first UserFile recorded (home ++ codes "/.ssh/config") in
    let system = read_first SystemFile recorded (codes "/etc/ssh/ssh_config") in
    ap (λ l. user ++ l) (append-nil system) ∙ ap (λ l. l ++ system) (sym (append-nil user)) ∙ ap (λ known. flat_map (read_first UserFile recorded) (user_path known) ++ system) (sym h)
firsts-once recorded home Nothing h = refl
firsts-once recorded home (File path) h = append-nil _

-- ---- as the code needs them

pub names-each : (f : OpenFile) (fact : Bytes → Type 0) → ((path : Bytes) → slice_get f.named f.next ≡ Some path → fact path) → Names (Some f) fact
names-each f fact h = by (slice_get f.named f.next) refl
  where
    by : (p : Option Bytes) → slice_get f.named f.next ≡ p → IfSome p fact
    by None e = tt
    by (Some path) e = h path e

pub names-map : (t : Option OpenFile) (fact more : Bytes → Type 0) → ((path : Bytes) → fact path → more path) → Names t fact → Names t more
names-map None fact more h n = tt
names-map (Some f) fact more h n = by (slice_get f.named f.next) n
  where
    by : (p : Option Bytes) → IfSome p fact → IfSome p more
    by None k = tt
    by (Some path) k = h path k

pub names-at : (t : Option OpenFile) (f : OpenFile) (path : Bytes) (fact : Bytes → Type 0) → t ≡ Some f → slice_get f.named f.next ≡ Some path → Names t fact → fact path
names-at t f path fact top at n = subst (λ p. IfSome p fact) at (subst (λ x. Names x fact) top n)

-- a path that was read, after which the call fails
pub fails-behind : (path : Bytes) (before rest : List Bytes) (readings now : Option (List Reading)) → before ≡ path ∷ rest → now ≡ option_map (λ rs. rs ++ reading_of path ∷ []) readings → ReadsSome before readings now
fails-behind path before rest readings now e n = (rest, one-read path before rest readings now e n)

-- a first file was read, after which the call fails
pub first-behind : (recorded : Recorded) (r : Lines) (f : FirstFile) (path : Bytes) (readings now : Option (List Reading)) → r.open_files.top ≡ None → r.open_files.below.items ≡ [] → slice_get r.firsts.items r.next_first ≡ Some f → path ≡ f.path
    → now ≡ option_map (λ rs. rs ++ reading_of path ∷ []) readings → ReadsSome (all_to_read recorded r) readings now
first-behind recorded r f path readings now top below named same noted =
    let some = first-some recorded r f top below named in
    fails-behind f.path (all_to_read recorded r) some.0 readings now some.1 (subst (λ p. now ≡ option_map (λ rs. rs ++ reading_of p ∷ []) readings) same noted)

-- a first file's read, or the memory for it, failed
pub first-fails : (path given : Bytes) (before rest : List Bytes) (e : ResolveError) (readings now : Option (List Reading)) → given ≡ path → before ≡ path ∷ rest → NotesFirst {A = FoundFile} given (Err e) readings now → ReadsSome before readings now
first-fails path given before rest errors.OutOfMemory readings now same is n = none-read before readings now n
first-fails path given before rest (errors.At file line cause) readings now same is n = fails-behind path before rest readings now is (subst (λ p. now ≡ option_map (λ rs. rs ++ reading_of p ∷ []) readings) same n)

pub first-each : (r : Lines) (fact : FirstFile → Type 0) → ((f : FirstFile) → slice_get r.firsts.items r.next_first ≡ Some f → fact f) → IfSome (slice_get r.firsts.items r.next_first) fact
first-each r fact h = by (slice_get r.firsts.items r.next_first) refl
  where
    by : (p : Option FirstFile) → slice_get r.firsts.items r.next_first ≡ p → IfSome p fact
    by None e = tt
    by (Some f) e = h f e

pub first-at : (r : Lines) (f : FirstFile) (fact : FirstFile → Type 0) → slice_get r.firsts.items r.next_first ≡ Some f → IfSome (slice_get r.firsts.items r.next_first) fact → fact f
first-at r f fact at n = subst (λ p. IfSome p fact) at n

-- a line was read from what was reached
pub taken-all : (recorded : Recorded) (r : Lines) (new : OpenFiles) (count : ℕ) → open_reads recorded r.open_files ≡ open_reads recorded new → all_to_read recorded r ≡ all_to_read recorded (record r { open_files = new; read = count })
taken-all recorded r new count same = ap (λ xs. xs ++ flat_map (first_reads recorded) (drop r.next_first r.firsts.items)) same

-- a reader that is new
pub begins-reads : (recorded : Recorded) (r : Lines) (home : Option Bytes) (from : ConfigFrom) → r.open_files.below.items ≡ [] → r.open_files.top ≡ None → r.next_first ≡ 0 → r.firsts.items ≡ firsts_of home from → recorded.facts.home ≡ home → all_to_read recorded r ≡ read_once recorded from
begins-reads recorded r home from below top count firsts h =
    ap (λ xs. xs ++ flat_map (first_reads recorded) (drop r.next_first r.firsts.items)) (none-open recorded r.open_files top below)
    ∙ ap (λ n. flat_map (first_reads recorded) (drop n r.firsts.items)) count
    ∙ ap (flat_map (first_reads recorded)) firsts
    ∙ firsts-once recorded home from h
