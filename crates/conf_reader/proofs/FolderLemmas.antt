-- The paths at which a call may have failed, and those that a path asks for.
use Rattle.std.proofs.Common.{◌≡◌, ℕ, zero, suc, ◌+◌, ◌<◌, Bool, true, false, cond, ◌||◌, List, [], ◌∷◌, ◌++◌, length, take, get_or, Option, Some, None, Ok, Err, map, refl, sym, ap, ◌∙◌, Result, arith}
use Rattle.std.specs.Prelude.{◌==◌, ◌≤◌, sum_by, filter, flat_map, nat_lt, if◌then◌else◌, not}
use Rattle.std.specs.List.{list_any}
use Rattle.std.specs.Str.{bytes_eq}
use Rattle.std.proofs.Math.Nat.{zero-add}
use Rattle.std.proofs.Math.Dec.{eqb-suc-zero}
use Rattle.std.proofs.lemmas.Bool.{lt-ltb}
use Rattle.std.proofs.lemmas.List.{take_all}
use Rattle.std.proofs.lemmas.List.Sums.{sum_by-cons, sum_by-append}
use Rattle.std.proofs.lemmas.List.Folds.{list_any-append}
use Rattle.std.proofs.lemmas.Slice.Eq.{bytes_eq-Decides}
use Rattle.mux_outside.specs.declared.file_error.FileError.{FileError}
use Rattle.mux_outside.specs.declared.file_error.FileError.TheVariants.{Failed, OutOfMemory}
use Rattle.mux_outside.specs.Files.{NotesFailed}
use Rattle.conf_rules.specs.Texts.{Bytes, is_empty_list, split_at_first, split_at_each}
use Rattle.conf_rules.specs.Recorded.{Facts, Recorded}
use Rattle.conf_rules.specs.Words.{words_of}
use Rattle.conf_rules.specs.Globs.{is_glob}
use Rattle.conf_rules.specs.Includes.{Source, paths_from, or_root, below, components_of, globbed}
use Rattle.conf_rules.specs.Looks.{folders_along, folders_of, looks_of, looks_along, looks_in}
use Rattle.conf_reader.specs.declared.errors.LineError.{LineError}
use Rattle.conf_reader.specs.Looking.{FileFails, LineFails}
use Rattle.conf_reader.specs.Results.{of_file}
use Rattle.conf_reader.specs.Paths.{SameTexts, with_component}
use Rattle.conf_reader.proofs.FoundLemmas.{same-flat, sum-map, parts-some, parts-none, not-empty}

-- ---- texts that are among others

-- each text that is in a list is in another
abbrev pub Among : List Bytes → List Bytes → Type 0
Among xs ys = (path : Bytes) → list_any (bytes_eq path) xs ≡ true → list_any (bytes_eq path) ys ≡ true

or-left : (a b : Bool) → a ≡ true → (a || b) ≡ true
or-left a b e = rw e refl

or-right : (a b : Bool) → b ≡ true → (a || b) ≡ true
or-right true b e = refl
or-right false b e = e

pub in-front : (xs ys : List Bytes) → Among xs (xs ++ ys)
in-front xs ys path e = list_any-append (bytes_eq path) xs ys ∙ or-left (list_any (bytes_eq path) xs) (list_any (bytes_eq path) ys) e

pub behind : (xs ys : List Bytes) → Among ys (xs ++ ys)
behind xs ys path e = list_any-append (bytes_eq path) xs ys ∙ or-right (list_any (bytes_eq path) xs) (list_any (bytes_eq path) ys) e

or-of : (s t u v : Bool) → (s ≡ true → u ≡ true) → (t ≡ true → v ≡ true) → (s || t) ≡ true → (u || v) ≡ true
or-of true t u v a b k = or-left u v (a refl)
or-of false t u v a b k = or-right u v (b k)

both-among : (xs ys us vs : List Bytes) → Among xs ys → Among us vs → Among (xs ++ us) (ys ++ vs)
both-among xs ys us vs a b path k =
    let has = list_any (bytes_eq path) in
    list_any-append (bytes_eq path) ys vs ∙ or-of (has xs) (has us) (has ys) (has vs) (a path) (b path) (sym (list_any-append (bytes_eq path) xs us) ∙ k)

flat-among : (g h : Bytes → List Bytes) (xs : List Bytes) → ((x : Bytes) → Among (g x) (h x)) → Among (flat_map g xs) (flat_map h xs)
flat-among g h [] each = λ path k. k
flat-among g h (x ∷ xs) each = both-among (g x) (h x) (flat_map g xs) (flat_map h xs) (each x) (flat-among g h xs each)

-- ---- the path of a failed call

-- a path is among itself
pub alone : (path : Bytes) → list_any (bytes_eq path) (path ∷ []) ≡ true
alone path = or-left (bytes_eq path path) false ((bytes_eq-Decides path path).1 refl)

-- a failed call was given a path that is among more paths too
pub fails-among : {A B : Type 0} (xs ys : List Bytes) (e : FileError) (q : Result A FileError) (r : Result B FileError) (before now : Option (List Bytes)) → q ≡ Err e → r ≡ Err e → Among xs ys → FileFails xs q before now → FileFails ys r before now
fails-among {A = A} {B = B} xs ys e q r before now was is among f = rw is (of e (rw was at f))
  where
    of : (e : FileError) → FileFails {A = A} xs (Err e) before now → FileFails {A = B} ys (Err e) before now
    of Failed f = record { path = f.path; is = f.is; among = among f.path f.among }
    of OutOfMemory f = f

-- and so where its answer is handed on
pub fails-more : {A : Type 0} (xs ys : List Bytes) (r : Result A FileError) (before now : Option (List Bytes)) → Among xs ys → FileFails xs r before now → FileFails ys r before now
fails-more xs ys (Ok x) before now among f = f
fails-more xs ys (Err Failed) before now among f = record { path = f.path; is = f.is; among = among f.path f.among }
fails-more xs ys (Err OutOfMemory) before now among f = f

-- the same in a line's reading
pub line-fails : {A B : Type 0} (xs ys : List Bytes) (e : FileError) (q : Result A FileError) (r : Result B LineError) (before now : Option (List Bytes)) → q ≡ Err e → r ≡ Err (of_file e) → Among xs ys → FileFails xs q before now → LineFails ys r before now
line-fails {A = A} {B = B} xs ys e q r before now was is among f = rw is (of e (rw was at f))
  where
    of : (e : FileError) → FileFails {A = A} xs (Err e) before now → LineFails {A = B} ys (Err (of_file e)) before now
    of Failed f = record { path = f.path; is = f.is; among = among f.path f.among }
    of OutOfMemory f = f

-- one call fails at its own path
pub fails-there : {A B : Type 0} (xs : List Bytes) (path : Bytes) (e : FileError) (q : Result A FileError) (r : Result B FileError) (before now : Option (List Bytes)) → q ≡ Err e → r ≡ Err e → list_any (bytes_eq path) xs ≡ true → NotesFailed q path before now
    → FileFails xs r before now
fails-there {A = A} {B = B} xs path e q r before now was is among f = rw is (of e (rw was at f))
  where
    of : (e : FileError) → NotesFailed {X = A} (Err e) path before now → FileFails {A = B} xs (Err e) before now
    of Failed f = record { path = path; is = f; among = among }
    of OutOfMemory f = f

-- running out of memory leaves what failed
pub unfailed : {A : Type 0} (xs : List Bytes) (r : Result A FileError) (before now : Option (List Bytes)) → r ≡ Err OutOfMemory → now ≡ before → FileFails xs r before now
unfailed xs r before now is same = rw is same

-- ---- lists that have the same texts

-- how often a test is met
abbrev met : (Bytes → Bool) → Bytes → ℕ
met test x = cond (test x) 1 0

count-first : (test : Bytes → Bool) (x : Bytes) (xs : List Bytes) (t : Bool) → test x ≡ t → list_any test xs ≡ nat_lt 0 (sum_by (met test) xs) → list_any test (x ∷ xs) ≡ nat_lt 0 (met test x + sum_by (met test) xs)
count-first test x xs true e later = rw e (sym (lt-ltb 0 (1 + sum_by (met test) xs) (omega arith)))
count-first test x xs false e later = rw (e, zero-add (sum_by (met test) xs)) later

counts : (test : Bytes → Bool) (xs : List Bytes) → list_any test xs ≡ nat_lt 0 (sum_by (met test) xs)
counts test [] = refl
counts test (x ∷ xs) = count-first test x xs (test x) refl (counts test xs) ∙ sym (ap (nat_lt 0) (sum_by-cons (met test) x xs))

-- a text that is in one of them is in the other
same-among : (xs ys : List Bytes) → SameTexts xs ys → Among ys xs
same-among xs ys same path e = counts (bytes_eq path) xs ∙ sym (ap (nat_lt 0) (same (met (bytes_eq path)))) ∙ sym (counts (bytes_eq path) ys) ∙ e

same-map : (g : Bytes → Bytes) (xs ys : List Bytes) → SameTexts xs ys → SameTexts (map g xs) (map g ys)
same-map g xs ys same f = sum-map f g ys ∙ same (λ x. f (g x)) ∙ sym (sum-map f g xs)

same-both : (xs ys us vs : List Bytes) → SameTexts xs ys → SameTexts us vs → SameTexts (xs ++ us) (ys ++ vs)
same-both xs ys us vs a b f = let s = a f in let t = b f in let x = sum_by-append f xs us in let y = sum_by-append f ys vs in omega (arith, s, t, x, y)

-- an element's texts are among those of all
pub one-among : (g : Bytes → List Bytes) (xs : List Bytes) (i : ℕ) (x : Bytes) → i < length xs → x ≡ get_or xs i x → Among (g x) (flat_map g xs)
one-among g [] i x h e = absurd (omega (arith, h))
one-among g (y ∷ ys) zero x h e = rw e (in-front (g y) (flat_map g ys))
one-among g (y ∷ ys) (suc i) x h e = λ path k. behind (g y) (flat_map g ys) path (one-among g ys i x (omega (arith, h)) e path k)

-- ---- the directories that components ask for

-- those of one component
abbrev pub asked_at : Bytes → List Bytes → List Bytes
asked_at component bases = if is_glob component then map or_root bases else []

-- those of one path are among those of all
pub asked-one : (component : Bytes) (bases : List Bytes) (i : ℕ) (base : Bytes) → i < length bases → base ≡ get_or bases i base → Among (if is_glob component then or_root base ∷ [] else []) (asked_at component bases)
asked-one component bases i base h e = of (is_glob component)
  where
    mapped : (xs : List Bytes) → flat_map (λ x. or_root x ∷ []) xs ≡ map or_root xs
    mapped [] = refl
    mapped (x ∷ xs) = ap (λ ys. or_root x ∷ ys) (mapped xs)

    of : (t : Bool) → Among (if t then or_root base ∷ [] else []) (if t then map or_root bases else [])
    of true path k = sym (ap (list_any (bytes_eq path)) (mapped bases)) ∙ one-among (λ x. or_root x ∷ []) bases i base h e path k
    of false path k = absurd cc

same-asked : (component : Bytes) (xs ys : List Bytes) → SameTexts xs ys → SameTexts (asked_at component xs) (asked_at component ys)
same-asked component xs ys same = of (is_glob component)
  where
    of : (t : Bool) → SameTexts (if t then map or_root xs else []) (if t then map or_root ys else [])
    of true = same-map or_root xs ys same
    of false = λ f. refl

-- the directories are the same in whatever order paths are
same-folders : (recorded : Recorded) (components : List Bytes) (xs ys : List Bytes) → SameTexts xs ys → SameTexts (folders_along recorded components xs) (folders_along recorded components ys)
same-folders recorded [] xs ys same = λ f. refl
same-folders recorded (c ∷ cs) xs ys same =
    same-both (asked_at c xs) (asked_at c ys) (folders_along recorded cs (flat_map (below recorded c) xs)) (folders_along recorded cs (flat_map (below recorded c) ys)) (same-asked c xs ys same)
    (same-folders recorded cs (flat_map (below recorded c) xs) (flat_map (below recorded c) ys) (same-flat (below recorded c) xs ys same))

-- an empty component asks for nothing
empty-asks : (component : Bytes) (bases : List Bytes) → is_empty_list component ≡ true → asked_at component bases ≡ []
empty-asks [] bases e = refl
empty-asks (b ∷ bs) bases e = absurd cc

with-first : (recorded : Recorded) (component : Bytes) (others bases : List Bytes) (t : Bool) → is_empty_list component ≡ t
    → folders_along recorded (filter (λ c. not (is_empty_list c)) (component ∷ others)) bases ≡ asked_at component bases ++ folders_along recorded (filter (λ c. not (is_empty_list c)) others) (with_component recorded component bases)
with-first recorded component others bases true e = let nothing_asked = empty-asks component bases e in rw (e, nothing_asked) refl
with-first recorded component others bases false e = rw e refl

some-folders : (recorded : Recorded) (left component rest : Bytes) (bases : List Bytes) → Some (component, rest) ≡ split_at_first 47 left
    → folders_along recorded (components_of left) bases ≡ asked_at component bases ++ folders_along recorded (components_of rest) (with_component recorded component bases)
some-folders recorded left component rest bases e =
    ap (λ cs. folders_along recorded (filter (λ c. not (is_empty_list c)) cs) bases) (parts-some left component rest e) ∙ with-first recorded component (split_at_each 47 rest) bases (is_empty_list component) refl

last-folders : (recorded : Recorded) (left : Bytes) (bases : List Bytes) → None ≡ split_at_first 47 left → folders_along recorded (components_of left) bases ≡ asked_at left bases ++ []
last-folders recorded left bases e = ap (λ cs. folders_along recorded (filter (λ c. not (is_empty_list c)) cs) bases) (parts-none left e) ∙ with-first recorded left [] bases (is_empty_list left) refl

-- the directories of the component that comes next are among all that are left
pub asked-next : (recorded : Recorded) (left component rest : Bytes) (bases whole : List Bytes) → Some (component, rest) ≡ split_at_first 47 left → Among (folders_along recorded (components_of left) bases) whole → Among (asked_at component bases) whole
asked-next recorded left component rest bases whole e so_far path k =
    so_far path (ap (list_any (bytes_eq path)) (some-folders recorded left component rest bases e) ∙ in-front (asked_at component bases) (folders_along recorded (components_of rest) (with_component recorded component bases)) path k)

pub asked-last : (recorded : Recorded) (left : Bytes) (bases whole : List Bytes) → None ≡ split_at_first 47 left → Among (folders_along recorded (components_of left) bases) whole → Among (asked_at left bases) whole
asked-last recorded left bases whole e so_far path k = so_far path (ap (list_any (bytes_eq path)) (last-folders recorded left bases e) ∙ in-front (asked_at left bases) [] path k)

-- and so are those after it
pub asked-further : (recorded : Recorded) (left component rest : Bytes) (bases found whole : List Bytes) → Some (component, rest) ≡ split_at_first 47 left → SameTexts (with_component recorded component bases) found
    → Among (folders_along recorded (components_of left) bases) whole → Among (folders_along recorded (components_of rest) found) whole
asked-further recorded left component rest bases found whole e same so_far path k =
    let cs = components_of rest in
    so_far path (ap (list_any (bytes_eq path)) (some-folders recorded left component rest bases e) ∙ behind (asked_at component bases) (folders_along recorded cs (with_component recorded component bases)) path
    (same-among (folders_along recorded cs (with_component recorded component bases)) (folders_along recorded cs found) (same-folders recorded cs (with_component recorded component bases) found same) path k))

-- ---- one component

length-empty : (xs : Bytes) → (length xs == 0) ≡ is_empty_list xs
length-empty [] = refl
length-empty (x ∷ xs) = eqb-suc-zero (length xs)

-- all that was found for a component that isn't empty
pub all-found : (recorded : Recorded) (component : Bytes) (bases found : List Bytes) (n : ℕ) → (length component == 0) ≡ false → length bases ≤ n → SameTexts (flat_map (below recorded component) (take n bases)) found → SameTexts (with_component recorded component bases) found
all-found recorded component bases found n e h so_far f =
    so_far f ∙ ap (λ xs. sum_by f (flat_map (below recorded component) xs)) (take_all n bases h) ∙ sym (ap (sum_by f) (not-empty recorded component bases (sym (length-empty component) ∙ e)))

-- ---- what a line looks at

-- the directories that paths ask for are among what they look at
pub folders-looked : (recorded : Recorded) (paths : List Bytes) → Among (flat_map (folders_of recorded) paths) (looks_of recorded paths)
folders-looked recorded paths = flat-among (folders_of recorded) (λ path. folders_of recorded path ++ globbed recorded path) paths (λ path. in-front (folders_of recorded path) (globbed recorded path))

-- where facts are those that are recorded
pub looks-named : (source : Source) (recorded : Recorded) (facts : Facts) (original rest : Bytes) (words paths : List Bytes) → recorded.facts ≡ facts → recorded.asked.original ≡ original → words_of rest ≡ Ok words → paths_from source facts original words ≡ Ok paths
    → looks_in source recorded (words_of rest) ≡ looks_of recorded paths
looks-named source recorded facts original rest words paths f o w p =
    ap (looks_in source recorded) w
    ∙ ap (looks_along recorded) (ap (λ f. paths_from source f recorded.asked.original words) f ∙ ap (λ o. paths_from source facts o words) o ∙ p)
