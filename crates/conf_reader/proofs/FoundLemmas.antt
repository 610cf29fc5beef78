-- Paths that are found in whatever order have the same texts.
use Rattle.std.proofs.Common.{◌≡◌, ℕ, ◌+◌, Bool, true, false, cond, eqb, ◌||◌, not, List, [], ◌∷◌, ◌++◌, Option, Some, None, Ok, map, is_some, refl, sym, ap, ◌∙◌, Result, Err, arith}
use Rattle.std.specs.Prelude.{sum_by, filter, filter_map, flat_map, fold, bytes_eq, IfOk}
use Rattle.std.specs.List.{list_any}
use Rattle.std.specs.Option.{option_and_then, option_map}
use Rattle.std.proofs.lemmas.List.Sorted.{sum_by-IsPermutation}
use Rattle.std.proofs.lemmas.List.Sums.{sum_by-cons, sum_by-append}
use Rattle.mux_outside.specs.declared.pairs.Pair.{Pair}
use Rattle.mux_outside.specs.Files.{path_inside, is_folder_at, as_name, folder_name_in, with_name, names_in, Lists}
use Rattle.conf_rules.specs.Texts.{Bytes, is_empty_list, split_at_first, split_at_each, with_front, onto_first}
use Rattle.conf_rules.specs.Recorded.{Recorded}
use Rattle.conf_rules.specs.Globs.{is_glob, component_takes}
use Rattle.conf_rules.specs.Order.{sorted}
use Rattle.conf_rules.specs.Includes.{or_root, below, along, components_of, ends_with_slash, globbed}
use Rattle.conf_reader.specs.Known.{RecordsFiles}
use Rattle.conf_reader.specs.Paths.{SameTexts, with_component}
use Rattle.conf_reader.proofs.OrderLemmas.{same-sorted}

-- ---- sums

pub sum-map : (f : Bytes → ℕ) (g : Bytes → Bytes) (xs : List Bytes) → sum_by f (map g xs) ≡ sum_by (λ x. f (g x)) xs
sum-map f g [] = refl
sum-map f g (x ∷ xs) = sum_by-cons f (g x) (map g xs) ∙ ap (λ n. f (g x) + n) (sum-map f g xs) ∙ sym (sum_by-cons (λ x. f (g x)) x xs)

sum-first : (f : Bytes → ℕ) (p : Bytes → Bool) (x : Bytes) (xs : List Bytes) (t : Bool) → p x ≡ t → sum_by f (filter p xs) ≡ sum_by (λ x. cond (p x) (f x) 0) xs → sum_by f (filter p (x ∷ xs)) ≡ cond (p x) (f x) 0 + sum_by (λ x. cond (p x) (f x) 0) xs
sum-first f p x xs true e later = rw e (sum_by-cons f x (filter p xs) ∙ ap (λ n. f x + n) later)
sum-first f p x xs false e later = rw e (omega (arith, later))

sum-filter : (f : Bytes → ℕ) (p : Bytes → Bool) (xs : List Bytes) → sum_by f (filter p xs) ≡ sum_by (λ x. cond (p x) (f x) 0) xs
sum-filter f p [] = refl
sum-filter f p (x ∷ xs) = sum-first f p x xs (p x) refl (sum-filter f p xs) ∙ sym (sum_by-cons (λ x. cond (p x) (f x) 0) x xs)

sum-flat : (f : Bytes → ℕ) (g : Bytes → List Bytes) (xs : List Bytes) → sum_by f (flat_map g xs) ≡ sum_by (λ x. sum_by f (g x)) xs
sum-flat f g [] = refl
sum-flat f g (x ∷ xs) = sum_by-append f (g x) (flat_map g xs) ∙ ap (λ n. sum_by f (g x) + n) (sum-flat f g xs) ∙ sym (sum_by-cons (λ x. sum_by f (g x)) x xs)

pub same-lists : (xs ys : List Bytes) → xs ≡ ys → SameTexts xs ys
same-lists xs ys e f = ap (sum_by f) (sym e)

pub same-more : (front xs ys : List Bytes) → SameTexts xs ys → SameTexts (front ++ xs) (front ++ ys)
same-more front xs ys same f = let a = sum_by-append f front xs in let b = sum_by-append f front ys in let s = same f in omega (arith, a, b, s)

-- what stands below paths is the same in whatever order they are
pub same-flat : (g : Bytes → List Bytes) (xs ys : List Bytes) → SameTexts xs ys → SameTexts (flat_map g xs) (flat_map g ys)
same-flat g xs ys same f = sum-flat f g ys ∙ same (λ x. sum_by f (g x)) ∙ sym (sum-flat f g xs)

pub same-along : (recorded : Recorded) (components : List Bytes) (xs ys : List Bytes) → SameTexts xs ys → SameTexts (along recorded components xs) (along recorded components ys)
same-along recorded [] xs ys same = same
same-along recorded (c ∷ cs) xs ys same = same-along recorded cs (flat_map (below recorded c) xs) (flat_map (below recorded c) ys) (same-flat (below recorded c) xs ys same)

-- ---- one directory

or-second : (a b : Bool) → (a || b) ≡ false → b ≡ false
or-second true b e = absurd cc
or-second false b e = e

or-first : (a b : Bool) → (a || b) ≡ false → a ≡ false
or-first true b e = absurd cc
or-first false b e = refl

none-inside : (f : List ℕ → List ℕ) (o : Option (List ℕ)) → is_some o ≡ false → option_and_then as_name (option_map f o) ≡ None
none-inside f None e = refl
none-inside f (Some x) e = absurd cc

no-names : (dir : Bytes) (files : List Pair) → list_any (λ p. is_some (path_inside dir p.name)) files ≡ false → filter_map (folder_name_in dir) files ≡ []
no-names dir [] e = refl
no-names dir (p ∷ ps) e =
    let here : folder_name_in dir p ≡ None = none-inside _ (path_inside dir p.name) (or-first (is_some (path_inside dir p.name)) (list_any (λ q. is_some (path_inside dir q.name)) ps) e) in
    rw here (no-names dir ps (or-second (is_some (path_inside dir p.name)) (list_any (λ q. is_some (path_inside dir q.name)) ps) e))

no-directory : (dir : Bytes) (files : List Pair) → is_folder_at files (or_root dir) ≡ false → names_in files (or_root dir) ≡ []
no-directory [] files e = absurd cc
no-directory (b ∷ bs) files e = ap (fold with_name []) (no-names (b ∷ bs) files (or-second (bytes_eq (b ∷ bs) (47 ∷ [])) (list_any (λ p. is_some (path_inside (b ∷ bs) p.name)) files) e))

-- the paths of the names that a component matches
abbrev pub taken : Bytes → Bytes → List Bytes → List Bytes
taken component base names = map (λ name. base ++ 47 ∷ name) (filter (component_takes component) names)

below-glob : (recorded : Recorded) (component base : Bytes) → is_glob component ≡ true → below recorded component base ≡ taken component base (recorded.names (or_root base))
below-glob recorded component base e = rw e refl

pub below-none : (records : Option (List Pair)) (recorded : Recorded) (component base : Bytes) (names : Option (List Bytes)) → RecordsFiles records recorded → Lists records (or_root base) (Ok names) → names ≡ None → is_glob component ≡ true → below recorded component base ≡ []
below-none None recorded component base names t h n g = absurd t
below-none (Some files) recorded component base (Some ns) t h n g = absurd cc
below-none (Some files) recorded component base None t h n g =
    below-glob recorded component base g ∙ ap (λ f. taken component base (f (or_root base))) t.1 ∙ ap (taken component base) (no-directory base files h)

same-taken : (component base : Bytes) (xs ys : List Bytes) → SameTexts xs ys → SameTexts (taken component base xs) (taken component base ys)
same-taken component base xs ys same f =
    let part : Bytes → ℕ = λ name. cond (component_takes component name) (f (base ++ 47 ∷ name)) 0 in
    let counted : (zs : List Bytes) → sum_by f (taken component base zs) ≡ sum_by part zs = λ zs. sum-map f (λ name. base ++ 47 ∷ name) (filter (component_takes component) zs) ∙ sum-filter (λ name. f (base ++ 47 ∷ name)) (component_takes component) zs in
    counted ys ∙ same part ∙ sym (counted xs)

pub below-some : (records : Option (List Pair)) (recorded : Recorded) (component base : Bytes) (names : Option (List Bytes)) (ns : List Bytes) → RecordsFiles records recorded → Lists records (or_root base) (Ok names) → names ≡ Some ns → is_glob component ≡ true
    → SameTexts (below recorded component base) (taken component base ns)
below-some None recorded component base names ns t h n g = absurd t
below-some (Some files) recorded component base None ns t h n g = absurd cc
below-some (Some files) recorded component base (Some ms) ns t h n g =
    let same : ms ≡ ns = cc in
    let listed : SameTexts (names_in files (or_root base)) ms = λ f. sum_by-IsPermutation f (names_in files (or_root base)) ms h.1 in
    let from : below recorded component base ≡ taken component base (names_in files (or_root base)) = below-glob recorded component base g ∙ ap (λ f. taken component base (f (or_root base))) t.1 in
    let to : taken component base ms ≡ taken component base ns = ap (taken component base) same in
    λ f. sym (ap (sum_by f) to) ∙ same-taken component base (names_in files (or_root base)) ms listed f ∙ sym (ap (sum_by f) from)

-- ---- components

pair_of : Bytes → Option (Bytes × Bytes) → List Bytes
pair_of bs None = bs ∷ []
pair_of bs (Some p) = p.0 ∷ split_at_each 47 p.1

front : (b : ℕ) (bs : Bytes) (o : Option (Bytes × Bytes)) → onto_first b (pair_of bs o) ≡ pair_of (b ∷ bs) (with_front b o)
unfolding pair_of
front b bs None = refl
front b bs (Some p) = refl

parts_one : (b : ℕ) (bs : Bytes) (t : Bool) → eqb b 47 ≡ t → split_at_each 47 bs ≡ pair_of bs (split_at_first 47 bs) → split_at_each 47 (b ∷ bs) ≡ pair_of (b ∷ bs) (split_at_first 47 (b ∷ bs))
unfolding pair_of
parts_one b bs true t others = rw t refl
parts_one b bs false t others = rw t (ap (onto_first b) others ∙ front b bs (split_at_first 47 bs))

parts : (bs : Bytes) → split_at_each 47 bs ≡ pair_of bs (split_at_first 47 bs)
unfolding pair_of
parts [] = refl
parts (b ∷ bs) = parts_one b bs (eqb b 47) refl (parts bs)

pub parts-some : (left component rest : Bytes) → Some (component, rest) ≡ split_at_first 47 left → split_at_each 47 left ≡ component ∷ split_at_each 47 rest
unfolding pair_of
parts-some left component rest e = parts left ∙ ap (pair_of left) (sym e)

pub parts-none : (left : Bytes) → None ≡ split_at_first 47 left → split_at_each 47 left ≡ left ∷ []
unfolding pair_of
parts-none left e = parts left ∙ ap (pair_of left) (sym e)

with-first : (recorded : Recorded) (component : Bytes) (others bases : List Bytes) (t : Bool) → is_empty_list component ≡ t
    → along recorded (filter (λ c. not (is_empty_list c)) (component ∷ others)) bases ≡ along recorded (filter (λ c. not (is_empty_list c)) others) (with_component recorded component bases)
with-first recorded component others bases true e = rw e refl
with-first recorded component others bases false e = rw e refl

pub some-component : (recorded : Recorded) (left component rest : Bytes) (bases : List Bytes) → Some (component, rest) ≡ split_at_first 47 left
    → along recorded (components_of left) bases ≡ along recorded (components_of rest) (with_component recorded component bases)
unfolding pair_of
some-component recorded left component rest bases e =
    ap (λ cs. along recorded (filter (λ c. not (is_empty_list c)) cs) bases) (parts left ∙ ap (pair_of left) (sym e)) ∙ with-first recorded component (split_at_each 47 rest) bases (is_empty_list component) refl

pub last-component : (recorded : Recorded) (left : Bytes) (bases : List Bytes) → None ≡ split_at_first 47 left → along recorded (components_of left) bases ≡ with_component recorded left bases
unfolding pair_of
last-component recorded left bases e =
    ap (λ cs. along recorded (filter (λ c. not (is_empty_list c)) cs) bases) (parts left ∙ ap (pair_of left) (sym e)) ∙ with-first recorded left [] bases (is_empty_list left) refl

-- a component that isn't empty
pub not-empty : (recorded : Recorded) (component : Bytes) (bases : List Bytes) → is_empty_list component ≡ false → with_component recorded component bases ≡ flat_map (below recorded component) bases
not-empty recorded component bases e = rw e refl

-- what holds of a result that is there, by what holds of it
pub if-ok : {T E : Type 0} (P Q : T → Type 0) (r : Result T E) → ((x : T) → P x → Q x) → IfOk r P → IfOk r Q
if-ok P Q (Ok x) f h = f x h
if-ok P Q (Err e) f h = tt

-- found paths, sorted, are what a path with globs expands to
pub globbed-is : (recorded : Recorded) (path : Bytes) (found all : List Bytes) → is_glob path ≡ true → ends_with_slash path ≡ false → SameTexts (along recorded (components_of path) ([] ∷ [])) found → all ≡ sorted found → all ≡ globbed recorded path
unfolding globbed
globbed-is recorded path found all g e same s = s ∙ sym (same-sorted (along recorded (components_of path) ([] ∷ [])) found same) ∙ rw (g, e) refl
