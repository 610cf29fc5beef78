-- What files and directories there are, by the paths and contents that a file object records.
use Rattle.std.specs.Prelude.{◌≡◌, ℕ, Bool, true, false, not, ◌&&◌, ◌||◌, if◌then◌else◌, List, [], ◌∷◌, ◌++◌, length, take, drop, fold, filter_map, IsPermutation, ◌==◌, Option, Some, None, is_some, Result, Ok, Err}
use Rattle.std.specs.List.{list_any, before_first}
use Rattle.std.specs.Option.{option_and_then, option_map}
use Rattle.std.specs.Str.{bytes_eq}
use Rattle.mux_outside.specs.declared.file_error.FileError.{FileError}
use Rattle.mux_outside.specs.declared.file_error.FileError.TheVariants.{Failed, OutOfMemory}
use Rattle.mux_outside.specs.declared.pairs.Pair.{Pair}
use Rattle.mux_outside.specs.declared.reading.Reading.{Reading}

-- the value under a name, of equal names the first
abbrev pub pair_value_at : List Pair → List ℕ → Option (List ℕ)
pair_value_at [] name = None
pair_value_at (p ∷ ps) name =
    let later = pair_value_at ps name in
    if bytes_eq p.name name then Some p.value else later

-- a slash; alone, it is the root's path too
abbrev pub slash : List ℕ
slash = 47 ∷ []

-- what stands after a prefix
abbrev pub path_after_prefix : List ℕ → List ℕ → Option (List ℕ)
path_after_prefix prefix path =
    if bytes_eq (take (length prefix) path) prefix then Some (drop (length prefix) path) else None

-- what of a path stands after a directory and its slash
abbrev pub path_inside : List ℕ → List ℕ → Option (List ℕ)
path_inside dir path =
    if bytes_eq dir slash then path_after_prefix slash path
    else option_and_then (path_after_prefix slash) (path_after_prefix dir path)

-- whether a path names a directory: the root, or a prefix of a path that isn't empty and that a
-- slash follows
abbrev pub is_folder_at : List Pair → List ℕ → Bool
is_folder_at files dir =
    bytes_eq dir slash
    || (not (bytes_eq dir []) && list_any (λ p. is_some (path_inside dir p.name)) files)

-- what a path holds, where it names a file and no directory
abbrev pub file_content_at : List Pair → List ℕ → Option (List ℕ)
file_content_at files path = if is_folder_at files path then None else pair_value_at files path

-- a name, unless it is empty
abbrev pub as_name : List ℕ → Option (List ℕ)
as_name [] = None
as_name (b ∷ bs) = Some (b ∷ bs)

-- the name in a directory by which a path goes on
abbrev pub folder_name_in : List ℕ → Pair → Option (List ℕ)
folder_name_in dir p =
    option_and_then as_name (option_map (before_first (λ b. b == 47)) (path_inside dir p.name))

-- the names with one more, unless it is among them
abbrev pub with_name : List (List ℕ) → List ℕ → List (List ℕ)
with_name names name = if list_any (bytes_eq name) names then names else names ++ name ∷ []

-- the names in a directory, each once
abbrev pub names_in : List Pair → List ℕ → List (List ℕ)
names_in files dir = fold with_name [] (filter_map (folder_name_in dir) files)

-- the answer of a read: at most so many first bytes of the file, if there is one
abbrev pub Reads : Option (List Pair) → List ℕ → ℕ → Result (Option (List ℕ)) FileError → Type 0
Reads None path most read = Unit {0}
Reads (Some files) path most (Err e) = Unit {0}
Reads (Some files) path most (Ok found) = found ≡ option_map (take most) (file_content_at files path)

-- the names of a directory in any order, if there is such a directory
abbrev pub ListsNames : List Pair → List ℕ → Option (List (List ℕ)) → Type 0
ListsNames files dir None = is_folder_at files dir ≡ false
ListsNames files dir (Some names) =
    (is_folder_at files dir ≡ true) × IsPermutation (names_in files dir) names

-- the answer of a listing
abbrev pub Lists : Option (List Pair) → List ℕ → Result (Option (List (List ℕ))) FileError → Type 0
Lists None dir found = Unit {0}
Lists (Some files) dir (Err e) = Unit {0}
Lists (Some files) dir (Ok found) = ListsNames files dir found

-- the paths that failed after a call: its own, where it failed
abbrev pub NotesFailed : {X : Type 0} → Result X FileError → List ℕ → Option (List (List ℕ))
    → Option (List (List ℕ)) → Type 0
NotesFailed (Err Failed) path before now = now ≡ option_map (λ paths. paths ++ path ∷ []) before
NotesFailed answer path before now = now ≡ before

-- the calls of `read` after one: its own too, but where there was no memory for it
abbrev pub NotesReading : {X : Type 0} → Result X FileError → List ℕ → ℕ → Option (List Reading)
    → Option (List Reading) → Type 0
NotesReading (Err OutOfMemory) path most before now = now ≡ before
NotesReading answer path most before now =
    now ≡ option_map (λ readings. readings ++ record { path = path; most = most } ∷ []) before
