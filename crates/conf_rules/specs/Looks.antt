-- What an Include line looks at: the directories whose names its patterns need, and the files
-- that it names.
use Rattle.std.specs.Prelude.{if◌then◌else◌, List, [], ◌∷◌, ◌++◌, map, flat_map, Result, Ok, Err, codes}
use Rattle.conf_rules.specs.declared.causes.LexError.{LexError}
use Rattle.conf_rules.specs.declared.causes.TokenError.{TokenError}
use Rattle.conf_rules.specs.Texts.{Bytes, same_word}
use Rattle.conf_rules.specs.Heads.{Heading, Says, head_of}
use Rattle.conf_rules.specs.Words.{words_of}
use Rattle.conf_rules.specs.Globs.{is_glob}
use Rattle.conf_rules.specs.Recorded.{Recorded}
use Rattle.conf_rules.specs.Includes.{Source, paths_of, or_root, below, components_of, ends_with_slash, globbed}
use Rattle.conf_rules.specs.Sources.{Content, Spelled}

-- the directories whose names components need, from these bases on
abbrev pub folders_along : Recorded → List Bytes → List Bytes → List Bytes
folders_along recorded [] bases = []
folders_along recorded (component ∷ components) bases =
    (if is_glob component then map or_root bases else [])
    ++ folders_along recorded components (flat_map (below recorded component) bases)

-- the directories whose names an absolute path needs
abbrev pub folders_of : Recorded → Bytes → List Bytes
folders_of recorded path = if ends_with_slash path then []
    else folders_along recorded (components_of path) ([] ∷ [])

-- all that absolute paths look at
abbrev pub looks_of : Recorded → List Bytes → List Bytes
looks_of recorded paths = flat_map (λ path. folders_of recorded path ++ globbed recorded path) paths

-- the same, where the paths of words have a reading
abbrev pub looks_along : Recorded → Result (List Bytes) TokenError → List Bytes
looks_along recorded (Err e) = []
looks_along recorded (Ok paths) = looks_of recorded paths

-- what the words of an Include line look at
abbrev pub looks_in : Source → Recorded → Result (List Bytes) LexError → List Bytes
looks_in source recorded (Err e) = []
looks_in source recorded (Ok words) = looks_along recorded (paths_of source recorded words)

-- what an Include line looks at, by what stands after its keyword
unfoldable pub looks_at : Source → Recorded → Bytes → List Bytes
looks_at source recorded rest = looks_in source recorded (words_of rest)

-- what a heading looks at: nothing, unless it is that of an Include line
abbrev pub looks_by : Source → Recorded → Result Heading LexError → List Bytes
looks_by source recorded (Ok (Says keyword rest)) =
    if same_word keyword (codes "include") then looks_at source recorded rest else []
looks_by source recorded heading = []

-- what a line looks at
abbrev pub looked_at : Source → Recorded → Content → List Bytes
looked_at source recorded (Spelled bytes) = looks_by source recorded (head_of bytes)
looked_at source recorded content = []
