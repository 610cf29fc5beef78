-- The files that an Include line names.
use Rattle.std.specs.Prelude.{Option, Some, None, Bool, false, not, ◌==◌, if◌then◌else◌, List, [], ◌∷◌, ◌++◌, map, filter, flat_map, Result, Ok, Err, codes}
use Rattle.conf_rules.specs.declared.causes.LexError.{LexError}
use Rattle.conf_rules.specs.declared.causes.TokenError.{TokenError}
use Rattle.conf_rules.specs.declared.token_set.TokenSet.TheVariants.{Included}
use Rattle.conf_rules.specs.Results.{◌>>=◌}
use Rattle.conf_rules.specs.Texts.{Bytes, is_empty_list, same_word, split_at_each, split_last}
use Rattle.conf_rules.specs.Order.{sorted}
use Rattle.conf_rules.specs.Heads.{Heading, Says, head_of}
use Rattle.conf_rules.specs.Words.{words_of}
use Rattle.conf_rules.specs.Globs.{is_glob, component_takes}
use Rattle.conf_rules.specs.Recorded.{Facts, Recorded}
use Rattle.conf_rules.specs.Tokens.{View, fact_of, expand_path, starts_with_slash}

-- where a line stands: on the command line, in a user's file, or in a system file
pub data Source : Type 0 where
  CommandLine : Source
  UserFile : Source
  SystemFile : Source

-- facts alone, since the list of files depends on no configured value
abbrev pub facts_seen : Facts → Bytes → View
facts_seen facts original = record {
  original = original;
  host = [];
  jump = [];
  tag = [];
  port = 22;
  user = None;
  «alias» = None;
  facts = facts;
  last = false;
  name = original;
}

-- a path that isn't absolute is resolved from the folder of its source
abbrev pub absolute : Source → Facts → Bytes → Result Bytes TokenError
absolute SystemFile facts path = if starts_with_slash path then Ok path
    else Ok (codes "/etc/ssh/" ++ path)
absolute source facts path =
    if starts_with_slash path then Ok path
    else (fact_of 100 facts.home >>= λ home. Ok (home ++ (codes "/.ssh/" ++ path)))

-- the path of a word, by facts alone
abbrev pub path_from : Source → Facts → Bytes → Bytes → Result Bytes TokenError
path_from source facts original word =
    expand_path false Included (facts_seen facts original) word >>= absolute source facts

-- the paths of words, or the first refusal
abbrev pub paths_from : Source → Facts → Bytes → List Bytes → Result (List Bytes) TokenError
paths_from source facts original [] = Ok []
paths_from source facts original (word ∷ words) = path_from source facts original word >>= λ path.
    paths_from source facts original words >>= λ paths. Ok (path ∷ paths)

-- the same of what a resolution looks at
abbrev pub paths_of : Source → Recorded → List Bytes → Result (List Bytes) TokenError
paths_of source recorded words = paths_from source recorded.facts recorded.asked.original words

-- a directory's path; that of the root is a slash
abbrev pub or_root : Bytes → Bytes
or_root [] = 47 ∷ []
or_root (b ∷ bs) = b ∷ bs

-- a path with one more component; of a component with globs all names that it matches
abbrev pub below : Recorded → Bytes → Bytes → List Bytes
below recorded component base =
    if is_glob component then map (λ name. base ++ (47 ∷ name))
    (filter (component_takes component) (recorded.names (or_root base)))
    else (base ++ (47 ∷ component)) ∷ []

-- paths along components
abbrev pub along : Recorded → List Bytes → List Bytes → List Bytes
along recorded [] bases = bases
along recorded (component ∷ components) bases =
    along recorded components (flat_map (below recorded component) bases)

-- the components of a path; empty ones are dropped
abbrev pub components_of : Bytes → List Bytes
components_of path = filter (λ component. not (is_empty_list component)) (split_at_each 47 path)

-- whether a path ends with a slash
abbrev pub ends_with_slash : Bytes → Bool
ends_with_slash path = elim (split_last path) [ None ↦ false | Some p ↦ p.1 == 47 ]

-- The paths that an absolute path expands to; of one with globs those in the order of their bytes,
-- but none if a slash at its end means directories alone.
unfoldable pub globbed : Recorded → Bytes → List Bytes
globbed recorded path =
    let found = sorted (along recorded (components_of path) ([] ∷ [])) in
    if is_glob path then (if ends_with_slash path then [] else found) else path ∷ []

-- a file: its path and what it holds
pub record ConfFile : Type 0 where
  pub path : Bytes
  pub text : Bytes

-- the file of a content, if there is one
abbrev pub file_of : Bytes → Option Bytes → List ConfFile
file_of path None = []
file_of path (Some text) = record { path = path; text = text } ∷ []

-- the file at a path, if it is there
abbrev pub file_at : Recorded → Bytes → List ConfFile
file_at recorded path = file_of path (recorded.content path)

-- the files that are there, in reading order
abbrev pub files_of : Recorded → List Bytes → List ConfFile
files_of recorded paths = flat_map (λ path. flat_map (file_at recorded) (globbed recorded path)) paths

-- the files that words name; words without a reading name none, since their line is refused
abbrev pub words_named : Source → Recorded → Result (List Bytes) LexError
    → Result (List ConfFile) TokenError
words_named source recorded (Err e) = Ok []
words_named source recorded (Ok words) = paths_of source recorded words >>= λ paths.
    Ok (files_of recorded paths)

-- the files that a heading names
abbrev pub named_in : Source → Recorded → Result Heading LexError → Result (List ConfFile) TokenError
named_in source recorded (Ok (Says keyword rest)) = if same_word keyword (codes "include")
    then words_named source recorded (words_of rest) else Ok []
named_in source recorded heading = Ok []

-- the files that a line includes, or the refusal of its tokens
unfoldable pub included_files : Source → Recorded → Bytes → Result (List ConfFile) TokenError
included_files source recorded bytes = named_in source recorded (head_of bytes)
