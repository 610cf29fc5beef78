-- Which files are read, in which order: each path that an Include line names, and after it what the
-- file there names, before the next path.
use Rattle.std.specs.Prelude.{ℕ, zero, suc, Bool, false, if◌then◌else◌, List, [], ◌∷◌, ◌++◌, flat_map, Result, Ok, Err, codes}
use Rattle.std.specs.List.{list_any}
use Rattle.conf_rules.specs.declared.asked.ConfigFrom.{ConfigFrom}
use Rattle.conf_rules.specs.declared.asked.ConfigFrom.TheVariants.{Standard, Nothing, File}
use Rattle.conf_rules.specs.declared.causes.LexError.{LexError}
use Rattle.conf_rules.specs.declared.causes.TokenError.{TokenError}
use Rattle.conf_rules.specs.Texts.{Bytes, same_word}
use Rattle.conf_rules.specs.Heads.{Heading, Says, lines_of, head_of}
use Rattle.conf_rules.specs.Words.{words_of}
use Rattle.conf_rules.specs.Recorded.{Recorded}
use Rattle.conf_rules.specs.Includes.{Source, UserFile, SystemFile, file_at, paths_of, globbed}
use Rattle.conf_rules.specs.Sources.{all_lines, depth_limit, user_path}
use Rattle.conf_rules.specs.Rows.{First, LineRow}
use Rattle.conf_rules.specs.Entries.{entry_of}
use Rattle.conf_rules.specs.Resolution.{first_place, refuses, rows_from, wants_second}

-- ---- one line

-- the paths that expanded words expand to, unless one is refused
abbrev pub paths_behind : Recorded → Result (List Bytes) TokenError → List Bytes
paths_behind recorded (Err e) = []
paths_behind recorded (Ok paths) = flat_map (globbed recorded) paths

-- the paths that words name; words without a reading name none
abbrev pub paths_in : Source → Recorded → Result (List Bytes) LexError → List Bytes
paths_in source recorded (Err e) = []
paths_in source recorded (Ok words) = paths_behind recorded (paths_of source recorded words)

-- the paths that a heading names: none, unless it is that of an Include line
abbrev pub paths_by : Source → Recorded → Result Heading LexError → List Bytes
paths_by source recorded (Ok (Says keyword rest)) = if same_word keyword (codes "include")
    then paths_in source recorded (words_of rest) else []
paths_by source recorded heading = []

-- the paths that a line names
unfoldable pub paths_at : Source → Recorded → Bytes → List Bytes
paths_at source recorded bytes = paths_by source recorded (head_of bytes)

-- ---- files

-- a path, and after it what the lines of the file there read, if there is one
abbrev pub read_at : (Bytes → List Bytes) → Recorded → Bytes → List Bytes
read_at reads recorded path =
    path ∷ flat_map (λ f. flat_map reads (lines_of f.text)) (file_at recorded path)

-- what paths read that a line names, where files may lie so many deeper
unfoldable pub read_along : Source → Recorded → ℕ → List Bytes → List Bytes
read_along source recorded zero paths = paths
read_along source recorded (suc more) paths =
    flat_map (read_at (λ bytes. read_along source recorded more (paths_at source recorded bytes)) recorded)
    paths

-- what a line reads
abbrev pub read_by : Source → Recorded → ℕ → Bytes → List Bytes
read_by source recorded more bytes = read_along source recorded more (paths_at source recorded bytes)

-- what a file reads that no line includes, itself first
abbrev pub read_first : Source → Recorded → Bytes → List Bytes
read_first source recorded path = read_at (read_by source recorded depth_limit) recorded path

-- ---- all files

-- the paths that are read in one pass, in their order, where no line is refused
unfoldable pub read_once : Recorded → ConfigFrom → List Bytes
read_once recorded Standard = flat_map (read_first UserFile recorded) (user_path recorded.facts.home)
    ++ read_first SystemFile recorded (codes "/etc/ssh/ssh_config")
read_once recorded Nothing = []
read_once recorded (File path) = read_first UserFile recorded path

-- whether rows have a second pass after them
abbrev pub asks_second : List LineRow → Bool
asks_second rows = if list_any refuses rows then false else list_any wants_second rows

-- the paths that are read in all passes
unfoldable pub all_reads : Recorded → List Bytes
all_reads recorded =
    let once = read_once recorded recorded.asked.from in
    once ++ (if asks_second (rows_from recorded entry_of [] (first_place First) (all_lines recorded))
    then once else [])
