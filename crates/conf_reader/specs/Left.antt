-- What a reader of lines has still to give of the list of all lines.
use Rattle.std.specs.Prelude.{◌≡◌, ℕ, ◌+◌, ◌-◌, ◌*◌, ◌==◌, ◌≤◌, ◌<◌, nat_lt, nat_le, is_none, sum_by, IfSome, IsSome, IsSomeAnd, Bool, true, false, not, if◌then◌else◌, List, [], ◌∷◌, ◌++◌, length, flat_map, take, drop, Option, Some, None, Result, Ok, Err, option_to_list, codes}
use Rattle.std.specs.List.{slice_get, list_all}
use Rattle.conf_rules.specs.declared.causes.TokenError.{TokenError}
use Rattle.conf_rules.specs.Results.{◌>>=◌}
use Rattle.conf_rules.specs.Texts.{Bytes, same_word}
use Rattle.conf_rules.specs.Heads.{Heading, Comment, Says, head_of, lines_of}
use Rattle.conf_rules.specs.declared.causes.LexError.{LexError}
use Rattle.conf_rules.specs.declared.causes.Cause.TheVariants as causes
use Rattle.conf_reader.specs.declared.open_file.Said.{Said}
use Rattle.conf_reader.specs.declared.open_file.NextFile.{NextFile}
use Rattle.conf_reader.specs.declared.errors.LineError.{LineError}
use Rattle.conf_rules.specs.Words.{words_of}
use Rattle.conf_rules.specs.Recorded.{Recorded}
use Rattle.conf_rules.specs.Includes.{Source, UserFile, SystemFile, ConfFile, file_at, words_named, paths_of, globbed}
use Rattle.conf_rules.specs.Sources.{Line, Where, lines_in, file_lines, each_file, too_deep, with_files, included, depth_limit, first_file, named_lines}
use Rattle.conf_rules.specs.declared.causes.Cause.{Cause}
use Rattle.conf_rules.specs.declared.causes.ResolveError.{ResolveError}
use Rattle.conf_rules.specs.declared.causes.ResolveError.TheVariants.{At, OutOfMemory}
use Rattle.conf_rules.specs.Diagnostics.{is_fault}
use Rattle.conf_rules.specs.Sources.{Refused, Spelled, size_limit}
use Rattle.conf_rules.specs.Resolution.{is_of_command_line}
use Rattle.conf_reader.specs.declared.line.ConfLine.{ConfLine}
use Rattle.conf_reader.specs.declared.open_file.OpenFile.{OpenFile}
use Rattle.conf_reader.specs.declared.stack.OpenFiles.{OpenFiles}
use Rattle.conf_reader.specs.declared.lines.FirstFile.{FirstFile}
use Rattle.conf_reader.specs.declared.lines.Lines.{Lines}
use Rattle.conf_reader.specs.declared.stack.Stand.{Stand}
use Rattle.conf_reader.specs.declared.stack.Stand.TheVariants as stands
use Rattle.conf_reader.specs.declared.files.FoundFile.{FoundFile}
use Rattle.conf_reader.specs.declared.files.FoundFile.TheVariants.{Nothing, TooLarge, Holds}
use Rattle.conf_reader.specs.declared.errors.LineError.TheVariants as line_errors
use Rattle.conf_reader.specs.Results.{RefusesLine, resolve_error_at}
use Rattle.conf_reader.specs.Blocks.{Blocks, or_none, IsLine, open_behind}

-- the source of files
abbrev pub source_of : Bool → Source
source_of true = SystemFile
source_of false = UserFile

-- the files that an open file's last line names, and that aren't opened yet
abbrev pub frame_files : Recorded → Source → OpenFile → Result (List ConfFile) TokenError
frame_files recorded source f = elim f.include [
  | None ↦ Ok (flat_map (file_at recorded) (drop f.next f.named))
  | Some rest ↦ words_named source recorded (words_of rest)
]

-- one more file below a line at a depth
abbrev pub one_below : Recorded → Source → ℕ → List ℕ → ℕ → ConfFile → List Line
one_below recorded source depth blocks start f =
    file_lines (included source recorded (depth_limit - (depth + 1)) (depth + 1))
    (record { source = source; depth = depth + 1; outer = blocks }) start f

-- the lines of files that a line at a depth names
unfoldable pub deeper : Recorded → Source → ℕ → List ℕ → Bytes → ℕ → ℕ
    → Result (List ConfFile) TokenError → List Line
deeper recorded source depth blocks file number place files =
    let here : Where = record { source = source; depth = depth; outer = blocks } in
    with_files here file number (if depth == depth_limit then too_deep here file number
    else each_file (one_below recorded source depth blocks) place) files

-- what is left of an open file
unfoldable pub frame_left : Recorded → Source → ℕ → List ℕ → Option ℕ → OpenFile → ℕ → List Line
frame_left recorded source depth outer own f place =
    let inner = deeper recorded source depth (outer ++ option_to_list own) f.path (f.number - 1) place
    (frame_files recorded source f) in
    inner ++ lines_in (included source recorded (depth_limit - depth) depth)
    (record { source = source; depth = depth; outer = outer }) f.path (place + length inner)
    f.number own (lines_of (drop f.at f.text))

-- what is left of open files, the first file first
abbrev pub frames_left : Recorded → Source → ℕ → List ℕ → List OpenFile → Blocks → ℕ → List Line
frames_left recorded source depth outer [] blocks place = []
frames_left recorded source depth outer (f ∷ fs) blocks place =
    let own = or_none (slice_get blocks 0) in
    let inner = frames_left recorded source (depth + 1) (outer ++ option_to_list own) fs
    (drop 1 blocks) place in
    inner ++ frame_left recorded source depth outer own f (place + length inner)

-- ---- open files

-- all open files, the first file first
abbrev pub stack : OpenFiles → List OpenFile
stack o = o.below.items ++ option_to_list o.top

-- the blocks that are open: none in a file of which no line was given yet
abbrev pub cur : OpenFiles → Blocks → Blocks
cur o blocks = if o.fresh then take (length o.below.items) blocks else blocks

-- what is left of open files of which no line of the last was given yet, or some was
abbrev pub parts_left : Recorded → ℕ → Blocks → Bool → List OpenFile → Option OpenFile
    → Bool → List Line
parts_left recorded place blocks system below top fresh =
    frames_left recorded (source_of system) 0 [] (below ++ option_to_list top) (if fresh
    then take (length below) blocks else blocks) place

-- what is left of all open files
abbrev pub open_left : Recorded → ℕ → Blocks → OpenFiles → List Line
open_left recorded place blocks o = parts_left recorded place blocks o.system o.below.items o.top o.fresh

-- whether an open file names no more files
abbrev pub IsFileSettled : OpenFile → Type 0
IsFileSettled f = (f.include ≡ None) × (length f.named ≤ f.next)

-- whether the paths are known that a file's last line names
abbrev pub is_expanded : OpenFile → Bool
is_expanded f = is_none f.include

-- whether no more lines were counted than bytes were read
abbrev pub is_counted : OpenFile → Bool
is_counted f = nat_le f.number (f.at + 1)

-- what holds of open files between steps
pub record AreFilesReady (o : OpenFiles) : Type 0 where
  pub few : length o.below.items ≤ depth_limit
  pub fresh : o.fresh ≡ true → IfSome o.top IsFileSettled
  pub none : o.top ≡ None → o.below.items ≡ []
  pub expanded : list_all is_expanded (stack o) ≡ true
  pub counted : list_all is_counted (stack o) ≡ true

-- what is to be done before a line can be read
abbrev pub file_work : OpenFile → ℕ
file_work f = 2 * (length f.named - f.next) + 1

abbrev pub work : OpenFiles → ℕ
work o = sum_by file_work (stack o)

-- what a file was found to hold
abbrev pub IsFound : FoundFile → Option Bytes → Type 0
IsFound Nothing content = content ≡ None
IsFound TooLarge content = IsSomeAnd content (λ text. nat_lt size_limit (length text) ≡ true)
IsFound (Holds text) content = (content ≡ Some text) × (nat_lt size_limit (length text) ≡ false)

-- a refusal of the line that is left first
pub record RefusesFirst (before : List Line) (file : Bytes) (number : ℕ) (cause : Cause) :
    Type 0 where
  pub line : Line
  pub rest : List Line
  pub is : before ≡ line ∷ rest
  pub file_is : line.file ≡ file
  pub number_is : line.number ≡ number
  pub content : line.content ≡ Refused cause

-- a step left everything as it was, or it refused
abbrev pub Moves : {A : Type 0} → List Line → List Line → Result A ResolveError → Type 0
Moves before after (Ok x) = before ≡ after
Moves before after (Err OutOfMemory) = Unit {0}
Moves before after (Err (At file number cause)) =
    (is_fault cause ≡ false → RefusesFirst before file number cause)

-- a fact of the path that an open file opens next
abbrev pub Names : Option OpenFile → (Bytes → Type 0) → Type 0
Names None fact = Unit {0}
Names (Some f) fact = IfSome (slice_get f.named f.next) fact

-- the state of open files after a step
abbrev pub StandOf : OpenFiles → OpenFiles → Stand → Type 0
StandOf old new stands.Line = (new ≡ old)
    × IfSome new.top (λ f. IsFileSettled f × (f.at < length f.text)) × IsSome new.top
StandOf old new stands.Moved = work new < work old
StandOf old new stands.End = (new ≡ old) × (new.top ≡ None)

-- a refusal at the line that an open file read last
abbrev pub RefusesTop : Option OpenFile → Cause → ResolveError → Type 0
RefusesTop None cause error = Unit {0}
RefusesTop (Some f) cause error = RefusesLine (line_errors.Refused cause) f.path (f.number - 1) error

-- the refusal at the line that an open file read last, whatever memory there is
abbrev pub GivesUp : Option OpenFile → LineError → ResolveError → Type 0
GivesUp top error refusal =
    IfSome top (λ f. refusal ≡ resolve_error_at error f.path (f.number - 1))

-- a refusal of the file that an open file opens next
abbrev pub RefusesNextFile : Option OpenFile → Cause → ResolveError → Type 0
RefusesNextFile None cause error = Unit {0}
RefusesNextFile (Some f) cause error =
    IfSome (slice_get f.named f.next) (λ path. RefusesLine (line_errors.Refused cause) path 0 error)

-- what holds of open files after a line that was given
pub record IsGiven (o : OpenFiles) : Type 0 where
  pub few : length o.below.items ≤ depth_limit
  pub fresh : o.fresh ≡ false
  pub none : o.top ≡ None → o.below.items ≡ []
  pub expanded : list_all is_expanded o.below.items ≡ true
  pub counted : list_all is_counted (stack o) ≡ true

-- ---- one line

-- the next line of an open file, how it is read, and where the line after it begins
pub record NextLine (f : OpenFile) (next : ℕ) (read : Result Heading LexError) : Type 0 where
  pub bytes : Bytes
  pub is : lines_of (drop f.at f.text) ≡ bytes ∷ lines_of (drop next f.text)
  pub head : head_of bytes ≡ read
  pub further : f.at < next
  pub within : next ≤ length f.text

-- what was read of a line: nothing of a comment
abbrev pub heading_of : Option Said → Heading
heading_of None = Comment
heading_of (Some said) = Says said.keyword said.rest

-- what reading the next line of an open file gave
abbrev pub HeadIs : OpenFile → Result NextFile LineError → Type 0
HeadIs f (Ok next) = NextLine f next.next (Ok (heading_of next.said))
HeadIs f (Err line_errors.OutOfMemory) = Unit {0}
HeadIs f (Err (line_errors.Refused cause)) = (next : ℕ)
    × ((e : LexError) × ((cause ≡ causes.Lex e) × NextLine f next (Err e)))

-- what a reader may say of the line that comes next: it is a comment, or this line is given, or it
-- is refused
pub record IsComment (line : Line) : Type 0 where
  pub bytes : Bytes
  pub spelled : line.content ≡ Spelled bytes
  pub head : head_of bytes ≡ Ok Comment
  pub asked : is_of_command_line line.source ≡ false

pub record SkipsComment (recorded : Recorded) (place : ℕ) (blocks : Blocks) (old new : OpenFiles) :
    Type 0 where
  pub line : Line
  pub left : open_left recorded place blocks old ≡ line ∷ open_left recorded (place + 1) blocks new
  pub comment : IsComment line

pub record GivesLine (recorded : Recorded) (place : ℕ) (blocks : Blocks) (old new : OpenFiles)
    (given : ConfLine) : Type 0 where
  pub line : Line
  pub left : open_left recorded place blocks old ≡ line
      ∷ open_left recorded (place + 1) (open_behind given place blocks) new
  pub is_line : IsLine given blocks line
  pub source : line.source ≡ source_of new.system

pub record RefusesHead (lines_to_give : List Line) (file : Bytes) (number : ℕ) (cause : Cause) : Type 0 where
  pub line : Line
  pub rest : List Line
  pub is : lines_to_give ≡ line ∷ rest
  pub file_is : line.file ≡ file
  pub number_is : line.number ≡ number
  pub bytes : Bytes
  pub spelled : line.content ≡ Spelled bytes
  pub error : LexError
  pub head : head_of bytes ≡ Err error
  pub cause_is : cause ≡ causes.Lex error

abbrev pub TakesLine : Recorded → ℕ → Blocks → OpenFiles → OpenFiles
    → Result (Option ConfLine) ResolveError → Type 0
TakesLine recorded place blocks old new (Ok None) = SkipsComment recorded place blocks old new
TakesLine recorded place blocks old new (Ok (Some given)) = GivesLine recorded place blocks old new given
TakesLine recorded place blocks old new (Err OutOfMemory) = Unit {0}
TakesLine recorded place blocks old new (Err (At file number cause)) =
    RefusesHead (open_left recorded place blocks old) file number cause

-- a given line is what the last open file says
pub record GivenBy (o : OpenFiles) (f : OpenFile) (said : Said) (given : ConfLine) : Type 0 where
  pub file : given.file ≡ f.path
  pub number : given.number ≡ f.number
  pub depth : given.depth ≡ length o.below.items
  pub opens : given.opens ≡ o.fresh
  pub keyword : given.keyword ≡ said.keyword
  pub rest : given.rest ≡ said.rest

abbrev pub IsGivenBy : OpenFiles → Said → ConfLine → Type 0
IsGivenBy o said given = IfSome o.top (λ f. GivenBy o f said given)

-- an open file after its next line
abbrev pub gone : ℕ → Option Bytes → OpenFile → OpenFile
gone next include f = record f { at = next; number = f.number + 1; include = include }

-- what an Include line has after its keyword
abbrev pub include_of : Said → Option Bytes
include_of said = if same_word said.keyword (codes "include") then Some said.rest else None

-- ---- the paths of an Include line

-- the paths that a rest names
abbrev pub named_by : Source → Recorded → Result (List Bytes) LexError → Result (List Bytes) TokenError
named_by source recorded (Err e) = Ok []
named_by source recorded (Ok words) = paths_of source recorded words >>= λ paths.
    Ok (flat_map (globbed recorded) paths)

-- the outcome of finding them
abbrev pub FoundPaths : Result (List Bytes) LineError → Result (List Bytes) TokenError → Type 0
FoundPaths (Ok paths) named = named ≡ Ok paths
FoundPaths (Err line_errors.OutOfMemory) named = Unit {0}
FoundPaths (Err (line_errors.Refused (causes.Token e))) named = named ≡ Err e
FoundPaths (Err (line_errors.Refused cause)) named = is_fault cause ≡ true

-- an open file whose paths are known
abbrev pub named_as : List Bytes → OpenFile → OpenFile
named_as paths f = record f { include = None; named = paths; next = 0 }

-- ---- first files

-- the lines of a first file at a place: one that is required must be there, and another is skipped
-- where it isn't
abbrev pub first_left : Recorded → ℕ → FirstFile → List Line
first_left recorded place f = if f.required then named_lines recorded place f.path (recorded.content f.path)
    else each_file (first_file (source_of f.system) recorded) place (file_at recorded f.path)

-- the lines of first files from a place on
abbrev pub firsts_left : Recorded → ℕ → List FirstFile → List Line
firsts_left recorded place [] = []
firsts_left recorded place (f ∷ fs) = let here = first_left recorded place f in
    here ++ firsts_left recorded (place + length here) fs

-- what a reader has still to give
abbrev pub lines_to_give : Recorded → ℕ → Blocks → Lines → List Line
lines_to_give recorded place blocks r = let o = open_left recorded place blocks r.open_files in
    o ++ firsts_left recorded (place + length o) (drop r.next_first r.firsts.items)

-- a required file is a user's
abbrev pub is_plain_first : FirstFile → Bool
is_plain_first f = if f.required then not f.system else true

-- the first file that is opened next holds this text
abbrev pub BeginsWithText : Recorded → Lines → Bytes → Type 0
BeginsWithText recorded r text =
    IfSome (slice_get r.firsts.items r.next_first) (λ f. (recorded.content f.path ≡ Some text)
    × (nat_lt size_limit (length text) ≡ false))

-- the first file that is opened next isn't there, and needn't be
abbrev pub IsLacking : Recorded → Lines → Type 0
IsLacking recorded r = IfSome (slice_get r.firsts.items r.next_first) (λ f. (recorded.content f.path ≡ None)
    × (f.required ≡ false))

-- so many files are open of which a line was given, at most
abbrev pub Bounded : OpenFiles → ℕ → Type 0
Bounded o n = length o.below.items + (if o.fresh then 0 else length (option_to_list o.top)) ≤ n
