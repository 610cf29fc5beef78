-- Which paths a reader of lines has still to read, and which of them its calls read.
use Rattle.std.specs.Prelude.{◌≡◌, ℕ, ◌+◌, ◌-◌, List, [], ◌∷◌, ◌++◌, drop, flat_map, map, Option, Some, None, Result, Ok, Err}
use Rattle.std.specs.Option.{option_map}
use Rattle.mux_outside.specs.declared.reading.Reading.{Reading}
use Rattle.conf_rules.specs.declared.causes.ResolveError.{ResolveError}
use Rattle.conf_rules.specs.declared.causes.ResolveError.TheVariants.{OutOfMemory}
use Rattle.conf_rules.specs.Texts.{Bytes}
use Rattle.conf_rules.specs.Heads.{lines_of}
use Rattle.conf_rules.specs.Words.{words_of}
use Rattle.conf_rules.specs.Recorded.{Recorded}
use Rattle.conf_rules.specs.Includes.{Source}
use Rattle.conf_rules.specs.Sources.{depth_limit, size_limit}
use Rattle.conf_rules.specs.ReadOrder.{paths_in, read_along, read_by, read_first}
use Rattle.conf_reader.specs.declared.open_file.OpenFile.{OpenFile}
use Rattle.conf_reader.specs.declared.stack.OpenFiles.{OpenFiles}
use Rattle.conf_reader.specs.declared.lines.FirstFile.{FirstFile}
use Rattle.conf_reader.specs.declared.lines.Lines.{Lines}
use Rattle.conf_reader.specs.Left.{source_of, stack}

-- ---- what is still to be read

-- the paths that an open file's last line names, and that aren't read yet
abbrev pub names_left : Recorded → Source → OpenFile → List Bytes
names_left recorded source f = elim f.include [
  | None ↦ drop f.next f.named
  | Some rest ↦ paths_in source recorded (words_of rest)
]

-- what an open file at a depth has still to read
abbrev pub file_reads : Recorded → Source → ℕ → OpenFile → List Bytes
file_reads recorded source depth f =
    read_along source recorded (depth_limit - depth) (names_left recorded source f)
    ++ flat_map (read_by source recorded (depth_limit - depth)) (lines_of (drop f.at f.text))

-- the same of open files, the first file first
abbrev pub files_read : Recorded → Source → ℕ → List OpenFile → List Bytes
files_read recorded source depth [] = []
files_read recorded source depth (f ∷ fs) = let inner = files_read recorded source (depth + 1) fs in
    inner ++ file_reads recorded source depth f

-- the same of all open files
abbrev pub open_reads : Recorded → OpenFiles → List Bytes
open_reads recorded o = files_read recorded (source_of o.system) 0 (stack o)

-- what a file reads that no line includes
abbrev pub first_reads : Recorded → FirstFile → List Bytes
first_reads recorded f = read_first (source_of f.system) recorded f.path

-- what a reader has still to read
abbrev pub all_to_read : Recorded → Lines → List Bytes
all_to_read recorded r =
    open_reads recorded r.open_files ++ flat_map (first_reads recorded) (drop r.next_first r.firsts.items)

-- ---- what calls read

-- a call of `read`: it asks for one byte more than a file may have
abbrev pub reading_of : Bytes → Reading
reading_of path = record { path = path; most = size_limit + 1 }

-- one path was read, unless memory ran out
abbrev pub NotesFirst : {A : Type 0} → Bytes → Result A ResolveError → Option (List Reading)
    → Option (List Reading) → Type 0
NotesFirst path (Err OutOfMemory) readings now = now ≡ readings
NotesFirst path result readings now = now ≡ option_map (λ rs. rs ++ reading_of path ∷ []) readings

-- the first of these paths were read, in their order, and these are left
pub record ReadsTo (before left : List Bytes) (readings now : Option (List Reading)) : Type 0 where
  pub read : List Bytes
  pub parts : before ≡ read ++ left
  pub noted : now ≡ option_map (λ rs. rs ++ map reading_of read) readings

-- the first of these paths were read
abbrev pub ReadsSome : List Bytes → Option (List Reading) → Option (List Reading) → Type 0
ReadsSome before readings now = (left : List Bytes) × ReadsTo before left readings now

-- the same of a call: which are left is known where it gave something
abbrev pub Notes : {A : Type 0} → List Bytes → List Bytes → Result A ResolveError
    → Option (List Reading) → Option (List Reading) → Type 0
Notes before after (Ok x) readings now = ReadsTo before after readings now
Notes before after (Err e) readings now = ReadsSome before readings now
