-- The open blocks after the lines that were given, and a given line among all lines.
use Rattle.std.specs.Prelude.{◌≡◌, ℕ, Bool, false, ◌||◌, if◌then◌else◌, List, [], ◌∷◌, ◌++◌, flat_map, take, Option, Some, None, Ok, option_to_list, codes}
use Rattle.std.specs.List.{slice_get}
use Rattle.conf_rules.specs.Texts.{Bytes, same_word}
use Rattle.conf_rules.specs.Heads.{Says, head_of}
use Rattle.conf_rules.specs.Sources.{Line, Spelled, own_block, block_behind}
use Rattle.conf_rules.specs.Resolution.{is_of_command_line}
use Rattle.conf_reader.specs.declared.line.ConfLine.{ConfLine}

-- the place of the block that is open in each open file, the first file first
abbrev pub Blocks : Type 0
Blocks = List (Option ℕ)

-- an open block of a file, where there is one
abbrev pub or_none : Option (Option ℕ) → Option ℕ
or_none None = None
or_none (Some block) = block

-- the block that is open in a line's own file: none where the line is the first of its file
abbrev pub own_block_of : ConfLine → Blocks → Option ℕ
own_block_of line blocks = if line.opens then None else or_none (slice_get blocks line.depth)

-- whether a keyword opens a block
abbrev pub keyword_opens_block : Bytes → Bool
keyword_opens_block keyword = same_word keyword (codes "host") || same_word keyword (codes "match")

-- the blocks in which a line stands
abbrev pub blocks_of : ConfLine → Blocks → List ℕ
blocks_of line blocks = flat_map option_to_list (take line.depth blocks)
    ++ own_block (keyword_opens_block line.keyword) (own_block_of line blocks)

-- the blocks that are open after a line at a place
abbrev pub open_behind : ConfLine → ℕ → Blocks → Blocks
open_behind line place blocks = take line.depth blocks
    ++ block_behind (keyword_opens_block line.keyword) place (own_block_of line blocks) ∷ []

-- a given line is this line, where these blocks are open
pub record IsLine (given : ConfLine) (blocks : Blocks) (line : Line) : Type 0 where
  pub asked : is_of_command_line line.source ≡ false
  pub file : line.file ≡ given.file
  pub number : line.number ≡ given.number
  pub bytes : Bytes
  pub spelled : line.content ≡ Spelled bytes
  pub says : head_of bytes ≡ Ok (Says given.keyword given.rest)
  pub stands : line.blocks ≡ blocks_of given blocks
