-- What a line means, or its first refusal: of form, keyword, words, and value or criteria, in this
-- order.
use Rattle.std.specs.Prelude.{Bool, true, false, List, [], Option, Some, None, Result, Ok, Err}
use Rattle.conf_rules.specs.declared.key.Key.{Key}
use Rattle.conf_rules.specs.declared.key.Key.TheVariants.{IgnoreUnknown}
use Rattle.conf_rules.specs.declared.causes.Cause.{Cause}
use Rattle.conf_rules.specs.declared.causes.Cause.TheVariants as causes
use Rattle.conf_rules.specs.Results.{◌>>=◌, as_error}
use Rattle.conf_rules.specs.Texts.{Bytes, lower}
use Rattle.conf_rules.specs.Heads.{Heading, Comment, Says, head_of}
use Rattle.conf_rules.specs.Words.{words_of}
use Rattle.conf_rules.specs.Patterns.{list_takes}
use Rattle.conf_rules.specs.Kinds.{is_raw}
use Rattle.conf_rules.specs.declared.key_kind.KeyKind.{KeyKind}
use Rattle.conf_rules.specs.declared.key_kind.KeyKind.TheVariants as kinds
use Rattle.conf_rules.specs.Keywords.{meaning_of}
use Rattle.conf_rules.specs.Values.{value_for}
use Rattle.conf_rules.specs.Criteria.{read_criteria}
use Rattle.conf_rules.specs.Includes.{Source, CommandLine}
use Rattle.conf_rules.specs.Sources.{Line, Content, Spelled, Parts, Refused}
use Rattle.conf_rules.specs.Rows.{LineRow, value, word_in}
use Rattle.conf_rules.specs.declared.entry.LineContent.{LineContent}
use Rattle.conf_rules.specs.declared.entry.LineContent.TheVariants.{Nothing, Host, Match, Gives}

-- what a line means, or why it is refused
abbrev pub ReadEntry : Type 0
ReadEntry = Result LineContent Cause

-- words, or why there are none
abbrev pub SplitWords : Type 0
SplitWords = Result (List Bytes) Cause

-- whether a list of patterns matches a keyword, both in lower case
abbrev pub takes_keyword : Option Bytes → Bytes → Bool
takes_keyword None keyword = false
takes_keyword (Some patterns) keyword = list_takes (lower patterns) (lower keyword)

-- the words of a rest
abbrev pub split : Bytes → SplitWords
split rest = as_error causes.Lex (words_of rest)

-- a Host line
abbrev pub host_entry : SplitWords → ReadEntry
host_entry words = words >>= λ ws. Ok (Host ws)

-- a Match line
abbrev pub match_entry : SplitWords → ReadEntry
match_entry words = words >>= λ ws. as_error causes.Match (read_criteria ws) >>= λ cs. Ok (Match cs)

-- the words of a key: those whose rest is kept unsplit have none
abbrev pub key_words : Bool → SplitWords → SplitWords
key_words true words = Ok []
key_words false words = words

-- a line of a key
abbrev pub key_entry : Key → Bytes → SplitWords → ReadEntry
key_entry key rest words = key_words (is_raw key) words >>= λ ws.
    as_error causes.Value (value_for key rest ws) >>= λ v. Ok (Gives key v)

-- a line whose words alone are read
abbrev pub words_entry : SplitWords → ReadEntry
words_entry words = words >>= λ ws. Ok Nothing

-- a line of an unknown keyword: where it is ignored its words are still read
abbrev pub unknown_entry : Bool → Bytes → SplitWords → ReadEntry
unknown_entry true keyword words = words_entry words
unknown_entry false keyword words = Err (causes.UnknownKeyword (lower keyword))

-- what only a file may contain
abbrev pub in_file : Source → ReadEntry → ReadEntry
in_file CommandLine entry = Err causes.NotOnCommandLine
in_file source entry = entry

-- The content of a keyword with a rest, or with its words, where these patterns are ignored; after
-- it what an Include line names.
abbrev pub keyword_entry : Option Bytes → Source → Bytes → Bytes → SplitWords → KeyKind → ReadEntry
keyword_entry ignored source keyword rest words (kinds.Key key) = key_entry key rest words
keyword_entry ignored source keyword rest words kinds.Host = in_file source (host_entry words)
keyword_entry ignored source keyword rest words kinds.Match = in_file source (match_entry words)
keyword_entry ignored source keyword rest words kinds.Include = in_file source (words_entry words)
keyword_entry ignored source keyword rest words kinds.Unchecked = Ok Nothing
keyword_entry ignored source keyword rest words kinds.Unknown =
    unknown_entry (takes_keyword ignored keyword) keyword words

-- what a heading means
abbrev pub headed_entry : Option Bytes → Source → Heading → ReadEntry
headed_entry ignored source Comment = Ok Nothing
headed_entry ignored source (Says keyword rest) =
    keyword_entry ignored source keyword rest (split rest) (meaning_of keyword)

-- what the content of a line means
abbrev pub content_entry : Option Bytes → Source → Content → ReadEntry
content_entry ignored source (Spelled bytes) =
    as_error causes.Lex (head_of bytes) >>= headed_entry ignored source
content_entry ignored source (Parts keyword words) =
    keyword_entry ignored source keyword [] (Ok words) (meaning_of keyword)
content_entry ignored source (Refused cause) = Err cause

-- the content of a line after rows: an unknown keyword that IgnoreUnknown, set earlier, matches is
-- ignored
unfoldable pub entry_of : List LineRow → Line → ReadEntry
entry_of rows line = content_entry (word_in (value IgnoreUnknown rows)) line.source line.content
