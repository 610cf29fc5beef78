-- What lines say, in parts.
use Rattle.std.specs.Prelude.{Bool, true, List, Option, Ok}
use Rattle.conf_rules.specs.declared.key.Key.{Key}
use Rattle.conf_rules.specs.declared.causes.Cause.TheVariants as causes
use Rattle.conf_rules.specs.declared.entry.LineContent.{LineContent}
use Rattle.conf_rules.specs.declared.entry.LineContent.TheVariants.{Gives}
use Rattle.conf_rules.specs.Results.{◌>>=◌, as_error}
use Rattle.conf_rules.specs.Texts.{Bytes}
use Rattle.conf_rules.specs.Heads.{head_of}
use Rattle.conf_rules.specs.Includes.{Source}
use Rattle.conf_rules.specs.Fits.{fits}
use Rattle.conf_rules.specs.Values.{value_for}
use Rattle.conf_rules.specs.Entries.{ReadEntry, headed_entry}

-- whether what a line gives is a value of its key
abbrev pub content_fits : LineContent → Bool
content_fits (Gives key value) = fits key value
content_fits entry = true

-- what words give to a key
abbrev pub value_entry : Key → Bytes → List Bytes → ReadEntry
value_entry key rest words = as_error causes.Value (value_for key rest words) >>= λ v.
    Ok (Gives key v)

-- what the bytes of a line say
abbrev pub spelled_entry : Option Bytes → Source → Bytes → ReadEntry
spelled_entry ignored source bytes =
    as_error causes.Lex (head_of bytes) >>= headed_entry ignored source
