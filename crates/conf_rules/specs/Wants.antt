-- Which errors are `OutOfMemory`, at which any call may end.
use Rattle.std.specs.Prelude.{Bool, true, false}
use Rattle.conf_rules.specs.declared.causes.LexError.{LexError}
use Rattle.conf_rules.specs.declared.causes.LexError.TheVariants as lex_errors
use Rattle.conf_rules.specs.declared.causes.ValueError.{ValueError}
use Rattle.conf_rules.specs.declared.causes.ValueError.TheVariants as value_errors
use Rattle.conf_rules.specs.declared.causes.MatchError.{MatchError}
use Rattle.conf_rules.specs.declared.causes.MatchError.TheVariants as match_errors
use Rattle.conf_rules.specs.declared.causes.TokenError.{TokenError}
use Rattle.conf_rules.specs.declared.causes.TokenError.TheVariants as token_errors
use Rattle.conf_rules.specs.declared.causes.ListError.{ListError}
use Rattle.conf_rules.specs.declared.causes.ListError.TheVariants as list_errors

-- whether a lexer's error is `OutOfMemory`
abbrev pub lex_wants_memory : LexError → Bool
lex_wants_memory lex_errors.OutOfMemory = true
lex_wants_memory e = false

-- whether a value's error is `OutOfMemory`
abbrev pub value_wants_memory : ValueError → Bool
value_wants_memory value_errors.OutOfMemory = true
value_wants_memory e = false

-- whether a criterion's error is `OutOfMemory`
abbrev pub match_wants_memory : MatchError → Bool
match_wants_memory match_errors.OutOfMemory = true
match_wants_memory e = false

-- whether a token's error is `OutOfMemory`
abbrev pub token_wants_memory : TokenError → Bool
token_wants_memory token_errors.OutOfMemory = true
token_wants_memory e = false

-- whether a listing's error is `OutOfMemory`
abbrev pub list_wants_memory : ListError → Bool
list_wants_memory list_errors.OutOfMemory = true
list_wants_memory e = false
