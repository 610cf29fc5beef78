-- What a text contains once a reading was appended.
use Rattle.std.specs.Prelude.{◌≡◌, Bool, List, ◌++◌, Result, Ok, Err}
use Rattle.conf_rules.specs.declared.key.Key.{Key}
use Rattle.conf_rules.specs.declared.causes.TokenError.{TokenError}
use Rattle.conf_rules.specs.declared.causes.ListError.{ListError}
use Rattle.conf_rules.specs.Wants.{token_wants_memory, list_wants_memory}
use Rattle.conf_rules.specs.Results.{◌>>=◌, Fails}
use Rattle.conf_rules.specs.Texts.{Bytes}
use Rattle.conf_rules.specs.Tokens.{View}
use Rattle.conf_options.specs.Kept.{Given}
use Rattle.conf_output.specs.Shown.{texts_listed_of, lines_over}

-- a text before a reading
abbrev pub with_listing_before : {E : Type 0} → Bytes → Result Bytes E → Result Bytes E
with_listing_before front reading = reading >>= λ text. Ok (front ++ text)

-- what stood there has the reading after it, unless memory ran out
abbrev pub PutsListing : {X E : Type 0} → (E → Bool) → Result X E → Bytes → Bytes → Result Bytes E → Type 0
PutsListing wants_memory (Ok x) old new reading = with_listing_before old reading ≡ Ok new
PutsListing wants_memory (Err e) old new reading = Fails wants_memory e reading

-- what stood there has the lines of a key after it, unless memory ran out
abbrev pub PutsTexts : {X : Type 0} → Result X TokenError → Bytes → Bytes → Key
    → Result (List Bytes) TokenError → Type 0
PutsTexts result old new key reading = PutsListing token_wants_memory result old new (texts_listed_of key reading)

-- the same of some keys
abbrev pub PutsKeys : {X : Type 0} → Result X ListError → Bytes → Bytes → List Given → View
    → List Key → Type 0
PutsKeys result old new settings view keys =
    PutsListing list_wants_memory result old new (lines_over settings view keys)
