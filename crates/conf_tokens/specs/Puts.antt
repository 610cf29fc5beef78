-- What a text contains once a part was appended.
use Rattle.std.specs.Prelude.{◌≡◌, ◌==◌, ℕ, if◌then◌else◌, [], ◌∷◌, ◌++◌, Option, Result, Ok, Err}
use Rattle.conf_rules.specs.declared.causes.TokenError.{TokenError}
use Rattle.conf_rules.specs.Results.{◌>>=◌, Fails}
use Rattle.conf_rules.specs.Wants.{token_wants_memory}
use Rattle.conf_rules.specs.Texts.{Bytes}
use Rattle.conf_rules.specs.Tokens.{TokenPart, fact_of, before_dot}

-- a text before a reading
abbrev pub with_text_before : Bytes → Result Bytes TokenError → Result Bytes TokenError
with_text_before front reading = reading >>= λ text. Ok (front ++ text)

-- what stood there has the reading after it, unless memory ran out
abbrev pub Puts : {X : Type 0} → Result X TokenError → Bytes → Bytes
    → Result Bytes TokenError → Type 0
Puts (Ok x) old new reading = with_text_before old reading ≡ Ok new
Puts (Err e) old new reading = Fails token_wants_memory e reading

-- a part after what stood there, and how many bytes follow its first
abbrev pub onto_part : Bytes → Result TokenPart TokenError → Result (Bytes × ℕ) TokenError
onto_part front reading = reading >>= λ part. Ok (front ++ part.text, part.more)

-- what stood there has the part's text after it, unless memory ran out
abbrev pub PutsPart : Result ℕ TokenError → Bytes → Bytes → Result TokenPart TokenError → Type 0
PutsPart (Ok more) old new reading = onto_part old reading ≡ Ok (new, more)
PutsPart (Err e) old new reading = Fails token_wants_memory e reading

-- what a token of a Hostname gives
abbrev pub name_token : Bytes → ℕ → Bytes
name_token original c = if c == 104 then original else c ∷ []

-- the name of this machine up to its first dot
abbrev pub short_name : Option Bytes → Result Bytes TokenError
short_name host_name = fact_of 76 host_name >>= λ name. Ok (before_dot name)
