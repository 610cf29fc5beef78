-- What was read of the words so far, joined with what is still to be read, and the byte that a
-- backslash represents.
use Rattle.std.specs.Prelude.{ℕ, ◌&&◌, ◌==◌, if◌then◌else◌, List, [], ◌∷◌, ◌++◌, Option, Some, None, Ok}
use Rattle.conf_rules.specs.declared.quoting.Quoting.{Quoting}
use Rattle.conf_rules.specs.Results.{◌>>=◌}
use Rattle.conf_rules.specs.Texts.{Bytes}
use Rattle.conf_rules.specs.Words.{ReadWords, onto_word, is_escapable}

-- words that are whole, the bytes of the word that is being read, and what is read from here on
abbrev pub with_words_before : List Bytes → Bytes → ReadWords → ReadWords
with_words_before words word later = later >>= λ ws. Ok (words ++ onto_word word ws)

-- the byte for which a backslash and that byte stand, and what follows it, where `b` was read and
-- these bytes follow
unfoldable pub escaped : Quoting → ℕ → Bytes → Option (ℕ × Bytes)
escaped quoting b [] = None
escaped quoting b (c ∷ bs) = if (b == 92) && is_escapable quoting c then Some (c, bs) else None
