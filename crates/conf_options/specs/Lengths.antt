-- The keywords of one length.
use Rattle.std.specs.Prelude.{ℕ, ◌==◌, List, length, filter}
use Rattle.conf_rules.specs.declared.key.Key.{Key}
use Rattle.conf_rules.specs.declared.key.TheConstants.{LISTING_ORDER}
use Rattle.conf_rules.specs.Texts.{Bytes}
use Rattle.conf_rules.specs.Keys.{keyword}
use Rattle.conf_rules.specs.Keywords.{unchecked}

-- the keys whose keywords have so many letters
unfoldable pub keys_of_length : ℕ → List Key
keys_of_length n = filter (λ key. length (keyword key) == n) LISTING_ORDER

-- the keywords of so many letters whose rest isn't checked
unfoldable pub texts_of_length : ℕ → List Bytes
texts_of_length n = filter (λ text. length text == n) unchecked
