-- What settings keep of all values that were given.
use Rattle.std.specs.Prelude.{◌≡◌, ℕ, Bool, true, false, not, ◌&&◌, is_some, if◌then◌else◌, List, [], ◌∷◌, ◌++◌, take, bytes_eq, Option, Some}
use Rattle.std.specs.List.{slice_get}
use Rattle.conf_rules.specs.declared.key.Key.{Key}
use Rattle.conf_rules.specs.declared.key.Key.TheVariants.{ProxyCommand, ProxyJump}
use Rattle.conf_rules.specs.declared.value.Value.{Value}
use Rattle.conf_rules.specs.declared.value.Value.TheVariants.{Names}
use Rattle.conf_rules.specs.Texts.{Bytes, is_empty_list, rest_after_prefix}
use Rattle.conf_rules.specs.Keys.{same_key}
use Rattle.conf_rules.specs.Kinds.{Keeping, TheFirst, Every, Patterns, Shared, keeping, keeps_every}
use Rattle.conf_rules.specs.Rows.{values_among, kept_values, with_patterns, patterns_in}
use Rattle.conf_rules.specs.Fits.{fits_its_key}

-- a key with a value
abbrev pub Given : Type 0
Given = Key × Value

-- the first value of a key
abbrev pub first_value : Key → List Given → Option Value
first_value key settings = slice_get (values_among key settings) 0

-- settings keep of each key what counts of all that was given
pub record KeepsSettings (settings given : List Given) : Type 0 where
  pub each : (key : Key) → values_among key settings ≡ kept_values (keeping key) key given

-- whether a value is one of its key, of which one value counts
abbrev pub fits_single : Given → Bool
fits_single given = not (keeps_every given.0) && fits_its_key given

-- whether a value is one of its key, of which all values count
abbrev pub fits_every : Given → Bool
fits_every given = keeps_every given.0 && fits_its_key given

-- a value after the others
abbrev pub behind_all : List Given → Key → Value → List Given
behind_all all key value = all ++ (key, value) ∷ []

-- whether a key has no value
abbrev pub is_unset : Key → List Given → Bool
is_unset key all = is_empty_list (values_among key all)

-- the same with another first value of a key
abbrev pub replaced : Key → Value → List Given → List Given
replaced key value [] = []
replaced key value (g ∷ gs) = let later = g ∷ replaced key value gs in if same_key key g.0
    then (key, value) ∷ gs else later

-- the first value of a key stands at a place
pub record StandsAt (key : Key) (all : List Given) (place : ℕ) : Type 0 where
  pub value : Value
  pub is : slice_get all place ≡ Some (key, value)
  pub before : values_among key (take place all) ≡ []

-- a value with more patterns, if there is one
abbrev pub with_more : List Value → Key → Value → List Given → List Given
with_more [] key value all = behind_all all key (Names (with_patterns [] (patterns_in value)))
with_more (v ∷ vs) key value all =
    replaced key (Names (with_patterns (patterns_in v) (patterns_in value))) all

-- what becomes of settings to which a value is offered
abbrev pub offered : Keeping → List Given → Key → Value → List Given
offered TheFirst all key value = if is_unset key all then behind_all all key value else all
offered Every all key value = behind_all all key value
offered Patterns all key value = with_more (values_among key all) key value all
offered Shared all key value = if is_unset ProxyCommand all && is_unset ProxyJump all
    then behind_all all key value else all

-- whether a pattern removes others: it begins with a dash
abbrev pub removes : Bytes → Bool
removes pattern = is_some (rest_after_prefix (45 ∷ []) pattern)

-- whether two lists of texts are one
abbrev pub same_texts : List Bytes → List Bytes → Bool
same_texts [] [] = true
same_texts (x ∷ xs) (y ∷ ys) = let later = same_texts xs ys in bytes_eq x y && later
same_texts xs ys = false
