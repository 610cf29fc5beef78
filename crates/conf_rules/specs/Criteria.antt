-- The criteria of Match, as they are read.
use Rattle.std.specs.Prelude.{ℕ, ◌+◌, Bool, true, false, if◌then◌else◌, List, [], ◌∷◌, Option, Some, None, Result, Ok, Err, codes}
use Rattle.std.specs.List.{list_any}
use Rattle.conf_rules.specs.declared.criterion.Kind.{Kind}
use Rattle.conf_rules.specs.declared.criterion.Kind.TheVariants.{All, Canonical, Final, Exec, Host, OriginalHost, Tagged, User, LocalUser}
use Rattle.conf_rules.specs.declared.criterion.Criterion.{Criterion}
use Rattle.conf_rules.specs.declared.criterion.Named.{Named}
use Rattle.conf_rules.specs.declared.criterion.Named.TheVariants.{Valued, Plain, NotSupported, NoName}
use Rattle.conf_rules.specs.declared.causes.MatchError.{MatchError}
use Rattle.conf_rules.specs.declared.causes.MatchError.TheVariants.{Unknown, AllNotAlone, NoValue, Unsupported}
use Rattle.conf_rules.specs.Results.{◌>>=◌}
use Rattle.conf_rules.specs.Texts.{Bytes, same_word, rest_after_prefix, split_at_first}

-- criteria that need facts that aren't known
abbrev pub not_supported : List Bytes
not_supported = codes "localnetwork" ∷ codes "sessiontype" ∷ codes "command" ∷ codes "version" ∷ []

-- what a name is, in any case
abbrev pub named : Bytes → Named
named name =
    if same_word name (codes "all") then Plain All
    else (if same_word name (codes "canonical") then Plain Canonical
    else (if same_word name (codes "final") then Plain Final
    else (if same_word name (codes "exec") then Valued Exec
    else (if same_word name (codes "host") then Valued Host
    else (if same_word name (codes "originalhost") then Valued OriginalHost
    else (if same_word name (codes "tagged") then Valued Tagged
    else (if same_word name (codes "user") then Valued User
    else (if same_word name (codes "localuser") then Valued LocalUser
    else (if list_any (same_word name) not_supported then NotSupported else NoName)))))))))

-- a criterion's own word: whether it is negated, its name, and the text after its first equals sign
pub record Spelled : Type 0 where
  pub negated : Bool
  pub name : Named
  pub value : Option Bytes

-- a word after its exclamation mark, if it has one
abbrev pub split_value : Bool → Bytes → Spelled
split_value negated word = elim (split_at_first 61 word) [
  | None ↦ record { negated = negated; name = named word; value = None }
  | Some p ↦ record { negated = negated; name = named p.0; value = Some p.1 }
]

-- a criterion's own word
abbrev pub spelled_criterion : Bytes → Spelled
spelled_criterion word = elim (rest_after_prefix (33 ∷ []) word) [
  | Some rest ↦ split_value true rest
  | None ↦ split_value false word
]

-- criteria, or why there are none
abbrev pub ReadCriteria : Type 0
ReadCriteria = Result (List Criterion) MatchError

-- a criterion before later ones
abbrev pub with_criterion : Bool → Kind → Bytes → ReadCriteria → ReadCriteria
with_criterion negated kind value later = later >>= λ cs.
    Ok (record { negated = negated; kind = kind; value = value } ∷ cs)

-- whether `all` may stand after a criterion
abbrev pub opens_all : Kind → Bool
opens_all Canonical = true
opens_all Final = true
opens_all kind = false

-- `all`, with the words after it: it is the last criterion, and stands where it may
abbrev pub all_alone : Bool → List Bytes → ReadCriteria
all_alone true [] = Ok (record { negated = false; kind = All; value = [] } ∷ [])
all_alone may words = Err AllNotAlone

-- a criterion that has no value, with the words after it and their criteria
abbrev pub plain_criterion : ℕ → Bool → Bool → Kind → List Bytes → ReadCriteria → ReadCriteria
plain_criterion at may true All words later = Err (Unknown at)
plain_criterion at may false All words later = all_alone may words
plain_criterion at may negated kind words later = with_criterion negated kind [] later

-- the same of a word at a place, which has no equals sign
abbrev pub unvalued : ℕ → Option Bytes → ReadCriteria → ReadCriteria
unvalued at None criteria = criteria
unvalued at (Some value) criteria = Err (Unknown at)

-- the criteria from the word at a place on; `may` says whether `all` may stand here. A value is the
-- text after the equals sign, or the next word
unfoldable pub criteria_from : ℕ → Bool → List Bytes → ReadCriteria
criteria_from at may [] = Ok []
criteria_from at may (word ∷ []) = let s = spelled_criterion word in elim s.name [
  | Plain kind ↦ unvalued at s.value (plain_criterion at may s.negated kind [] (Ok []))
  | Valued kind ↦ elim s.value [
    | Some value ↦ with_criterion s.negated kind value (Ok [])
    | None ↦ Err (NoValue at)
  ]
  | NotSupported ↦ Err (Unsupported at)
  | NoName ↦ Err (Unknown at)
]
criteria_from at may (word ∷ next ∷ words) = let s = spelled_criterion word in elim s.name [
  | Plain kind ↦ unvalued at s.value
      (plain_criterion at may s.negated kind (next ∷ words)
      (criteria_from (at + 1) (opens_all kind) (next ∷ words)))
  | Valued kind ↦ elim s.value [
    | Some value ↦ with_criterion s.negated kind value (criteria_from (at + 1) false (next ∷ words))
    | None ↦ with_criterion s.negated kind next (criteria_from (at + 2) false words)
  ]
  | NotSupported ↦ Err (Unsupported at)
  | NoName ↦ Err (Unknown at)
]

-- the criteria of all words
abbrev pub read_criteria : List Bytes → ReadCriteria
read_criteria words = criteria_from 0 true words
