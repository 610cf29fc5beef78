-- Where the reading of criteria stands, and what its steps take.
use Rattle.std.specs.Prelude.{◌≡◌, ◌<◌, ◌≤◌, ◌+◌, ℕ, Bool, true, false, List, [], ◌∷◌, ◌++◌, length, drop, Option, Some, None, Result, Ok, Err}
use Rattle.conf_rules.specs.declared.criterion.Kind.{Kind}
use Rattle.conf_rules.specs.declared.criterion.Criterion.{Criterion}
use Rattle.conf_rules.specs.declared.causes.MatchError.{MatchError}
use Rattle.conf_rules.specs.declared.causes.MatchError.TheVariants.{OutOfMemory, Unknown, NoValue}
use Rattle.conf_rules.specs.Results.{◌>>=◌, Fails}
use Rattle.conf_rules.specs.Wants.{match_wants_memory}
use Rattle.conf_rules.specs.Texts.{Bytes}
use Rattle.conf_rules.specs.Criteria.{ReadCriteria, criteria_from, with_criterion, all_alone}
use Rattle.conf_match.specs.declared.criteria.CriterionPlace.{CriterionPlace}

-- criteria before what is read
abbrev pub with_criteria_before : List Criterion → ReadCriteria → ReadCriteria
with_criteria_before front reading = reading >>= λ cs. Ok (front ++ cs)

-- a criterion that has a value, with the words after it
abbrev pub valued_criterion : ℕ → Bool → Kind → Option Bytes → List Bytes → ReadCriteria
valued_criterion at negated kind (Some value) rest =
    with_criterion negated kind value (criteria_from (at + 1) false rest)
valued_criterion at negated kind None [] = Err (NoValue at)
valued_criterion at negated kind None (next ∷ words) =
    with_criterion negated kind next (criteria_from (at + 2) false words)

-- what a step took: the criteria with what is read from the new place on are those with what was to
-- be read
pub record Goes (old new : List Criterion) (words : List Bytes) (at : ℕ) (place : CriterionPlace)
    (reading : ReadCriteria) : Type 0 where
  pub read : with_criteria_before old reading
      ≡ with_criteria_before new (criteria_from place.word place.may (drop place.word words))
  pub further : at < place.word
  pub within : place.word ≤ length words

-- what a step returned
abbrev pub TakesCriterion : Result CriterionPlace MatchError → List Criterion → List Criterion → List Bytes → ℕ
    → ReadCriteria → Type 0
TakesCriterion (Ok place) old new words at reading = Goes old new words at place reading
TakesCriterion (Err e) old new words at reading = Fails match_wants_memory e reading

-- a criterion was added, unless memory ran out
abbrev pub AddsCriterion : Result (Unit {0}) MatchError → List Criterion → List Criterion → Bool → Kind
    → Bytes → Type 0
AddsCriterion (Ok x) old new negated kind value =
    new ≡ old ++ record { negated = negated; kind = kind; value = value } ∷ []
AddsCriterion (Err e) old new negated kind value = e ≡ OutOfMemory

-- `all`, with the words after it
abbrev pub every : ℕ → Bool → Bool → List Bytes → ReadCriteria
every at may true words = Err (Unknown at)
every at may false words = all_alone may words
