-- Criteria, read one by one.
use Rattle.std.proofs.Common.{◌≡◌, ℕ, ◌+◌, ◌<◌, ◌≤◌, Bool, true, false, not, List, [], ◌∷◌, ◌++◌, length, drop, Some, None, Ok, Err, refl, sym, ap, ◌∙◌, append-nil, arith}
use Rattle.std.proofs.Math.ListN.{drop_of_length-le}
use Rattle.conf_rules.specs.declared.criterion.Kind.{Kind}
use Rattle.conf_rules.specs.declared.criterion.Kind.TheVariants as kinds
use Rattle.conf_rules.specs.declared.criterion.Criterion.{Criterion}
use Rattle.conf_rules.specs.declared.criterion.Named.TheVariants.{Valued, Plain, NotSupported, NoName}
use Rattle.conf_rules.specs.declared.causes.MatchError.TheVariants.{Unknown, AllNotAlone, Unsupported}
use Rattle.conf_rules.specs.Texts.{Bytes}
use Rattle.conf_rules.specs.Criteria.{Spelled, spelled_criterion, ReadCriteria, criteria_from, with_criterion, plain_criterion, all_alone, unvalued, opens_all}
use Rattle.conf_match.specs.CriterionPlace.{with_criteria_before, valued_criterion, every, Goes}

pub is_true : (b : Bool) → not b ≡ false → b ≡ true
is_true true e = refl
is_true false e = absurd cc

-- ---- criteria without a value

more_words : (may : Bool) (words : List Bytes) → 0 < length words → all_alone may words ≡ Err AllNotAlone
more_words true [] h = absurd (omega (arith, h))
more_words false [] h = refl
more_words true (w ∷ ws) h = refl
more_words false (w ∷ ws) h = refl

pub not_last : (at : ℕ) (may negated : Bool) (words : List Bytes) → negated ≡ false → 0 < length words → every at may negated words ≡ Err AllNotAlone
not_last at may true words n h = absurd cc
not_last at may false words n h = more_words may words h

pub goes_all : (old new : List Criterion) (words : List Bytes) (at : ℕ) (may negated : Bool) → negated ≡ false → may ≡ true → new ≡ old ++ record { negated = negated; kind = kinds.All; value = [] } ∷ [] → at < length words → length words ≤ at + 1
    → Goes old new words at (record { word = at + 1; may = false }) (every at may negated (drop (at + 1) words))
unfolding criteria_from
goes_all old new words at true true n m added here last = absurd cc
goes_all old new words at false negated n m added here last = absurd cc
goes_all old new words at true false n m added here last =
    let none : drop (at + 1) words ≡ [] = drop_of_length-le words last in
    record {
      read = rw none (ap Ok (sym added ∙ sym (append-nil new)));
      further = omega arith;
      within = omega (arith, here);
    }

-- ---- a word and the words after it

pub of_plain : (at : ℕ) (may : Bool) (word : Bytes) (rest : List Bytes) (kind : Kind) → (spelled_criterion word).name ≡ Plain kind → criteria_from at may (word ∷ rest) ≡ unvalued at (spelled_criterion word).value (plain_criterion at may (spelled_criterion word).negated kind rest (criteria_from (at + 1) (opens_all kind) rest))
unfolding criteria_from
of_plain at may word [] kind e = rw (e, criteria_from) refl
of_plain at may word (next ∷ words) kind e = rw (e, criteria_from) refl

pub of_value : (at : ℕ) (may : Bool) (word : Bytes) (rest : List Bytes) (kind : Kind) (value : Bytes) → (spelled_criterion word).name ≡ Valued kind → (spelled_criterion word).value ≡ Some value → criteria_from at may (word ∷ rest) ≡ with_criterion (spelled_criterion word).negated kind value (criteria_from (at + 1) false rest)
unfolding criteria_from
of_value at may word [] kind value e v = rw (e, v, criteria_from) refl
of_value at may word (next ∷ words) kind value e v = rw (e, v, criteria_from) refl

pub of_next : (at : ℕ) (may : Bool) (word : Bytes) (rest : List Bytes) (kind : Kind) → (spelled_criterion word).name ≡ Valued kind → (spelled_criterion word).value ≡ None → criteria_from at may (word ∷ rest) ≡ valued_criterion at (spelled_criterion word).negated kind None rest
unfolding criteria_from
of_next at may word [] kind e v = rw (e, v, criteria_from) refl
of_next at may word (next ∷ words) kind e v = rw (e, v, criteria_from) refl

pub of_unsupported : (at : ℕ) (may : Bool) (word : Bytes) (rest : List Bytes) → (spelled_criterion word).name ≡ NotSupported → criteria_from at may (word ∷ rest) ≡ Err (Unsupported at)
unfolding criteria_from
of_unsupported at may word [] e = rw (e, criteria_from) refl
of_unsupported at may word (next ∷ words) e = rw (e, criteria_from) refl

pub of_no_name : (at : ℕ) (may : Bool) (word : Bytes) (rest : List Bytes) → (spelled_criterion word).name ≡ NoName → criteria_from at may (word ∷ rest) ≡ Err (Unknown at)
unfolding criteria_from
of_no_name at may word [] e = rw (e, criteria_from) refl
of_no_name at may word (next ∷ words) e = rw (e, criteria_from) refl

-- ---- the loop

pub done : (criteria : List Criterion) (at : ℕ) (may : Bool) (left : List Bytes) (total : ReadCriteria) → left ≡ [] → with_criteria_before criteria (criteria_from at may left) ≡ total → total ≡ Ok criteria
unfolding criteria_from
done criteria at may left total e so_far = sym so_far ∙ rw (e, append-nil) refl

-- ---- one word, by what was read of it

pub plain_word : (at : ℕ) (may : Bool) (word : Bytes) (left rest : List Bytes) (kind : Kind) (own : Spelled) → left ≡ word ∷ rest → own ≡ spelled_criterion word → own.name ≡ Plain kind → own.value ≡ None → criteria_from at may left ≡ plain_criterion at may own.negated kind rest (criteria_from (at + 1) (opens_all kind) rest)
plain_word at may word left rest kind own e o n v =
    ap (criteria_from at may) e ∙ of_plain at may word rest kind (ap (λ (s : Spelled). s.name) (sym o) ∙ n)
    ∙ ap (λ (s : Spelled). unvalued at s.value (plain_criterion at may s.negated kind rest (criteria_from (at + 1) (opens_all kind) rest))) (sym o)
    ∙ ap (λ x. unvalued at x (plain_criterion at may own.negated kind rest (criteria_from (at + 1) (opens_all kind) rest))) v

pub plain_with_value : (at : ℕ) (may : Bool) (word : Bytes) (left rest : List Bytes) (kind : Kind) (own : Spelled) (value : Bytes) → left ≡ word ∷ rest → own ≡ spelled_criterion word → own.name ≡ Plain kind → own.value ≡ Some value → criteria_from at may left ≡ Err (Unknown at)
plain_with_value at may word left rest kind own value e o n v =
    ap (criteria_from at may) e ∙ of_plain at may word rest kind (ap (λ (s : Spelled). s.name) (sym o) ∙ n)
    ∙ ap (λ (s : Spelled). unvalued at s.value (plain_criterion at may s.negated kind rest (criteria_from (at + 1) (opens_all kind) rest))) (sym o)
    ∙ ap (λ x. unvalued at x (plain_criterion at may own.negated kind rest (criteria_from (at + 1) (opens_all kind) rest))) v

pub value_word : (at : ℕ) (may : Bool) (word : Bytes) (left rest : List Bytes) (kind : Kind) (own : Spelled) (value : Bytes) → left ≡ word ∷ rest → own ≡ spelled_criterion word → own.name ≡ Valued kind → own.value ≡ Some value → criteria_from at may left ≡ with_criterion own.negated kind value (criteria_from (at + 1) false rest)
value_word at may word left rest kind own value e o n v =
    ap (criteria_from at may) e ∙ of_value at may word rest kind value (ap (λ (s : Spelled). s.name) (sym o) ∙ n) (ap (λ (s : Spelled). s.value) (sym o) ∙ v)
    ∙ ap (λ (s : Spelled). with_criterion s.negated kind value (criteria_from (at + 1) false rest)) (sym o)

pub next_word : (at : ℕ) (may : Bool) (word : Bytes) (left rest : List Bytes) (kind : Kind) (own : Spelled) → left ≡ word ∷ rest → own ≡ spelled_criterion word → own.name ≡ Valued kind → own.value ≡ None → criteria_from at may left ≡ valued_criterion at own.negated kind None rest
next_word at may word left rest kind own e o n v =
    ap (criteria_from at may) e ∙ of_next at may word rest kind (ap (λ (s : Spelled). s.name) (sym o) ∙ n) (ap (λ (s : Spelled). s.value) (sym o) ∙ v)
    ∙ ap (λ (s : Spelled). valued_criterion at s.negated kind None rest) (sym o)

pub unsupported_word : (at : ℕ) (may : Bool) (word : Bytes) (left rest : List Bytes) (own : Spelled) → left ≡ word ∷ rest → own ≡ spelled_criterion word → own.name ≡ NotSupported → criteria_from at may left ≡ Err (Unsupported at)
unsupported_word at may word left rest own e o n = ap (criteria_from at may) e ∙ of_unsupported at may word rest (ap (λ (s : Spelled). s.name) (sym o) ∙ n)

pub no_name_word : (at : ℕ) (may : Bool) (word : Bytes) (left rest : List Bytes) (own : Spelled) → left ≡ word ∷ rest → own ≡ spelled_criterion word → own.name ≡ NoName → criteria_from at may left ≡ Err (Unknown at)
no_name_word at may word left rest own e o n = ap (criteria_from at may) e ∙ of_no_name at may word rest (ap (λ (s : Spelled). s.name) (sym o) ∙ n)
