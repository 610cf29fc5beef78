-- Paths, their components, and lists of them in whatever order.
use Rattle.std.proofs.Common.{◌≡◌, ℕ, ◌+◌, eqb, List, ◌++◌, length, take, get_or, Result, Ok, Err, refl, sym, ap, ◌∙◌}
use Rattle.conf_rules.specs.declared.causes.TokenError.{TokenError}
use Rattle.conf_rules.specs.declared.causes.TokenError.TheVariants.{Unknown, LoneAtEnd, FactMissing, NoVariable, OpenBrace, OutOfMemory}
use Rattle.conf_rules.specs.Results.{◌>>=◌, Fails}
use Rattle.conf_rules.specs.Wants.{token_wants_memory}
use Rattle.conf_rules.specs.Texts.{Bytes}
use Rattle.conf_rules.specs.Recorded.{Facts, Recorded}
use Rattle.conf_rules.specs.Includes.{Source, ends_with_slash, paths_from}
use Rattle.conf_rules.specs.Words.{words_of}
use Rattle.conf_rules.proofs.SplitLemmas.{split-end, last-split}
use Rattle.conf_reader.specs.Left.{named_by, FoundPaths}
use Rattle.conf_reader.specs.Results.{of_token}
use Rattle.conf_reader.specs.Paths.{all_globbed}

-- ---- the end of a path

pub slash-end : (path : Bytes) (n : ℕ) → length path ≡ n + 1 → eqb (get_or path n 0) 47 ≡ ends_with_slash path
slash-end path n h = sym (ap ends_with_slash (last-split path n h) ∙ rw (ends_with_slash, split-end (take n path) (get_or path n 0)) refl)

-- ---- the paths of words

-- paths before those that are read
abbrev pub onto : List Bytes → Result (List Bytes) TokenError → Result (List Bytes) TokenError
onto front reading = reading >>= λ paths. Ok (front ++ paths)

-- ---- what an Include line names

with_found : Recorded → Result (List Bytes) TokenError → Result (List Bytes) TokenError
with_found recorded reading = reading >>= λ paths. Ok (all_globbed recorded paths)

named-from : (source : Source) (recorded : Recorded) (facts : Facts) (original rest : Bytes) (words : List Bytes) → recorded.facts ≡ facts → recorded.asked.original ≡ original → words_of rest ≡ Ok words
    → named_by source recorded (words_of rest) ≡ with_found recorded (paths_from source facts original words)
unfolding with_found
named-from source recorded facts original rest words f o w =
    ap (named_by source recorded) w ∙ ap (with_found recorded) (ap (λ f. paths_from source f recorded.asked.original words) f ∙ ap (λ o. paths_from source facts o words) o)

pub named-ok : (source : Source) (recorded : Recorded) (facts : Facts) (original rest : Bytes) (words paths all : List Bytes) → recorded.facts ≡ facts → recorded.asked.original ≡ original → words_of rest ≡ Ok words
    → paths_from source facts original words ≡ Ok paths → all ≡ all_globbed recorded paths → named_by source recorded (words_of rest) ≡ Ok all
unfolding with_found
named-ok source recorded facts original rest words paths all f o w p a = named-from source recorded facts original rest words f o w ∙ ap (with_found recorded) p ∙ ap Ok (sym a)

named-refused : (source : Source) (recorded : Recorded) (facts : Facts) (original rest : Bytes) (words : List Bytes) (e : TokenError) → recorded.facts ≡ facts → recorded.asked.original ≡ original → words_of rest ≡ Ok words
    → paths_from source facts original words ≡ Err e → named_by source recorded (words_of rest) ≡ Err e
unfolding with_found
named-refused source recorded facts original rest words e f o w p = named-from source recorded facts original rest words f o w ∙ ap (with_found recorded) p

pub named-err : (source : Source) (recorded : Recorded) (facts : Facts) (original rest : Bytes) (words : List Bytes) (e : TokenError) → recorded.facts ≡ facts → recorded.asked.original ≡ original → words_of rest ≡ Ok words
    → Fails token_wants_memory e (paths_from source facts original words) → FoundPaths (Err (of_token e)) (named_by source recorded (words_of rest))
named-err source recorded facts original rest words OutOfMemory f o w p = tt
named-err source recorded facts original rest words (Unknown b at) f o w p = named-refused source recorded facts original rest words (Unknown b at) f o w p
named-err source recorded facts original rest words LoneAtEnd f o w p = named-refused source recorded facts original rest words LoneAtEnd f o w p
named-err source recorded facts original rest words (FactMissing b) f o w p = named-refused source recorded facts original rest words (FactMissing b) f o w p
named-err source recorded facts original rest words (NoVariable n) f o w p = named-refused source recorded facts original rest words (NoVariable n) f o w p
named-err source recorded facts original rest words (OpenBrace at) f o w p = named-refused source recorded facts original rest words (OpenBrace at) f o w p
