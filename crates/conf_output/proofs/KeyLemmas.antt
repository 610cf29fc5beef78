-- The lines of one key before those of others.
use Rattle.std.proofs.Common.{◌≡◌, ℕ, ◌+◌, ◌<◌, List, [], ◌∷◌, ◌++◌, Result, Ok, Err, refl, sym, ap, ◌∙◌, append_assoc, append-nil, length, get_or, drop, drop-cons, add-one}
use Rattle.conf_rules.specs.declared.key.Key.{Key}
use Rattle.conf_rules.specs.declared.causes.TokenError.{TokenError}
use Rattle.conf_rules.specs.declared.causes.TokenError.TheVariants as token_errors
use Rattle.conf_rules.specs.declared.causes.ListError.{ListError}
use Rattle.conf_rules.specs.declared.causes.ListError.TheVariants as list_errors
use Rattle.conf_rules.specs.Results.{◌>>=◌, Fails}
use Rattle.conf_rules.specs.Wants.{token_wants_memory, list_wants_memory}
use Rattle.conf_rules.specs.Texts.{Bytes}
use Rattle.conf_rules.specs.Tokens.{View}
use Rattle.conf_rules.specs.Listing.{at_key}
use Rattle.conf_options.specs.Kept.{Given}
use Rattle.conf_output.specs.PutsListing.{with_listing_before}
use Rattle.conf_output.specs.Shown.{lines_of_key, texts_listed_of, texts_shown_of, lines_over, list_refusal_of}

-- the lines of a key before a reading
abbrev pub key_first : Key → Result (List Bytes) TokenError → Result Bytes ListError → Result Bytes ListError
key_first key reading more = at_key key reading >>= λ texts. more >>= λ rest. Ok (lines_of_key key texts ++ rest)

one : (old new : Bytes) (key : Key) (reading : Result (List Bytes) TokenError) (more : Result Bytes ListError) → with_listing_before old (texts_listed_of key reading) ≡ Ok new → with_listing_before old (key_first key reading more) ≡ with_listing_before new more
one old new key (Err e) more h = absurd cc
one old new key (Ok texts) (Err e) h = refl
one old new key (Ok texts) (Ok rest) h = let e : old ++ lines_of_key key texts ≡ new = cc in rw (sym e, append_assoc) refl

first-key : (settings : List Given) (view : View) (key : Key) (more : List Key) → lines_over settings view (key ∷ more) ≡ key_first key (texts_shown_of settings view key) (lines_over settings view more)
unfolding lines_over
first-key settings view key more = refl

-- after the lines of a key come those of the others
pub goes_on : (settings : List Given) (view : View) (out new : Bytes) (left : List Key) (key : Key) (more : List Key) (total : Result Bytes ListError)
    → left ≡ key ∷ more → with_listing_before out (texts_listed_of key (texts_shown_of settings view key)) ≡ Ok new → with_listing_before out (lines_over settings view left) ≡ total → with_listing_before new (lines_over settings view more) ≡ total
goes_on settings view out new left key more total e put so_far =
    sym (one out new key (texts_shown_of settings view key) (lines_over settings view more) put) ∙ sym (ap (with_listing_before out) (ap (lines_over settings view) e ∙ first-key settings view key more)) ∙ so_far

-- ---- a refusal

lines-refused : (key : Key) (reading : Result (List Bytes) TokenError) (e : TokenError) → texts_listed_of key reading ≡ Err e → reading ≡ Err e
lines-refused key (Ok texts) e h = absurd cc
lines-refused key (Err x) e h = let same : x ≡ e = cc in ap (λ y. Err y) same

refused-at : {A B : Type 0} (key : Key) (reading : Result A TokenError) (f : A → Result B ListError) (e : TokenError) → reading ≡ Err e → (at_key key reading >>= f) ≡ Err (list_errors.Token key e)
refused-at key reading f e h = rw h refl

-- a token's refusal at a key is that of its outcome
pub refused : {A B : Type 0} (key : Key) (reading : Result A TokenError) (f : A → Result B ListError) (e : TokenError) (error : ListError)
    → error ≡ list_refusal_of key e → Fails token_wants_memory e reading → Fails list_wants_memory error (at_key key reading >>= f)
refused key reading f token_errors.OutOfMemory error is h = rw is tt
refused key reading f (token_errors.Unknown byte at) error is h = rw is (refused-at key reading f (token_errors.Unknown byte at) h)
refused key reading f token_errors.LoneAtEnd error is h = rw is (refused-at key reading f token_errors.LoneAtEnd h)
refused key reading f (token_errors.FactMissing byte) error is h = rw is (refused-at key reading f (token_errors.FactMissing byte) h)
refused key reading f (token_errors.NoVariable name) error is h = rw is (refused-at key reading f (token_errors.NoVariable name) h)
refused key reading f (token_errors.OpenBrace at) error is h = rw is (refused-at key reading f (token_errors.OpenBrace at) h)

-- what is refused in a line is refused where it is read
read-refused : (key : Key) (reading : Result (List Bytes) TokenError) (e : TokenError) → Fails token_wants_memory e (texts_listed_of key reading) → Fails token_wants_memory e reading
read-refused key reading token_errors.OutOfMemory h = tt
read-refused key reading (token_errors.Unknown byte at) h = lines-refused key reading (token_errors.Unknown byte at) h
read-refused key reading token_errors.LoneAtEnd h = lines-refused key reading token_errors.LoneAtEnd h
read-refused key reading (token_errors.FactMissing byte) h = lines-refused key reading (token_errors.FactMissing byte) h
read-refused key reading (token_errors.NoVariable byte) h = lines-refused key reading (token_errors.NoVariable byte) h
read-refused key reading (token_errors.OpenBrace at) h = lines-refused key reading (token_errors.OpenBrace at) h

unput : {E : Type 0} (front : Bytes) (r : Result Bytes E) (e : E) → with_listing_before front r ≡ Err e → r ≡ Err e
unput front (Ok x) e h = absurd cc
unput front (Err x) e h = let same : x ≡ e = cc in ap (λ y. Err y) same

put-refused : (front out : Bytes) (error : ListError) (all left : Result Bytes ListError) → with_listing_before out left ≡ with_listing_before front all → Fails list_wants_memory error left → Fails list_wants_memory error all
put-refused front out list_errors.OutOfMemory all left so_far h = tt
put-refused front out (list_errors.Token key e) all left so_far h = unput front all (list_errors.Token key e) (sym so_far ∙ rw h refl)

-- the refusal of one key is that of all
pub fails : (settings : List Given) (view : View) (front out : Bytes) (keys left : List Key) (key : Key) (more : List Key) (e : TokenError) (error : ListError)
    → left ≡ key ∷ more → error ≡ list_refusal_of key e → Fails token_wants_memory e (texts_listed_of key (texts_shown_of settings view key)) → with_listing_before out (lines_over settings view left) ≡ with_listing_before front (lines_over settings view keys)
    → Fails list_wants_memory error (lines_over settings view keys)
fails settings view front out keys left key more e error l is h so_far =
    let here = ap (lines_over settings view) l ∙ first-key settings view key more in
    let first : Fails list_wants_memory error (key_first key (texts_shown_of settings view key) (lines_over settings view more)) = refused key (texts_shown_of settings view key) _ e error is (read-refused key (texts_shown_of settings view key) e h) in
    put-refused front out error (lines_over settings view keys) (key_first key (texts_shown_of settings view key) (lines_over settings view more)) (sym (ap (with_listing_before out) here) ∙ so_far) first

-- no key is left
pub done : (settings : List Given) (view : View) (front out : Bytes) (keys left : List Key) → left ≡ [] → with_listing_before out (lines_over settings view left) ≡ with_listing_before front (lines_over settings view keys) → with_listing_before front (lines_over settings view keys) ≡ Ok out
unfolding lines_over
done settings view front out keys left e so_far = sym so_far ∙ rw (e, append-nil) refl

-- the key at a place
pub next : (keys : List Key) (i : ℕ) (key : Key) → i < length keys → drop i keys ≡ get_or keys i key ∷ drop (i + 1) keys
next keys i key h = rw (add-one, drop-cons keys i key) refl
