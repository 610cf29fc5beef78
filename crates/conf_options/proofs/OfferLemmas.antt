-- What is kept of a key after one more value.
use Rattle.std.proofs.Common.{◌≡◌, Bool, true, false, cond, ◌&&◌, not, List, [], ◌∷◌, ◌++◌, refl, sym, ap, ◌∙◌, append-nil, ◌⊎◌, inl, inr}
use Rattle.std.specs.Prelude.{flat_map}
use Rattle.std.proofs.lemmas.Grind.{flat_map-append}
use Rattle.conf_rules.specs.declared.key.Key.{Key}
use Rattle.conf_rules.specs.declared.key.Key.TheVariants.{ProxyCommand, ProxyJump}
use Rattle.conf_rules.specs.declared.value.Value.{Value}
use Rattle.conf_rules.specs.declared.value.Value.TheVariants.{Names}
use Rattle.conf_rules.specs.Texts.{Bytes, is_empty_list}
use Rattle.conf_rules.specs.Keys.{same_key}
use Rattle.conf_rules.specs.Kinds.{Keeping, TheFirst, Every, Patterns, Shared, keeping}
use Rattle.conf_rules.specs.Rows.{values_among, first_of_values, is_shared, shared_value, with_pattern, with_patterns, patterns_in, one_value, kept_values}
use Rattle.conf_options.specs.Kept.{Given, behind_all, is_unset, replaced, with_more, offered}
use Rattle.conf_rules.proofs.SameKeys.{same-key, same-key-refl}

cond-append : {A : Type 0} (t : Bool) (x : A) (xs ys : List A) → cond t (x ∷ (xs ++ ys)) (xs ++ ys) ≡ cond t (x ∷ xs) xs ++ ys
cond-append true x xs ys = refl
cond-append false x xs ys = refl

pub among-append : (k : Key) (xs ys : List Given) → values_among k (xs ++ ys) ≡ values_among k xs ++ values_among k ys
among-append k [] ys = refl
among-append k (x ∷ xs) ys = ap (λ l. cond (same_key k x.0) (x.1 ∷ l) l) (among-append k xs ys) ∙ cond-append (same_key k x.0) x.1 (values_among k xs) (values_among k ys)

among-one : (k key : Key) (v : Value) (t : Bool) → same_key k key ≡ t → values_among k ((key, v) ∷ []) ≡ cond t (v ∷ []) []
among-one k key v t e = rw e refl

among-behind : (k key : Key) (v : Value) (all : List Given) (t : Bool) → same_key k key ≡ t → values_among k (behind_all all key v) ≡ values_among k all ++ cond t (v ∷ []) []
among-behind k key v all t e = among-append k all ((key, v) ∷ []) ∙ ap (λ l. values_among k all ++ l) (among-one k key v t e)

-- another key's values stay
among-replaced-other : (k key : Key) (w : Value) (all : List Given) → same_key k key ≡ false → values_among k (replaced key w all) ≡ values_among k all
among-replaced-other k key w [] e = refl
among-replaced-other k key w (g ∷ gs) e = on (same_key key g.0) refl (among-replaced-other k key w gs e)
  where
    on : (t : Bool) → same_key key g.0 ≡ t → values_among k (replaced key w gs) ≡ values_among k gs → values_among k (cond t ((key, w) ∷ gs) (g ∷ replaced key w gs)) ≡ values_among k (g ∷ gs)
    on true s later = let same : key ≡ g.0 = same-key key g.0 s in let other : same_key k g.0 ≡ false = ap (same_key k) (sym same) ∙ e in rw (e, other) refl
    on false s later = ap (λ l. cond (same_key k g.0) (g.1 ∷ l) l) later

-- the first value is the new one
pub among-replaced : (key : Key) (w v : Value) (vs : List Value) (all : List Given) → values_among key all ≡ v ∷ vs → values_among key (replaced key w all) ≡ w ∷ vs
among-replaced key w v vs [] e = absurd cc
among-replaced key w v vs (g ∷ gs) e = on (same_key key g.0) refl (among-replaced key w v vs gs) e
  where
    on : (t : Bool) → same_key key g.0 ≡ t → (values_among key gs ≡ v ∷ vs → values_among key (replaced key w gs) ≡ w ∷ vs) → cond t (g.1 ∷ values_among key gs) (values_among key gs) ≡ v ∷ vs → values_among key (cond t ((key, w) ∷ gs) (g ∷ replaced key w gs)) ≡ w ∷ vs
    on true s later e = let tail : values_among key gs ≡ vs = cc in rw (same-key-refl key) (ap (λ l. w ∷ l) tail)
    on false s later e = rw s (later e)

-- another key's values stay where a value is offered
pub stays : (how : Keeping) (k key : Key) (v : Value) (old : List Given) → same_key k key ≡ false → values_among k (offered how old key v) ≡ values_among k old
stays TheFirst k key v old e = on (is_unset key old)
  where
    on : (t : Bool) → values_among k (cond t (behind_all old key v) old) ≡ values_among k old
    on true = among-behind k key v old false e ∙ append-nil (values_among k old)
    on false = refl
stays Every k key v old e = among-behind k key v old false e ∙ append-nil (values_among k old)
stays Patterns k key v old e = on (values_among key old)
  where
    on : (vs : List Value) → values_among k (with_more vs key v old) ≡ values_among k old
    on [] = among-behind k key (Names (with_patterns [] (patterns_in v))) old false e ∙ append-nil (values_among k old)
    on (w ∷ ws) = among-replaced-other k key (Names (with_patterns (patterns_in w) (patterns_in v))) old e
stays Shared k key v old e = on (is_unset ProxyCommand old && is_unset ProxyJump old)
  where
    on : (t : Bool) → values_among k (cond t (behind_all old key v) old) ≡ values_among k old
    on true = among-behind k key v old false e ∙ append-nil (values_among k old)
    on false = refl

no-more : (k key : Key) (v : Value) (given : List Given) → same_key k key ≡ false → values_among k (given ++ (key, v) ∷ []) ≡ values_among k given
no-more k key v given e = among-behind k key v given false e ∙ append-nil (values_among k given)

shared-other : (k key : Key) (v : Value) (given : List Given) → same_key k key ≡ false → shared_value k (given ++ (key, v) ∷ []) ≡ shared_value k given
shared-other k key v [] e = rw e (on (is_shared key))
  where
    none : List Value
    none = []

    on : (t : Bool) → cond t none none ≡ none
    on true = refl
    on false = refl
shared-other k key v (g ∷ gs) e = ap (λ l. cond (is_shared g.0) (cond (same_key k g.0) (g.1 ∷ []) []) l) (shared-other k key v gs e)

-- another key's kept values stay
pub kept-other : (how : Keeping) (k key : Key) (v : Value) (given : List Given) → same_key k key ≡ false → kept_values how k (given ++ (key, v) ∷ []) ≡ kept_values how k given
kept-other TheFirst k key v given e = ap first_of_values (no-more k key v given e)
kept-other Every k key v given e = no-more k key v given e
kept-other Patterns k key v given e = ap one_value (no-more k key v given e)
kept-other Shared k key v given e = shared-other k key v given e

-- ---- the key itself

more-patterns : (kept_values xs ys : List Bytes) → with_patterns kept_values (xs ++ ys) ≡ with_patterns (with_patterns kept_values xs) ys
more-patterns kept_values [] ys = refl
more-patterns kept_values (x ∷ xs) ys = more-patterns (with_pattern kept_values x) xs ys

one-more : (vs : List Value) (v : Value) → with_patterns [] (flat_map patterns_in (vs ++ v ∷ [])) ≡ with_patterns (with_patterns [] (flat_map patterns_in vs)) (patterns_in v)
one-more vs v = ap (with_patterns []) (flat_map-append patterns_in vs (v ∷ []) ∙ ap (λ l. flat_map patterns_in vs ++ l) (append-nil (patterns_in v))) ∙ more-patterns [] (flat_map patterns_in vs) (patterns_in v)

shared-is : (k : Key) → is_shared k ≡ true → (k ≡ ProxyCommand) ⊎ (k ≡ ProxyJump)
shared-is ProxyCommand e = inl refl
shared-is ProxyJump e = inr refl
shared-is k e = absurd cc

-- whether the shared place is set
any_shared : List Given → Bool
any_shared [] = false
any_shared (g ∷ gs) = let later = any_shared gs in cond (is_shared g.0) true later

unset-iff : (given : List Given) → (is_empty_list (shared_value ProxyCommand given) && is_empty_list (shared_value ProxyJump given)) ≡ not (any_shared given)
unfolding any_shared
unset-iff [] = refl
unset-iff (g ∷ gs) = on (is_shared g.0) refl (unset-iff gs)
  where
    one : (a b : Bool) → (a ≡ true) ⊎ (b ≡ true) → (is_empty_list (cond a (g.1 ∷ []) []) && is_empty_list (cond b (g.1 ∷ []) [])) ≡ false
    one true b e = refl
    one false true e = refl
    one false false (inl e) = absurd cc
    one false false (inr e) = absurd cc

    which : (g.0 ≡ ProxyCommand) ⊎ (g.0 ≡ ProxyJump) → (same_key ProxyCommand g.0 ≡ true) ⊎ (same_key ProxyJump g.0 ≡ true)
    which (inl e) = inl (ap (same_key ProxyCommand) e)
    which (inr e) = inr (ap (same_key ProxyJump) e)

    on : (t : Bool) → is_shared g.0 ≡ t → (is_empty_list (shared_value ProxyCommand gs) && is_empty_list (shared_value ProxyJump gs)) ≡ not (any_shared gs) → (is_empty_list (cond t (cond (same_key ProxyCommand g.0) (g.1 ∷ []) []) (shared_value ProxyCommand gs)) && is_empty_list (cond t (cond (same_key ProxyJump g.0) (g.1 ∷ []) []) (shared_value ProxyJump gs))) ≡ not (cond t true (any_shared gs))
    on true e later = one (same_key ProxyCommand g.0) (same_key ProxyJump g.0) (which (shared-is g.0 e))
    on false e later = later

shared-more : (key : Key) (v : Value) (given : List Given) → is_shared key ≡ true → shared_value key (given ++ (key, v) ∷ []) ≡ cond (any_shared given) (shared_value key given) (v ∷ [])
unfolding any_shared
shared-more key v [] e = rw (e, same-key-refl key) refl
shared-more key v (g ∷ gs) e = on (is_shared g.0) (shared-more key v gs e)
  where
    here : List Value
    here = cond (same_key key g.0) (g.1 ∷ []) []

    on : (t : Bool) → shared_value key (gs ++ (key, v) ∷ []) ≡ cond (any_shared gs) (shared_value key gs) (v ∷ []) → cond t here (shared_value key (gs ++ (key, v) ∷ [])) ≡ cond (cond t true (any_shared gs)) (cond t here (shared_value key gs)) (v ∷ [])
    on true later = refl
    on false later = later

none-shared : (key : Key) (given : List Given) → any_shared given ≡ false → shared_value key given ≡ []
unfolding any_shared
none-shared key [] e = refl
none-shared key (g ∷ gs) e = on (is_shared g.0) (none-shared key gs) e
  where
    on : (t : Bool) → (any_shared gs ≡ false → shared_value key gs ≡ []) → cond t true (any_shared gs) ≡ false → cond t (cond (same_key key g.0) (g.1 ∷ []) []) (shared_value key gs) ≡ []
    on true later f = absurd cc
    on false later f = later f

own-first : (key : Key) (v : Value) (old given : List Given) → values_among key old ≡ first_of_values (values_among key given) → values_among key (offered TheFirst old key v) ≡ first_of_values (values_among key (given ++ (key, v) ∷ []))
own-first key v old given h = rw (among-behind key key v given true (same-key-refl key), h) (on (values_among key given) h)
  where
    on : (vs : List Value) → values_among key old ≡ first_of_values vs → values_among key (cond (is_empty_list (first_of_values vs)) (behind_all old key v) old) ≡ first_of_values (vs ++ v ∷ [])
    on [] k = among-behind key key v old true (same-key-refl key) ∙ ap (λ l. l ++ v ∷ []) k
    on (x ∷ xs) k = k

pub own-every : (key : Key) (v : Value) (old given : List Given) → values_among key old ≡ values_among key given → values_among key (offered Every old key v) ≡ values_among key (given ++ (key, v) ∷ [])
own-every key v old given h = among-append key old ((key, v) ∷ []) ∙ (ap (λ l. l ++ values_among key ((key, v) ∷ [])) h ∙ sym (among-append key given ((key, v) ∷ [])))

own-patterns : (key : Key) (v : Value) (old given : List Given) → values_among key old ≡ one_value (values_among key given) → values_among key (offered Patterns old key v) ≡ one_value (values_among key (given ++ (key, v) ∷ []))
own-patterns key v old given h = rw (among-behind key key v given true (same-key-refl key), h) (on (values_among key given) h)
  where
    on : (vs : List Value) → values_among key old ≡ one_value vs → values_among key (with_more (one_value vs) key v old) ≡ one_value (vs ++ v ∷ [])
    on [] k = among-behind key key (Names (with_patterns [] (patterns_in v))) old true (same-key-refl key) ∙ (ap (λ l. l ++ Names (with_patterns [] (patterns_in v)) ∷ []) k ∙ ap (λ l. Names (with_patterns [] l) ∷ []) (sym (append-nil (patterns_in v))))
    on (x ∷ xs) k = among-replaced key _ _ [] old k ∙ ap (λ l. Names l ∷ []) (sym (one-more (x ∷ xs) v))

own-shared : (key : Key) (v : Value) (old given : List Given) → is_shared key ≡ true → values_among key old ≡ shared_value key given
    → values_among ProxyCommand old ≡ shared_value ProxyCommand given → values_among ProxyJump old ≡ shared_value ProxyJump given
    → values_among key (offered Shared old key v) ≡ shared_value key (given ++ (key, v) ∷ [])
own-shared key v old given s h c j = rw (shared-more key v given s, c, j, unset-iff given) (on (any_shared given) refl)
  where
    on : (t : Bool) → any_shared given ≡ t → values_among key (cond (not t) (behind_all old key v) old) ≡ cond t (shared_value key given) (v ∷ [])
    on true e = h
    on false e = among-behind key key v old true (same-key-refl key) ∙ ap (λ l. l ++ v ∷ []) (h ∙ none-shared key given e)

shared-kept : (key : Key) → keeping key ≡ Shared → is_shared key ≡ true
shared-kept ProxyCommand e = refl
shared-kept ProxyJump e = refl
shared-kept key e = absurd cc

pub own : (how : Keeping) (key : Key) (v : Value) (old given : List Given) → keeping key ≡ how
    → values_among ProxyCommand old ≡ shared_value ProxyCommand given → values_among ProxyJump old ≡ shared_value ProxyJump given
    → values_among key old ≡ kept_values how key given → values_among key (offered how old key v) ≡ kept_values how key (given ++ (key, v) ∷ [])
own TheFirst key v old given e c j h = own-first key v old given h
own Every key v old given e c j h = own-every key v old given h
own Patterns key v old given e c j h = own-patterns key v old given h
own Shared key v old given e c j h = own-shared key v old given (shared-kept key e) h c j
