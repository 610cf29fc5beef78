-- The two lists of values that an offer changes: of keys of which one counts, and of the others.
use Rattle.std.proofs.Common.{◌≡◌, Bool, true, false, cond, ◌&&◌, not, List, [], ◌∷◌, ◌++◌, refl, sym, ap, ◌∙◌, append-nil, append_assoc, subst, ◌≢◌}
use Rattle.std.specs.Prelude.{◌↔◌, Result, Ok, Err, OnOk, OnErr, IfOk, IsTrue}
use Rattle.std.specs.List.{list_all}
use Rattle.std.proofs.lemmas.List.{append_cancel_right}
use Rattle.conf_rules.specs.declared.key.Key.{Key}
use Rattle.conf_rules.specs.declared.key.Key.TheVariants.{CertificateFile, DynamicForward, IdentityFile, LocalForward, ProxyCommand, ProxyJump, RemoteForward, SendEnv}
use Rattle.conf_rules.specs.declared.value.Value.{Value}
use Rattle.conf_rules.specs.declared.value.Value.TheVariants.{Names}
use Rattle.conf_rules.specs.Texts.{Bytes}
use Rattle.conf_rules.specs.Keys.{same_key}
use Rattle.conf_rules.specs.Kinds.{Keeping, TheFirst, Every, Patterns, Shared, keeping, keeps_every}
use Rattle.conf_rules.specs.Rows.{values_among, kept_values}
use Rattle.conf_rules.specs.Fits.{fits, fits_its_key}
use Rattle.conf_options.specs.Kept.{Given, KeepsSettings, behind_all, is_unset, fits_single, fits_every, replaced, with_more, offered}
use Rattle.conf_rules.proofs.SameKeys.{same-key}
use Rattle.conf_options.proofs.OfferLemmas.{among-append, kept-other, own, own-every, stays}

-- ---- two lists: values of keys of which one counts, and of those of which all count

both : (a b : Bool) → (a && b) ≡ true → (a ≡ true) × (b ≡ true)
both true b e = (refl, e)
both false b e = absurd cc

-- no value of a key of which one counts is collected
not-collected : (k : Key) (collected : List Given) → keeps_every k ≡ false → list_all fits_every collected ≡ true → values_among k collected ≡ []
not-collected k [] single all = refl
not-collected k (g ∷ gs) single all = on (same_key k g.0) refl (not-collected k gs single (both (fits_every g) (list_all fits_every gs) all).1)
  where
    every : keeps_every g.0 ≡ true
    every = (both (keeps_every g.0) (fits_its_key g) (both (fits_every g) (list_all fits_every gs) all).0).0

    on : (t : Bool) → same_key k g.0 ≡ t → values_among k gs ≡ [] → cond t (g.1 ∷ values_among k gs) (values_among k gs) ≡ []
    on true s later = let same : keeps_every k ≡ keeps_every g.0 = ap keeps_every (same-key k g.0 s) in absurd cc
    on false s later = later

-- no value of a key of which all count stands among the others
not-single : (k : Key) (singles : List Given) → keeps_every k ≡ true → list_all fits_single singles ≡ true → values_among k singles ≡ []
not-single k [] every all = refl
not-single k (g ∷ gs) every all = on (same_key k g.0) refl (not-single k gs every (both (fits_single g) (list_all fits_single gs) all).1)
  where
    single : not (keeps_every g.0) ≡ true
    single = (both (not (keeps_every g.0)) (fits_its_key g) (both (fits_single g) (list_all fits_single gs) all).0).0

    on : (t : Bool) → same_key k g.0 ≡ t → values_among k gs ≡ [] → cond t (g.1 ∷ values_among k gs) (values_among k gs) ≡ []
    on true s later = let same : not (keeps_every k) ≡ not (keeps_every g.0) = ap (λ x. not (keeps_every x)) (same-key k g.0 s) in let one : not (keeps_every k) ≡ false = ap not every in absurd cc
    on false s later = later

pub among-singles : (k : Key) (singles collected : List Given) → keeps_every k ≡ false → list_all fits_every collected ≡ true → values_among k singles ≡ values_among k (singles ++ collected)
among-singles k singles collected single all = sym (among-append k singles collected ∙ (ap (λ l. values_among k singles ++ l) (not-collected k collected single all) ∙ append-nil (values_among k singles)))

pub among-collected : (k : Key) (singles collected : List Given) → keeps_every k ≡ true → list_all fits_single singles ≡ true → values_among k collected ≡ values_among k (singles ++ collected)
among-collected k singles collected every all = sym (among-append k singles collected ∙ ap (λ l. l ++ values_among k collected) (not-single k singles every all))

keeps-single : (key : Key) (v : Value) (singles collected given : List Given) → keeps_every key ≡ false → list_all fits_every collected ≡ true
    → KeepsSettings (singles ++ collected) given → KeepsSettings (offered (keeping key) singles key v ++ collected) (given ++ (key, v) ∷ [])
keeps-single key v singles collected given single all keeps = record { each = λ k. on k (same_key k key) refl }
  where
    new : List Given
    new = offered (keeping key) singles key v

    at : (k : Key) → keeps_every k ≡ false → values_among k singles ≡ kept_values (keeping k) k given
    at k s = among-singles k singles collected s all ∙ keeps.each k

    on : (k : Key) (t : Bool) → same_key k key ≡ t → values_among k (new ++ collected) ≡ kept_values (keeping k) k (given ++ (key, v) ∷ [])
    on k true e = let same : k ≡ key = same-key k key e in subst (λ (x : Key). values_among x (new ++ collected) ≡ kept_values (keeping x) x (given ++ (key, v) ∷ [])) (sym same) (sym (among-singles key new collected single all) ∙ own (keeping key) key v singles given refl (at ProxyCommand refl) (at ProxyJump refl) (at key single))
    on k false e = among-append k new collected ∙ (ap (λ l. l ++ values_among k collected) (stays (keeping key) k key v singles e) ∙ (sym (among-append k singles collected) ∙ (keeps.each k ∙ sym (kept-other (keeping k) k key v given e))))

every-kept : (key : Key) → keeps_every key ≡ true → keeping key ≡ Every
every-kept CertificateFile e = refl
every-kept DynamicForward e = refl
every-kept IdentityFile e = refl
every-kept LocalForward e = refl
every-kept RemoteForward e = refl
every-kept key e = absurd cc

own-collected : (how : Keeping) (key : Key) (v : Value) (old given : List Given) → how ≡ Every → values_among key old ≡ kept_values how key given → values_among key (behind_all old key v) ≡ kept_values how key (given ++ (key, v) ∷ [])
own-collected Every key v old given s h = own-every key v old given h
own-collected how key v old given s h = absurd cc

keeps-every : (key : Key) (v : Value) (singles collected given : List Given) → keeps_every key ≡ true
    → KeepsSettings (singles ++ collected) given → KeepsSettings (singles ++ behind_all collected key v) (given ++ (key, v) ∷ [])
keeps-every key v singles collected given every keeps = record { each = λ k. ap (values_among k) (sym (append_assoc singles collected ((key, v) ∷ []))) ∙ on k (same_key k key) refl }
  where
    old : List Given
    old = singles ++ collected

    on : (k : Key) (t : Bool) → same_key k key ≡ t → values_among k (behind_all old key v) ≡ kept_values (keeping k) k (given ++ (key, v) ∷ [])
    on k true e = let same : k ≡ key = same-key k key e in subst (λ (x : Key). values_among x (behind_all old key v) ≡ kept_values (keeping x) x (given ++ (key, v) ∷ [])) (sym same) (own-collected (keeping key) key v old given (every-kept key every) (keeps.each key))
    on k false e = stays Every k key v old e ∙ (keeps.each k ∙ sym (kept-other (keeping k) k key v given e))

-- ---- values fit their keys

fit-behind : (test : Given → Bool) (all : List Given) (key : Key) (v : Value) → list_all test all ≡ true → test (key, v) ≡ true → list_all test (behind_all all key v) ≡ true
fit-behind test [] key v a f = rw f refl
fit-behind test (g ∷ gs) key v a f = let h = both (test g) (list_all test gs) a in rw h.0 (fit-behind test gs key v h.1 f)

fit-replaced : (all : List Given) (key : Key) (v : Value) → list_all fits_single all ≡ true → fits_single (key, v) ≡ true → list_all fits_single (replaced key v all) ≡ true
fit-replaced [] key v a f = refl
fit-replaced (g ∷ gs) key v a f = on (same_key key g.0) (both (fits_single g) (list_all fits_single gs) a) (fit-replaced gs key v (both (fits_single g) (list_all fits_single gs) a).1 f)
  where
    on : (t : Bool) → (fits_single g ≡ true) × (list_all fits_single gs ≡ true) → list_all fits_single (replaced key v gs) ≡ true → list_all fits_single (cond t ((key, v) ∷ gs) (g ∷ replaced key v gs)) ≡ true
    on true h later = rw (f, h.1) refl
    on false h later = rw h.0 later

names-fit : (key : Key) (names : List Bytes) → keeping key ≡ Patterns → fits_single (key, Names names) ≡ true
unfolding fits
names-fit SendEnv names e = refl
names-fit key names e = absurd cc

offered-fits : (how : Keeping) (key : Key) (v : Value) (old : List Given) → keeping key ≡ how → keeps_every key ≡ false → list_all fits_single old ≡ true → fits key v ≡ true → list_all fits_single (offered how old key v) ≡ true
offered-fits how key v old e single a f = on how e
  where
    one : fits_single (key, v) ≡ true
    one = rw (single, f) refl

    where-set : (t : Bool) → list_all fits_single (cond t (behind_all old key v) old) ≡ true
    where-set true = fit-behind fits_single old key v a one
    where-set false = a

    more : keeping key ≡ Patterns → (vs : List Value) → list_all fits_single (with_more vs key v old) ≡ true
    more p [] = fit-behind fits_single old key _ a (names-fit key _ p)
    more p (w ∷ ws) = fit-replaced old key _ a (names-fit key _ p)

    on : (how : Keeping) → keeping key ≡ how → list_all fits_single (offered how old key v) ≡ true
    on TheFirst h = where-set (is_unset key old)
    on Every h = fit-behind fits_single old key v a one
    on Patterns h = more h (values_among key old)
    on Shared h = where-set (is_unset ProxyCommand old && is_unset ProxyJump old)

-- ---- what an offer leaves

pub single-fits : {A E : Type 0} (r : Result A E) (old new : List Given) (key : Key) (v : Value) → OnOk r (new ≡ offered (keeping key) old key v) → OnErr r (new ≡ old) → keeps_every key ≡ false → list_all fits_single old ≡ true → fits key v ≡ true → list_all fits_single new ≡ true
single-fits (Ok x) old new key v ok err single a f = ap (list_all fits_single) ok ∙ offered-fits (keeping key) key v old refl single a f
single-fits (Err e) old new key v ok err single a f = ap (list_all fits_single) err ∙ a

pub single-kept : {A E : Type 0} (r : Result A E) (singles new collected old : List Given) (key : Key) (v : Value) → singles ++ collected ≡ old → keeps_every key ≡ false → list_all fits_every collected ≡ true
    → OnOk r (new ≡ offered (keeping key) singles key v) → OnOk r ((given : List Given) → KeepsSettings old given → KeepsSettings (new ++ collected) (given ++ (key, v) ∷ []))
single-kept (Ok x) singles new collected old key v same single all ok = λ given keeps.
    let inside = subst (λ (l : List Given). KeepsSettings l given) (sym same) keeps in
    subst (λ (l : List Given). KeepsSettings (l ++ collected) (given ++ (key, v) ∷ [])) (sym ok) (keeps-single key v singles collected given single all inside)
single-kept (Err e) singles new collected old key v same single all ok = tt

pub every-kept-on : {A E : Type 0} (r : Result A E) (singles collected new old : List Given) (key : Key) (v : Value) → singles ++ collected ≡ old → keeps_every key ≡ true
    → OnOk r (new ≡ behind_all collected key v) → OnOk r ((given : List Given) → KeepsSettings old given → KeepsSettings (singles ++ new) (given ++ (key, v) ∷ []))
every-kept-on (Ok x) singles collected new old key v same every ok = λ given keeps.
    let inside = subst (λ (l : List Given). KeepsSettings l given) (sym same) keeps in
    subst (λ (l : List Given). KeepsSettings (singles ++ l) (given ++ (key, v) ∷ [])) (sym ok) (keeps-every key v singles collected given every inside)
every-kept-on (Err e) singles collected new old key v same every ok = tt

-- what is kept changed exactly where its part did
pub single-changed : {E : Type 0} (r : Result Bool E) (singles new collected old : List Given) → singles ++ collected ≡ old
    → IfOk r (λ changed. IsTrue changed ↔ (new ≢ singles)) → IfOk r (λ changed. IsTrue changed ↔ (new ++ collected ≢ old))
single-changed (Ok b) singles new collected old same h =
    (λ t e. h.0 t (append_cancel_right new singles collected (e ∙ sym same)), λ n. h.1 (λ e. n (ap (λ l. l ++ collected) e ∙ same)))
single-changed (Err e) singles new collected old same h = tt
