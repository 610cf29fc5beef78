-- What is picked from the relays of a trace, as these go on.
use Rattle.std.proofs.Common.{◌≡◌, ◌∙◌, refl, sym, ap, subst, inl, inr, ℕ, Bool, true, false, List, [], ◌∷◌, ◌++◌, map, Option, Some, None}
use Rattle.std.specs.Prelude.{if◌then◌else◌}
use Rattle.std.specs.List.{filter_map, cons_option}
use Rattle.std.specs.Option.{option_to_list}
use Rattle.std.proofs.lemmas.List.Elements.{filter_map-append}
use Rattle.house_relay.specs.Steps.{is_gone}
use Rattle.house_forward.specs.RelayTraces.{Life, One, OneAtMost, has_stream, life_stepped, kept_in}
use Rattle.house_forward.specs.declared.link.LinkStep.{LinkStep}
use Rattle.house_forward.proofs.Sound.{Each, each-back, step_of}

-- ---- in a list

-- what is mapped stays where one becomes another that gives the same
pub map-one : {Y : Type 0} (f : Life → Y) (before behind : List Life) (a b : Life) → f b ≡ f a
    → map f (before ++ b ∷ behind) ≡ map f (before ++ a ∷ behind)
map-one f [] behind a b e = ap (λ y. y ∷ map f behind) e
map-one f (x ∷ before) behind a b e = ap (λ ys. f x ∷ ys) (map-one f before behind a b e)

-- so does what is picked
pub pick-one : {Y : Type 0} (h : Life → Option Y) (before behind : List Life) (a b : Life) → h b ≡ h a
    → filter_map h (before ++ b ∷ behind) ≡ filter_map h (before ++ a ∷ behind)
pick-one h [] behind a b e = ap (λ o. cons_option o (filter_map h behind)) e
pick-one h (x ∷ before) behind a b e = ap (λ ys. cons_option (h x) ys) (pick-one h before behind a b e)

-- one of which nothing is picked may be left out
pub pick-none : {Y : Type 0} (h : Life → Option Y) (before behind : List Life) (a : Life) → h a ≡ None
    → filter_map h (before ++ a ∷ behind) ≡ filter_map h (before ++ behind)
pick-none h [] behind a e = ap (λ o. cons_option o (filter_map h behind)) e
pick-none h (x ∷ before) behind a e = ap (λ ys. cons_option (h x) ys) (pick-none h before behind a e)

as-list : {Y : Type 0} (o : Option Y) → cons_option o [] ≡ option_to_list o
as-list None = refl
as-list (Some y) = refl

-- one is added
pub pick-push : {Y : Type 0} (h : Life → Option Y) (ls : List Life) (l : Life)
    → filter_map h (ls ++ l ∷ []) ≡ filter_map h ls ++ option_to_list (h l)
pick-push h ls l = filter_map-append h ls (l ∷ []) ∙ ap (λ ys. filter_map h ls ++ ys) (as-list (h l))

if-gone : {Y : Type 0} (h : Life → Option Y) (b : Bool) (l : Life) (ls more : List Life) → (b ≡ true → h l ≡ None)
    → filter_map h more ≡ filter_map h ls → filter_map h (if b then ls else l ∷ more) ≡ filter_map h (l ∷ ls)
if-gone h true l ls more none e = ap (λ o. cons_option o (filter_map h ls)) (sym (none refl))
if-gone h false l ls more none e = ap (λ ys. cons_option (h l) ys) e

-- one of which nothing is left is forgotten
pub pick-kept : {Y : Type 0} (h : Life → Option Y) (P : Life → Type 0)
    → ((l : Life) → P l → is_gone l.relay ≡ true → h l ≡ None) → (ls : List Life) → Each P ls
    → filter_map h (kept_in ls) ≡ filter_map h ls
pick-kept h P none [] all = refl
pick-kept h P none (l ∷ ls) all =
    if-gone h (is_gone l.relay) l ls (kept_in ls) (none l all.0) (pick-kept h P none ls all.1)

if-stepped : {Y : Type 0} (h : Life → Option Y) (b : Bool) (x l : Life) → (b ≡ true → h x ≡ h l) → h (if b then x else l) ≡ h l
if-stepped h true x l e = e refl
if-stepped h false x l e = refl

-- the one with a stream makes a step
pub pick-stepped : {Y : Type 0} (h : Life → Option Y) (P : Life → Type 0) (s : LinkStep) (t : ℕ)
    → ((l : Life) → P l → has_stream t l ≡ true → h (step_of s l) ≡ h l) → (ls : List Life) → Each P ls
    → filter_map h (map (life_stepped s t) ls) ≡ filter_map h ls
pick-stepped h P s t same [] all = refl
pick-stepped h P s t same (l ∷ ls) all =
    ap (λ o. cons_option o (filter_map h (map (life_stepped s t) ls))) (if-stepped h (has_stream t l) (step_of s l) l (same l all.0))
    ∙ ap (λ ys. cons_option (h l) ys) (pick-stepped h P s t same ls all.1)

-- ---- where one goes on

pub one-picks : {Y : Type 0} (h : Life → Option Y) (P : Life → Type 0) (which : Life → Bool) (so : Life → Life → Type 0)
    (old new : List Life) → ((a b : Life) → P a → which a ≡ true → so a b → h b ≡ h a) → Each P old → One which so old new
    → filter_map h new ≡ filter_map h old
one-picks h P which so old new same all one =
    let its = each-back P one.before (one.life ∷ one.behind) (subst (Each P) one.were all) in
    ap (filter_map h) one.are ∙ pick-one h one.before one.behind one.life one.next (same one.life one.next its.0 one.is one.goes)
    ∙ ap (filter_map h) (sym one.were)

pub most-picks : {Y : Type 0} (h : Life → Option Y) (P : Life → Type 0) (which : Life → Bool) (so : Life → Life → Type 0)
    (old new : List Life) → ((a b : Life) → P a → which a ≡ true → so a b → h b ≡ h a) → Each P old → OneAtMost which so old new
    → filter_map h new ≡ filter_map h old
most-picks h P which so old new same all (inl one) = one-picks h P which so old new same all one
most-picks h P which so old new same all (inr none) = ap (filter_map h) none.1

pub one-maps : {Y : Type 0} (f : Life → Y) (which : Life → Bool) (so : Life → Life → Type 0) (old new : List Life)
    → ((a b : Life) → so a b → f b ≡ f a) → One which so old new → map f new ≡ map f old
one-maps f which so old new same one =
    ap (map f) one.are ∙ map-one f one.before one.behind one.life one.next (same one.life one.next one.goes) ∙ ap (map f) (sym one.were)

pub most-maps : {Y : Type 0} (f : Life → Y) (which : Life → Bool) (so : Life → Life → Type 0) (old new : List Life)
    → ((a b : Life) → so a b → f b ≡ f a) → OneAtMost which so old new → map f new ≡ map f old
most-maps f which so old new same (inl one) = one-maps f which so old new same one
most-maps f which so old new same (inr none) = ap (map f) none.1
