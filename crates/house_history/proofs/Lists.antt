-- The first of a list that passes, and what a list without it, or with another in its place, has.
use Rattle.std.proofs.Common.{◌≡◌, List, [], ◌∷◌, ◌++◌, Bool, true, false, Some, None, refl, sym, ap, ◌∙◌, subst}
use Rattle.std.specs.Prelude.{find, filter}
use Rattle.mux_history.proofs.Finds.{filter-no, filter-yes, find-no, find-yes}

-- each of a list
abbrev pub Each : {X : Type 0} → (X → Type 0) → List X → Type 0
Each P [] = Unit {0}
Each P (x ∷ xs) = P x × Each P xs

pub some-same : {X : Type 0} (x y : X) → Some x ≡ Some y → x ≡ y
some-same x y e = cc

-- the first that passes stands between others
pub record Found {X : Type 0} (test : X → Bool) (x : X) (xs : List X) : Type 0 where
  pub before : List X
  pub behind : List X
  pub none : Each (λ y. test y ≡ false) before
  pub is : test x ≡ true
  pub are : xs ≡ before ++ x ∷ behind

pub found : {X : Type 0} (test : X → Bool) (x : X) (xs : List X) → find test xs ≡ Some x → Found test x xs
found test x [] e = absurd cc
found {X} test x (y ∷ ys) e = choose (λ e. found test x ys e) (test y) refl
  where
    choose : (find test ys ≡ Some x → Found test x ys) → (b : Bool) → test y ≡ b → Found test x (y ∷ ys)
    choose later true h =
        let same : y ≡ x = some-same y x (sym (find-yes test y ys h) ∙ e) in
        record { before = []; behind = ys; none = tt; is = subst (λ (z : X). test z ≡ true) same h; are = ap (λ (z : X). z ∷ ys) same }
    choose later false h =
        let f = later (sym (find-no test y ys h) ∙ e) in
        record { before = y ∷ f.before; behind = f.behind; none = (h, f.none); is = f.is; are = ap (λ (l : List X). y ∷ l) f.are }

-- one that doesn't pass is passed over
pub find-past : {X : Type 0} (test : X → Bool) (fs bs : List X) (x : X) → test x ≡ false → find test (fs ++ x ∷ bs) ≡ find test (fs ++ bs)
find-past test [] bs x e = find-no test x bs e
find-past {X} test (a ∷ fs) bs x e = choose (find-past test fs bs x e) (test a) refl
  where
    choose : find test (fs ++ x ∷ bs) ≡ find test (fs ++ bs) → (b : Bool) → test a ≡ b → find test (a ∷ (fs ++ x ∷ bs)) ≡ find test (a ∷ (fs ++ bs))
    choose later true h = find-yes test a (fs ++ x ∷ bs) h ∙ sym (find-yes test a (fs ++ bs) h)
    choose later false h = find-no test a (fs ++ x ∷ bs) h ∙ (later ∙ sym (find-no test a (fs ++ bs) h))

-- the first that passes, after some that don't
pub find-at : {X : Type 0} (test : X → Bool) (fs bs : List X) (x : X) → Each (λ y. test y ≡ false) fs → test x ≡ true → find test (fs ++ x ∷ bs) ≡ Some x
find-at test [] bs x none e = find-yes test x bs e
find-at test (a ∷ fs) bs x none e = find-no test a (fs ++ x ∷ bs) none.0 ∙ find-at test fs bs x none.1 e

-- none passes
pub find-none : {X : Type 0} (test : X → Bool) (fs bs : List X) → Each (λ y. test y ≡ false) fs → Each (λ y. test y ≡ false) bs → find test (fs ++ bs) ≡ None
find-none test [] [] none more = refl
find-none test [] (b ∷ bs) none more = find-no test b bs more.0 ∙ find-none test [] bs tt more.1
find-none test (a ∷ fs) bs none more = find-no test a (fs ++ bs) none.0 ∙ find-none test fs bs none.1 more

pub none-pass : {X : Type 0} (test : X → Bool) (xs : List X) → find test xs ≡ None → Each (λ y. test y ≡ false) xs
none-pass test [] e = tt
none-pass test (x ∷ xs) e = choose (λ e. none-pass test xs e) (test x) refl
  where
    choose : (find test xs ≡ None → Each (λ y. test y ≡ false) xs) → (b : Bool) → test x ≡ b → Each (λ y. test y ≡ false) (x ∷ xs)
    choose later true h = absurd (let bad : Some x ≡ None = sym (find-yes test x xs h) ∙ e in cc)
    choose later false h = (h, later (sym (find-no test x xs h) ∙ e))

-- each of two lists
pub each-append : {X : Type 0} (P : X → Type 0) (fs bs : List X) → Each P fs → Each P bs → Each P (fs ++ bs)
each-append P [] bs a b = b
each-append P (x ∷ fs) bs a b = (a.0, each-append P fs bs a.1 b)

pub each-front : {X : Type 0} (P : X → Type 0) (fs bs : List X) → Each P (fs ++ bs) → Each P fs
each-front P [] bs a = tt
each-front P (x ∷ fs) bs a = (a.0, each-front P fs bs a.1)

pub each-behind : {X : Type 0} (P : X → Type 0) (fs bs : List X) → Each P (fs ++ bs) → Each P bs
each-behind P [] bs a = a
each-behind P (x ∷ fs) bs a = each-behind P fs bs a.1

pub each-of : {X : Type 0} (P Q : X → Type 0) → ((x : X) → P x → Q x) → (xs : List X) → Each P xs → Each Q xs
each-of P Q step [] a = tt
each-of P Q step (x ∷ xs) a = (step x a.0, each-of P Q step xs a.1)

pub find-all : {X : Type 0} (test : X → Bool) (xs : List X) → Each (λ y. test y ≡ false) xs → find test xs ≡ None
find-all test [] none = refl
find-all test (x ∷ xs) none = find-no test x xs none.0 ∙ find-all test xs none.1

pub each-found : {X : Type 0} (P : X → Type 0) (test : X → Bool) (x : X) (xs : List X) → find test xs ≡ Some x → Each P xs → P x
each-found {X} P test x xs e all =
    let f = found test x xs e in
    (each-behind P f.before (x ∷ f.behind) (subst (λ (l : List X). Each P l) f.are all)).0

pub each-filter : {X : Type 0} (P : X → Type 0) (test : X → Bool) (xs : List X) → Each P xs → Each P (filter test xs)
each-filter P test [] all = tt
each-filter {X} P test (x ∷ xs) all = go (each-filter P test xs all.1) (test x) refl
  where
    go : Each P (filter test xs) → (b : Bool) → test x ≡ b → Each P (filter test (x ∷ xs))
    go later true e = subst (λ (l : List X). Each P l) (sym (filter-yes test x xs e)) (all.0, later)
    go later false e = subst (λ (l : List X). Each P l) (sym (filter-no test x xs e)) later
