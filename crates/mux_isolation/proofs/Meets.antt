-- A number that a client's channels hold names the same channel as the client's own number does.
use Rattle.std.proofs.Common.{◌≡◌, ℕ, List, [], ◌∷◌, true, false, Bool, refl, ◌∙◌, ap, arith, sym, Option, Some, subst}
use Rattle.std.specs.Prelude.{◌==◌, ◌&&◌, filter, find}
use Rattle.std.proofs.lemmas.Bool.Decides.{nat_tests}
use Rattle.mux_history.specs.Channels.{Channel, is_channel_held, is_number, with_down}
use Rattle.mux_history.specs.Summary.{Act, Confirmation, Confirms, Within}
use Rattle.ssh_grammar.specs.declared.side.Side.TheVariants.{Down}
use Rattle.mux_history.proofs.Apart.{AllApart, ApartFrom, each-both, each-filter}
use Rattle.mux_history.proofs.Finds.{Each, filter-no, filter-yes, find-no, find-yes}
use Rattle.mux_history.proofs.Local.{is_of}
use Rattle.mux_history.proofs.Bools.{self}

-- two channels that are not over have different numbers and different numbers of the client's own
pub record Apart (x y : Channel) : Type 0 where
  pub numbers : is_channel_held x ≡ true → is_channel_held y ≡ true → (n : ℕ) → is_number x.number n ≡ true → is_number y.number n ≡ false
  pub owns : is_channel_held x ≡ true → is_channel_held y ≡ true → (c : ℕ) → is_number x.own c ≡ true → is_number y.own c ≡ false

abbrev pub Distinct : List Channel → Type 0
Distinct [] = Unit {0}
Distinct (x ∷ xs) = Each (Apart x) xs × Distinct xs

abbrev pub names : ℕ → Channel → Bool
names n x = is_number x.number n && is_channel_held x

abbrev pub names_own : ℕ → Channel → Bool
names_own c x = is_number x.own c && is_channel_held x

abbrev pub Meets : ℕ → ℕ → Channel → Type 0
Meets n c x = names n x ≡ names_own c x

abbrev pub held_by : ℕ → List Channel → Option Channel
held_by n xs = find (λ y. is_number y.number n) (filter is_channel_held xs)

has : (o : Option ℕ) (c : ℕ) → o ≡ Some c → is_number o c ≡ true
has o c e = rw e (self c)

-- those after the holder meet: neither number is theirs
behind : (n c : ℕ) (x : Channel) → is_channel_held x ≡ true → is_number x.number n ≡ true → is_number x.own c ≡ true → (ys : List Channel) → Each (Apart x) ys → Each (Meets n c) ys
behind n c x h e o [] apart = tt
behind n c x h e o (y ∷ ys) apart = (one (is_channel_held y) refl, behind n c x h e o ys apart.1)
  where
    one : (b : Bool) → is_channel_held y ≡ b → Meets n c y
    one true held = ap (λ b. b && is_channel_held y) (apart.0.numbers h held n e ∙ sym (apart.0.owns h held c o))
    one false over = rw over (both (is_number y.number n) (is_number y.own c))
      where
        both : (a b : Bool) → (a && false) ≡ (b && false)
        both true true = refl
        both true false = refl
        both false true = refl
        both false false = refl

-- what was found is held, is apart from a channel before it, and holds the number
record Found (y : Channel) (n : ℕ) (x : Channel) : Type 0 where
  held : is_channel_held x ≡ true
  holds : is_number x.number n ≡ true
  apart : Apart y x

held_by-over : (n : ℕ) (z : Channel) (zs : List Channel) → is_channel_held z ≡ false → held_by n (z ∷ zs) ≡ held_by n zs
held_by-over n z zs over = ap (find (λ y. is_number y.number n)) (filter-no is_channel_held z zs over)

held_by-here : (n : ℕ) (z : Channel) (zs : List Channel) → is_channel_held z ≡ true → is_number z.number n ≡ true → held_by n (z ∷ zs) ≡ Some z
held_by-here n z zs held e = ap (find (λ y. is_number y.number n)) (filter-yes is_channel_held z zs held) ∙ find-yes (λ (y : Channel). is_number y.number n) z (filter is_channel_held zs) e

held_by-other : (n : ℕ) (z : Channel) (zs : List Channel) → is_channel_held z ≡ true → is_number z.number n ≡ false → held_by n (z ∷ zs) ≡ held_by n zs
held_by-other n z zs held e = ap (find (λ y. is_number y.number n)) (filter-yes is_channel_held z zs held) ∙ find-no (λ (y : Channel). is_number y.number n) z (filter is_channel_held zs) e

some-same : (x z : Channel) → Some z ≡ Some x → z ≡ x
some-same x z e = cc

found : (y : Channel) (n : ℕ) (x : Channel) (ys : List Channel) → Each (Apart y) ys → held_by n ys ≡ Some x → Found y n x
found y n x [] apart e = cc
found y n x (z ∷ zs) apart e = by_held (λ h. found y n x zs apart.1 h) (is_channel_held z) refl (is_number z.number n) refl
  where
    by_held : (held_by n zs ≡ Some x → Found y n x) → (b : Bool) → is_channel_held z ≡ b → (b' : Bool) → is_number z.number n ≡ b' → Found y n x
    by_held later false over b' e' = later (sym (held_by-over n z zs over) ∙ e)
    by_held later true held false e' = later (sym (held_by-other n z zs held e') ∙ e)
    by_held later true held true e' =
        let same : z ≡ x = some-same x z (sym (held_by-here n z zs held e') ∙ e) in
        subst (λ (w : Channel). Found y n w) same (record { held = held; holds = e'; apart = apart.0 })

-- where the number's holder has the own number, each channel meets
pub meets-all : (n c : ℕ) (x : Channel) → x.own ≡ Some c → (ys : List Channel) → Distinct ys → held_by n ys ≡ Some x → Each (Meets n c) ys
meets-all n c x own [] distinct e = tt
meets-all n c x own (z ∷ zs) distinct e = by_held (λ h. meets-all n c x own zs distinct.1 h) (is_channel_held z) refl (is_number z.number n) refl
  where
    both : (a b : Bool) → (a && false) ≡ (b && false)
    both true true = refl
    both true false = refl
    both false true = refl
    both false false = refl

    by_held : (held_by n zs ≡ Some x → Each (Meets n c) zs) → (b : Bool) → is_channel_held z ≡ b → (b' : Bool) → is_number z.number n ≡ b' → Each (Meets n c) (z ∷ zs)
    by_held later false over b' e' = (ap (λ b. is_number z.number n && b) over ∙ (both (is_number z.number n) (is_number z.own c) ∙ sym (ap (λ b. is_number z.own c && b) over)), later (sym (held_by-over n z zs over) ∙ e))
    by_held later true held true e' =
        let same : z ≡ x = some-same x z (sym (held_by-here n z zs held e') ∙ e) in
        let mine : is_number z.own c ≡ true = has z.own c (ap (λ (w : Channel). w.own) same ∙ own) in
        (ap (λ b. b && is_channel_held z) (e' ∙ sym mine), behind n c z held e' mine zs distinct.0)
    by_held later true held false e' =
        let rest : held_by n zs ≡ Some x = sym (held_by-other n z zs held e') ∙ e in
        let f : Found z n x = found z n x zs distinct.0 rest in
        (ap (λ b. b && is_channel_held z) (e' ∙ sym (not_own f (is_number z.own c) refl)), later rest)
      where
        not_own : Found z n x → (b : Bool) → is_number z.own c ≡ b → is_number z.own c ≡ false
        not_own f false o = o
        not_own f true o = let no : is_number x.own c ≡ false = f.apart.owns held f.held c o in let yes : is_number x.own c ≡ true = has x.own c own in absurd (let h : true ≡ false = sym yes ∙ no in cc)

-- a channel under the client's own number
abbrev pub own_numbered : Channel → Channel
own_numbered x = record x { number = x.own }

-- what comes down under a number is what comes down under the client's own number
pub within-alone : (n c : ℕ) (act : Act) (x : Channel) → Meets n c x → with_down (Within c act) (own_numbered x) ≡ own_numbered (with_down (Within n act) x)
within-alone n c act x meets = subst (λ (b : Bool). (elim b as (λ _. Channel) [ true ↦ record x { number = x.own; acts = (Down, act) ∷ x.acts } | false ↦ own_numbered x ]) ≡ own_numbered (with_down (Within n act) x)) meets (pick (names n x))
  where
    pick : (b : Bool) → (elim b as (λ _. Channel) [ true ↦ record x { number = x.own; acts = (Down, act) ∷ x.acts } | false ↦ own_numbered x ]) ≡ own_numbered (elim b as (λ _. Channel) [ true ↦ record x { acts = (Down, act) ∷ x.acts } | false ↦ x ])
    pick true = refl
    pick false = refl

pub confirmation-alone : (n c s w m : ℕ) (x : Channel) → Meets n c x → with_down (Confirmation c s w m) (own_numbered x) ≡ own_numbered (with_down (Confirmation n s w m) x)
confirmation-alone n c s w m x meets = subst (λ (b : Bool). (elim b as (λ _. Channel) [ true ↦ record x { number = x.own; remote = Some s; acts = (Down, Confirms w m) ∷ x.acts } | false ↦ own_numbered x ]) ≡ own_numbered (with_down (Confirmation n s w m) x)) meets (pick (names n x))
  where
    pick : (b : Bool) → (elim b as (λ _. Channel) [ true ↦ record x { number = x.own; remote = Some s; acts = (Down, Confirms w m) ∷ x.acts } | false ↦ own_numbered x ]) ≡ own_numbered (elim b as (λ _. Channel) [ true ↦ record x { remote = Some s; acts = (Down, Confirms w m) ∷ x.acts } | false ↦ x ])
    pick true = refl
    pick false = refl

both-of : (a b k : ℕ) → (a == k) ≡ true → (b == k) ≡ true → (a == b) ≡ true
both-of a b k e f = grind (arith, nat_tests)

-- a client's channels are apart, their own numbers too
pub distinct-of : (k : ℕ) (xs : List Channel) → AllApart xs → Distinct (filter (is_of k) xs)
distinct-of k [] apart = tt
distinct-of k (x ∷ xs) apart = by_case (distinct-of k xs apart.1) (x.client == k) refl
  where
    pair : (x.client == k) ≡ true → (y : Channel) → (y.client == k) ≡ true → ApartFrom x y → Apart x y
    pair e y f a = record { numbers = λ h h' n u. a.numbers h h' n u; owns = λ h h' c u. a.owns h h' (both-of x.client y.client k e f) c u }

    mine : (ys : List Channel) → Each (λ y. (y.client == k) ≡ true) (filter (is_of k) ys)
    mine [] = tt
    mine (y ∷ ys) = by_head (mine ys) (y.client == k) refl
      where
        by_head : Each (λ y. (y.client == k) ≡ true) (filter (is_of k) ys) → (b : Bool) → (y.client == k) ≡ b → Each (λ y. (y.client == k) ≡ true) (filter (is_of k) (y ∷ ys))
        by_head ih true e = subst (Each (λ y. (y.client == k) ≡ true)) (sym (filter-yes (is_of k) y ys e)) (e, ih)
        by_head ih false e = subst (Each (λ y. (y.client == k) ≡ true)) (sym (filter-no (is_of k) y ys e)) ih

    by_case : Distinct (filter (is_of k) xs) → (b : Bool) → (x.client == k) ≡ b → Distinct (filter (is_of k) (x ∷ xs))
    by_case ih true e = subst Distinct (sym (filter-yes (is_of k) x xs e)) (each-both (λ y. (y.client == k) ≡ true) (ApartFrom x) (Apart x) (pair e) (filter (is_of k) xs) (mine xs) (each-filter k (ApartFrom x) xs apart.0), ih)
    by_case ih false e = subst Distinct (sym (filter-no (is_of k) x xs e)) ih
