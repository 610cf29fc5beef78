-- The channels that the history has of the forwarder fit those that the forwarder has.
use Rattle.std.proofs.Common.{◌≡◌, ℕ, Bool, true, false, not, ◌&&◌, Option, Some, None, List, [], ◌∷◌, ◌++◌, refl, sym, ap, ◌∙◌, subst, arith, map}
use Rattle.std.specs.Prelude.{◌==◌, find}
use Rattle.std.proofs.lemmas.Bool.{eqb-true}
use Rattle.std.proofs.lemmas.Bool.Decides.{nat_tests}
use Rattle.ssh_grammar.specs.declared.side.Side.TheVariants.{Up, Down}
use Rattle.mux_history.specs.Channels.{Channel, is_confirmed, is_number, is_up}
use Rattle.mux_history.specs.Rows.{any_of}
use Rattle.house_history.proofs.Lists.{Each, each-append, each-behind, each-front, each-of, find-past}
use Rattle.house_history.proofs.Views.{IsAccount, IsLive, IsOffered, IsOpened, NoChannel, View}

-- a channel of the forwarder by its own number, where that is known, and its state
abbrev pub Entry : Type 0
Entry = Option ℕ × View

-- opened by the forwarder, and unanswered
pub record IsFreshUp (x : Channel) : Type 0 where
  pub by : x.by ≡ Up
  pub remote : x.remote ≡ None
  pub acts : x.acts ≡ []
  pub window : x.window ≡ 2097152

-- opened by the server, and unanswered
pub record IsFreshDown (w m : ℕ) (x : Channel) : Type 0 where
  pub by : x.by ≡ Down
  pub own : x.own ≡ None
  pub number : x.number ≡ None
  pub acts : x.acts ≡ []
  pub window : x.window ≡ w
  pub maximum : x.maximum ≡ m

abbrev pub owned-at : ℕ → Channel → Bool
owned-at n x = is_number x.own n

abbrev pub offered-at : ℕ → Channel → Bool
offered-at s x = is_number x.remote s && (not (is_up x.by) && not (is_confirmed x))

abbrev pub Unowned : List Channel → Option ℕ → Type 0
Unowned hs None = Unit {0}
Unowned hs (Some n) = find (owned-at n) hs ≡ None

abbrev pub Owns : List Channel → Option ℕ → Channel → Type 0
Owns hs None x = ⊥
Owns hs (Some n) x = find (owned-at n) hs ≡ Some x

abbrev pub FitsAs : List Channel → Option ℕ → View → Type 0
FitsAs hs o NoChannel = Unowned hs o
FitsAs hs o IsOpened = (x : Channel) × Owns hs o x × IsFreshUp x
FitsAs hs o (IsOffered s w m) = Unowned hs o × ((x : Channel) × (find (offered-at s) hs ≡ Some x) × IsFreshDown w m x)
FitsAs hs o (IsLive a) = (x : Channel) × Owns hs o x × IsAccount x a

abbrev pub Fits : List Channel → Entry → Type 0
Fits hs e = FitsAs hs e.0 e.1

-- the forwarder has a channel of this number
abbrev pub numbers : List Entry → List (Option ℕ)
numbers es = map (λ (e : Entry). e.0) es

abbrev pub KnownBy : List (Option ℕ) → Channel → Type 0
KnownBy ns x = (c : ℕ) → x.own ≡ Some c → any_of (λ o. is_number o c) ns ≡ true

-- ---- two of them

abbrev pub offers-at : ℕ → View → Bool
offers-at s NoChannel = false
offers-at s IsOpened = false
offers-at s (IsOffered r w m) = r == s
offers-at s (IsLive a) = false

pub record Other (e f : Entry) : Type 0 where
  pub number : (n : ℕ) → is_number e.0 n ≡ true → is_number f.0 n ≡ false
  pub offer : (s : ℕ) → offers-at s e.1 ≡ true → offers-at s f.1 ≡ false

abbrev pub AllOther : List Entry → Type 0
AllOther [] = Unit {0}
AllOther (e ∷ es) = Each (Other e) es × AllOther es

flips : (a b : Bool) → (a ≡ true → b ≡ false) → b ≡ true → a ≡ false
flips true b f e = absurd (let no : b ≡ false = f refl in let bad : true ≡ false = sym e ∙ no in cc)
flips false b f e = refl

pub other-back : (e f : Entry) → Other e f → Other f e
other-back e f o = record {
  number = λ n h. flips (is_number e.0 n) (is_number f.0 n) (o.number n) h;
  offer = λ s h. flips (offers-at s e.1) (offers-at s f.1) (o.offer s) h;
}

-- the others of one of them
pub record Others (es : List Entry) (e : Entry) (gs : List Entry) : Type 0 where
  pub front : Each (Other e) es
  pub behind : Each (Other e) gs
  pub fronts : AllOther es
  pub behinds : AllOther gs
  pub between : Each (λ f. Each (Other f) gs) es

pub others-of : (es : List Entry) (e : Entry) (gs : List Entry) → AllOther (es ++ e ∷ gs) → Others es e gs
others-of [] e gs a = record { front = tt; behind = a.0; fronts = tt; behinds = a.1; between = tt }
others-of (f ∷ es) e gs a =
    let o = others-of es e gs a.1 in
    let f-all = a.0 in
    let f-front = each-front (Other f) es (e ∷ gs) f-all in
    let f-behind = each-behind (Other f) es (e ∷ gs) f-all in
    record { front = (other-back f e f-behind.0, o.front); behind = o.behind; fronts = (f-front, o.fronts); behinds = o.behinds; between = (f-behind.1, o.between) }

pub all-other : (es : List Entry) (e : Entry) (gs : List Entry) → Others es e gs → AllOther (es ++ e ∷ gs)
all-other [] e gs o = (o.behind, o.behinds)
all-other (f ∷ es) e gs o = (
  each-append (Other f) es (e ∷ gs) o.fronts.0 (other-back e f o.front.0, o.between.0),
  all-other es e gs (record { front = o.front.1; behind = o.behind; fronts = o.fronts.1; behinds = o.behinds; between = o.between.1 }),
)

-- ---- all of them

pub record Fit (hs : List Channel) (vs : List Entry) : Type 0 where
  pub fits : Each (Fits hs) vs
  pub known : Each (KnownBy (numbers vs)) hs
  pub apart : AllOther vs

-- ---- one that isn't looked at

pub record Aside (x : Channel) (e : Entry) : Type 0 where
  pub number : (n : ℕ) → e.0 ≡ Some n → is_number x.own n ≡ false
  pub offer : (s : ℕ) → offers-at s e.1 ≡ true → offered-at s x ≡ false

pub number-is : (o : Option ℕ) (n : ℕ) → is_number o n ≡ true → o ≡ Some n
number-is None n e = cc
number-is (Some m) n e = ap Some (eqb-true m n e)

pub same-at : (r : ℕ) → (r == r) ≡ true
same-at r = grind (arith, nat_tests)

pub unowned-past : (fs bs : List Channel) (x : Channel) (o : Option ℕ) → ((n : ℕ) → o ≡ Some n → is_number x.own n ≡ false) → Unowned (fs ++ x ∷ bs) o → Unowned (fs ++ bs) o
unowned-past fs bs x None aside u = tt
unowned-past fs bs x (Some n) aside u = sym (find-past (owned-at n) fs bs x (aside n refl)) ∙ u

pub unowned-more : (fs bs : List Channel) (x : Channel) (o : Option ℕ) → ((n : ℕ) → o ≡ Some n → is_number x.own n ≡ false) → Unowned (fs ++ bs) o → Unowned (fs ++ x ∷ bs) o
unowned-more fs bs x None aside u = tt
unowned-more fs bs x (Some n) aside u = find-past (owned-at n) fs bs x (aside n refl) ∙ u

owns-past : (fs bs : List Channel) (x y : Channel) (o : Option ℕ) → ((n : ℕ) → o ≡ Some n → is_number x.own n ≡ false) → Owns (fs ++ x ∷ bs) o y → Owns (fs ++ bs) o y
owns-past fs bs x y None aside u = u
owns-past fs bs x y (Some n) aside u = sym (find-past (owned-at n) fs bs x (aside n refl)) ∙ u

owns-more : (fs bs : List Channel) (x y : Channel) (o : Option ℕ) → ((n : ℕ) → o ≡ Some n → is_number x.own n ≡ false) → Owns (fs ++ bs) o y → Owns (fs ++ x ∷ bs) o y
owns-more fs bs x y None aside u = u
owns-more fs bs x y (Some n) aside u = find-past (owned-at n) fs bs x (aside n refl) ∙ u

pub fits-past : (fs bs : List Channel) (x : Channel) (o : Option ℕ) (v : View) → Aside x (o, v) → FitsAs (fs ++ x ∷ bs) o v → FitsAs (fs ++ bs) o v
fits-past fs bs x o NoChannel a f = unowned-past fs bs x o a.number f
fits-past fs bs x o IsOpened a f = (f.0, owns-past fs bs x f.0 o a.number f.1, f.2)
fits-past fs bs x o (IsOffered s w m) a f = (unowned-past fs bs x o a.number f.0, (f.1.0, sym (find-past (offered-at s) fs bs x (a.offer s (same-at s))) ∙ f.1.1, f.1.2))
fits-past fs bs x o (IsLive acct) a f = (f.0, owns-past fs bs x f.0 o a.number f.1, f.2)

pub fits-more : (fs bs : List Channel) (x : Channel) (o : Option ℕ) (v : View) → Aside x (o, v) → FitsAs (fs ++ bs) o v → FitsAs (fs ++ x ∷ bs) o v
fits-more fs bs x o NoChannel a f = unowned-more fs bs x o a.number f
fits-more fs bs x o IsOpened a f = (f.0, owns-more fs bs x f.0 o a.number f.1, f.2)
fits-more fs bs x o (IsOffered s w m) a f = (unowned-more fs bs x o a.number f.0, (f.1.0, find-past (offered-at s) fs bs x (a.offer s (same-at s)) ∙ f.1.1, f.1.2))
fits-more fs bs x o (IsLive acct) a f = (f.0, owns-more fs bs x f.0 o a.number f.1, f.2)

-- ---- one channel is changed, or is over, or is new; and its entry goes on

numbers-same : (es gs : List Entry) (e e' : Entry) → e'.0 ≡ e.0 → numbers (es ++ e' ∷ gs) ≡ numbers (es ++ e ∷ gs)
numbers-same [] gs e e' same = ap (λ (o : Option ℕ). o ∷ numbers gs) same
numbers-same (f ∷ es) gs e e' same = ap (λ (os : List (Option ℕ)). f.0 ∷ os) (numbers-same es gs e e' same)

-- it looks at one channel alone
abbrev pub LooksAt : Channel → Entry → Type 0
LooksAt x e = (f : Entry) → Other e f → Aside x f

-- it has the number and the offer of another, or less
pub record IsLess (e e' : Entry) : Type 0 where
  pub number : e'.0 ≡ e.0
  pub offer : (s : ℕ) → offers-at s e'.1 ≡ true → offers-at s e.1 ≡ true

pub less-other : (e e' f : Entry) → IsLess e e' → Other e f → Other e' f
less-other e e' f l o = record {
  number = λ n h. o.number n (sym (ap (λ (p : Option ℕ). is_number p n) l.number) ∙ h);
  offer = λ s h. o.offer s (l.offer s h);
}

others-less : (es : List Entry) (e e' : Entry) (gs : List Entry) → IsLess e e' → Others es e gs → Others es e' gs
others-less es e e' gs l o = record {
  front = each-of (Other e) (Other e') (λ f. less-other e e' f l) es o.front;
  behind = each-of (Other e) (Other e') (λ f. less-other e e' f l) gs o.behind;
  fronts = o.fronts;
  behinds = o.behinds;
  between = o.between;
}

each-fits-past : (fs bs : List Channel) (x : Channel) (e : Entry) → LooksAt x e → (es : List Entry) → Each (Other e) es → Each (Fits (fs ++ x ∷ bs)) es → Each (Fits (fs ++ bs)) es
each-fits-past fs bs x e looks [] o f = tt
each-fits-past fs bs x e looks (g ∷ es) o f = (fits-past fs bs x g.0 g.1 (looks g o.0) f.0, each-fits-past fs bs x e looks es o.1 f.1)

each-fits-more : (fs bs : List Channel) (x : Channel) (e : Entry) → LooksAt x e → (es : List Entry) → Each (Other e) es → Each (Fits (fs ++ bs)) es → Each (Fits (fs ++ x ∷ bs)) es
each-fits-more fs bs x e looks [] o f = tt
each-fits-more fs bs x e looks (g ∷ es) o f = (fits-more fs bs x g.0 g.1 (looks g o.0) f.0, each-fits-more fs bs x e looks es o.1 f.1)

-- without the channel of an entry
pub record Without (hs : List Channel) (es : List Entry) (e : Entry) (gs : List Entry) : Type 0 where
  pub front : Each (Fits hs) es
  pub behind : Each (Fits hs) gs
  pub others : Others es e gs
  pub known : Each (KnownBy (numbers (es ++ e ∷ gs))) hs

pub without : (fs bs : List Channel) (x : Channel) (es gs : List Entry) (e : Entry) → LooksAt x e → Fit (fs ++ x ∷ bs) (es ++ e ∷ gs) → Without (fs ++ bs) es e gs
without fs bs x es gs e looks fit =
    let o = others-of es e gs fit.apart in
    let ns = numbers (es ++ e ∷ gs) in
    record {
      front = each-fits-past fs bs x e looks es o.front (each-front (Fits (fs ++ x ∷ bs)) es (e ∷ gs) fit.fits);
      behind = each-fits-past fs bs x e looks gs o.behind (each-behind (Fits (fs ++ x ∷ bs)) es (e ∷ gs) fit.fits).1;
      others = o;
      known = each-append (KnownBy ns) fs bs (each-front (KnownBy ns) fs (x ∷ bs) fit.known) (each-behind (KnownBy ns) fs (x ∷ bs) fit.known).1;
    }

-- an entry that has no channel: nothing is removed
pub without-none : (hs : List Channel) (es gs : List Entry) (e : Entry) → Fit hs (es ++ e ∷ gs) → Without hs es e gs
without-none hs es gs e fit = record {
  front = each-front (Fits hs) es (e ∷ gs) fit.fits;
  behind = (each-behind (Fits hs) es (e ∷ gs) fit.fits).1;
  others = others-of es e gs fit.apart;
  known = fit.known;
}

-- the entry goes on without a channel
pub put-none : (hs : List Channel) (es gs : List Entry) (e e' : Entry) → IsLess e e' → Without hs es e gs → Fits hs e' → Fit hs (es ++ e' ∷ gs)
put-none hs es gs e e' less w its = record {
  fits = each-append (Fits hs) es (e' ∷ gs) w.front (its, w.behind);
  known = subst (λ (ns : List (Option ℕ)). Each (KnownBy ns) hs) (sym (numbers-same es gs e e' less.number)) w.known;
  apart = all-other es e' gs (others-less es e e' gs less w.others);
}

-- the entry goes on with a channel
pub put-one : (fs bs : List Channel) (x : Channel) (es gs : List Entry) (e e' : Entry) → IsLess e e' → Without (fs ++ bs) es e gs → LooksAt x e → Fits (fs ++ x ∷ bs) e' → KnownBy (numbers (es ++ e ∷ gs)) x → Fit (fs ++ x ∷ bs) (es ++ e' ∷ gs)
put-one fs bs x es gs e e' less w looks its knows =
    let ns = numbers (es ++ e ∷ gs) in
    record {
      fits = each-append (Fits (fs ++ x ∷ bs)) es (e' ∷ gs) (each-fits-more fs bs x e looks es w.others.front w.front) (its, each-fits-more fs bs x e looks gs w.others.behind w.behind);
      known = subst (λ (os : List (Option ℕ)). Each (KnownBy os) (fs ++ x ∷ bs)) (sym (numbers-same es gs e e' less.number))
          (each-append (KnownBy ns) fs (x ∷ bs) (each-front (KnownBy ns) fs bs w.known) (knows, each-behind (KnownBy ns) fs bs w.known));
      apart = all-other es e' gs (others-less es e e' gs less w.others);
    }
