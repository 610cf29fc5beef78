-- One channel of the forwarder goes on, and fits what the forwarder has of it.
use Rattle.std.proofs.Common.{◌≡◌, ℕ, Bool, true, false, not, ◌&&◌, ◌||◌, Option, Some, None, List, [], ◌∷◌, ◌++◌, refl, sym, ap, ◌∙◌, subst, arith, append-nil}
use Rattle.std.specs.Prelude.{◌==◌, find}
use Rattle.std.proofs.lemmas.Bool.Decides.{nat_tests}
use Rattle.ssh_grammar.specs.declared.side.Side.{Side}
use Rattle.ssh_grammar.specs.declared.side.Side.TheVariants.{Up}
use Rattle.mux_history.specs.Channels.{Channel, is_confirmed, is_channel_held, is_number, is_up}
use Rattle.mux_history.specs.Rows.{any_of}
use Rattle.house_history.proofs.Lists.{Each, Found, each-behind, each-front, each-of, find-at, find-none, found, none-pass}
use Rattle.house_history.proofs.Views.{Acct, IsAccount, IsLive, IsOffered, IsOpened, NoChannel, View}
use Rattle.house_history.proofs.Fitting.{Entry, Fit, Fits, IsFreshUp, KnownBy, LooksAt, Unowned, Without, numbers, offered-at, other-back, owned-at, put-none, put-one, same-at, unowned-past, without, without-none}

-- ---- channels that are apart

pub record Far (x y : Channel) : Type 0 where
  pub numbers : (n : ℕ) → is_number x.number n ≡ true → is_number y.number n ≡ false
  pub remotes : (n : ℕ) → is_number x.remote n ≡ true → is_number y.remote n ≡ false
  pub owns : (n : ℕ) → is_number x.own n ≡ true → is_number y.own n ≡ false

flips : (a b : Bool) → (a ≡ true → b ≡ false) → b ≡ true → a ≡ false
flips true b f e = absurd (let no : b ≡ false = f refl in let bad : true ≡ false = sym e ∙ no in cc)
flips false b f e = refl

pub far-back : (x y : Channel) → Far x y → Far y x
far-back x y f = record {
  numbers = λ n h. flips (is_number x.number n) (is_number y.number n) (f.numbers n) h;
  remotes = λ n h. flips (is_number x.remote n) (is_number y.remote n) (f.remotes n) h;
  owns = λ n h. flips (is_number x.own n) (is_number y.own n) (f.owns n) h;
}

abbrev pub AllFar : List Channel → Type 0
AllFar [] = Unit {0}
AllFar (x ∷ xs) = Each (Far x) xs × AllFar xs

pub record Good (hs : List Channel) : Type 0 where
  pub held : Each (λ (x : Channel). is_channel_held x ≡ true) hs
  pub far : AllFar hs

pub far-front : (fs bs : List Channel) (x : Channel) → AllFar (fs ++ x ∷ bs) → Each (Far x) fs
far-front [] bs x a = tt
far-front (f ∷ fs) bs x a = (far-back f x (each-behind (Far f) fs (x ∷ bs) a.0).0, far-front fs bs x a.1)

pub far-behind : (fs bs : List Channel) (x : Channel) → AllFar (fs ++ x ∷ bs) → Each (Far x) bs
far-behind [] bs x a = a.0
far-behind (f ∷ fs) bs x a = far-behind fs bs x a.1

-- ---- what an entry looks at

-- a channel of the forwarder's own number that no offer is
pub looks-own : (x : Channel) (n : ℕ) (e : Entry) → x.own ≡ Some n → ((s : ℕ) → offered-at s x ≡ false) → e.0 ≡ Some n → LooksAt x e
looks-own x n e own plain its = λ f o. record {
  number = λ j h. by_test j (n == j) refl (subst (λ (p : Option ℕ). is_number p n ≡ false) h (o.number n (ap (λ (p : Option ℕ). is_number p n) its ∙ same-at n)));
  offer = λ s h. plain s;
}
  where
    by_test : (j : ℕ) (b : Bool) → (n == j) ≡ b → (j == n) ≡ false → is_number x.own j ≡ false
    by_test j true t e = absurd (let bad : true ≡ false = grind (arith, nat_tests) in cc)
    by_test j false t e = ap (λ (p : Option ℕ). is_number p j) own ∙ t

-- a channel that the server opened
pub looks-offer : (x : Channel) (s w m : ℕ) (o : Option ℕ) → x.own ≡ None → x.remote ≡ Some s → LooksAt x (o, IsOffered s w m)
looks-offer x s w m o own remote = λ f other. record {
  number = λ j h. ap (λ (p : Option ℕ). is_number p j) own;
  offer = λ r h. let none : (s == r) ≡ false = (other-back (o, IsOffered s w m) f other).offer r h in
      ap (λ (p : Option ℕ). is_number p r && (not (is_up x.by) && not (is_confirmed x))) remote ∙ ap (λ (b : Bool). b && (not (is_up x.by) && not (is_confirmed x))) none;
}

pub by-up : (x : Channel) (s : ℕ) → x.by ≡ Up → offered-at s x ≡ false
by-up x s e = ap (λ (side : Side). is_number x.remote s && (not (is_up side) && not (is_confirmed x))) e ∙ and-false (is_number x.remote s)
  where
    and-false : (b : Bool) → (b && (false && not (is_confirmed x))) ≡ false
    and-false true = refl
    and-false false = refl

pub confirmed-none : (x : Channel) (s : ℕ) → is_confirmed x ≡ true → offered-at s x ≡ false
confirmed-none x s e = ap (λ (c : Bool). is_number x.remote s && (not (is_up x.by) && not c)) e ∙ and-false (is_number x.remote s) (is_up x.by)
  where
    and-false : (b c : Bool) → (b && (not c && false)) ≡ false
    and-false true true = refl
    and-false true false = refl
    and-false false c = refl

-- ---- the numbers that are known

pub known-here : (es gs : List Entry) (e : Entry) (c : ℕ) → is_number e.0 c ≡ true → any_of (λ o. is_number o c) (numbers (es ++ e ∷ gs)) ≡ true
known-here [] gs e c h = ap (λ (b : Bool). b || any_of (λ o. is_number o c) (numbers gs)) h
known-here (f ∷ es) gs e c h = ap (λ (b : Bool). is_number f.0 c || b) (known-here es gs e c h) ∙ or-true (is_number f.0 c)
  where
    or-true : (b : Bool) → (b || true) ≡ true
    or-true true = refl
    or-true false = refl

knows : (es gs : List Entry) (e : Entry) (x : Channel) (n : ℕ) → x.own ≡ Some n → e.0 ≡ Some n → KnownBy (numbers (es ++ e ∷ gs)) x
knows es gs e x n own its c h =
    let same : n ≡ c = let both : Some n ≡ Some c = sym own ∙ h in cc in
    known-here es gs e c (ap (λ (p : Option ℕ). is_number p c) its ∙ subst (λ (j : ℕ). (n == j) ≡ true) same (same-at n))

-- ---- the forwarder opens one

pub opens-one : (hs : List Channel) (es gs : List Entry) (n : ℕ) (x : Channel) → x.own ≡ Some n → IsFreshUp x
    → Fit hs (es ++ (Some n, NoChannel) ∷ gs) → Fit (hs ++ x ∷ []) (es ++ (Some n, IsOpened) ∷ gs)
opens-one hs es gs n x own fresh fit =
    let e : Entry = (Some n, NoChannel) in
    let w = without-none hs es gs e fit in
    let w' : Without (hs ++ []) es e gs = subst (λ (l : List Channel). Without l es e gs) (sym (append-nil hs)) w in
    let mine : Unowned hs (Some n) = (each-behind (Fits hs) es (e ∷ gs) fit.fits).0 in
    put-one hs [] x es gs e (Some n, IsOpened) (record { number = refl; offer = λ s h. h }) w' (looks-own x n e own (λ s. by-up x s fresh.by) refl)
    (x, find-at (owned-at n) hs [] x (none-pass (owned-at n) hs mine) (ap (λ (p : Option ℕ). is_number p n) own ∙ same-at n), fresh)
    (knows es gs e x n own refl)

-- ---- a channel that is confirmed, and where it stands

pub record Standing (hs : List Channel) (n : ℕ) (P : Channel → Type 0) : Type 0 where
  pub x : Channel
  pub front : List Channel
  pub behind : List Channel
  pub are : hs ≡ front ++ x ∷ behind
  pub own : x.own ≡ Some n
  pub none : Each (λ (y : Channel). owned-at n y ≡ false) front
  pub more : Each (λ (y : Channel). owned-at n y ≡ false) behind
  pub right : P x

own-is : (o : Option ℕ) (n : ℕ) → is_number o n ≡ true → o ≡ Some n
own-is None n h = cc
own-is (Some m) n h = let same : m ≡ n = grind (arith, nat_tests) in ap (λ (i : ℕ). Some i) same

pub stands-at : (hs : List Channel) (n : ℕ) (P : Channel → Type 0) (x : Channel) → Good hs → find (owned-at n) hs ≡ Some x → P x → Standing hs n P
stands-at hs n P x good e right =
    let f : Found (owned-at n) x hs = found (owned-at n) x hs e in
    record {
      x = x;
      front = f.before;
      behind = f.behind;
      are = f.are;
      own = own-is x.own n f.is;
      none = f.none;
      more = each-of (Far x) (λ (y : Channel). owned-at n y ≡ false) (λ y far. far.owns n f.is) f.behind (far-behind f.before f.behind x (subst AllFar f.are good.far));
      right = right;
    }

-- it goes on, with the same number
pub live-on : (fs bs : List Channel) (x x' : Channel) (es gs : List Entry) (n : ℕ) (a a' : Acct) → x.own ≡ Some n → is_confirmed x ≡ true → x'.own ≡ Some n → IsAccount x' a'
    → Each (λ (y : Channel). owned-at n y ≡ false) fs → Fit (fs ++ x ∷ bs) (es ++ (Some n, IsLive a) ∷ gs) → Fit (fs ++ x' ∷ bs) (es ++ (Some n, IsLive a') ∷ gs)
live-on fs bs x x' es gs n a a' own confirmed own' is none fit =
    let e : Entry = (Some n, IsLive a) in
    let w = without fs bs x es gs e (looks-own x n e own (λ s. confirmed-none x s confirmed) refl) fit in
    put-one fs bs x' es gs e (Some n, IsLive a') (record { number = refl; offer = λ s h. h }) w (looks-own x' n e own' (λ s. confirmed-none x' s is.confirmed) refl)
    (x', find-at (owned-at n) fs bs x' none (ap (λ (p : Option ℕ). is_number p n) own' ∙ same-at n), is)
    (knows es gs e x' n own' refl)

-- it is over
pub live-over : (fs bs : List Channel) (x : Channel) (es gs : List Entry) (n : ℕ) (v : View) → ((s : ℕ) → offered-at s x ≡ false) → x.own ≡ Some n
    → Each (λ (y : Channel). owned-at n y ≡ false) fs → Each (λ (y : Channel). owned-at n y ≡ false) bs → Fit (fs ++ x ∷ bs) (es ++ (Some n, v) ∷ gs) → Fit (fs ++ bs) (es ++ (Some n, NoChannel) ∷ gs)
live-over fs bs x es gs n v plain own none more fit =
    let e : Entry = (Some n, v) in
    let w = without fs bs x es gs e (looks-own x n e own plain refl) fit in
    put-none (fs ++ bs) es gs e (Some n, NoChannel) (record { number = refl; offer = λ s h. absurd (let bad : false ≡ true = h in cc) }) w (find-none (owned-at n) fs bs none more)

-- the server confirms one that the forwarder opened
pub confirmed-one : (fs bs : List Channel) (x x' : Channel) (es gs : List Entry) (n : ℕ) (a : Acct) → x.own ≡ Some n → x.by ≡ Up → x'.own ≡ Some n → IsAccount x' a
    → Each (λ (y : Channel). owned-at n y ≡ false) fs → Fit (fs ++ x ∷ bs) (es ++ (Some n, IsOpened) ∷ gs) → Fit (fs ++ x' ∷ bs) (es ++ (Some n, IsLive a) ∷ gs)
confirmed-one fs bs x x' es gs n a own up own' is none fit =
    let e : Entry = (Some n, IsOpened) in
    let w = without fs bs x es gs e (looks-own x n e own (λ s. by-up x s up) refl) fit in
    put-one fs bs x' es gs e (Some n, IsLive a) (record { number = refl; offer = λ s h. h }) w (looks-own x' n e own' (λ s. confirmed-none x' s is.confirmed) refl)
    (x', find-at (owned-at n) fs bs x' none (ap (λ (p : Option ℕ). is_number p n) own' ∙ same-at n), is)
    (knows es gs e x' n own' refl)

-- ---- one that the server opened

-- the forwarder confirms it
pub accepts-one : (fs bs : List Channel) (x x' : Channel) (es gs : List Entry) (n s w m : ℕ) (a : Acct) → x.own ≡ None → x.remote ≡ Some s → x'.own ≡ Some n → IsAccount x' a
    → Fit (fs ++ x ∷ bs) (es ++ (Some n, IsOffered s w m) ∷ gs) → Fit (fs ++ x' ∷ bs) (es ++ (Some n, IsLive a) ∷ gs)
accepts-one fs bs x x' es gs n s w m a own remote own' is fit =
    let e : Entry = (Some n, IsOffered s w m) in
    let mine : Fits (fs ++ x ∷ bs) e = (each-behind (Fits (fs ++ x ∷ bs)) es (e ∷ gs) fit.fits).0 in
    let none = none-pass (owned-at n) (fs ++ x ∷ bs) mine.0 in
    let wo = without fs bs x es gs e (looks-offer x s w m (Some n) own remote) fit in
    put-one fs bs x' es gs e (Some n, IsLive a) (record { number = refl; offer = λ r h. absurd (let bad : false ≡ true = h in cc) }) wo (looks-own x' n e own' (λ r. confirmed-none x' r is.confirmed) refl)
    (x', find-at (owned-at n) fs bs x' (each-front (λ (y : Channel). owned-at n y ≡ false) fs (x ∷ bs) none) (ap (λ (p : Option ℕ). is_number p n) own' ∙ same-at n), is)
    (knows es gs e x' n own' refl)

-- the forwarder refuses it
pub refuses-one : (fs bs : List Channel) (x : Channel) (es gs : List Entry) (o : Option ℕ) (s w m : ℕ) → x.own ≡ None → x.remote ≡ Some s
    → Fit (fs ++ x ∷ bs) (es ++ (o, IsOffered s w m) ∷ gs) → Fit (fs ++ bs) (es ++ (o, NoChannel) ∷ gs)
refuses-one fs bs x es gs o s w m own remote fit =
    let e : Entry = (o, IsOffered s w m) in
    let mine : Fits (fs ++ x ∷ bs) e = (each-behind (Fits (fs ++ x ∷ bs)) es (e ∷ gs) fit.fits).0 in
    let wo = without fs bs x es gs e (looks-offer x s w m o own remote) fit in
    put-none (fs ++ bs) es gs e (o, NoChannel) (record { number = refl; offer = λ r h. absurd (let bad : false ≡ true = h in cc) }) wo
    (unowned-past fs bs x o (λ j h. ap (λ (p : Option ℕ). is_number p j) own) mine.0)
