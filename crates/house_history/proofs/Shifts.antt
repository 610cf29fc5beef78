-- What the forwarder has of its channels may be listed otherwise, and more may be added to it.
use Rattle.std.proofs.Common.{◌≡◌, ℕ, Bool, true, false, not, ◌&&◌, ◌||◌, Option, Some, None, List, [], ◌∷◌, ◌++◌, refl, sym, ap, ◌∙◌, subst, arith, append-nil}
use Rattle.std.specs.Prelude.{◌==◌, find}
use Rattle.std.proofs.lemmas.Bool.Decides.{nat_tests}
use Rattle.ssh_grammar.specs.declared.side.Side.{Side}
use Rattle.mux_history.specs.Channels.{Channel, any_act, is_confirmed, is_confirms, is_number, is_up}
use Rattle.mux_history.specs.Rows.{any_of}
use Rattle.house_history.proofs.Lists.{Each, Found, each-append, each-behind, each-found, each-front, each-of, find-all, find-at, found, none-pass}
use Rattle.house_history.proofs.Views.{IsLive, IsOffered, IsOpened, NoChannel, View}
use Rattle.house_history.proofs.Fitting.{AllOther, Entry, Fit, Fits, IsFreshDown, KnownBy, LooksAt, Other, Unowned, all-other, fits-more, numbers, offered-at, offers-at, other-back, others-of, owned-at, same-at}
use Rattle.house_history.proofs.Turns.{looks-offer}

-- ---- numbers

abbrev pub has : ℕ → Option ℕ → Bool
has n o = is_number o n

-- none of them has this number
abbrev pub AreFree : ℕ → List Entry → Type 0
AreFree n es = Each (λ (e : Entry). has n e.0 ≡ false) es

pub free-any : (n : ℕ) (es : List Entry) → AreFree n es → any_of (has n) (numbers es) ≡ false
free-any n [] free = refl
free-any n (e ∷ es) free = ap (λ (b : Bool). b || any_of (has n) (numbers es)) free.0 ∙ free-any n es free.1

or-first : (b c : Bool) → b ≡ true → (b || c) ≡ true
or-first true c e = refl
or-first false c e = cc

or-second : (b c : Bool) → c ≡ true → (b || c) ≡ true
or-second true c e = refl
or-second false c e = e

or-other : (b c : Bool) → b ≡ false → (b || c) ≡ true → c ≡ true
or-other true c e h = cc
or-other false c e h = h

-- more of them have it
pub any-front : (n : ℕ) (fs bs : List Entry) → any_of (has n) (numbers fs) ≡ true → any_of (has n) (numbers (fs ++ bs)) ≡ true
any-front n [] bs h = absurd (let bad : false ≡ true = h in cc)
any-front n (f ∷ fs) bs h = go (has n f.0) refl (λ e. any-front n fs bs e) h
  where
    go : (b : Bool) → has n f.0 ≡ b → (any_of (has n) (numbers fs) ≡ true → any_of (has n) (numbers (fs ++ bs)) ≡ true) → (has n f.0 || any_of (has n) (numbers fs)) ≡ true → (has n f.0 || any_of (has n) (numbers (fs ++ bs))) ≡ true
    go true e later h = or-first (has n f.0) (any_of (has n) (numbers (fs ++ bs))) e
    go false e later h = or-second (has n f.0) (any_of (has n) (numbers (fs ++ bs))) (later (or-other (has n f.0) (any_of (has n) (numbers fs)) e h))

pub any-behind : (n : ℕ) (fs bs : List Entry) → any_of (has n) (numbers bs) ≡ true → any_of (has n) (numbers (fs ++ bs)) ≡ true
any-behind n [] bs h = h
any-behind n (f ∷ fs) bs h = or-second (has n f.0) (any_of (has n) (numbers (fs ++ bs))) (any-behind n fs bs h)

-- it is in the first or in the second
pub any-split : (n : ℕ) (fs bs : List Entry) (P : Type 0) → any_of (has n) (numbers (fs ++ bs)) ≡ true → (any_of (has n) (numbers fs) ≡ true → P) → (any_of (has n) (numbers bs) ≡ true → P) → P
any-split n [] bs P h one two = two h
any-split n (f ∷ fs) bs P h one two = go (has n f.0) refl (λ h one two. any-split n fs bs P h one two) h
  where
    go : (b : Bool) → has n f.0 ≡ b → (any_of (has n) (numbers (fs ++ bs)) ≡ true → (any_of (has n) (numbers fs) ≡ true → P) → (any_of (has n) (numbers bs) ≡ true → P) → P) → (has n f.0 || any_of (has n) (numbers (fs ++ bs))) ≡ true → P
    go true e later h = one (or-first (has n f.0) (any_of (has n) (numbers fs)) e)
    go false e later h = later (or-other (has n f.0) (any_of (has n) (numbers (fs ++ bs))) e h) (λ i. one (or-second (has n f.0) (any_of (has n) (numbers fs)) i)) two

-- without one that hasn't it
pub any-without : (n : ℕ) (fs bs : List Entry) (e : Entry) → has n e.0 ≡ false → any_of (has n) (numbers (fs ++ e ∷ bs)) ≡ true → any_of (has n) (numbers (fs ++ bs)) ≡ true
any-without n fs bs e none h = any-split n fs (e ∷ bs) (any_of (has n) (numbers (fs ++ bs)) ≡ true) h (λ i. any-front n fs bs i)
    (λ i. any-behind n fs bs (or-other (has n e.0) (any_of (has n) (numbers bs)) none i))

pub any-with : (n : ℕ) (fs bs : List Entry) (e : Entry) → any_of (has n) (numbers (fs ++ bs)) ≡ true → any_of (has n) (numbers (fs ++ e ∷ bs)) ≡ true
any-with n fs bs e h = any-split n fs bs (any_of (has n) (numbers (fs ++ e ∷ bs)) ≡ true) h (λ i. any-front n fs (e ∷ bs) i)
    (λ i. any-behind n fs (e ∷ bs) (or-second (has n e.0) (any_of (has n) (numbers bs)) i))

known-of : (hs : List Channel) (ns os : List (Option ℕ)) → ((c : ℕ) → any_of (has c) ns ≡ true → any_of (has c) os ≡ true) → Each (KnownBy ns) hs → Each (KnownBy os) hs
known-of hs ns os more known = each-of (KnownBy ns) (KnownBy os) (λ x k c h. more c (k c h)) hs known

-- a number that none has is no channel's
pub unowned-free : (hs : List Channel) (n : ℕ) (es : List Entry) → AreFree n es → Each (KnownBy (numbers es)) hs → find (owned-at n) hs ≡ None
unowned-free hs n es free known = find-all (owned-at n) hs (each-of (KnownBy (numbers es)) (λ (x : Channel). owned-at n x ≡ false) (λ x k. by_test x k (is_number x.own n) refl) hs known)
  where
    some-own : (o : Option ℕ) → is_number o n ≡ true → o ≡ Some n
    some-own None h = cc
    some-own (Some m) h = let same : m ≡ n = grind (arith, nat_tests) in ap (λ (i : ℕ). Some i) same

    by_test : (x : Channel) → KnownBy (numbers es) x → (b : Bool) → is_number x.own n ≡ b → is_number x.own n ≡ false
    by_test x k true h = absurd (let yes-any = k n (some-own x.own h) in let none = free-any n es free in let bad : true ≡ false = sym yes-any ∙ none in cc)
    by_test x k false h = h

-- ---- an entry without a channel comes, goes, or moves

other-none : (n : ℕ) (f : Entry) → has n f.0 ≡ false → Other (Some n, NoChannel) f
other-none n f free = record {
  number = λ j h. let same : n ≡ j = grind (arith, nat_tests) in subst (λ (i : ℕ). has i f.0 ≡ false) same free;
  offer = λ s h. absurd (let bad : false ≡ true = h in cc);
}

apart-with : (fs bs : List Entry) (e : Entry) → Each (Other e) fs → Each (Other e) bs → AllOther (fs ++ bs) → AllOther (fs ++ e ∷ bs)
apart-with [] bs e front behind a = (behind, a)
apart-with (f ∷ fs) bs e front behind a = (
  each-append (Other f) fs (e ∷ bs) (each-front (Other f) fs bs a.0) (other-back e f front.0, each-behind (Other f) fs bs a.0),
  apart-with fs bs e front.1 behind a.1,
)

apart-without : (fs bs : List Entry) (e : Entry) → AllOther (fs ++ e ∷ bs) → AllOther (fs ++ bs)
apart-without [] bs e a = a.1
apart-without (f ∷ fs) bs e a = (
  each-append (Other f) fs bs (each-front (Other f) fs (e ∷ bs) a.0) (each-behind (Other f) fs (e ∷ bs) a.0).1,
  apart-without fs bs e a.1,
)

pub fit-with : (hs : List Channel) (fs bs : List Entry) (n : ℕ) → AreFree n fs → AreFree n bs → Fit hs (fs ++ bs) → Fit hs (fs ++ (Some n, NoChannel) ∷ bs)
fit-with hs fs bs n front behind fit =
    let e : Entry = (Some n, NoChannel) in
    record {
      fits = each-append (Fits hs) fs (e ∷ bs) (each-front (Fits hs) fs bs fit.fits)
          (unowned-free hs n (fs ++ bs) (each-append (λ (f : Entry). has n f.0 ≡ false) fs bs front behind) fit.known, each-behind (Fits hs) fs bs fit.fits);
      known = known-of hs (numbers (fs ++ bs)) (numbers (fs ++ e ∷ bs)) (λ c. any-with c fs bs e) fit.known;
      apart = apart-with fs bs e (each-of (λ (f : Entry). has n f.0 ≡ false) (Other e) (λ f. other-none n f) fs front) (each-of (λ (f : Entry). has n f.0 ≡ false) (Other e) (λ f. other-none n f) bs behind) fit.apart;
    }

known-without : (hs : List Channel) (fs bs : List Entry) (o : Option ℕ) → Unowned hs o → Each (KnownBy (numbers (fs ++ (o, NoChannel) ∷ bs))) hs → Each (KnownBy (numbers (fs ++ bs))) hs
known-without hs fs bs None none known = known-of hs (numbers (fs ++ (None, NoChannel) ∷ bs)) (numbers (fs ++ bs)) (λ c. any-without c fs bs (None, NoChannel) refl) known
known-without hs fs bs (Some n) none known = go hs none known
  where
    go : (xs : List Channel) → find (owned-at n) xs ≡ None → Each (KnownBy (numbers (fs ++ (Some n, NoChannel) ∷ bs))) xs → Each (KnownBy (numbers (fs ++ bs))) xs
    go xs e k = by_all xs (none-of xs e) k
      where
        none-of : (xs : List Channel) → find (owned-at n) xs ≡ None → Each (λ (x : Channel). owned-at n x ≡ false) xs
        none-of xs e = none-pass (owned-at n) xs e

        by_all : (xs : List Channel) → Each (λ (x : Channel). owned-at n x ≡ false) xs → Each (KnownBy (numbers (fs ++ (Some n, NoChannel) ∷ bs))) xs → Each (KnownBy (numbers (fs ++ bs))) xs
        by_all [] none k = tt
        by_all (x ∷ xs) none k = ((λ c own. any-without c fs bs (Some n, NoChannel) (let differs : is_number (Some c) n ≡ false = ap (λ (p : Option ℕ). is_number p n) (sym own) ∙ none.0 in grind (arith, nat_tests)) (k.0 c own)), by_all xs none.1 k.1)

pub fit-without : (hs : List Channel) (fs bs : List Entry) (o : Option ℕ) → Fit hs (fs ++ (o, NoChannel) ∷ bs) → Fit hs (fs ++ bs)
fit-without hs fs bs o fit =
    let e : Entry = (o, NoChannel) in
    let rest = each-behind (Fits hs) fs (e ∷ bs) fit.fits in
    record {
      fits = each-append (Fits hs) fs bs (each-front (Fits hs) fs (e ∷ bs) fit.fits) rest.1;
      known = known-without hs fs bs o rest.0 fit.known;
      apart = apart-without fs bs e fit.apart;
    }

pub fit-moved : (hs : List Channel) (fs bs : List Entry) (e : Entry) → Fit hs (fs ++ e ∷ bs) → Fit hs ((fs ++ bs) ++ e ∷ [])
fit-moved hs fs bs e fit =
    let o = others-of fs e bs fit.apart in
    let rest = each-behind (Fits hs) fs (e ∷ bs) fit.fits in
    let same : (fs ++ bs) ++ [] ≡ fs ++ bs = append-nil (fs ++ bs) in
    record {
      fits = each-append (Fits hs) (fs ++ bs) (e ∷ []) (each-append (Fits hs) fs bs (each-front (Fits hs) fs (e ∷ bs) fit.fits) rest.1) (rest.0, tt);
      known = known-of hs (numbers (fs ++ e ∷ bs)) (numbers ((fs ++ bs) ++ e ∷ [])) (λ c h. any-split c fs (e ∷ bs) (any_of (has c) (numbers ((fs ++ bs) ++ e ∷ [])) ≡ true) h
          (λ i. any-front c (fs ++ bs) (e ∷ []) (any-front c fs bs i))
          (λ i. go c (has c e.0) refl i)) fit.known;
      apart = apart-with (fs ++ bs) [] e (each-append (Other e) fs bs o.front o.behind) tt (subst AllOther (sym same) (apart-without fs bs e fit.apart));
    }
  where
    go : (c : ℕ) (b : Bool) → has c e.0 ≡ b → (has c e.0 || any_of (has c) (numbers bs)) ≡ true → any_of (has c) (numbers ((fs ++ bs) ++ e ∷ [])) ≡ true
    go c true h i = any-behind c (fs ++ bs) (e ∷ []) (or-first (has c e.0) false h)
    go c false h i = any-front c (fs ++ bs) (e ∷ []) (any-behind c fs bs (or-other (has c e.0) (any_of (has c) (numbers bs)) h i))

-- ---- an offer comes, and gets a number

offers-none : (hs : List Channel) (s : ℕ) → Each (λ (y : Channel). is_number y.remote s ≡ false) hs → (o : Option ℕ) (v : View) → Fits hs (o, v) → offers-at s v ≡ false
offers-none hs s none o NoChannel fits = refl
offers-none hs s none o IsOpened fits = refl
offers-none hs s none o (IsLive a) fits = refl
offers-none hs s none o (IsOffered r w m) fits = go (r == s) refl
  where
    front-true : (a b : Bool) → (a && b) ≡ true → a ≡ true
    front-true true b h = refl
    front-true false b h = h

    go : (b : Bool) → (r == s) ≡ b → (r == s) ≡ false
    go false h = h
    go true h =
        let x = fits.1.0 in
        let f : Found (offered-at r) x hs = found (offered-at r) x hs fits.1.1 in
        let is : is_number x.remote r ≡ true = front-true (is_number x.remote r) (not (is_up x.by) && not (is_confirmed x)) f.is in
        let same : r ≡ s = grind (arith, nat_tests) in
        let free : is_number x.remote s ≡ false = each-found (λ (y : Channel). is_number y.remote s ≡ false) (offered-at r) x hs fits.1.1 none in
        absurd (let bad : true ≡ false = sym is ∙ subst (λ (i : ℕ). is_number x.remote i ≡ false) (sym same) free in cc)

offered-is : (x : Channel) (s w m : ℕ) → x.remote ≡ Some s → IsFreshDown w m x → offered-at s x ≡ true
offered-is x s w m remote fresh =
    ap (λ (p : Option ℕ). is_number p s && (not (is_up x.by) && not (is_confirmed x))) remote
    ∙ (ap (λ (b : Bool). b && (not (is_up x.by) && not (is_confirmed x))) (same-at s)
    ∙ (ap (λ (side : Side). not (is_up side) && not (is_confirmed x)) fresh.by
    ∙ ap (λ acts. not (any_act is_confirms acts)) fresh.acts))

each-nil : (es : List Entry) → Each (λ f. Each (Other f) []) es
each-nil [] = tt
each-nil (e ∷ es) = (tt, each-nil es)

pub fit-offered : (hs : List Channel) (vs : List Entry) (x : Channel) (s w m : ℕ) → x.remote ≡ Some s → IsFreshDown w m x → Each (λ (y : Channel). is_number y.remote s ≡ false) hs
    → Fit hs vs → Fit (hs ++ x ∷ []) (vs ++ (None, IsOffered s w m) ∷ [])
fit-offered hs vs x s w m remote fresh none fit =
    let e : Entry = (None, IsOffered s w m) in
    let others : Each (Other e) vs = each-of (Fits hs) (Other e) (λ f fits. record {
      number = λ j h. absurd (let bad : false ≡ true = h in cc);
      offer = λ r h. let same : s ≡ r = grind (arith, nat_tests) in subst (λ (i : ℕ). offers-at i f.1 ≡ false) same (offers-none hs s none f.0 f.1 fits);
    }) vs fit.fits in
    let looks = looks-offer x s w m None fresh.own remote in
    let more : Each (Fits (hs ++ x ∷ [])) vs = go looks vs others (subst (λ (l : List Channel). Each (Fits l) vs) (sym (append-nil hs)) fit.fits) in
    record {
      fits = each-append (Fits (hs ++ x ∷ [])) vs (e ∷ []) more
          ((tt, (x, find-at (offered-at s) hs [] x (each-of (λ (y : Channel). is_number y.remote s ≡ false) (λ (y : Channel). offered-at s y ≡ false) (λ y h. ap (λ (b : Bool). b && (not (is_up y.by) && not (is_confirmed y))) h) hs none) (offered-is x s w m remote fresh), fresh)), tt);
      known = each-append (KnownBy (numbers (vs ++ e ∷ []))) hs (x ∷ []) (known-of hs (numbers vs) (numbers (vs ++ e ∷ [])) (λ c. any-front c vs (e ∷ [])) fit.known)
          ((λ c own. absurd (let bad : None ≡ Some c = sym fresh.own ∙ own in cc)), tt);
      apart = all-other vs e [] (record { front = others; behind = tt; fronts = fit.apart; behinds = tt; between = each-nil vs });
    }
  where
    go : LooksAt x (None, IsOffered s w m) → (es : List Entry) → Each (Other (None, IsOffered s w m)) es → Each (Fits (hs ++ [])) es → Each (Fits (hs ++ x ∷ [])) es
    go looks [] o f = tt
    go looks (g ∷ es) o f = (fits-more hs [] x g.0 g.1 (looks g o.0) f.0, go looks es o.1 f.1)

pub fit-named : (hs : List Channel) (fs bs : List Entry) (n s w m : ℕ) → AreFree n fs → AreFree n bs → Fit hs (fs ++ (None, IsOffered s w m) ∷ bs) → Fit hs (fs ++ (Some n, IsOffered s w m) ∷ bs)
fit-named hs fs bs n s w m front behind fit =
    let e : Entry = (None, IsOffered s w m) in
    let e' : Entry = (Some n, IsOffered s w m) in
    let o = others-of fs e bs fit.apart in
    let rest = each-behind (Fits hs) fs (e ∷ bs) fit.fits in
    let free : AreFree n (fs ++ e ∷ bs) = each-append (λ (f : Entry). has n f.0 ≡ false) fs (e ∷ bs) front (refl, behind) in
    record {
      fits = each-append (Fits hs) fs (e' ∷ bs) (each-front (Fits hs) fs (e ∷ bs) fit.fits) ((unowned-free hs n (fs ++ e ∷ bs) free fit.known, rest.0.1), rest.1);
      known = known-of hs (numbers (fs ++ e ∷ bs)) (numbers (fs ++ e' ∷ bs)) (λ c h. any-with c fs bs e' (any-without c fs bs e refl h)) fit.known;
      apart = apart-with fs bs e' (both fs o.front front) (both bs o.behind behind) (apart-without fs bs e fit.apart);
    }
  where
    both : (es : List Entry) → Each (Other (None, IsOffered s w m)) es → AreFree n es → Each (Other (Some n, IsOffered s w m)) es
    both [] a b = tt
    both (f ∷ es) a b = (
      record {
        number = λ j h. let same : n ≡ j = grind (arith, nat_tests) in subst (λ (i : ℕ). has i f.0 ≡ false) same b.0;
        offer = a.0.offer;
      },
      both es a.1 b.1,
    )
