-- The channels of a log stay apart: no two that are not over share a number, a server's number, or
-- a client's own.
use Rattle.std.proofs.Common.{◌≡◌, ℕ, ◌<◌, List, [], ◌∷◌, ◌++◌, true, false, Bool, refl, ◌∙◌, ap, arith, map, sym, Option, Some, None, subst, inl, inr}
use Rattle.std.specs.Prelude.{◌==◌, filter, find, ◌⊎◌}
use Rattle.std.proofs.lemmas.Bool.Decides.{nat_tests}
use Rattle.mux_history.specs.Channels.{Channel, is_channel_held, is_number}
use Rattle.mux_history.specs.Summary.{Confirms}
use Rattle.ssh_grammar.specs.declared.side.Side.TheVariants.{Down, Up}
use Rattle.mux_history.proofs.Finds.{Each, filter-no, filter-yes, find-no, find-yes}
use Rattle.mux_history.proofs.Local.{is_of}
use Rattle.mux_history.proofs.Bools.{same-number}

-- what holds of each channel
pub record Sound (x : Channel) : Type 0 where
  pub client : x.client ≡ 0 → ⊥
  pub owned : (n : ℕ) → x.number ≡ Some n → (c : ℕ) × (x.own ≡ Some c)
  pub small : (c : ℕ) → x.own ≡ Some c → c < 4294967296

-- and of two
pub record ApartFrom (x y : Channel) : Type 0 where
  pub numbers : is_channel_held x ≡ true → is_channel_held y ≡ true → (n : ℕ) → is_number x.number n ≡ true → is_number y.number n ≡ false
  pub remotes : is_channel_held x ≡ true → is_channel_held y ≡ true → (n : ℕ) → is_number x.remote n ≡ true → is_number y.remote n ≡ false
  pub owns : is_channel_held x ≡ true → is_channel_held y ≡ true → (x.client == y.client) ≡ true → (c : ℕ) → is_number x.own c ≡ true → is_number y.own c ≡ false

abbrev pub AllApart : List Channel → Type 0
AllApart [] = Unit {0}
AllApart (x ∷ xs) = Each (ApartFrom x) xs × AllApart xs

pub record AreApart (xs : List Channel) : Type 0 where
  pub each : Each Sound xs
  pub apart : AllApart xs

-- ---- a change that keeps what names a channel

pub record Ids (x y : Channel) : Type 0 where
  pub client : y.client ≡ x.client
  pub number : y.number ≡ x.number
  pub own : y.own ≡ x.own
  pub remote : y.remote ≡ x.remote
  pub held : is_channel_held y ≡ true → is_channel_held x ≡ true

pub ids-self : (x : Channel) → Ids x x
ids-self x = record { client = refl; number = refl; own = refl; remote = refl; held = λ h. h }

pub ids-then : (x y z : Channel) → Ids x y → Ids y z → Ids x z
ids-then x y z a b = record { client = b.client ∙ a.client; number = b.number ∙ a.number; own = b.own ∙ a.own; remote = b.remote ∙ a.remote; held = λ h. a.held (b.held h) }

apart-ids : (x y x' y' : Channel) → Ids x x' → Ids y y' → ApartFrom x y → ApartFrom x' y'
apart-ids x y x' y' a b apart = record {
  numbers = λ h k n e. ap (λ o. is_number o n) b.number ∙ apart.numbers (a.held h) (b.held k) n (sym (ap (λ o. is_number o n) a.number) ∙ e);
  remotes = λ h k n e. ap (λ o. is_number o n) b.remote ∙ apart.remotes (a.held h) (b.held k) n (sym (ap (λ o. is_number o n) a.remote) ∙ e);
  owns = λ h k same c e. ap (λ o. is_number o c) b.own ∙ apart.owns (a.held h) (b.held k) (sym (ap (λ i. i == y'.client) a.client ∙ ap (λ i. x.client == i) b.client) ∙ same) c (sym (ap (λ o. is_number o c) a.own) ∙ e);
}

sound-ids : (x y : Channel) → Ids x y → Sound x → Sound y
sound-ids x y a sound = record {
  client = λ e. sound.client (sym a.client ∙ e);
  owned = λ n e. let s = sound.owned n (sym a.number ∙ e) in (s.0, a.own ∙ s.1);
  small = λ c e. sound.small c (sym a.own ∙ e);
}

-- ---- any change: of two channels, and of all

each-map : (P Q : Channel → Type 0) (g : Channel → Channel) → ((x : Channel) → P x → Q (g x)) → (xs : List Channel) → Each P xs → Each Q (map g xs)
each-map P Q g step [] all = tt
each-map P Q g step (x ∷ xs) all = (step x all.0, each-map P Q g step xs all.1)

pub each-both : (P Q R : Channel → Type 0) → ((x : Channel) → P x → Q x → R x) → (xs : List Channel) → Each P xs → Each Q xs → Each R xs
each-both P Q R step [] a b = tt
each-both P Q R step (x ∷ xs) a b = (step x a.0 b.0, each-both P Q R step xs a.1 b.1)

pub each-of : (P Q : Channel → Type 0) → ((x : Channel) → P x → Q x) → (xs : List Channel) → Each P xs → Each Q xs
each-of P Q step [] a = tt
each-of P Q step (x ∷ xs) a = (step x a.0, each-of P Q step xs a.1)

apart-map : (O : Channel → Type 0) (g : Channel → Channel) → ((x y : Channel) → O x → O y → ApartFrom x y → ApartFrom (g x) (g y)) → (xs : List Channel) → Each O xs → AllApart xs → AllApart (map g xs)
apart-map O g step [] fine apart = tt
apart-map O g step (x ∷ xs) fine apart = (each-map (λ y. O y × ApartFrom x y) (ApartFrom (g x)) g (λ y h. step x y fine.0 h.0 h.1) xs (each-both O (ApartFrom x) (λ y. O y × ApartFrom x y) (λ y a b. (a, b)) xs fine.1 apart.0), apart-map O g step xs fine.1 apart.1)

pub good-ids : (g : Channel → Channel) → ((x : Channel) → Sound x → Ids x (g x)) → (xs : List Channel) → AreApart xs → AreApart (map g xs)
good-ids g ids xs good = record {
  each = each-map Sound Sound g (λ x s. sound-ids x (g x) (ids x s) s) xs good.each;
  apart = apart-map Sound g (λ x y o o' a. apart-ids x y (g x) (g y) (ids x o) (ids y o') a) xs good.each good.apart;
}

-- ---- numbers that no channel has

pub record Unused (n k c : ℕ) (x : Channel) : Type 0 where
  pub number : is_channel_held x ≡ true → is_number x.number n ≡ false
  pub own : is_channel_held x ≡ true → (x.client == k) ≡ true → is_number x.own c ≡ false

abbrev pub NotLive : ℕ → Channel → Type 0
NotLive s x = is_channel_held x ≡ true → is_number x.remote s ≡ false

pub differs : (o : Option ℕ) (n j : ℕ) → is_number o n ≡ false → is_number o j ≡ true → (n == j) ≡ false
differs None n j other same = cc
differs (Some i) n j other same = grind (arith, nat_tests)

flip : (a b k : ℕ) → (a == b) ≡ true → b ≡ k → (a == k) ≡ true
flip a b k same e = subst (λ (i : ℕ). (a == i) ≡ true) e same

flop : (a b k : ℕ) → (a == b) ≡ true → a ≡ k → (b == k) ≡ true
flop a b k same e = grind (arith, nat_tests)

clash : true ≡ false → ⊥
clash e = cc

-- ---- a confirmation up brings a number and the client's own to one channel

abbrev pub brought_up : ℕ → ℕ → ℕ → ℕ → Channel → Channel
brought_up c n w m x = record x { own = Some c; number = Some n; acts = (Up, Confirms w m) ∷ x.acts }

pub record BroughtUp (k c n s w m : ℕ) (x y : Channel) : Type 0 where
  pub client : x.client ≡ k
  pub held : is_channel_held x ≡ true
  pub remote : is_number x.remote s ≡ true
  pub ids : Ids (brought_up c n w m x) y

abbrev pub UpStep : ℕ → ℕ → ℕ → ℕ → ℕ → ℕ → Channel → Channel → Type 0
UpStep k c n s w m x y = Ids x y ⊎ BroughtUp k c n s w m x y

up-apart : (k c n s w m : ℕ) (x y x' y' : Channel) → Unused n k c x → Unused n k c y → UpStep k c n s w m x x' → UpStep k c n s w m y y' → ApartFrom x y → ApartFrom x' y'
up-apart k c n s w m x y x' y' u v (inl a) (inl b) apart = apart-ids x y x' y' a b apart
up-apart k c n s w m x y x' y' u v (inr a) (inl b) apart = apart-ids (brought_up c n w m x) y x' y' a.ids b (record {
  numbers = λ h h' j e. subst (λ (i : ℕ). is_number y.number i ≡ false) (same-number n j e) (v.number h');
  remotes = λ h h' j e. apart.remotes a.held h' j e;
  owns = λ h h' same j e. subst (λ (i : ℕ). is_number y.own i ≡ false) (same-number c j e) (v.own h' (flop x.client y.client k same a.client));
})
up-apart k c n s w m x y x' y' u v (inl a) (inr b) apart = apart-ids x (brought_up c n w m y) x' y' a b.ids (record {
  numbers = λ h h' j e. differs x.number n j (u.number h) e;
  remotes = λ h h' j e. apart.remotes h b.held j e;
  owns = λ h h' same j e. differs x.own c j (u.own h (flip x.client y.client k same b.client)) e;
})
up-apart k c n s w m x y x' y' u v (inr a) (inr b) apart = absurd (clash (sym b.remote ∙ apart.remotes a.held b.held s a.remote))

up-sound : (k c n s w m : ℕ) (x y : Channel) → c < 4294967296 → UpStep k c n s w m x y → Sound x → Sound y
up-sound k c n s w m x y lt (inl a) sound = sound-ids x y a sound
up-sound k c n s w m x y lt (inr a) sound = sound-ids (brought_up c n w m x) y a.ids (record { client = sound.client; owned = λ j e. (c, refl); small = λ j e. let same : c ≡ j = cc in subst (λ (i : ℕ). i < 4294967296) same lt })

pub good-up : (k c n s w m : ℕ) (g : Channel → Channel) → c < 4294967296 → ((x : Channel) → UpStep k c n s w m x (g x)) → (xs : List Channel) → Each (Unused n k c) xs → AreApart xs → AreApart (map g xs)
good-up k c n s w m g lt step xs unused good = record {
  each = each-map Sound Sound g (λ x a. up-sound k c n s w m x (g x) lt (step x) a) xs good.each;
  apart = apart-map (Unused n k c) g (λ x y u v a. up-apart k c n s w m x y (g x) (g y) u v (step x) (step y) a) xs unused good.apart;
}

-- ---- a confirmation down brings the server's number

abbrev pub brought_down : ℕ → ℕ → ℕ → Channel → Channel
brought_down s w m x = record x { remote = Some s; acts = (Down, Confirms w m) ∷ x.acts }

pub record BroughtDown (n s w m : ℕ) (x y : Channel) : Type 0 where
  pub held : is_channel_held x ≡ true
  pub number : is_number x.number n ≡ true
  pub ids : Ids (brought_down s w m x) y

abbrev pub DownStep : ℕ → ℕ → ℕ → ℕ → Channel → Channel → Type 0
DownStep n s w m x y = Ids x y ⊎ BroughtDown n s w m x y

down-apart : (n s w m : ℕ) (x y x' y' : Channel) → NotLive s x → NotLive s y → DownStep n s w m x x' → DownStep n s w m y y' → ApartFrom x y → ApartFrom x' y'
down-apart n s w m x y x' y' u v (inl a) (inl b) apart = apart-ids x y x' y' a b apart
down-apart n s w m x y x' y' u v (inr a) (inl b) apart = apart-ids (brought_down s w m x) y x' y' a.ids b (record {
  numbers = λ h h' j e. apart.numbers a.held h' j e;
  remotes = λ h h' j e. subst (λ (i : ℕ). is_number y.remote i ≡ false) (same-number s j e) (v h');
  owns = λ h h' same j e. apart.owns a.held h' same j e;
})
down-apart n s w m x y x' y' u v (inl a) (inr b) apart = apart-ids x (brought_down s w m y) x' y' a b.ids (record {
  numbers = λ h h' j e. apart.numbers h b.held j e;
  remotes = λ h h' j e. differs x.remote s j (u h) e;
  owns = λ h h' same j e. apart.owns h b.held same j e;
})
down-apart n s w m x y x' y' u v (inr a) (inr b) apart = absurd (clash (sym b.number ∙ apart.numbers a.held b.held n a.number))

down-sound : (n s w m : ℕ) (x y : Channel) → DownStep n s w m x y → Sound x → Sound y
down-sound n s w m x y (inl a) sound = sound-ids x y a sound
down-sound n s w m x y (inr a) sound = sound-ids (brought_down s w m x) y a.ids (record { client = sound.client; owned = sound.owned; small = sound.small })

pub good-down : (n s w m : ℕ) (g : Channel → Channel) → ((x : Channel) → DownStep n s w m x (g x)) → (xs : List Channel) → Each (NotLive s) xs → AreApart xs → AreApart (map g xs)
good-down n s w m g step xs unused good = record {
  each = each-map Sound Sound g (λ x a. down-sound n s w m x (g x) (step x) a) xs good.each;
  apart = apart-map (NotLive s) g (λ x y u v a. down-apart n s w m x y (g x) (g y) u v (step x) (step y) a) xs unused good.apart;
}

-- ---- one more channel

each-end : (P : Channel → Type 0) (xs : List Channel) (z : Channel) → Each P xs → P z → Each P (xs ++ z ∷ [])
each-end P [] z all last = (last, tt)
each-end P (x ∷ xs) z all last = (all.0, each-end P xs z all.1 last)

apart-end : (xs : List Channel) (z : Channel) → AllApart xs → Each (λ x. ApartFrom x z) xs → AllApart (xs ++ z ∷ [])
apart-end [] z apart last = (tt, tt)
apart-end (x ∷ xs) z apart last = (each-end (ApartFrom x) xs z apart.0 last.0, apart-end xs z apart.1 last.1)

pub good-opens : (k c n w m : ℕ) (xs : List Channel) → (k ≡ 0 → ⊥) → c < 4294967296 → Each (Unused n k c) xs → AreApart xs → AreApart (xs ++ record { client = k; by = Up; own = Some c; number = Some n; remote = None; window = w; maximum = m; acts = [] } ∷ [])
good-opens k c n w m xs real lt unused good = record {
  each = each-end Sound xs _ good.each (record { client = real; owned = λ j e. (c, refl); small = λ j e. let same : c ≡ j = cc in subst (λ (i : ℕ). i < 4294967296) same lt });
  apart = apart-end xs _ good.apart (each-of (Unused n k c) (λ x. ApartFrom x _) (λ x u. record { numbers = λ h h' j e. differs x.number n j (u.number h) e; remotes = λ h h' j e. refl; owns = λ h h' same j e. differs x.own c j (u.own h same) e }) xs unused);
}

pub good-offers : (k s w m : ℕ) (xs : List Channel) → (k ≡ 0 → ⊥) → Each (NotLive s) xs → AreApart xs → AreApart (xs ++ record { client = k; by = Down; own = None; number = None; remote = Some s; window = w; maximum = m; acts = [] } ∷ [])
good-offers k s w m xs real unused good = record {
  each = each-end Sound xs _ good.each (record { client = real; owned = λ j e. cc; small = λ j e. cc });
  apart = apart-end xs _ good.apart (each-of (NotLive s) (λ x. ApartFrom x _) (λ x u. record { numbers = λ h h' j e. refl; remotes = λ h h' j e. differs x.remote s j (u h) e; owns = λ h h' same j e. refl }) xs unused);
}

-- ---- look-ups that found nothing

pub find-none : (test : Channel → Bool) (xs : List Channel) → find test (filter is_channel_held xs) ≡ None → Each (λ x. is_channel_held x ≡ true → test x ≡ false) xs
find-none test [] none = tt
find-none test (x ∷ xs) none = by_case (λ h. find-none test xs h) (is_channel_held x) refl (test x) refl
  where
    by_case : (find test (filter is_channel_held xs) ≡ None → Each (λ x. is_channel_held x ≡ true → test x ≡ false) xs) → (b : Bool) → is_channel_held x ≡ b → (t : Bool) → test x ≡ t → Each (λ x. is_channel_held x ≡ true → test x ≡ false) (x ∷ xs)
    by_case ih false e t e' = (λ h. absurd (clash (sym h ∙ e)), ih (sym (ap (find test) (filter-no is_channel_held x xs e)) ∙ none))
    by_case ih true e false e' = (λ h. e', ih (sym (ap (find test) (filter-yes is_channel_held x xs e) ∙ find-no test x (filter is_channel_held xs) e') ∙ none))
    by_case ih true e true e' = let found : find test (filter is_channel_held (x ∷ xs)) ≡ Some x = ap (find test) (filter-yes is_channel_held x xs e) ∙ find-yes test x (filter is_channel_held xs) e' in let bad : Some x ≡ None = sym found ∙ none in cc

-- the same in a part of the list
pub filter-each : (k : ℕ) (P : Channel → Type 0) (xs : List Channel) → Each P (filter (is_of k) xs) → Each (λ x. (x.client == k) ≡ true → P x) xs
filter-each k P [] all = tt
filter-each k P (x ∷ xs) all = by_case (λ h. filter-each k P xs h) (x.client == k) refl
  where
    by_case : (Each P (filter (is_of k) xs) → Each (λ x. (x.client == k) ≡ true → P x) xs) → (b : Bool) → (x.client == k) ≡ b → Each (λ x. (x.client == k) ≡ true → P x) (x ∷ xs)
    by_case ih true e = let h : Each P (x ∷ filter (is_of k) xs) = subst (Each P) (filter-yes (is_of k) x xs e) all in (λ same. h.0, ih h.1)
    by_case ih false e = (λ same. absurd (clash (sym same ∙ e)), ih (subst (Each P) (filter-no (is_of k) x xs e) all))

pub each-filter : (k : ℕ) (P : Channel → Type 0) (xs : List Channel) → Each P xs → Each P (filter (is_of k) xs)
each-filter k P [] all = tt
each-filter k P (x ∷ xs) all = by_case (each-filter k P xs all.1) (x.client == k) refl
  where
    by_case : Each P (filter (is_of k) xs) → (b : Bool) → (x.client == k) ≡ b → Each P (filter (is_of k) (x ∷ xs))
    by_case ih true e = subst (Each P) (sym (filter-yes (is_of k) x xs e)) (all.0, ih)
    by_case ih false e = subst (Each P) (sym (filter-no (is_of k) x xs e)) ih

-- the first of all that passes, where it is the client's, is the first of the client's
pub find-of : (k : ℕ) (test : Channel → Bool) (x : Channel) (xs : List Channel) → find test (filter is_channel_held xs) ≡ Some x → (x.client == k) ≡ true → find test (filter is_channel_held (filter (is_of k) xs)) ≡ Some x
find-of k test x [] found mine = found
find-of k test x (y ∷ ys) found mine = by_case (λ h. find-of k test x ys h mine) (y.client == k) refl (is_channel_held y) refl (test y) refl
  where
    by_case : (find test (filter is_channel_held ys) ≡ Some x → find test (filter is_channel_held (filter (is_of k) ys)) ≡ Some x) → (a : Bool) → (y.client == k) ≡ a → (b : Bool) → is_channel_held y ≡ b → (t : Bool) → test y ≡ t → find test (filter is_channel_held (filter (is_of k) (y ∷ ys))) ≡ Some x
    by_case ih false e false f t g = ap (λ zs. find test (filter is_channel_held zs)) (filter-no (is_of k) y ys e) ∙ ih (sym (ap (find test) (filter-no is_channel_held y ys f)) ∙ found)
    by_case ih true e false f t g = ap (λ zs. find test (filter is_channel_held zs)) (filter-yes (is_of k) y ys e) ∙ (ap (find test) (filter-no is_channel_held y (filter (is_of k) ys) f) ∙ ih (sym (ap (find test) (filter-no is_channel_held y ys f)) ∙ found))
    by_case ih false e true f false g = ap (λ zs. find test (filter is_channel_held zs)) (filter-no (is_of k) y ys e) ∙ ih (sym (ap (find test) (filter-yes is_channel_held y ys f) ∙ find-no test y (filter is_channel_held ys) g) ∙ found)
    by_case ih true e true f false g = ap (λ zs. find test (filter is_channel_held zs)) (filter-yes (is_of k) y ys e) ∙ (ap (find test) (filter-yes is_channel_held y (filter (is_of k) ys) f) ∙ (find-no test y (filter is_channel_held (filter (is_of k) ys)) g ∙ ih (sym (ap (find test) (filter-yes is_channel_held y ys f) ∙ find-no test y (filter is_channel_held ys) g) ∙ found)))
    by_case ih true e true f true g = ap (λ zs. find test (filter is_channel_held zs)) (filter-yes (is_of k) y ys e) ∙ (ap (find test) (filter-yes is_channel_held y (filter (is_of k) ys) f) ∙ (find-yes test y (filter is_channel_held (filter (is_of k) ys)) g ∙ (sym (ap (find test) (filter-yes is_channel_held y ys f) ∙ find-yes test y (filter is_channel_held ys) g) ∙ found)))
    by_case ih false e true f true g =
        let here : find test (filter is_channel_held (y ∷ ys)) ≡ Some y = ap (find test) (filter-yes is_channel_held y ys f) ∙ find-yes test y (filter is_channel_held ys) g in
        let same : Some y ≡ Some x = sym here ∙ found in
        let eq : y ≡ x = cc in
        absurd (clash (sym mine ∙ (ap (λ (z : Channel). z.client == k) (sym eq) ∙ e)))
