-- One entry of the table altered, its numbers too.
use Rattle.std.proofs.Common.{◌≡◌, ◌<◌, ℕ, List, [], ◌∷◌, length, map, true, false, Bool, refl, ◌∙◌, ap, sym, subst, arith, suc}
use Rattle.std.specs.Prelude.{filter, ◌==◌, ◌&&◌}
use Rattle.std.specs.List.{AllByRecursion}
use Rattle.std.proofs.lemmas.Bool.Decides.{nat_tests}
use Rattle.mux_history.specs.declared.limits.TheConstants.{NUMBERS_END}
use Rattle.mux_history.specs.Channels.{Channel, is_channel_held, is_number}
use Rattle.mux_history.proofs.Bools.{same-number}
use Rattle.mux_history.proofs.Finds.{filter-no, filter-yes}
use Rattle.window_ledger.specs.declared.ledger.Ledger.{Ledger}
use Rattle.channel_table.specs.Entries.{TableEntry}
use Rattle.channel_table.specs.Entries.{AreApart, AreTwo, at_number, changed_at, channel_count_of, has_own, has_remote, is_channel_of}
use Rattle.channel_table.specs.Stands.{ChannelsFit, EntryFits}
use Rattle.mux_core.specs.Stands.{HasSmall, TableFits, is_whole}
use Rattle.mux_core.proofs.Confirms.{confirm_own, confirm_remote}
use Rattle.mux_core.proofs.Apart.{Alone}
use Rattle.channel_table.proofs.EntryFits.{Goes, changed-fit}

pub at-it : (n : ℕ) (h : TableEntry → TableEntry) (e : TableEntry) → (e.number == n) ≡ true → at_number n h e ≡ h e
at-it n h e p = rw (p, at_number) refl

pub at-other : (n : ℕ) (h : TableEntry → TableEntry) (e : TableEntry) → (e.number == n) ≡ false → at_number n h e ≡ e
at-other n h e p = rw (p, at_number) refl

keep-all : (es : List TableEntry) → filter (λ _. true) es ≡ es
keep-all [] = refl
keep-all (e ∷ es) = ap (λ fs. e ∷ fs) (keep-all es)

-- a fact of all but one stays
all-altered : (P : TableEntry → Type 0) (r : TableEntry → Bool) (h : TableEntry → TableEntry) (e0 : TableEntry) → P (h e0) → (es : List TableEntry) → AllByRecursion (Alone r e0) es → AllByRecursion P es → AllByRecursion P (changed_at e0.number h es)
all-altered P r h e0 here [] one all = tt
all-altered P r h e0 here (e ∷ es) one all = (by_number (e.number == e0.number) refl, all-altered P r h e0 here es one.1 all.1)
  where
    by_number : (b : Bool) → (e.number == e0.number) ≡ b → P (at_number e0.number h e)
    by_number true p = subst P (sym (at-it e0.number h e p)) (subst (λ f. P (h f)) (sym (one.0.same p)) here)
    by_number false p = subst P (sym (at-other e0.number h e p)) all.0

count-altered : (f : TableEntry → TableEntry) → ((e : TableEntry) → (f e).channel.client ≡ e.channel.client) → (k : ℕ) (es : List TableEntry) → channel_count_of (map f es) k ≡ channel_count_of es k
count-altered f keeps k [] = refl
count-altered f keeps k (e ∷ es) = by_case (count-altered f keeps k es) (is_channel_of k e) refl
  where
    mine : is_channel_of k (f e) ≡ is_channel_of k e
    mine = ap (λ i. i == k) (keeps e)

    by_case : channel_count_of (map f es) k ≡ channel_count_of es k → (b : Bool) → is_channel_of k e ≡ b → channel_count_of (map f (e ∷ es)) k ≡ channel_count_of (e ∷ es) k
    by_case ih true h = ap length (filter-yes (is_channel_of k) (f e) (map f es) (mine ∙ h)) ∙ (ap (λ n. suc n) ih ∙ sym (ap length (filter-yes (is_channel_of k) e es h)))
    by_case ih false h = ap length (filter-no (is_channel_of k) (f e) (map f es) (mine ∙ h)) ∙ (ih ∙ sym (ap length (filter-no (is_channel_of k) e es h)))

-- P: what is known of each entry besides
pub altered-table : (P : TableEntry → Type 0) (r : TableEntry → Bool) (h : TableEntry → TableEntry) (g : Channel → Channel) (e0 : TableEntry) (es : List TableEntry) (xs : List Channel)
    → ((x : Channel) → EntryFits e0 x → EntryFits (h e0) (g x)) → ((e : TableEntry) (x : Channel) → P e → EntryFits e x → r e ≡ false → g x ≡ x)
    → ((e : TableEntry) → (h e).channel.client ≡ e.channel.client) → (h e0).number ≡ e0.number → is_whole (h e0) ≡ true → HasSmall (h e0)
    → AreApart (changed_at e0.number h es) → AllByRecursion P es → AllByRecursion (Alone r e0) es → TableFits es xs → TableFits (changed_at e0.number h es) (filter is_channel_held (map g xs))
altered-table P r h g e0 es xs it others client number whole small apart known one fits = record {
  fit = subst (λ ys. ChannelsFit ys (filter is_channel_held (map g xs))) (keep-all (changed_at e0.number h es)) (changed-fit (λ e. P e × Alone r e0 e) (λ _. true) (at_number e0.number h) g goes es xs (pairs es known one) fits.fit);
  apart = apart;
  few = λ k. let a = count-altered (at_number e0.number h) keeps k es in let b = fits.few k in omega arith;
  whole = all-altered (λ e. is_whole e ≡ true) r h e0 whole es one fits.whole;
  small = all-altered HasSmall r h e0 small es one fits.small;
  below = under es one fits.below;
}
  where
    pairs : (fs : List TableEntry) → AllByRecursion P fs → AllByRecursion (Alone r e0) fs → AllByRecursion (λ e. P e × Alone r e0 e) fs
    pairs [] a b = tt
    pairs (f ∷ fs) a b = ((a.0, b.0), pairs fs a.1 b.1)

    keeps : (e : TableEntry) → (at_number e0.number h e).channel.client ≡ e.channel.client
    keeps e = by_number (e.number == e0.number) refl
      where
        by_number : (b : Bool) → (e.number == e0.number) ≡ b → (at_number e0.number h e).channel.client ≡ e.channel.client
        by_number true p = ap (λ (f : TableEntry). f.channel.client) (at-it e0.number h e p) ∙ client e
        by_number false p = ap (λ (f : TableEntry). f.channel.client) (at-other e0.number h e p)

    under : (fs : List TableEntry) → AllByRecursion (Alone r e0) fs → AllByRecursion (λ e. e.number < NUMBERS_END) fs → AllByRecursion (λ e. e.number < NUMBERS_END) (changed_at e0.number h fs)
    under [] a b = tt
    under (f ∷ fs) a b = (by_number (f.number == e0.number) refl, under fs a.1 b.1)
      where
        by_number : (c : Bool) → (f.number == e0.number) ≡ c → (at_number e0.number h f).number < NUMBERS_END
        by_number true p = subst (λ n. n < NUMBERS_END) (sym (ap (λ (g : TableEntry). g.number) (at-it e0.number h f p) ∙ (ap (λ (g : TableEntry). (h g).number) (a.0.same p) ∙ (number ∙ sym (ap (λ (g : TableEntry). g.number) (a.0.same p)))))) b.0
        by_number false p = subst (λ n. n < NUMBERS_END) (sym (ap (λ (g : TableEntry). g.number) (at-other e0.number h f p))) b.0

    goes : (e : TableEntry) (x : Channel) → P e × Alone r e0 e → EntryFits e x → Goes (λ _. true) (at_number e0.number h e) (g x)
    goes e x both fit = by_number (e.number == e0.number) refl
      where
        by_number : (b : Bool) → (e.number == e0.number) ≡ b → Goes (λ _. true) (at_number e0.number h e) (g x)
        by_number true p = record {
          stays = λ _. subst (λ f. EntryFits f (g x)) (sym (at-it e0.number h e p ∙ ap h (both.1.same p))) (it x (subst (λ f. EntryFits f x) (both.1.same p) fit));
          gone = λ s. absurd (cc);
        }
        by_number false p = record {
          stays = λ _. subst (λ f. EntryFits f (g x)) (sym (at-other e0.number h e p)) (subst (EntryFits e) (sym (others e x both.0 fit (both.1.test ∙ p))) fit);
          gone = λ s. absurd (cc);
        }

-- ---- apart

apart-all : (P : TableEntry → Type 0) (f : TableEntry → TableEntry) → ((a b : TableEntry) → P a → P b → AreTwo a b → AreTwo (f a) (f b)) → (es : List TableEntry) → AllByRecursion P es → AreApart es → AreApart (map f es)
apart-all P f each [] all apart = tt
apart-all P f each (e ∷ es) all apart = (others es all.1 apart.0, apart-all P f each es all.1 apart.1)
  where
    others : (fs : List TableEntry) → AllByRecursion P fs → AllByRecursion (AreTwo e) fs → AllByRecursion (AreTwo (f e)) (map f fs)
    others [] a t = tt
    others (g ∷ gs) a t = (each e g all.0 a.0 t.0, others gs a.1 t.1)

clash : (a b n : ℕ) → (a == n) ≡ true → (b == n) ≡ true → (a == b) ≡ false → ⊥
clash a b n p q r = grind (arith, nat_tests)

-- with a number of the server that no entry has
pub apart-remote : (n s : ℕ) (l : Ledger) (es : List TableEntry) → AllByRecursion (λ e. has_remote s e ≡ false) es → AreApart es → AreApart (changed_at n (confirm_remote s l) es)
apart-remote n s l es free apart = apart-all (λ e. has_remote s e ≡ false) (at_number n (confirm_remote s l)) two es free apart
  where
    keep : {A : Type 0} (f : TableEntry → A) (e : TableEntry) → f (confirm_remote s l e) ≡ f e → f (at_number n (confirm_remote s l) e) ≡ f e
    keep {A} f e same = by_number (e.number == n) refl
      where
        by_number : (b : Bool) → (e.number == n) ≡ b → f (at_number n (confirm_remote s l) e) ≡ f e
        by_number true p = ap f (at-it n (confirm_remote s l) e p) ∙ same
        by_number false p = ap f (at-other n (confirm_remote s l) e p)

    two : (a b : TableEntry) → has_remote s a ≡ false → has_remote s b ≡ false → AreTwo a b → AreTwo (at_number n (confirm_remote s l) a) (at_number n (confirm_remote s l) b)
    two a b fa fb t = record {
      number = ap (λ i. i == (at_number n (confirm_remote s l) b).number) (keep (λ e. e.number) a refl) ∙ (ap (λ i. a.number == i) (keep (λ e. e.number) b refl) ∙ t.number);
      remote = λ u h. by_numbers u (a.number == n) refl (b.number == n) refl h;
      own = λ c same h. ap (λ o. is_number o c) (keep (λ e. e.channel.own) b refl) ∙ t.own c (sym (ap (λ i. i == (at_number n (confirm_remote s l) b).channel.client) (keep (λ e. e.channel.client) a refl) ∙ ap (λ i. a.channel.client == i) (keep (λ e. e.channel.client) b refl)) ∙ same) (sym (ap (λ o. is_number o c) (keep (λ e. e.channel.own) a refl)) ∙ h);
    }
      where
        by_numbers : (u : ℕ) (x : Bool) → (a.number == n) ≡ x → (y : Bool) → (b.number == n) ≡ y → is_number (at_number n (confirm_remote s l) a).channel.remote u ≡ true → is_number (at_number n (confirm_remote s l) b).channel.remote u ≡ false
        by_numbers u true p true q h = absurd (clash a.number b.number n p q t.number)
        by_numbers u true p false q h =
            let same : s ≡ u = same-number s u (sym (ap (λ (e : TableEntry). is_number e.channel.remote u) (at-it n (confirm_remote s l) a p)) ∙ h) in
            ap (λ (e : TableEntry). is_number e.channel.remote u) (at-other n (confirm_remote s l) b q) ∙ subst (λ i. is_number b.channel.remote i ≡ false) same fb
        by_numbers u false p true q h = ap (λ (e : TableEntry). is_number e.channel.remote u) (at-it n (confirm_remote s l) b q) ∙ by_same (s == u) refl
          where
            there : is_number a.channel.remote u ≡ true
            there = sym (ap (λ (e : TableEntry). is_number e.channel.remote u) (at-other n (confirm_remote s l) a p)) ∙ h

            by_same : (z : Bool) → (s == u) ≡ z → (s == u) ≡ false
            by_same true e = absurd (let c : is_number a.channel.remote u ≡ false = subst (λ i. is_number a.channel.remote i ≡ false) (same-number s u e) fa in let d = sym there ∙ c in cc)
            by_same false e = e
        by_numbers u false p false q h = ap (λ (e : TableEntry). is_number e.channel.remote u) (at-other n (confirm_remote s l) b q) ∙ t.remote u (sym (ap (λ (e : TableEntry). is_number e.channel.remote u) (at-other n (confirm_remote s l) a p)) ∙ h)

-- what is known of each where the client of one entry gets a number
pub record TakesOwn (n k c : ℕ) (e : TableEntry) : Type 0 where
  pub free : has_own k c e ≡ false
  pub mine : (e.number == n) ≡ true → (e.channel.client == k) ≡ true

-- with a number that its client uses for no other
pub apart-own : (n k c : ℕ) (l : Ledger) (es : List TableEntry) → AllByRecursion (TakesOwn n k c) es → AreApart es → AreApart (changed_at n (confirm_own c l) es)
apart-own n k c l es free apart = apart-all (TakesOwn n k c) (at_number n (confirm_own c l)) two es free apart
  where
    keep : {A : Type 0} (f : TableEntry → A) (e : TableEntry) → f (confirm_own c l e) ≡ f e → f (at_number n (confirm_own c l) e) ≡ f e
    keep {A} f e same = by_number (e.number == n) refl
      where
        by_number : (b : Bool) → (e.number == n) ≡ b → f (at_number n (confirm_own c l) e) ≡ f e
        by_number true p = ap f (at-it n (confirm_own c l) e p) ∙ same
        by_number false p = ap f (at-other n (confirm_own c l) e p)

    unused : (e : TableEntry) → TakesOwn n k c e → (e.channel.client == k) ≡ true → is_number e.channel.own c ≡ false
    unused e t mine = sym (ap (λ b. b && is_number e.channel.own c) mine) ∙ t.free

    two : (a b : TableEntry) → TakesOwn n k c a → TakesOwn n k c b → AreTwo a b → AreTwo (at_number n (confirm_own c l) a) (at_number n (confirm_own c l) b)
    two a b fa fb t = record {
      number = ap (λ i. i == (at_number n (confirm_own c l) b).number) (keep (λ e. e.number) a refl) ∙ (ap (λ i. a.number == i) (keep (λ e. e.number) b refl) ∙ t.number);
      remote = λ u h. ap (λ o. is_number o u) (keep (λ e. e.channel.remote) b refl) ∙ t.remote u (sym (ap (λ o. is_number o u) (keep (λ e. e.channel.remote) a refl)) ∙ h);
      own = λ d same h. by_numbers d (sym (ap (λ i. i == (at_number n (confirm_own c l) b).channel.client) (keep (λ e. e.channel.client) a refl) ∙ ap (λ i. a.channel.client == i) (keep (λ e. e.channel.client) b refl)) ∙ same) (a.number == n) refl (b.number == n) refl h;
    }
      where
        by_numbers : (d : ℕ) → (a.channel.client == b.channel.client) ≡ true → (x : Bool) → (a.number == n) ≡ x → (y : Bool) → (b.number == n) ≡ y → is_number (at_number n (confirm_own c l) a).channel.own d ≡ true → is_number (at_number n (confirm_own c l) b).channel.own d ≡ false
        by_numbers d same true p true q h = absurd (clash a.number b.number n p q t.number)
        by_numbers d same true p false q h =
            let at : c ≡ d = same-number c d (sym (ap (λ (e : TableEntry). is_number e.channel.own d) (at-it n (confirm_own c l) a p)) ∙ h) in
            let mine : (b.channel.client == k) ≡ true = ap (λ i. i == k) (sym (same-number a.channel.client b.channel.client same)) ∙ fa.mine p in
            ap (λ (e : TableEntry). is_number e.channel.own d) (at-other n (confirm_own c l) b q) ∙ subst (λ i. is_number b.channel.own i ≡ false) at (unused b fb mine)
        by_numbers d same false p true q h = ap (λ (e : TableEntry). is_number e.channel.own d) (at-it n (confirm_own c l) b q) ∙ by_same (c == d) refl
          where
            there : is_number a.channel.own d ≡ true
            there = sym (ap (λ (e : TableEntry). is_number e.channel.own d) (at-other n (confirm_own c l) a p)) ∙ h

            mine : (a.channel.client == k) ≡ true
            mine = ap (λ i. i == k) (same-number a.channel.client b.channel.client same) ∙ fb.mine q

            by_same : (z : Bool) → (c == d) ≡ z → (c == d) ≡ false
            by_same true e = absurd (let f : is_number a.channel.own d ≡ false = subst (λ i. is_number a.channel.own i ≡ false) (same-number c d e) (unused a fa mine) in let g = sym there ∙ f in cc)
            by_same false e = e
        by_numbers d same false p false q h = ap (λ (e : TableEntry). is_number e.channel.own d) (at-other n (confirm_own c l) b q) ∙ t.own d same (sym (ap (λ (e : TableEntry). is_number e.channel.own d) (at-other n (confirm_own c l) a p)) ∙ h)
