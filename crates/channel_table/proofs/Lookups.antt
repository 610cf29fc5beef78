-- What two look-ups, one after the other, find.
use Rattle.std.proofs.Common.{◌≡◌, ℕ, Bool, true, false, List, [], ◌∷◌, refl, ap, sym, ◌∙◌, subst}
use Rattle.std.specs.Prelude.{Option, Some, None, find, is_some, option_map}
use Rattle.std.specs.List.{AllByRecursion}
use Rattle.std.proofs.lemmas.Bool.{eq-eqb, eqb-false, eqb-true, ne_eqb}
use Rattle.std.proofs.lemmas.Option.{none-some, same_Some}
use Rattle.channel_table.specs.declared.channel.Channel.{Channel}
use Rattle.channel_table.specs.Entries.{AreApart, AreTwo, TableEntry, admitted_at, channel_at, has_remote, holder_of, is_at, is_shown, number_of_remote, shown_at}

pub some-none : {A : Type 0} (o : Option A) → is_some o ≡ false → o ≡ None
some-none None e = refl
some-none (Some a) e = cc

-- no channel after one has its number
pub none-behind : (x : TableEntry) (xs : List TableEntry) → AllByRecursion (AreTwo x) xs → find (is_at x.number) xs ≡ None
none-behind x [] all = refl
none-behind x (y ∷ ys) all =
    let ne : is_at x.number y ≡ false = ne_eqb y.number x.number (λ e. eqb-false x.number y.number all.0.number (sym e)) in
    rw ne (none-behind x ys all.1)

-- the first one that passes a test is found under its number
pub found-under : (p : TableEntry → Bool) (xs : List TableEntry) (x : TableEntry) → AreApart xs → find p xs ≡ Some x → find (is_at x.number) xs ≡ Some x
found-under p [] x apart f = absurd (none-some x f)
found-under p (y ∷ ys) x apart f = by (p y) refl (found-under p ys x apart.1)
  where
    by : (b : Bool) → p y ≡ b → (find p ys ≡ Some x → find (is_at x.number) ys ≡ Some x) → find (is_at x.number) (y ∷ ys) ≡ Some x
    by true e ih =
        let same : y ≡ x = same_Some y x (rw e at f) in
        rw (eq-eqb y.number x.number (ap (λ (z : TableEntry). z.number) same)) (ap Some same)
    by false e ih =
        let rest = ih (rw e at f) in
        let ne : is_at x.number y ≡ false = ne_eqb y.number x.number (λ q. none-some x (sym (none-behind y ys apart.0) ∙ (ap (λ i. find (is_at i) ys) q ∙ rest))) in
        rw ne rest

-- ---- the channel for which a number stands

abbrev pub if_shown : Option Channel → Option Channel
if_shown None = None
if_shown (Some c) = elim (is_shown c) [ true ↦ Some c | false ↦ None ]

none-shown : (n : ℕ) (xs : List TableEntry) → find (is_at n) xs ≡ None → find (shown_at n) xs ≡ None
none-shown n [] none = refl
none-shown n (y ∷ ys) none = by (is_at n y) refl (none-shown n ys)
  where
    by : (b : Bool) → is_at n y ≡ b → (find (is_at n) ys ≡ None → find (shown_at n) ys ≡ None) → find (shown_at n) (y ∷ ys) ≡ None
    by true e ih = absurd (none-some y (sym none ∙ rw e refl))
    by false e ih = rw e (ih (rw e at none))

pub shown-lookup : (xs : List TableEntry) (n : ℕ) → AreApart xs → channel_at xs n ≡ if_shown (admitted_at xs n)
shown-lookup [] n apart = refl
shown-lookup (y ∷ ys) n apart = by (is_at n y) refl (is_shown y.channel) refl (shown-lookup ys n apart.1)
  where
    by : (b : Bool) → is_at n y ≡ b → (c : Bool) → is_shown y.channel ≡ c → channel_at ys n ≡ if_shown (admitted_at ys n) → channel_at (y ∷ ys) n ≡ if_shown (admitted_at (y ∷ ys) n)
    by true e true f ih = rw (e, f, if_shown) refl
    by true e false f ih =
        let none : find (is_at n) ys ≡ None = subst (λ i. find (is_at i) ys ≡ None) (eqb-true y.number n e) (none-behind y ys apart.0) in
        rw (e, f, if_shown) (ap (option_map (λ (z : TableEntry). z.channel)) (none-shown n ys none))
    by false e c f ih = rw e ih

-- ---- the client whose channel the server names so

abbrev client_in : Option TableEntry → Option ℕ
client_in o = option_map (λ (x : TableEntry). x.channel.client) o

pub holder-found : (xs : List TableEntry) (s n : ℕ) → AreApart xs → Some n ≡ number_of_remote xs s → holder_of xs s ≡ option_map (λ (c : Channel). c.client) (admitted_at xs n)
holder-found xs s n apart e = by (find (has_remote s) xs) refl
  where
    by : (o : Option TableEntry) → find (has_remote s) xs ≡ o → client_in (find (has_remote s) xs) ≡ option_map (λ (c : Channel). c.client) (admitted_at xs n)
    by None f = absurd (none-some n (sym (e ∙ ap (option_map (λ (x : TableEntry). x.number)) f)))
    by (Some x) f =
        let number : x.number ≡ n = same_Some x.number n (sym (e ∙ ap (option_map (λ (x : TableEntry). x.number)) f)) in
        let under : find (is_at n) xs ≡ Some x = subst (λ i. find (is_at i) xs ≡ Some x) number (found-under (has_remote s) xs x apart f) in
        ap client_in f ∙ sym (ap (λ o. option_map (λ (c : Channel). c.client) (option_map (λ (z : TableEntry). z.channel) o)) under)
