-- In a table no number names two channels.
use Rattle.std.proofs.Common.{◌≡◌, ◌≢◌, ℕ, Bool, true, false, List, [], ◌∷◌, refl, ap, sym, ◌∙◌, subst}
use Rattle.std.specs.Prelude.{Option, Some, None, ◌==◌}
use Rattle.std.specs.List.{AllByRecursion}
use Rattle.std.proofs.lemmas.Bool.{and_from, eq-eqb, ne_eqb}
use Rattle.std.proofs.lemmas.Option.{none-some, same_Some}
use Rattle.indexmap.specs.IndexMap.{IndexMap}
use Rattle.mux_history.specs.Channels.{is_number}
use Rattle.channel_table.specs.Entries.{AreApart, AreSound, AreTwo, TableEntry, entry_at, has_own, is_at}
use Rattle.channel_table.specs.Indices.{ChannelNumbers, Agrees, AreDistinct, owner_at, owner_in, remote_at, remote_in}
use Rattle.channel_table.proofs.Agree.{own-named, remote-named}

-- each is found under its number
each-at : (xs : List TableEntry) → AreDistinct xs → AllByRecursion (λ x. entry_at xs x.number ≡ Some x) xs
each-at [] d = tt
each-at (y ∷ ys) d = (rw (eq-eqb y.number y.number refl) refl, later ys (each-at ys d.1))
  where
    later : (zs : List TableEntry) → AllByRecursion (λ x. entry_at ys x.number ≡ Some x) zs → AllByRecursion (λ x. entry_at (y ∷ ys) x.number ≡ Some x) zs
    later [] all = tt
    later (z ∷ zs) all =
        let ne : is_at z.number y ≡ false = ne_eqb y.number z.number (λ e. none-some z (sym (subst (λ i. entry_at ys i ≡ None) e d.0) ∙ all.0)) in
        (rw ne all.0, later zs all.1)

-- two numbers are one where they represent one name
abbrev AreOne : {Q : Type 0} → (List TableEntry → ℕ → Option Q) → List TableEntry → Type 0
AreOne {Q} name xs = (n m : ℕ) (q : Q) → name xs n ≡ Some q → name xs m ≡ Some q → n ≡ m

-- one channel and the others after it
two-all : (x : TableEntry) (xs ys : List TableEntry) → entry_at xs x.number ≡ Some x → AreOne owner_at xs → AreOne remote_at xs → AllByRecursion (λ y. (entry_at xs y.number ≡ Some y) × (x.number ≢ y.number)) ys → AllByRecursion (AreTwo x) ys
two-all x xs [] at owners remotes all = tt
two-all x xs (y ∷ ys) at owners remotes all = (two, two-all x xs ys at owners remotes all.1)
  where
    remote : (s : ℕ) → is_number x.channel.remote s ≡ true → (b : Bool) → is_number y.channel.remote s ≡ b → is_number y.channel.remote s ≡ false
    remote s h true e = absurd (all.0.1 (remotes x.number y.number s (ap remote_in at ∙ remote-named s x h) (ap remote_in all.0.0 ∙ remote-named s y e)))
    remote s h false e = e

    own : (c : ℕ) → (x.channel.client == y.channel.client) ≡ true → is_number x.channel.own c ≡ true → (b : Bool) → is_number y.channel.own c ≡ b → is_number y.channel.own c ≡ false
    own c same h true e =
        let k = y.channel.client in
        let mine : has_own k c x ≡ true = and_from (x.channel.client == k) (is_number x.channel.own c) same h in
        let theirs : has_own k c y ≡ true = and_from (k == k) (is_number y.channel.own c) (eq-eqb k k refl) e in
        absurd (all.0.1 (owners x.number y.number (k, c) (ap owner_in at ∙ own-named k c x mine) (ap owner_in all.0.0 ∙ own-named k c y theirs)))
    own c same h false e = e

    two : AreTwo x y
    two = record {
      number = ne_eqb x.number y.number all.0.1;
      remote = λ s h. remote s h (is_number y.channel.remote s) refl;
      own = λ c same h. own c same h (is_number y.channel.own c) refl;
    }

-- the channels after one have other numbers
behind : (x : TableEntry) (xs ys : List TableEntry) → entry_at xs x.number ≡ None → AllByRecursion (λ y. entry_at xs y.number ≡ Some y) ys → AllByRecursion (λ y. (entry_at (x ∷ xs) y.number ≡ Some y) × (x.number ≢ y.number)) ys
behind x xs [] none all = tt
behind x xs (y ∷ ys) none all =
    let ne : x.number ≢ y.number = λ e. none-some y (sym (subst (λ i. entry_at xs i ≡ None) e none) ∙ all.0) in
    ((rw (ne_eqb x.number y.number ne) all.0, ne), behind x xs ys none all.1)

-- the same without the first channel
under : (x : TableEntry) (xs : List TableEntry) (n : ℕ) (y : TableEntry) → entry_at xs x.number ≡ None → entry_at xs n ≡ Some y → entry_at (x ∷ xs) n ≡ entry_at xs n
under x xs n y none at =
    let ne : is_at n x ≡ false = ne_eqb x.number n (λ e. none-some y (sym (subst (λ i. entry_at xs i ≡ None) e none) ∙ at)) in rw ne refl

one-tail : {Q : Type 0} (name : Option TableEntry → Option Q) → name None ≡ None → (x : TableEntry) (xs : List TableEntry) → entry_at xs x.number ≡ None → AreOne (λ es n. name (entry_at es n)) (x ∷ xs) → AreOne (λ es n. name (entry_at es n)) xs
one-tail {Q} name nothing x xs none one n m q f g = one n m q (more n (entry_at xs n) refl f) (more m (entry_at xs m) refl g)
  where
    more : (i : ℕ) (o : Option TableEntry) → entry_at xs i ≡ o → name (entry_at xs i) ≡ Some q → name (entry_at (x ∷ xs) i) ≡ Some q
    more i None e h = absurd (none-some q (sym nothing ∙ (sym (ap name e) ∙ h)))
    more i (Some y) e h = ap name (under x xs i y none e) ∙ h

apart : (xs : List TableEntry) → AreDistinct xs → AreOne owner_at xs → AreOne remote_at xs → AreApart xs
apart [] d owners remotes = tt
apart (x ∷ xs) d owners remotes = (
  two-all x (x ∷ xs) xs (rw (eq-eqb x.number x.number refl) refl) owners remotes (behind x xs xs d.0 (each-at xs d.1)),
  apart xs d.1 (one-tail owner_in refl x xs d.0 owners) (one-tail remote_in refl x xs d.0 remotes),
)

-- what every table promises, as a function reads it
pub sound-table : {S T U : Type 0} (own : IndexMap (ℕ × ℕ) ℕ S) (remote : IndexMap ℕ ℕ T) (clients : IndexMap ℕ ChannelNumbers U) (xs ys : List TableEntry) → xs ≡ ys → Agrees own remote clients xs → AreSound ys
sound-table own remote clients xs ys e a =
    subst AreSound e (record {
      apart = apart xs a.distinct (λ n m q f g. same_Some n m (sym ((a.owns q.0 q.1 n).1 f) ∙ (a.owns q.0 q.1 m).1 g)) (λ n m s f g. same_Some n m (sym ((a.remotes s n).1 f) ∙ (a.remotes s m).1 g));
      few = a.few;
      small = a.small;
    })
