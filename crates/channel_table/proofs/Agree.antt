-- The indices after each step on the list of channels, and what look-ups in them find.
use Rattle.std.proofs.Common.{◌≡◌, ◌≢◌, ℕ, Bool, true, false, List, [], ◌∷◌, ◌++◌, refl, ap, sym, ◌∙◌, subst, ⊎_elim}
use Rattle.std.specs.Prelude.{Option, Some, None, find, option_map, ◌==◌, nat_eq}
use Rattle.std.proofs.lemmas.Bool.{eqb-true, eq-eqb, ne_eqb, cases_eq, and_parts, and_from, true≢false}
use Rattle.std.proofs.lemmas.Option.{none-some, same_Some}
use Rattle.indexmap.specs.IndexMap.{IndexMap, get}
use Rattle.mux_history.specs.Channels.{is_number}
use Rattle.channel_table.specs.Entries.{TableEntry, changed_at, entry_at, freed, has_own, has_remote, is_at, number_of_own, number_of_remote}
use Rattle.channel_table.specs.Indices.{paired, owner_in, remote_in, pair_eq, IsOwnIndex, IsRemoteIndex, AreDistinct}
use Rattle.channel_table.proofs.Inverse.{IsInverse, IsExact}
use Rattle.channel_table.proofs.Steps.{Keeps, at-append_same, at-append_other, at-without_same, at-without_other, at-changed_same, at-changed_other}

-- ---- `==` on keys

pub exact_number : IsExact nat_eq
exact_number = record { same = eqb-true; refl = λ p. eq-eqb p p refl }

pub exact_pair : IsExact pair_eq
exact_pair = record {
  same = λ p q e. let parts = and_parts (nat_eq p.0 q.0) (nat_eq p.1 q.1) e in (λ i. (eqb-true p.0 q.0 parts.0 i, eqb-true p.1 q.1 parts.1 i));
  refl = λ p. and_from (nat_eq p.0 p.0) (nat_eq p.1 p.1) (eq-eqb p.0 p.0 refl) (eq-eqb p.1 p.1 refl);
}

-- ---- what a number represents, after each step. `name` is one of `owner_in` and `remote_in`

module _ {Q : Type 0} (name : Option TableEntry → Option Q) (nothing : name None ≡ None) where
  abbrev pub named : List TableEntry → ℕ → Option Q
  named xs n = name (entry_at xs n)

  pub named-append_other : (xs : List TableEntry) (x : TableEntry) (n : ℕ) → n ≢ x.number → named (xs ++ x ∷ []) n ≡ named xs n
  named-append_other xs x n ne = ap name (at-append_other n xs x (ne_eqb x.number n (λ e. ne (sym e))))

  pub named-append_same : (xs : List TableEntry) (x : TableEntry) → entry_at xs x.number ≡ None → named (xs ++ x ∷ []) x.number ≡ name (Some x)
  named-append_same xs x none = ap name (at-append_same xs x none)

  -- a channel that lacks the name leaves all as it was
  pub named-append_none : (xs : List TableEntry) (x : TableEntry) → entry_at xs x.number ≡ None → name (Some x) ≡ None → (n : ℕ) → named (xs ++ x ∷ []) n ≡ named xs n
  named-append_none xs x none lacks n = ⊎_elim here (named-append_other xs x n) (cases_eq n x.number)
    where
      here : n ≡ x.number → named (xs ++ x ∷ []) n ≡ named xs n
      here e = subst (λ k. named (xs ++ x ∷ []) k ≡ named xs k) (sym e) (named-append_same xs x none ∙ (lacks ∙ sym (ap name none ∙ nothing)))

  pub named-without_same : (m : ℕ) (xs : List TableEntry) → named (freed m xs) m ≡ None
  named-without_same m xs = ap name (at-without_same m xs) ∙ nothing

  pub named-without_other : (m : ℕ) (xs : List TableEntry) (n : ℕ) → n ≢ m → named (freed m xs) n ≡ named xs n
  named-without_other m xs n ne = ap name (at-without_other n m xs ne)

  pub named-changed_other : (m : ℕ) (f : TableEntry → TableEntry) (xs : List TableEntry) → Keeps f → (n : ℕ) → n ≢ m → named (changed_at m f xs) n ≡ named xs n
  named-changed_other m f xs k n ne = ap name (at-changed_other n m f xs k ne)

  pub named-changed_same : (m : ℕ) (f : TableEntry → TableEntry) (xs : List TableEntry) (x : TableEntry) → Keeps f → entry_at xs m ≡ Some x → named (changed_at m f xs) m ≡ name (Some (f x))
  named-changed_same m f xs x k at = ap name (at-changed_same m f xs x k at)

  -- a change that keeps the name leaves all as it was
  pub named-changed_kept : (m : ℕ) (f : TableEntry → TableEntry) (xs : List TableEntry) (x : TableEntry) → Keeps f → entry_at xs m ≡ Some x → name (Some (f x)) ≡ name (Some x) → (n : ℕ) → named (changed_at m f xs) n ≡ named xs n
  named-changed_kept m f xs x k at kept n = ⊎_elim here (named-changed_other m f xs k n) (cases_eq n m)
    where
      here : n ≡ m → named (changed_at m f xs) n ≡ named xs n
      here e = subst (λ j. named (changed_at m f xs) j ≡ named xs j) (sym e) (named-changed_same m f xs x k at ∙ (kept ∙ sym (ap name at)))

-- ---- look-ups by a test, of which the index is the inverse

-- the first one that passes is found under its number
pub found-at : (p : TableEntry → Bool) (xs : List TableEntry) (x : TableEntry) → AreDistinct xs → find p xs ≡ Some x → (entry_at xs x.number ≡ Some x) × (p x ≡ true)
found-at p [] x d f = absurd (none-some x f)
found-at p (y ∷ ys) x d f = by (p y) refl (found-at p ys x d.1)
  where
    by : (b : Bool) → p y ≡ b → (find p ys ≡ Some x → (entry_at ys x.number ≡ Some x) × (p x ≡ true)) → (entry_at (y ∷ ys) x.number ≡ Some x) × (p x ≡ true)
    by true e ih =
        let same : y ≡ x = same_Some y x (rw e at f) in
        (rw (eq-eqb y.number x.number (ap (λ (z : TableEntry). z.number) same)) (ap Some same), subst (λ z. p z ≡ true) same e)
    by false e ih =
        let rest = ih (rw e at f) in
        let ne : is_at x.number y ≡ false = ne_eqb y.number x.number (λ q. none-some x (sym (subst (λ i. entry_at ys i ≡ None) q d.0) ∙ rest.0)) in
        (rw ne rest.0, rest.1)

-- where none passes, none that stands under a number does
pub none-at : (p : TableEntry → Bool) (xs : List TableEntry) (n : ℕ) (x : TableEntry) → find p xs ≡ None → entry_at xs n ≡ Some x → p x ≡ false
none-at p [] n x f at = absurd (none-some x at)
none-at p (y ∷ ys) n x f at = by (p y) refl (is_at n y) refl (none-at p ys n x)
  where
    by : (b : Bool) → p y ≡ b → (u : Bool) → is_at n y ≡ u → (find p ys ≡ None → entry_at ys n ≡ Some x → p x ≡ false) → p x ≡ false
    by true e u g ih = absurd (none-some y (sym f ∙ rw e refl))
    by false e true g ih = subst (λ z. p z ≡ false) (same_Some y x (rw g at at)) e
    by false e false g ih = ih (rw e at f) (rw g at at)

abbrev pub number_in : Option TableEntry → Option ℕ
number_in o = option_map (λ (x : TableEntry). x.number) o

-- a look-up in the index finds the number of the first one that passes
pub found-index : {Q : Type 0} (p : TableEntry → Bool) (name : Option TableEntry → Option Q) (q : Q) (index : Q → Option ℕ) (xs : List TableEntry) → AreDistinct xs → IsInverse index (λ n. name (entry_at xs n)) → ((x : TableEntry) → p x ≡ true → name (Some x) ≡ Some q) → ((o : Option TableEntry) → name o ≡ Some q → (x : TableEntry) × (o ≡ Some x) × (p x ≡ true)) → index q ≡ number_in (find p xs)
found-index p name q index xs d inverse names tests = by (find p xs) refl (index q) refl
  where
    by : (f : Option TableEntry) → find p xs ≡ f → (r : Option ℕ) → index q ≡ r → r ≡ number_in f
    by (Some x) e r i =
        let at = found-at p xs x d e in
        sym i ∙ (inverse q x.number).1 (ap name at.0 ∙ names x at.1)
    by None e None i = refl
    by None e (Some n) i =
        let t = tests (entry_at xs n) ((inverse q n).0 i) in
        absurd (true≢false (sym t.2 ∙ none-at p xs n t.0 e t.1))

pub own-named : (k c : ℕ) (x : TableEntry) → has_own k c x ≡ true → owner_in (Some x) ≡ Some (k, c)
own-named k c x h = by x.channel.own refl
  where
    parts : (x.channel.client ≡ k) × (is_number x.channel.own c ≡ true)
    parts = let h = and_parts (x.channel.client == k) (is_number x.channel.own c) h in (eqb-true x.channel.client k h.0, h.1)

    by : (o : Option ℕ) → x.channel.own ≡ o → owner_in (Some x) ≡ Some (k, c)
    by None e = absurd (true≢false (sym (sym (ap (λ o. is_number o c) e) ∙ parts.1)))
    by (Some m) e =
        let is : m ≡ c = eqb-true m c (sym (ap (λ o. is_number o c) e) ∙ parts.1) in
        ap (paired x.channel.client) e ∙ (λ i. Some (parts.0 i, is i))

pub owner-tests : (k c : ℕ) (o : Option TableEntry) → owner_in o ≡ Some (k, c) → (x : TableEntry) × (o ≡ Some x) × (has_own k c x ≡ true)
owner-tests k c None e = absurd (none-some (k, c) e)
owner-tests k c (Some x) e = (x, refl, by x.channel.own refl)
  where
    by : (o : Option ℕ) → x.channel.own ≡ o → has_own k c x ≡ true
    by None f = absurd (none-some {A = ℕ × ℕ} (k, c) (sym (ap (paired x.channel.client) f) ∙ e))
    by (Some m) f =
        let same = same_Some {A = ℕ × ℕ} (x.channel.client, m) (k, c) (sym (ap (paired x.channel.client) f) ∙ e) in
        and_from (x.channel.client == k) (is_number x.channel.own c) (eq-eqb x.channel.client k (ap (λ (p : ℕ × ℕ). p.0) same)) (rw f (eq-eqb m c (ap (λ (p : ℕ × ℕ). p.1) same)))

pub remote-named : (s : ℕ) (x : TableEntry) → has_remote s x ≡ true → remote_in (Some x) ≡ Some s
remote-named s x h = by x.channel.remote refl
  where
    by : (o : Option ℕ) → x.channel.remote ≡ o → x.channel.remote ≡ Some s
    by None e = absurd (true≢false (sym (sym (ap (λ o. is_number o s) e) ∙ h)))
    by (Some m) e = e ∙ ap Some (eqb-true m s (sym (ap (λ o. is_number o s) e) ∙ h))

pub remote-tests : (s : ℕ) (o : Option TableEntry) → remote_in o ≡ Some s → (x : TableEntry) × (o ≡ Some x) × (has_remote s x ≡ true)
remote-tests s None e = absurd (none-some s e)
remote-tests s (Some x) e = (x, refl, ap (λ o. is_number o s) e ∙ eq-eqb s s refl)

module _ {S : Type 0} where
  -- look-ups by a client's own number, and by the server's
  pub own-lookup : (m : IndexMap (ℕ × ℕ) ℕ S) (xs : List TableEntry) (k c : ℕ) → AreDistinct xs → IsOwnIndex m xs → get pair_eq m (k, c) ≡ number_of_own xs k c
  own-lookup m xs k c d i = found-index (has_own k c) owner_in (k, c) (get pair_eq m) xs d (λ q n. i q.0 q.1 n) (own-named k c) (owner-tests k c)

  pub remote-lookup : (m : IndexMap ℕ ℕ S) (xs : List TableEntry) (s : ℕ) → AreDistinct xs → IsRemoteIndex m xs → get nat_eq m s ≡ number_of_remote xs s
  remote-lookup m xs s d i = found-index (has_remote s) remote_in s (get nat_eq m) xs d i (remote-named s) (remote-tests s)
