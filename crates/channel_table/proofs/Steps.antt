-- Each step on a list of channels, seen under each number and for each client.
use Rattle.std.proofs.Common.{◌≡◌, ◌≢◌, ℕ, Bool, true, false, cond, not, List, [], ◌∷◌, ◌++◌, map, refl, ap, sym, ◌∙◌, subst, ⊎_elim}
use Rattle.std.specs.Prelude.{Some, None, filter, ◌==◌}
use Rattle.std.proofs.lemmas.Bool.{eqb-true, eqb-false, eq-eqb, ne_eqb, cases_eq}
use Rattle.std.proofs.lemmas.Option.{none-some, same_Some}
use Rattle.channel_table.specs.Entries.{TableEntry, changed_at, entry_at, freed, is_at, is_channel_of}
use Rattle.channel_table.specs.Indices.{AreDistinct, channel_numbers_of}

-- ---- under each number

pub at-append_same : (xs : List TableEntry) (x : TableEntry) → entry_at xs x.number ≡ None → entry_at (xs ++ x ∷ []) x.number ≡ Some x
at-append_same [] x none = rw (eq-eqb x.number x.number refl) refl
at-append_same (y ∷ ys) x none =
    by (is_at x.number y) refl (at-append_same ys x)
  where
    by : (b : Bool) → is_at x.number y ≡ b → (entry_at ys x.number ≡ None → entry_at (ys ++ x ∷ []) x.number ≡ Some x) → entry_at (y ∷ (ys ++ x ∷ [])) x.number ≡ Some x
    by true e ih = absurd (none-some y (sym none ∙ rw e refl))
    by false e ih = rw e (ih (rw e at none))

pub at-append_other : (n : ℕ) (xs : List TableEntry) (x : TableEntry) → is_at n x ≡ false → entry_at (xs ++ x ∷ []) n ≡ entry_at xs n
at-append_other n [] x ne = rw ne refl
at-append_other n (y ∷ ys) x ne = ap (λ o. cond (is_at n y) (Some y) o) (at-append_other n ys x ne)

pub at-without_same : (n : ℕ) (xs : List TableEntry) → entry_at (freed n xs) n ≡ None
at-without_same n [] = refl
at-without_same n (y ∷ ys) = by (is_at n y) refl (at-without_same n ys)
  where
    by : (b : Bool) → is_at n y ≡ b → entry_at (freed n ys) n ≡ None → entry_at (freed n (y ∷ ys)) n ≡ None
    by true e ih = rw e ih
    by false e ih = rw (e, e) ih

pub at-without_other : (n m : ℕ) (xs : List TableEntry) → n ≢ m → entry_at (freed m xs) n ≡ entry_at xs n
at-without_other n m [] ne = refl
at-without_other n m (y ∷ ys) ne = by (is_at m y) refl (at-without_other n m ys ne)
  where
    by : (b : Bool) → is_at m y ≡ b → entry_at (freed m ys) n ≡ entry_at ys n → entry_at (freed m (y ∷ ys)) n ≡ entry_at (y ∷ ys) n
    by true e ih = rw (e, ne_eqb y.number n (λ d. ne (sym d ∙ eqb-true y.number m e))) ih
    by false e ih = rw e (ap (λ o. cond (is_at n y) (Some y) o) ih)

-- a change that keeps a channel's number and client
pub record Keeps (change : TableEntry → TableEntry) : Type 0 where
  pub number : (x : TableEntry) → (change x).number ≡ x.number
  pub client : (x : TableEntry) → (change x).channel.client ≡ x.channel.client

pub at-changed_other : (n m : ℕ) (f : TableEntry → TableEntry) (xs : List TableEntry) → Keeps f → n ≢ m → entry_at (changed_at m f xs) n ≡ entry_at xs n
at-changed_other n m f [] k ne = refl
at-changed_other n m f (y ∷ ys) k ne = by (is_at m y) refl (at-changed_other n m f ys k ne)
  where
    by : (b : Bool) → is_at m y ≡ b → entry_at (changed_at m f ys) n ≡ entry_at ys n → entry_at (elim b as (λ _. TableEntry) [ true ↦ f y | false ↦ y ] ∷ changed_at m f ys) n ≡ entry_at (y ∷ ys) n
    by true e ih =
        let no : is_at n y ≡ false = ne_eqb y.number n (λ d. ne (sym d ∙ eqb-true y.number m e)) in
        let no' : is_at n (f y) ≡ false = ap (λ i. i == n) (k.number y) ∙ no in
        rw (no', no) ih
    by false e ih = ap (λ o. cond (is_at n y) (Some y) o) ih

pub at-changed_same : (n : ℕ) (f : TableEntry → TableEntry) (xs : List TableEntry) (x : TableEntry) → Keeps f → entry_at xs n ≡ Some x → entry_at (changed_at n f xs) n ≡ Some (f x)
at-changed_same n f [] x k at = absurd (none-some x at)
at-changed_same n f (y ∷ ys) x k at = by (is_at n y) refl (at-changed_same n f ys x k)
  where
    by : (b : Bool) → is_at n y ≡ b → (entry_at ys n ≡ Some x → entry_at (changed_at n f ys) n ≡ Some (f x)) → entry_at (elim b as (λ _. TableEntry) [ true ↦ f y | false ↦ y ] ∷ changed_at n f ys) n ≡ Some (f x)
    by true e ih =
        let is : is_at n (f y) ≡ true = ap (λ i. i == n) (k.number y) ∙ e in
        let same : y ≡ x = same_Some y x (rw e at at) in
        rw is (ap (λ z. Some (f z)) same)
    by false e ih = rw e (ih (rw e at at))

pub number-at : (n : ℕ) (xs : List TableEntry) (x : TableEntry) → entry_at xs n ≡ Some x → x.number ≡ n
number-at n [] x at = absurd (none-some x at)
number-at n (y ∷ ys) x at = by (is_at n y) refl (number-at n ys x)
  where
    by : (b : Bool) → is_at n y ≡ b → (entry_at ys n ≡ Some x → x.number ≡ n) → x.number ≡ n
    by true e ih = let same : y ≡ x = same_Some y x (rw e at at) in subst (λ (z : TableEntry). z.number ≡ n) same (eqb-true y.number n e)
    by false e ih = ih (rw e at at)

-- ---- distinct numbers

pub AreDistinct-append : (xs : List TableEntry) (x : TableEntry) → entry_at xs x.number ≡ None → AreDistinct xs → AreDistinct (xs ++ x ∷ [])
AreDistinct-append [] x none d = (refl, tt)
AreDistinct-append (y ∷ ys) x none d = by (is_at x.number y) refl (λ rest. AreDistinct-append ys x rest d.1)
  where
    by : (b : Bool) → is_at x.number y ≡ b → (entry_at ys x.number ≡ None → AreDistinct (ys ++ x ∷ [])) → AreDistinct (y ∷ (ys ++ x ∷ []))
    by true e ih = absurd (none-some y (sym none ∙ rw e refl))
    by false e ih =
        let ne : is_at y.number x ≡ false = ne_eqb x.number y.number (λ q. eqb-false y.number x.number e (sym q)) in
        (at-append_other y.number ys x ne ∙ d.0, ih (rw e at none))

none-without : (n m : ℕ) (xs : List TableEntry) → entry_at xs n ≡ None → entry_at (freed m xs) n ≡ None
none-without n m xs none = ⊎_elim (λ e. subst (λ k. entry_at (freed k xs) n ≡ None) e (at-without_same n xs)) (λ ne. at-without_other n m xs ne ∙ none) (cases_eq n m)

pub AreDistinct-without : (m : ℕ) (xs : List TableEntry) → AreDistinct xs → AreDistinct (freed m xs)
AreDistinct-without m [] d = tt
AreDistinct-without m (y ∷ ys) d =
    elim (is_at m y) as (λ b. AreDistinct (cond (not b) (y ∷ freed m ys) (freed m ys))) [
      | true ↦ AreDistinct-without m ys d.1
      | false ↦ (none-without y.number m ys d.0, AreDistinct-without m ys d.1)
    ]

none-changed : (n m : ℕ) (f : TableEntry → TableEntry) (xs : List TableEntry) → Keeps f → entry_at xs n ≡ None → entry_at (changed_at m f xs) n ≡ None
none-changed n m f [] k none = refl
none-changed n m f (y ∷ ys) k none = by (is_at n y) refl (none-changed n m f ys k)
  where
    by : (b : Bool) → is_at n y ≡ b → (entry_at ys n ≡ None → entry_at (changed_at m f ys) n ≡ None) → entry_at (changed_at m f (y ∷ ys)) n ≡ None
    by true e ih = absurd (none-some y (sym none ∙ rw e refl))
    by false e ih =
        elim (is_at m y) as (λ b. entry_at (elim b as (λ _. TableEntry) [ true ↦ f y | false ↦ y ] ∷ changed_at m f ys) n ≡ None) [
          | true ↦ rw (ap (λ i. i == n) (k.number y) ∙ e) (ih (rw e at none))
          | false ↦ rw e (ih (rw e at none))
        ]

pub AreDistinct-changed : (m : ℕ) (f : TableEntry → TableEntry) (xs : List TableEntry) → Keeps f → AreDistinct xs → AreDistinct (changed_at m f xs)
AreDistinct-changed m f [] k d = tt
AreDistinct-changed m f (y ∷ ys) k d =
    elim (is_at m y) as (λ b. AreDistinct (elim b as (λ _. TableEntry) [ true ↦ f y | false ↦ y ] ∷ changed_at m f ys)) [
      | true ↦ (ap (λ i. entry_at (changed_at m f ys) i) (k.number y) ∙ none-changed y.number m f ys k d.0, AreDistinct-changed m f ys k d.1)
      | false ↦ (none-changed y.number m f ys k d.0, AreDistinct-changed m f ys k d.1)
    ]

-- where no channel has the number nothing changes
pub changed-none : (n : ℕ) (f : TableEntry → TableEntry) (xs : List TableEntry) → entry_at xs n ≡ None → changed_at n f xs ≡ xs
changed-none n f [] none = refl
changed-none n f (y ∷ ys) none = by (is_at n y) refl (changed-none n f ys)
  where
    by : (b : Bool) → is_at n y ≡ b → (entry_at ys n ≡ None → changed_at n f ys ≡ ys) → elim b as (λ _. TableEntry) [ true ↦ f y | false ↦ y ] ∷ changed_at n f ys ≡ y ∷ ys
    by true e ih = absurd (none-some y (sym none ∙ rw e refl))
    by false e ih = ap (λ zs. y ∷ zs) (ih (rw e at none))

pub without-none : (n : ℕ) (xs : List TableEntry) → entry_at xs n ≡ None → freed n xs ≡ xs
without-none n [] none = refl
without-none n (y ∷ ys) none = by (is_at n y) refl (without-none n ys)
  where
    by : (b : Bool) → is_at n y ≡ b → (entry_at ys n ≡ None → freed n ys ≡ ys) → cond (not b) (y ∷ freed n ys) (freed n ys) ≡ y ∷ ys
    by true e ih = absurd (none-some y (sym none ∙ rw e refl))
    by false e ih = ap (λ zs. y ∷ zs) (ih (rw e at none))

-- one channel has the number, and the change is recorded by what it makes of that one
pub changed-at : (n : ℕ) (f : TableEntry → TableEntry) (z : TableEntry) (xs : List TableEntry) (x : TableEntry) → AreDistinct xs → entry_at xs n ≡ Some x → f x ≡ z → changed_at n (λ _. z) xs ≡ changed_at n f xs
changed-at n f z [] x d at is = refl
changed-at n f z (y ∷ ys) x d at is = by (is_at n y) refl (λ rest. changed-at n f z ys x d.1 rest is)
  where
    by : (b : Bool) → is_at n y ≡ b → (entry_at ys n ≡ Some x → changed_at n (λ _. z) ys ≡ changed_at n f ys) → elim b as (λ _. TableEntry) [ true ↦ z | false ↦ y ] ∷ changed_at n (λ _. z) ys ≡ elim b as (λ _. TableEntry) [ true ↦ f y | false ↦ y ] ∷ changed_at n f ys
    by true e ih =
        let same : y ≡ x = same_Some y x (rw e at at) in
        let none : entry_at ys n ≡ None = subst (λ i. entry_at ys i ≡ None) (eqb-true y.number n e) d.0 in
        let head : z ≡ f y = sym (ap f same ∙ is) in
        ap (λ w. w ∷ changed_at n (λ _. z) ys) head ∙ ap (λ ws. f y ∷ ws) (changed-none n (λ _. z) ys none ∙ sym (changed-none n f ys none))
    by false e ih = ap (λ ws. y ∷ ws) (ih (rw e at at))

-- ---- for each client

pub numbers-append : (k : ℕ) (xs : List TableEntry) (x : TableEntry) → channel_numbers_of (xs ++ x ∷ []) k ≡ cond (is_channel_of k x) (channel_numbers_of xs k ++ x.number ∷ []) (channel_numbers_of xs k)
numbers-append k [] x = elim (is_channel_of k x) as (λ b. map (λ (y : TableEntry). y.number) (cond b (x ∷ []) []) ≡ cond b (x.number ∷ []) []) [ true ↦ refl | false ↦ refl ]
numbers-append k (y ∷ ys) x = by (is_channel_of k y) refl (numbers-append k ys x)
  where
    by : (b : Bool) → is_channel_of k y ≡ b → channel_numbers_of (ys ++ x ∷ []) k ≡ cond (is_channel_of k x) (channel_numbers_of ys k ++ x.number ∷ []) (channel_numbers_of ys k) → channel_numbers_of (y ∷ (ys ++ x ∷ [])) k ≡ cond (is_channel_of k x) (channel_numbers_of (y ∷ ys) k ++ x.number ∷ []) (channel_numbers_of (y ∷ ys) k)
    by true e ih = rw e (ap (λ ns. y.number ∷ ns) ih ∙ elim (is_channel_of k x) as (λ b. y.number ∷ cond b (channel_numbers_of ys k ++ x.number ∷ []) (channel_numbers_of ys k) ≡ cond b (y.number ∷ (channel_numbers_of ys k ++ x.number ∷ [])) (y.number ∷ channel_numbers_of ys k)) [ true ↦ refl | false ↦ refl ])
    by false e ih = rw e ih

pub numbers-without : (k n : ℕ) (xs : List TableEntry) → channel_numbers_of (freed n xs) k ≡ filter (λ m. not (m == n)) (channel_numbers_of xs k)
numbers-without k n [] = refl
numbers-without k n (y ∷ ys) = by (is_channel_of k y) refl (is_at n y) refl (numbers-without k n ys)
  where
    by : (b : Bool) → is_channel_of k y ≡ b → (u : Bool) → is_at n y ≡ u → channel_numbers_of (freed n ys) k ≡ filter (λ m. not (m == n)) (channel_numbers_of ys k) → channel_numbers_of (freed n (y ∷ ys)) k ≡ filter (λ m. not (m == n)) (channel_numbers_of (y ∷ ys) k)
    by true e true f ih = rw (f, e, f) ih
    by true e false f ih = rw (f, e, f) (ap (λ ns. y.number ∷ ns) ih)
    by false e true f ih = rw (f, e) ih
    by false e false f ih = rw (f, e) ih

pub numbers-changed : (k n : ℕ) (f : TableEntry → TableEntry) (xs : List TableEntry) → Keeps f → channel_numbers_of (changed_at n f xs) k ≡ channel_numbers_of xs k
numbers-changed k n f [] keeps = refl
numbers-changed k n f (y ∷ ys) keeps = by (is_at n y) refl (numbers-changed k n f ys keeps)
  where
    by : (u : Bool) → is_at n y ≡ u → channel_numbers_of (changed_at n f ys) k ≡ channel_numbers_of ys k → channel_numbers_of (elim u as (λ _. TableEntry) [ true ↦ f y | false ↦ y ] ∷ changed_at n f ys) k ≡ channel_numbers_of (y ∷ ys) k
    by true e ih =
        let same : is_channel_of k (f y) ≡ is_channel_of k y = ap (λ i. i == k) (keeps.client y) in
        ap (λ b. map (λ (z : TableEntry). z.number) (cond b (f y ∷ filter (is_channel_of k) (changed_at n f ys)) (filter (is_channel_of k) (changed_at n f ys)))) same
        ∙ elim (is_channel_of k y) as (λ b. map (λ (z : TableEntry). z.number) (cond b (f y ∷ filter (is_channel_of k) (changed_at n f ys)) (filter (is_channel_of k) (changed_at n f ys))) ≡ map (λ (z : TableEntry). z.number) (cond b (y ∷ filter (is_channel_of k) ys) (filter (is_channel_of k) ys))) [
          | true ↦ ap (λ i. i ∷ channel_numbers_of (changed_at n f ys) k) (keeps.number y) ∙ ap (λ ns. y.number ∷ ns) ih
          | false ↦ ih
        ]
    by false e ih =
        elim (is_channel_of k y) as (λ b. map (λ (z : TableEntry). z.number) (cond b (y ∷ filter (is_channel_of k) (changed_at n f ys)) (filter (is_channel_of k) (changed_at n f ys))) ≡ map (λ (z : TableEntry). z.number) (cond b (y ∷ filter (is_channel_of k) ys) (filter (is_channel_of k) ys))) [
          | true ↦ ap (λ ns. y.number ∷ ns) ih
          | false ↦ ih
        ]

-- the channel under a number is one of its own client's
pub numbers-others : (k n : ℕ) (xs : List TableEntry) (x : TableEntry) → AreDistinct xs → entry_at xs n ≡ Some x → x.channel.client ≢ k → channel_numbers_of (freed n xs) k ≡ channel_numbers_of xs k
numbers-others k n [] x d at ne = refl
numbers-others k n (y ∷ ys) x d at ne = by (is_at n y) refl (λ rest. numbers-others k n ys x d.1 rest ne)
  where
    by : (u : Bool) → is_at n y ≡ u → (entry_at ys n ≡ Some x → channel_numbers_of (freed n ys) k ≡ channel_numbers_of ys k) → channel_numbers_of (freed n (y ∷ ys)) k ≡ channel_numbers_of (y ∷ ys) k
    by true e ih =
        let same : y ≡ x = same_Some y x (rw e at at) in
        let none : entry_at ys n ≡ None = subst (λ i. entry_at ys i ≡ None) (eqb-true y.number n e) d.0 in
        let no : is_channel_of k y ≡ false = ne_eqb y.channel.client k (λ q. ne (ap (λ (z : TableEntry). z.channel.client) (sym same) ∙ q)) in
        rw (e, no) (ap (λ es. channel_numbers_of es k) (without-none n ys none))
    by false e ih =
        let rest = ih (rw e at at) in
        rw e (elim (is_channel_of k y) as (λ b. map (λ (z : TableEntry). z.number) (cond b (y ∷ filter (is_channel_of k) (freed n ys)) (filter (is_channel_of k) (freed n ys))) ≡ map (λ (z : TableEntry). z.number) (cond b (y ∷ filter (is_channel_of k) ys) (filter (is_channel_of k) ys))) [
          | true ↦ ap (λ ns. y.number ∷ ns) rest
          | false ↦ rest
        ])
