-- The channels of slots, in order of opening: what a write in one slot changes in their list.
use Rattle.std.proofs.Common.{◌≡◌, ℕ, zero, suc, ◌+◌, ◌<◌, ◌≤◌, Bool, true, false, cond, not, List, [], ◌∷◌, ◌++◌, map, set, refl, ap, sym, ◌∙◌, subst, arith}
use Rattle.std.specs.Prelude.{Option, Some, slice_get, filter, nat_lt}
use Rattle.std.proofs.lemmas.Bool.Decides.{nat_tests}
use Rattle.std.proofs.lemmas.Bool.{eq-eqb, ne_eqb}
use Rattle.channel_table.specs.declared.slots.Slot.{Slot}
use Rattle.channel_table.specs.declared.slots.Slot.TheVariants.{Free, Held}
use Rattle.channel_table.specs.declared.slots.Opened.{Opened}
use Rattle.channel_table.specs.Entries.{TableEntry, at_number, is_at}
use Rattle.channel_table.specs.Slots.{Ranked, ranked, placed, ranked_from, AreOpenedBefore}

-- all of them were opened before so many channels
abbrev pub AllBefore : ℕ → List Ranked → Type 0
AllBefore r [] = Unit {0}
AllBefore r (y ∷ ys) = (y.rank < r) × AllBefore r ys

-- and after so many
abbrev pub AllFrom : ℕ → List Ranked → Type 0
AllFrom r [] = Unit {0}
AllFrom r (y ∷ ys) = (r ≤ y.rank) × AllFrom r ys

-- in order of opening
abbrev pub InOrder : List Ranked → Type 0
InOrder [] = Unit {0}
InOrder (y ∷ ys) = AllFrom y.rank ys × InOrder ys

-- all numbers are at least n
abbrev pub Above : ℕ → List Ranked → Type 0
Above n [] = Unit {0}
Above n (y ∷ ys) = (n ≤ y.entry.number) × Above n ys

abbrev pub entry : Ranked → TableEntry
entry x = x.entry

-- ---- `placed`

pub AllBefore-placed : (r : ℕ) (x : Ranked) (ys : List Ranked) → x.rank < r → AllBefore r ys → AllBefore r (placed x ys)
AllBefore-placed r x [] l b = (l, tt)
AllBefore-placed r x (y ∷ ys) l b =
    elim (nat_lt x.rank y.rank) as (λ t. AllBefore r (cond t (x ∷ y ∷ ys) (y ∷ placed x ys))) [
      | true ↦ (l, b)
      | false ↦ (b.0, AllBefore-placed r x ys l b.1)
    ]

pub AllFrom-placed : (r : ℕ) (x : Ranked) (ys : List Ranked) → r ≤ x.rank → AllFrom r ys → AllFrom r (placed x ys)
AllFrom-placed r x [] l b = (l, tt)
AllFrom-placed r x (y ∷ ys) l b =
    elim (nat_lt x.rank y.rank) as (λ t. AllFrom r (cond t (x ∷ y ∷ ys) (y ∷ placed x ys))) [
      | true ↦ (l, b)
      | false ↦ (b.0, AllFrom-placed r x ys l b.1)
    ]

pub AllFrom-weaker : (r s : ℕ) (ys : List Ranked) → r ≤ s → AllFrom s ys → AllFrom r ys
AllFrom-weaker r s [] l b = tt
AllFrom-weaker r s (y ∷ ys) l b = (omega (arith, b.0), AllFrom-weaker r s ys l b.1)

pub InOrder-placed : (x : Ranked) (ys : List Ranked) → InOrder ys → InOrder (placed x ys)
InOrder-placed x [] o = (tt, tt)
InOrder-placed x (y ∷ ys) o = by (nat_lt x.rank y.rank) refl (InOrder-placed x ys o.1)
  where
    by : (t : Bool) → nat_lt x.rank y.rank ≡ t → InOrder (placed x ys) → InOrder (cond t (x ∷ y ∷ ys) (y ∷ placed x ys))
    by true e ih = let l : x.rank ≤ y.rank = grind (arith, nat_tests) in ((l, AllFrom-weaker x.rank y.rank ys l o.0), o)
    by false e ih = let l : y.rank ≤ x.rank = grind (arith, nat_tests) in (AllFrom-placed y.rank x ys l o.0, ih)

pub Above-placed : (n : ℕ) (x : Ranked) (ys : List Ranked) → n ≤ x.entry.number → Above n ys → Above n (placed x ys)
Above-placed n x [] l b = (l, tt)
Above-placed n x (y ∷ ys) l b =
    elim (nat_lt x.rank y.rank) as (λ t. Above n (cond t (x ∷ y ∷ ys) (y ∷ placed x ys))) [
      | true ↦ (l, b)
      | false ↦ (b.0, Above-placed n x ys l b.1)
    ]

pub Above-weaker : (n m : ℕ) (ys : List Ranked) → n ≤ m → Above m ys → Above n ys
Above-weaker n m [] l b = tt
Above-weaker n m (y ∷ ys) l b = (omega (arith, b.0), Above-weaker n m ys l b.1)

-- the one opened last goes last
pub placed-last : (x : Ranked) (ys : List Ranked) → AllBefore x.rank ys → placed x ys ≡ ys ++ x ∷ []
placed-last x [] b = refl
placed-last x (y ∷ ys) b = by (nat_lt x.rank y.rank) refl (placed-last x ys b.1)
  where
    by : (t : Bool) → nat_lt x.rank y.rank ≡ t → placed x ys ≡ ys ++ x ∷ [] → cond t (x ∷ y ∷ ys) (y ∷ placed x ys) ≡ y ∷ (ys ++ x ∷ [])
    by true e ih = absurd (grind (arith, nat_tests, b.0))
    by false e ih = ap (λ zs. y ∷ zs) ih

pub placed-append : (x z : Ranked) (ys : List Ranked) → x.rank < z.rank → placed x (ys ++ z ∷ []) ≡ placed x ys ++ z ∷ []
placed-append x z [] l = by (nat_lt x.rank z.rank) refl
  where
    by : (t : Bool) → nat_lt x.rank z.rank ≡ t → cond t (x ∷ z ∷ []) (z ∷ x ∷ []) ≡ x ∷ z ∷ []
    by true e = refl
    by false e = absurd (grind (arith, nat_tests))
placed-append x z (y ∷ ys) l =
    elim (nat_lt x.rank y.rank) as (λ t. cond t (x ∷ y ∷ (ys ++ z ∷ [])) (y ∷ placed x (ys ++ z ∷ [])) ≡ cond t (x ∷ y ∷ ys) (y ∷ placed x ys) ++ z ∷ []) [
      | true ↦ refl
      | false ↦ ap (λ zs. y ∷ zs) (placed-append x z ys l)
    ]

-- another entry under this number
abbrev pub replaced : ℕ → TableEntry → Ranked → Ranked
replaced m z y = record y { entry = at_number m (λ _. z) y.entry }

-- which keeps the order
pub map-placed : (m : ℕ) (z : TableEntry) (x : Ranked) (ys : List Ranked) → map (replaced m z) (placed x ys) ≡ placed (replaced m z x) (map (replaced m z) ys)
map-placed m z x [] = refl
map-placed m z x (y ∷ ys) =
    elim (nat_lt x.rank y.rank) as (λ t. map (replaced m z) (cond t (x ∷ y ∷ ys) (y ∷ placed x ys)) ≡ cond t (replaced m z x ∷ replaced m z y ∷ map (replaced m z) ys) (replaced m z y ∷ placed (replaced m z x) (map (replaced m z) ys))) [
      | true ↦ refl
      | false ↦ ap (λ zs. replaced m z y ∷ zs) (map-placed m z x ys)
    ]

-- ---- filters

pub filter-placed_out : (p : Ranked → Bool) (x : Ranked) (ys : List Ranked) → p x ≡ false → filter p (placed x ys) ≡ filter p ys
filter-placed_out p x [] out = rw out refl
filter-placed_out p x (y ∷ ys) out =
    elim (nat_lt x.rank y.rank) as (λ t. filter p (cond t (x ∷ y ∷ ys) (y ∷ placed x ys)) ≡ filter p (y ∷ ys)) [
      | true ↦ rw out refl
      | false ↦ rw (filter-placed_out p x ys out) refl
    ]

pub placed-front : (x : Ranked) (ys : List Ranked) → AllFrom (x.rank + 1) ys → placed x ys ≡ x ∷ ys
placed-front x [] a = refl
placed-front x (y ∷ ys) a = by (nat_lt x.rank y.rank) refl
  where
    by : (t : Bool) → nat_lt x.rank y.rank ≡ t → cond t (x ∷ y ∷ ys) (y ∷ placed x ys) ≡ x ∷ y ∷ ys
    by true e = refl
    by false e = absurd (grind (arith, nat_tests, a.0))

pub AllFrom-filter : (r : ℕ) (p : Ranked → Bool) (ys : List Ranked) → AllFrom r ys → AllFrom r (filter p ys)
AllFrom-filter r p [] a = tt
AllFrom-filter r p (y ∷ ys) a =
    elim (p y) as (λ t. AllFrom r (cond t (y ∷ filter p ys) (filter p ys))) [
      | true ↦ (a.0, AllFrom-filter r p ys a.1)
      | false ↦ AllFrom-filter r p ys a.1
    ]

pub filter-placed_in : (p : Ranked → Bool) (x : Ranked) (ys : List Ranked) → InOrder ys → p x ≡ true → filter p (placed x ys) ≡ placed x (filter p ys)
filter-placed_in p x [] o in' = rw in' refl
filter-placed_in p x (y ∷ ys) o in' = by (nat_lt x.rank y.rank) refl (p y) refl (filter-placed_in p x ys o.1 in')
  where
    by : (t : Bool) → nat_lt x.rank y.rank ≡ t → (u : Bool) → p y ≡ u → filter p (placed x ys) ≡ placed x (filter p ys) → filter p (cond t (x ∷ y ∷ ys) (y ∷ placed x ys)) ≡ placed x (cond u (y ∷ filter p ys) (filter p ys))
    by true e true f ih = rw (in', f, e) refl
    by true e false f ih = rw (in', f) (sym (placed-front x (filter p ys) (AllFrom-filter (x.rank + 1) p ys (AllFrom-weaker (x.rank + 1) y.rank ys (grind (arith, nat_tests)) o.0))))
    by false e true f ih = rw (f, e) (ap (λ zs. y ∷ zs) ih)
    by false e false f ih = rw f ih

-- ---- slots

pub Above-slots : (n : ℕ) (slots : List Slot) → Above n (ranked_from n slots)
Above-slots n [] = tt
Above-slots n (Free next ∷ slots) = Above-weaker n (n + 1) (ranked_from (n + 1) slots) (omega arith) (Above-slots (n + 1) slots)
Above-slots n (Held h ∷ slots) =
    Above-placed n (ranked n h) (ranked_from (n + 1) slots) (omega arith) (Above-weaker n (n + 1) (ranked_from (n + 1) slots) (omega arith) (Above-slots (n + 1) slots))

pub InOrder-slots : (n : ℕ) (slots : List Slot) → InOrder (ranked_from n slots)
InOrder-slots n [] = tt
InOrder-slots n (Free next ∷ slots) = InOrder-slots (n + 1) slots
InOrder-slots n (Held h ∷ slots) = InOrder-placed (ranked n h) (ranked_from (n + 1) slots) (InOrder-slots (n + 1) slots)

pub AllBefore-slots : (r n : ℕ) (slots : List Slot) → AreOpenedBefore r slots → AllBefore r (ranked_from n slots)
AllBefore-slots r n [] b = tt
AllBefore-slots r n (Free next ∷ slots) b = AllBefore-slots r (n + 1) slots b
AllBefore-slots r n (Held h ∷ slots) b = AllBefore-placed r (ranked n h) (ranked_from (n + 1) slots) b.0 (AllBefore-slots r (n + 1) slots b.1)

-- a channel in a slot that was free goes last
pub slots-open : (slots : List Slot) (n i m : ℕ) (next : Option ℕ) (h : Opened) → m ≡ n + i → slice_get slots i ≡ Some (Free next) → AreOpenedBefore h.rank slots → ranked_from n (set slots i (Held h)) ≡ ranked_from n slots ++ ranked m h ∷ []
slots-open [] n i m next h e free b = cc
slots-open (Free other ∷ slots) n zero m next h e free b =
    let at : m ≡ n = omega arith in rw at (placed-last (ranked n h) (ranked_from (n + 1) slots) (AllBefore-slots h.rank (n + 1) slots b))
slots-open (Held g ∷ slots) n zero m next h e free b = cc
slots-open (Free other ∷ slots) n (suc i) m next h e free b = slots-open slots (n + 1) i m next h (omega arith) free b
slots-open (Held g ∷ slots) n (suc i) m next h e free b =
    ap (placed (ranked n g)) (slots-open slots (n + 1) i m next h (omega arith) free b.1) ∙ placed-append (ranked n g) (ranked m h) (ranked_from (n + 1) slots) b.0

-- not under this number
abbrev pub other_than : ℕ → Ranked → Bool
other_than m x = not (is_at m x.entry)

pub filter-above : (m n : ℕ) (ys : List Ranked) → m < n → Above n ys → filter (other_than m) ys ≡ ys
filter-above m n [] l a = refl
filter-above m n (y ∷ ys) l a =
    let ne : is_at m y.entry ≡ false = ne_eqb y.entry.number m (λ e. omega (arith, a.0)) in
    rw ne (ap (λ zs. y ∷ zs) (filter-above m n ys l a.1))

-- the channel of a slot that is freed goes
pub slots-free : (slots : List Slot) (n i m : ℕ) (h : Opened) (next : Option ℕ) → m ≡ n + i → slice_get slots i ≡ Some (Held h) → ranked_from n (set slots i (Free next)) ≡ filter (other_than m) (ranked_from n slots)
slots-free [] n i m h next e held = cc
slots-free (Held g ∷ slots) n zero m h next e held =
    let at : m ≡ n = omega arith in
    let out : other_than m (ranked n g) ≡ false = ap not (eq-eqb n m (omega arith)) in
    sym (filter-placed_out (other_than m) (ranked n g) (ranked_from (n + 1) slots) out ∙ filter-above m (n + 1) (ranked_from (n + 1) slots) (omega arith) (Above-slots (n + 1) slots))
slots-free (Free other ∷ slots) n zero m h next e held = cc
slots-free (Free other ∷ slots) n (suc i) m h next e held = slots-free slots (n + 1) i m h next (omega arith) held
slots-free (Held g ∷ slots) n (suc i) m h next e held =
    let in' : other_than m (ranked n g) ≡ true = ap not (ne_eqb n m (λ d. omega arith)) in
    ap (placed (ranked n g)) (slots-free slots (n + 1) i m h next (omega arith) held) ∙ sym (filter-placed_in (other_than m) (ranked n g) (ranked_from (n + 1) slots) (InOrder-slots (n + 1) slots) in')

pub map-above : (m n : ℕ) (x : TableEntry) (ys : List Ranked) → m < n → Above n ys → map (replaced m x) ys ≡ ys
map-above m n x [] l a = refl
map-above m n x (y ∷ ys) l a =
    let ne : is_at m y.entry ≡ false = ne_eqb y.entry.number m (λ e. omega (arith, a.0)) in
    rw (ne, at_number) (ap (λ zs. y ∷ zs) (map-above m n x ys l a.1))

same_held : (f g : Opened) → Some (Held f) ≡ Some (Held g) → f ≡ g
same_held f g e = cc

-- the channel of a slot is changed_at in its place
pub rank_held : (f g : Opened) → Some (Held f) ≡ Some (Held g) → f.rank ≡ g.rank
rank_held f g e = ap (λ (o : Opened). o.rank) (same_held f g e)

pub slots-set : (slots : List Slot) (n i m : ℕ) (g h : Opened) → m ≡ n + i → slice_get slots i ≡ Some (Held g) → h.rank ≡ g.rank → ranked_from n (set slots i (Held h)) ≡ map (replaced m (ranked m h).entry) (ranked_from n slots)
slots-set [] n i m g h e held r = cc
slots-set (Free other ∷ slots) n zero m g h e held r = cc
slots-set (Free other ∷ slots) n (suc i) m g h e held r = slots-set slots (n + 1) i m g h (omega arith) held r
slots-set (Held f ∷ slots) n zero m g h e held r =
    let z = (ranked m h).entry in
    let at : n ≡ m = omega arith in
    let rank : f.rank ≡ h.rank = ap (λ (o : Opened). o.rank) (same_held f g held) ∙ sym r in
    let rest = ranked_from (n + 1) slots in
    let here : replaced m z (ranked n f) ≡ ranked n h = rw (eq-eqb n m at, at_number) (subst (λ k. record { rank = f.rank; entry = z } ≡ ranked k h) (sym at) (ap (λ k. record { rank = k; entry = z }) rank)) in
    sym (map-placed m z (ranked n f) rest ∙ (ap (λ x. placed x (map (replaced m z) rest)) here ∙ ap (placed (ranked n h)) (map-above m (n + 1) z rest (omega arith) (Above-slots (n + 1) slots))))
slots-set (Held f ∷ slots) n (suc i) m g h e held r =
    let z = (ranked m h).entry in
    let change = replaced m z in
    let rest = ranked_from (n + 1) slots in
    let here : change (ranked n f) ≡ ranked n f = rw (ne_eqb n m (λ d. omega arith), at_number) refl in
    ap (placed (ranked n f)) (slots-set slots (n + 1) i m g h (omega arith) held r)
    ∙ (ap (λ x. placed x (map change rest)) (sym here) ∙ sym (map-placed m z (ranked n f) rest))
