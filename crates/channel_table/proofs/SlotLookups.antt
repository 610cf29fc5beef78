-- A look-up by number among the channels of slots reads the slot of that number.
use Rattle.std.proofs.Common.{◌≡◌, ℕ, zero, suc, ◌+◌, ◌<◌, ◌≤◌, true, false, cond, List, [], ◌∷◌, length, map, refl, ap, sym, ◌∙◌, get_or, arith}
use Rattle.std.specs.Prelude.{Option, Some, None, slice_get, nat_lt}
use Rattle.std.proofs.lemmas.Bool.{eq-eqb, ne_eqb}
use Rattle.std.proofs.lemmas.Option.{slice_get_read, slice_get_past}
use Rattle.channel_table.specs.declared.slots.Slot.{Slot}
use Rattle.channel_table.specs.declared.slots.Slot.TheVariants.{Free, Held}
use Rattle.channel_table.specs.Entries.{TableEntry, entry_at, is_at}
use Rattle.channel_table.specs.Slots.{Ranked, ranked, placed, ranked_from, entries_of}
use Rattle.channel_table.proofs.Ranks.{Above, Above-slots, entry}

-- ---- look-ups

pub at-placed_other : (m : ℕ) (x : Ranked) (ys : List Ranked) → is_at m x.entry ≡ false → entry_at (map entry (placed x ys)) m ≡ entry_at (map entry ys) m
at-placed_other m x [] ne = rw ne refl
at-placed_other m x (y ∷ ys) ne =
    elim (nat_lt x.rank y.rank) as (λ t. entry_at (map entry (cond t (x ∷ y ∷ ys) (y ∷ placed x ys))) m ≡ entry_at (map entry (y ∷ ys)) m) [
      | true ↦ rw ne refl
      | false ↦ rw (at-placed_other m x ys ne) refl
    ]

pub at-above : (m n : ℕ) (ys : List Ranked) → m < n → Above n ys → entry_at (map entry ys) m ≡ None
at-above m n [] l a = refl
at-above m n (y ∷ ys) l a =
    let ne : is_at m y.entry ≡ false = ne_eqb y.entry.number m (λ e. omega (arith, a.0)) in rw ne (at-above m n ys l a.1)

pub at-placed_same : (m n : ℕ) (x : Ranked) (ys : List Ranked) → is_at m x.entry ≡ true → m < n → Above n ys → entry_at (map entry (placed x ys)) m ≡ Some x.entry
at-placed_same m n x [] is l a = rw is refl
at-placed_same m n x (y ∷ ys) is l a =
    let ne : is_at m y.entry ≡ false = ne_eqb y.entry.number m (λ e. omega (arith, a.0)) in
    elim (nat_lt x.rank y.rank) as (λ t. entry_at (map entry (cond t (x ∷ y ∷ ys) (y ∷ placed x ys))) m ≡ Some x.entry) [
      | true ↦ rw is refl
      | false ↦ rw ne (at-placed_same m n x ys is l a.1)
    ]

-- the entry of a slot, if it holds one
abbrev pub entry_in : ℕ → Option Slot → Option TableEntry
entry_in m None = None
entry_in m (Some (Free next)) = None
entry_in m (Some (Held h)) = Some (ranked m h).entry

-- a look-up by number reads the slot
pub at-slot : (slots : List Slot) (n i m : ℕ) → m ≡ n + i → entry_at (map entry (ranked_from n slots)) m ≡ entry_in m (slice_get slots i)
at-slot [] n i m e = refl
at-slot (Free next ∷ slots) n zero m e = at-above m (n + 1) (ranked_from (n + 1) slots) (omega arith) (Above-slots (n + 1) slots)
at-slot (Free next ∷ slots) n (suc i) m e = at-slot slots (n + 1) i m (omega arith)
at-slot (Held h ∷ slots) n zero m e =
    let at : n ≡ m = omega arith in
    at-placed_same m (n + 1) (ranked n h) (ranked_from (n + 1) slots) (eq-eqb n m at) (omega arith) (Above-slots (n + 1) slots) ∙ ap (λ k. Some (ranked k h).entry) at
at-slot (Held h ∷ slots) n (suc i) m e =
    at-placed_other m (ranked n h) (ranked_from (n + 1) slots) (ne_eqb n m (λ d. omega arith)) ∙ at-slot slots (n + 1) i m (omega arith)

-- the same of all slots
pub at_entries : (slots : List Slot) (m : ℕ) → entry_at (entries_of slots) m ≡ entry_in m (slice_get slots m)
at_entries slots m = at-slot slots 0 m m (omega arith)

-- the same of what contracts see
pub at_state : (xs : List TableEntry) (slots : List Slot) (m : ℕ) (x y : Slot) → entries_of slots ≡ xs → m < length slots → x ≡ get_or slots m x → x ≡ y → entry_in m (Some y) ≡ entry_at xs m
at_state xs slots m x y e l read is =
    sym (ap (λ es. entry_at es m) (sym e) ∙ (at_entries slots m ∙ ap (entry_in m) (slice_get_read slots (length slots) m x refl l read ∙ ap Some is)))

pub past_state : (xs : List TableEntry) (slots : List Slot) (m : ℕ) → entries_of slots ≡ xs → length slots ≤ m → entry_at xs m ≡ None
past_state xs slots m e l = ap (λ es. entry_at es m) (sym e) ∙ (at_entries slots m ∙ ap (entry_in m) (slice_get_past slots m l))
