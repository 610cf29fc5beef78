-- What each write in a slot makes of the slots, and of the list of their channels.
use Rattle.std.proofs.Common.{◌≡◌, ℕ, zero, suc, ◌+◌, ◌<◌, true, false, not, List, [], ◌∷◌, ◌++◌, length, map, set, refl, ap, sym, ◌∙◌, subst, get_or, arith, length-set, length-append}
use Rattle.std.specs.Prelude.{Option, Some, None, slice_get, IsSome}
use Rattle.std.proofs.lemmas.List.{map-append}
use Rattle.std.proofs.lemmas.Option.{none-some, same_Some, slice_get_read, slice_get_within}
use Rattle.channel_table.specs.declared.slots.Slot.{Slot}
use Rattle.channel_table.specs.declared.slots.Slot.TheVariants.{Free, Held}
use Rattle.channel_table.specs.declared.slots.Opened.{Opened}
use Rattle.channel_table.specs.Entries.{TableEntry, is_at, entry_at, freed, changed_at, IsNumberFree}
use Rattle.mux_history.specs.declared.limits.TheConstants.{NUMBERS_END}
use Rattle.channel_table.specs.Slots.{Ranked, ranked, ranked_from, entries_of, free_count, placed, IsLinked, AreOpenedBefore, AreSlots}
use Rattle.channel_table.proofs.Lists.{slice_get-set_same, slice_get-push, filter-map}
use Rattle.channel_table.proofs.Ranks.{entry, slots-open, slots-free, slots-set, replaced, rank_held}
use Rattle.channel_table.proofs.SlotLookups.{entry_in, at_entries}
use Rattle.channel_table.proofs.Links.{IsLinked-held, IsLinked-shorter, IsLinked-none, free_count-push, free_count-open, free_count-free, free_count-set, before-push, before-more, before-free, before-set}

-- ---- the front one of the free slots

-- the front one is free, and the others are linked after it
pub record IsFront (slots : List Slot) (n : ℕ) : Type 0 where
  pub next : Option ℕ
  pub behind : ℕ
  pub free : slice_get slots n ≡ Some (Free next)
  pub count : free_count slots ≡ behind + 1
  pub linked : IsLinked behind slots next

front-linked : (a : ℕ) (slots : List Slot) (front : Option ℕ) (n : ℕ) → free_count slots ≡ a → front ≡ Some n → IsLinked a slots front → IsFront slots n
front-linked zero slots front n e at l = absurd (none-some n (sym l ∙ at))
front-linked (suc a) slots front n e at l =
    let same : l.0 ≡ n = cc in
    record { next = l.1.0; behind = a; free = subst (λ k. slice_get slots k ≡ Some (Free l.1.0)) same l.1.1.1; count = omega arith; linked = l.1.1.2 }

pub front-slots : (slots : List Slot) (front : Option ℕ) (opened n : ℕ) → AreSlots slots front opened → front ≡ Some n → IsFront slots n
front-slots slots front opened n s at = front-linked (free_count slots) slots front n refl at s.linked

pub front-fresh : (slots : List Slot) (front : Option ℕ) (opened n : ℕ) → AreSlots slots front opened → front ≡ Some n → IsNumberFree (entries_of slots) n
front-fresh slots front opened n s at =
    let f = front-slots slots front opened n s at in
    record { below = omega (arith, s.few, slice_get_within slots n (Free f.next) f.free); unused = at_entries slots n ∙ ap (entry_in n) f.free }

-- ---- a new slot

ranked-push : (n : ℕ) (slots : List Slot) (next : Option ℕ) → ranked_from n (slots ++ Free next ∷ []) ≡ ranked_from n slots
ranked-push n [] next = refl
ranked-push n (Free other ∷ slots) next = ranked-push (n + 1) slots next
ranked-push n (Held h ∷ slots) next = ap (λ rest. placed (ranked n h) rest) (ranked-push (n + 1) slots next)

pub entries-push : (slots : List Slot) (next : Option ℕ) → entries_of (slots ++ Free next ∷ []) ≡ entries_of slots
entries-push slots next = ap (map entry) (ranked-push 0 slots next)

pub push-slots : (slots : List Slot) (front : Option ℕ) (opened n : ℕ) → AreSlots slots front opened → front ≡ None → length slots < NUMBERS_END → n ≡ length slots → AreSlots (slots ++ Free None ∷ []) (Some n) opened
push-slots slots front opened n s none room at =
    let no : free_count slots ≡ 0 = IsLinked-none (free_count slots) slots (subst (IsLinked (free_count slots) slots) none s.linked) in
    let one : free_count (slots ++ Free None ∷ []) ≡ 1 = free_count-push slots None ∙ omega arith in
    let slot : slice_get (slots ++ Free None ∷ []) n ≡ Some (Free None) = subst (λ k. slice_get (slots ++ Free None ∷ []) k ≡ Some (Free None)) (sym at) (slice_get-push slots (Free None)) in
    record {
      few = omega (arith, length-append slots (Free None ∷ []), room);
      linked = subst (λ a. IsLinked a (slots ++ Free None ∷ []) (Some n)) (sym one) (n, (None, (refl, slot, refl)));
      before = before-push opened slots None s.before;
    }

-- ---- a channel is opened

pub open-slots : (slots : List Slot) (front : Option ℕ) (opened n : ℕ) (h : Opened) → AreSlots slots front opened → front ≡ Some n → h.rank ≡ opened → (f : IsFront slots n) → AreSlots (set slots n (Held h)) f.next (opened + 1)
open-slots slots front opened n h s at rank f =
    let count : f.behind ≡ free_count (set slots n (Held h)) = omega (arith, f.count, free_count-open slots n f.next h f.free) in
    let whole : IsLinked (f.behind + 1) slots (Some n) = subst (λ a. IsLinked a slots (Some n)) f.count (subst (IsLinked (free_count slots) slots) at s.linked) in
    record {
      few = omega (arith, s.few, length-set slots n (Held h));
      linked = subst (λ a. IsLinked a (set slots n (Held h)) f.next) count (IsLinked-shorter f.behind (f.behind + 1) slots f.next n (Held h) f.linked whole (omega arith));
      before = before-set (opened + 1) slots n h (omega arith) (before-more opened (opened + 1) slots (omega arith) s.before);
    }

pub open-entries : (slots : List Slot) (opened n : ℕ) (next : Option ℕ) (h : Opened) → AreOpenedBefore opened slots → h.rank ≡ opened → slice_get slots n ≡ Some (Free next) → entries_of (set slots n (Held h)) ≡ entries_of slots ++ (ranked n h).entry ∷ []
open-entries slots opened n next h b rank free =
    ap (map entry) (slots-open slots 0 n n next h (omega arith) free (subst (λ r. AreOpenedBefore r slots) (sym rank) b)) ∙ map-append entry (ranked_from 0 slots) (ranked n h ∷ [])

-- ---- a channel is freed

pub free-slots : (slots : List Slot) (front : Option ℕ) (opened n : ℕ) (h : Opened) → AreSlots slots front opened → slice_get slots n ≡ Some (Held h) → AreSlots (set slots n (Free front)) (Some n) opened
free-slots slots front opened n h s held =
    let count : suc (free_count slots) ≡ free_count (set slots n (Free front)) = omega (arith, free_count-free slots n front h held) in
    record {
      few = omega (arith, s.few, length-set slots n (Free front));
      linked = subst (λ a. IsLinked a (set slots n (Free front)) (Some n)) count (n, (front, (refl, slice_get-set_same slots n (Free front) (Held h) held, IsLinked-held (free_count slots) slots front n h (Free front) s.linked held)));
      before = before-free opened slots n front s.before;
    }

pub free-entries : (slots : List Slot) (n : ℕ) (front : Option ℕ) (h : Opened) → slice_get slots n ≡ Some (Held h) → entries_of (set slots n (Free front)) ≡ freed n (entries_of slots)
free-entries slots n front h held =
    ap (map entry) (slots-free slots 0 n n h front (omega arith) held) ∙ sym (filter-map (λ x. not (is_at n x)) entry (ranked_from 0 slots))

-- ---- a channel is changed_at

pub set-slots : (slots : List Slot) (front : Option ℕ) (opened n : ℕ) (g h : Opened) → AreSlots slots front opened → slice_get slots n ≡ Some (Held g) → h.rank ≡ g.rank → AreSlots (set slots n (Held h)) front opened
set-slots slots front opened n g h s held rank =
    record {
      few = omega (arith, s.few, length-set slots n (Held h));
      linked = subst (λ a. IsLinked a (set slots n (Held h)) front) (sym (free_count-set slots n g h held)) (IsLinked-held (free_count slots) slots front n g (Held h) s.linked held);
      before = before-set opened slots n h (subst (λ r. r < opened) (sym rank) (rank-before slots n g held s.before)) s.before;
    }
  where
    rank-before : (slots : List Slot) (n : ℕ) (g : Opened) → slice_get slots n ≡ Some (Held g) → AreOpenedBefore opened slots → g.rank < opened
    rank-before [] n g held b = cc
    rank-before (Free other ∷ slots) zero g held b = cc
    rank-before (Free other ∷ slots) (suc n) g held b = rank-before slots n g held b
    rank-before (Held f ∷ slots) zero g held b = let same : f.rank ≡ g.rank = rank_held f g held in omega (arith, b.0)
    rank-before (Held f ∷ slots) (suc n) g held b = rank-before slots n g held b.1

map-replaced : (n : ℕ) (x : TableEntry) (ys : List Ranked) → map entry (map (replaced n x) ys) ≡ changed_at n (λ _. x) (map entry ys)
map-replaced n x [] = refl
map-replaced n x (y ∷ ys) = ap (λ zs. elim (is_at n y.entry) as (λ _. TableEntry) [ true ↦ x | false ↦ y.entry ] ∷ zs) (map-replaced n x ys)

pub set-entries : (slots : List Slot) (n : ℕ) (g h : Opened) → slice_get slots n ≡ Some (Held g) → h.rank ≡ g.rank → entries_of (set slots n (Held h)) ≡ changed_at n (λ _. (ranked n h).entry) (entries_of slots)
set-entries slots n g h held rank =
    ap (map entry) (slots-set slots 0 n n g h (omega arith) held rank) ∙ map-replaced n (ranked n h).entry (ranked_from 0 slots)

-- ---- a number under which a channel stands

not-some : (o : Option TableEntry) → o ≡ None → IsSome o → ⊥
not-some o e i = cc

-- the slot of a number under which a channel stands
pub held-slot : (slots : List Slot) (n : ℕ) → IsSome (entry_at (entries_of slots) n) → (h : Opened) × (slice_get slots n ≡ Some (Held h))
held-slot slots n some = by (slice_get slots n) refl (subst IsSome (at_entries slots n) some)
  where
    by : (o : Option Slot) → slice_get slots n ≡ o → IsSome (entry_in n o) → (h : Opened) × (slice_get slots n ≡ Some (Held h))
    by None e i = absurd (not-some None refl i)
    by (Some (Free next)) e i = absurd (not-some None refl i)
    by (Some (Held h)) e i = (h, e)

-- ---- as a function reads them

pub read-slot : (slots : List Slot) (n : ℕ) (x y : Slot) → n < length slots → x ≡ get_or slots n x → x ≡ y → slice_get slots n ≡ Some y
read-slot slots n x y l read is = slice_get_read slots (length slots) n x refl l read ∙ ap Some is

-- a slot in which a channel stands
pub record IsHeld (slots : List Slot) (n : ℕ) : Type 0 where
  pub opened : Opened
  pub held : slice_get slots n ≡ Some (Held opened)
  pub within : n < length slots

pub held-state : (xs : List TableEntry) (slots : List Slot) (n : ℕ) → entries_of slots ≡ xs → IsSome (entry_at xs n) → IsHeld slots n
held-state xs slots n e some =
    let h = held-slot slots n (subst (λ ys. IsSome (entry_at ys n)) (sym e) some) in
    record { opened = h.0; held = h.1; within = slice_get_within slots n (Held h.0) h.1 }

-- so its number is below how many slots there are
pub held-below : (xs : List TableEntry) (slots : List Slot) (n size : ℕ) → entries_of slots ≡ xs → IsSome (entry_at xs n) → size ≡ length slots → n < size
held-below xs slots n size e some all = omega (arith, (held-state xs slots n e some).within, all)

pub held-read : (slots : List Slot) (n : ℕ) (x : Slot) (h : IsHeld slots n) → x ≡ get_or slots n x → x ≡ Held h.opened
held-read slots n x h read = same_Some x (Held h.opened) (sym (slice_get_read slots (length slots) n x refl h.within read) ∙ h.held)

pub open-state : (slots : List Slot) (front : Option ℕ) (opened n : ℕ) (h : Opened) (x : Slot) (next : Option ℕ) → AreSlots slots front opened → front ≡ Some n → h.rank ≡ opened → x ≡ get_or slots n x → x ≡ Free next → AreSlots (set slots n (Held h)) next (opened + 1)
open-state slots front opened n h x next s at rank read is =
    let f = front-slots slots front opened n s at in
    let same : f.next ≡ next = same_next f.next next (sym f.free ∙ read-slot slots n x (Free next) (slice_get_within slots n (Free f.next) f.free) read is) in
    subst (λ o. AreSlots (set slots n (Held h)) o (opened + 1)) same (open-slots slots front opened n h s at rank f)
  where
    same_next : (a b : Option ℕ) → Some (Free a) ≡ Some (Free b) → a ≡ b
    same_next a b e = cc

pub open-list : (xs : List TableEntry) (slots : List Slot) (front : Option ℕ) (opened n : ℕ) (h : Opened) → entries_of slots ≡ xs → AreSlots slots front opened → front ≡ Some n → h.rank ≡ opened → entries_of (set slots n (Held h)) ≡ xs ++ (ranked n h).entry ∷ []
open-list xs slots front opened n h e s at rank =
    let f = front-slots slots front opened n s at in
    open-entries slots opened n f.next h s.before rank f.free ∙ ap (λ ys. ys ++ (ranked n h).entry ∷ []) e

pub set-state : (slots : List Slot) (front : Option ℕ) (opened n : ℕ) (g h : Opened) (x : Slot) → AreSlots slots front opened → n < length slots → h.rank ≡ g.rank → x ≡ get_or slots n x → x ≡ Held g → AreSlots (set slots n (Held h)) front opened
set-state slots front opened n g h x s l rank read is = set-slots slots front opened n g h s (read-slot slots n x (Held g) l read is) rank

pub set-list : (xs : List TableEntry) (slots : List Slot) (n : ℕ) (g h : Opened) (x : Slot) → entries_of slots ≡ xs → n < length slots → h.rank ≡ g.rank → x ≡ get_or slots n x → x ≡ Held g → entries_of (set slots n (Held h)) ≡ changed_at n (λ _. (ranked n h).entry) xs
set-list xs slots n g h x e l rank read is =
    set-entries slots n g h (read-slot slots n x (Held g) l read is) rank ∙ ap (changed_at n (λ _. (ranked n h).entry)) e

pub not-free : (slots : List Slot) (n : ℕ) (x : Slot) (next : Option ℕ) (h : IsHeld slots n) → x ≡ get_or slots n x → x ≡ Free next → ⊥
not-free slots n x next h read is = other h.opened next (sym (held-read slots n x h read) ∙ is)
  where
    other : (o : Opened) (next : Option ℕ) → Held o ≡ Free next → ⊥
    other o next e = cc
