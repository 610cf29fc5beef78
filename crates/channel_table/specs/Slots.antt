-- The slots of a table: which channels they hold, in order of opening, and the links of the free
-- ones.
use Rattle.std.specs.Prelude.{ℕ, ◌≡◌, ◌+◌, ◌<◌, ◌≤◌, ◌^◌, nat_lt, suc, zero, if◌then◌else◌, List, [], ◌∷◌, length, map, Option, Some, None, slice_get}
use Rattle.channel_table.specs.declared.slots.Slot.{Slot}
use Rattle.channel_table.specs.declared.slots.Slot.TheVariants.{Free, Held}
use Rattle.channel_table.specs.declared.slots.Opened.{Opened}
use Rattle.mux_history.specs.declared.limits.TheConstants.{NUMBERS_END}
use Rattle.channel_table.specs.Entries.{TableEntry}

-- what contracts see of the slots: the channels in order of opening, the front one of the free
-- slots, and how many channels were opened so far
pub record SlotsState : Type 0 where
  pub entries : List TableEntry
  pub front : Option ℕ
  pub opened : ℕ

-- a channel, and how many were opened before it
pub record Ranked : Type 0 where
  pub rank : ℕ
  pub entry : TableEntry

-- the channel that a slot holds, under the slot's number
abbrev pub ranked : ℕ → Opened → Ranked
ranked n h = record {
  rank = h.rank;
  entry =
      record { number = n; channel = h.channel; ledger = h.ledger };
}

-- before the first that was opened later
abbrev pub placed : Ranked → List Ranked → List Ranked
placed x [] = x ∷ []
placed x (y ∷ ys) = if nat_lt x.rank y.rank then x ∷ y ∷ ys else y ∷ placed x ys

-- the channels of slots whose numbers begin with this one, in order of opening
abbrev pub ranked_from : ℕ → List Slot → List Ranked
ranked_from n [] = []
ranked_from n (Free next ∷ slots) = ranked_from (n + 1) slots
ranked_from n (Held h ∷ slots) = placed (ranked n h) (ranked_from (n + 1) slots)

abbrev pub entries_of : List Slot → List TableEntry
entries_of slots = map (λ (x : Ranked). x.entry) (ranked_from 0 slots)

-- how many slots are free
abbrev pub free_count : List Slot → ℕ
free_count [] = 0
free_count (Free next ∷ slots) = free_count slots + 1
free_count (Held h ∷ slots) = free_count slots

-- so many free slots are linked, from this one on
abbrev pub IsLinked : ℕ → List Slot → Option ℕ → Type 0
IsLinked zero slots front = front ≡ None
IsLinked (suc count) slots front =
    (n : ℕ) × ((next : Option ℕ) × ((front ≡ Some n) × (slice_get slots n ≡ Some (Free next))
    × IsLinked count slots next))

-- fewer channels than these were opened before any of the slots' channels
abbrev pub AreOpenedBefore : ℕ → List Slot → Type 0
AreOpenedBefore opened [] = Unit {0}
AreOpenedBefore opened (Free next ∷ slots) = AreOpenedBefore opened slots
AreOpenedBefore opened (Held h ∷ slots) = (h.rank < opened) × AreOpenedBefore opened slots

-- there are at most 16,384 slots, and all free ones are linked
pub record AreSlots (slots : List Slot) (front : Option ℕ) (opened : ℕ) : Type 0 where
  pub few : length slots ≤ NUMBERS_END
  pub linked : IsLinked (free_count slots) slots front
  pub before : AreOpenedBefore opened slots

-- a slot is free, and there is a rank for one more channel
abbrev pub HasReadySlot : SlotsState → Type 0
HasReadySlot s = (n : ℕ) × ((s.front ≡ Some n) × (s.opened + 1 < 2 ^ 64))
