-- The own faults that are counted for orders that make nothing.
use Rattle.std.specs.Prelude.{◌≡◌, ◌≤◌, ◌+◌, ◌-◌, ◌^◌, ◌⊎◌, ℕ, Bool, true, false, List, filter, length, Option, Some, None}
use Rattle.mux_outside.specs.Counts.{Rose}
use Rattle.mux_outside.specs.declared.house_mark.HouseMark.TheVariants.{HouseOrder}
use Rattle.mux_outside.specs.declared.mark.Mark.{Mark}
use Rattle.mux_outside.specs.declared.mark.Mark.TheVariants.{House}
use Rattle.mux_outside.specs.declared.order.Order.{Order}
use Rattle.mux_outside.specs.declared.order.Order.TheVariants.{Listen, Connect}

-- an order to listen or to connect that got no number
abbrev pub is_unmade_order : Order → Option ℕ → Bool
is_unmade_order (Listen host port) None = true
is_unmade_order (Connect host port) None = true
is_unmade_order order number = false

-- the mark of one
abbrev pub is_order_unmade : Mark → Bool
is_order_unmade (House (HouseOrder order number)) = is_unmade_order order number
is_order_unmade mark = false

-- how many of the marks that are recorded are such; none where nothing is recorded
abbrev pub unmade_in : Option (List Mark) → ℕ
unmade_in (Some marks) = length (filter is_order_unmade marks)
unmade_in None = 0

-- each order that got no number since is an own fault that was counted, unless that count stands at
-- the end of its type; it never falls
pub record OwnCounted (recorded recorded' : Option (List Mark)) (faults faults' : ℕ) : Type 0 where
  pub later : faults ≤ faults'
  pub counted : (unmade_in recorded' + faults ≤ unmade_in recorded + faults') ⊎ (2 ^ 64 - 1 ≤ faults')

-- an order that got no number was counted as an own fault, and another leaves the count
abbrev pub OrderCounted : Order → Option ℕ → ℕ → ℕ → Type 0
OrderCounted (Listen host port) None faults faults' = Rose faults faults'
OrderCounted (Connect host port) None faults faults' = Rose faults faults'
OrderCounted order number faults faults' = faults' ≡ faults
