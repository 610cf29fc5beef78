-- A message with another recipient or another sender, and where a payload shows its channel
-- numbers.
use Rattle.std.specs.Prelude.{◌≡◌, ℕ, ◌+◌, ◌≤◌, List, length, Option, Some, None}
use Rattle.ssh_fields.specs.Fields.{u32_at}
use Rattle.ssh_grammar.specs.Messages.{Open, Confirmation, Message, Plain, To}

abbrev pub to_recipient : ℕ → Message → Message
to_recipient n (Plain m) = Plain m
to_recipient n (To recipient m) = To n m

abbrev pub to_sender : ℕ → Message → Message
to_sender n (Plain (Open kind sender window maximum rest what)) =
    Plain (Open kind n window maximum rest what)
to_sender n (To recipient (Confirmation sender window maximum rest)) =
    To recipient (Confirmation n window maximum rest)
to_sender n m = m

-- the number stands at the place; a message without the number has no place
abbrev pub NumberStandsAt : Option ℕ → Option ℕ → List ℕ → Type 0
NumberStandsAt None None p = Unit {0}
NumberStandsAt (Some n) (Some at) p = (at + 4 ≤ length p) × (u32_at at p ≡ n)
NumberStandsAt None (Some at) p = ⊥
NumberStandsAt (Some n) None p = ⊥
