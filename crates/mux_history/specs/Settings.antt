-- The settings of a run and of a client alone.
use Rattle.std.specs.Prelude.{ℕ, List}
use Rattle.mux_outside.specs.declared.house.HouseReply.{HouseReply}
use Rattle.mux_history.specs.Policy.{Policy}
use Rattle.mux_history.specs.Choices.{FromLists, TheirOwn}
use Rattle.mux_history.specs.Log.{Setting}

-- with the picks and the forwarder's replies as they come
abbrev pub by_lists : Policy → ℕ → List ℕ → List HouseReply → Setting
by_lists policy pid picks replies =
    record { policy = policy; pid = pid; choices = FromLists picks replies }

-- with the numbers that the client sends, and the replies that its items carry
abbrev pub by_own : Policy → ℕ → Setting
by_own policy pid = record { policy = policy; pid = pid; choices = TheirOwn }
