-- What the server's reply to a client's request does to the forwardings.
use Rattle.std.specs.Prelude.{ℕ, ◌==◌, ◌&&◌, not, Bool, true, false, List, Some, None, length}
use Rattle.ssh_fields.specs.Fields.{u32_at}
use Rattle.ssh_grammar.specs.Messages.{Global, Forward, Cancel}
use Rattle.mux_history.specs.Keys.{learns_port}
use Rattle.forward_rules.specs.State as kept
use Rattle.forward_rules.specs.Step.{forward_answered, cancel_answered}

-- the server must name the port that it chose, and doesn't
abbrev pub misses_port : Global → List ℕ → Bool
misses_port (Forward key) rest = learns_port key && not (length rest == 4)
misses_port what rest = false

-- a success makes live what was asked, and ends what was to be cancelled
abbrev pub after_success : ℕ → Global → List ℕ → List kept.Forward → List kept.Forward
after_success k (Forward key) rest fs = forward_answered k key (Some (u32_at 0 rest)) fs
after_success k (Cancel key) rest fs = cancel_answered k key true fs
after_success k what rest fs = fs

-- a failure ends what was asked, and leaves what was to be cancelled
abbrev pub after_failure : ℕ → Global → List kept.Forward → List kept.Forward
after_failure k (Forward key) fs = forward_answered k key None fs
after_failure k (Cancel key) fs = cancel_answered k key false fs
after_failure k what fs = fs
