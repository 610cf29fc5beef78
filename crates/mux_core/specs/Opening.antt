-- How a core judges an open that a client sends.
use Rattle.std.specs.Prelude.{ℕ, true, false, List, Option, Some, None, is_some}
use Rattle.ssh_grammar.specs.Messages.{Opens, Forwarded}
use Rattle.ssh_grammar.specs.SpellMessage.{open_failure}
use Rattle.mux_history.specs.declared.why.Why.TheVariants as why
use Rattle.mux_history.specs.Policy.{may_open}
use Rattle.mux_history.specs.Said.{reason_for, text_for}
use Rattle.channel_table.specs.Entries.{number_of_own}
use Rattle.forward_rules.specs.State.{Forward}
use Rattle.forward_rules.specs.Step.{forward_owner_at}
use Rattle.mux_core.specs.declared.verdict.Verdict.{Verdict}
use Rattle.mux_core.specs.declared.verdict.Verdict.TheVariants as verdict
use Rattle.mux_core.specs.State.{CoreState}

-- a failed open
abbrev pub fails_with : ℕ → ℕ → List ℕ → Verdict
fails_with sender reason text = verdict.Answer (open_failure sender reason text)

-- by what it is about: permitted sessions and direct channels alone
abbrev pub kind_verdict : CoreState → ℕ → Opens → Option Verdict
kind_verdict s sender what = elim (may_open s.policy what) [
  | true ↦ None
  | false ↦ Some (fails_with sender (reason_for what) (text_for what))
]

-- the verdict on one that isn't sent whatever room there is; its own number may not be in use
abbrev pub open_verdict : CoreState → ℕ → ℕ → Opens → Option Verdict
open_verdict s k sender what = elim (is_some (number_of_own s.channels k sender)) [
  | true ↦ Some (verdict.Drop (why.OwnInUse sender))
  | false ↦ kind_verdict s sender what
]

-- ---- a server's open

-- whose it is
abbrev pub owner_for : Opens → List Forward → Option ℕ
owner_for (Forwarded key) fs = forward_owner_at key fs
owner_for _ fs = None
