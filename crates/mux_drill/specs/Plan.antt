-- What a drill plays, and how a text says it.
use Rattle.std.specs.Prelude.{ℕ, ◌≤◌, List, Option, Some, None, Result, Ok, Err}
use Rattle.conf_rules.specs.Reading.{drill_of}
use Rattle.conf_rules.specs.Texts.{split_at_each}
use Rattle.conf_rules.specs.declared.command.Command.{Command}
use Rattle.conf_rules.specs.declared.command.Command.TheVariants.{List as Listing, Master, Control, Drill}
use Rattle.conf_rules.specs.declared.usage.UsageError.{UsageError}
use Rattle.mux_drill.specs.declared.plan.Plan.{Plan}

-- the plan of a command that is a drill
abbrev pub plan_in : Result Command UsageError → Option Plan
plan_in (Ok (Drill seed clients messages)) =
    Some (record { seed = seed; clients = clients; messages = messages })
plan_in (Ok (Listing asked)) = None
plan_in (Ok (Master asked transport permits)) = None
plan_in (Ok (Control asked control)) = None
plan_in (Err e) = None

-- the plan that a text says: SEED, CLIENTS and MESSAGES with single spaces between them
unfoldable pub plan_of : List ℕ → Option Plan
plan_of text = plan_in (drill_of (split_at_each 32 text))

-- at most 64 clients, and one at least, with at most 100,000 messages
pub record IsPlan (plan : Plan) : Type 0 where
  pub some : 1 ≤ plan.clients
  pub few : plan.clients ≤ 64
  pub short : plan.messages ≤ 100000
