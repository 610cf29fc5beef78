-- The outcome of words over files, facts and commands that record their calls and never fail.
use Rattle.std.specs.Prelude.{ℕ, List, [], Option, Some, None, Result, Ok, Err}
use Rattle.conf_rules.specs.declared.asked.Asked.{Asked}
use Rattle.conf_rules.specs.declared.command.Command.{Command}
use Rattle.conf_rules.specs.declared.control.MasterCommand.{MasterCommand}
use Rattle.conf_rules.specs.declared.command.Command.TheVariants as commands
use Rattle.conf_rules.specs.declared.command.Permissions.{Permissions}
use Rattle.conf_rules.specs.declared.key.TheConstants.{LISTING_ORDER}
use Rattle.conf_rules.specs.declared.causes.ListError.{ListError}
use Rattle.conf_rules.specs.Texts.{Bytes}
use Rattle.conf_rules.specs.Recorded.{Facts, Recorded}
use Rattle.conf_rules.specs.Rows.{LineRow}
use Rattle.conf_rules.specs.Resolution.{all_rows, refusal_in, execs}
use Rattle.conf_rules.specs.Listing.{listing_over, control_path_at}
use Rattle.conf_rules.specs.Reading.{reading}
use Rattle.conf_rules.specs.Diagnostics.{Ending, BadWords, BadLine, BadListing, NoControlPath}

-- the outcome of words: an end and its line, a listing, a master that opens its sockets, or a drill
pub data CommandOutcome : Type 0 where
  Ends : Ending → CommandOutcome
  Writes : Bytes → CommandOutcome
  Opens : (control transport : Bytes) (permits : Permissions) → CommandOutcome
  Drills : (seed clients messages : ℕ) → CommandOutcome
  Joins : (control : Bytes) (asked : Asked) (what : MasterCommand) → CommandOutcome

-- all that is recorded, except what was requested
pub record Machine : Type 0 where
  pub content : Bytes → Option Bytes
  pub names : Bytes → List Bytes
  pub facts : Facts
  pub status : Bytes → ℕ

-- a machine with what was requested
abbrev pub recorded_of : Machine → Asked → Recorded
recorded_of m asked = record {
  content = m.content;
  names = m.names;
  facts = m.facts;
  asked = asked;
  status = m.status;
}

-- the outcome of a listing
abbrev pub listed_end : Result Bytes ListError → CommandOutcome
listed_end (Ok text) = Writes text
listed_end (Err e) = Ends (BadListing e)

-- the outcome of a control path
abbrev pub opened_end : Bytes → Permissions → Result (Option Bytes) ListError → CommandOutcome
opened_end transport permits (Ok (Some path)) = Opens path transport permits
opened_end transport permits (Ok None) = Ends NoControlPath
opened_end transport permits (Err e) = Ends (BadListing e)

-- the outcome of a control path if a running master gets a request
abbrev pub joined_end : Asked → MasterCommand → Result (Option Bytes) ListError → CommandOutcome
joined_end asked what (Ok (Some path)) = Joins path asked what
joined_end asked what (Ok None) = Ends NoControlPath
joined_end asked what (Err e) = Ends (BadListing e)

-- the outcome of rows, unless one is refused
abbrev pub unrefused : List LineRow → CommandOutcome → CommandOutcome
unrefused rows outcome = elim (refusal_in rows) [ Some e ↦ Ends (BadLine e) | None ↦ outcome ]

-- the outcome of the listing of some rows
abbrev pub list_outcome : Recorded → List LineRow → CommandOutcome
list_outcome recorded rows = unrefused rows (listed_end (listing_over LISTING_ORDER recorded rows))

-- the outcome of the control path of some rows
abbrev pub master_outcome : Recorded → Bytes → Permissions → List LineRow → CommandOutcome
master_outcome recorded transport permits rows =
    unrefused rows (opened_end transport permits (control_path_at recorded rows))

-- the outcome of the control path of some rows if a running master gets a request
abbrev pub client_outcome : Recorded → MasterCommand → List LineRow → CommandOutcome
client_outcome recorded what rows = unrefused rows (joined_end recorded.asked what (control_path_at recorded rows))

-- the outcome of a command
abbrev pub command_outcome : Machine → Command → CommandOutcome
command_outcome m (commands.List asked) =
    list_outcome (recorded_of m asked) (all_rows (recorded_of m asked))
command_outcome m (commands.Master asked transport permits) =
    master_outcome (recorded_of m asked) transport permits (all_rows (recorded_of m asked))
command_outcome m (commands.Control asked what) =
    client_outcome (recorded_of m asked) what (all_rows (recorded_of m asked))
command_outcome m (commands.Drill seed clients messages) = Drills seed clients messages

-- the outcome of words
abbrev pub outcome : Machine → List Bytes → CommandOutcome
outcome m words = elim (reading words) [
  | Ok command ↦ command_outcome m command
  | Err e ↦ Ends (BadWords e)
]

-- the commands that a command reaches
abbrev pub command_execs : Machine → Command → List Bytes
command_execs m (commands.List asked) = execs (recorded_of m asked)
command_execs m (commands.Master asked transport permits) = execs (recorded_of m asked)
command_execs m (commands.Control asked what) = execs (recorded_of m asked)
command_execs m (commands.Drill seed clients messages) = []

-- the commands that are run for words
abbrev pub ran_for : Machine → List Bytes → List Bytes
ran_for m words = elim (reading words) [ Ok command ↦ command_execs m command | Err e ↦ [] ]
