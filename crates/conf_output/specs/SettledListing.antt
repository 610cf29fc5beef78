-- Resolutions whose rows give what settings keep, and what is listed of them.
use Rattle.std.specs.Prelude.{◌≡◌, List, Option, Result, flat_map}
use Rattle.mux_outside.specs.declared.facts.Facts.{Facts as TheFacts}
use Rattle.conf_rules.specs.declared.key.TheConstants.{LISTING_ORDER}
use Rattle.conf_rules.specs.declared.causes.ListError.{ListError}
use Rattle.conf_rules.specs.Results.{GivesReading}
use Rattle.conf_rules.specs.Wants.{list_wants_memory}
use Rattle.conf_rules.specs.Texts.{Bytes}
use Rattle.conf_rules.specs.Recorded.{Recorded}
use Rattle.conf_rules.specs.Rows.{LineRow, given}
use Rattle.conf_rules.specs.Listing.{listing_over, control_path_at}
use Rattle.conf_options.specs.Kept.{Given, KeepsSettings}
use Rattle.conf_tokens.specs.Known.{known}

-- the name of the command line, the facts, and settings that keep what the rows give
pub record SettledListing (recorded : Recorded) (rows : List LineRow) (settings : List Given) (original : Bytes)
    (machine : TheFacts) : Type 0 where
  pub name : recorded.asked.original ≡ original
  pub facts : recorded.facts ≡ known machine
  pub keeps : KeepsSettings settings (flat_map given rows)

-- the result is the listing of each such resolution, unless memory ran out
abbrev pub ListsSettings : Result Bytes ListError → List Given → Bytes → TheFacts → Type 0
ListsSettings result settings original facts =
    (recorded : Recorded) (rows : List LineRow) → SettledListing recorded rows settings original facts
    → GivesReading list_wants_memory result (listing_over LISTING_ORDER recorded rows)

-- the result is the control path of each such resolution, unless memory ran out
abbrev pub HasControlPath : Result (Option Bytes) ListError → List Given → Bytes → TheFacts → Type 0
HasControlPath result settings original facts =
    (recorded : Recorded) (rows : List LineRow) → SettledListing recorded rows settings original facts
    → GivesReading list_wants_memory result (control_path_at recorded rows)
