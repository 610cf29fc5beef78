-- What is recorded for a resolution.
use Rattle.std.specs.Prelude.{◌≡◌, List, Option}
use Rattle.mux_outside.specs.declared.pairs.Pair.{Pair}
use Rattle.mux_outside.specs.declared.statuses.CommandStatus.{CommandStatus}
use Rattle.conf_rules.specs.declared.asked.Asked.{Asked}
use Rattle.conf_rules.specs.Recorded.{Facts, Recorded}
use Rattle.conf_match.specs.Evaluated.{RecordsStatus}
use Rattle.conf_reader.specs.Known.{RecordsFiles}

-- if files and commands record: of what was asked, with these facts
abbrev pub WhereRecorded :
    Asked → Facts → Option (List Pair) → Option (List CommandStatus) → (Recorded → Type 0) → Type 0
WhereRecorded asked facts files statuses fact =
    (recorded : Recorded) → recorded.asked ≡ asked → recorded.facts ≡ facts → RecordsFiles files recorded
    → RecordsStatus statuses recorded.status → fact recorded
