-- What files record, as definitions see it.
use Rattle.std.specs.Prelude.{◌≡◌, List, Option, Some, None}
use Rattle.mux_outside.specs.declared.pairs.Pair.{Pair}
use Rattle.mux_outside.specs.Files.{file_content_at, names_in}
use Rattle.conf_rules.specs.Recorded.{Recorded}

-- files record what they hold
abbrev pub RecordsFiles : Option (List Pair) → Recorded → Type 0
RecordsFiles None recorded = ⊥
RecordsFiles (Some files) recorded = (recorded.content ≡ file_content_at files) × (recorded.names ≡ names_in files)
