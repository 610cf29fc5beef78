-- A reader of fields before and after a call.
use Rattle.std.specs.Prelude.{◌≡◌}
use Rattle.ssh_fields.specs.declared.field_reader.FieldReader.{FieldReader}

-- nothing was read
pub record IsUnchanged (old new : FieldReader) : Type 0 where
  pub cursor : new.cursor ≡ old.cursor
  pub at : new.at ≡ old.at
