use Rattle.std.specs.Prelude.{true, false}
use Rattle.std.proofs.Common.{refl}
use Rattle.ssh_fields.specs.Laws.{BooleansReadBack}
use Rattle.ssh_fields.proofs.Fields.{take_u32-u32, take_str-str}
use Rattle.ssh_fields.proofs.laws.spelled_fields_read_back.Goals as goal

booleans : BooleansReadBack
booleans true rest = refl
booleans false rest = refl

pub returns : goal.returns
returns c = record { numbers = take_u32-u32; strings = take_str-str; booleans = booleans }
