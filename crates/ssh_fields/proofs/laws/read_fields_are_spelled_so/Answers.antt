use Rattle.ssh_fields.proofs.Fields.{take_u32-is, take_str-is}
use Rattle.ssh_fields.proofs.laws.read_fields_are_spelled_so.Goals as goal

pub returns : goal.returns
returns c = record { numbers = take_u32-is; strings = take_str-is }
