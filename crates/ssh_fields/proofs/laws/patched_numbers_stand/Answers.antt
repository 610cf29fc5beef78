use Rattle.ssh_fields.proofs.Fields.{u32_at-with_u32, length-with_u32, take-with_u32, drop-behind-with_u32}
use Rattle.ssh_fields.proofs.laws.patched_numbers_stand.Goals as goal

pub returns : goal.returns
returns c = record {
  stands = u32_at-with_u32;
  rest = λ bytes at n fits. (length-with_u32 bytes at n fits, take-with_u32 bytes at n fits, drop-behind-with_u32 bytes at n fits);
}
