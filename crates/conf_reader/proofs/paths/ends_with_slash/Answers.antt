use Rattle.std.proofs.Common.{length, ◌-◌, arith}
use Rattle.conf_reader.proofs.PathLemmas.{slash-end}
use Rattle.conf_reader.proofs.paths.ends_with_slash.Goals as goal

pub returns-in-len1-up : goal.returns-in-len1-up
returns-in-len1-up c = slash-end c.args.path.now (length c.args.path.now - 1) (omega (arith, c.in-len1-up.len_at_least))
