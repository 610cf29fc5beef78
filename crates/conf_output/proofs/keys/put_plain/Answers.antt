use Rattle.conf_rules.specs.Kinds.{default_of}
use Rattle.conf_rules.specs.Rows.{values_among}
use Rattle.conf_output.proofs.ValueLemmas.{unset-values}
use Rattle.conf_output.proofs.keys.put_plain.Goals as goal

pub returns-in-None : goal.returns-in-None
returns-in-None c = rw (unset-values (default_of c.args.key) (values_among c.args.key c.args.settings.now) c.in-None.ensures) c.put_default.ensures
