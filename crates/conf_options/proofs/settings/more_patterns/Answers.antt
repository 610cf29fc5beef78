use Rattle.conf_options.proofs.ChangeLemmas.{names-changed}
use Rattle.conf_options.proofs.settings.more_patterns.Goals as goal

pub returns-clause-changed : goal.returns-clause-changed
returns-clause-changed c = names-changed c.take_patterns.result c.take_patterns.new.kept c.in-Names.names c.args.kept.now c.in-Names.is c.take_patterns.ensures.changed
