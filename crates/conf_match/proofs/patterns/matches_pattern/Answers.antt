use Rattle.std.proofs.Common.{sym, ◌∙◌}
use Rattle.conf_match.proofs.PatternLemmas.{by-pieces}
use Rattle.conf_match.proofs.patterns.matches_pattern.Goals as goal

pub returns : goal.returns
returns c = c.takes_name.ensures ∙ sym (by-pieces c.args.pattern.now c.args.text.now)
