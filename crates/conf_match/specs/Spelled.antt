-- What a criterion's own word says, without where its bytes lie.
use Rattle.std.specs.Option.{option_copied}
use Rattle.conf_rules.specs.Criteria.{Spelled}
use Rattle.conf_match.specs.declared.named.Spelled.{Spelled as TheSpelled}

-- what a word is
abbrev pub spelled_shown : TheSpelled → Spelled
spelled_shown s = record { negated = s.negated; name = s.name; value = option_copied s.value }
