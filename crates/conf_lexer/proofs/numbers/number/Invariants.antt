use Rattle.std.proofs.Common.{◌≡◌, drop}
use Rattle.std.specs.List.{list_all}
use Rattle.std.specs.Char.{is_ascii_digit}
use Rattle.conf_rules.specs.Numbers.{digits_from}
use Rattle.conf_lexer.proofs.numbers.number.Given as goal

abbrev pub invariant-loop-digit : goal.invariant-loop-digit
invariant-loop-digit l = record {
  digits : list_all is_ascii_digit (drop l.digit-index l.word) ≡ list_all is_ascii_digit l.word;
  so_far : digits_from l.number (drop l.digit-index l.word) ≡ digits_from 0 l.word;
}
