use Rattle.std.proofs.Common.{◌≡◌, ◌+◌, length}
use Rattle.conf_rules.specs.declared.quoting.Quoting.TheVariants.{Between}
use Rattle.conf_rules.specs.Words.{words_from}
use Rattle.conf_lexer.specs.Reading.{with_words_before}
use Rattle.conf_lexer.proofs.words.all_words.Given as goal

abbrev pub invariant-loop-byte : goal.invariant-loop-byte
invariant-loop-byte l = record {
  whole : l.at + length l.left ≡ length l.rest;
  read : with_words_before l.words l.word (words_from l.quoting l.at l.left) ≡ words_from Between 0 l.rest;
}

abbrev pub decreases-loop-byte : goal.decreases-loop-byte
decreases-loop-byte l = length l.left
