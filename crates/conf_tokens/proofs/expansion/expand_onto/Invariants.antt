use Rattle.std.proofs.Common.{◌≡◌, ◌+◌, length}
use Rattle.conf_rules.specs.Tokens.{expand_from}
use Rattle.conf_tokens.specs.Puts.{with_text_before}
use Rattle.conf_tokens.specs.Seen.{view_as_defined}
use Rattle.conf_tokens.proofs.expansion.expand_onto.Given as goal

abbrev pub invariant-loop-byte : goal.invariant-loop-byte
invariant-loop-byte l = record {
  whole : l.at + length l.left ≡ l.start + length l.text;
  read : with_text_before l.out (expand_from l.set (view_as_defined l.view) 0 l.at l.left) ≡ with_text_before l.fn.front (expand_from l.set (view_as_defined l.view) 0 l.start l.text);
}

abbrev pub decreases-loop-byte : goal.decreases-loop-byte
decreases-loop-byte l = length l.left
