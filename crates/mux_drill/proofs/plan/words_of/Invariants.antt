use Rattle.std.proofs.Common.{◌≡◌, ◌++◌, drop}
use Rattle.conf_rules.specs.Texts.{split_at_each}
use Rattle.mux_drill.proofs.WordLemmas.{onto}
use Rattle.mux_drill.proofs.plan.words_of.Given as goal

-- the words so far, and the last one before the words that are left
abbrev pub invariant-loop-byte : goal.invariant-loop-byte
invariant-loop-byte l =
    l.words.items ++ onto l.word (split_at_each 32 (drop l.byte-index l.text)) ≡ split_at_each 32 l.text
