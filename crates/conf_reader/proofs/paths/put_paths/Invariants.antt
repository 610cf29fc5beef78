use Rattle.std.proofs.Common.{◌≡◌, drop}
use Rattle.conf_rules.specs.Includes.{paths_from}
use Rattle.conf_tokens.specs.Known.{known}
use Rattle.conf_reader.specs.Left.{source_of}
use Rattle.conf_reader.proofs.PathLemmas.{onto}
use Rattle.conf_reader.proofs.paths.put_paths.Given as goal

abbrev pub invariant-loop-word : goal.invariant-loop-word
invariant-loop-word l = onto l.paths (paths_from (source_of l.system) (known l.facts) l.original (drop l.word-index l.words)) ≡ paths_from (source_of l.system) (known l.facts) l.original l.words
