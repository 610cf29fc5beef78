use Rattle.ssh_grammar.proofs.Cuts.{cut-append}
use Rattle.ssh_grammar.proofs.Frames.{cut-is, cut-only}
use Rattle.ssh_grammar.proofs.laws.frames_of_a_stream.Goals as goal

pub returns : goal.returns
returns c = record { longest = cut-is; no_other = cut-only; join = cut-append }
