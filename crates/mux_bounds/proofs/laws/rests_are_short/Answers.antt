-- Rests are short.
use Rattle.ssh_grammar.specs.Said.{InControl, InProxy}
use Rattle.mux_bounds.proofs.Lengths.{rest-few}
use Rattle.mux_bounds.proofs.laws.rests_are_short.Goals as goal

pub returns : goal.returns
returns c = λ bytes. record { client = rest-few InControl bytes; server = rest-few InProxy bytes }
