use Rattle.std.proofs.Common.{not, rules}
use Rattle.std.proofs.lemmas.Fn.{filter_same}
use Rattle.mux_edge.specs.Ready.{is_ready_of}
use Rattle.mux_edge.proofs.table.ready.ReadyQueue.drop_stream.Goals as goal

pub returns-then-entry-clause-gone : goal.returns-then-entry-clause-gone
returns-then-entry-clause-gone g c = λ _. filter_same _ (λ ready. not (is_ready_of c.args.number ready)) _ (λ x b f k. search rules) _ _ c.retain.ensures.filtered
