use Rattle.std.proofs.Common.{not, rules}
use Rattle.std.proofs.lemmas.Fn.{filter_same}
use Rattle.mux_edge.specs.Ready.{is_ready_accept}
use Rattle.mux_edge.proofs.table.ready.ReadyQueue.drop_accept.Goals as goal

pub returns-clause-items : goal.returns-clause-items
returns-clause-items c = filter_same _ (λ ready. not (is_ready_accept ready)) _ (λ x b f k. search rules) _ _ c.retain.ensures.filtered
