use Rattle.std.proofs.Common.{not, rules}
use Rattle.std.proofs.lemmas.Fn.{filter_same}
use Rattle.mux_edge.specs.Ready.{is_join}
use Rattle.mux_edge.proofs.table.ready.ReadyQueue.drop_own_listener.Goals as goal

pub returns-then-own_listener-clause-gone : goal.returns-then-own_listener-clause-gone
returns-then-own_listener-clause-gone c = λ _. filter_same _ (λ ready. not (is_join c.args.number ready)) _ (λ x b f k. search rules) _ _ c.retain.ensures.filtered
