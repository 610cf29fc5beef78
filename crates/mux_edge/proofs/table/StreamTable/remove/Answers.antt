use Rattle.std.proofs.Common.{eqb, rules}
use Rattle.mux_edge.proofs.Own.{few_after_remove, few_at}
use Rattle.mux_edge.proofs.table.StreamTable.remove.Goals as goal

pub returns-clause-rest : goal.returns-clause-rest
returns-clause-rest g c = record {
  others = search rules;
  listener = search rules;
  few = (search rules, λ few. few_at c.give_last.new.self.most_own _ _ (search rules) (few_after_remove c.give_last.new.self.most_own (eqb c.args.number) c.give_last.new.self.entries.entries c.if-self.self.entries.entries (search rules) (c.give_last.ensures.rest.few.1 few)));
}
