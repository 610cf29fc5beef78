use Rattle.std.proofs.Common.{rules}
use Rattle.mux_edge.proofs.Own.{few_after_insert}
use Rattle.mux_edge.proofs.table.StreamTable.put.Goals as goal

pub returns-clause-rest : goal.returns-clause-rest
returns-clause-rest g c = record {
  others = search rules;
  listener = search rules;
  few = (search rules, few_after_insert c.args.self.now.most_own c.args.number c.new-entry.result c.args.self.now.entries.entries c.insert.new.self.entries (search rules) c.requires.place);
}
