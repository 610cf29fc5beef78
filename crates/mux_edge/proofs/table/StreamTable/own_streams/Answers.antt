use Rattle.std.proofs.Common.{rules}
use Rattle.std.proofs.lemmas.Iterator.Consumers.{YieldsList-at, YieldsList-from_filter, YieldsList-from_rest, count_from_yields_List}
use Rattle.indexmap.specs.IndexMap.{keys}
use Rattle.mux_outside.specs.OwnStreams.{is_own}
use Rattle.mux_edge.proofs.table.StreamTable.own_streams.Goals as goal

pub returns : goal.returns
returns g c = count_from_yields_List c.filter.result _ c.count.ensures.ran (YieldsList-from_filter _ is_own (YieldsList-at c.filter.ensures.source (YieldsList-from_rest (keys c.args.self.now.entries) c.keys.ensures.rest)) c.filter.ensures.closure (λ x r q k. search rules))
