use Rattle.std.proofs.Common.{rules, tests}
use Rattle.std.proofs.lemmas.Iterator.{YieldsList-from_slice}
use Rattle.std.proofs.lemmas.Iterator.Consumers.{YieldsList-from_filter, count_from_yields_List}
use Rattle.house_forward.specs.Links.{is_channel}
use Rattle.house_forward.proofs.relays.channels_in.Goals as goal

pub returns : goal.returns
returns c = count_from_yields_List c.filter.result c.count.result c.count.ensures.ran (YieldsList-from_filter _ is_channel (YieldsList-from_slice c.args.links.now cc) c.filter.ensures.closure (λ x b q k. search (rules, tests)))
