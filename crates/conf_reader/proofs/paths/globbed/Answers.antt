use Rattle.std.proofs.Common.{◌∙◌, sym}
use Rattle.conf_reader.proofs.FoundLemmas.{globbed-is}
use Rattle.conf_reader.proofs.paths.globbed.Goals as goal

pub returns-clause-found : goal.returns-clause-found
returns-clause-found g c = λ recorded t.
    globbed-is recorded c.args.path.now c.in_ok-paths.paths.items c.in_ok-in_order.field-0.items (sym c.is_glob.ensures ∙ c.if-not-is_glob.false) (sym c.ends_with_slash.ensures ∙ c.if-ends_with_slash.false) (c.in_ok-paths.ensures.found recorded t) c.in_ok-in_order.ensures
