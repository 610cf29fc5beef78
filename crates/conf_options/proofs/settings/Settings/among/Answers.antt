use Rattle.std.proofs.Common.{◌≡◌, ap, ◌∙◌, true, false}
use Rattle.conf_rules.specs.Rows.{values_among}
use Rattle.conf_rules.specs.Kinds.{keeps_every}
use Rattle.conf_options.proofs.ListsLemmas.{among-singles, among-collected}
use Rattle.conf_options.proofs.settings.Settings.among.Goals as goal

pub returns-then-keeps_every : goal.returns-then-keeps_every
returns-then-keeps_every c =
    let every : keeps_every c.args.key ≡ true = cc in
    let all : c.as_slice.result.now ≡ c.self.inside.collected.items = cc in
    ap (values_among c.args.key) all ∙ (among-collected c.args.key c.self.inside.singles.items c.self.inside.collected.items every c.self.invariant.0 ∙ ap (values_among c.args.key) c.self.view_is)

pub returns-else-keeps_every : goal.returns-else-keeps_every
returns-else-keeps_every c =
    let single : keeps_every c.args.key ≡ false = cc in
    let all : c.as_slice-else-keeps_every.result.now ≡ c.self.inside.singles.items = cc in
    ap (values_among c.args.key) all ∙ (among-singles c.args.key c.self.inside.singles.items c.self.inside.collected.items single c.self.invariant.1 ∙ ap (values_among c.args.key) c.self.view_is)
