use Rattle.std.proofs.Common.{◌≡◌, ap, ◌∙◌, refl}
use Rattle.std.specs.List.{slice_get}
use Rattle.conf_rules.specs.declared.key.Key.TheVariants as keys
use Rattle.conf_rules.specs.Rows.{values_among, number_in}
use Rattle.conf_options.proofs.ListsLemmas.{among-singles}
use Rattle.conf_options.proofs.settings.Settings.port.Goals as goal

pub returns : goal.returns
returns c =
    let same : values_among keys.Port c.self.inside.singles.items ≡ values_among keys.Port c.args.self.now = among-singles keys.Port c.self.inside.singles.items c.self.inside.collected.items refl c.self.invariant.1 ∙ ap (values_among keys.Port) c.self.view_is in
    let port : c.port_of.result ≡ number_in 22 (slice_get (values_among keys.Port c.self.inside.singles.items) 0) = cc in
    port ∙ ap (λ l. number_in 22 (slice_get l 0)) same
