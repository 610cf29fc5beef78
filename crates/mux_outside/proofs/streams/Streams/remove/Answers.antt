use Rattle.std.proofs.Common.{rules, not, ◌==◌, ap, ◌∙◌}
use Rattle.std.proofs.lemmas.Fn.{filter_same}
use Rattle.mux_outside.specs.Streams.{without}
use Rattle.mux_outside.proofs.streams.Streams.remove.Goals as goal

pub returns : goal.returns
returns c = filter_same _ (λ s. not (s == c.args.stream)) _ (λ x b f' k. search rules) _ _ c.retain.ensures.filtered ∙ ap (without c.args.stream) c.self.view_is
