use Rattle.std.proofs.Common.{rules, not, ◌==◌, ap, ◌∙◌}
use Rattle.std.proofs.lemmas.Fn.{filter_same}
use Rattle.mux_outside.specs.OwnStreams.{without_stream}
use Rattle.mux_outside.proofs.own_streams.OwnStreams.remove.Goals as goal

pub returns : goal.returns
returns c = filter_same _ (λ s. not (s.number == c.args.number)) _ (λ x b f' k. search rules) _ _ c.retain.ensures.filtered ∙ ap (without_stream c.args.number) c.self.view_is
