use Rattle.std.proofs.Common.{◌≡◌, refl, true, arith}
use Rattle.std.proofs.lemmas.Grind.{common_steps}
use Rattle.mux_outside.specs.Streams.{among}
use Rattle.mux_drill.proofs.StepLemmas.{piece_short, speaks_some}
use Rattle.mux_drill.proofs.play.Play.go_on.Goals as goal

pub returns-clause-fits : goal.returns-clause-fits
returns-clause-fits c =
    let rest = c.args.self.now.said.rest in
    let bounds = piece_short rest (speaks_some rest c.requires.speaks) in
    let opened : among c.stream-2.result c.args.log.now.state.seen.streams ≡ true = grind (arith, common_steps) in
    (refl, opened, bounds.0, bounds.1)
