use Rattle.mux_client.specs.Verdicts.{text_of_line}
use Rattle.mux_client.proofs.ShowLines.{no-text}
use Rattle.mux_client.proofs.TalkSteps.{want-of-memory}
use Rattle.mux_client.proofs.talking.show.Goals as goal

pub returns-in_err-text-clause-shows : goal.returns-in_err-text-clause-shows
returns-in_err-text-clause-shows g c =
    want-of-memory c.from_residual.result _ _ c.from_residual.ensures.1 (no-text (g.S.Sink.recorded c.args.out.now) c.args.out.now (text_of_line c.args.line))
