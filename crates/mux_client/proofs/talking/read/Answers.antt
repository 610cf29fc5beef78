use Rattle.std.proofs.Common.{◌++◌, ◌∙◌}
use Rattle.mux_client.specs.Talking.{IsTalk, Talking}
use Rattle.mux_client.proofs.ShowLines.{last-behind, shows-behind}
use Rattle.mux_client.proofs.TalkSteps.{handed-on}
use Rattle.mux_client.proofs.talking.read.Goals as goal

pub returns-in_err-read_once-clause-talking : goal.returns-in_err-read_once-clause-talking
returns-in_err-read_once-clause-talking g c start recorded held shown v =
    let f = c.loop.invariant.talking start recorded held shown v in
    handed-on c.from_residual.result c.in_err-read_once.field-0.0 _ _ c.from_residual.ensures.1
    (last-behind (λ more due. IsTalk c.args.asks.now c.in_err-read_once.field-0.0 start recorded more due) shown f
    (c.in_err-read_once.ensures.talking start recorded held (shown ++ f.more) f.holds))

pub loop-preserved : goal.loop-preserved
loop-preserved g c = record {
  talking = λ start recorded held shown v. let f = c.loop.invariant.talking start recorded held shown v in
      shows-behind (λ more. Talking c.args.asks.now start recorded held more c.read_once.new.client) shown f
      (c.in_ok-read_once.ensures.talking start recorded held (shown ++ f.more) f.holds);
  faults = c.in_ok-read_once.ensures.cause ∙ c.loop.invariant.faults;
}

pub returns-clause-talking : goal.returns-clause-talking
returns-clause-talking g c start recorded held shown v =
    let f = c.loop.invariant.talking start recorded held shown v in
    shows-behind (λ more. Talking c.args.asks.now start recorded held more c.read_once.new.client) shown f
    (c.in_ok-read_once.ensures.talking start recorded held (shown ++ f.more) f.holds)
