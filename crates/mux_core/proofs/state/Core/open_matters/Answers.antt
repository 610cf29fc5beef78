use Rattle.std.proofs.Common.{rules}
use Rattle.mux_core.proofs.Admits.{matters-few}
use Rattle.mux_core.proofs.state.Core.open_matters.Goals as goal

pub returns : goal.returns
returns c = λ rows st. matters-few c.args.self.now rows _ st (λ few. search rules)
