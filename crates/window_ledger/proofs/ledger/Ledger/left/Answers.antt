use Rattle.std.proofs.Common.{sym, subst}
use Rattle.ssh_grammar.specs.declared.side.Side.TheVariants.{Up}
use Rattle.mux_history.specs.Summary.{Closes}
use Rattle.mux_history.specs.Laws.{with_act}
use Rattle.window_ledger.specs.Stands.{IsStateOf}
use Rattle.window_ledger.proofs.Leaves.{left-now, left-said}
use Rattle.window_ledger.proofs.ledger.Ledger.left.Goals as goal

pub returns-clause-closes : goal.returns-clause-closes
returns-clause-closes c = λ x is so not_yet. subst (λ s. IsStateOf s (with_act Up Closes x)) (sym c.left.ensures) (left-now c.args.self.state x is so not_yet)

pub returns-clause-again : goal.returns-clause-again
returns-clause-again c = λ x is closed. subst (λ s. IsStateOf s x) (sym c.left.ensures) (left-said c.args.self.state x is closed)
