use Rattle.std.proofs.Common.{[], ◌∷◌, ap, refl}
use Rattle.ssh_grammar.specs.SpellMessage.{cancel_forward}
use Rattle.client_teardown.proofs.laws.late_messages_of_a_history.Goals as goal

pub returns : goal.returns
returns c = record {
  confirmed = λ number remote window maximum own. refl;
  forwarded = λ key asked rest same. ap (λ k. cancel_forward k ∷ []) same;
  cancel_failed = λ key asked same. ap (λ k. cancel_forward k ∷ []) same;
}
