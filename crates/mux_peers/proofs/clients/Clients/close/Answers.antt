use Rattle.std.proofs.Common.{rules, not, ◌==◌, ℕ, Option, ap, ◌∙◌}
use Rattle.std.proofs.lemmas.Fn.{filter_same}
use Rattle.mux_history.specs.declared.why.Why.{Why}
use Rattle.mux_peers.specs.State.{ClientState, ClientsState}
use Rattle.mux_peers.specs.Among.{not_leaving, without_client}
use Rattle.mux_peers.proofs.clients.Clients.close.Goals as goal

pub returns-clause-clients : goal.returns-clause-clients
returns-clause-clients c =
    filter_same _ (λ (client : ClientState). not (client.peer.number == c.args.number)) _ (λ x b f' k. search rules) _ _ c.retain.ensures.filtered
    ∙ ap (λ (s : ClientsState). without_client c.args.number s.all) c.self.view_is

pub returns-clause-leaving : goal.returns-clause-leaving
returns-clause-leaving c =
    filter_same _ (λ (l : ℕ × Option Why). not (l.0 == c.args.number)) _ (λ x b f' k. search rules) _ _ c.retain-2.ensures.filtered
    ∙ ap (λ (s : ClientsState). not_leaving c.args.number s.leaving) c.self.view_is
