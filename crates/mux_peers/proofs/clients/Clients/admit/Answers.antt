use Rattle.std.proofs.Common.{Bool, [], ◌∷◌, ◌++◌, None, ap, ◌∙◌, subst}
use Rattle.mux_core.specs.Calls.{AdmitsOn}
use Rattle.mux_peers.specs.State.{ClientState}
use Rattle.mux_peers.proofs.PeerEnters.{enters-new, enters-refused}
use Rattle.mux_peers.proofs.Found.{none-noted}
use Rattle.mux_peers.proofs.clients.Clients.admit.Goals as goal

pub returns-then-not-branch-clause-enters : goal.returns-then-not-branch-clause-enters
returns-then-not-branch-clause-enters c = rw (← c.self.view_is) (enters-refused c.args.number c.args.core.now c.admit.new.self c.self.inside.all.items
    (subst (λ (b : Bool). AdmitsOn c.args.core.now c.admit.new.self c.args.number b) c.if-not-branch.true c.in_ok-admit.ensures.stands))

pub returns-clause-enters : goal.returns-clause-enters
returns-clause-enters c = rw (← c.self.view_is) (enters-new c.args.number c.args.core.now c.admit.new.self c.self.inside.all.items c.push-2.new.self.items c.in_ok-client.client
    (subst (λ (b : Bool). AdmitsOn c.args.core.now c.admit.new.self c.args.number b) c.if-not-branch.false c.in_ok-admit.ensures.stands) c.in_ok-client.ensures c.in_ok-push-2.ensures.items)

pub returns-clause-clients : goal.returns-clause-clients
returns-clause-clients c = rw (← c.self.view_is) (c.in_ok-push-2.ensures.items ∙ ap (λ (d : ClientState). c.self.inside.all.items ++ d ∷ []) c.in_ok-client.ensures)

pub returns-then-not-branch-clause-more : goal.returns-then-not-branch-clause-more
returns-then-not-branch-clause-more c = rw (← c.self.view_is) (record { more = (c.args.number, None) ∷ []; longer = c.in_ok-push.ensures.items })

pub returns-in_err-push-2-clause-more : goal.returns-in_err-push-2-clause-more
returns-in_err-push-2-clause-more c = rw (← c.self.view_is) (none-noted c.self.inside.leaving.items)
