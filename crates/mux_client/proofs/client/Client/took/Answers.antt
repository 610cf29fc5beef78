use Rattle.std.proofs.Common.{◌∙◌, ◌++◌, ap, subst, sym, take}
use Rattle.proxy_frames.specs.State.{QueueState}
use Rattle.mux_client.specs.Client.{TalkRepresents, without_sent}
use Rattle.mux_client.proofs.TalkSteps.{stands-took}
use Rattle.mux_client.proofs.client.Client.took.Goals as goal

pub returns-clause-stands : goal.returns-clause-stands
returns-clause-stands c asks bytes taken shown h =
    subst (TalkRepresents asks bytes (taken ++ take c.args.n c.args.self.now.queue) shown)
    (sym (ap (λ (q : QueueState). record { framer = c.self.inside.framer; queue = q.waiting; stage = c.self.inside.stage }) c.took.ensures ∙ ap (without_sent c.args.n) c.self.view_is))
    (stands-took c.args.n h)
