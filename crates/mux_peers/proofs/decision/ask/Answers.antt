use Rattle.std.proofs.Common.{[], ◌∙◌, refl, sym, inl, inr}
use Rattle.mux_peers.proofs.Heeding.{applies_ask, applies_none, applies_unnoted, records_none}
use Rattle.mux_peers.proofs.Starved.{on-err}
use Rattle.mux_peers.proofs.decision.ask.Goals as goal

pub returns-clause-applies : goal.returns-clause-applies
returns-clause-applies g c = applies_ask _ c.args.client c.args.id c.args.opening c.args.what.now c.in_ok-reply.reply (rw c.in_ok-ask.ensures at c.in_ok-push.ensures.ok) c.in_ok-reply.ensures.gave

pub returns-in_err-ask-clause-applies : goal.returns-in_err-ask-clause-applies
returns-in_err-ask-clause-applies g c = applies_none c.from_residual.result c.args.asks.now (g.H.Asks.state c.args.house.now)

pub returns-in_err-reply-clause-applies : goal.returns-in_err-reply-clause-applies
returns-in_err-reply-clause-applies g c = applies_unnoted c.from_residual-in_err-reply.result [] c.from_residual-in_err-reply.ensures.0 refl c.in_err-reply.ensures.gave.recorded c.in_err-reply.ensures.gave.must

pub returns-in_err-push-clause-applies : goal.returns-in_err-push-clause-applies
returns-in_err-push-clause-applies g c = applies_unnoted c.from_residual-in_err-push.result _ c.from_residual-in_err-push.ensures.0 c.in_err-push.ensures.err c.in_ok-reply.ensures.gave.recorded c.in_ok-reply.ensures.gave.must

pub returns-in_err-ask-clause-cut : goal.returns-in_err-ask-clause-cut
returns-in_err-ask-clause-cut g c = on-err c.from_residual.result (inl refl)

-- the forwarder that found no memory received no request
pub returns-in_err-reply-clause-cut : goal.returns-in_err-reply-clause-cut
returns-in_err-reply-clause-cut g c = on-err c.from_residual-in_err-reply.result (inl (c.in_err-reply.ensures.gave.recorded ∙ sym (records_none (g.H.Asks.state c.args.house.now).recorded)))

-- it was asked, and there was no room for that
pub returns-in_err-push-clause-cut : goal.returns-in_err-push-clause-cut
returns-in_err-push-clause-cut g c = on-err c.from_residual-in_err-push.result (inr (c.in_ok-reply.reply, (c.in_ok-reply.ensures.may, c.in_ok-reply.ensures.gave.recorded)))
