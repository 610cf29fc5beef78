use Rattle.std.proofs.Common.{sym, ap, ◌∙◌}
use Rattle.mux_peers.proofs.Answered.{answer_in, answers-none, answers-on, answers-full}
use Rattle.mux_peers.proofs.peer.Peer.answered.Goals as goal

pub returns-then-is_proxied-clause-answers : goal.returns-then-is_proxied-clause-answers
returns-then-is_proxied-clause-answers c = answers-none c.args.id c.args.reply c.args.core.now c.args.self.now c.args.up.now (sym c.is_proxied.ensures ∙ c.if-is_proxied.true)

pub returns-in-None-clause-answers : goal.returns-in-None-clause-answers
returns-in-None-clause-answers c = answers-on c.args.id c.args.reply c.args.core.now c.args.self.now c.args.up.now c.answer_of.result (c.answer_of.ensures ∙ ap (λ b. answer_in b c.args.id c.args.reply) (sym (sym c.is_proxied.ensures ∙ c.if-is_proxied.false)))
    c.record_frame.new.self c.in_ok-record_frame.ensures.queue (sym c.in_ok-record_frame.ensures.full ∙ c.in-None.is)

pub returns-in-Some-clause-answers : goal.returns-in-Some-clause-answers
returns-in-Some-clause-answers c = answers-full c.args.id c.args.reply c.args.core.now c.args.self.now c.args.up.now c.answer_of.result (c.answer_of.ensures ∙ ap (λ b. answer_in b c.args.id c.args.reply) (sym (sym c.is_proxied.ensures ∙ c.if-is_proxied.false)))
    c.in-Some.why c.drop_for.new.core c.record_frame.new.self c.drop_for.new.self c.drop_for.new.up c.in_ok-record_frame.ensures.queue (sym c.in_ok-record_frame.ensures.full ∙ c.in-Some.is) c.drop_for.ensures.peer c.drop_for.ensures.recorded
