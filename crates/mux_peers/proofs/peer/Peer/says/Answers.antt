use Rattle.std.proofs.Common.{sym, ap, ◌∙◌, refl, List, ℕ}
use Rattle.mux_core.specs.declared.verdict.Verdict.TheVariants as verdict
use Rattle.mux_peers.specs.State.{PeerState}
use Rattle.mux_peers.proofs.Verdicts.{says-quiet, says-answer, says-full, says-drop, quiet-of, on-verdict, keeps_room}
use Rattle.mux_peers.proofs.peer.Peer.says.Goals as goal

pub returns-in-Sent-clause-stands : goal.returns-in-Sent-clause-stands
returns-in-Sent-clause-stands c = says-quiet c.in_ok-said.field-0 c.args.payload.now c.args.core.now c.said.new.self c.args.self.now c.args.up.now c.said.new.up (quiet-of _ c.in-Sent.is)
    (on-verdict c.in_ok-said.field-0 c.in_ok-said.field-0 c.args.payload.now c.args.core.now c.said.new.self c.self.inside.number c.args.self.now.number c.args.up.now c.said.new.up refl (sym (ap (λ (t : PeerState). t.number) c.self.view_is)) c.in_ok-said.ensures.stands)

pub returns-in-Sent-clause-spare : goal.returns-in-Sent-clause-spare
returns-in-Sent-clause-spare c = keeps_room c.args.up.now c.said.new.up c.args.self.now.standing c.in_ok-said.ensures.spare

pub returns-in-None-clause-stands : goal.returns-in-None-clause-stands
returns-in-None-clause-stands c =
    says-answer c.as_bytes.result.now c.args.payload.now c.args.core.now c.said.new.self c.args.self.now c.report.new.self c.args.up.now c.said.new.up
    (on-verdict c.in_ok-said.field-0 (verdict.Answer c.as_bytes.result.now) c.args.payload.now c.args.core.now c.said.new.self c.self.inside.number c.args.self.now.number c.args.up.now c.said.new.up
    (c.in-Answer.is ∙ ap (λ (l : List ℕ). verdict.Answer l) (sym c.as_bytes.ensures.value)) (sym (ap (λ (t : PeerState). t.number) c.self.view_is)) c.in_ok-said.ensures.stands)
    c.in_ok-report-in-Answer.ensures.queue (sym c.in_ok-report-in-Answer.ensures.full ∙ c.in-None.is)

pub returns-in-Some-clause-stands : goal.returns-in-Some-clause-stands
returns-in-Some-clause-stands c =
    says-full c.as_bytes.result.now c.args.payload.now c.in-Some.why c.args.core.now c.said.new.self c.drop_for.new.core c.args.self.now c.report.new.self c.drop_for.new.self c.args.up.now c.said.new.up c.drop_for.new.up
    (on-verdict c.in_ok-said.field-0 (verdict.Answer c.as_bytes.result.now) c.args.payload.now c.args.core.now c.said.new.self c.self.inside.number c.args.self.now.number c.args.up.now c.said.new.up
    (c.in-Answer.is ∙ ap (λ (l : List ℕ). verdict.Answer l) (sym c.as_bytes.ensures.value)) (sym (ap (λ (t : PeerState). t.number) c.self.view_is)) c.in_ok-said.ensures.stands)
    c.in_ok-report-in-Answer.ensures.queue (sym c.in_ok-report-in-Answer.ensures.full ∙ c.in-Some.is)
    c.drop_for.ensures.peer c.drop_for.ensures.recorded

pub returns-in-Drop-clause-stands : goal.returns-in-Drop-clause-stands
returns-in-Drop-clause-stands c =
    says-drop c.args.payload.now c.in-Drop.why c.args.core.now c.said.new.self c.drop_for-in-Drop.new.core c.args.self.now c.drop_for-in-Drop.new.self c.args.up.now c.said.new.up c.drop_for-in-Drop.new.up
    (on-verdict c.in_ok-said.field-0 (verdict.Drop c.in-Drop.why) c.args.payload.now c.args.core.now c.said.new.self c.self.inside.number c.args.self.now.number c.args.up.now c.said.new.up c.in-Drop.is (sym (ap (λ (t : PeerState). t.number) c.self.view_is)) c.in_ok-said.ensures.stands)
    c.drop_for-in-Drop.ensures.peer c.drop_for-in-Drop.ensures.unsent
