use Rattle.std.proofs.Common.{◌∙◌, ap, refl, subst, sym, None}
use Rattle.mux_client.specs.Client.{TalkState, ReadsNextTo, awaited_place}
use Rattle.mux_client.specs.declared.stage.TalkStage.TheVariants.{Broken, Refused}
use Rattle.mux_client.proofs.ReadFrames.{IsCut, breaks, cut-frame, cut-goes, cut-stops, refuses, reply-goes, none-cut}
use Rattle.mux_client.proofs.client.Client.reply.Goals as goal

pub returns-then-not-cut : goal.returns-then-not-cut
returns-then-not-cut c = record { reads = none-cut _ _ _ c.args.at _ (ap awaited_place c.requires.stage) c.cut.ensures.exact c.cut.ensures.frame c.if-not-cut.true }

pub returns-in-Refuses : goal.returns-in-Refuses
returns-in-Refuses c =
    let k : IsCut c.args.self.now c.cut.new.self c.content-body.result.now = cut-frame _ _ c.args.at _ c.cut.ensures.exact (sym (ap (λ (s : TalkState). s.framer.current) c.self.view_is) ∙ c.content-body.ensures) in
    record {
      reads = subst (λ (s : TalkState). ReadsNextTo c.args.asks.now c.args.self.now (record s { stage = Refused c.args.id }) None) (sym c.self.view_is)
          (cut-stops c.args.asks.now c.args.self.now c.cut.new.self c.content-body.result.now (Refused c.args.id) k (refuses _ _ _ _ _ c.requires.stage c.in-Refuses.ensures));
    }

pub returns-in-Breaks : goal.returns-in-Breaks
returns-in-Breaks c =
    let k : IsCut c.args.self.now c.cut.new.self c.content-body.result.now = cut-frame _ _ c.args.at _ c.cut.ensures.exact (sym (ap (λ (s : TalkState). s.framer.current) c.self.view_is) ∙ c.content-body.ensures) in
    record {
      reads = subst (λ (s : TalkState). ReadsNextTo c.args.asks.now c.args.self.now (record s { stage = Broken c.args.at }) None) (sym c.self.view_is)
          (cut-stops c.args.asks.now c.args.self.now c.cut.new.self c.content-body.result.now (Broken c.args.at) k (breaks _ _ _ _ _ c.requires.stage c.in-Breaks.ensures));
    }

pub returns-in_ok-ask-in-Grants : goal.returns-in_ok-ask-in-Grants
returns-in_ok-ask-in-Grants c =
    let k : IsCut c.args.self.now c.cut.new.self c.content-body.result.now = cut-frame _ _ c.args.at _ c.cut.ensures.exact (sym (ap (λ (s : TalkState). s.framer.current) c.self.view_is) ∙ c.content-body.ensures) in
    record {
      reads = cut-goes c.args.asks.now c.args.self.now c.cut.new.self c.ask.new.self c.content-body.result.now c.in-Some.next _ c.in-Grants.line k
          (reply-goes _ _ _ _ _ _ _ _ c.requires.stage c.in-Grants.ensures c.in-Some.ensures.1 refl) c.in_ok-ask-in-Grants.ensures.exact;
    }
