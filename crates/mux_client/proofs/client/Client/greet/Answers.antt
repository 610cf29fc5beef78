use Rattle.std.proofs.Common.{◌∙◌, ap, subst, sym, None, arith}
use Rattle.mux_client.specs.Client.{TalkState, ReadsNextTo, awaited_place}
use Rattle.mux_client.specs.declared.stage.TalkStage.TheVariants.{Broken}
use Rattle.mux_client.specs.declared.verdict.OutLine.TheVariants.{Nothing}
use Rattle.mux_client.proofs.ReadFrames.{IsCut, bad-hello, cut-frame, cut-goes, cut-stops, hello-goes, none-cut}
use Rattle.mux_client.proofs.client.Client.greet.Goals as goal

pub returns-then-not-cut : goal.returns-then-not-cut
returns-then-not-cut c = record { reads = none-cut _ _ _ 0 _ (ap awaited_place c.requires.stage) c.cut.ensures.exact c.cut.ensures.frame c.if-not-cut.true }

pub returns-then-not-is_hello_of_4 : goal.returns-then-not-is_hello_of_4
returns-then-not-is_hello_of_4 c =
    let k : IsCut c.args.self.now c.cut.new.self c.content-body.result.now = cut-frame _ _ 0 _ c.cut.ensures.exact (sym (ap (λ (s : TalkState). s.framer.current) c.self.view_is) ∙ c.content-body.ensures) in
    record {
      reads = subst (λ (s : TalkState). ReadsNextTo c.args.asks.now c.args.self.now (record s { stage = Broken 0 }) None) (sym c.self.view_is)
          (cut-stops c.args.asks.now c.args.self.now c.cut.new.self c.content-body.result.now (Broken 0) k (bad-hello _ _ _ c.requires.stage (sym c.is_hello_of_4.ensures ∙ c.if-not-is_hello_of_4.true)));
    }

pub returns : goal.returns
returns c =
    let k : IsCut c.args.self.now c.cut.new.self c.content-body.result.now = cut-frame _ _ 0 _ c.cut.ensures.exact (sym (ap (λ (s : TalkState). s.framer.current) c.self.view_is) ∙ c.content-body.ensures) in
    record {
      reads = cut-goes c.args.asks.now c.args.self.now c.cut.new.self c.ask.new.self c.content-body.result.now 0 _ Nothing k
          (hello-goes _ _ _ _ c.requires.stage (sym c.is_hello_of_4.ensures ∙ c.if-not-is_hello_of_4.false) (omega arith)) c.in_ok-ask.ensures.exact;
    }
