use Rattle.std.proofs.Common.{◌++◌, [], sym, subst, Some, None}
use Rattle.std.proofs.lemmas.List.{append-nil}
use Rattle.mux_client.specs.declared.talked.Talked.TheVariants.{OutOfMemory}
use Rattle.mux_client.specs.Client.{ReadsNextTo}
use Rattle.mux_client.specs.Verdicts.{text_of_line}
use Rattle.mux_client.specs.Talking.{IsTalk, Talking}
use Rattle.mux_client.proofs.ShowLines.{cut-off, last-none, shown-line, shows-none}
use Rattle.mux_client.proofs.TalkSteps.{handed-on, talk-reads, talk-starved, want-of-memory}
use Rattle.mux_client.proofs.talking.read_once.Goals as goal

pub returns-in_err-next-clause-talking : goal.returns-in_err-next-clause-talking
returns-in_err-next-clause-talking g c start recorded held shown v =
    want-of-memory c.from_residual.result _ _ c.from_residual.ensures.1
    (last-none (g.S.Sink.recorded c.args.out.now) c.args.out.now (λ more due. IsTalk c.args.asks.now OutOfMemory start recorded (shown ++ more) (shown ++ due))
    (subst (λ x. IsTalk c.args.asks.now OutOfMemory start recorded x x) (sym (append-nil shown)) (talk-starved v shown [] (sym (append-nil shown)))))

pub returns-in_err-show-in-Some-clause-talking : goal.returns-in_err-show-in-Some-clause-talking
returns-in_err-show-in-Some-clause-talking g c start recorded held shown v =
    let r : ReadsNextTo c.args.asks.now c.args.client.now c.next.new.self (Some c.in-Some.line) = subst (ReadsNextTo c.args.asks.now c.args.client.now c.next.new.self) c.in-Some.is c.in_ok-next.ensures in
    handed-on c.from_residual-in_err-show-in-Some.result c.in_err-show-in-Some.field-0.0 _ _ c.from_residual-in_err-show-in-Some.ensures.1
    (cut-off shown c.in_err-show-in-Some.field-0.0 (text_of_line c.in-Some.line) (talk-reads v r) c.in_err-show-in-Some.ensures.shows)

pub returns-in-None-clause-talking : goal.returns-in-None-clause-talking
returns-in-None-clause-talking g c start recorded held shown v =
    let r : ReadsNextTo c.args.asks.now c.args.client.now c.next.new.self None = subst (ReadsNextTo c.args.asks.now c.args.client.now c.next.new.self) c.in-None.is c.in_ok-next.ensures in
    shows-none (g.S.Sink.recorded c.args.out.now) c.args.out.now (λ more. Talking c.args.asks.now start recorded held (shown ++ more) c.next.new.self) (talk-reads v r)

pub returns-in_ok-show-in-Some-clause-talking : goal.returns-in_ok-show-in-Some-clause-talking
returns-in_ok-show-in-Some-clause-talking g c start recorded held shown v =
    let r : ReadsNextTo c.args.asks.now c.args.client.now c.next.new.self (Some c.in-Some.line) = subst (ReadsNextTo c.args.asks.now c.args.client.now c.next.new.self) c.in-Some.is c.in_ok-next.ensures in
    shown-line shown (text_of_line c.in-Some.line) (talk-reads v r) c.in_ok-show-in-Some.ensures.shows
