use Rattle.std.proofs.Common.{ap, refl, true, false, Some, List, option_map}
use Rattle.ssh_grammar.specs.Frames.{frame_answer}
use Rattle.mux_outside.specs.declared.house_mark.HouseMark.{HouseMark}
use Rattle.mux_history.specs.Controls.{house_answer}
use Rattle.mux_peers.proofs.Placed.{if-ok}
use Rattle.mux_peers.proofs.Decided.{decides_open, decides_close, reads_as}
use Rattle.mux_peers.proofs.Starved.{asks-close, asks-open, err-then}
use Rattle.mux_peers.proofs.decision.decide_later.Goals as goal

pub returns-in-Ok-OpenForward-clause-decides : goal.returns-in-Ok-OpenForward-clause-decides
returns-in-Ok-OpenForward-clause-decides g c = if-ok c.ask.result (λ d a. decides_open g.H.Asks.may (Some c.args.asks.now) (Some c.ask.new.asks) c.args.pid c.args.client c.in-Ok-OpenForward.id c.args.body.now _ a.0 (option_map frame_answer (house_answer true c.in-Ok-OpenForward.id a.0)) d a.1.0
    (reads_as c.args.body.now c.in-Ok-OpenForward.ensures.exact.0 _ _ c.in-Ok-OpenForward.ensures.exact.1 c.in-Ok-OpenForward.field-0-is) refl (ap (λ (l : List HouseMark). Some l) a.1.1.1) a.1.1.0) c.ask.ensures.asked

pub returns-in-Ok-CloseForward-clause-decides : goal.returns-in-Ok-CloseForward-clause-decides
returns-in-Ok-CloseForward-clause-decides g c = if-ok c.ask-in-Ok-CloseForward.result (λ d a. decides_close g.H.Asks.may (Some c.args.asks.now) (Some c.ask-in-Ok-CloseForward.new.asks) c.args.pid c.args.client c.in-Ok-CloseForward.id c.args.body.now _ a.0 (option_map frame_answer (house_answer false c.in-Ok-CloseForward.id a.0)) d a.1.0
    (reads_as c.args.body.now c.in-Ok-CloseForward.ensures.exact.0 _ _ c.in-Ok-CloseForward.ensures.exact.1 c.in-Ok-CloseForward.field-0-is) refl (ap (λ (l : List HouseMark). Some l) a.1.1.1) a.1.1.0) c.ask-in-Ok-CloseForward.ensures.asked

pub returns-in-Ok-OpenForward-clause-cut : goal.returns-in-Ok-OpenForward-clause-cut
returns-in-Ok-OpenForward-clause-cut g c = err-then c.ask.result (asks-open g.H.Asks.may (g.H.Asks.state c.args.house.now).recorded (g.H.Asks.state c.ask.new.house).recorded c.args.client c.in-Ok-OpenForward.id c.args.body.now _
    (reads_as c.args.body.now c.in-Ok-OpenForward.ensures.exact.0 _ _ c.in-Ok-OpenForward.ensures.exact.1 c.in-Ok-OpenForward.field-0-is)) c.ask.ensures.cut

pub returns-in-Ok-CloseForward-clause-cut : goal.returns-in-Ok-CloseForward-clause-cut
returns-in-Ok-CloseForward-clause-cut g c = err-then c.ask-in-Ok-CloseForward.result (asks-close g.H.Asks.may (g.H.Asks.state c.args.house.now).recorded (g.H.Asks.state c.ask-in-Ok-CloseForward.new.house).recorded c.args.client c.in-Ok-CloseForward.id c.args.body.now _
    (reads_as c.args.body.now c.in-Ok-CloseForward.ensures.exact.0 _ _ c.in-Ok-CloseForward.ensures.exact.1 c.in-Ok-CloseForward.field-0-is)) c.ask-in-Ok-CloseForward.ensures.cut
