use Rattle.std.proofs.Common.{Some, sym, ap, ◌∙◌, refl, inl}
use Rattle.proxy_frames.specs.State.{FramerState}
use Rattle.mux_peers.specs.Stands.{framing_of}
use Rattle.mux_peers.proofs.Fronts.{sends_fault, sends_decided, frame_kept, control_of, reads_now}
use Rattle.mux_peers.proofs.Heeding.{applies_any, applies_none}
use Rattle.mux_peers.proofs.Starved.{asks-decided, asks-front, on-err}
use Rattle.mux_peers.proofs.client.ClientEntry.send_next.Goals as goal

pub invariant_of-self-in_err-says-in-Frame : goal.invariant_of-self-in_err-says-in-Frame
invariant_of-self-in_err-says-in-Frame g c = λ r. frame_kept c.self.inside.peer.standing c.says.new.self.standing c.self.inside.framer c.next.new.self
    (reads_now _ _ c.self.view_is c.requires.read) c.self.invariant c.in-Frame.ensures.answer c.in-Frame.ensures.exact (ap framing_of (c.says.ensures.keeps r))

pub invariant_of-self-in_err-follows-in-Frame : goal.invariant_of-self-in_err-follows-in-Frame
invariant_of-self-in_err-follows-in-Frame g c = λ r. frame_kept c.self.inside.peer.standing c.follows.new.self.standing c.self.inside.framer c.next.new.self
    (reads_now _ _ c.self.view_is c.requires.read) c.self.invariant c.in-Frame.ensures.answer c.in-Frame.ensures.exact (ap framing_of (c.in_err-follows-in-Frame.ensures.err r))

pub invariant_of-self-else-is_proxied-2 : goal.invariant_of-self-else-is_proxied-2
invariant_of-self-else-is_proxied-2 g c = λ r. frame_kept c.self.inside.peer.standing c.follows.new.self.standing c.self.inside.framer c.next.new.self
    (reads_now _ _ c.self.view_is c.requires.read) c.self.invariant c.in-Frame.ensures.answer c.in-Frame.ensures.exact
    (control_of c.follows.new.self.standing (sym c.is_proxied-in-Frame.ensures ∙ c.if-is_proxied-2.false) ∙ sym (control_of c.self.inside.peer.standing (sym c.is_proxied.ensures ∙ c.if-is_proxied.false)))

pub returns-in-Bad-clause-next : goal.returns-in-Bad-clause-next
returns-in-Bad-clause-next g c = sends_fault g.H.Asks.may (Some c.args.asks.now) c.args.pid c.args.core.now c.fails.new.core c.args.up.now c.fails.new.up c.self.inside.peer c.fails.new.self c.self.inside.framer c.next.new.self c.args.self.now c.args.change.now c.in-Bad.fault
    c.self.view_is c.requires.read c.self.invariant c.in-Bad.ensures.answer (c.fails.ensures.faults c.args.change.now) c.fails.ensures.out

pub returns-then-is_proxied-2-clause-next : goal.returns-then-is_proxied-2-clause-next
returns-then-is_proxied-2-clause-next g c = sends_decided g.H.Asks.may (Some c.args.asks.now) (Some c.decide.new.asks) c.args.pid c.number.result c.args.core.now c.follows.new.core c.args.up.now c.follows.new.up c.self.inside.peer c.follows.new.self
    c.self.inside.framer c.next.new.self c.switch.new.self c.content-body.result.now c.args.self.now c.is_greeted.result c.args.change.now c.follows.new.change c.in_ok-decision-in-Frame.decision
    c.self.view_is c.requires.read c.self.invariant (sym c.is_proxied.ensures ∙ c.if-is_proxied.false) c.in-Frame.ensures.answer c.in-Frame.ensures.exact c.content-body.ensures (ap (λ (x : FramerState). x.rest) c.switch.ensures.exact)
    c.number.ensures c.is_greeted.ensures c.in_ok-decision-in-Frame.ensures.decides c.in_ok-follows-in-Frame.ensures.follows

pub returns-else-is_proxied-2-clause-next : goal.returns-else-is_proxied-2-clause-next
returns-else-is_proxied-2-clause-next g c = sends_decided g.H.Asks.may (Some c.args.asks.now) (Some c.decide.new.asks) c.args.pid c.number.result c.args.core.now c.follows.new.core c.args.up.now c.follows.new.up c.self.inside.peer c.follows.new.self
    c.self.inside.framer c.next.new.self c.next.new.self c.content-body.result.now c.args.self.now c.is_greeted.result c.args.change.now c.follows.new.change c.in_ok-decision-in-Frame.decision
    c.self.view_is c.requires.read c.self.invariant (sym c.is_proxied.ensures ∙ c.if-is_proxied.false) c.in-Frame.ensures.answer c.in-Frame.ensures.exact c.content-body.ensures refl
    c.number.ensures c.is_greeted.ensures c.in_ok-decision-in-Frame.ensures.decides c.in_ok-follows-in-Frame.ensures.follows

pub returns-in_err-says-in-Frame-clause-applies : goal.returns-in_err-says-in-Frame-clause-applies
returns-in_err-says-in-Frame-clause-applies g c = applies_none c.from_residual.result c.args.asks.now (g.H.Asks.state c.args.house.now)

pub returns-in_err-follows-in-Frame-clause-applies : goal.returns-in_err-follows-in-Frame-clause-applies
returns-in_err-follows-in-Frame-clause-applies g c = applies_any c.from_residual-in_err-follows-in-Frame.result c.in_ok-decision-in-Frame.ensures.applies

-- ---- what was requested if memory ran out

pub returns-in_err-says-in-Frame-clause-cut : goal.returns-in_err-says-in-Frame-clause-cut
returns-in_err-says-in-Frame-clause-cut g c = on-err c.from_residual.result (inl refl)

pub returns-in_err-decision-in-Frame-clause-cut : goal.returns-in_err-decision-in-Frame-clause-cut
returns-in_err-decision-in-Frame-clause-cut g c = on-err c.from_residual-in_err-decision-in-Frame.result
    (asks-front g.H.Asks.may (g.H.Asks.state c.args.house.now).recorded (g.H.Asks.state c.decide.new.house).recorded c.number.result c.self.inside.peer c.self.inside.framer c.next.new.self c.content-body.result.now c.args.self.now c.is_greeted.result
    c.self.view_is c.requires.read c.self.invariant (sym c.is_proxied.ensures ∙ c.if-is_proxied.false) c.in-Frame.ensures.answer c.in-Frame.ensures.exact c.content-body.ensures c.number.ensures c.is_greeted.ensures c.in_err-decision-in-Frame.ensures.cut)

pub returns-in_err-follows-in-Frame-clause-cut : goal.returns-in_err-follows-in-Frame-clause-cut
returns-in_err-follows-in-Frame-clause-cut g c = on-err c.from_residual-in_err-follows-in-Frame.result
    (asks-front g.H.Asks.may (g.H.Asks.state c.args.house.now).recorded (g.H.Asks.state c.decide.new.house).recorded c.number.result c.self.inside.peer c.self.inside.framer c.next.new.self c.content-body.result.now c.args.self.now c.is_greeted.result
    c.self.view_is c.requires.read c.self.invariant (sym c.is_proxied.ensures ∙ c.if-is_proxied.false) c.in-Frame.ensures.answer c.in-Frame.ensures.exact c.content-body.ensures c.number.ensures c.is_greeted.ensures
    (asks-decided g.H.Asks.may c.args.pid c.number.result c.is_greeted.result c.content-body.result.now c.in_ok-decision-in-Frame.decision
    c.in_ok-decision-in-Frame.ensures.decides c.in_ok-decision-in-Frame.ensures.applies))
