use Rattle.std.proofs.Common.{◌≡◌, Ok, Some, sym, ap, ◌∙◌, ◌++◌, subst, Bool, true, arith}
use Rattle.ssh_grammar.specs.Said.{first_in}
use Rattle.mux_peers.specs.Stands.{is_read, parse_mode_of}
use Rattle.mux_peers.specs.State.{ClientState}
use Rattle.mux_peers.specs.Nexts.{SendsNext}
use Rattle.mux_peers.proofs.Heeding.{applies_any, applies_err, applies_none, applies_then, ordering_kept}
use Rattle.mux_peers.proofs.Looped.{receiving_goes, receives_rest, loop_pushed, nothing, room-on, room-read}
use Rattle.mux_peers.proofs.Starved.{receives-none, receives-some, on-err}
use Rattle.mux_peers.proofs.client.ClientEntry.read.Goals as goal

pub loop-self-init : goal.loop-self-init
loop-self-init g c = record {
  loop = loop_pushed g.H.Asks.may (Some c.args.asks.now) c.args.pid c.args.bytes.now c.args.core.now c.args.up.now c.self.inside.peer c.self.inside.framer c.push.new.self c.args.self.now c.self.view_is c.requires.read c.in_ok-push.ensures.ok;
  applies = applies_none (Ok nothing) c.args.asks.now (g.H.Asks.state c.args.house.now);
}

pub loop-self-preserved : goal.loop-self-preserved
loop-self-preserved g c = let read : is_read c.loop-self.self.peer.standing ≡ true = ap (λ (x : ClientState). is_read x.peer.standing) (sym c.self-in-loop-self.view_is) ∙ (sym c.is_read.ensures ∙ c.loop-self-test.true) in record {
  loop = record {
    receiving = receiving_goes g.H.Asks.may (Some c.args.asks.now) (Some c.loop-self.asks) (Some c.send_next.new.asks) c.args.pid (c.args.self.now.rest ++ c.args.bytes.now) c.args.core.now c.loop-self.core c.send_next.new.core c.args.up.now c.loop-self.up c.send_next.new.up
        c.args.self.now c.loop-self.self c.send_next.new.self c.loop-self.change c.send_next.new.change read c.in_ok-send_next.ensures.policy c.loop-self.invariant.loop.receiving
        (subst (λ (more : Bool). SendsNext g.H.Asks.may (Some c.loop-self.asks) (Some c.send_next.new.asks) c.args.pid more (first_in (parse_mode_of c.loop-self.self.peer.standing) c.loop-self.self.rest) c.loop-self.core c.send_next.new.core c.loop-self.up c.send_next.new.up c.loop-self.self c.loop-self.change c.send_next.new.self c.send_next.new.change) c.if-not-branch.false c.in_ok-send_next.ensures.next);
    room = room-on c.args.up.now c.loop-self.up c.send_next.new.up c.loop-self.self.peer.standing c.send_next.new.self.peer.standing read c.loop-self.invariant.loop.room c.in_ok-send_next.ensures.keeps.spare;
    number = c.in_ok-send_next.ensures.keeps.number ∙ c.loop-self.invariant.loop.number;
  };
  applies = applies_any (Ok c.send_next.new.change) (applies_then c.loop-self.invariant.applies c.in_ok-send_next.ensures.applies);
}

pub returns-then-not-branch-clause-receives : goal.returns-then-not-branch-clause-receives
returns-then-not-branch-clause-receives g c = receives_rest g.H.Asks.may (Some c.args.asks.now) (Some c.loop-self.asks) (Some c.send_next.new.asks) c.args.pid c.args.bytes.now c.args.core.now c.loop-self.core c.send_next.new.core c.args.up.now c.loop-self.up c.send_next.new.up
    c.args.self.now c.loop-self.self c.send_next.new.self c.loop-self.change c.send_next.new.change c.loop-self.invariant.loop.receiving
    (subst (λ (more : Bool). SendsNext g.H.Asks.may (Some c.loop-self.asks) (Some c.send_next.new.asks) c.args.pid more (first_in (parse_mode_of c.loop-self.self.peer.standing) c.loop-self.self.rest) c.loop-self.core c.send_next.new.core c.loop-self.up c.send_next.new.up c.loop-self.self c.loop-self.change c.send_next.new.self c.send_next.new.change) c.if-not-branch.true c.in_ok-send_next.ensures.next)

-- what was asked so far, and what the last saying asked
pub returns-in_err-send_next-clause-applies : goal.returns-in_err-send_next-clause-applies
returns-in_err-send_next-clause-applies g c = applies_err c.from_residual-in_err-send_next.result c.from_residual-in_err-send_next.ensures.0 (applies_then c.loop-self.invariant.applies c.in_err-send_next.ensures.applies)

pub returns-in_err-push-clause-applies : goal.returns-in_err-push-clause-applies
returns-in_err-push-clause-applies g c = applies_none c.from_residual.result c.args.asks.now (g.H.Asks.state c.args.house.now)

pub send_next-requires : goal.send_next-requires
send_next-requires g c = let read : is_read c.loop-self.self.peer.standing ≡ true = ap (λ (x : ClientState). is_read x.peer.standing) (sym c.self-in-loop-self.view_is) ∙ (sym c.is_read.ensures ∙ c.loop-self-test.true) in record {
  read = read;
  room = omega (arith, room-read c.args.up.now c.loop-self.up c.loop-self.self.peer.standing read c.loop-self.invariant.loop.room, c.requires.room);
  ordering = ordering_kept c.loop-self.invariant.applies ∙ c.requires.ordering;
}

pub returns-then-not-branch-clause-applies : goal.returns-then-not-branch-clause-applies
returns-then-not-branch-clause-applies g c = applies_any _ (applies_then c.loop-self.invariant.applies c.in_ok-send_next.ensures.applies)

-- ---- what was requested if memory ran out

pub returns-in_err-push-clause-cut : goal.returns-in_err-push-clause-cut
returns-in_err-push-clause-cut g c = on-err c.from_residual.result (receives-none g.H.Asks.may (g.H.Asks.state c.args.house.now).recorded c.args.pid c.args.bytes.now c.args.core.now c.args.up.now c.args.self.now c.requires.read)

pub returns-in_err-send_next-clause-cut : goal.returns-in_err-send_next-clause-cut
returns-in_err-send_next-clause-cut g c =
    let read : is_read c.loop-self.self.peer.standing ≡ true = ap (λ (x : ClientState). is_read x.peer.standing) (sym c.self-in-loop-self.view_is) ∙ (sym c.is_read.ensures ∙ c.loop-self-test.true) in
    on-err c.from_residual-in_err-send_next.result
    (receives-some g.H.Asks.may (g.H.Asks.state c.send_next.new.house).recorded c.args.pid c.args.bytes.now c.args.core.now c.loop-self.core c.args.up.now c.loop-self.up
    c.args.self.now c.loop-self.self c.loop-self.change c.requires.read read c.loop-self.invariant.loop.receiving c.loop-self.invariant.applies c.in_err-send_next.ensures.cut)
