use Rattle.std.proofs.Common.{◌∙◌, Some, rules}
use Rattle.mux_edge.proofs.Bytes.{none_after, none_then, of_nothing, reports_after, reports_none, sockets_kept}
use Rattle.mux_edge.proofs.Few.{few_after}
use Rattle.mux_edge.proofs.Passes.{passes}
use Rattle.mux_edge.proofs.sockets.Sockets.next.Goals as goal

pub returns-in-Some-go_on-clause-passes : goal.returns-in-Some-go_on-clause-passes
returns-in-Some-go_on-clause-passes g c = λ held.
    passes c.first-at.result c.loop.self.table.ready.items.items c.holds_own-holds_own.result c.in-Some.ready c.args.numbers c.in-Some-go_on.turn
    c.first-at.ensures c.in-Some.ensures c.in-Some-go_on.ensures.serves (c.holds_own-holds_own.ensures.held ∙ held)

pub loop-init : goal.loop-init
loop-init g c = record {
  piece = search rules;
  listener = search rules;
  bytes = sockets_kept _ _ _ _ _ _ c.fails_at_once.ensures.sockets c.fails_at_once.ensures.outbox;
  few = c.fails_at_once.ensures.rest.few;
}

pub loop-preserved-then-is_round_over : goal.loop-preserved-then-is_round_over
loop-preserved-then-is_round_over g c = record {
  piece = search rules;
  listener = search rules;
  bytes = none_after _ _ _ _ _ _ _ c.loop.invariant.bytes c.look.ensures.bytes;
  few = few_after c.loop.invariant.few c.look.ensures.few;
}

pub loop-preserved-in_default-take : goal.loop-preserved-in_default-take
loop-preserved-in_default-take g c = record {
  piece = search rules;
  listener = search rules;
  bytes = none_then _ _ _ _ _ _ _ c.loop.invariant.bytes (search rules) (search rules);
  few = c.loop.invariant.few;
}

pub loop-preserved : goal.loop-preserved
loop-preserved g c = record {
  piece = search rules;
  listener = search rules;
  bytes = none_after _ _ _ _ _ _ _ (none_then _ _ _ _ _ _ _ c.loop.invariant.bytes (search rules) (search rules))
      (of_nothing _ _ _ _ c.go_on.result _ _ _ (search rules) c.go_on.ensures.bytes);
  few = few_after c.loop.invariant.few c.go_on.ensures.few;
}

pub returns-then-fails_at_once-clause-bytes : goal.returns-then-fails_at_once-clause-bytes
returns-then-fails_at_once-clause-bytes g c = λ s is _. sockets_kept _ _ _ _ _ _ c.fails_at_once.ensures.sockets c.fails_at_once.ensures.outbox s is

pub returns-in-Err-clause-bytes : goal.returns-in-Err-clause-bytes
returns-in-Err-clause-bytes g c = reports_none _ _ _ _ (Some c.failure_of.result) c.loop.into _ _ c.failure_of.ensures.no_bytes (none_after _ _ _ _ _ _ _ c.loop.invariant.bytes c.look.ensures.bytes)

pub returns-in-Some-go_on-clause-bytes : goal.returns-in-Some-go_on-clause-bytes
returns-in-Some-go_on-clause-bytes g c = reports_after _ _ _ _ (Some c.in-Some-go_on.turn) c.go_on.new.into _ _ _
    (none_then _ _ _ _ _ _ _ c.loop.invariant.bytes (search rules) (search rules)) c.in-Some-go_on.ensures.bytes

pub returns-in-Err-clause-few : goal.returns-in-Err-clause-few
returns-in-Err-clause-few g c = few_after c.loop.invariant.few c.look.ensures.few

pub returns-in-Some-go_on-clause-few : goal.returns-in-Some-go_on-clause-few
returns-in-Some-go_on-clause-few g c = few_after c.loop.invariant.few c.go_on.ensures.few

pub returns-clause-few : goal.returns-clause-few
returns-clause-few g c = c.loop.invariant.few
