use Rattle.house_relay.proofs.Dialings.{receives}
use Rattle.house_relay.proofs.dialing.receive.Goals as goal

pub returns-clause-heard : goal.returns-clause-heard
returns-clause-heard c =
    receives c.args.dialog.now c.push-count.new.self c.next.new.dialog c.args.bytes.now c.push-count.result
    c.in_ok-step.step c.in_ok-came.came c.args.queue.now c.next.new.queue c.came_by.new.queue
    c.push-count.ensures.exact c.push-count.ensures.rest c.in_ok-step.ensures.gives c.in_ok-came.ensures
