-- How much room marks need at most.
use Rattle.std.proofs.Common.{◌≤◌, Bool, true, false, List, length, get_or, arith}
use Rattle.std.specs.Prelude.{not}
use Rattle.std.proofs.lemmas.List.Sums.{sum_by-le}
use Rattle.house_relay.specs.declared.relay.Relay.{Relay}
use Rattle.house_forward.specs.Due.{stream_due, link_due, listener_due, forwarding_due, due, most_due, count_if, turns}
use Rattle.house_forward.specs.declared.asks.Waiting.{Waiting}
use Rattle.house_forward.specs.declared.forwarding.Forwarding.{Forwarding}
use Rattle.house_forward.specs.declared.forwarding.Stage.{Stage}
use Rattle.house_forward.specs.declared.forwarding.Stage.TheVariants.{ToListen, Ordered, Listening, ToRequest, Requested, Live, Cancelling}
use Rattle.house_forward.specs.declared.link.Link.{Link}
use Rattle.house_forward.specs.declared.link.LinkStream.{LinkStream}
use Rattle.house_forward.specs.declared.link.LinkStream.TheVariants.{Offered, Awaited, Made, Gone}

one-most : (b : Bool) → count_if b ≤ 1
one-most true = omega arith
one-most false = omega arith

stage-most : (s : Stage) → listener_due s ≤ 2
stage-most (ToListen host) = omega arith
stage-most Ordered = omega arith
stage-most (Listening l) = omega arith
stage-most ToRequest = omega arith
stage-most Requested = omega arith
stage-most (Live port) = omega arith
stage-most (Cancelling port) = omega arith

stream-most : (s : LinkStream) (r : Relay) → stream_due s r ≤ 4
stream-most (Offered host port) r = omega arith
stream-most Awaited r = omega arith
stream-most (Made own) r =
    let one = one-most (not own.finished) in
    let two = one-most (turns r own) in
    omega (arith, one, two)
stream-most Gone r = omega arith

pub due_most : (fs : List Forwarding) (ls : List Link) (ws : List Waiting)
    → due fs ls ws ≤ most_due (length fs) (length ls) (length ws)
due_most fs ls ws =
    let one = sum_by-le forwarding_due 2 fs (λ k d lt. stage-most (get_or fs k d).stage) in
    let two = sum_by-le link_due 4 ls (λ k d lt. stream-most (get_or ls k d).stream (get_or ls k d).relay) in
    omega (arith, one, two)
