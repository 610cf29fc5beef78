use Rattle.house_forward.proofs.Directing.{opens-go-right}
use Rattle.house_forward.proofs.Once.{each-is-recorded, each-was-joined, one-open-each}
use Rattle.house_forward.proofs.Opening.{one-open-at-most}
use Rattle.house_forward.proofs.laws.opens_are_for_joined_sockets.Goals as goal

pub returns : goal.returns
returns c = record {
  count = one-open-at-most;
  recorded = each-is-recorded;
  joined = each-was-joined;
  once = one-open-each;
  goes = opens-go-right;
}
