use Rattle.std.proofs.Common.{◌≡◌, ◌+◌, drop}
use Rattle.global_replies.specs.Replies.{leading, without_leading}
use Rattle.global_replies.proofs.answers.leading.Given as goal

abbrev pub invariant-loop-sent : goal.invariant-loop-sent
invariant-loop-sent l = record {
  here : l.count ≡ l.sent-index;
  counted : l.count + leading (drop l.count l.flags) ≡ leading l.flags;
  left : without_leading (drop l.count l.flags) ≡ without_leading l.flags;
}
