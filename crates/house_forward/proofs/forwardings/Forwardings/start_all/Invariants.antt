use Rattle.std.proofs.Common.{◌≡◌, ◌≤◌, ◌+◌, length}
use Rattle.house_forward.specs.Forwardings.{listeners_of, AskedAtStart, what_stands}
use Rattle.house_forward.proofs.forwardings.Forwardings.start_all.Given as goal

abbrev pub invariant-loop-i : goal.invariant-loop-i
invariant-loop-i l = record {
  listeners : listeners_of l.self.all.items ≡ listeners_of l.initial.self.all.items;
  count : length l.self.all.items ≤ length l.initial.self.all.items + l.i;
  requests : l.self.requests.items ≡ l.initial.self.requests.items;
  begins : AskedAtStart l.rules l.asks l.i (what_stands l.initial.self.all.items l.initial.self.serials l.initial.self.refused)
      (what_stands l.self.all.items l.self.serials l.self.refused);
}
