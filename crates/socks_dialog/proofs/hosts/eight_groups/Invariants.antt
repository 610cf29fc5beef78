use Rattle.std.proofs.Common.{◌≡◌, ◌≤◌, ◌*◌, ◌++◌, drop, length}
use Rattle.socks_dialog.specs.Hosts.{grouped, behind_colons}
use Rattle.socks_dialog.proofs.hosts.eight_groups.Given as goal

abbrev pub invariant-loop-i : goal.invariant-loop-i
invariant-loop-i l = record {
  text : l.text ++ behind_colons (drop (2 * l.i) l.address) ≡ grouped l.address;
  short : length l.text ≤ 5 * l.i;
}
