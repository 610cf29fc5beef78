use Rattle.std.proofs.Common.{◌≡◌, ◌≤◌, ◌+◌, ◌*◌, ◌++◌, drop, length}
use Rattle.socks_dialog.specs.Hosts.{dotted, behind_dots}
use Rattle.socks_dialog.proofs.hosts.dotted_decimal.Given as goal

abbrev pub invariant-loop-byte : goal.invariant-loop-byte
invariant-loop-byte l = record {
  text : l.text ++ behind_dots (drop l.byte-index l.byte-items) ≡ dotted l.address;
  short : length l.text ≤ 3 + 4 * l.byte-index;
}
