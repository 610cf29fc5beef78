-- What the lines that are left add to the addresses so far, all lines add to none.
use Rattle.std.proofs.Common.{List, length}
use Rattle.std.specs.declared.net.ip_addr.IpAddr.{IpAddr}
use Rattle.mux_edge.specs.Names.{AddsRows, lines_of}
use Rattle.mux_edge.proofs.names.addresses_of.Given as goal

abbrev pub invariant-loop-rest : goal.invariant-loop-rest
invariant-loop-rest l = (all : List IpAddr) → AddsRows (lines_of l.rest) l.found.items all
    → AddsRows (lines_of l.initial.rest) l.initial.found.items all

abbrev pub decreases-loop-rest : goal.decreases-loop-rest
decreases-loop-rest l = length l.rest
