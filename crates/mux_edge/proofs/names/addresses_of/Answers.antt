use Rattle.std.proofs.Common.{◌≡◌, ◌==◌, false, length}
use Rattle.mux_edge.proofs.Rows.{one_row}
use Rattle.mux_edge.proofs.names.addresses_of.Goals as goal

pub loop-rest-preserved : goal.loop-rest-preserved
loop-rest-preserved c = λ all others.
    let some : (length c.loop-rest.rest.now == 0) ≡ false = cc in
    c.loop-rest.invariant all (one_row c.loop-rest.rest.now c.split_at.result.0.now c.split_at.result.1.now c.behind_end-rest.result.now c.line_len.result c.loop-rest.found.items c.add_row.new.found.items all
    some c.line_len.ensures.count c.split_at.ensures.front c.split_at.ensures.back c.behind_end-rest.ensures.rest c.in_ok-add_row.ensures others)
