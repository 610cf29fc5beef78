use Rattle.std.proofs.Common.{rules, ◌≡◌, ◌≤◌, None, Some, length, slice_get, nat_eq, refl, arith}
use Rattle.std.specs.Map.{values_of}
use Rattle.mux_edge.proofs.Resolved.{SoFar, all_resolved, none_so_far, none_there, one_more}
use Rattle.mux_edge.proofs.lookups.Lookups.resolve.Goals as goal
use Rattle.mux_edge.proofs.lookups.Lookups.resolve.Goals.{in-Some+in_ok-resolve, in_default}

pub loop-index-init : goal.loop-index-init
loop-index-init c = (refl, refl, refl, none_so_far c.args.name.now c.args.addresses.now c.args.self.now.targets.entries)

pub loop-index-preserved : goal.loop-index-preserved
loop-index-preserved c = elim c.match-get_index_mut.branch [
  | in-Some+in_ok-resolve w ↦ search (rules, one_more)
  | in_default w ↦ search (rules, none_there)
]

pub returns-clause-resolved : goal.returns-clause-resolved
returns-clause-resolved c = λ n.
    let all : length c.args.self.now.targets.entries ≤ c.loop-index.index = search (rules, arith) in
    all_resolved c.args.name.now c.args.addresses.now c.loop-index.index n c.args.self.now.targets.entries c.loop-index.self.targets.entries all c.loop-index.invariant.3
