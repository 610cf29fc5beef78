use Rattle.std.proofs.Common.{arith, ◌≡◌, ◌++◌, map, take, drop, length, sym, subst}
use Rattle.std.proofs.lemmas.Grind.{common_steps}
use Rattle.forward_rules.specs.Listing.{listed_forward_of}
use Rattle.forward_rules.specs.Taking.{AreFew, moved_up_of}
use Rattle.forward_rules.proofs.Counts.{few-moved}
use Rattle.forward_rules.proofs.forwards.Forwards.close_up.Goals as goal

pub invariant_of-self : goal.invariant_of-self
invariant_of-self c =
    let moved : map listed_forward_of (take c.self.inside.listed.len (c.move_up_in.new.listed ++ drop (length c.move_up_in.new.listed) c.self.inside.listed.items)) ≡ map (moved_up_of c.args.client c.in-Some.rank) (map listed_forward_of c.self.inside.listed.items) = grind (arith, common_steps) in
    subst AreFew (sym moved) (few-moved c.args.client c.in-Some.rank (map listed_forward_of c.self.inside.listed.items) c.self.invariant)
