use Rattle.std.proofs.Common.{arith, ◌≡◌, ◌++◌, map, take, drop, length, sym, subst}
use Rattle.std.proofs.lemmas.Grind.{common_steps}
use Rattle.forward_rules.specs.Listing.{listed_forward_of}
use Rattle.forward_rules.specs.Step.{without_cancel_of}
use Rattle.forward_rules.specs.Taking.{AreFew}
use Rattle.forward_rules.proofs.Counts.{few-settled}
use Rattle.forward_rules.proofs.forwards.Forwards.settle.Goals as goal

pub invariant_of-self : goal.invariant_of-self
invariant_of-self c =
    let settled : map listed_forward_of (take c.self.inside.listed.len (c.settle_in.new.listed ++ drop (length c.settle_in.new.listed) c.self.inside.listed.items)) ≡ map (without_cancel_of c.args.client c.args.rank) (map listed_forward_of c.self.inside.listed.items) = grind (arith, common_steps) in
    subst AreFew (sym settled) (few-settled c.args.client c.args.rank (map listed_forward_of c.self.inside.listed.items) c.self.invariant)
