use Rattle.std.proofs.Common.{rules, ◌≡◌, map, ap, sym, subst, ◌∙◌}
use Rattle.std.specs.Prelude.{not, ◌==◌}
use Rattle.std.proofs.lemmas.Fn.{filter_same}
use Rattle.forward_rules.specs.declared.listed.Listed.{Listed}
use Rattle.forward_rules.specs.Listing.{listed_forward_of}
use Rattle.forward_rules.specs.Step.{is_forward_of, forwards_without_client}
use Rattle.forward_rules.specs.Taking.{AreFew}
use Rattle.forward_rules.proofs.Counts.{few-filter}
use Rattle.forward_rules.proofs.Places.{filter-seen}
use Rattle.forward_rules.proofs.forwards.Forwards.leave.Goals as goal

pub invariant_of-self : goal.invariant_of-self
invariant_of-self c =
    let left : map listed_forward_of c.retain.new.self.items ≡ forwards_without_client c.args.client (map listed_forward_of c.self.inside.listed.items) = ap (map listed_forward_of) (filter_same _ (λ (f : Listed). not (f.client == c.args.client)) _ (λ x b f' k. search rules) _ _ c.retain.ensures.filtered) ∙ filter-seen (λ f. not (is_forward_of c.args.client f)) c.self.inside.listed.items in
    subst AreFew (sym left) (few-filter (λ f. not (is_forward_of c.args.client f)) (map listed_forward_of c.self.inside.listed.items) c.self.invariant)

pub returns : goal.returns
returns c = rw (← c.self.view_is) (ap (map listed_forward_of) (filter_same _ (λ (f : Listed). not (f.client == c.args.client)) _ (λ x b f' k. search rules) _ _ c.retain.ensures.filtered) ∙ filter-seen (λ f. not (is_forward_of c.args.client f)) c.self.inside.listed.items)
