use Rattle.std.proofs.Common.{◌≡◌, rules}
use Rattle.std.specs.Prelude.{not, filter}
use Rattle.std.proofs.lemmas.Fn.{filter_same}
use Rattle.house_forward.specs.Forwardings.{has_listener}
use Rattle.house_forward.specs.declared.forwarding.Forwarding.{Forwarding}
use Rattle.house_forward.proofs.InOrder.{order-filter}
use Rattle.house_forward.proofs.Numbered.{numbered-filter}
use Rattle.house_forward.proofs.Placed.{placed-filter}
use Rattle.house_forward.proofs.forwardings.Forwardings.unlisten.Goals as goal

pub invariant_of-self : goal.invariant_of-self
invariant_of-self c =
    let same : c.retain.new.self.items ≡ filter (λ (f : Forwarding). not (has_listener c.args.listener f)) c.args.self.now.all.items =
    filter_same _ (λ (f : Forwarding). not (has_listener c.args.listener f)) _ (λ x b f' k. search rules) _ _ c.retain.ensures.filtered in
    record {
      in_order = rw same (order-filter (λ (f : Forwarding). not (has_listener c.args.listener f)) c.args.self.now.all.items c.args.self.now.in_order);
      placed = rw same (placed-filter (λ (f : Forwarding). not (has_listener c.args.listener f)) c.args.self.now.all.items c.args.self.now.placed);
      numbered = rw same (numbered-filter (λ (f : Forwarding). not (has_listener c.args.listener f)) c.args.self.now.all.items c.args.self.now.serials c.args.self.now.numbered);
    }

pub returns-clause-all : goal.returns-clause-all
returns-clause-all c =
    filter_same _ (λ (f : Forwarding). not (has_listener c.args.listener f)) _ (λ x b f' k. search rules) _ _ c.retain.ensures.filtered
