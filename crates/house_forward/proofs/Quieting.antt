-- A forwarder that has nothing to send, to order and to answer is at rest.
use Rattle.std.proofs.Common.{◌≡◌, sym, ap, subst, true, List}
use Rattle.std.specs.Prelude.{not, is_some, find}
use Rattle.std.specs.List.{list_any}
use Rattle.std.proofs.lemmas.Bool.{and_parts, not-true}
use Rattle.house_forward.specs.Causes.{ForwarderIsAtRest}
use Rattle.house_forward.specs.ForwardingState.{ForwardingState}
use Rattle.house_forward.specs.Forwardings.{has_request, next_listener_order}
use Rattle.house_forward.specs.Links.{has_order, has_sending, is_offered}
use Rattle.house_forward.specs.Quiet.{sends_none, orders_none, answers_none}
use Rattle.house_forward.specs.Starting.{EachQuiet}
use Rattle.house_forward.specs.declared.link.Link.{Link}
use Rattle.house_forward.proofs.Resting.{none-of}

at-rest : (d : ForwardingState) (links : List Link) → sends_none d.greeted d.all links ≡ true → orders_none d.all links d.waiting ≡ true
    → answers_none d.waiting ≡ true → ForwarderIsAtRest d
at-rest d links says orders answers =
    let said = and_parts (not (is_some (find has_request d.all))) (not (list_any has_sending links))
    (and_parts d.greeted _ says).1 in
    let ordered = and_parts (not (list_any is_offered links)) (not (is_some (next_listener_order d.waiting d.all)))
    (and_parts (not (list_any has_order links)) _ orders).1 in
    record {
      says = none-of (find has_request d.all) (not-true (is_some (find has_request d.all)) said.0);
      orders = none-of (next_listener_order d.waiting d.all) (not-true (is_some (next_listener_order d.waiting d.all)) ordered.1);
      answers = answers;
    }

pub each-quiet : EachQuiet
each-quiet calls h lived quiet =
    subst ForwarderIsAtRest (sym lived.is.forwarding_state_is)
    (at-rest h.forwarding_state h.links (ap (λ q. q.says) quiet) (ap (λ q. q.orders) quiet) (ap (λ q. q.answers) quiet))
