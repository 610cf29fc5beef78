use Rattle.std.proofs.Common.{◌≡◌, map, drop}
use Rattle.conn_messages.specs.Keys.{key_of}
use Rattle.forward_rules.specs.Listing.{listed_forward_of}
use Rattle.forward_rules.specs.Step.{smaller_place, first_cancel, is_leaving_with_key}
use Rattle.forward_rules.proofs.forwards.first_cancel_in.Given as goal

abbrev pub invariant-loop-f : goal.invariant-loop-f
invariant-loop-f l = first_cancel (is_leaving_with_key l.client (key_of l.key)) (map listed_forward_of l.listed) ≡ smaller_place l.first (first_cancel (is_leaving_with_key l.client (key_of l.key)) (map listed_forward_of (drop l.f-index l.listed)))
