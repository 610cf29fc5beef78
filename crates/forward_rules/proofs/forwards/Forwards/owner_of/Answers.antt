use Rattle.std.proofs.Common.{rules, ◌≡◌, ◌∙◌, ap, sym, position, Some, None}
use Rattle.std.specs.Prelude.{option_map}
use Rattle.conn_messages.specs.Keys.{key_of}
use Rattle.forward_rules.specs.State.{Forward}
use Rattle.forward_rules.specs.Step.{is_live_at}
use Rattle.forward_rules.specs.declared.listed.Listed.{Listed}
use Rattle.forward_rules.proofs.Places.{found, missed, sees}
use Rattle.forward_rules.proofs.forwards.Forwards.owner_of.Goals as goal

pub returns-in_err-place : goal.returns-in_err-place
returns-in_err-place c =
    let h : position (sees (is_live_at (key_of c.args.key))) c.self.inside.listed.items ≡ None = search rules in
    let none : c.from_residual.result ≡ None = search rules in
    rw (← c.self.view_is) (none ∙ sym (ap (option_map (λ (f : Forward). f.client)) (missed (is_live_at (key_of c.args.key)) c.self.inside.listed.items h).found))

pub returns : goal.returns
returns c =
    let h : position (sees (is_live_at (key_of c.args.key))) c.self.inside.listed.items ≡ Some c.in_ok-place.place = search rules in
    rw (← c.self.view_is) (ap (λ (f : Listed). Some f.client) c.index.ensures ∙ sym (ap (option_map (λ (f : Forward). f.client)) (found (is_live_at (key_of c.args.key)) c.self.inside.listed.items c.in_ok-place.place c.index.result.now h)))
