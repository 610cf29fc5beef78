use Rattle.std.proofs.Common.{◌≡◌, ◌∙◌, ap, ℕ, List, length, arith}
use Rattle.std.proofs.lemmas.Grind.{common_steps}
use Rattle.mux_drill.specs.Inboxes.{with_more_bytes, without_last}
use Rattle.mux_drill.specs.declared.play.Play.{Play}
use Rattle.mux_drill.proofs.InboxLemmas.{back_again}
use Rattle.mux_drill.proofs.drill_wire.DrillWireWire.write.Goals as goal

pub returns-then-is_err-2-clause-err : goal.returns-then-is_err-2-clause-err
returns-then-is_err-2-clause-err c =
    let play = c.args.self.now.play in
    let added : c.add.new.self ≡ with_more_bytes c.args.stream c.args.bytes.now play.unread = grind (arith, common_steps) in
    let P : List (List ℕ) → Play = λ unread. record play { unread = unread } in
    λ _. ap P
    (c.take_back.ensures
    ∙ ap (λ (u : List (List ℕ)). without_last c.args.stream (length c.args.bytes.now) u) added
    ∙ back_again c.args.stream c.args.bytes.now play.unread)
