use Rattle.std.proofs.Common.{◌∙◌, ◌++◌, ℕ, List, ap, sym, append_assoc, arith}
use Rattle.house_forward.specs.Links.{stream_waiting, unless_among}
use Rattle.house_forward.proofs.Waited.{listed-more}
use Rattle.house_forward.proofs.relays.Relays.list_waiting.Goals as goal

pub loop-i-preserved : goal.loop-i-preserved
loop-i-preserved c =
    let more : List ℕ = unless_among c.args.failed.now (stream_waiting c.index.result.now) in
    c.in_ok-list_waiting.ensures
    ∙ (ap (λ (l : List ℕ). l ++ more) c.loop-i.invariant
    ∙ (append_assoc c.args.into.now _ more
    ∙ ap (λ (l : List ℕ). c.args.into.now ++ l) (sym (listed-more c.args.self.now.all.items c.args.failed.now c.loop-i.i c.index.result.now c.args.self.now.distinct (omega arith) c.index.ensures))))
