use Rattle.std.proofs.Common.{◌≡◌, ◌≤◌, ◌∙◌, ℕ, length, take, sym, subst}
use Rattle.std.specs.Io.KnownBytes.{Appends}
use Rattle.std.proofs.KnownBytes.{Appends-kept}
use Rattle.mux_exchange.proofs.Moves.{sent_more}
use Rattle.mux_exchange.proofs.outbox.give_front.Goals.{in-Took, in-Interrupted}
use Rattle.mux_exchange.proofs.outbox.give_front.Goals as goal

pub loop-preserved : goal.loop-preserved
loop-preserved g c =
    let done = c.loop.count in
    let xs = c.args.bytes.now in
    let before = c.loop.invariant in
    let a = g.W.ByteChannel.contents c.args.to.now in
    let b = g.W.ByteChannel.contents c.send.new.to in
    let left = g.W.ByteChannel.remaining c.send.new.to in
    let whole = g.W.ByteChannel.remaining c.args.to.now in
    let apart : left ≡ whole = c.send.ensures.apart ∙ before.2 in
    elim c.match-send.branch [
      | in-Took w ↦
          let more = sent_more a (g.W.ByteChannel.contents c.loop.to) b xs done w.in-Took.more before.0 w.in-Took.ensures.bytes.1 before.1 w.in-Took.ensures.bytes.2 in
          subst (λ (k : ℕ). (k ≤ length xs) × Appends a b (take k xs) × (left ≡ whole)) (sym w.count-is) (more.0, more.1, apart)
      | in-Interrupted w ↦ subst (λ (k : ℕ). (k ≤ length xs) × Appends a b (take k xs) × (left ≡ whole)) (sym w.count-is)
          (before.0, Appends-kept _ _ _ _ before.1 w.in-Interrupted.ensures.bytes, apart)
    ]
