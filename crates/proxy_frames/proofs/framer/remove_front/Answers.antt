use Rattle.std.proofs.Common.{◌≡◌, ◌+◌, ◌-◌, length, take, drop, ap, ◌∙◌, arith, rules, length-drop, take_all}
use lib.Seq.{paste}
use Rattle.std.proofs.lemmas.List.Edits.{take-paste}
use Rattle.proxy_frames.proofs.framer.remove_front.Goals as goal

pub returns-clause-items : goal.returns-clause-items
returns-clause-items c =
    let all = c.args.bytes.now.items in
    let left = c.len-len.result - c.args.n in
    let long : length all ≡ c.len-len.result = search rules in
    let same : left ≡ 0 + left = omega arith in
    let rest : length (drop c.args.n all) ≡ left = omega (arith, length-drop c.args.n all) in
    c.truncate.ensures.items ∙ ap (take left) c.copy_within.ensures.items
    ∙ ap (λ k. take k (paste all 0 (drop c.args.n all) left)) same ∙ take-paste all 0 (drop c.args.n all) left (omega arith) (omega arith)
    ∙ take_all left (drop c.args.n all) (omega arith)
