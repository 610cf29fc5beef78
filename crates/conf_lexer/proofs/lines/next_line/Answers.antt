use Rattle.std.proofs.Common.{◌<◌, ◌∙◌, ap, length, arith}
use Rattle.std.proofs.lemmas.List.{take_rest}
use Rattle.conf_lexer.proofs.LineLemmas.{to_feed, fed, unfed}
use Rattle.conf_lexer.proofs.lines.next_line.Goals as goal

pub returns-then-at-n-clause-line : goal.returns-then-at-n-clause-line
returns-then-at-n-clause-line c =
    let some : c.args.at < length c.args.text.now = omega (arith, c.requires, c.if-at-text.false) in
    unfed c.args.text.now c.args.at c.line_len-n.result some (c.line_len-n.ensures.count ∙ ap to_feed (take_rest c.args.text.now c.args.at)) c.if-at-n.true

pub returns-clause-line : goal.returns-clause-line
returns-clause-line c =
    let some : c.args.at < length c.args.text.now = omega (arith, c.requires, c.if-at-text.false) in
    fed c.args.text.now c.args.at c.line_len-n.result some (c.line_len-n.ensures.count ∙ ap to_feed (take_rest c.args.text.now c.args.at))
