use Rattle.std.proofs.Common.{◌≡◌, ◌∙◌, ◌≤◌, ◌+◌, Ok, sym, ap, refl, length, arith}
use Rattle.std.proofs.lemmas.Result.{err_from_is_err_and}
use Rattle.conf_rules.specs.declared.causes.Cause.TheVariants as causes
use Rattle.conf_reader.specs.declared.lines.Lines.{Lines}
use Rattle.conf_reader.specs.Left.{lines_to_give}
use Rattle.conf_reader.specs.Blocks.{open_behind}
use Rattle.conf_reader.proofs.OneLemmas.{reach-failed, limit-reached, head-failed, same-line, comment-idle, left-on, within-limit}
use Rattle.conf_reader.proofs.LookingLemmas.{all-on, files-meet}
use Rattle.conf_reader.proofs.MovingLemmas.{goes-then}
use Rattle.conf_reader.proofs.ToReadLemmas.{ended-reads, taken-all}
use Rattle.conf_reader.proofs.UsesLemmas.{line-quiet, uses-err, uses-none, uses-refused, uses-then}
use Rattle.conf_reader.proofs.lines.Lines.one.Goals as goal

pub returns-in_err-reach-clause-one : goal.returns-in_err-reach-clause-one
returns-in_err-reach-clause-one g c = λ recorded place blocks records at bounded. let p = err_from_is_err_and c.from_residual.result c.from_residual.ensures.1 in
    rw (p.1, p.2) (reach-failed recorded place blocks c.args.self.now c.args.self.now _ (c.in_err-reach.ensures.lines.moves recorded place blocks records))

pub returns-then-self-ge-MAX_LINES-clause-one : goal.returns-then-self-ge-MAX_LINES-clause-one
returns-then-self-ge-MAX_LINES-clause-one g c = λ recorded place blocks records at bounded.
    let r = c.reach.new.self in
    let same : lines_to_give recorded place blocks c.args.self.now ≡ lines_to_give recorded place blocks r = c.in_ok-reach.ensures.lines.moves recorded place blocks records in
    let at' : place ≡ length recorded.asked.lines + r.read = at ∙ ap (λ n. length recorded.asked.lines + n) (sym c.in_ok-reach.ensures.lines.count) in
    let line = rw c.if-not-branch.false at c.in_ok-reach.ensures.line in
    same-line recorded place blocks c.args.self.now r r c.line_refusal.result same (limit-reached recorded place r.read blocks r r r.open_files.top c.line_refusal.result refl line.1 line.0 c.line_refusal.ensures at' c.if-self-ge-MAX_LINES.true)

pub returns-in_err-take_line-clause-one : goal.returns-in_err-take_line-clause-one
returns-in_err-take_line-clause-one g c = λ recorded place blocks records at bounded.
    let r = c.reach.new.self in
    let same : lines_to_give recorded place blocks c.args.self.now ≡ lines_to_give recorded place blocks r = c.in_ok-reach.ensures.lines.moves recorded place blocks records in
    let at' : place ≡ length recorded.asked.lines + r.read = at ∙ ap (λ n. length recorded.asked.lines + n) (sym c.in_ok-reach.ensures.lines.count) in
    let few = c.in_ok-reach.ensures.lines.goes_on.bounded (length blocks) bounded in
    let size : length r.open_files.below.items ≤ length blocks = omega (arith, few) in
    let p = err_from_is_err_and c.from_residual-in_err-take_line.result c.from_residual-in_err-take_line.ensures.1 in
    rw (p.1, p.2) (same-line recorded place blocks c.args.self.now r r _ same (head-failed recorded place r.read blocks r r c.take_line.new.self _ (c.in_err-take_line.ensures.takes recorded place blocks size) at' c.if-self-ge-MAX_LINES.false))

pub returns-in-None-clause-one : goal.returns-in-None-clause-one
returns-in-None-clause-one g c = λ recorded place blocks records at bounded.
    let r = c.reach.new.self in
    let new : Lines = record r { open_files = c.take_line.new.self; read = r.read + 1 } in
    let same : lines_to_give recorded place blocks c.args.self.now ≡ lines_to_give recorded place blocks r = c.in_ok-reach.ensures.lines.moves recorded place blocks records in
    let at' : place ≡ length recorded.asked.lines + r.read = at ∙ ap (λ n. length recorded.asked.lines + n) (sym c.in_ok-reach.ensures.lines.count) in
    let few = c.in_ok-reach.ensures.lines.goes_on.bounded (length blocks) bounded in
    let size : length r.open_files.below.items ≤ length blocks = omega (arith, few) in
    let t = rw c.in-None.is at (c.in_ok-take_line.ensures.takes recorded place blocks size) in
    (t.line, (same ∙ left-on recorded place blocks blocks r new t.line t.left refl refl, comment-idle recorded t.line place r.read t.comment at' c.if-self-ge-MAX_LINES.false))

pub returns-in-Some-clause-one : goal.returns-in-Some-clause-one
returns-in-Some-clause-one g c = λ recorded place blocks records at bounded.
    let r = c.reach.new.self in
    let new : Lines = record r { open_files = c.take_line.new.self; read = r.read + 1 } in
    let same : lines_to_give recorded place blocks c.args.self.now ≡ lines_to_give recorded place blocks r = c.in_ok-reach.ensures.lines.moves recorded place blocks records in
    let at' : place ≡ length recorded.asked.lines + r.read = at ∙ ap (λ n. length recorded.asked.lines + n) (sym c.in_ok-reach.ensures.lines.count) in
    let few = c.in_ok-reach.ensures.lines.goes_on.bounded (length blocks) bounded in
    let size : length r.open_files.below.items ≤ length blocks = omega (arith, few) in
    let t = rw c.in-Some.is at (c.in_ok-take_line.ensures.takes recorded place blocks size) in
    (t.line, (same ∙ left-on recorded place blocks (open_behind c.in-Some.line place blocks) r new t.line t.left refl refl, (t.is_line, (within-limit recorded t.line place r.read at' c.if-self-ge-MAX_LINES.false, t.source))))

pub returns-in-None-clause-comment : goal.returns-in-None-clause-comment
returns-in-None-clause-comment g c = λ is. goes-then c.in_ok-reach.ensures.lines.goes_on (c.in_ok-take_line.ensures.comment (ap (λ l. Ok l) c.in-None.is))

pub returns-in_err-reach-clause-files : goal.returns-in_err-reach-clause-files
returns-in_err-reach-clause-files g c =
    let p = err_from_is_err_and c.from_residual.result c.from_residual.ensures.1 in
    rw (p.1, p.2) (uses-err c.in_err-reach.ensures.files)

pub returns-then-not-branch-clause-files : goal.returns-then-not-branch-clause-files
returns-then-not-branch-clause-files g c =
    let reached = c.in_ok-reach.ensures in
    let line = rw c.if-not-branch.true at c.in_ok-reach.ensures.line in
    uses-then _ reached.files (uses-none {v = tt {0}} (λ recorded test h. tt) (λ recorded. ended-reads recorded c.reach.new.self line.0 (reached.lines.goes_on.ready.none line.0) line.1))

pub returns-then-self-ge-MAX_LINES-clause-files : goal.returns-then-self-ge-MAX_LINES-clause-files
returns-then-self-ge-MAX_LINES-clause-files g c =
    let line = rw c.if-not-branch.false at c.in_ok-reach.ensures.line in
    uses-refused (line-quiet causes.TooManyLines c.reach.new.self.open_files.top c.line_refusal.result refl line.1 c.line_refusal.ensures) c.in_ok-reach.ensures.files

pub returns-in_err-take_line-clause-files : goal.returns-in_err-take_line-clause-files
returns-in_err-take_line-clause-files g c =
    let p = err_from_is_err_and c.from_residual-in_err-take_line.result c.from_residual-in_err-take_line.ensures.1 in
    rw (p.1, p.2) (uses-refused c.in_err-take_line.ensures.quiet c.in_ok-reach.ensures.files)

pub returns-in-None-clause-files : goal.returns-in-None-clause-files
returns-in-None-clause-files g c =
    let r = c.reach.new.self in
    let looks = rw c.in-None.is at c.in_ok-take_line.ensures.looks in
    uses-then _ c.in_ok-reach.ensures.files (uses-none {v = tt {0}} (λ recorded test h. all-on test recorded r (record r { open_files = c.take_line.new.self; read = r.read + 1 }) refl (looks recorded test (files-meet test recorded r h)) h)
    (λ recorded. taken-all recorded r c.take_line.new.self (r.read + 1) (c.in_ok-take_line.ensures.reads recorded)))

pub returns-in-Some-clause-files : goal.returns-in-Some-clause-files
returns-in-Some-clause-files g c =
    let r = c.reach.new.self in
    let looks = rw c.in-Some.is at c.in_ok-take_line.ensures.looks in
    uses-then _ c.in_ok-reach.ensures.files (uses-none {v = tt {0}} (λ recorded test h line. looks recorded test (files-meet test recorded r h) line)
    (λ recorded. taken-all recorded r c.take_line.new.self (r.read + 1) (c.in_ok-take_line.ensures.reads recorded)))
