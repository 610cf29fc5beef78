-- How deep lines lie, and how many files are open.
use Rattle.std.proofs.Common.{◌≡◌, ℕ, ◌+◌, ◌≤◌, Bool, true, false, cond, List, length, refl, ap, ◌∙◌, arith}
use Rattle.std.specs.Prelude.{option_to_list}
use Rattle.std.proofs.lemmas.List.{length-append, length-map}
use Rattle.conf_rules.specs.Recorded.{Recorded}
use Rattle.conf_rules.specs.Rows.{LineRow, Pass}
use Rattle.conf_reader.specs.declared.line.ConfLine.{ConfLine}
use Rattle.conf_reader.specs.declared.stack.OpenFiles.{OpenFiles}
use Rattle.conf_reader.specs.declared.lines.Lines.{Lines}
use Rattle.conf_reader.specs.Blocks.{Blocks}
use Rattle.conf_reader.specs.Left.{stack, Bounded}
use Rattle.conf_reader.specs.ReaderReads.{LiesAt, IsGivenFrom, open_count}
use Rattle.conf_fold.specs.declared.fold.Fold.{Fold}
use Rattle.conf_fold.specs.FoldRepresents.{FoldRepresents, open_applies}

depth-by : (old new : ℕ) (given : ConfLine) (t : Bool) → given.opens ≡ t → LiesAt old new given → given.depth ≤ old
depth-by old new given true e l = l.opened e
depth-by old new given false e l = let k = l.known e in omega (arith, k)

pub marks-length : (recorded : Recorded) (pass : Pass) (fold : Fold) (rows : List LineRow) (blocks : Blocks) → FoldRepresents recorded pass fold rows blocks → length fold.applies ≡ length blocks
marks-length recorded pass fold rows blocks s = ap length s.applies ∙ length-map blocks (open_applies rows pass)

-- a given line lies at most as deep as files are open
pub depth-low : (recorded : Recorded) (pass : Pass) (fold : Fold) (rows : List LineRow) (blocks : Blocks) (old new : Lines) (given : ConfLine) → FoldRepresents recorded pass fold rows blocks → IsGivenFrom old new given → Bounded old.open_files (length fold.applies) → given.depth ≤ length blocks
depth-low recorded pass fold rows blocks old new given s g fits =
    let d = depth-by (length fold.applies) (open_count new) given given.opens refl (g.lies (length fold.applies) fits) in
    let k = marks-length recorded pass fold rows blocks s in
    omega (arith, d, k)

stale : (o : OpenFiles) (b : Bool) → o.fresh ≡ b → b ≡ false → length o.below.items + cond o.fresh 0 (length (option_to_list o.top)) ≡ length o.below.items + length (option_to_list o.top)
stale o b e h = ap (λ t. length o.below.items + cond t 0 (length (option_to_list o.top))) (e ∙ h)

-- after a given line as many files are open as it lies deep, and one more
pub given-bounded : (old new : Lines) (given : ConfLine) (n m : ℕ) → IsGivenFrom old new given → Bounded old.open_files n → m ≡ given.depth + 1 → Bounded new.open_files m
given-bounded old new given n m g fits is =
    let count : length (stack new.open_files) ≡ length new.open_files.below.items + length (option_to_list new.open_files.top) = length-append new.open_files.below.items (option_to_list new.open_files.top) in
    let deep = (g.lies n fits).deep in
    let same = stale new.open_files new.open_files.fresh refl g.state.fresh in
    omega (arith, count, deep, same, is)

-- a bound may be larger
pub more-bounded : (o : OpenFiles) (n m : ℕ) → Bounded o n → n ≤ m → Bounded o m
more-bounded o n m h k = omega (arith, h, k)
