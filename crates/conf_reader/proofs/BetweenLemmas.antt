-- Where no file is open, and none is opened any more, nothing is left.
use Rattle.std.proofs.Common.{◌≡◌, ℕ, ◌+◌, ◌≤◌, Bool, true, false, ◌&&◌, List, [], ◌∷◌, ◌++◌, length, drop, Option, Some, None, refl, ap, ◌∙◌, arith}
use Rattle.std.specs.Prelude.{is_none}
use Rattle.std.proofs.lemmas.Bool.{leb-true}
use Rattle.std.proofs.Math.ListN.{drop_of_length-le}
use Rattle.conf_rules.specs.Texts.{is_empty_list}
use Rattle.conf_rules.specs.Recorded.{Recorded}
use Rattle.conf_rules.specs.Sources.{Line}
use Rattle.conf_reader.specs.declared.open_file.OpenFile.{OpenFile}
use Rattle.conf_reader.specs.declared.stack.OpenFiles.{OpenFiles}
use Rattle.conf_reader.specs.declared.lines.FirstFile.{FirstFile}
use Rattle.conf_reader.specs.declared.lines.Lines.{Lines}
use Rattle.conf_reader.specs.Blocks.{Blocks}
use Rattle.conf_reader.specs.Left.{open_left, lines_to_give, firsts_left}
use Rattle.conf_reader.specs.Between.{no_file_left, ends_where}
use Rattle.conf_reader.specs.ToRead.{all_to_read}
use Rattle.conf_reader.proofs.ToReadLemmas.{ended-reads}

both : (a b : Bool) → (a && b) ≡ true → (a ≡ true) × (b ≡ true)
both true b e = (refl, e)
both false b e = absurd cc

none-below : (below : List OpenFile) → is_empty_list below ≡ true → below ≡ []
none-below [] e = refl
none-below (f ∷ fs) e = absurd cc

no-top : (top : Option OpenFile) → is_none top ≡ true → top ≡ None
no-top None e = refl
no-top (Some f) e = absurd cc

no-file : (recorded : Recorded) (place : ℕ) (blocks : Blocks) (o : OpenFiles) → o.below.items ≡ [] → o.top ≡ None → open_left recorded place blocks o ≡ []
no-file recorded place blocks o below top = rw (below, top) refl

rest-left : (recorded : Recorded) (place : ℕ) (opened : List Line) (firsts : List FirstFile) → opened ≡ [] → opened ++ firsts_left recorded (place + length opened) firsts ≡ firsts_left recorded place firsts
rest-left recorded place opened firsts e = let n : place + 0 ≡ place = omega arith in rw (e, n) refl

ended-left : (recorded : Recorded) (place : ℕ) (blocks : Blocks) (r : Lines) → r.open_files.below.items ≡ [] → r.open_files.top ≡ None → length r.firsts.items ≤ r.next_first → lines_to_give recorded place blocks r ≡ []
ended-left recorded place blocks r below top past =
    rest-left recorded place (open_left recorded place blocks r.open_files) (drop r.next_first r.firsts.items) (no-file recorded place blocks r.open_files below top)
    ∙ ap (firsts_left recorded place) (drop_of_length-le r.firsts.items past)

is-ended : (recorded : Recorded) (place : ℕ) (blocks : Blocks) (r : Lines) → no_file_left r ≡ true → lines_to_give recorded place blocks r ≡ []
is-ended recorded place blocks r e =
    let below = both (is_empty_list r.open_files.below.items) _ e in
    let top = both (is_none r.open_files.top) _ below.1 in
    ended-left recorded place blocks r (none-below r.open_files.below.items below.0) (no-top r.open_files.top top.0) (leb-true (length r.firsts.items) r.next_first top.1)

-- a reader that is over has nothing left
pub over-left : (recorded : Recorded) (place : ℕ) (blocks : Blocks) (over : Bool) (r : Lines) → ends_where over r ≡ true → over ≡ true → lines_to_give recorded place blocks r ≡ []
over-left recorded place blocks true r e o = is-ended recorded place blocks r e
over-left recorded place blocks false r e o = absurd cc

-- nor anything to read
pub over-reads : (recorded : Recorded) (over : Bool) (r : Lines) → ends_where over r ≡ true → over ≡ true → all_to_read recorded r ≡ []
over-reads recorded true r e o =
    let below = both (is_empty_list r.open_files.below.items) _ e in
    let top = both (is_none r.open_files.top) _ below.1 in
    ended-reads recorded r (no-top r.open_files.top top.0) (none-below r.open_files.below.items below.0) (leb-true (length r.firsts.items) r.next_first top.1)
over-reads recorded false r e o = absurd cc
