-- What steps do to the lines, one after the other.
use Rattle.std.proofs.Common.{◌≡◌, ◌∙◌, List, Option, Ok, Err, refl, sym, subst}
use Rattle.mux_outside.specs.declared.pairs.Pair.{Pair}
use Rattle.conf_rules.specs.declared.causes.ResolveError.{ResolveError}
use Rattle.conf_reader.specs.declared.lines.Lines.{Lines}
use Rattle.conf_reader.specs.declared.stack.OpenFiles.{OpenFiles}
use Rattle.conf_reader.specs.Known.{RecordsFiles}
use Rattle.conf_reader.specs.Left.{lines_to_give, AreFilesReady}
use Rattle.conf_reader.specs.Moving.{ReadingGoesOn, MovesLines}
use Rattle.conf_reader.proofs.RefusalLemmas.{moved-before}

pub goes-same : (o : OpenFiles) → AreFilesReady o → ReadingGoesOn o o
goes-same o ready = record { ready = ready; bounded = λ n b. b }

pub goes-then : {a b c : OpenFiles} → ReadingGoesOn a b → ReadingGoesOn b c → ReadingGoesOn a c
goes-then x y = record { ready = y.ready; bounded = λ n b. y.bounded n (x.bounded n b) }

-- what a step did to the lines that refused none
abbrev pub Moved : Option (List Pair) → Lines → Lines → Type 0
Moved files old new = MovesLines {A = Unit {0}} files old new (Ok tt)

-- lines that stay as they are
pub lines-same : {A : Type 0} {files : Option (List Pair)} {v : A} (r : Lines) → AreFilesReady r.open_files → MovesLines files r r (Ok v)
lines-same r ready = record { moves = λ recorded place blocks records. refl; goes_on = goes-same r.open_files ready; firsts = refl; count = refl }

-- a step after another
pub lines-then : {A B C : Type 0} {files later : Option (List Pair)} {a b c : Lines} {v : A} {w : B} (k : C) → later ≡ files → MovesLines files a b (Ok v) → MovesLines later b c (Ok w) → MovesLines files a c (Ok k)
lines-then k same x y = record {
  moves = λ recorded place blocks records. x.moves recorded place blocks records ∙ y.moves recorded place blocks (subst (λ f. RecordsFiles f recorded) (sym same) records);
  goes_on = goes-then x.goes_on y.goes_on;
  firsts = y.firsts ∙ x.firsts;
  count = y.count ∙ x.count;
}

-- one that refuses
pub lines-fail : {A B C : Type 0} {files later : Option (List Pair)} {a b c : Lines} {v : A} {e : ResolveError} → later ≡ files → MovesLines files a b (Ok v) → MovesLines {A = B} later b c (Err e) → MovesLines {A = C} files a c (Err e)
lines-fail {A} {B} {C} {files} {later} {a} {b} {c} {v} {e} same x y = record {
  moves = λ recorded place blocks records. moved-before (lines_to_give recorded place blocks a) (lines_to_give recorded place blocks b) e (x.moves recorded place blocks records) (y.moves recorded place blocks (subst (λ f. RecordsFiles f recorded) (sym same) records));
  goes_on = tt;
  firsts = y.firsts ∙ x.firsts;
  count = y.count ∙ x.count;
}
