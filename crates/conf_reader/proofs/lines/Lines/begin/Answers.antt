use Rattle.std.proofs.Common.{◌≡◌, ◌∙◌, ◌∷◌, ◌++◌, ◌+◌, [], drop, sym, subst, Some, length, false}
use Rattle.std.specs.Prelude.{nat_lt}
use Rattle.std.specs.List.{slice_get}
use Rattle.conf_rules.specs.Sources.{size_limit}
use Rattle.conf_reader.proofs.FirstLemmas.{begins-left, plain-at}
use Rattle.std.specs.Prelude.{flat_map, IfSome}
use Rattle.conf_reader.specs.declared.lines.FirstFile.{FirstFile}
use Rattle.conf_reader.specs.Left.{source_of}
use Rattle.conf_reader.specs.ToRead.{all_to_read, files_read, first_reads}
use Rattle.conf_reader.proofs.ToReadLemmas.{first-begun}
use Rattle.conf_reader.proofs.lines.Lines.begin.Goals as goal

pub returns-clause-left : goal.returns-clause-left
returns-clause-left c = λ recorded place blocks begins.
    let f = c.in-Some.first.now in
    let named : slice_get c.args.self.now.firsts.items c.args.self.now.next_first ≡ Some f = sym c.in-Some.ensures in
    let h : (recorded.content f.path ≡ Some c.args.text) × (nat_lt size_limit (length c.args.text) ≡ false) = rw named at begins in
    begins-left recorded place blocks c.args.self.now f c.in_ok-path.path c.args.text c.begin.result c.requires.none (c.requires.ready.none c.requires.none) named
    (plain-at c.args.self.now.firsts.items c.args.self.now.next_first f c.requires.plain named) (c.in_ok-path.ensures ∙ c.as_bytes.ensures) h.0 h.1 c.begin.ensures

pub returns-clause-reads : goal.returns-clause-reads
returns-clause-reads c = λ recorded.
    let r = c.args.self.now in
    let f = c.in-Some.first.now in
    let named : slice_get r.firsts.items r.next_first ≡ Some f = sym c.in-Some.ensures in
    subst (λ p. IfSome p (λ (first : FirstFile). recorded.content first.path ≡ Some c.args.text → all_to_read recorded r ≡ first.path ∷ (files_read recorded (source_of f.system) 0 (r.open_files.below.items ++ c.begin.result ∷ []) ++ flat_map (first_reads recorded) (drop (r.next_first + 1) r.firsts.items)))) (sym named)
    (λ some. first-begun recorded r f c.in_ok-path.path c.args.text c.begin.result c.requires.none (c.requires.ready.none c.requires.none) named some (c.in_ok-path.ensures ∙ c.as_bytes.ensures) c.begin.ensures)
