use Rattle.std.proofs.Common.{◌≡◌, ◌∙◌, sym, ap, refl, subst, false, Some, Ok}
use Rattle.std.specs.Option.{option_map}
use Rattle.conf_reader.specs.declared.stack.OpenFiles.{OpenFiles}
use Rattle.conf_reader.specs.Left.{SkipsComment, GivesLine, gone, include_of}
use Rattle.conf_reader.specs.Looking.{TakesLooks}
use Rattle.conf_reader.proofs.LookingLemmas.{given-looks}
use Rattle.conf_reader.specs.ToRead.{open_reads}
use Rattle.conf_reader.proofs.ToReadLemmas.{comment-reads, gives-reads}
use Rattle.conf_reader.proofs.TakeLemmas.{comment-top, gives-top, refused-top}
use Rattle.conf_reader.proofs.stack.OpenFiles.take_line.Goals as goal

pub returns-in-Err-clause-takes : goal.returns-in-Err-clause-takes
returns-in-Err-clause-takes c = λ recorded place blocks size.
    refused-top recorded place blocks c.args.self.now c.args.self.now c.args.self.now.top c.in-Err.e c.line_refusal.result refl c.requires.some c.requires.line c.in-Err.ensures c.line_refusal.ensures

pub returns-in-None-clause-takes : goal.returns-in-None-clause-takes
returns-in-None-clause-takes c = λ recorded place blocks size.
    subst (λ (n : OpenFiles). SkipsComment recorded place blocks c.args.self.now n) (sym c.go.ensures)
    (comment-top recorded place blocks c.args.self.now c.args.self.now.top c.in-Ok.next refl c.requires.some c.requires.ready.few c.requires.line c.in-Ok.ensures c.in-None.is)

pub returns-in_ok-line-in-Some-clause-takes : goal.returns-in_ok-line-in-Some-clause-takes
returns-in_ok-line-in-Some-clause-takes c = λ recorded place blocks size.
    let include : c.in_ok-include-in-Some.include ≡ include_of c.in-Some.said = let k = c.in_ok-include-in-Some.ensures in cc in
    subst (λ (n : OpenFiles). GivesLine recorded place blocks c.args.self.now (record n { fresh = false }) c.in_ok-line-in-Some.line) (sym (c.go-in-Some.ensures ∙ ap (λ i. record c.args.self.now { top = option_map (gone c.in-Ok.next.next i) c.args.self.now.top }) include))
    (gives-top recorded place blocks c.args.self.now c.args.self.now.top c.in-Ok.next c.in-Some.said c.in_ok-line-in-Some.line refl c.requires.some c.requires.ready.few size c.requires.line c.in-Ok.ensures c.in-Some.is c.in_ok-line-in-Some.ensures)

pub returns-in_ok-line-in-Some-clause-looks : goal.returns-in_ok-line-in-Some-clause-looks
returns-in_ok-line-in-Some-clause-looks c =
    let include : c.in_ok-include-in-Some.include ≡ include_of c.in-Some.said = let k = c.in_ok-include-in-Some.ensures in cc in
    subst (λ (n : OpenFiles). TakesLooks c.args.self.now (record n { fresh = false }) (Ok (Some c.in_ok-line-in-Some.line))) (sym (c.go-in-Some.ensures ∙ ap (λ i. record c.args.self.now { top = option_map (gone c.in-Ok.next.next i) c.args.self.now.top }) include))
    (λ recorded test h looks. given-looks test recorded c.args.self.now c.args.self.now.top c.in-Ok.next.next c.in-Some.said c.in_ok-line-in-Some.line refl c.requires.line c.in_ok-line-in-Some.ensures looks h)

pub returns-in-None-clause-reads : goal.returns-in-None-clause-reads
returns-in-None-clause-reads c = λ recorded.
    comment-reads recorded c.args.self.now c.args.self.now.top c.in-Ok.next refl c.requires.some c.requires.line c.in-Ok.ensures c.in-None.is ∙ ap (λ (n : OpenFiles). open_reads recorded n) (sym c.go.ensures)

pub returns-in_ok-line-in-Some-clause-reads : goal.returns-in_ok-line-in-Some-clause-reads
returns-in_ok-line-in-Some-clause-reads c = λ recorded.
    let include : c.in_ok-include-in-Some.include ≡ include_of c.in-Some.said = let k = c.in_ok-include-in-Some.ensures in cc in
    gives-reads recorded c.args.self.now c.args.self.now.top c.in-Ok.next c.in-Some.said refl c.requires.some c.requires.line c.in-Ok.ensures c.in-Some.is
    ∙ ap (λ (n : OpenFiles). open_reads recorded (record n { fresh = false })) (sym (c.go-in-Some.ensures ∙ ap (λ i. record c.args.self.now { top = option_map (gone c.in-Ok.next.next i) c.args.self.now.top }) include))
