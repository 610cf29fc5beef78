use Rattle.std.proofs.Common.{◌≡◌, ◌∙◌, ◌<◌, ◌∷◌, length, None, Some, sym, ap, subst, refl}
use Rattle.conf_reader.specs.Left.{open_left, source_of, Names}
use Rattle.conf_reader.specs.ToRead.{open_reads}
use Rattle.conf_reader.proofs.ToReadLemmas.{skips-reads, names-each}
use Rattle.conf_reader.proofs.OpenLemmas.{skips-top}
use Rattle.conf_reader.proofs.LookingLemmas.{next-meets, changed-meets}
use Rattle.conf_reader.proofs.stack.OpenFiles.skip.Goals as goal

pub returns-in-Some-clause-left : goal.returns-in-Some-clause-left
returns-in-Some-clause-left c = λ recorded place blocks names.
    let h : (c.in-Some.top.include ≡ None) × (c.in-Some.top.next < length c.in-Some.top.named) = rw c.in-Some.is at c.requires.named in
    skips-top recorded place blocks c.args.self.now c.in-Some.top c.in-Some.is h.0 h.1 (rw c.in-Some.is at names)
    ∙ ap (λ g. open_left recorded place blocks (record c.args.self.now { top = Some g })) (sym c.skip.ensures)

pub returns-in-Some-clause-looks : goal.returns-in-Some-clause-looks
returns-in-Some-clause-looks c = λ recorded test h.
    let f = c.in-Some.top in
    let named : (f.include ≡ None) × (f.next < length f.named) = rw c.in-Some.is at c.requires.named in
    changed-meets test recorded c.args.self.now c.args.self.now.below.items (Some c.skip.new.self) f c.skip.new.self c.in-Some.is refl refl (next-meets test recorded (source_of c.args.self.now.system) f c.skip.new.self c.skip.ensures named.0) h

pub returns-in-Some-clause-reads : goal.returns-in-Some-clause-reads
returns-in-Some-clause-reads c = λ recorded.
    let o = c.args.self.now in
    let f = c.in-Some.top in
    let named : (f.include ≡ None) × (f.next < length f.named) = rw c.in-Some.is at c.requires.named in
    subst (λ t. Names t (λ path. recorded.content path ≡ None → open_reads recorded o ≡ path ∷ open_reads recorded (record o { top = Some c.skip.new.self }))) (sym c.in-Some.is)
    (names-each f (λ path. recorded.content path ≡ None → open_reads recorded o ≡ path ∷ open_reads recorded (record o { top = Some c.skip.new.self }))
    (λ path at none. skips-reads recorded o f path c.in-Some.is named.0 at none ∙ ap (λ g. path ∷ open_reads recorded (record o { top = Some g })) (sym c.skip.ensures)))
