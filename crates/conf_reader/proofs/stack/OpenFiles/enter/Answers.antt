use Rattle.std.proofs.Common.{◌≡◌, ◌∙◌, ◌<◌, ◌∷◌, ◌++◌, length, None, Some, [], sym, ap, subst}
use Rattle.std.specs.List.{slice_get}
use Rattle.conf_reader.specs.declared.open_file.OpenFile.{OpenFile}
use Rattle.conf_reader.proofs.OpenLemmas.{open-enters}
use Rattle.conf_reader.proofs.LookingLemmas.{entered-meets}
use Rattle.conf_reader.specs.Left.{source_of, Names}
use Rattle.conf_reader.specs.ToRead.{open_reads, files_read}
use Rattle.conf_reader.proofs.ToReadLemmas.{enters-reads, names-each}
use Rattle.conf_reader.proofs.stack.OpenFiles.enter.Goals as goal

pub returns-clause-left : goal.returns-clause-left
returns-clause-left c = λ recorded place blocks names small.
    let f = c.in-Some.top in
    let top : c.args.self.now.top ≡ Some f = sym c.in-Some.ensures.value in
    let h : (f.include ≡ None) × (f.next < length f.named) = rw top at c.requires.named in
    let path : slice_get f.named f.next ≡ Some c.in-Some-next_path.path.now = sym c.in-Some-next_path.ensures in
    open-enters recorded place blocks c.args.self.now c.push.new.self.items f c.skip.new.self c.begin.result c.in-Some-next_path.path.now c.args.text c.requires.ready c.requires.deep top h.0 h.1 path (rw (top, path) at names) small c.in_ok-push.ensures.items c.skip.ensures (c.begin.ensures ∙ ap (λ p. record { path = p; text = c.args.text; at = 0; number = 1; include = None; named = []; next = 0 }) (c.in_ok-path.ensures ∙ c.as_bytes.ensures))

pub returns-clause-looks : goal.returns-clause-looks
returns-clause-looks c = λ recorded test h.
    let f = c.in-Some.top in
    let top : c.args.self.now.top ≡ Some f = sym c.in-Some.ensures.value in
    let named : (f.include ≡ None) × (f.next < length f.named) = rw top at c.requires.named in
    entered-meets test recorded c.args.self.now c.push.new.self.items f c.skip.new.self c.begin.result top c.in_ok-push.ensures.items c.skip.ensures named.0
    (ap (λ (n : OpenFile). n.include) c.begin.ensures) (ap (λ (n : OpenFile). n.named) c.begin.ensures) h

pub returns-clause-reads : goal.returns-clause-reads
returns-clause-reads c = λ recorded.
    let o = c.args.self.now in
    let f = c.in-Some.top in
    let top : o.top ≡ Some f = sym c.in-Some.ensures.value in
    let named : (f.include ≡ None) × (f.next < length f.named) = rw top at c.requires.named in
    subst (λ t. Names t (λ path. recorded.content path ≡ Some c.args.text → open_reads recorded o ≡ path ∷ files_read recorded (source_of o.system) 0 (c.push.new.self.items ++ c.begin.result ∷ []))) (sym top)
    (names-each f (λ path. recorded.content path ≡ Some c.args.text → open_reads recorded o ≡ path ∷ files_read recorded (source_of o.system) 0 (c.push.new.self.items ++ c.begin.result ∷ []))
    (λ path at some.
    let same : c.in-Some-next_path.path.now ≡ path = let k : Some c.in-Some-next_path.path.now ≡ Some path = c.in-Some-next_path.ensures ∙ at in cc in
    enters-reads recorded o c.push.new.self.items f c.skip.new.self c.begin.result path c.args.text c.requires.deep top named.0 at some c.in_ok-push.ensures.items c.skip.ensures
    (c.begin.ensures ∙ ap (λ p. record { path = p; text = c.args.text; at = 0; number = 1; include = None; named = []; next = 0 }) (c.in_ok-path.ensures ∙ c.as_bytes.ensures ∙ same))))
