use Rattle.std.proofs.Common.{◌≡◌, ◌<◌, ◌≤◌, Err, [], ◌∷◌, length, get_or, ◌∙◌, sym, ap}
use Rattle.std.specs.Prelude.{if◌then◌else◌}
use Rattle.std.proofs.lemmas.Result.{err_from_is_err_and}
use Rattle.conf_rules.specs.Globs.{is_glob}
use Rattle.conf_rules.specs.Includes.{or_root}
use Rattle.conf_reader.proofs.FolderLemmas.{fails-among, asked_at, asked-one, all-found}
use Rattle.conf_reader.proofs.paths.with_component.Goals as goal

pub returns-in_err-put_below-clause-failed : goal.returns-in_err-put_below-clause-failed
returns-in_err-put_below-clause-failed g c =
    let p = err_from_is_err_and c.from_residual.result c.from_residual.ensures.1 in
    let component = c.args.component.now in
    let base = c.as_bytes.result.now in
    let within : c.loop-base.base-index < length c.args.bases.items = rw c.as_slice-base-items.ensures.value at c.loop-base-test.true in
    let item : c.base-item.result ≡ get_or c.args.bases.items c.loop-base.base-index c.base-item.result = rw c.as_slice-base-items.ensures.value at c.base-item.is in
    fails-among (if is_glob component then or_root base ∷ [] else []) (asked_at component c.args.bases.items) c.in_err-put_below.field-0.0 c.put_below.result c.from_residual.result (g.F.Files.failed c.args.files.now) (g.F.Files.failed c.put_below.new.files)
    c.in_err-put_below.was (p.1 ∙ ap Err p.2) (rw c.as_bytes.ensures (asked-one component c.args.bases.items c.loop-base.base-index c.base-item.result within item)) (rw c.loop-base.invariant.failed at c.put_below.ensures.failed)

pub returns-clause-found : goal.returns-clause-found
returns-clause-found g c = λ recorded t.
    let all : length c.args.bases.items ≤ c.loop-base.base-index = rw c.as_slice-base-items.ensures.value at c.loop-base-test.false in
    all-found recorded c.args.component.now c.args.bases.items c.loop-base.paths.items c.loop-base.base-index (sym c.is_empty.ensures ∙ c.if-is_empty.false) all (c.loop-base.invariant.found recorded t)
