use Rattle.std.proofs.Common.{◌≡◌, ◌<◌, length, get_or, Err, ◌∙◌, sym, ap, subst}
use Rattle.std.specs.Prelude.{flat_map}
use Rattle.std.proofs.lemmas.Result.{err_from_is_err_and}
use Rattle.conf_rules.specs.Looks.{folders_of}
use Rattle.conf_reader.specs.Known.{RecordsFiles}
use Rattle.conf_reader.proofs.FolderLemmas.{fails-among, one-among}
use Rattle.conf_reader.proofs.paths.all_globbed.Goals as goal

pub returns-in_err-add_globbed-clause-failed : goal.returns-in_err-add_globbed-clause-failed
returns-in_err-add_globbed-clause-failed g c = λ recorded t.
    let p = err_from_is_err_and c.from_residual.result c.from_residual.ensures.1 in
    let within : c.loop-path.path-index < length c.args.paths.now = rw c.as_slice-path-items.ensures at c.loop-path-test.true in
    let item : c.path-item.result ≡ get_or c.args.paths.now c.loop-path.path-index c.path-item.result = rw c.as_slice-path-items.ensures at c.path-item.is in
    let before = c.loop-path.invariant.failed recorded t in
    let here = c.add_globbed.ensures.failed recorded (subst (λ x. RecordsFiles x recorded) (sym c.loop-path.invariant.recorded) t) in
    fails-among (folders_of recorded c.as_bytes.result.now) (flat_map (folders_of recorded) c.args.paths.now) c.in_err-add_globbed.field-0.0 c.add_globbed.result c.from_residual.result (g.F.Files.failed c.args.files.now) (g.F.Files.failed c.add_globbed.new.files) c.in_err-add_globbed.was (p.1 ∙ ap Err p.2)
    (rw c.as_bytes.ensures (one-among (folders_of recorded) c.args.paths.now c.loop-path.path-index c.path-item.result within item)) (rw before at here)
