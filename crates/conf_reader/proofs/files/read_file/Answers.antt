use Rattle.std.proofs.Common.{◌∙◌, ap, Err, ◌∷◌, []}
use Rattle.std.proofs.lemmas.Result.{err_from_is_err_and}
use Rattle.conf_reader.proofs.FolderLemmas.{fails-there, alone}
use Rattle.conf_reader.proofs.files.read_file.Goals as goal

pub returns-in_err-read-clause-failed : goal.returns-in_err-read-clause-failed
returns-in_err-read-clause-failed g c =
    let p = err_from_is_err_and c.from_residual.result c.from_residual.ensures.1 in
    fails-there (c.args.path.now ∷ []) c.args.path.now c.in_err-read.field-0.0 c.read.result c.from_residual.result (g.F.Files.failed c.args.files.now) (g.F.Files.failed c.read.new.self) c.in_err-read.was (p.1 ∙ ap Err p.2) (alone c.args.path.now) c.read.ensures.failed
