use Rattle.std.proofs.Common.{Err, ◌∙◌, ap}
use Rattle.std.specs.Prelude.{flat_map}
use Rattle.std.proofs.lemmas.Result.{err_from_is_err_and}
use Rattle.conf_tokens.specs.Known.{known}
use Rattle.conf_rules.specs.Looks.{folders_of, looks_of}
use Rattle.conf_reader.specs.Left.{source_of}
use Rattle.conf_reader.proofs.PathLemmas.{named-ok, named-err}
use Rattle.conf_reader.proofs.FolderLemmas.{line-fails, looks-named, folders-looked}
use Rattle.conf_reader.proofs.paths.named_paths.Goals as goal

pub returns-in_err-paths-clause-found : goal.returns-in_err-paths-clause-found
returns-in_err-paths-clause-found g c = λ recorded t f o.
    let p = err_from_is_err_and c.from_residual.result c.from_residual.ensures.1 in
    rw (p.1, p.2) (named-err (source_of c.args.system) recorded (known c.args.facts.now) c.args.original.now c.args.rest.now c.in-Ok.words c.in_err-paths.field-0.0 f o c.in-Ok.ensures.exact c.in_err-paths.ensures)

pub returns-clause-found : goal.returns-clause-found
returns-clause-found g c = λ recorded t f o.
    named-ok (source_of c.args.system) recorded (known c.args.facts.now) c.args.original.now c.args.rest.now c.in-Ok.words c.in_ok-paths.paths c.in_ok-found.field-0 f o c.in-Ok.ensures.exact c.in_ok-paths.ensures (c.in_ok-found.ensures.found recorded t)

pub returns-in_err-found-clause-failed : goal.returns-in_err-found-clause-failed
returns-in_err-found-clause-failed g c = λ recorded t f o.
    let p = err_from_is_err_and c.from_residual-in_err-found.result c.from_residual-in_err-found.ensures.1 in
    let looks = looks-named (source_of c.args.system) recorded (known c.args.facts.now) c.args.original.now c.args.rest.now c.in-Ok.words c.in_ok-paths.paths f o c.in-Ok.ensures.exact c.in_ok-paths.ensures in
    rw looks
    (line-fails (flat_map (folders_of recorded) c.in_ok-paths.paths) (looks_of recorded c.in_ok-paths.paths) c.in_err-found.field-0.0 c.all_globbed-found.result c.from_residual-in_err-found.result (g.F.Files.failed c.args.files.now) (g.F.Files.failed c.all_globbed-found.new.files)
    c.in_err-found.was (p.1 ∙ ap Err p.2) (folders-looked recorded c.in_ok-paths.paths) (c.all_globbed-found.ensures.failed recorded t))
