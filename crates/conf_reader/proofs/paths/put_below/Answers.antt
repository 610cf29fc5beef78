use Rattle.std.proofs.Common.{◌≡◌, true, Err, [], ◌∷◌, ◌++◌, ◌∙◌, sym, ap, append-nil}
use Rattle.std.specs.Prelude.{sum_by}
use Rattle.std.proofs.lemmas.Result.{err_from_is_err_and}
use Rattle.conf_reader.proofs.FolderLemmas.{fails-there, alone}
use Rattle.conf_rules.specs.Globs.{is_glob}
use Rattle.conf_reader.proofs.FoundLemmas.{taken, same-lists, same-more, below-none, below-some}
use Rattle.conf_rules.specs.Includes.{or_root, below}
use Rattle.conf_reader.proofs.paths.put_below.Goals as goal

pub returns-in_default-clause-found : goal.returns-in_default-clause-found
returns-in_default-clause-found g c = λ recorded t.
    same-lists (c.args.paths.now.items ++ below recorded c.args.component.now c.args.base.now) c.args.paths.now.items
    (ap (λ xs. c.args.paths.now.items ++ xs) (below-none (g.F.Files.recorded c.args.files.now) recorded c.args.component.now c.args.base.now _ t (rw c.or_root.ensures at c.in_ok-names.ensures.lists) c.in_default.is (sym c.is_glob.ensures ∙ c.if-not-is_glob.false)) ∙ append-nil c.args.paths.now.items)

pub returns-clause-found : goal.returns-clause-found
returns-clause-found g c = λ recorded t f.
    ap (sum_by f) c.in_ok-put_taken.ensures
    ∙ same-more c.args.paths.now.items (below recorded c.args.component.now c.args.base.now) (taken c.args.component.now c.args.base.now c.in-Some.names) (below-some (g.F.Files.recorded c.args.files.now) recorded c.args.component.now c.args.base.now _ _ t (rw c.or_root.ensures at c.in_ok-names.ensures.lists) c.in-Some.is (sym c.is_glob.ensures ∙ c.if-not-is_glob.false)) f

pub returns-in_err-names-clause-failed : goal.returns-in_err-names-clause-failed
returns-in_err-names-clause-failed g c =
    let p = err_from_is_err_and c.from_residual-in_err-names.result c.from_residual-in_err-names.ensures.1 in
    let glob : is_glob c.args.component.now ≡ true = sym c.is_glob.ensures ∙ c.if-not-is_glob.false in
    rw glob (fails-there (or_root c.args.base.now ∷ []) (or_root c.args.base.now) c.in_err-names.field-0.0 c.list.result c.from_residual-in_err-names.result (g.F.Files.failed c.args.files.now) (g.F.Files.failed c.list.new.self) c.in_err-names.was (p.1 ∙ ap Err p.2) (alone (or_root c.args.base.now)) (rw c.or_root.ensures at c.list.ensures.failed))
