use Rattle.std.proofs.Common.{Err, [], ◌∷◌, ◌∙◌, sym, ap, subst}
use Rattle.std.specs.Prelude.{sum_by}
use Rattle.std.proofs.lemmas.Result.{err_from_is_err_and}
use Rattle.conf_rules.specs.Looks.{folders_along}
use Rattle.conf_rules.specs.Includes.{components_of}
use Rattle.conf_reader.specs.Known.{RecordsFiles}
use Rattle.conf_reader.specs.Paths.{with_component}
use Rattle.conf_reader.proofs.FoundLemmas.{same-along, some-component, last-component, if-ok}
use Rattle.conf_reader.proofs.FolderLemmas.{fails-among, fails-more, asked_at, asked-next, asked-last, asked-further}
use Rattle.conf_reader.proofs.paths.along.Goals as goal

pub loop-component-preserved : goal.loop-component-preserved
loop-component-preserved g c = record {
  recorded = c.in_ok-paths.ensures.recorded ∙ c.loop-component.invariant.recorded;
  faults = c.in_ok-paths.ensures.cause ∙ c.loop-component.invariant.faults;
  failed = c.in_ok-paths.ensures.failed ∙ c.loop-component.invariant.failed;
  noted = c.with_component.ensures.noted ∙ c.loop-component.invariant.noted;
  found = λ recorded t f.
      same-along recorded (components_of c.in-Some.rest.now) (with_component recorded c.in-Some.component.now c.loop-component.paths.items) c.in_ok-paths.paths.items (c.in_ok-paths.ensures.found recorded (subst (λ x. RecordsFiles x recorded) (sym c.loop-component.invariant.recorded) t)) f
      ∙ sym (ap (sum_by f) (some-component recorded c.loop-component.left.now c.in-Some.component.now c.in-Some.rest.now c.loop-component.paths.items c.in-Some.ensures.parts))
      ∙ c.loop-component.invariant.found recorded t f;
  looks = λ recorded t.
      asked-further recorded c.loop-component.left.now c.in-Some.component.now c.in-Some.rest.now c.loop-component.paths.items c.in_ok-paths.paths.items (folders_along recorded (components_of c.args.path.now) ([] ∷ [])) c.in-Some.ensures.parts
      (c.in_ok-paths.ensures.found recorded (subst (λ x. RecordsFiles x recorded) (sym c.loop-component.invariant.recorded) t)) (c.loop-component.invariant.looks recorded t);
}

pub returns-clause-found : goal.returns-clause-found
returns-clause-found g c = λ recorded t.
    if-ok _ _ c.with_component-2.result
    (λ paths same f. same f ∙ sym (ap (sum_by f) (last-component recorded c.loop-component.left.now c.loop-component.paths.items c.in_default.ensures.parts)) ∙ c.loop-component.invariant.found recorded t f)
    (c.with_component-2.ensures.found recorded (subst (λ x. RecordsFiles x recorded) (sym c.loop-component.invariant.recorded) t))

pub returns-in_err-paths-clause-failed : goal.returns-in_err-paths-clause-failed
returns-in_err-paths-clause-failed g c = λ recorded t.
    let p = err_from_is_err_and c.from_residual-in_err-paths.result c.from_residual-in_err-paths.ensures.1 in
    let whole = folders_along recorded (components_of c.args.path.now) ([] ∷ []) in
    fails-among (asked_at c.in-Some.component.now c.loop-component.paths.items) whole c.in_err-paths.field-0.0 c.with_component.result c.from_residual-in_err-paths.result (g.F.Files.failed c.args.files.now) (g.F.Files.failed c.with_component.new.files)
    c.in_err-paths.was (p.1 ∙ ap Err p.2)
    (asked-next recorded c.loop-component.left.now c.in-Some.component.now c.in-Some.rest.now c.loop-component.paths.items whole c.in-Some.ensures.parts (c.loop-component.invariant.looks recorded t)) (rw c.loop-component.invariant.failed at c.with_component.ensures.failed)

pub returns-clause-failed : goal.returns-clause-failed
returns-clause-failed g c = λ recorded t.
    let whole = folders_along recorded (components_of c.args.path.now) ([] ∷ []) in
    fails-more (asked_at c.loop-component.left.now c.loop-component.paths.items) whole c.with_component-2.result (g.F.Files.failed c.args.files.now) (g.F.Files.failed c.with_component-2.new.files)
    (asked-last recorded c.loop-component.left.now c.loop-component.paths.items whole c.in_default.ensures.parts (c.loop-component.invariant.looks recorded t)) (rw c.loop-component.invariant.failed at c.with_component-2.ensures.failed)
