use Rattle.std.proofs.Common.{◌∙◌, ◌-◌, ℕ, List, refl, sym, ap}
use Rattle.std.specs.Option.{option_map}
use Rattle.conf_reader.specs.declared.stack.OpenFiles.{OpenFiles}
use Rattle.conf_reader.specs.Left.{open_left, named_as}
use Rattle.conf_reader.proofs.ExpandLemmas.{names-left, include-refused, top-include}
use Rattle.conf_reader.proofs.RefusalLemmas.{refuses-at}
use Rattle.conf_reader.proofs.LookingLemmas.{named-looks, include-records}
use Rattle.conf_reader.specs.ToRead.{open_reads}
use Rattle.conf_reader.proofs.ToReadLemmas.{named-reads, none-read, stays-read}
use Rattle.conf_reader.proofs.UsesLemmas.{line-cause, uses-for, uses-none}
use Rattle.conf_reader.proofs.stack.OpenFiles.expand.Goals as goal

pub returns-in-Ok-clause-moves : goal.returns-in-Ok-clause-moves
returns-in-Ok-clause-moves g c = λ recorded place blocks records facts original.
    let t = top-include c.args.self.now.top c.in-Some.rest.now c.in-Some.ensures in
    names-left recorded place blocks c.args.self.now t.0 c.in-Some.rest.now c.in-Ok.paths t.1.0 t.1.1 (rw c.as_bytes.ensures at (c.in-Ok.ensures.found recorded records facts original))
    ∙ ap (λ x. open_left recorded place blocks (record c.args.self.now { top = x })) (sym (ap (option_map (named_as c.in-Ok.paths)) t.1.0))
    ∙ ap (λ (n : OpenFiles). open_left recorded place blocks n) (sym c.name.ensures)

pub returns-in-Err-clause-moves : goal.returns-in-Err-clause-moves
returns-in-Err-clause-moves g c = λ recorded place blocks records facts original.
    let t = top-include c.args.self.now.top c.in-Some.rest.now c.in-Some.ensures in
    include-refused recorded place blocks c.args.self.now t.0 c.in-Some.rest.now c.in-Err.e c.give_up.result t.1.0 t.1.1
    (rw c.as_bytes.ensures at (c.in-Err.ensures.found recorded records facts original)) (refuses-at c.in-Err.e t.0.path (t.0.number - 1) c.give_up.result (rw t.1.0 at c.give_up.ensures))

pub returns-in-None-clause-files : goal.returns-in-None-clause-files
returns-in-None-clause-files g c = uses-for (uses-none (λ recorded test h. h) (λ recorded. refl))

pub returns-in-Ok-clause-files : goal.returns-in-Ok-clause-files
returns-in-Ok-clause-files g c =
    let t = top-include c.args.self.now.top c.in-Some.rest.now c.in-Some.ensures in
    record {
      recorded = c.in-Ok.ensures.recorded;
      cause = c.in-Ok.ensures.cause;
      looks = λ recorded test records facts original h.
          (c.in-Ok.ensures.failed recorded records facts original, named-looks test recorded c.args.self.now c.name.new.self t.0 c.in-Some.rest.now c.in-Ok.paths t.1.0 t.1.1 (rw c.as_bytes.ensures at (c.in-Ok.ensures.found recorded records facts original)) c.name.ensures h);
      noted = λ recorded records facts original.
          stays-read _ _ _ _ (
          named-reads recorded c.args.self.now t.0 c.in-Some.rest.now c.in-Ok.paths t.1.0 t.1.1 (rw c.as_bytes.ensures at (c.in-Ok.ensures.found recorded records facts original))
          ∙ ap (λ x. open_reads recorded (record c.args.self.now { top = x })) (sym (ap (option_map (named_as c.in-Ok.paths)) t.1.0))
          ∙ ap (λ (n : OpenFiles). open_reads recorded n) (sym c.name.ensures)) c.in-Ok.ensures.noted;
    }

pub returns-in-Err-clause-files : goal.returns-in-Err-clause-files
returns-in-Err-clause-files g c =
    let t = top-include c.args.self.now.top c.in-Some.rest.now c.in-Some.ensures in
    let gives_up = rw t.1.0 at c.give_up.ensures in
    record {
      recorded = c.in-Err.ensures.recorded;
      cause = line-cause (List (List ℕ)) (Unit {0}) c.in-Err.e t.0.path (t.0.number - 1) c.give_up.result _ _ gives_up c.in-Err.ensures.cause;
      looks = λ recorded test records facts original h.
          (include-records (List (List ℕ)) (Unit {0}) test recorded c.args.self.now t.0 c.in-Some.rest.now c.as_bytes.result.now c.in-Err.e c.give_up.result _ _ t.1.0 t.1.1 c.as_bytes.ensures gives_up (c.in-Err.ensures.failed recorded records facts original) h, tt);
      noted = λ recorded records facts original. none-read _ _ _ c.in-Err.ensures.noted;
    }
