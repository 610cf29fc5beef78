use Rattle.std.proofs.Common.{◌≡◌, ◌<◌, ◌≤◌, ◌-◌, [], ◌∷◌, Some, length, sym, ap, subst, refl, arith}
use Rattle.std.proofs.lemmas.Result.{err_from_is_err_and}
use Rattle.std.specs.List.{slice_get}
use Rattle.conf_reader.specs.declared.stack.Stand.{Stand}
use Rattle.conf_reader.proofs.RefusalLemmas.{ready-top, none-left, one-left-path, found-names}
use Rattle.conf_reader.specs.Looking.{FailsAmong}
use Rattle.conf_reader.proofs.LookingLemmas.{top-records}
use Rattle.conf_reader.specs.Left.{IsFound}
use Rattle.conf_reader.proofs.ToReadLemmas.{fails-behind, names-at, none-read, one-read, path-first}
use Rattle.conf_reader.proofs.UsesLemmas.{read-cause, uses-none, uses-quiet}
use Rattle.conf_reader.proofs.stack.OpenFiles.advance.Goals as goal

pub open-requires-clause-named : goal.open-requires-clause-named
open-requires-clause-named g c = rw c.in-Some.is (ready-top c.args.self.now c.in-Some.top c.requires.ready c.in-Some.is, one-left-path c.in-Some.top.named c.in-Some.top.next c.in-Some-next_path.path.now c.in-Some-next_path.ensures)

pub returns-then-top-as_bytes-clause-stand : goal.returns-then-top-as_bytes-clause-stand
returns-then-top-as_bytes-clause-stand g c =
    let low : c.in-Some.top.at < length c.in-Some.top.text = let k = ap length c.as_bytes-in-None.ensures in omega (arith, k) in
    (refl, rw c.in-Some.is ((ready-top c.args.self.now c.in-Some.top c.requires.ready c.in-Some.is, none-left c.in-Some.top.named c.in-Some.top.next c.in-None.ensures), low), rw c.in-Some.is refl)

pub close-requires-clause-ended : goal.close-requires-clause-ended
close-requires-clause-ended g c =
    let past : length c.in-Some.top.text ≤ c.in-Some.top.at = let k = ap length c.as_bytes-in-None.ensures in omega (arith, k) in
    rw c.in-Some.is ((ready-top c.args.self.now c.in-Some.top c.requires.ready c.in-Some.is, none-left c.in-Some.top.named c.in-Some.top.next c.in-None.ensures), past)

pub returns-in_err-open-in-Ok-clause-moves : goal.returns-in_err-open-in-Ok-clause-moves
returns-in_err-open-in-Ok-clause-moves g c = λ recorded place blocks records.
    let p = err_from_is_err_and c.from_residual.result c.from_residual.ensures.1 in
    rw (p.1, p.2) (c.in_err-open-in-Ok.ensures.moves recorded place blocks (rw c.in-Some.is (found-names recorded c.in-Ok.found c.in-Some.top c.in-Some-next_path.path.now (sym c.in-Some-next_path.ensures) (rw c.as_bytes.ensures at (c.in-Ok.ensures.found recorded records)))))

pub returns-in_default-clause-files : goal.returns-in_default-clause-files
returns-in_default-clause-files g c = uses-none (λ recorded test h. h) (λ recorded. refl)

pub returns-then-top-as_bytes-clause-files : goal.returns-then-top-as_bytes-clause-files
returns-then-top-as_bytes-clause-files g c = uses-none (λ recorded test h. h) (λ recorded. refl)

pub returns-else-top-as_bytes-clause-files : goal.returns-else-top-as_bytes-clause-files
returns-else-top-as_bytes-clause-files g c = uses-none (λ recorded test h. c.close.ensures.looks recorded test h) (λ recorded. c.close.ensures.reads recorded)

pub returns-in_ok-open-in-Ok-clause-files : goal.returns-in_ok-open-in-Ok-clause-files
returns-in_ok-open-in-Ok-clause-files g c = record {
  recorded = c.in-Ok.ensures.recorded;
  cause = c.in-Ok.ensures.cause;
  looks = λ recorded test h. (c.in-Ok.ensures.failed, c.in_ok-open-in-Ok.ensures.looks recorded test h);
  noted = λ recorded records.
      let f = c.in-Some.top in
      let path = c.in-Some-next_path.path.now in
      let found : IsFound c.in-Ok.found (recorded.content path) = rw c.as_bytes.ensures at (c.in-Ok.ensures.found recorded records) in
      one-read path _ _ _ _ (names-at c.args.self.now.top f path _ c.in-Some.is (sym c.in-Some-next_path.ensures) (c.in_ok-open-in-Ok.ensures.reads recorded) found) (rw c.as_bytes.ensures at c.in-Ok.ensures.noted);
}

pub returns-in_err-open-in-Ok-clause-files : goal.returns-in_err-open-in-Ok-clause-files
returns-in_err-open-in-Ok-clause-files g c =
    let p = err_from_is_err_and c.from_residual.result c.from_residual.ensures.1 in
    let f = c.in-Some.top in
    let path = c.in-Some-next_path.path.now in
    let found = c.in-Ok.ensures in
    rw (p.1, p.2) (uses-quiet c.in_err-open-in-Ok.ensures.quiet found.recorded found.cause found.failed (λ recorded records.
    let first = path-first recorded c.args.self.now f path c.in-Some.is (ready-top c.args.self.now f c.requires.ready c.in-Some.is) (sym c.in-Some-next_path.ensures) in
    fails-behind path _ first.0 _ _ first.1 (rw c.as_bytes.ensures at found.noted)))

pub returns-in-Err-Failed-clause-files : goal.returns-in-Err-Failed-clause-files
returns-in-Err-Failed-clause-files g c =
    let f = c.in-Some.top in
    let path = c.in-Some-next_path.path.now in
    let named : slice_get f.named f.next ≡ Some path = sym c.in-Some-next_path.ensures in
    let settled = ready-top c.args.self.now f c.requires.ready c.in-Some.is in
    let gives_up = rw c.in-Some.is at c.give_up.ensures in
    record {
      recorded = c.in-Err-Failed.ensures.recorded;
      cause = read-cause Stand f.path (f.number - 1) c.give_up.result _ _ gives_up (rw c.in-Err-Failed.field-0-is at c.in-Err-Failed.ensures.cause);
      looks = λ recorded test h.
          let fails : FailsAmong (path ∷ []) (g.F.Files.failed c.args.files.now) (g.F.Files.failed c.read_file.new.files) = subst (λ p. FailsAmong (p ∷ []) (g.F.Files.failed c.args.files.now) (g.F.Files.failed c.read_file.new.files)) c.as_bytes.ensures (rw c.in-Err-Failed.field-0-is at c.in-Err-Failed.ensures.failed) in
          (top-records Stand test recorded c.args.self.now f path c.give_up.result _ _ c.in-Some.is settled named gives_up fails h, tt);
      noted = λ recorded records.
          let first = path-first recorded c.args.self.now f path c.in-Some.is settled named in
          fails-behind path _ first.0 _ _ first.1 (rw (c.in-Err-Failed.field-0-is, c.as_bytes.ensures) at c.in-Err-Failed.ensures.noted);
    }

pub returns-in-Err-OutOfMemory-clause-files : goal.returns-in-Err-OutOfMemory-clause-files
returns-in-Err-OutOfMemory-clause-files g c = record {
  recorded = c.in-Err-OutOfMemory.ensures.recorded;
  cause = rw c.in-Err-OutOfMemory.field-0-is at c.in-Err-OutOfMemory.ensures.cause;
  looks = λ recorded test h. (rw c.in-Err-OutOfMemory.field-0-is at c.in-Err-OutOfMemory.ensures.failed, tt);
  noted = λ recorded records. none-read _ _ _ (rw c.in-Err-OutOfMemory.field-0-is at c.in-Err-OutOfMemory.ensures.noted);
}
