use Rattle.std.proofs.Common.{◌≡◌, Bool, true, sym, ap, refl, subst, Some, None, []}
use Rattle.std.proofs.lemmas.Result.{err_from_is_err_and}
use Rattle.std.specs.List.{slice_get}
use Rattle.conf_rules.specs.declared.causes.Cause.TheVariants as causes
use Rattle.conf_reader.specs.declared.files.FoundFile.{FoundFile}
use Rattle.conf_reader.specs.declared.files.FoundFile.TheVariants.{Holds}
use Rattle.conf_reader.specs.declared.lines.Lines.{Lines}
use Rattle.conf_reader.specs.Left.{lines_to_give, IsFound}
use Rattle.conf_reader.specs.Looking.{all_meet}
use Rattle.conf_reader.specs.Moving.{ReadingGoesOn}
use Rattle.conf_reader.proofs.RefusalLemmas.{moves-refused}
use Rattle.conf_reader.proofs.FirstLemmas.{fails-moved, lack-refused, size-moves, plain-at, below-end}
use Rattle.conf_reader.proofs.LookingLemmas.{all-on, files-meet, first-records}
use Rattle.conf_reader.proofs.MovingLemmas.{goes-same, lines-same}
use Rattle.conf_reader.proofs.ToReadLemmas.{first-at, first-behind, first-fails, first-some, one-read}
use Rattle.conf_reader.proofs.UsesLemmas.{cause-on, refuses-quiet, uses-none, uses-quiet}
use Rattle.conf_reader.proofs.lines.Lines.first.Goals as goal

pub skip-requires-clause-next : goal.skip-requires-clause-next
skip-requires-clause-next g c = below-end c.args.self.now.firsts.items c.args.self.now.next_first c.in-Some.first.now (sym c.in-Some.ensures)

pub begin-requires-clause-next : goal.begin-requires-clause-next
begin-requires-clause-next g c = below-end c.args.self.now.firsts.items c.args.self.now.next_first c.in-Some.first.now (sym c.in-Some.ensures)

-- ---- there is none

pub returns-in_default-clause-lines : goal.returns-in_default-clause-lines
returns-in_default-clause-lines g c = lines-same c.args.self.now c.requires.ready

pub returns-in_default-clause-files : goal.returns-in_default-clause-files
returns-in_default-clause-files g c = uses-none (λ recorded test h. h) (λ recorded. refl)

-- ---- it isn't there, and is refused

pub returns-then-required-clause-lines : goal.returns-then-required-clause-lines
returns-then-required-clause-lines g c =
    let f = c.in-Some.first.now in
    let named : slice_get c.args.self.now.firsts.items c.args.self.now.next_first ≡ Some f = sym c.in-Some.ensures in
    record {
      moves = λ recorded place blocks records.
          let none = rw (c.in-Nothing.is, c.as_bytes.ensures) at (c.in_ok-first_found.ensures.found recorded records) in
          moves-refused (lines_to_give recorded place blocks c.args.self.now) [] f.path 0 causes.NoFile c.file_refusal.result (rw named at c.file_refusal.ensures)
          (lack-refused recorded place blocks c.args.self.now f c.requires.none (c.requires.ready.none c.requires.none) named none c.if-required.true);
      goes_on = tt;
      firsts = refl;
      count = refl;
    }

pub returns-then-required-clause-files : goal.returns-then-required-clause-files
returns-then-required-clause-files g c =
    let f = c.in-Some.first.now in
    let named : slice_get c.args.self.now.firsts.items c.args.self.now.next_first ≡ Some f = sym c.in-Some.ensures in
    let quiet = refuses-quiet causes.NoFile f.path 0 c.file_refusal.result refl (rw named at c.file_refusal.ensures) in
    let found = c.in_ok-first_found.ensures in
    uses-quiet quiet found.recorded found.cause found.failed (λ recorded records. first-behind recorded c.args.self.now f _ _ _ c.requires.none (c.requires.ready.none c.requires.none) named c.as_bytes.ensures found.noted)

-- ---- it isn't there, and needn't be

pub returns-else-required-clause-lines : goal.returns-else-required-clause-lines
returns-else-required-clause-lines g c =
    let r = c.args.self.now in
    let f = c.in-Some.first.now in
    let named : slice_get r.firsts.items r.next_first ≡ Some f = sym c.in-Some.ensures in
    record {
      moves = λ recorded place blocks records.
          let none : recorded.content f.path ≡ None = rw (c.in-Nothing.is, c.as_bytes.ensures) at (c.in_ok-first_found.ensures.found recorded records) in
          c.skip.ensures.left recorded place blocks (rw named (none, c.if-required.false));
      goes_on = subst (λ o. ReadingGoesOn r.open_files o) (sym (ap (λ (n : Lines). n.open_files) c.skip.ensures.others)) (goes-same r.open_files c.requires.ready);
      firsts = ap (λ (n : Lines). n.firsts) c.skip.ensures.others;
      count = ap (λ (n : Lines). n.read) c.skip.ensures.others;
    }

pub returns-else-required-clause-next : goal.returns-else-required-clause-next
returns-else-required-clause-next g c = (ap (λ (r : Lines). r.next_first) c.skip.ensures.others, below-end c.args.self.now.firsts.items c.args.self.now.next_first c.in-Some.first.now (sym c.in-Some.ensures))

pub returns-else-required-clause-files : goal.returns-else-required-clause-files
returns-else-required-clause-files g c =
    let f = c.in-Some.first.now in
    let found = c.in_ok-first_found.ensures in
    record {
      recorded = found.recorded;
      cause = found.cause;
      looks = λ recorded test h. (found.failed, subst (λ (n : Lines). all_meet test recorded n ≡ true) (sym c.skip.ensures.others) h);
      noted = λ recorded records.
          let none = rw (c.in-Nothing.is, c.as_bytes.ensures) at (found.found recorded records) in
          one-read f.path _ _ _ _ (first-at c.args.self.now f _ (sym c.in-Some.ensures) (c.skip.ensures.reads recorded) none) (rw c.as_bytes.ensures at found.noted);
    }

-- ---- it is too large

pub returns-in-TooLarge-clause-lines : goal.returns-in-TooLarge-clause-lines
returns-in-TooLarge-clause-lines g c =
    let f = c.in-Some.first.now in
    let named : slice_get c.args.self.now.firsts.items c.args.self.now.next_first ≡ Some f = sym c.in-Some.ensures in
    record {
      moves = λ recorded place blocks records.
          let found = rw (c.in-TooLarge.is, c.as_bytes.ensures) at (c.in_ok-first_found.ensures.found recorded records) in
          size-moves recorded place blocks c.args.self.now f c.file_refusal-in-TooLarge.result (recorded.content f.path) refl c.requires.none (c.requires.ready.none c.requires.none) named
          (plain-at c.args.self.now.firsts.items c.args.self.now.next_first f c.requires.plain named) found (rw named at c.file_refusal-in-TooLarge.ensures);
      goes_on = tt;
      firsts = refl;
      count = refl;
    }

pub returns-in-TooLarge-clause-files : goal.returns-in-TooLarge-clause-files
returns-in-TooLarge-clause-files g c =
    let f = c.in-Some.first.now in
    let named : slice_get c.args.self.now.firsts.items c.args.self.now.next_first ≡ Some f = sym c.in-Some.ensures in
    let quiet = refuses-quiet causes.TooLarge f.path 0 c.file_refusal-in-TooLarge.result refl (rw named at c.file_refusal-in-TooLarge.ensures) in
    let found = c.in_ok-first_found.ensures in
    uses-quiet quiet found.recorded found.cause found.failed (λ recorded records. first-behind recorded c.args.self.now f _ _ _ c.requires.none (c.requires.ready.none c.requires.none) named c.as_bytes.ensures found.noted)

-- ---- it is begun

pub returns-in_ok-begin-in-Holds-clause-lines : goal.returns-in_ok-begin-in-Holds-clause-lines
returns-in_ok-begin-in-Holds-clause-lines g c =
    let f = c.in-Some.first.now in
    let named : slice_get c.args.self.now.firsts.items c.args.self.now.next_first ≡ Some f = sym c.in-Some.ensures in
    let begun = c.in_ok-begin-in-Holds.ensures in
    record {
      moves = λ recorded place blocks records.
          let found : IsFound (Holds c.in-Holds.text) (recorded.content f.path) = rw (c.in-Holds.is, c.as_bytes.ensures) at (c.in_ok-first_found.ensures.found recorded records) in
          begun.left recorded place blocks (rw named found);
      goes_on = begun.goes_on;
      firsts = begun.firsts;
      count = begun.count;
    }

pub returns-in_ok-begin-in-Holds-clause-next : goal.returns-in_ok-begin-in-Holds-clause-next
returns-in_ok-begin-in-Holds-clause-next g c = (c.in_ok-begin-in-Holds.ensures.next, below-end c.args.self.now.firsts.items c.args.self.now.next_first c.in-Some.first.now (sym c.in-Some.ensures))

pub returns-in_ok-begin-in-Holds-clause-files : goal.returns-in_ok-begin-in-Holds-clause-files
returns-in_ok-begin-in-Holds-clause-files g c =
    let f = c.in-Some.first.now in
    let found = c.in_ok-first_found.ensures in
    let begun = c.in_ok-begin-in-Holds.ensures in
    record {
      recorded = found.recorded;
      cause = found.cause;
      looks = λ recorded test h. (found.failed, all-on test recorded c.args.self.now c.begin.new.self begun.firsts (begun.looks recorded test (files-meet test recorded c.args.self.now h)) h);
      noted = λ recorded records.
          let holds = rw (c.in-Holds.is, c.as_bytes.ensures) at (found.found recorded records) in
          one-read f.path _ _ _ _ (first-at c.args.self.now f _ (sym c.in-Some.ensures) (begun.reads recorded) holds.0) (rw c.as_bytes.ensures at found.noted);
    }

pub returns-in_err-begin-in-Holds-clause-lines : goal.returns-in_err-begin-in-Holds-clause-lines
returns-in_err-begin-in-Holds-clause-lines g c =
    let p = err_from_is_err_and c.from_residual-in_err-begin-in-Holds.result c.from_residual-in_err-begin-in-Holds.ensures.1 in
    rw (p.1, p.2) (record { moves = λ recorded place blocks records. tt; goes_on = tt; firsts = c.in_err-begin-in-Holds.ensures.firsts; count = c.in_err-begin-in-Holds.ensures.count })

pub returns-in_err-begin-in-Holds-clause-files : goal.returns-in_err-begin-in-Holds-clause-files
returns-in_err-begin-in-Holds-clause-files g c =
    let p = err_from_is_err_and c.from_residual-in_err-begin-in-Holds.result c.from_residual-in_err-begin-in-Holds.ensures.1 in
    let found = c.in_ok-first_found.ensures in
    rw (p.1, p.2) (record {
      recorded = found.recorded;
      cause = found.cause;
      looks = λ recorded test h. (found.failed, tt);
      noted = λ recorded records. first-behind recorded c.args.self.now c.in-Some.first.now _ _ _ c.requires.none (c.requires.ready.none c.requires.none) (sym c.in-Some.ensures) c.as_bytes.ensures found.noted;
    })

-- ---- it can't be read

pub returns-in_err-first_found-clause-lines : goal.returns-in_err-first_found-clause-lines
returns-in_err-first_found-clause-lines g c =
    let p = err_from_is_err_and c.from_residual.result c.from_residual.ensures.1 in
    rw (p.1, p.2) (record { moves = λ recorded place blocks records. fails-moved _ _ _ _ _ c.in_err-first_found.ensures.failed; goes_on = tt; firsts = refl; count = refl })

pub returns-in_err-first_found-clause-files : goal.returns-in_err-first_found-clause-files
returns-in_err-first_found-clause-files g c =
    let p = err_from_is_err_and c.from_residual.result c.from_residual.ensures.1 in
    let found = c.in_err-first_found.ensures in
    rw (p.1, p.2) (record {
      recorded = found.recorded;
      cause = cause-on FoundFile Bool _ _ _ _ refl found.cause;
      looks = λ recorded test h. (first-records Bool test recorded c.args.self.now c.in-Some.first.now _ _ _ _ (sym c.in-Some.ensures) c.as_bytes.ensures found.failed h, tt);
      noted = λ recorded records.
          let f = c.in-Some.first.now in
          let some = first-some recorded c.args.self.now f c.requires.none (c.requires.ready.none c.requires.none) (sym c.in-Some.ensures) in
          first-fails f.path _ _ some.0 _ _ _ c.as_bytes.ensures some.1 found.noted;
    })
