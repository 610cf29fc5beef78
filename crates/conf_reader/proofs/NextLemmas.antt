-- Comments, and the line after them.
use Rattle.std.proofs.Common.{◌≡◌, ℕ, suc, ◌+◌, List, [], ◌∷◌, ◌++◌, length, Option, Some, None, Result, Ok, Err, sym, ap, subst, ◌∙◌, append_assoc, arith}
use Rattle.std.proofs.lemmas.List.{append-nil, length-append}
use Rattle.conf_rules.specs.declared.causes.ResolveError.{ResolveError}
use Rattle.conf_rules.specs.declared.causes.ResolveError.TheVariants as errors
use Rattle.conf_rules.specs.Recorded.{Recorded}
use Rattle.conf_rules.specs.Sources.{Line}
use Rattle.conf_rules.specs.Entries.{entry_of}
use Rattle.conf_rules.specs.Resolution.{line_within_limit}
use Rattle.conf_rules.specs.Rows.{LineRow}
use Rattle.conf_reader.specs.declared.line.ConfLine.{ConfLine}
use Rattle.conf_reader.specs.declared.lines.Lines.{Lines}
use Rattle.conf_reader.specs.declared.lines.ReadStep.TheVariants as steps
use Rattle.conf_reader.specs.Blocks.{Blocks}
use Rattle.conf_reader.specs.Left.{lines_to_give, Bounded}
use Rattle.std.specs.Prelude.{IfOk, IfSome}
use Rattle.conf_reader.specs.ReaderReads.{IsGivenFrom, AreIdle, GivesNextLine, RefusesNextLine, ReaderReads, OneLine, SoFar}

pub idle-append : (recorded : Recorded) (xs ys : List Line) (place : ℕ) → AreIdle recorded place xs → AreIdle recorded (place + length xs) ys → AreIdle recorded place (xs ++ ys)
idle-append recorded [] ys place h k = subst (λ n. AreIdle recorded n ys) (let z : place + 0 ≡ place = omega arith in z) k
idle-append recorded (x ∷ xs) ys place h k = (h.0, idle-append recorded xs ys (place + 1) h.1 (subst (λ n. AreIdle recorded n ys) (let z : place + suc (length xs) ≡ place + 1 + length xs = omega arith in z) k))

-- one more comment
pub more : (recorded : Recorded) (place : ℕ) (blocks : Blocks) (old now new : Lines) (s : SoFar recorded place blocks old now) → OneLine recorded (place + length s.comments) blocks now new (Ok steps.Comment) → new.read ≡ now.read + 1 → Bounded new.open_files (length blocks) → SoFar recorded place blocks old new
more recorded place blocks old now new s o count bounded =
    let n : place + length s.comments + 1 ≡ place + length (s.comments ++ o.0 ∷ []) = let k = length-append s.comments (o.0 ∷ []) in omega (arith, k) in
    let c = s.count in
    record {
      comments = s.comments ++ o.0 ∷ [];
      is = s.is ∙ ap (λ xs. s.comments ++ xs) o.1.0 ∙ sym (append_assoc s.comments (o.0 ∷ []) _) ∙ ap (λ m. (s.comments ++ o.0 ∷ []) ++ lines_to_give recorded m blocks new) n;
      idle = idle-append recorded s.comments (o.0 ∷ []) place s.idle (o.1.1, tt);
      count = omega (arith, n, c, count);
      bounded = bounded;
    }

-- the line after comments
pub gives : (recorded : Recorded) (place : ℕ) (blocks : Blocks) (old now new : Lines) (given : ConfLine) (s : SoFar recorded place blocks old now) → OneLine recorded (place + length s.comments) blocks now new (Ok (steps.Given given)) → new.read ≡ now.read + 1 → GivesNextLine recorded place blocks old new given
gives recorded place blocks old now new given s o count = record {
  comments = s.comments;
  line = o.0;
  is = s.is ∙ ap (λ xs. s.comments ++ xs) o.1.0;
  idle = s.idle;
  is_line = o.1.1.0;
  within = o.1.1.1.0;
  count = let c = s.count in omega (arith, c, count);
  source = o.1.1.1.1;
}

-- no line after them
pub ends : (recorded : Recorded) (place : ℕ) (blocks : Blocks) (old now : Lines) (s : SoFar recorded place blocks old now) → lines_to_give recorded (place + length s.comments) blocks now ≡ [] → AreIdle recorded place (lines_to_give recorded place blocks old)
ends recorded place blocks old now s e = subst (AreIdle recorded place) (sym (s.is ∙ ap (λ xs. s.comments ++ xs) e ∙ append-nil s.comments)) s.idle

-- a refusal after them
pub fails : (recorded : Recorded) (place : ℕ) (blocks : Blocks) (old now new : Lines) (e : ResolveError) (s : SoFar recorded place blocks old now) → OneLine recorded (place + length s.comments) blocks now new (Err e) → ReaderReads recorded place blocks old new (Err e)
fails recorded place blocks old now new errors.OutOfMemory s o = tt
fails recorded place blocks old now new (errors.At file number cause) s o = λ fault.
    let r : RefusesNextLine recorded (place + length s.comments) (lines_to_give recorded (place + length s.comments) blocks now) file number cause = o fault in
    let n : place + length (s.comments ++ r.comments) ≡ place + length s.comments + length r.comments = let k = length-append s.comments r.comments in omega (arith, k) in
    record {
      comments = s.comments ++ r.comments;
      line = r.line;
      rest = r.rest;
      is = s.is ∙ ap (λ xs. s.comments ++ xs) r.is ∙ sym (append_assoc s.comments r.comments (r.line ∷ r.rest));
      idle = idle-append recorded s.comments r.comments place s.idle r.idle;
      file_is = r.file_is;
      number_is = r.number_is;
      refused = λ (rows : List LineRow). ap (line_within_limit recorded entry_of rows r.line) n ∙ r.refused rows;
    }

-- ---- what stands before a line that was given

pub reads-from : (recorded : Recorded) (place : ℕ) (blocks : Blocks) (old mid new : Lines) (r : Result (Option ConfLine) ResolveError) → lines_to_give recorded place blocks old ≡ lines_to_give recorded place blocks mid → ReaderReads recorded place blocks mid new r → ReaderReads recorded place blocks old new r
reads-from recorded place blocks old mid new (Ok None) e h = subst (AreIdle recorded place) (sym e) h
reads-from recorded place blocks old mid new (Ok (Some given)) e h = record {
  comments = h.comments;
  line = h.line;
  is = e ∙ h.is;
  idle = h.idle;
  is_line = h.is_line;
  within = h.within;
  count = h.count;
  source = h.source;
}
reads-from recorded place blocks old mid new (Err errors.OutOfMemory) e h = tt
reads-from recorded place blocks old mid new (Err (errors.At file number cause)) e h = λ fault. subst (λ ls. RefusesNextLine recorded place ls file number cause) (sym e) (h fault)

pub one-reads : (recorded : Recorded) (place : ℕ) (blocks : Blocks) (old new : Lines) (e : ResolveError) → OneLine recorded place blocks old new (Err e) → ReaderReads recorded place blocks old new (Err e)
one-reads recorded place blocks old new errors.OutOfMemory h = tt
one-reads recorded place blocks old new (errors.At file number cause) h = h

pub given-from : (old mid new : Lines) (r : Result (Option ConfLine) ResolveError) → ((n : ℕ) → Bounded old.open_files n → Bounded mid.open_files n) → mid.read ≡ old.read
    → IfOk r (λ given. IfSome given (IsGivenFrom mid new)) → IfOk r (λ given. IfSome given (IsGivenFrom old new))
given-from old mid new (Err e) kept count h = tt
given-from old mid new (Ok None) kept count h = tt
given-from old mid new (Ok (Some line)) kept count h = record {
  state = h.state;
  lies = λ n b. h.lies n (kept n b);
  further = omega (arith, h.further, count);
}
