-- One line of a reader.
use Rattle.std.proofs.Common.{◌≡◌, ℕ, zero, suc, ◌+◌, ◌-◌, ◌<◌, ◌≤◌, Bool, true, false, cond, List, [], ◌∷◌, ◌++◌, length, drop, Option, Some, None, Result, Err, refl, sym, ap, subst, ◌∙◌, arith}
use Rattle.std.specs.Prelude.{nat_le, IfSome, IsSome}
use Rattle.std.proofs.lemmas.Bool.{le-leb, lt-leb}
use Rattle.conf_rules.specs.declared.limits.TheConstants.{MAX_LINES}
use Rattle.conf_rules.specs.declared.causes.Cause.{Cause}
use Rattle.conf_rules.specs.declared.causes.Cause.TheVariants as causes
use Rattle.std.specs.Prelude.{option_to_list}
use Rattle.std.specs.List.{slice_get}
use Rattle.conf_rules.specs.declared.entry.LineContent.{LineContent}
use Rattle.conf_rules.specs.declared.causes.ResolveError.{ResolveError}
use Rattle.conf_rules.specs.declared.causes.ResolveError.TheVariants as errors
use Rattle.conf_reader.specs.declared.errors.LineError.TheVariants as line_errors
use Rattle.conf_reader.specs.declared.open_file.OpenFile.{OpenFile}
use Rattle.conf_reader.specs.Results.{RefusesLine}
use Rattle.conf_lexer.proofs.LineLemmas.{first_line}
use Rattle.conf_reader.proofs.LeftLemmas.{top_depth, top_outer, file_line, head-left, front}
use Rattle.conf_reader.proofs.OpenLemmas.{settled-files}
use Rattle.conf_reader.proofs.RefusalLemmas.{moved}
use Rattle.conf_reader.proofs.TakeLemmas.{file-source}
use Rattle.conf_rules.specs.Recorded.{Recorded}
use Rattle.conf_rules.specs.Sources.{Line}
use Rattle.conf_rules.specs.Heads.{lines_of}
use Rattle.conf_rules.specs.Entries.{entry_of}
use Rattle.conf_rules.specs.Resolution.{line_within_limit, is_past_limit, line_limit, is_of_command_line, is_refusal_content}
use Rattle.conf_reader.specs.declared.stack.OpenFiles.{OpenFiles}
use Rattle.conf_reader.specs.declared.lines.Lines.{Lines}
use Rattle.conf_reader.specs.Blocks.{Blocks, or_none}
use Rattle.conf_reader.specs.Left.{lines_to_give, open_left, firsts_left, IsComment, RefusesFirst, RefusesHead, TakesLine, IsFileSettled, source_of, cur, frames_left}
use Rattle.conf_reader.specs.ReaderReads.{IsIdleLine, RefusesNextLine, OneLine}

-- a line of a file within the limit
pub within-limit : (recorded : Recorded) (line : Line) (place read : ℕ) → place ≡ length recorded.asked.lines + read → read < MAX_LINES → is_past_limit recorded line place ≡ false
unfolding line_limit
within-limit recorded line place read at low = by (is_of_command_line line.source) (Rattle.conf_rules.specs.Resolution.is_refusal_content line.content)
  where
    past : nat_le MAX_LINES (place - length recorded.asked.lines) ≡ false
    past = lt-leb MAX_LINES (place - length recorded.asked.lines) (omega (arith, at, low))

    by : (a r : Bool) → cond a false (cond r false (nat_le MAX_LINES (place - length recorded.asked.lines))) ≡ false
    by true r = refl
    by false true = refl
    by false false = past

-- a comment says nothing, whatever stands before it
pub comment-idle : (recorded : Recorded) (line : Line) (place read : ℕ) → IsComment line → place ≡ length recorded.asked.lines + read → read < MAX_LINES → IsIdleLine recorded place line
unfolding entry_of
comment-idle recorded line place read c at low = λ rows. rw (within-limit recorded line place read at low, c.spelled, c.head) refl

-- what is left of all files, one line on
pub left-on : (recorded : Recorded) (place : ℕ) (blocks others : Blocks) (r n : Lines) (line : Line) → open_left recorded place blocks r.open_files ≡ line ∷ open_left recorded (place + 1) others n.open_files → n.firsts.items ≡ r.firsts.items → n.next_first ≡ r.next_first
    → lines_to_give recorded place blocks r ≡ line ∷ lines_to_give recorded (place + 1) others n
left-on recorded place blocks others r n line e firsts next =
    let k : place + length (line ∷ open_left recorded (place + 1) others n.open_files) ≡ place + 1 + length (open_left recorded (place + 1) others n.open_files) = omega arith in
    ap (λ o. o ++ firsts_left recorded (place + length o) (drop r.next_first r.firsts.items)) e
    ∙ ap (λ m. line ∷ (open_left recorded (place + 1) others n.open_files ++ firsts_left recorded m (drop r.next_first r.firsts.items))) k
    ∙ ap (λ fs. line ∷ (open_left recorded (place + 1) others n.open_files ++ firsts_left recorded (place + 1 + length (open_left recorded (place + 1) others n.open_files)) (drop r.next_first fs))) (sym firsts)
    ∙ ap (λ i. line ∷ (open_left recorded (place + 1) others n.open_files ++ firsts_left recorded (place + 1 + length (open_left recorded (place + 1) others n.open_files)) (drop i n.firsts.items))) (sym next)

-- a line whose head is refused
pub head-refused : (recorded : Recorded) (place read : ℕ) (blocks : Blocks) (r : Lines) (file : List ℕ) (number : ℕ) (cause : Cause) → RefusesHead (open_left recorded place blocks r.open_files) file number cause → place ≡ length recorded.asked.lines + read → read < MAX_LINES
    → RefusesNextLine recorded place (lines_to_give recorded place blocks r) file number cause
unfolding entry_of
head-refused recorded place read blocks r file number cause h at low = record {
  comments = [];
  line = h.line;
  rest = h.rest ++ firsts_left recorded (place + length (open_left recorded place blocks r.open_files)) (drop r.next_first r.firsts.items);
  is = ap (λ o. o ++ firsts_left recorded (place + length (open_left recorded place blocks r.open_files)) (drop r.next_first r.firsts.items)) h.is;
  idle = tt;
  file_is = h.file_is;
  number_is = h.number_is;
  refused = λ rows.
      let z : place + 0 ≡ place = omega arith in
      rw (z, within-limit recorded h.line place read at low, h.spelled, h.head) (ap (λ c. Err c) (sym h.cause_is));
}

abbrev refusing : Cause → Result LineContent Cause
refusing c = Err c

asked-or-not : (cause : Cause) (a : Bool) → cond (cond a false false) (refusing causes.TooManyLines) (refusing cause) ≡ refusing cause
asked-or-not cause true = refl
asked-or-not cause false = refl

-- a file or an inclusion that is refused
pub place-refused : (recorded : Recorded) (place : ℕ) (lines_to_give : List Line) (file : List ℕ) (number : ℕ) (cause : Cause) → RefusesFirst lines_to_give file number cause → RefusesNextLine recorded place lines_to_give file number cause
unfolding entry_of
place-refused recorded place lines_to_give file number cause f = record {
  comments = [];
  line = f.line;
  rest = f.rest;
  is = f.is;
  idle = tt;
  file_is = f.file_is;
  number_is = f.number_is;
  refused = λ rows. rw f.content (asked-or-not cause (is_of_command_line f.line.source));
}

-- ---- as the code needs them

pub reach-failed : (recorded : Recorded) (place : ℕ) (blocks : Blocks) (old new : Lines) (e : ResolveError) → moved (lines_to_give recorded place blocks old) [] e → OneLine recorded place blocks old new (Err e)
reach-failed recorded place blocks old new errors.OutOfMemory m = tt
reach-failed recorded place blocks old new (errors.At file number cause) m = λ fault. place-refused recorded place (lines_to_give recorded place blocks old) file number cause (m fault)

-- the first line of what isn't empty
some-line : (t : List ℕ) → 0 < length t → (bytes : List ℕ) × ((rest : List (List ℕ)) × (lines_of t ≡ bytes ∷ rest))
some-line [] h = absurd (omega (arith, h))
some-line (b ∷ bs) h = (_, (_, first_line b bs))

drop-some : (t : List ℕ) (i : ℕ) → i < length t → 0 < length (drop i t)
drop-some [] i h = absurd (omega (arith, h))
drop-some (x ∷ xs) zero h = omega arith
drop-some (x ∷ xs) (suc i) h = drop-some xs i (omega (arith, h))

past-limit : (recorded : Recorded) (line : Line) (place read : ℕ) → place ≡ length recorded.asked.lines + read → MAX_LINES ≤ read → is_of_command_line line.source ≡ false → is_refusal_content line.content ≡ false → is_past_limit recorded line place ≡ true
unfolding line_limit
past-limit recorded line place read at many asked refusal = rw (asked, refusal) (le-leb MAX_LINES (place - length recorded.asked.lines) (omega (arith, at, many)))

too-many : (recorded : Recorded) (place read : ℕ) (blocks : Blocks) (r : Lines) (f : OpenFile) → r.open_files.top ≡ Some f → IsFileSettled f → f.at < length f.text → place ≡ length recorded.asked.lines + read → MAX_LINES ≤ read
    → RefusesNextLine recorded place (lines_to_give recorded place blocks r) f.path f.number causes.TooManyLines
too-many recorded place read blocks r f top s low at many =
    let o = r.open_files in
    let fs = o.below.items in
    let source = source_of o.system in
    let here = drop (length fs) (cur o blocks) in
    let depth = top_depth 0 fs in
    let outer = top_outer [] fs (cur o blocks) in
    let first = some-line (drop f.at f.text) (drop-some f.text f.at low) in
    let line = file_line source depth outer (or_none (slice_get here 0)) f first.0 in
    let head = head-left recorded source depth outer f here place first.0 first.1.0 (settled-files recorded source f s) first.1.1 in
    let all = front recorded source 0 [] fs (f ∷ []) (cur o blocks) place (line ∷ []) head.0 head.1 in
    let later = firsts_left recorded (place + length (open_left recorded place blocks o)) (drop r.next_first r.firsts.items) in
    record {
      comments = [];
      line = line;
      rest = all.0 ++ later;
      is = ap (λ xs. xs ++ later) (ap (λ t. frames_left recorded source 0 [] (fs ++ option_to_list t) (cur o blocks) place) top ∙ all.1);
      idle = tt;
      file_is = refl;
      number_is = refl;
      refused = λ rows. let z : place + 0 ≡ place = omega arith in rw (z, past-limit recorded line place read at many (file-source o.system) refl) refl;
    }

one-refused : (recorded : Recorded) (place : ℕ) (blocks : Blocks) (old new : Lines) (file : List ℕ) (number : ℕ) (cause : Cause) (e : ResolveError) → RefusesLine (line_errors.Refused cause) file number e → RefusesNextLine recorded place (lines_to_give recorded place blocks old) file number cause → OneLine recorded place blocks old new (Err e)
one-refused recorded place blocks old new file number cause errors.OutOfMemory r n = tt
one-refused recorded place blocks old new file number cause (errors.At f m c) r n = λ fault.
    record { comments = n.comments; line = n.line; rest = n.rest; is = n.is; idle = n.idle; file_is = n.file_is ∙ (let k : file ≡ f = cc in k); number_is = n.number_is ∙ (let k : number ≡ m = cc in k); refused = λ rows. n.refused rows ∙ ap (λ x. Err x) (let k : cause ≡ c = cc in k) }

pub limit-reached : (recorded : Recorded) (place read : ℕ) (blocks : Blocks) (r new : Lines) (t : Option OpenFile) (e : ResolveError) → r.open_files.top ≡ t → IsSome t → IfSome t (λ f. IsFileSettled f × (f.at < length f.text)) → IfSome t (λ f. RefusesLine (line_errors.Refused causes.TooManyLines) f.path f.number e)
    → place ≡ length recorded.asked.lines + read → MAX_LINES ≤ read → OneLine recorded place blocks r new (Err e)
limit-reached recorded place read blocks r new None e top some line refused at many = absurd (let k : false ≡ true = some in cc)
limit-reached recorded place read blocks r new (Some f) e top some line refused at many = one-refused recorded place blocks r new f.path f.number causes.TooManyLines e refused (too-many recorded place read blocks r f top line.0 line.1 at many)

pub head-failed : (recorded : Recorded) (place read : ℕ) (blocks : Blocks) (r new : Lines) (n : OpenFiles) (e : ResolveError) → TakesLine recorded place blocks r.open_files n (Err e) → place ≡ length recorded.asked.lines + read → read < MAX_LINES → OneLine recorded place blocks r new (Err e)
head-failed recorded place read blocks r new n errors.OutOfMemory t at low = tt
head-failed recorded place read blocks r new n (errors.At file number cause) t at low = λ fault. head-refused recorded place read blocks r file number cause t at low

-- what one line is, where what is left is the same
pub same-line : (recorded : Recorded) (place : ℕ) (blocks : Blocks) (old mid new : Lines) (e : ResolveError) → lines_to_give recorded place blocks old ≡ lines_to_give recorded place blocks mid → OneLine recorded place blocks mid new (Err e) → OneLine recorded place blocks old new (Err e)
same-line recorded place blocks old mid new errors.OutOfMemory same o = tt
same-line recorded place blocks old mid new (errors.At file number cause) same o = λ fault. subst (λ l. RefusesNextLine recorded place l file number cause) (sym same) (o fault)
