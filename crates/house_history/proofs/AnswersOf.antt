-- What the answers of a row are, how long what is received is, and replies of a journal that come
-- after their requests.
use Rattle.std.proofs.Common.{◌≡◌, ◌≤◌, ◌+◌, ◌-◌, ℕ, zero, suc, Bool, true, false, Option, Some, None, List, [], ◌∷◌, ◌++◌, refl, sym, ap, ◌∙◌, subst, arith, map, take, drop, length, inl, inr}
use Rattle.std.specs.Prelude.{◌⊎◌, nat_eq, nat_le, nat_lt}
use Rattle.std.proofs.lemmas.Bool.Decides.{nat_tests}
use Rattle.std.proofs.lemmas.List.{append-nil}
use Rattle.mux_outside.specs.declared.house.HouseReply.{HouseReply}
use Rattle.mux_outside.specs.declared.mark.Mark.{Mark}
use Rattle.ssh_fields.specs.Fields.{of_four}
use Rattle.ssh_grammar.specs.Frames.{Faulty, Frame, Front, More, cut_content, cut_length, cut_padding, first_frame, frame_payload}
use Rattle.ssh_grammar.specs.Messages.{Global}
use Rattle.ssh_grammar.specs.Said.{InProxy, Outgoing, parse, parse_by, parse_front}
use Rattle.ssh_grammar.specs.SpellMessage.{request_failure}
use Rattle.ssh_grammar.specs.declared.fault.BadFrame.TheVariants as bad_frame
use Rattle.ssh_grammar.specs.declared.framing.Framing.TheVariants as framing
use Rattle.mux_history.specs.Summary.{reading}
use Rattle.mux_history.specs.Journal.{IsLawful, received_item, items_in, log_of_journal, new_received}
use Rattle.mux_history.specs.Kept.{AtEach}
use Rattle.mux_history.specs.Log.{Setting, bare_row, makes_next, more_all, more_of, new_answers, next_row}
use Rattle.mux_history.specs.Policy.{Policy}
use Rattle.mux_history.specs.Requests.{answers, answers_to, is_reply, is_sent, replies, reply_in, sent_flags, wanted, wanted_by}
use Rattle.mux_history.specs.Right.{AreFresh}
use Rattle.mux_history.specs.Rows.{Heard, Item, Row, is_run_over, rows_of}
use Rattle.mux_history.specs.Said.{Outcome}
use Rattle.mux_history.specs.Settings.{by_lists}
use Rattle.mux_history.proofs.Journals.{logs-right}
use Rattle.mux_history.proofs.RightLogs.{LogKnown, right-known}
use Rattle.mux_bounds.specs.Awaited.{RepliesAwaited}
use Rattle.mux_bounds.proofs.Asked.{trues}
use Rattle.mux_bounds.proofs.Early.{each-awaited}
use Rattle.house_history.proofs.Lists.{Each}
use Rattle.house_history.proofs.RowsOf.{AllUsed, new-more, no-answers, used-awaited}

-- ---- the answers of a row

-- the frame of that payload, or of a refusal
abbrev pub IsAnswerFrame : List ℕ → List ℕ → Type 0
IsAnswerFrame p frame = (frame ≡ frame_payload p) ⊎ (frame ≡ frame_payload request_failure)

abbrev pub IsRefusalFrame : List ℕ → Type 0
IsRefusalFrame frame = frame ≡ frame_payload request_failure

abbrev IsAnswer : List ℕ → List ℕ → Type 0
IsAnswer p q = (q ≡ p) ⊎ (q ≡ request_failure)

abbrev IsRefusal : List ℕ → Type 0
IsRefusal q = q ≡ request_failure

answer-frames : (p : List ℕ) (qs : List (List ℕ)) → Each (IsAnswer p) qs → Each (IsAnswerFrame p) (map frame_payload qs)
answer-frames p [] all = tt
answer-frames p (q ∷ qs) all = (one q all.0, answer-frames p qs all.1)
  where
    one : (q : List ℕ) → IsAnswer p q → IsAnswerFrame p (frame_payload q)
    one q (inl e) = inl (ap frame_payload e)
    one q (inr e) = inr (ap frame_payload e)

refusal-frames : (qs : List (List ℕ)) → Each IsRefusal qs → Each IsRefusalFrame (map frame_payload qs)
refusal-frames [] all = tt
refusal-frames (q ∷ qs) all = (ap frame_payload all.0, refusal-frames qs all.1)

refusals-behind : (flags : List Bool) (p : List ℕ) → Each (IsAnswer p) (answers_to flags [])
refusals-behind [] p = tt
refusals-behind (false ∷ flags) p = (inr refl, refusals-behind flags p)
refusals-behind (true ∷ flags) p = tt

-- one reply more
record Replied (flags : List Bool) (heard : List (List ℕ)) (p : List ℕ) : Type 0 where
  rest : List (List ℕ)
  are : answers_to flags (heard ++ p ∷ []) ≡ answers_to flags heard ++ rest
  each : Each (IsAnswer p) rest

replied : (flags : List Bool) (heard : List (List ℕ)) (p : List ℕ) → Replied flags heard p
replied [] heard p = record { rest = []; are = refl; each = tt }
replied (false ∷ flags) heard p = let r = replied flags heard p in record { rest = r.rest; are = ap (λ (xs : List (List ℕ)). request_failure ∷ xs) r.are; each = r.each }
replied (true ∷ flags) [] p = record { rest = p ∷ answers_to flags []; are = refl; each = (inl refl, refusals-behind flags p) }
replied (true ∷ flags) (q ∷ heard) p = let r = replied flags heard p in record { rest = r.rest; are = ap (λ (xs : List (List ℕ)). q ∷ xs) r.are; each = r.each }

pub heard-answers : (k : ℕ) (p : List ℕ) (o : Outcome) (own : List Row) → AllUsed own → Each (λ frame. (frame ≡ frame_payload p) ⊎ (frame ≡ frame_payload request_failure)) (new_answers (bare_row (Heard p) k o) own)
heard-answers k p o own used = by_case (reading p is_reply false) refl
  where
    by_case : (b : Bool) → reading p is_reply false ≡ b → Each (IsAnswerFrame p) (new_answers (bare_row (Heard p) k o) own)
    by_case false e =
        let row = bare_row (Heard p) k o in
        let silent : reply_in row.item ≡ [] = rw (e, reply_in) refl in
        subst (Each (IsAnswerFrame p)) (sym (no-answers row own refl silent)) tt
    by_case true e =
        let row = bare_row (Heard p) k o in
        let came : reply_in row.item ≡ p ∷ [] = rw (e, reply_in) refl in
        let r = replied (wanted own) (replies own) p in
        let are : answers (row ∷ own) ≡ answers own ++ r.rest =
        ap (λ (fs : List Bool). answers_to fs (replies (row ∷ own))) (append-nil (wanted own))
        ∙ (ap (λ (rs : List (List ℕ)). answers_to (wanted own) (replies own ++ rs)) came ∙ r.are) in
        subst (Each (IsAnswerFrame p)) (sym (new-more row own r.rest are)) (answer-frames p r.rest r.each)

-- one request more
record OneMore (flags more : List Bool) (heard : List (List ℕ)) : Type 0 where
  rest : List (List ℕ)
  are : answers_to (flags ++ more) heard ≡ answers_to flags heard ++ rest
  each : Each IsRefusal rest

one-more : (flags : List Bool) (b : Bool) (heard : List (List ℕ)) → length heard ≤ trues flags → OneMore flags (b ∷ []) heard
one-more [] true [] le = record { rest = []; are = refl; each = tt }
one-more [] true (p ∷ heard) le = absurd (omega (arith, le))
one-more [] false heard le = record { rest = request_failure ∷ []; are = refl; each = (refl, tt) }
one-more (false ∷ flags) b heard le = let m = one-more flags b heard le in record { rest = m.rest; are = ap (λ (xs : List (List ℕ)). request_failure ∷ xs) m.are; each = m.each }
one-more (true ∷ flags) b [] le = record { rest = []; are = refl; each = tt }
one-more (true ∷ flags) b (p ∷ heard) le = let m = one-more flags b heard (omega (arith, le)) in record { rest = m.rest; are = ap (λ (xs : List (List ℕ)). p ∷ xs) m.are; each = m.each }

more-flags : (flags : List Bool) (sent : Bool) (what : Option Global) (heard : List (List ℕ)) → length heard ≤ trues flags → OneMore flags (sent_flags sent what) heard
more-flags flags sent None heard le = record { rest = []; are = ap (λ (fs : List Bool). answers_to fs heard) (append-nil flags) ∙ sym (append-nil (answers_to flags heard)); each = tt }
more-flags flags sent (Some what) heard le = one-more flags sent heard le

pub said-answers : (row : Row) (own : List Row) → reply_in row.item ≡ [] → AllUsed own → Each (λ frame. frame ≡ frame_payload request_failure) (new_answers row own)
said-answers row own silent used =
    let m = more-flags (wanted own) (is_sent row) (wanted_by row) (replies own) used in
    let same : replies (row ∷ own) ≡ replies own = ap (λ (rs : List (List ℕ)). replies own ++ rs) silent ∙ append-nil (replies own) in
    let e : answers (row ∷ own) ≡ answers own ++ m.rest = ap (answers_to (wanted (row ∷ own))) same ∙ m.are in
    subst (Each IsRefusalFrame) (sym (new-more row own m.rest e)) (refusal-frames m.rest m.each)

-- ---- the refusal

pub failure-is-reply : reading request_failure is_reply false ≡ true
failure-is-reply = refl

pub failure-some : 1 ≤ length request_failure
failure-some = omega arith

pub failure-short : length request_failure + 1 ≤ 262144
failure-short = omega arith

-- ---- how long what is received is

abbrev pub IsSizedItem : Item → Type 0
IsSizedItem (Heard p) = (1 ≤ length p) × (length p + 1 ≤ 262144)
IsSizedItem item = Unit {0}

abbrev SizedFront : Front → Type 0
SizedFront (Frame content rest) = (1 ≤ length content) × (length content + 1 ≤ 262144)
SizedFront More = Unit {0}
SizedFront (Faulty fault) = Unit {0}

take-whole : (n : ℕ) (xs : List ℕ) → n ≤ length xs → length (take n xs) ≡ n
take-whole zero xs le = refl
take-whole (suc n) [] le = absurd (omega (arith, le))
take-whole (suc n) (x ∷ xs) le = ap suc (take-whole n xs (omega (arith, le)))

le-of : (n m : ℕ) → nat_le n m ≡ true → n ≤ m
le-of n m e = grind (arith, nat_tests)

content-sized : (n : ℕ) (rest : List ℕ) → 1 ≤ n → n + 1 ≤ 262144 → SizedFront (cut_content n rest)
content-sized n rest some few = by_case (nat_le n (length rest)) refl
  where
    by_case : (b : Bool) → nat_le n (length rest) ≡ b → SizedFront (elim b as (λ _. Front) [ true ↦ Frame (take n rest) (drop n rest) | false ↦ More ])
    by_case true e = let l = take-whole n rest (le-of n (length rest) e) in (omega (arith, l, some), omega (arith, l, few))
    by_case false e = tt

padding-sized : (n : ℕ) (rest : List ℕ) → 2 ≤ n → n ≤ 262144 → SizedFront (cut_padding n rest)
padding-sized n [] some few = tt
padding-sized n (b ∷ rest) some few = by_case (nat_eq b 0)
  where
    by_case : (t : Bool) → SizedFront (elim t as (λ _. Front) [ true ↦ cut_content (n - 1) rest | false ↦ Faulty (bad_frame.Padding b) ])
    by_case true = content-sized (n - 1) rest (omega (arith, some)) (omega (arith, some, few))
    by_case false = tt

not-short : (n : ℕ) → nat_lt n 2 ≡ false → 2 ≤ n
not-short n e = grind (arith, nat_tests)

not-long : (n : ℕ) → nat_lt 262144 n ≡ false → n ≤ 262144
not-long n e = grind (arith, nat_tests)

length-sized : (n : ℕ) (rest : List ℕ) → SizedFront (cut_length framing.Proxy n rest)
length-sized n rest = by_case (nat_lt n 2) refl (nat_lt 262144 n) refl
  where
    by_case : (s : Bool) → nat_lt n 2 ≡ s → (t : Bool) → nat_lt 262144 n ≡ t → SizedFront (elim s as (λ _. Front) [ true ↦ Faulty (bad_frame.Short n) | false ↦ elim t as (λ _. Front) [ true ↦ Faulty (bad_frame.Long n) | false ↦ cut_padding n rest ] ])
    by_case true d t e = tt
    by_case false d true e = tt
    by_case false d false e = padding-sized n rest (not-short n d) (not-long n e)

first-sized : (bytes : List ℕ) → SizedFront (first_frame framing.Proxy bytes)
first-sized [] = tt
first-sized (w ∷ []) = tt
first-sized (w ∷ x ∷ []) = tt
first-sized (w ∷ x ∷ y ∷ []) = tt
first-sized (w ∷ x ∷ y ∷ z ∷ rest) = length-sized (of_four w x y z) rest

abbrev SizedSending : Outgoing → Type 0
SizedSending s = IsSizedItem (received_item s)

parse-sized : (n : ℕ) (bytes : List ℕ) → Each SizedSending (parse_by n InProxy bytes).says
parse-sized zero bytes = tt
parse-sized (suc n) bytes = by_front (first_frame framing.Proxy bytes) (first-sized bytes) (λ rest. parse-sized n rest)
  where
    by_front : (f : Front) → SizedFront f → ((rest : List ℕ) → Each SizedSending (parse_by n InProxy rest).says) → Each SizedSending (parse_front (parse_by n) InProxy bytes f).says
    by_front (Frame content rest) sized ih = (sized, ih rest)
    by_front More sized ih = tt
    by_front (Faulty fault) sized ih = (tt, tt)

heard-each : (n : ℕ) (ss : List Outgoing) → Each SizedSending ss → Each IsSizedItem (map received_item (drop n ss))
heard-each zero [] all = tt
heard-each zero (s ∷ ss) all = (all.0, heard-each zero ss all.1)
heard-each (suc n) [] all = tt
heard-each (suc n) (s ∷ ss) all = heard-each n ss all.1

pub heard-sized : (before bytes : List ℕ) → Each IsSizedItem (new_received before (before ++ bytes))
heard-sized before bytes = heard-each (length (parse InProxy before).says) (parse InProxy (before ++ bytes)).says (parse-sized (length (before ++ bytes)) (before ++ bytes))

-- ---- no reply is left over, in a journal

-- of every client, while the run goes on
abbrev pub AllAreUsed : List Row → Type 0
AllAreUsed rows = (k : ℕ) → is_run_over rows ≡ false → AllUsed (rows_of k rows)

pub atEach-of : (P Q : List Row → Type 0) → ((rows : List Row) → P rows → Q rows) → (rows : List Row) → AtEach P rows → AtEach Q rows
atEach-of P Q step [] each = step [] each
atEach-of P Q step (row ∷ before) each = (step (row ∷ before) each.0, atEach-of P Q step before each.1)

pub used-next : (policy : Policy) (pid : ℕ) (picks : List ℕ) (given : List HouseReply) (marks : List Mark) → IsLawful marks → AreFresh (log_of_journal (by_lists policy pid picks given) marks) → AtEach (λ rows. (k : ℕ) → is_run_over rows ≡ false → AllUsed (rows_of k rows)) (log_of_journal (by_lists policy pid picks given) marks)
used-next policy pid picks given marks lawful fresh =
    let rows = log_of_journal (by_lists policy pid picks given) marks in
    let right = (logs-right policy pid picks given marks).whole fresh in
    let known : LogKnown policy pid rows = right-known policy pid picks given marks 0 rows lawful right in
    atEach-of RepliesAwaited AllAreUsed (λ before awaited k going. used-awaited before k awaited going) rows (each-awaited policy pid rows known.each known.orderly)

-- ---- what holds up to each row holds of less rows

pub atEach-here : (P : List Row → Type 0) (rows : List Row) → AtEach P rows → P rows
atEach-here P [] each = each
atEach-here P (row ∷ before) each = each.0

atEach-one : (P : List Row → Type 0) (setting : Setting) (rows : List Row) (item : Item) → AtEach P (more_of setting rows item) → AtEach P rows
atEach-one P setting rows item each = by_case (makes_next rows item) each
  where
    by_case : (b : Bool) → AtEach P (elim b as (λ _. List Row) [ false ↦ rows | true ↦ next_row setting rows item ∷ rows ]) → AtEach P rows
    by_case false each = each
    by_case true each = each.1

pub atEach-down : (P : List Row → Type 0) (setting : Setting) (rows : List Row) (items : List Item) → AtEach P (more_all setting rows items) → AtEach P rows
atEach-down P setting rows [] each = each
atEach-down P setting rows (item ∷ items) each = atEach-one P setting rows item (atEach-down P setting (more_of setting rows item) items each)

pub atEach-before : (P : List Row → Type 0) (setting : Setting) (mark : Mark) (marks : List Mark) → AtEach P (log_of_journal setting (mark ∷ marks)) → AtEach P (log_of_journal setting marks)
atEach-before P setting mark marks each = atEach-down P setting (log_of_journal setting marks) (items_in marks mark) each

-- ---- how many payloads are replies

abbrev pub replies-in : List (List ℕ) → ℕ
replies-in [] = 0
replies-in (q ∷ qs) = elim (reading q is_reply false) as (λ _. ℕ) [ true ↦ 1 | false ↦ 0 ] + replies-in qs

pub replies-append : (xs ys : List (List ℕ)) → replies-in (xs ++ ys) ≡ replies-in xs + replies-in ys
replies-append [] ys = omega arith
replies-append (x ∷ xs) ys = let ih = replies-append xs ys in omega (arith, ih)

pub replies-all : (qs : List (List ℕ)) → Each (λ q. reading q is_reply false ≡ true) qs → replies-in qs ≡ length qs
replies-all [] all = refl
replies-all (q ∷ qs) all =
    let here = ap (λ (b : Bool). elim b as (λ _. ℕ) [ true ↦ 1 | false ↦ 0 ]) all.0 in
    let ih = replies-all qs all.1 in
    omega (arith, here, ih)

pub no-reply-in : (qs : List (List ℕ)) → Each (λ q. reading q is_reply false ≡ false) qs → replies-in qs ≡ 0
no-reply-in [] all = refl
no-reply-in (q ∷ qs) all =
    let here = ap (λ (b : Bool). elim b as (λ _. ℕ) [ true ↦ 1 | false ↦ 0 ]) all.0 in
    let ih = no-reply-in qs all.1 in
    omega (arith, here, ih)
