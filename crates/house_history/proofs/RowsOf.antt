-- The row of a client that is sent little: all of it fits, and the total of the answers of a row.
use Rattle.std.proofs.Common.{◌≡◌, ◌≤◌, ◌<◌, ◌+◌, ◌-◌, ◌*◌, ℕ, zero, suc, Bool, true, false, Option, Some, None, List, [], ◌∷◌, ◌++◌, refl, sym, ap, ◌∙◌, subst, arith, map, drop, length, length-append}
use Rattle.std.specs.Prelude.{nat_le}
use Rattle.std.proofs.Math.Seq.{drop-append_seam}
use Rattle.std.proofs.lemmas.Bool.Decides.{nat_tests}
use Rattle.std.proofs.lemmas.List.{append-nil}
use Rattle.mux_outside.specs.declared.house.HouseReply.{HouseReply}
use Rattle.ssh_fields.specs.Fields.{AreBytes}
use Rattle.ssh_grammar.specs.Frames.{frame_payload}
use Rattle.ssh_grammar.specs.Messages.{Global}
use Rattle.ssh_grammar.specs.Said.{BadFraming, Body, InProxy, Payload, Outgoing}
use Rattle.ssh_grammar.specs.SpellMessage.{request_failure}
use Rattle.mux_history.specs.declared.limits.TheConstants.{MAX_QUEUE}
use Rattle.mux_history.specs.declared.why.Why.{Why}
use Rattle.mux_history.specs.declared.why.Why.TheVariants as why
use Rattle.mux_history.specs.Summary.{reading}
use Rattle.mux_history.specs.Journal.{received_item, new_received}
use Rattle.mux_history.specs.Log.{all_recorded, bare_row, fate_with, new_answers, overflow, queued, row_of, with_farewell}
use Rattle.mux_history.specs.Pending.{joined, waiting_down}
use Rattle.mux_history.specs.Requests.{answers, answers_to, is_reply, is_sent, replies, reply_in, sent_flags, unanswered_asks, wanted, wanted_by}
use Rattle.mux_history.specs.Rows.{Fate, Gone, Goes, Heard, Item, Row, Says, is_run_over, is_lost, loses, rows_of}
use Rattle.mux_history.specs.Said.{Outcome}
use Rattle.mux_history.proofs.Answered.{answers-grow}
use Rattle.mux_isolation.specs.LogView.{waiting_left_of}
use Rattle.mux_isolation.proofs.Fulls.{all-fit}
use Rattle.mux_bounds.specs.Awaited.{RepliesAwaited}
use Rattle.mux_bounds.specs.Bounds.{weight}
use Rattle.mux_bounds.proofs.Asked.{trues}
use Rattle.mux_bounds.proofs.Lengths.{NoBodies, new-bodies, new-bytes, new_sends, payloads_bytes}
use Rattle.mux_bounds.proofs.Weights.{weight-cons, weight-one}
use Rattle.house_history.proofs.Lists.{Each, each-append, each-behind}

-- ---- a row that fits

-- the stream of a client is gone
abbrev pub is_gone_item : Item → Bool
is_gone_item (Gone j) = true
is_gone_item item = false

fits-one : (n m : ℕ) → n + m ≤ 33554432 → nat_le (n + m) 33554432 ≡ true
fits-one n m le = grind (arith, nat_tests)

-- what fits in all is recorded in all
pub none-over : (n : ℕ) (fs : List (List ℕ)) → n + length (joined fs) ≤ MAX_QUEUE → overflow n fs ≡ None
none-over n [] le = refl
none-over n (f ∷ fs) le =
    let both = length-append f (joined fs) in
    let here : nat_le (n + length f) 33554432 ≡ true = fits-one n (length f) (omega (arith, le, both)) in
    let later = none-over (n + length f) fs (omega (arith, le, both)) in
    ap (λ (b : Bool). elim b as (λ _. Option Why) [ true ↦ overflow (n + length f) fs | false ↦ Some (why.QueueFull n (length f)) ]) here ∙ later

-- a row that goes on
abbrev pub plain_row : Item → ℕ → List (List ℕ) → List (List ℕ) → Row
plain_row item k up down = record { item = item; client = k; up = up; farewell = []; down = down; fate = Goes }

pub plain-stays : (item : Item) (k : ℕ) (up down : List (List ℕ)) → is_gone_item item ≡ false → loses (plain_row item k up down) ≡ false
plain-stays (Gone j) k up down e = cc
plain-stays item k up down e = refl

queued-plain : (item : Item) (k : ℕ) (sent recorded frames : List (List ℕ)) (own : List Row) → waiting_down own + length (joined frames) ≤ MAX_QUEUE
    → queued frames (bare_row item k (record { sent = sent; recorded = recorded; ends = Goes })) own ≡ plain_row item k sent frames
queued-plain item k sent recorded frames own le =
    let none = none-over (waiting_down own) frames le in
    let all = all-fit (waiting_down own) frames none in
    ap (λ (down : List (List ℕ)). record { item = item; client = k; up = sent; farewell = []; down = down; fate = fate_with Goes (overflow (waiting_down own) frames) }) all
    ∙ ap (λ (o : Option Why). record { item = item; client = k; up = sent; farewell = []; down = frames; fate = fate_with Goes o }) none

plain-goes : (item : Item) (k : ℕ) (sent recorded : List (List ℕ)) (own : List Row) → is_gone_item item ≡ false → is_lost own ≡ false
    → waiting_down own + length (joined (recorded ++ new_answers (bare_row item k (record { sent = sent; recorded = recorded; ends = Goes })) own)) ≤ MAX_QUEUE
    → row_of item k (record { sent = sent; recorded = recorded; ends = Goes }) own ≡ plain_row item k sent (recorded ++ new_answers (bare_row item k (record { sent = sent; recorded = recorded; ends = Goes })) own)
plain-goes item k sent recorded own gone lost le =
    let o : Outcome = record { sent = sent; recorded = recorded; ends = Goes } in
    let frames = recorded ++ new_answers (bare_row item k o) own in
    let records : all_recorded (bare_row item k o) own ≡ frames = rw (lost, all_recorded) refl in
    let q : queued (all_recorded (bare_row item k o) own) (bare_row item k o) own ≡ plain_row item k sent frames = ap (λ (fs : List (List ℕ)). queued fs (bare_row item k o) own) records ∙ queued-plain item k sent recorded frames own le in
    let kept : with_farewell (plain_row item k sent frames) own ≡ plain_row item k sent frames = rw (plain-stays item k sent frames gone, with_farewell) refl in
    ap (λ (r : Row). with_farewell r own) q ∙ kept

pub plain-row : (item : Item) (k : ℕ) (o : Outcome) (own : List Row) → o.ends ≡ Goes → is_gone_item item ≡ false → is_lost own ≡ false
    → waiting_down own + length (joined (o.recorded ++ new_answers (bare_row item k o) own)) ≤ MAX_QUEUE
    → row_of item k o own ≡ record { item = item; client = k; up = o.sent; farewell = []; down = o.recorded ++ new_answers (bare_row item k o) own; fate = Goes }
plain-row item k o own ends gone lost le =
    ap (λ (f : Fate). row_of item k (record { sent = o.sent; recorded = o.recorded; ends = f }) own) ends
    ∙ plain-goes item k o.sent o.recorded own gone lost le

-- it does not lose its client
pub plain-kept : (item : Item) (k : ℕ) (up down : List (List ℕ)) (own : List Row) → is_gone_item item ≡ false → is_lost own ≡ false → is_lost (plain_row item k up down ∷ own) ≡ false
plain-kept item k up down own gone lost = rw (plain-stays item k up down gone, is_lost) lost

pub row-kept : (item : Item) (k : ℕ) (o : Outcome) (own : List Row) → o.ends ≡ Goes → is_gone_item item ≡ false → is_lost own ≡ false
    → waiting_down own + length (joined (o.recorded ++ new_answers (bare_row item k o) own)) ≤ MAX_QUEUE
    → is_lost (row_of item k o own ∷ own) ≡ false
row-kept item k o own ends gone lost le =
    ap (λ (r : Row). is_lost (r ∷ own)) (plain-row item k o own ends gone lost le)
    ∙ plain-kept item k o.sent (o.recorded ++ new_answers (bare_row item k o) own) own gone lost

-- ---- how many are unanswered

-- what a row adds is what its answers have more
pub new-more : (row : Row) (own : List Row) (more : List (List ℕ)) → answers (row ∷ own) ≡ answers own ++ more → new_answers row own ≡ map frame_payload more
new-more row own more e =
    ap (λ (xs : List (List ℕ)). map frame_payload (drop (length (answers own)) xs)) e
    ∙ ap (map frame_payload) (drop-append_seam (answers own) more)

map-length : (xs : List (List ℕ)) → length (map frame_payload xs) ≡ length xs
map-length [] = refl
map-length (x ∷ xs) = ap suc (map-length xs)

answers-fewer : (flags : List Bool) (heard : List (List ℕ)) → length (answers_to flags heard) ≤ length flags
answers-fewer [] heard = omega arith
answers-fewer (false ∷ flags) heard = let l = answers-fewer flags heard in omega (arith, l)
answers-fewer (true ∷ flags) [] = omega arith
answers-fewer (true ∷ flags) (p ∷ heard) = let l = answers-fewer flags heard in omega (arith, l)

pub answers-within : (own : List Row) → length (answers own) ≤ length (wanted own)
answers-within own = answers-fewer (wanted own) (replies own)

abbrev pub asks_some : Option Global → ℕ
asks_some None = 0
asks_some (Some what) = 1

-- a row that wants a reply
abbrev pub asks_in : Row → ℕ
asks_in row = asks_some (wanted_by row)

flags-length : (sent : Bool) (what : Option Global) → length (sent_flags sent what) ≡ asks_some what
flags-length sent None = refl
flags-length sent (Some what) = refl

balance : (w a f m : ℕ) → a ≤ w → a + m ≤ w + f → ((w + f) - (a + m)) + m ≡ (w - a) + f
balance w a f m le le' = omega (arith, le, le')

pub asks-go-on : (row : Row) (own : List Row) → unanswered_asks (row ∷ own) + length (new_answers row own) ≡ unanswered_asks own + asks_in row
asks-go-on row own =
    let g = answers-grow row own in
    let w : length (wanted (row ∷ own)) ≡ length (wanted own) + asks_in row = length-append (wanted own) (sent_flags (is_sent row) (wanted_by row)) ∙ ap (λ (n : ℕ). length (wanted own) + n) (flags-length (is_sent row) (wanted_by row)) in
    let a : length (answers (row ∷ own)) ≡ length (answers own) + length g.0 = ap length g.1 ∙ length-append (answers own) g.0 in
    let n : length (new_answers row own) ≡ length g.0 = ap length (new-more row own g.0 g.1) ∙ map-length g.0 in
    let le = answers-within own in
    let le' : length (answers own) + length g.0 ≤ length (wanted own) + asks_in row = subst (λ (x : ℕ). x ≤ length (wanted own) + asks_in row) a (subst (λ (x : ℕ). length (answers (row ∷ own)) ≤ x) w (answers-within (row ∷ own))) in
    ap (λ (x : ℕ). (x - length (answers (row ∷ own))) + length (new_answers row own)) w
    ∙ (ap (λ (x : ℕ). ((length (wanted own) + asks_in row) - x) + length (new_answers row own)) a
    ∙ (ap (λ (x : ℕ). ((length (wanted own) + asks_in row) - (length (answers own) + length g.0)) + x) n
    ∙ balance (length (wanted own)) (length (answers own)) (asks_in row) (length g.0) le le'))

-- ---- answers are replies

abbrev pub IsReply : List ℕ → Type 0
IsReply q = reading q is_reply false ≡ true

abbrev pub IsReplyFrame : List ℕ → Type 0
IsReplyFrame frame = (q : List ℕ) × (frame ≡ frame_payload q) × (reading q is_reply false ≡ true)

reply-here : (p : List ℕ) (b : Bool) → reading p is_reply false ≡ b → Each IsReply (elim b as (λ _. List (List ℕ)) [ true ↦ p ∷ [] | false ↦ [] ])
reply-here p true e = (e, tt)
reply-here p false e = tt

reply-item : (item : Item) → Each IsReply (reply_in item)
reply-item (Heard p) = reply-here p (reading p is_reply false) refl
reply-item item = tt

replies-are : (own : List Row) → Each IsReply (replies own)
replies-are [] = tt
replies-are (row ∷ own) = each-append IsReply (replies own) (reply_in row.item) (replies-are own) (reply-item row.item)

refusal-is : IsReply request_failure
refusal-is = refl

answers-are : (flags : List Bool) (heard : List (List ℕ)) → Each IsReply heard → Each IsReply (answers_to flags heard)
answers-are [] heard all = tt
answers-are (false ∷ flags) heard all = (refusal-is, answers-are flags heard all)
answers-are (true ∷ flags) [] all = tt
answers-are (true ∷ flags) (p ∷ heard) all = (all.0, answers-are flags heard all.1)

frames-are : (ps : List (List ℕ)) → Each IsReply ps → Each IsReplyFrame (map frame_payload ps)
frames-are [] all = tt
frames-are (p ∷ ps) all = ((p, refl, all.0), frames-are ps all.1)

pub new-replies : (row : Row) (own : List Row) → Each IsReplyFrame (new_answers row own)
new-replies row own =
    let g = answers-grow row own in
    let all : Each IsReply (answers own ++ g.0) = subst (Each IsReply) g.1 (answers-are (wanted (row ∷ own)) (replies (row ∷ own)) (replies-are (row ∷ own))) in
    subst (Each IsReplyFrame) (sym (new-more row own g.0 g.1)) (frames-are g.0 (each-behind IsReply (answers own) g.0 all))

-- ---- no answers

flags-same : (row : Row) (own : List Row) → wanted_by row ≡ None → wanted (row ∷ own) ≡ wanted own
flags-same row own none = ap (λ (o : Option Global). wanted own ++ sent_flags (is_sent row) o) none ∙ append-nil (wanted own)

replies-same : (row : Row) (own : List Row) → reply_in row.item ≡ [] → replies (row ∷ own) ≡ replies own
replies-same row own none = ap (λ (rs : List (List ℕ)). replies own ++ rs) none ∙ append-nil (replies own)

pub no-answers : (row : Row) (own : List Row) → wanted_by row ≡ None → reply_in row.item ≡ [] → new_answers row own ≡ []
no-answers row own none silent =
    new-more row own []
    (ap (λ (fs : List Bool). answers_to fs (replies (row ∷ own))) (flags-same row own none)
    ∙ (ap (answers_to (wanted own)) (replies-same row own silent)
    ∙ sym (append-nil (answers own))))

-- ---- how long new answers are

-- no reply is left over
abbrev pub AllUsed : List Row → Type 0
AllUsed own = length (replies own) ≤ trues (wanted own)

none-left : (flags : List Bool) (heard : List (List ℕ)) → (waiting_left_of flags heard).early ≡ [] → length heard ≤ trues flags
none-left [] [] e = omega arith
none-left [] (p ∷ heard) e = absurd (let h : p ∷ heard ≡ [] = e in cc)
none-left (false ∷ flags) heard e = none-left flags heard e
none-left (true ∷ flags) [] e = omega arith
none-left (true ∷ flags) (p ∷ heard) e = let l = none-left flags heard e in omega (arith, l)

-- by the law RepliesAreAwaited of mux_bounds
pub used-awaited : (rows : List Row) (k : ℕ) → RepliesAwaited rows → is_run_over rows ≡ false → AllUsed (rows_of k rows)
used-awaited rows k awaited going = none-left (wanted (rows_of k rows)) (replies (rows_of k rows)) (awaited going k)

trues-more : (xs ys : List Bool) → trues xs ≤ trues (xs ++ ys)
trues-more [] ys = omega arith
trues-more (true ∷ xs) ys = let l = trues-more xs ys in omega (arith, l)
trues-more (false ∷ xs) ys = let l = trues-more xs ys in omega (arith, l)

pub used-none : AllUsed []
used-none = omega arith

-- it stays so by a row that is no reply
pub used-quiet : (row : Row) (own : List Row) → reply_in row.item ≡ [] → AllUsed own → AllUsed (row ∷ own)
used-quiet row own silent used =
    let r = ap length (replies-same row own silent) in
    let t = trues-more (wanted own) (sent_flags (is_sent row) (wanted_by row)) in
    omega (arith, r, t, used)

reply-one : (item : Item) → length (reply_in item) ≤ 1
reply-one (Heard p) = elim (reading p is_reply false) as (λ b. length (elim b as (λ _. List (List ℕ)) [ true ↦ p ∷ [] | false ↦ [] ]) ≤ 1) [ true ↦ omega arith | false ↦ omega arith ]
reply-one item = omega arith

-- and by any row if a request that was sent had no reply
pub used-reply : (row : Row) (own : List Row) → length (replies own) < trues (wanted own) → AllUsed (row ∷ own)
used-reply row own less =
    let r = length-append (replies own) (reply_in row.item) in
    let o = reply-one row.item in
    let t = trues-more (wanted own) (sent_flags (is_sent row) (wanted_by row)) in
    omega (arith, r, o, t, less)

-- one request more is answered by one refusal at most
record OneMore (flags more : List Bool) (heard : List (List ℕ)) : Type 0 where
  rest : List (List ℕ)
  are : answers_to (flags ++ more) heard ≡ answers_to flags heard ++ rest
  few : weight rest ≤ 6

one-more : (flags : List Bool) (b : Bool) (heard : List (List ℕ)) → length heard ≤ trues flags → OneMore flags (b ∷ []) heard
one-more [] true [] le = record { rest = []; are = refl; few = omega arith }
one-more [] true (p ∷ heard) le = absurd (omega (arith, le))
one-more [] false heard le = record { rest = request_failure ∷ []; are = refl; few = let w = weight-one request_failure in omega (arith, w) }
one-more (false ∷ flags) b heard le = let m = one-more flags b heard le in record { rest = m.rest; are = ap (λ (xs : List (List ℕ)). request_failure ∷ xs) m.are; few = m.few }
one-more (true ∷ flags) b [] le = record { rest = []; are = refl; few = omega arith }
one-more (true ∷ flags) b (p ∷ heard) le = let m = one-more flags b heard (omega (arith, le)) in record { rest = m.rest; are = ap (λ (xs : List (List ℕ)). p ∷ xs) m.are; few = m.few }

more-flags : (flags : List Bool) (sent : Bool) (what : Option Global) (heard : List (List ℕ)) → length heard ≤ trues flags → OneMore flags (sent_flags sent what) heard
more-flags flags sent None heard le = record { rest = []; are = ap (λ (fs : List Bool). answers_to fs heard) (append-nil flags) ∙ sym (append-nil (answers_to flags heard)); few = omega arith }
more-flags flags sent (Some what) heard le = one-more flags sent heard le

-- a row that is no reply
pub quiet-little : (row : Row) (own : List Row) → reply_in row.item ≡ [] → AllUsed own → length (joined (new_answers row own)) ≤ 6
quiet-little row own silent used =
    let m = more-flags (wanted own) (is_sent row) (wanted_by row) (replies own) used in
    let e : answers (row ∷ own) ≡ answers own ++ m.rest = ap (answers_to (wanted (row ∷ own))) (replies-same row own silent) ∙ m.are in
    subst (λ (fs : List (List ℕ)). length (joined fs) ≤ 6) (sym (new-more row own m.rest e)) m.few

pub said-little : (k : ℕ) (p : List ℕ) (given : Option HouseReply) (o : Outcome) (own : List Row) → AllUsed own → length (joined (new_answers (bare_row (Says k (Payload p) given) k o) own)) ≤ 16
said-little k p given o own used = let l = quiet-little (bare_row (Says k (Payload p) given) k o) own refl used in omega (arith, l)

-- a reply is answered as it is, and refusals that waited for it
abbrev IsBrief : ℕ → List ℕ → Type 0
IsBrief n q = length q + 5 ≤ n

weight-many : (n w : ℕ) (ps : List (List ℕ)) → length ps ≤ n → Each (IsBrief w) ps → weight ps ≤ n * w
weight-many zero w [] le all = omega arith
weight-many zero w (p ∷ ps) le all = absurd (omega (arith, le))
weight-many (suc n) w [] le all = omega arith
weight-many (suc n) w (p ∷ ps) le all =
    let here = all.0 in
    let later = weight-many n w ps (omega (arith, le)) all.1 in
    let c = weight-cons p ps in
    omega (arith, here, later, c)

record Replied (flags : List Bool) (heard : List (List ℕ)) (p : List ℕ) : Type 0 where
  rest : List (List ℕ)
  are : answers_to flags (heard ++ p ∷ []) ≡ answers_to flags heard ++ rest
  brief : Each (IsBrief (length p + 5)) rest

refusals : (flags : List Bool) (p : List ℕ) → 1 ≤ length p → Each (IsBrief (length p + 5)) (answers_to flags [])
refusals [] p some = tt
refusals (false ∷ flags) p some = (omega (arith, some), refusals flags p some)
refusals (true ∷ flags) p some = tt

replied : (flags : List Bool) (heard : List (List ℕ)) (p : List ℕ) → 1 ≤ length p → Replied flags heard p
replied [] heard p some = record { rest = []; are = refl; brief = tt }
replied (false ∷ flags) heard p some = let r = replied flags heard p some in record { rest = r.rest; are = ap (λ (xs : List (List ℕ)). request_failure ∷ xs) r.are; brief = r.brief }
replied (true ∷ flags) [] p some = record { rest = p ∷ answers_to flags []; are = refl; brief = (omega arith, refusals flags p some) }
replied (true ∷ flags) (q ∷ heard) p some = let r = replied flags heard p some in record { rest = r.rest; are = ap (λ (xs : List (List ℕ)). q ∷ xs) r.are; brief = r.brief }

pub reply-some : (p : List ℕ) → reading p is_reply false ≡ true → 1 ≤ length p
reply-some [] e = absurd (let h : false ≡ true = e in cc)
reply-some (b ∷ p) e = omega arith

-- any bound of the requests without an answer bounds them
pub heard-within : (n k : ℕ) (p : List ℕ) (o : Outcome) (own : List Row) → unanswered_asks own ≤ n → length (joined (new_answers (bare_row (Heard p) k o) own)) ≤ n * (length p + 5)
heard-within n k p o own few = by_case (reading p is_reply false) refl
  where
    by_case : (b : Bool) → reading p is_reply false ≡ b → length (joined (new_answers (bare_row (Heard p) k o) own)) ≤ n * (length p + 5)
    by_case false e =
        let row = bare_row (Heard p) k o in
        let silent : reply_in row.item ≡ [] = rw (e, reply_in) refl in
        let none = ap (λ (fs : List (List ℕ)). length (joined fs)) (no-answers row own refl silent) in
        omega (arith, none)
    by_case true e =
        let row = bare_row (Heard p) k o in
        let came : reply_in row.item ≡ p ∷ [] = rw (e, reply_in) refl in
        let r = replied (wanted own) (replies own) p (reply-some p e) in
        let are : answers (row ∷ own) ≡ answers own ++ r.rest =
        ap (λ (fs : List Bool). answers_to fs (replies (row ∷ own))) (flags-same row own refl)
        ∙ (ap (λ (rs : List (List ℕ)). answers_to (wanted own) (replies own ++ rs)) came ∙ r.are) in
        let new = new-more row own r.rest are in
        let count : length (new_answers row own) ≡ length r.rest = ap length new ∙ map-length r.rest in
        let asks = asks-go-on row own in
        let le : length r.rest ≤ n = omega (arith, count, asks, few) in
        subst (λ (fs : List (List ℕ)). length (joined fs) ≤ n * (length p + 5)) (sym new) (weight-many n (length p + 5) r.rest le r.brief)

pub heard-little : (k : ℕ) (p : List ℕ) (o : Outcome) (own : List Row) → AllUsed own → unanswered_asks own ≤ 64 → length (joined (new_answers (bare_row (Heard p) k o) own)) ≤ 64 * (length p + 5)
heard-little k p o own used few = heard-within 64 k p o own few

-- ---- how long what is received at once is

abbrev pub item_size : Item → ℕ
item_size (Heard p) = length p + 5
item_size item = 0

abbrev pub total : List Item → ℕ
total [] = 0
total (item ∷ items) = item_size item + total items

heard-total : (ss : List Outgoing) → NoBodies ss → total (map received_item ss) ≡ payloads_bytes ss
heard-total [] all = refl
heard-total (Body body ∷ ss) all = absurd all.0
heard-total (Payload p ∷ ss) all = ap (λ (n : ℕ). length p + 5 + n) (heard-total ss all.1)
heard-total (BadFraming fault ∷ ss) all = let ih = heard-total ss all.1 in omega (arith, ih)

pub heard-size : (before bytes : List ℕ) → AreBytes before → AreBytes bytes → length bytes ≤ 65536 → total (new_received before (before ++ bytes)) ≤ 327683
heard-size before bytes b b' le =
    let e : total (new_received before (before ++ bytes)) ≡ payloads_bytes (new_sends InProxy before bytes) = heard-total (new_sends InProxy before bytes) (new-bodies before bytes) in
    let n = new-bytes InProxy before bytes in
    omega (arith, e, n, le)
