-- What one mark more makes of the rows: of the other streams it leaves what they had.
use Rattle.std.proofs.Common.{◌≡◌, ◌≢◌, ℕ, Bool, true, false, not, ◌||◌, ◌&&◌, List, [], ◌∷◌, ◌++◌, length, refl, sym, ap, ◌∙◌, inl, inr, cond}
use Rattle.std.specs.Prelude.{◌==◌}
use Rattle.std.proofs.lemmas.Bool.Decides.{eqb_tells}
use Rattle.mux_outside.specs.declared.house.HouseReply.{HouseReply}
use Rattle.mux_outside.specs.declared.mark.Mark.{Mark}
use Rattle.mux_outside.specs.declared.mark.Mark.TheVariants.{Waits, Accepts, Gets, Ends, Frees, Fails, Takes, Holds, WriteFails, Joins, House}
use Rattle.mux_outside.specs.Streams.{among}
use Rattle.mux_history.specs.Policy.{Policy}
use Rattle.mux_history.specs.Rows.{Row, rows_of, is_out, is_end, is_run_over, loses, is_refusal, Item, Gone, Took, ServerFailed}
use Rattle.mux_history.specs.Pending.{pending, pending_down, pending_up}
use Rattle.mux_history.specs.Steps.{TakeStep, take_row}
use Rattle.mux_history.specs.Settings.{by_lists}
use Rattle.mux_history.specs.Log.{Setting, makes_next, more_all, more_of, next_row}
use Rattle.mux_history.specs.Journal.{items_in, is_accepted, is_blocked, is_own_stream, lets_in, log_of_journal, unless_own}
use Rattle.mux_history.specs.Promises.{IsSettled, has_failed, is_still_accepting, serves_stop, write_failed}
use Rattle.mux_history.proofs.OwnRows.{idle_row}
use Rattle.mux_history.proofs.PendingSteps.{take-leaves}
use Rattle.mux_peers.proofs.Losses.{gone-row}
use Rattle.mux_peers.proofs.Stood.{own_row}
use Rattle.mux_engine.proofs.Lists.{among-other-last, or-true, test-other, test-same, true-false}

more-yes : (set : Setting) (rows : List Row) (item : Item) → makes_next rows item ≡ true → more_of set rows item ≡ next_row set rows item ∷ rows
more-yes set rows item e = ap (λ b. elim b as (λ _. List Row) [ false ↦ rows | true ↦ next_row set rows item ∷ rows ]) e

more-no : (set : Setting) (rows : List Row) (item : Item) → makes_next rows item ≡ false → more_of set rows item ≡ rows
more-no set rows item e = ap (λ b. elim b as (λ _. List Row) [ false ↦ rows | true ↦ next_row set rows item ∷ rows ]) e

-- ---- what no row removes

all-keep : (P : List Row → Type 0) → ((row : Row) (rows : List Row) → P rows → P (row ∷ rows)) → (set : Setting) (items : List Item) (rows : List Row) → P rows → P (more_all set rows items)
all-keep P more set [] rows p = p
all-keep P more set (item ∷ items) rows p = all-keep P more set items (more_of set rows item) (one (makes_next rows item))
  where
    one : (b : Bool) → P (elim b as (λ _. List Row) [ false ↦ rows | true ↦ next_row set rows item ∷ rows ])
    one true = more (next_row set rows item) rows p
    one false = p

log-keeps : (P : List Row → Type 0) → ((row : Row) (rows : List Row) → P rows → P (row ∷ rows)) → (set : Setting) (mark : Mark) (before : List Mark) → P (log_of_journal set before) → P (log_of_journal set (mark ∷ before))
log-keeps P more set mark before p = all-keep P more set (items_in before mark) (log_of_journal set before) p

pub out-more : (k : ℕ) (row : Row) (rows : List Row) → is_out (rows_of k rows) ≡ true → is_out (rows_of k (row ∷ rows)) ≡ true
out-more k row rows out = elim (eqb_tells row.client k) [
  | inl q ↦ ap is_out (own_row k row rows q.1) ∙ (ap (λ b. (loses row || is_refusal row.fate) || b) out ∙ or-true (loses row || is_refusal row.fate))
  | inr q ↦ ap is_out (idle_row k row rows q.0) ∙ out
]

-- a client that is out stays out
pub log-out : (set : Setting) (mark : Mark) (before : List Mark) (k : ℕ) → is_out (rows_of k (log_of_journal set before)) ≡ true → is_out (rows_of k (log_of_journal set (mark ∷ before))) ≡ true
log-out set mark before k h = log-keeps (λ rows. is_out (rows_of k rows) ≡ true) (out-more k) set mark before h

and-last : (a b : Bool) → (a && b) ≡ true → b ≡ true
and-last true b e = e
and-last false b e = true-false (sym e)

-- where clients are accepted, they were accepted before
pub log-listens : (set : Setting) (mark : Mark) (before : List Mark) → is_still_accepting (log_of_journal set (mark ∷ before)) ≡ true → is_still_accepting (log_of_journal set before) ≡ true
log-listens set mark before = log-keeps (λ rows. is_still_accepting rows ≡ true → is_still_accepting (log_of_journal set before) ≡ true) (λ row rows h e. h (and-last (not (serves_stop row (rows_of row.client rows))) (is_still_accepting rows) e)) set mark before (λ e. e)

or-last : (a b : Bool) → (a || b) ≡ false → b ≡ false
or-last true b e = true-false e
or-last false b e = e

-- where the run goes on, it went on before
pub log-live : (set : Setting) (mark : Mark) (before : List Mark) → is_run_over (log_of_journal set (mark ∷ before)) ≡ false → is_run_over (log_of_journal set before) ≡ false
log-live set mark before = log-keeps (λ rows. is_run_over rows ≡ false → is_run_over (log_of_journal set before) ≡ false) (λ row rows h e. h (or-last (is_end row.fate) (is_run_over rows) e)) set mark before (λ e. e)

-- ---- bytes that are accepted

-- they make a row
pub took-log : (policy : Policy) (pid : ℕ) (picks : List ℕ) (replies : List HouseReply) (rows : List Row) (t n : ℕ) → more_of (by_lists policy pid picks replies) rows (Took t n) ≡ take_row t n ∷ rows
took-log policy pid picks replies rows t n = more-yes (by_lists policy pid picks replies) rows (Took t n) (by_end (is_run_over rows))
  where
    by_end : (b : Bool) → (elim b as (λ _. Bool) [ true ↦ true | false ↦ true ]) ≡ true
    by_end true = refl
    by_end false = refl

-- ---- a stream that failed at a write

-- of a client: it is gone
lost-log : (policy : Policy) (pid : ℕ) (picks : List ℕ) (replies : List HouseReply) (k : ℕ) (marks : List Mark) → k ≢ 0 → is_own_stream k ≡ false → (let set : Setting = by_lists policy pid picks replies in log_of_journal set (WriteFails k ∷ marks) ≡ more_of set (log_of_journal set marks) (Gone k))
lost-log policy pid picks replies k marks nz client =
    let set : Setting = by_lists policy pid picks replies in
    ap (λ b. more_all set (log_of_journal set marks) (elim b as (λ _. List Item) [ true ↦ ServerFailed ∷ [] | false ↦ unless_own k (Gone k ∷ []) ])) (test-other k 0 nz)
    ∙ ap (λ b. more_all set (log_of_journal set marks) (elim b as (λ _. List Item) [ true ↦ [] | false ↦ Gone k ∷ [] ])) client

gone-client : (policy : Policy) (pid : ℕ) (picks : List ℕ) (replies : List HouseReply) (k : ℕ) (rows : List Row) → (next_row (by_lists policy pid picks replies) rows (Gone k)).client ≡ k
gone-client policy pid picks replies k rows = ap (λ (row : Row). row.client) (gone-row policy pid picks replies k rows)

-- and out
pub lost-out : (policy : Policy) (pid : ℕ) (picks : List ℕ) (replies : List HouseReply) (k : ℕ) (marks : List Mark) → k ≢ 0 → is_own_stream k ≡ false → (let set : Setting = by_lists policy pid picks replies in is_run_over (log_of_journal set marks) ≡ false → is_out (rows_of k (log_of_journal set (WriteFails k ∷ marks))) ≡ true)
lost-out policy pid picks replies k marks nz client live = ap (λ r. is_out (rows_of k r)) (lost-log policy pid picks replies k marks nz client) ∙ by_out (is_out (rows_of k rows)) refl
  where
    set : Setting
    set = by_lists policy pid picks replies

    rows : List Row
    rows = log_of_journal set marks

    next-is : (b : Bool) → is_out (rows_of k rows) ≡ b → makes_next rows (Gone k) ≡ not b
    next-is b e = ap (λ c. elim c as (λ _. Bool) [ true ↦ false | false ↦ not (is_out (rows_of k rows)) ]) live ∙ ap not e

    by_out : (b : Bool) → is_out (rows_of k rows) ≡ b → is_out (rows_of k (more_of set rows (Gone k))) ≡ true
    by_out true e = ap (λ r. is_out (rows_of k r)) (more-no set rows (Gone k) (next-is true e)) ∙ e
    by_out false e = ap (λ r. is_out (rows_of k r)) (more-yes set rows (Gone k) (next-is false e)) ∙ (ap is_out (own_row k (next_row set rows (Gone k)) rows (gone-client policy pid picks replies k rows)) ∙ ap (λ (row : Row). (loses row || is_refusal row.fate) || is_out (rows_of k rows)) (gone-row policy pid picks replies k rows))

no-wish : (b c : Bool) → (not (b && false) && c) ≡ c
no-wish true c = refl
no-wish false c = refl

-- it requests nothing
pub lost-listens : (policy : Policy) (pid : ℕ) (picks : List ℕ) (replies : List HouseReply) (k : ℕ) (marks : List Mark) → k ≢ 0 → is_own_stream k ≡ false → (let set : Setting = by_lists policy pid picks replies in is_still_accepting (log_of_journal set (WriteFails k ∷ marks)) ≡ is_still_accepting (log_of_journal set marks))
lost-listens policy pid picks replies k marks nz client = ap is_still_accepting (lost-log policy pid picks replies k marks nz client) ∙ by_made (makes_next rows (Gone k))
  where
    set : Setting
    set = by_lists policy pid picks replies

    rows : List Row
    rows = log_of_journal set marks

    by_made : (b : Bool) → is_still_accepting (elim b as (λ _. List Row) [ false ↦ rows | true ↦ next_row set rows (Gone k) ∷ rows ]) ≡ is_still_accepting rows
    by_made true = ap (λ (row : Row). is_still_accepting (row ∷ rows)) (gone-row policy pid picks replies k rows) ∙ no-wish true (is_still_accepting rows)
    by_made false = refl

-- ---- the other streams

one-other : (set : Setting) (t : ℕ) (item : Item) (rows : List Row) → ((next_row set rows item).client == t) ≡ false → rows_of t (more_of set rows item) ≡ rows_of t rows
one-other set t item rows e = by_made (makes_next rows item)
  where
    by_made : (b : Bool) → rows_of t (elim b as (λ _. List Row) [ false ↦ rows | true ↦ next_row set rows item ∷ rows ]) ≡ rows_of t rows
    by_made true = idle_row t (next_row set rows item) rows e
    by_made false = refl

failed-rows : (policy : Policy) (pid : ℕ) (picks : List ℕ) (replies : List HouseReply) (k t : ℕ) (marks : List Mark) → k ≢ t → t ≢ 0 → (let set : Setting = by_lists policy pid picks replies in rows_of t (log_of_journal set (WriteFails k ∷ marks)) ≡ rows_of t (log_of_journal set marks))
failed-rows policy pid picks replies k t marks ne nz = by_server (k == 0)
  where
    set : Setting
    set = by_lists policy pid picks replies

    rows : List Row
    rows = log_of_journal set marks

    by_own : (b : Bool) → rows_of t (more_all set rows (elim b as (λ _. List Item) [ true ↦ [] | false ↦ Gone k ∷ [] ])) ≡ rows_of t rows
    by_own true = refl
    by_own false = one-other set t (Gone k) rows (ap (λ c. c == t) (gone-client policy pid picks replies k rows) ∙ test-other k t ne)

    by_server : (b : Bool) → rows_of t (more_all set rows (elim b as (λ _. List Item) [ true ↦ ServerFailed ∷ [] | false ↦ unless_own k (Gone k ∷ []) ])) ≡ rows_of t rows
    by_server true = one-other set t ServerFailed rows (test-other 0 t (λ e. nz (sym e)))
    by_server false = by_own (is_own_stream k)

-- what waits for another client stays
pub failed-pending : (policy : Policy) (pid : ℕ) (picks : List ℕ) (replies : List HouseReply) (k t : ℕ) (marks : List Mark) → k ≢ t → t ≢ 0 → (let set : Setting = by_lists policy pid picks replies in pending t (log_of_journal set (WriteFails k ∷ marks)) ≡ pending t (log_of_journal set marks))
failed-pending policy pid picks replies k t marks ne nz = by_number (log_of_journal set (WriteFails k ∷ marks)) ∙ (ap pending_down (failed-rows policy pid picks replies k t marks ne nz) ∙ sym (by_number (log_of_journal set marks)))
  where
    set : Setting
    set = by_lists policy pid picks replies

    by_number : (rows : List Row) → pending t rows ≡ pending_down (rows_of t rows)
    by_number rows = ap (λ b. elim b as (λ _. List ℕ) [ true ↦ pending_up rows | false ↦ pending_down (rows_of t rows) ]) (test-other t 0 nz)

pub took-pending : (policy : Policy) (pid : ℕ) (picks : List ℕ) (replies : List HouseReply) (k t : ℕ) (bytes : List ℕ) (accepts : Bool) (marks : List Mark) → k ≢ t → (let set : Setting = by_lists policy pid picks replies in pending t (log_of_journal set (Takes k bytes accepts ∷ marks)) ≡ pending t (log_of_journal set marks))
took-pending policy pid picks replies k t bytes accepts marks ne = by_own (is_own_stream k)
  where
    set : Setting
    set = by_lists policy pid picks replies

    step : TakeStep k (length bytes) (log_of_journal set marks)
    step = take-leaves k (length bytes) (log_of_journal set marks)

    by_own : (b : Bool) → pending t (more_all set (log_of_journal set marks) (elim b as (λ _. List Item) [ true ↦ [] | false ↦ Took k (length bytes) ∷ [] ])) ≡ pending t (log_of_journal set marks)
    by_own true = refl
    by_own false = ap (pending t) (took-log policy pid picks replies (log_of_journal set marks) k (length bytes)) ∙ step.others t (test-other t k (λ e. ne (sym e)))

-- ---- what the marks say of a stream

-- the stream of a mark
abbrev pub mark_stream : Mark → ℕ
mark_stream (Waits waiting want streams shown) = 0
mark_stream (Accepts k) = k
mark_stream (Gets k bytes) = k
mark_stream (Ends k) = k
mark_stream (Frees k) = k
mark_stream (Fails k) = k
mark_stream (Takes k bytes accepts) = k
mark_stream (Holds k) = k
mark_stream (WriteFails k) = k
mark_stream (Joins l k) = k
mark_stream (House m) = 0

-- it is no mark of the forwarder
abbrev pub NotHouse : Mark → Type 0
NotHouse (House m) = ⊥
NotHouse mark = Unit {0}

pub blocked-other : (mark : Mark) (journal : List Mark) (t : ℕ) → NotHouse mark → mark_stream mark ≢ t → is_blocked t (mark ∷ journal) ≡ is_blocked t journal
blocked-other (Waits waiting want streams shown) journal t plain ne = refl
blocked-other (Accepts k) journal t plain ne = refl
blocked-other (Gets k bytes) journal t plain ne = refl
blocked-other (Ends k) journal t plain ne = refl
blocked-other (Fails k) journal t plain ne = refl
blocked-other (Takes k bytes accepts) journal t plain ne = refl
blocked-other (WriteFails k) journal t plain ne = refl
blocked-other (Holds k) journal t plain ne = ap (λ b. elim b as (λ _. Bool) [ true ↦ true | false ↦ is_blocked t journal ]) (test-other k t ne)
blocked-other (Frees k) journal t plain ne = ap (λ b. elim b as (λ _. Bool) [ true ↦ false | false ↦ is_blocked t journal ]) (test-other k t ne)
blocked-other (Joins l k) journal t plain ne = refl
blocked-other (House m) journal t plain ne = absurd plain

pub failed-other : (mark : Mark) (journal : List Mark) (t : ℕ) → mark_stream mark ≢ t → write_failed t (mark ∷ journal) ≡ write_failed t journal
failed-other (Waits waiting want streams shown) journal t ne = refl
failed-other (Accepts k) journal t ne = refl
failed-other (Gets k bytes) journal t ne = refl
failed-other (Ends k) journal t ne = refl
failed-other (Fails k) journal t ne = refl
failed-other (Frees k) journal t ne = refl
failed-other (Takes k bytes accepts) journal t ne = ap (λ b. elim b as (λ _. Bool) [ true ↦ false | false ↦ write_failed t journal ]) (test-other k t ne)
failed-other (Holds k) journal t ne = ap (λ b. elim b as (λ _. Bool) [ true ↦ false | false ↦ write_failed t journal ]) (test-other k t ne)
failed-other (WriteFails k) journal t ne = ap (λ b. elim b as (λ _. Bool) [ true ↦ true | false ↦ write_failed t journal ]) (test-other k t ne)
failed-other (Joins l k) journal t ne = refl
failed-other (House m) journal t ne = refl

-- a mark that is no arrival
abbrev pub NotArrival : Mark → Type 0
NotArrival (Accepts k) = ⊥
NotArrival (House m) = ⊥
NotArrival mark = Unit {0}

pub accepted-same : (mark : Mark) (journal : List Mark) (k : ℕ) → NotArrival mark → is_accepted k (mark ∷ journal) ≡ is_accepted k journal
accepted-same (Accepts j) journal k n = absurd n
accepted-same (Waits waiting want streams shown) journal k n = refl
accepted-same (Gets j bytes) journal k n = refl
accepted-same (Ends j) journal k n = refl
accepted-same (Frees j) journal k n = refl
accepted-same (Fails j) journal k n = refl
accepted-same (Takes j bytes accepts) journal k n = refl
accepted-same (Holds j) journal k n = refl
accepted-same (WriteFails j) journal k n = refl
accepted-same (Joins l j) journal k n = refl
accepted-same (House m) journal k n = absurd n

-- what failed at a mark of another stream
pub has-failed-other : (k t : ℕ) (journal : List Mark) → k ≢ t → (elim (k == t) as (λ _. Bool) [ true ↦ true | false ↦ has_failed t journal ]) ≡ has_failed t journal
has-failed-other k t journal ne = ap (λ b. elim b as (λ _. Bool) [ true ↦ true | false ↦ has_failed t journal ]) (test-other k t ne)

-- a stream that failed has failed for ever
pub failed-more : (mark : Mark) (journal : List Mark) (t : ℕ) → has_failed t journal ≡ true → has_failed t (mark ∷ journal) ≡ true
failed-more (Fails k) journal t f = by_test (k == t) f
  where
    by_test : (b : Bool) → has_failed t journal ≡ true → (elim b as (λ _. Bool) [ true ↦ true | false ↦ has_failed t journal ]) ≡ true
    by_test true f = refl
    by_test false f = f
failed-more (WriteFails k) journal t f = by_test (k == t) f
  where
    by_test : (b : Bool) → has_failed t journal ≡ true → (elim b as (λ _. Bool) [ true ↦ true | false ↦ has_failed t journal ]) ≡ true
    by_test true f = refl
    by_test false f = f
failed-more (Waits waiting want streams shown) journal t f = f
failed-more (Accepts k) journal t f = f
failed-more (Gets k bytes) journal t f = f
failed-more (Ends k) journal t f = f
failed-more (Frees k) journal t f = f
failed-more (Takes k bytes accepts) journal t f = f
failed-more (Holds k) journal t f = f
failed-more (Joins l k) journal t f = f
failed-more (House m) journal t f = f

pub has-failed-same : (k : ℕ) (journal : List Mark) → (elim (k == k) as (λ _. Bool) [ true ↦ true | false ↦ has_failed k journal ]) ≡ true
has-failed-same k journal = ap (λ b. elim b as (λ _. Bool) [ true ↦ true | false ↦ has_failed k journal ]) (test-same k)

-- those in a list failed, and one more did
pub failed-last : (mark : Mark) (journal : List Mark) (k : ℕ) (failed : List ℕ) → has_failed k (mark ∷ journal) ≡ true → ((t : ℕ) → among t failed ≡ true → has_failed t journal ≡ true) → (t : ℕ) → among t (failed ++ k ∷ []) ≡ true → has_failed t (mark ∷ journal) ≡ true
failed-last mark journal k failed now did t a = elim (eqb_tells k t) [
  | inl q ↦ ap (λ i. has_failed i (mark ∷ journal)) (sym q.1) ∙ now
  | inr q ↦ failed-more mark journal t (did t (sym (among-other-last k t failed q.1) ∙ a))
]

cond-true : (b : Bool) → cond b true true ≡ true
cond-true true = refl
cond-true false = refl

-- who was accepted stays so
pub accepted-more : (mark : Mark) (journal : List Mark) (k : ℕ) → is_accepted k journal ≡ true → is_accepted k (mark ∷ journal) ≡ true
accepted-more (Accepts j) journal k a = ap (λ b. cond (j == k) true b) a ∙ cond-true (j == k)
accepted-more (House m) journal k a = ap (λ b. cond (lets_in k m) true b) a ∙ cond-true (lets_in k m)
accepted-more (Waits waiting want streams shown) journal k a = a
accepted-more (Gets j bytes) journal k a = a
accepted-more (Ends j) journal k a = a
accepted-more (Frees j) journal k a = a
accepted-more (Fails j) journal k a = a
accepted-more (Takes j bytes accepts) journal k a = a
accepted-more (Holds j) journal k a = a
accepted-more (WriteFails j) journal k a = a
accepted-more (Joins l j) journal k a = a

pub holds-blocked : (k t : ℕ) (marks : List Mark) (b : Bool) → (k == t) ≡ b → is_blocked t (Holds k ∷ marks) ≡ (elim b as (λ _. Bool) [ true ↦ true | false ↦ is_blocked t marks ])
holds-blocked k t marks b e = ap (λ c. elim c as (λ _. Bool) [ true ↦ true | false ↦ is_blocked t marks ]) e

pub holds-failed : (k t : ℕ) (marks : List Mark) (b : Bool) → (k == t) ≡ b → write_failed t (Holds k ∷ marks) ≡ (elim b as (λ _. Bool) [ true ↦ false | false ↦ write_failed t marks ])
holds-failed k t marks b e = ap (λ c. elim c as (λ _. Bool) [ true ↦ false | false ↦ write_failed t marks ]) e

pub takes-failed : (k t : ℕ) (bytes : List ℕ) (accepts : Bool) (marks : List Mark) (b : Bool) → (k == t) ≡ b → write_failed t (Takes k bytes accepts ∷ marks) ≡ (elim b as (λ _. Bool) [ true ↦ false | false ↦ write_failed t marks ])
takes-failed k t bytes accepts marks b e = ap (λ c. elim c as (λ _. Bool) [ true ↦ false | false ↦ write_failed t marks ]) e

pub fails-failed : (k t : ℕ) (marks : List Mark) (b : Bool) → (k == t) ≡ b → write_failed t (WriteFails k ∷ marks) ≡ (elim b as (λ _. Bool) [ true ↦ true | false ↦ write_failed t marks ])
fails-failed k t marks b e = ap (λ c. elim c as (λ _. Bool) [ true ↦ true | false ↦ write_failed t marks ]) e

-- a stream is settled as before where all three stay
pub settled-as : (set : Setting) (mark : Mark) (marks : List Mark) (t : ℕ) → pending t (log_of_journal set (mark ∷ marks)) ≡ pending t (log_of_journal set marks) → is_blocked t (mark ∷ marks) ≡ is_blocked t marks → write_failed t (mark ∷ marks) ≡ write_failed t marks → IsSettled set marks t → IsSettled set (mark ∷ marks) t
settled-as set mark marks t p b f h = elim h [
  | inl e ↦ inl (p ∙ e)
  | inr r ↦ elim r [ inl c ↦ inr (inl (b ∙ c)) | inr w ↦ inr (inr (f ∙ w)) ]
]
