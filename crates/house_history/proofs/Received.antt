-- What the forwarder sent and received as a client, by its calls: what the journal has of it, and
-- what the rows give it.
use Rattle.std.proofs.Common.{◌≡◌, ◌∙◌, refl, sym, ap, subst, ℕ, Bool, true, false, List, [], ◌∷◌, ◌++◌, append_assoc, append-nil, map, take, drop, Some, None}
use Rattle.std.specs.Prelude.{◌==◌, ◌&&◌, if◌then◌else◌}
use Rattle.std.proofs.lemmas.Bool.{both_ways}
use Rattle.std.proofs.lemmas.List.{take-append-drop}
use Rattle.ssh_grammar.specs.Said.{BadFraming, Body, InProxy, Outgoing, Payload, parse}
use Rattle.mux_outside.specs.HouseCalls.{End, Failed, Got, HouseCall, Turns, Writable}
use Rattle.mux_outside.specs.HouseCalls as call
use Rattle.mux_outside.specs.OwnStreams.{is_own}
use Rattle.mux_outside.specs.declared.house_mark.HouseMark.{HouseMark}
use Rattle.mux_outside.specs.declared.house_mark.HouseMark.TheVariants.{HouseIn, HouseSaid, HouseTook, HouseAsked, HouseAnswer, HouseOrder}
use Rattle.mux_outside.specs.declared.mark.Mark.{Mark}
use Rattle.mux_outside.specs.declared.mark.Mark.TheVariants.{Waits, Accepts, Gets, Ends, Frees, Fails, Takes, Holds, WriteFails, Joins, House}
use Rattle.mux_history.specs.declared.limits.TheConstants.{HOUSE}
use Rattle.mux_history.specs.Choices.{Choices, FromLists, TheirOwn, pick_of, replies_given, reply_at, with_reply}
use Rattle.mux_history.specs.Controls.{body_asks, client_has_greeted}
use Rattle.mux_history.specs.Journal.{bytes_in, bytes_of, house_sent, is_own_stream, items_in, log_of_journal, new_received, new_sayings, received_item, sent_item, server_end, unless_own}
use Rattle.mux_history.specs.Log.{Setting, bare_row, is_took, makes_next, more_all, more_of, next_row, treat}
use Rattle.mux_history.specs.Pending.{given_by, given_to, joined, pending, pending_down, took_by}
use Rattle.mux_history.specs.Promises.{Throughout}
use Rattle.mux_history.specs.Rows.{Gone, Item, Row, Says, ServerFailed, Took, rows_of}
use Rattle.mux_history.specs.Said.{silent}
use Rattle.mux_history.proofs.Finds.{filter-no, filter-yes}
use Rattle.mux_history.proofs.LawfulItems.{treat-item}
use Rattle.mux_history.proofs.Nexts.{next-took}
use Rattle.mux_engine.specs.Called.{calls_at, calls_in, house_calls, if_own}
use Rattle.mux_engine.specs.Places.{IsOfOthers}
use Rattle.house_forward.specs.Greeting.{sent_in, sent_on}
use Rattle.house_history.specs.RunsRelay.{received_by_call, received_in_calls}

-- ---- what it sent

joined-append : (xs ys : List (List ℕ)) → joined (xs ++ ys) ≡ joined xs ++ joined ys
joined-append [] ys = refl
joined-append (x ∷ xs) ys = ap (λ l. x ++ l) (joined-append xs ys) ∙ sym (append_assoc x (joined xs) (joined ys))

sent-append : (xs ys : List HouseCall) → sent_in (xs ++ ys) ≡ sent_in xs ++ sent_in ys
sent-append [] ys = refl
sent-append (one ∷ xs) ys = ap (λ l. sent_on one ++ l) (sent-append xs ys) ∙ sym (append_assoc (sent_on one) (sent_in xs) (sent_in ys))

sent-own : (t : ℕ) (one : HouseCall) → sent_on one ≡ [] → joined (sent_in (if_own t one)) ≡ []
sent-own t one none = by_test (is_own t)
  where
    by_test : (b : Bool) → joined (sent_in (if b then one ∷ [] else [])) ≡ []
    by_test true = ap (λ (l : List (List ℕ)). joined (l ++ [])) none
    by_test false = refl

sent-house : (waiting : List ℕ) (mark : HouseMark) → joined (sent_in (house_calls waiting mark)) ≡ house_sent mark
sent-house waiting HouseIn = refl
sent-house waiting (HouseSaid bytes) = append-nil bytes
sent-house waiting (HouseTook size) = refl
sent-house waiting (HouseAsked client id opening ask reply) = refl
sent-house waiting (HouseAnswer client id reply) = refl
sent-house waiting (HouseOrder order number) = refl

other-gives : (t : ℕ) (bytes : List ℕ) → (t == HOUSE) ≡ false → bytes_in HOUSE (Gets t bytes) ≡ []
other-gives t bytes e = ap (λ (b : Bool). elim b as (λ _. List ℕ) [ true ↦ bytes | false ↦ [] ]) e

sent-at : (setting : Setting) (before : List Mark) (mark : Mark) → IsOfOthers before mark → joined (sent_in (calls_at setting before mark)) ≡ bytes_in HOUSE mark
sent-at setting before (Joins l t) others = refl
sent-at setting before (Gets t bytes) others = sent-own t (Turns (Got t bytes)) refl ∙ sym (other-gives t bytes others)
sent-at setting before (Ends t) others = sent-own t (Turns (End t)) refl
sent-at setting before (Frees t) others = sent-own t (Turns (Writable t)) refl
sent-at setting before (Fails t) others = sent-own t (Turns (Failed t)) refl
sent-at setting before (WriteFails t) others = sent-own t (Turns (Failed t)) refl
sent-at setting before (Takes t bytes accepts) others = sent-own t (call.Takes t bytes) refl
sent-at setting before (House mark) others = sent-house (pending HOUSE (log_of_journal setting before)) mark
sent-at setting before (Waits waiting want streams shown) others = refl
sent-at setting before (Accepts k) others = refl
sent-at setting before (Holds t) others = refl

-- all that it sent is what the journal has of it
pub sent-all : (setting : Setting) (journal : List Mark) → Throughout IsOfOthers journal → joined (sent_in (calls_in setting journal)) ≡ bytes_of HOUSE journal
sent-all setting [] others = refl
sent-all setting (mark ∷ before) others =
    ap joined (sent-append (calls_in setting before) (calls_at setting before mark))
    ∙ (joined-append (sent_in (calls_in setting before)) (sent_in (calls_at setting before mark))
    ∙ (ap (λ (l : List ℕ). l ++ joined (sent_in (calls_at setting before mark))) (sent-all setting before others.1)
    ∙ ap (λ (l : List ℕ). bytes_of HOUSE before ++ l) (sent-at setting before mark others.0)))

-- ---- what one row gives it

-- what it received, and then what waits for it, is what it is given
abbrev Held : List ℕ → List Row → Type 0
Held received rows = received ++ pending HOUSE rows ≡ given_to HOUSE rows

-- a row that doesn't take from what waits for it
abbrev TakesNone : Row → Type 0
TakesNone row = (row.client == HOUSE) ≡ true → took_by row.item ≡ 0

waits-more : (row : Row) (rows : List Row) → TakesNone row → pending HOUSE (row ∷ rows) ≡ pending HOUSE rows ++ given_by HOUSE row
waits-more row rows none = by_client (row.client == HOUSE) refl
  where
    by_client : (b : Bool) → (row.client == HOUSE) ≡ b
        → pending_down (rows_of HOUSE (row ∷ rows)) ≡ pending_down (rows_of HOUSE rows) ++ elim b as (λ _. List ℕ) [ true ↦ joined row.down | false ↦ [] ]
    by_client true e =
        ap pending_down (filter-yes (λ (r : Row). r.client == HOUSE) row rows e)
        ∙ ap (λ n. drop n (pending_down (rows_of HOUSE rows) ++ joined row.down)) (none e)
    by_client false e =
        ap pending_down (filter-no (λ (r : Row). r.client == HOUSE) row rows e) ∙ sym (append-nil (pending_down (rows_of HOUSE rows)))

held-row : (received : List ℕ) (row : Row) (rows : List Row) → TakesNone row → Held received rows → Held received (row ∷ rows)
held-row received row rows none h =
    ap (λ xs. received ++ xs) (waits-more row rows none)
    ∙ (sym (append_assoc received (pending HOUSE rows) (given_by HOUSE row)) ∙ ap (λ xs. xs ++ given_by HOUSE row) h)

-- ---- what one item gives it

-- an item that doesn't take from what waits for it
abbrev OfOthers : Item → Type 0
OfOthers (Took t n) = (t == HOUSE) ≡ false
OfOthers item = is_took item ≡ false

reply-took : (choices : Choices) (rows : List Row) (item : Item) → is_took (with_reply choices rows item) ≡ is_took item
reply-took (FromLists picks given) rows (Says k (Body body) old) = elim (client_has_greeted (rows_of k rows) && body_asks body) as (λ b. is_took (elim b as (λ _. Item) [ true ↦ Says k (Body body) (Some (reply_at given (replies_given rows))) | false ↦ Says k (Body body) None ]) ≡ false) [ true ↦ refl | false ↦ refl ]
reply-took (FromLists picks given) rows (Says k (Payload p) old) = refl
reply-took (FromLists picks given) rows (Says k (BadFraming fault) old) = refl
reply-took (FromLists picks given) rows item = refl
reply-took TheirOwn rows item = refl

took-none : (item : Item) → is_took item ≡ false → took_by item ≡ 0
took-none (Took t n) still = cc
took-none item still = refl

next-none : (setting : Setting) (rows : List Row) (item : Item) → is_took item ≡ false → TakesNone (next_row setting rows item)
next-none setting rows item still e =
    took-none (next_row setting rows item).item
    (ap is_took (treat-item setting.policy setting.pid (pick_of setting.choices rows item) rows (with_reply setting.choices rows item))
    ∙ (reply-took setting.choices rows item ∙ still))

more-took : (setting : Setting) (rows : List Row) (t n : ℕ) → more_of setting rows (Took t n) ≡ bare_row (Took t n) t silent ∷ rows
more-took setting rows t n =
    ap (λ b. elim b as (λ _. List Row) [ false ↦ rows | true ↦ next_row setting rows (Took t n) ∷ rows ]) (next-took rows t n)
    ∙ ap (λ row. row ∷ rows) (by_choices setting.choices)
  where
    by_choices : (choices : Choices) → treat setting.policy setting.pid (pick_of choices rows (Took t n)) rows (with_reply choices rows (Took t n)) ≡ bare_row (Took t n) t silent
    by_choices (FromLists picks given) = refl
    by_choices TheirOwn = refl

held-still : (setting : Setting) (received : List ℕ) (rows : List Row) (item : Item) → is_took item ≡ false → Held received rows → Held received (more_of setting rows item)
held-still setting received rows item still h = by_next (makes_next rows item)
  where
    by_next : (b : Bool) → Held received (elim b as (λ _. List Row) [ false ↦ rows | true ↦ next_row setting rows item ∷ rows ])
    by_next false = h
    by_next true = held-row received (next_row setting rows item) rows (next-none setting rows item still) h

held-more : (setting : Setting) (received : List ℕ) (rows : List Row) (item : Item) → OfOthers item → Held received rows → Held received (more_of setting rows item)
held-more setting received rows (Took t n) other h =
    subst (Held received) (sym (more-took setting rows t n))
    (held-row received (bare_row (Took t n) t silent) rows (λ e. absurd (both_ways (t == HOUSE) other e)) h)
held-more setting received rows item other h = held-still setting received rows item other h

abbrev AllOfOthers : List Item → Type 0
AllOfOthers [] = Unit {0}
AllOfOthers (item ∷ items) = OfOthers item × AllOfOthers items

held-all : (setting : Setting) (received : List ℕ) (rows : List Row) (items : List Item) → AllOfOthers items → Held received rows → Held received (more_all setting rows items)
held-all setting received rows [] others h = h
held-all setting received rows (item ∷ items) others h =
    held-all setting received (more_of setting rows item) items others.1 (held-more setting received rows item others.0 h)

-- ---- what one mark gives it

said-others : (k : ℕ) (ss : List Outgoing) → AllOfOthers (map (sent_item k) ss)
said-others k [] = tt
said-others k (s ∷ ss) = (refl, said-others k ss)

heard-others : (ss : List Outgoing) → AllOfOthers (map received_item ss)
heard-others [] = tt
heard-others (Body body ∷ ss) = (refl, heard-others ss)
heard-others (Payload p ∷ ss) = (refl, heard-others ss)
heard-others (BadFraming fault ∷ ss) = (refl, heard-others ss)

unless-others : (stream : ℕ) (items : List Item) → AllOfOthers items → AllOfOthers (unless_own stream items)
unless-others stream items others = by_test (is_own_stream stream)
  where
    by_test : (b : Bool) → AllOfOthers (elim b as (λ _. List Item) [ true ↦ [] | false ↦ items ])
    by_test true = tt
    by_test false = others

end-other : (rest : List ℕ) → AllOfOthers (server_end rest ∷ [])
end-other [] = (refl, tt)
end-other (b ∷ rest) = (refl, tt)

gone-others : (stream : ℕ) (items : List Item) → AllOfOthers items
    → AllOfOthers (elim (stream == 0) as (λ _. List Item) [ true ↦ items | false ↦ unless_own stream (Gone stream ∷ []) ])
gone-others stream items others = by_test (stream == 0)
  where
    by_test : (b : Bool) → AllOfOthers (elim b as (λ _. List Item) [ true ↦ items | false ↦ unless_own stream (Gone stream ∷ []) ])
    by_test true = others
    by_test false = unless-others stream (Gone stream ∷ []) (refl, tt)

gets-others : (before : List Mark) (stream : ℕ) (bytes : List ℕ) → AllOfOthers (items_in before (Gets stream bytes))
gets-others before stream bytes = by_test (stream == 0)
  where
    by_test : (b : Bool) → AllOfOthers (elim b as (λ _. List Item) [
      | true ↦ new_received (bytes_of 0 before) (bytes_of 0 before ++ bytes)
      | false ↦ unless_own stream (new_sayings stream (bytes_of stream before) (bytes_of stream before ++ bytes))
    ])
    by_test true = heard-others _
    by_test false = unless-others stream _ (said-others stream _)

received-append : (xs ys : List HouseCall) → received_in_calls (xs ++ ys) ≡ received_in_calls xs ++ received_in_calls ys
received-append [] ys = refl
received-append (one ∷ xs) ys = ap (λ l. received_by_call one ++ l) (received-append xs ys) ∙ sym (append_assoc (received_by_call one) (received_in_calls xs) (received_in_calls ys))

received-own : (t : ℕ) (one : HouseCall) → received_by_call one ≡ [] → received_in_calls (if_own t one) ≡ []
received-own t one none = by_test (is_own t)
  where
    by_test : (b : Bool) → received_in_calls (if b then one ∷ [] else []) ≡ []
    by_test true = ap (λ (l : List ℕ). l ++ []) none
    by_test false = refl

module _ (setting : Setting) (before : List Mark) (known : Held (received_in_calls (calls_in setting before)) (log_of_journal setting before)) where
  abbrev log : List Row
  log = log_of_journal setting before

  abbrev Then : Mark → Type 0
  Then mark = Held (received_in_calls (calls_in setting (mark ∷ before))) (log_of_journal setting (mark ∷ before))

  -- it receives nothing
  nothing : (mark : Mark) → received_in_calls (calls_at setting before mark) ≡ [] → AllOfOthers (items_in before mark) → Then mark
  nothing mark none others =
      subst (λ (l : List ℕ). Held l (log_of_journal setting (mark ∷ before)))
      (sym (received-append (calls_in setting before) (calls_at setting before mark)
      ∙ (ap (λ (l : List ℕ). received_in_calls (calls_in setting before) ++ l) none ∙ append-nil (received_in_calls (calls_in setting before)))))
      (held-all setting (received_in_calls (calls_in setting before)) log (items_in before mark) others known)

  -- it receives the front of what waits
  some : (n : ℕ) → Then (House (HouseTook n))
  some n =
      let old = received_in_calls (calls_in setting before) in
      let row = bare_row (Took HOUSE n) HOUSE silent in
      let here : received_in_calls (calls_in setting (House (HouseTook n) ∷ before)) ≡ old ++ take n (pending HOUSE log) =
      received-append (calls_in setting before) (calls_at setting before (House (HouseTook n)))
      ∙ ap (λ (l : List ℕ). old ++ l) (append-nil (take n (pending HOUSE log))) in
      let left : pending HOUSE (row ∷ log) ≡ drop n (pending HOUSE log) =
      ap pending_down (filter-yes (λ (r : Row). r.client == HOUSE) row log refl) ∙ ap (drop n) (append-nil (pending HOUSE log)) in
      subst (λ (rows : List Row). received_in_calls (calls_in setting (House (HouseTook n) ∷ before)) ++ pending HOUSE rows ≡ given_to HOUSE rows)
      (sym (more-took setting log HOUSE n))
      (ap (λ (l : List ℕ). l ++ pending HOUSE (row ∷ log)) here
      ∙ (ap (λ (l : List ℕ). (old ++ take n (pending HOUSE log)) ++ l) left
      ∙ (append_assoc old (take n (pending HOUSE log)) (drop n (pending HOUSE log))
      ∙ (ap (λ (l : List ℕ). old ++ l) (take-append-drop n (pending HOUSE log)) ∙ (known ∙ sym (append-nil (given_to HOUSE log)))))))

  house : (mark : HouseMark) → Then (House mark)
  house HouseIn = nothing (House HouseIn) refl (refl, tt)
  house (HouseSaid bytes) = nothing (House (HouseSaid bytes)) refl (said-others HOUSE _)
  house (HouseTook n) = some n
  house (HouseAnswer k id reply) = nothing (House (HouseAnswer k id reply)) refl (refl, tt)
  house (HouseAsked k id opening ask reply) = nothing (House (HouseAsked k id opening ask reply)) refl tt
  house (HouseOrder order number) = nothing (House (HouseOrder order number)) refl tt

  one-mark : (mark : Mark) → IsOfOthers before mark → Then mark
  one-mark (Joins l t) others = nothing (Joins l t) refl tt
  one-mark (Gets t bytes) others = nothing (Gets t bytes) (received-own t (Turns (Got t bytes)) refl) (gets-others before t bytes)
  one-mark (Ends t) others = nothing (Ends t) (received-own t (Turns (End t)) refl) (gone-others t _ (end-other (parse InProxy (bytes_of 0 before)).rest))
  one-mark (Frees t) others = nothing (Frees t) (received-own t (Turns (Writable t)) refl) tt
  one-mark (Fails t) others = nothing (Fails t) (received-own t (Turns (Failed t)) refl) (gone-others t (ServerFailed ∷ []) (refl, tt))
  one-mark (WriteFails t) others = nothing (WriteFails t) (received-own t (Turns (Failed t)) refl) (gone-others t (ServerFailed ∷ []) (refl, tt))
  one-mark (Takes t bytes accepts) others = nothing (Takes t bytes accepts) (received-own t (call.Takes t bytes) refl) (unless-others t (Took t _ ∷ []) (others, tt))
  one-mark (House mark) others = house mark
  one-mark (Waits waiting want streams shown) others = nothing (Waits waiting want streams shown) refl tt
  one-mark (Accepts k) others = nothing (Accepts k) refl (refl, tt)
  one-mark (Holds t) others = nothing (Holds t) refl tt

-- all that it received, and then what waits for it, is what the rows give it
pub received-all : (setting : Setting) (journal : List Mark) → Throughout IsOfOthers journal
    → received_in_calls (calls_in setting journal) ++ pending HOUSE (log_of_journal setting journal) ≡ given_to HOUSE (log_of_journal setting journal)
received-all setting [] others = refl
received-all setting (mark ∷ before) others = one-mark setting before (received-all setting before others.1) mark others.0
