-- A forwarder that greets first ends no run.
use Rattle.std.proofs.Common.{◌≡◌, ◌≢◌, ℕ, Bool, true, false, List, [], ◌∷◌, ◌++◌, length, map, drop, Option, Some, None, sym, ◌∙◌, subst}
use Rattle.std.specs.Prelude.{◌==◌, nat_lt}
use Rattle.std.specs.List.{list_any}
use Rattle.std.proofs.lemmas.Bool.{eq-eqb}
use Rattle.ssh_grammar.specs.declared.numbers.TheConstants.{VERSION}
use Rattle.ssh_grammar.specs.Control.{Answer, Greets}
use Rattle.ssh_grammar.specs.Frames.{frame_answer}
use Rattle.ssh_grammar.specs.Said.{Outgoing, Body, Payload, BadFraming, InProxy, parse, said}
use Rattle.mux_outside.specs.Greeting.{GreetsFirst}
use Rattle.mux_outside.specs.House.{HouseState}
use Rattle.mux_outside.specs.Seen.{Seen}
use Rattle.mux_outside.specs.HouseCalls.{HandsOn, HouseCall}
use Rattle.mux_outside.specs.CallCounts.{CallCounts}
use Rattle.mux_outside.specs.declared.house.HouseReply.{HouseReply}
use Rattle.mux_outside.specs.declared.house_mark.HouseMark.{HouseMark}
use Rattle.mux_outside.specs.declared.house_mark.HouseMark.TheVariants.{HouseIn, HouseSaid, HouseTook, HouseAsked, HouseAnswer, HouseOrder}
use Rattle.mux_outside.specs.declared.mark.Mark.{Mark}
use Rattle.mux_outside.specs.declared.mark.Mark.TheVariants as mark
use Rattle.mux_history.specs.declared.ended.Ended.{Ended}
use Rattle.mux_history.specs.declared.ended.Ended.TheVariants as ended
use Rattle.mux_history.specs.declared.limits.TheConstants.{HOUSE, MAX_CLIENTS}
use Rattle.mux_history.specs.Controls.{answers_ask, answers_maybe, house_answer, client_has_greeted, house_sends, in_proxy, sent_body}
use Rattle.mux_history.specs.Journal.{bytes_of, received_item, house_items, house_sent, is_own_stream, items_in, log_of_journal, new_received, new_sayings, sent_item, server_end, unless_own}
use Rattle.mux_history.specs.Log.{Setting, admits, more_all, more_of, next_row, open_matters, row_of, sent_by_client}
use Rattle.mux_history.specs.Policy.{Policy}
use Rattle.mux_history.specs.Promises.{Throughout}
use Rattle.mux_history.specs.Promises.{EndsAs as AnswersAs}
use Rattle.mux_history.specs.Rows.{Row, rows_of, Item, Admit, Gone, Fate, Goes, Refused, Drop, End}
use Rattle.mux_history.specs.Rows as row
use Rattle.mux_history.specs.Said.{Outcome, silent, records}
use Rattle.mux_history.specs.Settings.{by_lists}
use Rattle.mux_history.specs.Solo.{run_end_of}
use Rattle.mux_engine.specs.Called.{HasSentNothing, StandsGreeting, calls_at, calls_in, is_piece}
use Rattle.mux_engine.specs.Came.{EndedBy, EndsFor, OverBy}
use Rattle.mux_engine.specs.Places.{IsOfOthers}
use Rattle.mux_engine.specs.Run.{IsRun}
use Rattle.mux_engine.specs.Sides.{AtWaits}
use Rattle.mux_engine.proofs.Fates.{EndsAs, EndsReceived, Fine, fine-payload, heard-ends, lives-as, one-ends, row-as, said-as, said-for}
use Rattle.mux_engine.proofs.Greeting.{AllSo, Greeting, greets-before, greets-behind, hello, journal-greets, proxy, so-drop, so-said}
use Rattle.mux_engine.proofs.Lists.{true-false}

-- ---- what is sent so

-- a control message that ends no run, whether or not the client has greeted
abbrev Calm : Outgoing → Type 0
Calm (Body body) = (pid k : ℕ) (given : Option HouseReply) (client_has_greeted : Bool) → Fine (sent_body pid k given client_has_greeted body)
Calm outgoing = Unit {0}

calm-hello : Calm (Body hello)
calm-hello pid k given true = tt
calm-hello pid k given false = tt

calm-proxying : Calm (Body proxy)
calm-proxying pid k given true = tt
calm-proxying pid k given false = tt

abbrev AllCalm : List Outgoing → Type 0
AllCalm = AllSo Calm

calm-said : (bytes : List ℕ) → Greeting bytes → AllCalm (said bytes)
calm-said = so-said Calm calm-hello calm-proxying (λ p. tt) (λ fault. tt)

-- ---- rows that don't end the run for the forwarder

abbrev pub ByOther : Option Ended → Type 0
ByOther (Some (ended.Terminated k id)) = k ≢ HOUSE
ByOther end = Unit {0}

for-other : (k : ℕ) (f : Fate) → k ≢ HOUSE → EndsAs (EndsFor k) f → EndsAs ByOther f
for-other k (End (ended.Terminated client id)) ne h = λ e. ne (sym h ∙ e)
for-other k (End ended.ServerEnd) ne h = tt
for-other k (End ended.Disconnected) ne h = tt
for-other k (End ended.ServerFailed) ne h = tt
for-other k (End (ended.Broke index why)) ne h = tt
for-other k (End (ended.StartRefused index)) ne h = tt
for-other k (End ended.Spent) ne h = tt
for-other k (End ended.OutOfMemory) ne h = tt
for-other k Goes ne h = tt
for-other k Refused ne h = tt
for-other k (Drop why) ne h = tt

heard-other : (f : Fate) → EndsAs EndsReceived f → EndsAs ByOther f
heard-other (End (ended.Terminated client id)) h = absurd h
heard-other (End ended.ServerEnd) h = tt
heard-other (End ended.Disconnected) h = tt
heard-other (End ended.ServerFailed) h = tt
heard-other (End (ended.Broke index why)) h = tt
heard-other (End (ended.StartRefused index)) h = tt
heard-other (End ended.Spent) h = tt
heard-other (End ended.OutOfMemory) h = tt
heard-other Goes h = tt
heard-other Refused h = tt
heard-other (Drop why) h = tt

fine-admits : (rows : List Row) → Fine (admits rows)
fine-admits rows = by_room (nat_lt (open_matters rows) MAX_CLIENTS)
  where
    by_room : (b : Bool) → Fine (elim b as (λ _. Outcome) [ true ↦ records (frame_answer (Greets VERSION)) | false ↦ record { sent = []; recorded = []; ends = Refused } ])
    by_room true = tt
    by_room false = tt

fine-maybe : (o : Option Answer) → Fine (answers_maybe o)
fine-maybe None = tt
fine-maybe (Some answer) = tt

fine-house : (own : List Row) (id : ℕ) (given : HouseReply) → Fine (house_sends own id given)
fine-house own id given = by_proxy (in_proxy own)
  where
    by_proxy : (b : Bool) → Fine (elim b as (λ _. Outcome) [ true ↦ silent | false ↦ answers_ask true id (Some given) ])
    by_proxy true = tt
    by_proxy false = fine-maybe (house_answer true id given)

module _ (policy : Policy) (pid : ℕ) (picks : List ℕ) (given : List HouseReply) where
  abbrev set : Setting
  set = by_lists policy pid picks given

  -- an item whose row doesn't
  abbrev Spares : Item → Type 0
  Spares item = (rows : List Row) → EndsAs ByOther (next_row set rows item).fate

  abbrev AllSpare : List Item → Type 0
  AllSpare [] = Unit {0}
  AllSpare (item ∷ items) = Spares item × AllSpare items

  all-other : (items : List Item) (rows : List Row) → AllSpare items → ByOther (run_end_of rows) → ByOther (run_end_of (more_all set rows items))
  all-other [] rows spare h = h
  all-other (item ∷ items) rows spare h = all-other items (more_of set rows item) spare.1 (one-ends ByOther policy pid picks given item rows (spare.0 rows) h)

  -- what another client sends
  spare-client : (k : ℕ) → k ≢ HOUSE → (xs : List Outgoing) → AllSpare (map (sent_item k) xs)
  spare-client k ne [] = tt
  spare-client k ne (x ∷ xs) = (λ rows. for-other k (next_row set rows (sent_item k x)).fate ne (said-for policy pid picks given k x rows), spare-client k ne xs)

  -- what the forwarder sends calmly
  calm-says : (x : Outgoing) → Calm x → (own : List Row) (pick : ℕ) (reply : Option HouseReply) → Fine (sent_by_client policy pid HOUSE own pick x reply)
  calm-says (Body body) h own pick reply = h pid HOUSE reply (client_has_greeted own)
  calm-says (Payload p) h own pick reply = fine-payload policy HOUSE own pick p
  calm-says (BadFraming fault) h own pick reply = tt

  spare-house : (xs : List Outgoing) → AllCalm xs → AllSpare (map (sent_item HOUSE) xs)
  spare-house [] h = tt
  spare-house (x ∷ xs) h =
      (said-as ByOther policy pid picks given HOUSE x (λ own pick reply. lives-as ByOther (sent_by_client policy pid HOUSE own pick x reply).ends (calm-says x h.0 own pick reply)), spare-house xs h.1)

  -- what the server sends
  spare-heard : (xs : List Outgoing) → AllSpare (map received_item xs)
  spare-heard [] = tt
  spare-heard (x ∷ xs) = (λ rows. heard-other (next_row set rows (received_item x)).fate (heard-ends policy pid picks given x rows), spare-heard xs)

  spare-end : (rest : List ℕ) → AllSpare (server_end rest ∷ [])
  spare-end [] = (λ rows. tt, tt)
  spare-end (b ∷ rest) = (λ rows. tt, tt)

  -- an item of a client that ends nothing
  spare-row : (item : Item) (k : ℕ) (o : List Row → Outcome) → ((rows : List Row) → Fine (o rows)) → (rows : List Row) → EndsAs ByOther (row_of item k (o rows) (rows_of k rows)).fate
  spare-row item k o fine rows = row-as ByOther item k (o rows) (rows_of k rows) (lives-as ByOther (o rows).ends (fine rows))

  spare-admit : (k : ℕ) → AllSpare (Admit k ∷ [])
  spare-admit k = (spare-row (Admit k) k admits fine-admits, tt)

  spare-gone : (k : ℕ) → AllSpare (Gone k ∷ [])
  spare-gone k = (spare-row (Gone k) k (λ rows. silent) (λ rows. tt), tt)

  unless-spare : (b : Bool) (items : List Item) → AllSpare items → AllSpare (elim b as (λ _. List Item) [ true ↦ [] | false ↦ items ])
  unless-spare true items h = tt
  unless-spare false items h = h

  spare-fails : (k : ℕ) → AllSpare (items_in [] (mark.Fails k))
  spare-fails k = by_stream (k == 0)
    where
      by_stream : (b : Bool) → AllSpare (elim b as (λ _. List Item) [ true ↦ row.ServerFailed ∷ [] | false ↦ unless_own k (Gone k ∷ []) ])
      by_stream true = (λ rows. tt, tt)
      by_stream false = unless-spare (is_own_stream k) (Gone k ∷ []) (spare-gone k)

  -- all items of a mark
  spare-marked : (before : List Mark) (m : HouseMark) → AllCalm (said (bytes_of HOUSE before ++ house_sent m)) → AllSpare (house_items before m)
  spare-marked before HouseIn calm = spare-admit HOUSE
  spare-marked before (HouseSaid bytes) calm = spare-house (drop (length (said (bytes_of HOUSE before))) (said (bytes_of HOUSE before ++ bytes))) (so-drop Calm (length (said (bytes_of HOUSE before))) (said (bytes_of HOUSE before ++ bytes)) calm)
  spare-marked before (HouseTook size) calm = (λ rows. tt, tt)
  spare-marked before (HouseAsked client id opening ask reply) calm = tt
  spare-marked before (HouseAnswer client id reply) calm = (spare-row (row.HouseSays client id reply) client (λ rows. house_sends (rows_of client rows) id reply) (λ rows. fine-house (rows_of client rows) id reply), tt)
  spare-marked before (HouseOrder order number) calm = tt

  spare-gets : (before : List Mark) (k : ℕ) (bytes : List ℕ) → k ≢ HOUSE → AllSpare (items_in before (mark.Gets k bytes))
  spare-gets before k bytes ne = by_stream (k == 0)
    where
      by_stream : (b : Bool) → AllSpare (elim b as (λ _. List Item) [ true ↦ new_received (bytes_of 0 before) (bytes_of 0 before ++ bytes) | false ↦ unless_own k (new_sayings k (bytes_of k before) (bytes_of k before ++ bytes)) ])
      by_stream true = spare-heard (drop (length (parse InProxy (bytes_of 0 before)).says) (parse InProxy (bytes_of 0 before ++ bytes)).says)
      by_stream false = unless-spare (is_own_stream k) (new_sayings k (bytes_of k before) (bytes_of k before ++ bytes)) (spare-client k ne (drop (length (said (bytes_of k before))) (said (bytes_of k before ++ bytes))))

  spare-ends : (before : List Mark) (k : ℕ) → AllSpare (items_in before (mark.Ends k))
  spare-ends before k = by_stream (k == 0)
    where
      by_stream : (b : Bool) → AllSpare (elim b as (λ _. List Item) [ true ↦ server_end (parse InProxy (bytes_of 0 before)).rest ∷ [] | false ↦ unless_own k (Gone k ∷ []) ])
      by_stream true = spare-end (parse InProxy (bytes_of 0 before)).rest
      by_stream false = unless-spare (is_own_stream k) (Gone k ∷ []) (spare-gone k)

  spare-in : (before : List Mark) (m : Mark) → IsOfOthers before m → AllCalm (said (bytes_of HOUSE (m ∷ before))) → AllSpare (items_in before m)
  spare-in before (mark.Waits waiting want streams shown) others calm = tt
  spare-in before (mark.Accepts k) others calm = spare-admit k
  spare-in before (mark.Gets k bytes) others calm = spare-gets before k bytes (λ e. true-false (sym (eq-eqb k HOUSE e) ∙ others))
  spare-in before (mark.Ends k) others calm = spare-ends before k
  spare-in before (mark.Frees k) others calm = tt
  spare-in before (mark.Fails k) others calm = spare-fails k
  spare-in before (mark.Takes k bytes accepts) others calm = unless-spare (is_own_stream k) (row.Took k (length bytes) ∷ []) (λ rows. tt, tt)
  spare-in before (mark.Holds k) others calm = tt
  spare-in before (mark.WriteFails k) others calm = spare-fails k
  spare-in before (mark.Joins l k) others calm = tt
  spare-in before (mark.House m) others calm = spare-marked before m calm

  -- where the calls of the forwarder greet first, no row ends the run for the forwarder
  pub other-ends : (journal : List Mark) → Throughout IsOfOthers journal → GreetsFirst (calls_in set journal) → ByOther (run_end_of (log_of_journal set journal))
  other-ends [] others greets = tt
  other-ends (m ∷ before) others greets =
      all-other (items_in before m) (log_of_journal set before) (spare-in before m others.0 (calm-said (bytes_of HOUSE (m ∷ before)) (journal-greets set (m ∷ before) others greets)))
      (other-ends before others.1 (greets-before (calls_in set before) (calls_at set before m) greets))

-- ---- the end of a run

-- an answer that the rows give
answered-other : (turns : ℕ) (marks : List Mark) (refused : Option ℕ) (o : Option Ended) (answer : Ended) → AnswersAs turns marks refused o answer → ByOther o → ByOther (Some answer)
answered-other turns marks refused (Some cause) answer e h = subst (λ (x : Ended). ByOther (Some x)) (sym e) h
answered-other turns marks (Some index) None answer e h = subst (λ (x : Ended). ByOther (Some x)) (sym e) tt
answered-other turns marks None None answer e h = subst (λ (x : Ended). ByOther (Some x)) (sym e.0) tt

-- what came where no forwarder ended it
counted-other : (present : Bool) (answer : Ended) (a b : CallCounts) → (answer ≢ ended.OutOfMemory → present ≡ true → ByOther (Some answer)) → OverBy present (Some answer) a b → EndedBy answer a b
counted-other present (ended.Terminated client id) a b other over = over (other (λ e. absurd (let z : ended.Terminated client id ≡ ended.OutOfMemory = e in cc)))
counted-other present ended.ServerEnd a b other over = over
counted-other present ended.Disconnected a b other over = over
counted-other present ended.ServerFailed a b other over = over
counted-other present (ended.Broke index why) a b other over = over
counted-other present (ended.StartRefused index) a b other over = over
counted-other present ended.Spent a b other over = over
counted-other present ended.OutOfMemory a b other over = over

-- after calls without a piece the calls of a forwarder greet first, where it greets first by all of
-- them
greets-since : (present : Bool) (stands stands' : List HouseCall → Type 0) (since : List HouseCall) (calls : List HouseCall) → list_any is_piece calls ≡ false → stands calls → HandsOn stands stands' since → StandsGreeting present stands' → present ≡ true → GreetsFirst since
greets-since present stands stands' since calls none stood hands greets p = greets-behind calls since none (greets p (calls ++ since) (hands calls stood))

-- what came by the end of a run whose forwarder greets first
pub run-came : {May : HouseReply → Type 0} {Rest : AtWaits} (house last : HouseState) (policy : Policy) (pid turns : ℕ) (before now : Option (List HouseMark)) (start : Option (List Mark)) (seen : Seen) (refused : Option ℕ) (answer : Ended) (a b : CallCounts)
    → IsRun May Rest house.stands last house.known.present policy pid turns before now start seen refused answer → (answer ≢ ended.OutOfMemory → StandsGreeting house.known.present last.stands) → OverBy house.known.present (Some answer) a b → HasSentNothing house → EndedBy answer a b
run-came house last policy pid turns before now start seen refused answer a b run greets over silent = counted-other house.known.present answer a b other over
  where
    set : Setting
    set = by_lists policy pid run.choices.picks run.choices.replies

    other : answer ≢ ended.OutOfMemory → house.known.present ≡ true → ByOther (Some answer)
    other ne p = let was = silent p in
        answered-other turns run.wire.journal refused (run_end_of (log_of_journal set run.wire.journal)) answer (run.ends ne).end
        (other-ends policy pid run.choices.picks run.choices.replies run.wire.journal run.wire.own_streams.others
        (greets-since house.known.present house.stands last.stands (calls_in set run.wire.journal) was.0 was.1.0 was.1.1 (run.forwarder.handed ne) (greets ne) p))
