-- A client that is out is given nothing more.
use Rattle.std.proofs.Common.{◌≡◌, ◌≢◌, ℕ, Bool, true, false, not, ◌&&◌, ◌||◌, List, [], ◌∷◌, ◌++◌, refl, sym, ap, ◌∙◌, subst, inl, inr, ◌⊎◌, Ok, Err, append-nil, drop, length}
use Rattle.std.specs.Prelude.{◌==◌, Result, map}
use Rattle.ssh_grammar.specs.declared.fault.Bad.{Bad}
use Rattle.ssh_grammar.specs.Said.{Outgoing, Body, Payload, BadFraming, InProxy, parse, said}
use Rattle.mux_outside.specs.declared.house_mark.HouseMark.{HouseMark}
use Rattle.mux_outside.specs.Streams.{among}
use Rattle.mux_outside.specs.declared.house.HouseReply.{HouseReply}
use Rattle.mux_outside.specs.declared.mark.Mark.{Mark}
use Rattle.mux_outside.specs.declared.mark.Mark.TheVariants.{Waits, Accepts, Gets, Ends, Frees, Fails, Takes, Holds, WriteFails, Joins, House}
use Rattle.mux_outside.specs.declared.house_mark.HouseMark.TheVariants.{HouseIn, HouseSaid, HouseTook, HouseAsked, HouseAnswer, HouseOrder}
use Rattle.mux_history.specs.declared.limits.TheConstants.{HOUSE}
use Rattle.mux_history.specs.Choices.{pick_of, with_reply}
use Rattle.mux_history.specs.Controls.{client_has_greeted, house_sends}
use Rattle.mux_history.specs.Farewell.{farewell}
use Rattle.mux_history.specs.Summary.{Summary, read_summary}
use Rattle.mux_history.specs.Heard.{Breaks, Dest, Disconnects, ToClient, ToMaster, dest, for_client, for_lost, received_for, received_summary}
use Rattle.mux_history.specs.Journal.{IsLawful, bytes_of, received_item, is_own_stream, items_in, log_of_journal, new_received, new_sayings, sent_item, server_end, unless_own}
use Rattle.mux_history.specs.Kept.{ForEach}
use Rattle.mux_history.specs.Log.{Setting, admits, all_recorded, bare_row, frames_that_fit, goes, received_row, is_took, makes_next, makes_row, more_all, more_of, new_answers, queued, row_of, sent_by_client, treat, with_farewell}
use Rattle.mux_history.specs.Pending.{joined, pending_down, took_by, waiting_down}
use Rattle.mux_history.specs.Policy.{Policy}
use Rattle.mux_history.specs.Right.{AreFresh}
use Rattle.mux_history.specs.Rows.{Admit, BadServer, Gone, Heard, HouseSays, Item, Row, RunEnd, Says, ServerCut, ServerEnd, ServerFailed, Took, any_of, is_admit, is_run_over, is_lost, is_out, is_refusal, loses, rows_of}
use Rattle.mux_history.specs.Said.{Outcome, silent}
use Rattle.mux_history.specs.Settings.{by_lists}
use Rattle.mux_history.proofs.Bools.{or-yes, same-number}
use Rattle.mux_history.proofs.Finds.{filter-no, filter-yes}
use Rattle.mux_history.proofs.Journals.{logs-right}
use Rattle.mux_history.proofs.LawfulItems.{client-of, item-of, reply-next}
use Rattle.mux_history.proofs.Nexts.{next-live}
use Rattle.mux_history.proofs.RightLogs.{LogKnown, RowKnown, right-known}
use Rattle.mux_bounds.proofs.Entries.{EachItem, by-more, lists, log-first, next, tails, with-reply}
use Rattle.mux_bounds.proofs.Knowns.{LetFirst, greeted-in, to-greeted}
use Rattle.mux_peers.proofs.Steps.{entered-among}
use Rattle.mux_state.specs.State.{EngineState}
use Rattle.mux_state.specs.Stands.{RowsFit}
use Rattle.mux_engine.proofs.Lists.{true-false}

-- ---- a row of a client that was lost records it nothing

farewell-down : (row : Row) (own : List Row) → (with_farewell row own).down ≡ row.down
farewell-down row own = by_loss (loses row)
  where
    by_loss : (b : Bool) → (elim b as (λ _. Row) [ true ↦ record row { farewell = farewell row own } | false ↦ row ]).down ≡ row.down
    by_loss true = refl
    by_loss false = refl

lost-recorded : (item : Item) (k : ℕ) (o : Outcome) (own : List Row) → is_lost own ≡ true → o.recorded ≡ [] → (row_of item k o own).down ≡ []
lost-recorded item k o own lost none =
    farewell-down (queued (all_recorded (bare_row item k o) own) (bare_row item k o) own) own
    ∙ ap (frames_that_fit (waiting_down own)) (ap (λ b. elim (goes o.ends && not b) as (λ _. List (List ℕ)) [ true ↦ o.recorded ++ new_answers (bare_row item k o) own | false ↦ o.recorded ]) lost ∙ (by_fate (goes o.ends) ∙ none))
  where
    by_fate : (b : Bool) → (elim (b && false) as (λ _. List (List ℕ)) [ true ↦ o.recorded ++ new_answers (bare_row item k o) own | false ↦ o.recorded ]) ≡ o.recorded
    by_fate true = refl
    by_fate false = refl

heard-nothing : (own : List Row) (p : List ℕ) → is_lost own ≡ true → (received_for own p).recorded ≡ []
heard-nothing own p lost = by_read (read_summary p)
  where
    by_read : (r : Result Summary Bad) → (elim r as (λ _. Outcome) [ Err bad ↦ silent | Ok m ↦ received_summary own p m ]).recorded ≡ []
    by_read (Err bad) = refl
    by_read (Ok m) = ap (λ b. (elim b as (λ _. Outcome) [ true ↦ for_lost own m | false ↦ for_client own p m ]).recorded) lost

-- ---- a row after which it is as it was

-- out, and lost or silent ever since
pub record ReceivesNothing (k : ℕ) (rows : List Row) : Type 0 where
  pub out : is_out (rows_of k rows) ≡ true
  pub silent : (is_lost (rows_of k rows) ≡ true) ⊎ (client_has_greeted (rows_of k rows) ≡ false)

-- it accepts nothing, and does not admit this client
abbrev pub Passes : ℕ → Item → Type 0
Passes k (Took stream size) = ⊥
Passes k (Admit j) = j ≢ k
Passes k item = Unit {0}

-- a row of the client gives it nothing and takes nothing, and the client was lost before
record RecordsNothing (k : ℕ) (rows : List Row) (row : Row) : Type 0 where
  nothing : row.down ≡ []
  takes : took_by row.item ≡ 0
  lost : is_lost (rows_of k rows) ≡ true

abbrev Leaves : ℕ → List Row → Row → Type 0
Leaves k rows row = row.client ≡ k → RecordsNothing k rows row

module _ (policy : Policy) (pid : ℕ) (k : ℕ) (real : k ≢ 0) where
  not-own : (rows : List Row) (item : Item) (j : ℕ) (o : Outcome) → ReceivesNothing k rows → makes_next rows item ≡ true → (is_run_over rows ≡ false → makes_next rows item ≡ not (is_out (rows_of j rows))) → (is_run_over rows ≡ true → makes_next rows item ≡ false) → Leaves k rows (row_of item j o (rows_of j rows))
  not-own rows item j o is makes live over mine = by_ended (is_run_over rows) refl
    where
      same : j ≡ k
      same = sym (client-of item j o (rows_of j rows)) ∙ mine

      by_ended : (b : Bool) → is_run_over rows ≡ b → RecordsNothing k rows (row_of item j o (rows_of j rows))
      by_ended true e = let bad : true ≡ false = sym makes ∙ over e in absurd (let h = bad in cc)
      by_ended false e = let bad : true ≡ false = sym makes ∙ (live e ∙ ap not (ap (λ i. is_out (rows_of i rows)) same ∙ is.out)) in absurd (let h = bad in cc)

  after-end : (rows : List Row) (item : Item) → is_took item ≡ false → is_run_over rows ≡ true → makes_next rows item ≡ false
  after-end rows item other e = ap (λ b. elim b as (λ _. Bool) [ true ↦ is_took item | false ↦ makes_row rows item ]) e ∙ other

  no-server : (rows : List Row) (row : Row) → row.client ≡ 0 → Leaves k rows row
  no-server rows row none mine = absurd (real (sym mine ∙ none))

  heard-leaves : (rows : List Row) (p : List ℕ) (d : Dest) → dest rows p ≡ d → ForEach (RowKnown policy pid) rows → ReceivesNothing k rows → Leaves k rows (received_row rows p d)
  heard-leaves rows p ToMaster e each is mine = no-server rows (received_row rows p ToMaster) refl mine
  heard-leaves rows p Disconnects e each is mine = no-server rows (received_row rows p Disconnects) refl mine
  heard-leaves rows p (Breaks cause) e each is mine = no-server rows (received_row rows p (Breaks cause)) refl mine
  heard-leaves rows p (ToClient j) e each is mine =
      let same : j ≡ k = sym (client-of (Heard p) j (received_for (rows_of j rows) p) (rows_of j rows)) ∙ mine in
      let lost : is_lost (rows_of k rows) ≡ true = elim is.silent [ inl l ↦ l | inr g ↦ absurd (let bad : true ≡ false = sym (to-greeted policy pid rows p k each (e ∙ ap ToClient same)) ∙ g in let h = bad in cc) ] in
      let lost-j : is_lost (rows_of j rows) ≡ true = ap (λ i. is_lost (rows_of i rows)) same ∙ lost in
      record {
        nothing = lost-recorded (Heard p) j (received_for (rows_of j rows) p) (rows_of j rows) lost-j (heard-nothing (rows_of j rows) p lost-j);
        takes = ap took_by (item-of (Heard p) j (received_for (rows_of j rows) p) (rows_of j rows));
        lost = lost;
      }

  -- each item, as it is treated
  treat-leaves : (pick : ℕ) (rows : List Row) (item : Item) → Passes k item → makes_next rows item ≡ true → ForEach (RowKnown policy pid) rows → ReceivesNothing k rows → Leaves k rows (treat policy pid pick rows item)
  treat-leaves pick rows (Says j outgoing given) pass makes each is = not-own rows (Says j outgoing given) j (sent_by_client policy pid j (rows_of j rows) pick outgoing given) is makes (λ on. next-live rows (Says j outgoing given) on) (λ over. after-end rows (Says j outgoing given) refl over)
  treat-leaves pick rows (HouseSays j id given) pass makes each is = not-own rows (HouseSays j id given) j (house_sends (rows_of j rows) id given) is makes (λ on. next-live rows (HouseSays j id given) on) (λ over. after-end rows (HouseSays j id given) refl over)
  treat-leaves pick rows (Gone j) pass makes each is = not-own rows (Gone j) j silent is makes (λ on. next-live rows (Gone j) on) (λ over. after-end rows (Gone j) refl over)
  treat-leaves pick rows (Admit j) pass makes each is = λ mine. absurd (pass (sym (client-of (Admit j) j (admits rows) (rows_of j rows)) ∙ mine))
  treat-leaves pick rows (Heard p) pass makes each is = heard-leaves rows p (dest rows p) refl each is
  treat-leaves pick rows (Took stream size) pass makes each is = absurd pass
  treat-leaves pick rows (BadServer fault) pass makes each is = no-server rows (treat policy pid pick rows (BadServer fault)) refl
  treat-leaves pick rows ServerEnd pass makes each is = no-server rows (treat policy pid pick rows ServerEnd) refl
  treat-leaves pick rows (ServerCut left) pass makes each is = no-server rows (treat policy pid pick rows (ServerCut left)) refl
  treat-leaves pick rows ServerFailed pass makes each is = no-server rows (treat policy pid pick rows ServerFailed) refl
  treat-leaves pick rows (RunEnd cause) pass makes each is = no-server rows (treat policy pid pick rows (RunEnd cause)) refl

  -- what waits for it afterwards, and how it stands
  pub record Stays (rows rows' : List Row) : Type 0 where
    pub waits : pending_down (rows_of k rows') ≡ pending_down (rows_of k rows)
    pub silent : ReceivesNothing k rows'

  stays-row : (rows : List Row) (row : Row) → ReceivesNothing k rows → Leaves k rows row → Stays rows (row ∷ rows)
  stays-row rows row is leaves = by_client (row.client == k) refl
    where
      own : (row.client == k) ≡ true → rows_of k (row ∷ rows) ≡ row ∷ rows_of k rows
      own e = filter-yes (λ (r : Row). r.client == k) row rows e

      other : (row.client == k) ≡ false → rows_of k (row ∷ rows) ≡ rows_of k rows
      other e = filter-no (λ (r : Row). r.client == k) row rows e

      by_client : (b : Bool) → (row.client == k) ≡ b → Stays rows (row ∷ rows)
      by_client true e = let l : RecordsNothing k rows row = leaves (same-number row.client k e) in record {
        waits = ap pending_down (own e) ∙ (ap (λ n. drop n (pending_down (rows_of k rows) ++ joined row.down)) l.takes ∙ (ap (λ d. pending_down (rows_of k rows) ++ joined d) l.nothing ∙ append-nil (pending_down (rows_of k rows))));
        silent = record {
          out = ap is_out (own e) ∙ or-yes (loses row || is_refusal row.fate) (is_out (rows_of k rows)) is.out;
          silent = inl (ap is_lost (own e) ∙ or-yes (loses row) (is_lost (rows_of k rows)) l.lost);
        };
      }
      by_client false e = record {
        waits = ap pending_down (other e);
        silent = record { out = ap is_out (other e) ∙ is.out; silent = subst (λ (l : List Row). (is_lost l ≡ true) ⊎ (client_has_greeted l ≡ false)) (sym (other e)) is.silent };
      }

  stays-none : (rows : List Row) → ReceivesNothing k rows → Stays rows rows
  stays-none rows is = record { waits = refl; silent = is }

  module _ (picks : List ℕ) (given : List HouseReply) where
    abbrev setting : Setting
    setting = by_lists policy pid picks given

    stays-item : (rows : List Row) (item : Item) → Passes k item → ReceivesNothing k rows → ForEach (RowKnown policy pid) rows → Stays rows (more_of setting rows item)
    stays-item rows item pass is each = by-more policy pid picks given (Stays rows) rows item
        (λ stays. stays-none rows is)
        (λ makes. stays-row rows (next policy pid picks given rows item) is (treat-leaves (pick_of (lists policy pid picks given) rows item) rows (with_reply (lists policy pid picks given) rows item)
        (with-reply policy pid picks given (Passes k) (λ j body a b h. h) rows item pass) (reply-next policy pid picks given rows item makes) each is))

    pub stays-items : (rows : List Row) (xs : List Item) → EachItem (Passes k) xs → ReceivesNothing k rows → ForEach (RowKnown policy pid) (more_all setting rows xs) → Stays rows (more_all setting rows xs)
    stays-items rows [] pass is each = stays-none rows is
    stays-items rows (item ∷ xs) pass is each =
        let now : ForEach (RowKnown policy pid) (more_of setting rows item) = tails policy pid picks given (ForEach (RowKnown policy pid)) (λ row rs h. h.1) (more_of setting rows item) xs each in
        let before : ForEach (RowKnown policy pid) rows = tails policy pid picks given (ForEach (RowKnown policy pid)) (λ row rs h. h.1) rows (item ∷ xs) each in
        let one : Stays rows (more_of setting rows item) = stays-item rows item pass.0 is before in
        let all : Stays (more_of setting rows item) (more_all setting (more_of setting rows item) xs) = stays-items (more_of setting rows item) xs pass.1 one.silent each in
        record { waits = all.waits ∙ one.waits; silent = all.silent }

-- ---- the items of a mark

heard-pass : (k : ℕ) (ss : List Outgoing) → EachItem (Passes k) (map received_item ss)
heard-pass k [] = tt
heard-pass k (Body body ∷ ss) = (tt, heard-pass k ss)
heard-pass k (Payload p ∷ ss) = (tt, heard-pass k ss)
heard-pass k (BadFraming fault ∷ ss) = (tt, heard-pass k ss)

said-pass : (k j : ℕ) (ss : List Outgoing) → EachItem (Passes k) (map (sent_item j) ss)
said-pass k j [] = tt
said-pass k j (s ∷ ss) = (tt, said-pass k j ss)

end-pass : (k : ℕ) (rest : List ℕ) → EachItem (Passes k) (server_end rest ∷ [])
end-pass k [] = (tt, tt)
end-pass k (b ∷ rest) = (tt, tt)

-- something happened at a stream, and no other client came than these
abbrev pub Spares : ℕ → Mark → Type 0
Spares k (Accepts j) = j ≢ k
Spares k (Gets j bytes) = Unit {0}
Spares k (Ends j) = Unit {0}
Spares k (Fails j) = Unit {0}
Spares k (WriteFails j) = Unit {0}
Spares k (Waits waiting want streams shown) = Unit {0}
Spares k (Frees j) = Unit {0}
Spares k (Holds j) = Unit {0}
Spares k (Takes j bytes accepts) = ⊥
Spares k (Joins l t) = Unit {0}
Spares k (House HouseIn) = HOUSE ≢ k
Spares k (House (HouseTook n)) = ⊥
Spares k (House m) = Unit {0}

either-pass : (k : ℕ) (b : Bool) (xs ys : List Item) → EachItem (Passes k) xs → EachItem (Passes k) ys → EachItem (Passes k) (elim b as (λ _. List Item) [ true ↦ xs | false ↦ ys ])
either-pass k true xs ys x y = x
either-pass k false xs ys x y = y

own-pass : (k j : ℕ) (xs : List Item) → EachItem (Passes k) xs → EachItem (Passes k) (unless_own j xs)
own-pass k j xs each = either-pass k (is_own_stream j) [] xs tt each

mark-pass : (k : ℕ) (before : List Mark) (mark : Mark) → Spares k mark → EachItem (Passes k) (items_in before mark)
mark-pass k before (Accepts j) spares = (spares, tt)
mark-pass k before (Gets j bytes) spares = either-pass k (j == 0) (new_received (bytes_of 0 before) (bytes_of 0 before ++ bytes)) (unless_own j (new_sayings j (bytes_of j before) (bytes_of j before ++ bytes)))
    (heard-pass k (drop (length (parse InProxy (bytes_of 0 before)).says) (parse InProxy (bytes_of 0 before ++ bytes)).says))
    (own-pass k j (new_sayings j (bytes_of j before) (bytes_of j before ++ bytes)) (said-pass k j (drop (length (said (bytes_of j before))) (said (bytes_of j before ++ bytes)))))
mark-pass k before (Ends j) spares = either-pass k (j == 0) (server_end (parse InProxy (bytes_of 0 before)).rest ∷ []) (unless_own j (Gone j ∷ [])) (end-pass k (parse InProxy (bytes_of 0 before)).rest) (own-pass k j (Gone j ∷ []) (tt, tt))
mark-pass k before (Fails j) spares = either-pass k (j == 0) (ServerFailed ∷ []) (unless_own j (Gone j ∷ [])) (tt, tt) (own-pass k j (Gone j ∷ []) (tt, tt))
mark-pass k before (WriteFails j) spares = either-pass k (j == 0) (ServerFailed ∷ []) (unless_own j (Gone j ∷ [])) (tt, tt) (own-pass k j (Gone j ∷ []) (tt, tt))
mark-pass k before (Waits waiting want streams shown) spares = tt
mark-pass k before (Frees j) spares = tt
mark-pass k before (Holds j) spares = tt
mark-pass k before (Takes j bytes accepts) spares = absurd spares
mark-pass k before (Joins l t) spares = tt
mark-pass k before (House HouseIn) spares = (spares, tt)
mark-pass k before (House (HouseSaid bytes)) spares = said-pass k HOUSE (drop (length (said (bytes_of HOUSE before))) (said (bytes_of HOUSE before ++ bytes)))
mark-pass k before (House (HouseTook n)) spares = absurd spares
mark-pass k before (House (HouseAsked client id opening ask reply)) spares = tt
mark-pass k before (House (HouseAnswer client id reply)) spares = (tt, tt)
mark-pass k before (House (HouseOrder order number)) spares = tt

-- what waits for a silent client after a mark that spares it
pub waits-on : (policy : Policy) (pid k : ℕ) → k ≢ 0 → (picks : List ℕ) (given : List HouseReply) (mark : Mark) (before : List Mark) → Spares k mark → ReceivesNothing k (log_of_journal (by_lists policy pid picks given) before) → LogKnown policy pid (log_of_journal (by_lists policy pid picks given) (mark ∷ before))
    → pending_down (rows_of k (log_of_journal (by_lists policy pid picks given) (mark ∷ before))) ≡ pending_down (rows_of k (log_of_journal (by_lists policy pid picks given) before))
waits-on policy pid k real picks given mark before spares is known = (stays-items policy pid k real picks given (log_of_journal (by_lists policy pid picks given) before) (items_in before mark) (mark-pass k before mark spares) is known.each).waits

-- ---- a client that was closed

-- it receives nothing more
closed-receives : {taken : ℕ} {drawn : List HouseMark} {s : EngineState} {closed : List ℕ} {rows : List Row} → RowsFit taken drawn s closed rows → ForEach LetFirst rows → (k : ℕ) → among k closed ≡ true → ReceivesNothing k rows
closed-receives {rows = rows} fit first k c = record { out = fit.closed_out k c; silent = by_admitted (any_of is_admit (rows_of k rows)) refl }
  where
    by_greeted : any_of is_admit (rows_of k rows) ≡ false → (b : Bool) → client_has_greeted (rows_of k rows) ≡ b → b ≡ false
    by_greeted e false f = refl
    by_greeted e true f = true-false (sym (greeted-in rows k first f) ∙ e)

    by_admitted : (b : Bool) → any_of is_admit (rows_of k rows) ≡ b → (is_lost (rows_of k rows) ≡ true) ⊎ (client_has_greeted (rows_of k rows) ≡ false)
    by_admitted true e = inl (sym (fit.known k (entered-among k rows e)).out_is ∙ fit.closed_out k c)
    by_admitted false e = inr (by_greeted e (client_has_greeted (rows_of k rows)) refl)

known-log : (policy : Policy) (pid : ℕ) (picks : List ℕ) (replies : List HouseReply) (journal : List Mark) → IsLawful journal → AreFresh (log_of_journal (by_lists policy pid picks replies) journal) → LogKnown policy pid (log_of_journal (by_lists policy pid picks replies) journal)
known-log policy pid picks replies journal lawful fresh = right-known policy pid picks replies journal 0 (log_of_journal (by_lists policy pid picks replies) journal) lawful ((logs-right policy pid picks replies journal).whole fresh)

-- and what waits for it stays
pub waits-closed : {taken : ℕ} {drawn : List HouseMark} {s : EngineState} {closed : List ℕ} (policy : Policy) (pid : ℕ) (picks : List ℕ) (replies : List HouseReply) (mark : Mark) (before : List Mark) → RowsFit taken drawn s closed (log_of_journal (by_lists policy pid picks replies) before)
    → IsLawful (mark ∷ before) → AreFresh (log_of_journal (by_lists policy pid picks replies) (mark ∷ before)) → (k : ℕ) → k ≢ 0 → among k closed ≡ true → Spares k mark
    → pending_down (rows_of k (log_of_journal (by_lists policy pid picks replies) (mark ∷ before))) ≡ pending_down (rows_of k (log_of_journal (by_lists policy pid picks replies) before))
waits-closed policy pid picks replies mark before fit lawful fresh k real c spares =
    let was : LogKnown policy pid (log_of_journal (by_lists policy pid picks replies) before) = known-log policy pid picks replies before lawful.1 fit.fresh in
    waits-on policy pid k real picks replies mark before spares (closed-receives fit (log-first policy pid picks replies before was.each lawful.1) k c) (known-log policy pid picks replies (mark ∷ before) lawful fresh)
