-- The numbers that were used are the picks, in order.
use Rattle.std.proofs.Common.{◌≡◌, ℕ, List, [], ◌∷◌, true, false, Bool, refl, ◌∙◌, ap, sym, Option, None, subst, inl, inr, Ok, Err, drop}
use Rattle.std.specs.Prelude.{◌&&◌, Result, is_some}
use Rattle.mux_history.specs.Channels.{own_number_of}
use Rattle.mux_history.specs.Choices.{FromLists, pick_of, sent_number, takes_number, with_reply}
use Rattle.mux_history.specs.Controls.{client_has_greeted, house_sends, sent_body}
use Rattle.mux_history.specs.Summary.{Summary, read_summary, summary_sender_of}
use Rattle.mux_history.specs.Heard.{Breaks, Dest, Disconnects, ToClient, ToMaster, dest, received_for}
use Rattle.mux_history.specs.Journal.{IsLawful, items}
use Rattle.mux_history.specs.Kept.{ForEach}
use Rattle.mux_history.specs.Log.{admits, bare_row, received_row, log_of, makes_next, more_of, row_of, treat}
use Rattle.mux_history.specs.Policy.{Policy}
use Rattle.mux_history.specs.Requests.{is_sent}
use Rattle.mux_history.specs.Right.{IsRight, TakesPick, carried_number}
use Rattle.mux_history.specs.Rows.{Admit, BadServer, Fate, Gone, Heard, HouseSays, Item, Row, RunEnd, Says, ServerCut, ServerEnd, ServerFailed, Took, any_of, rows_of}
use Rattle.mux_history.specs.Said.{Outcome, drops, sent_summary, sent_payload, silent}
use Rattle.mux_history.specs.Settings.{by_lists}
use Rattle.mux_outside.specs.declared.house.HouseReply.{HouseReply}
use Rattle.mux_outside.specs.declared.mark.Mark.{Mark}
use Rattle.ssh_fields.specs.Fields.{AreBytes}
use Rattle.ssh_grammar.specs.Said.{BadFraming, Body, Payload}
use Rattle.ssh_grammar.specs.declared.fault.Bad.{Bad}
use Rattle.mux_history.specs.declared.why.Why.TheVariants as why
use Rattle.mux_history.proofs.LawfulItems.{LawfulIn, LawfulItems, reply-lawful, rows-admits}
use Rattle.mux_history.proofs.Marks.{left-lawful}
use Rattle.mux_history.proofs.Readings.{reading-ok}
use Rattle.mux_history.proofs.Renumbered.{number-sent, sender-in, word}
use Rattle.mux_history.proofs.SentApart.{LawfulItem, admits_client}
use Rattle.mux_history.proofs.Sends.{Sent, as_row, row-parts, sent-by}

abbrev CarriesPick : ℕ → Row → Type 0
CarriesPick pick row = takes_number row ≡ true → carried_number row.up ≡ word pick

none-taken : (pick : ℕ) (row : Row) → row.up ≡ [] → CarriesPick pick row
none-taken pick row none takes = absurd (by_sent (is_sent row) (is_some (own_number_of row.item)) sent takes)
  where
    sent : is_sent row ≡ false
    sent = ap (λ up. is_sent (record row { up = up })) none

    by_sent : (a b : Bool) → a ≡ false → (a && b) ≡ true → ⊥
    by_sent false b e f = cc
    by_sent true b e f = cc

unowned-taken : (pick : ℕ) (row : Row) → own_number_of row.item ≡ None → CarriesPick pick row
unowned-taken pick row none takes = absurd (by_sent (is_sent row) (is_some (own_number_of row.item)) (ap is_some none) takes)
  where
    by_sent : (a b : Bool) → b ≡ false → (a && b) ≡ true → ⊥
    by_sent true b e f = cc
    by_sent false b e f = cc

said-taken : (own : List Row) (k pick : ℕ) (p : List ℕ) (reply : Option HouseReply) (m : Summary) (up fw down : List (List ℕ)) (fate : Fate) → AreBytes p → read_summary p ≡ Ok m → Sent own pick p m up → CarriesPick pick (as_row (Says k (Payload p) reply) k up fw down fate)
said-taken own k pick p reply m up fw down fate bytes reads (inl none) = none-taken pick (as_row (Says k (Payload p) reply) k up fw down fate) none
said-taken own k pick p reply m up fw down fate bytes reads (inr (inl plain)) = unowned-taken pick (as_row (Says k (Payload p) reply) k up fw down fate) (reading-ok p m summary_sender_of None reads ∙ plain.unowned)
said-taken own k pick p reply m up fw down fate bytes reads (inr (inr new)) = λ takes. ap carried_number new.up ∙ ap sent_number (number-sent p m (sender-in p m new.c bytes reads new.owned) pick)

payload-taken : (policy : Policy) (before : List Row) (k pick : ℕ) (p : List ℕ) (reply : Option HouseReply) → AreBytes p → CarriesPick pick (row_of (Says k (Payload p) reply) k (sent_payload policy k (rows_of k before) pick p) (rows_of k before))
payload-taken policy before k pick p reply bytes = row-parts (CarriesPick pick) (Says k (Payload p) reply) k (sent_payload policy k (rows_of k before) pick p) (rows_of k before) (λ fw parting down fate. by_case fw down fate (read_summary p) refl)
  where
    by_case : (fw down : List (List ℕ)) (fate : Fate) (r : Result Summary Bad) → read_summary p ≡ r → CarriesPick pick (as_row (Says k (Payload p) reply) k (elim r as (λ _. Outcome) [ Err bad ↦ drops (why.BadMessage bad) | Ok m ↦ sent_summary policy k (rows_of k before) pick p m ]).sent fw down fate)
    by_case fw down fate (Err bad) reads = none-taken pick (as_row (Says k (Payload p) reply) k [] fw down fate) refl
    by_case fw down fate (Ok m) reads = said-taken (rows_of k before) k pick p reply m (sent_summary policy k (rows_of k before) pick p m).sent fw down fate bytes reads (sent-by policy k (rows_of k before) pick p m)

-- a row whose item names no own number
other-taken : (pick : ℕ) (item : Item) (k : ℕ) (o : Outcome) (own : List Row) → own_number_of item ≡ None → CarriesPick pick (row_of item k o own)
other-taken pick item k o own none = row-parts (CarriesPick pick) item k o own (λ fw parting down fate. unowned-taken pick (as_row item k o.sent fw down fate) none)

heard-taken : (pick : ℕ) (before : List Row) (p : List ℕ) (d : Dest) → CarriesPick pick (received_row before p d)
heard-taken pick before p ToMaster = unowned-taken pick (received_row before p ToMaster) refl
heard-taken pick before p (ToClient k) = other-taken pick (Heard p) k (received_for (rows_of k before) p) (rows_of k before) refl
heard-taken pick before p Disconnects = unowned-taken pick (received_row before p Disconnects) refl
heard-taken pick before p (Breaks cause) = unowned-taken pick (received_row before p (Breaks cause)) refl

treat-taken : (policy : Policy) (pid pick : ℕ) (before : List Row) (item : Item) → LawfulItem before item → CarriesPick pick (treat policy pid pick before item)
treat-taken policy pid pick before (Admit k) lawful = other-taken pick (Admit k) k (admits before) (rows_of k before) refl
treat-taken policy pid pick before (Says k (Payload p) reply) lawful = payload-taken policy before k pick p reply lawful.1
treat-taken policy pid pick before (Says k (Body body) reply) lawful = other-taken pick (Says k (Body body) reply) k (sent_body pid k reply (client_has_greeted (rows_of k before)) body) (rows_of k before) refl
treat-taken policy pid pick before (Says k (BadFraming fault) reply) lawful = other-taken pick (Says k (BadFraming fault) reply) k (drops (why.BadFrame fault)) (rows_of k before) refl
treat-taken policy pid pick before (HouseSays k id given) lawful = other-taken pick (HouseSays k id given) k (house_sends (rows_of k before) id given) (rows_of k before) refl
treat-taken policy pid pick before (Gone k) lawful = other-taken pick (Gone k) k silent (rows_of k before) refl
treat-taken policy pid pick before (Heard p) lawful = heard-taken pick before p (dest before p)
treat-taken policy pid pick before (Took stream size) lawful = unowned-taken pick (bare_row (Took stream size) stream silent) refl
treat-taken policy pid pick before (BadServer fault) lawful = unowned-taken pick (treat policy pid pick before (BadServer fault)) refl
treat-taken policy pid pick before ServerEnd lawful = unowned-taken pick (treat policy pid pick before ServerEnd) refl
treat-taken policy pid pick before (ServerCut left) lawful = unowned-taken pick (treat policy pid pick before (ServerCut left)) refl
treat-taken policy pid pick before ServerFailed lawful = unowned-taken pick (treat policy pid pick before ServerFailed) refl
treat-taken policy pid pick before (RunEnd cause) lawful = unowned-taken pick (treat policy pid pick before (RunEnd cause)) refl

module _ (policy : Policy) (pid : ℕ) (picks : List ℕ) (replies : List HouseReply) where
  more-taken : (rows : List Row) (before : List Item) (item : Item) → ((j : ℕ) → any_of (admits_client j) before ≡ false → any_of (λ row. admits_client j row.item) rows ≡ false) → LawfulIn before item → ForEach (TakesPick (FromLists picks replies)) rows → ForEach (TakesPick (FromLists picks replies)) (more_of (by_lists policy pid picks replies) rows item)
  more-taken rows before item none lawful known = by_next (makes_next rows item)
    where
      by_next : (b : Bool) → ForEach (TakesPick (FromLists picks replies)) (elim b as (λ _. List Row) [ false ↦ rows | true ↦ treat policy pid (pick_of (FromLists picks replies) rows item) rows (with_reply (FromLists picks replies) rows item) ∷ rows ])
      by_next false = known
      by_next true = (treat-taken policy pid (pick_of (FromLists picks replies) rows item) rows (with_reply (FromLists picks replies) rows item) (reply-lawful policy pid picks replies rows before item none lawful), known)

  log-taken : (items : List Item) → LawfulItems items → ForEach (TakesPick (FromLists picks replies)) (log_of (by_lists policy pid picks replies) items)
  log-taken [] lawful = tt
  log-taken (item ∷ before) lawful = more-taken (log_of (by_lists policy pid picks replies) before) before item (λ j none. rows-admits policy pid picks replies j before none) lawful.0 (log-taken before lawful.1)

  pub picks-taken : (marks : List Mark) (left : ℕ) (rows : List Row) → IsLawful marks → IsRight (by_lists policy pid picks replies) marks left rows → ForEach (TakesPick (FromLists picks replies)) rows
  picks-taken marks left rows lawful right = subst (ForEach (TakesPick (FromLists picks replies))) (sym right.determined) (log-taken (drop left (items marks)) (left-lawful left marks lawful))
