-- Each row of a client, alone: the same row under the client's own numbers.
use Rattle.std.proofs.Common.{◌≡◌, ℕ, List, [], ◌∷◌, ◌++◌, true, false, Bool, refl, ◌∙◌, ap, sym, Option, None, subst, Ok, Err, Some}
use Rattle.std.specs.Prelude.{◌==◌, ◌||◌, not, Result, nat_lt}
use Rattle.mux_history.specs.Channels.{channels_of, own_number_of}
use Rattle.mux_history.specs.Choices.{sent_number}
use Rattle.mux_history.specs.Controls.{answers_ask, client_has_greeted, house_sends, in_proxy, is_sends, sent_body, proxies_by}
use Rattle.mux_history.specs.Summary.{Summary, read_summary, summary_sender_of}
use Rattle.mux_history.specs.Heard.{Breaks, Dest, Disconnects, ToClient, ToMaster, dest, received_for}
use Rattle.mux_history.specs.Kept.{Every}
use Rattle.mux_history.specs.Log.{admits, all_recorded, bare_row, admitted_clients, received_row, makes_row, matters_of, open_matters, queued, row_of, treat}
use Rattle.mux_history.specs.Policy.{Policy}
use Rattle.mux_history.specs.Rows.{Admit, BadServer, Fate, Gone, Heard, HouseSays, Item, Refused, Row, RunEnd, Says, ServerCut, ServerEnd, ServerFailed, Took, any_of, is_admit, is_end, is_run_over, is_out, is_refusal, loses, rows_of}
use Rattle.mux_history.specs.Said.{Outcome, drops, sent_summary, sent_payload, silent, records}
use Rattle.mux_history.specs.Solo.{item_for, own_ups}
use Rattle.mux_outside.specs.declared.house.HouseReply.{HouseReply}
use Rattle.ssh_fields.specs.Fields.{AreBytes}
use Rattle.ssh_grammar.specs.Control.{Greets}
use Rattle.ssh_grammar.specs.Frames.{frame_answer}
use Rattle.ssh_grammar.specs.Said.{BadFraming, Body, Payload}
use Rattle.ssh_grammar.specs.declared.fault.Bad.{Bad}
use Rattle.ssh_grammar.specs.declared.fault.BadFrame.{BadFrame}
use Rattle.ssh_grammar.specs.declared.numbers.TheConstants.{VERSION}
use Rattle.mux_history.specs.declared.why.Why.TheVariants as why
use Rattle.mux_history.proofs.Apart.{AreApart}
use Rattle.mux_history.proofs.Askers.{Orderly}
use Rattle.mux_history.proofs.Bools.{or-left, or-right}
use Rattle.mux_history.proofs.Finds.{filter-no, filter-yes}
use Rattle.mux_history.proofs.LawfulItems.{client-of, item-of}
use Rattle.mux_history.proofs.OwnRows.{all-of, rows-all}
use Rattle.mux_history.proofs.Quiets.{Quiet}
use Rattle.mux_history.proofs.Readings.{reading-err, reading-ok}
use Rattle.mux_history.proofs.Renumbered.{sender-in, sent-again}
use Rattle.mux_history.proofs.SentApart.{LawfulItem, admits_client}
use Rattle.mux_history.proofs.Sends.{admits-sent, as_row, body-sent, house-sent, quiet-heard, row-parts}
use Rattle.mux_isolation.proofs.Alike.{message-said, numbered}
use Rattle.mux_isolation.proofs.Alone.{loses-alone}
use Rattle.mux_isolation.proofs.ReceivedAlone.{alike, heard-treats}
use Rattle.mux_isolation.proofs.Named.{named-heard, named-mute, named-said, small-item}
use Rattle.mux_isolation.proofs.Numbers.{AllNamed, RowNamed}
use Rattle.mux_isolation.proofs.Rows.{AllSmall, SmallItem, alone-all, row-alone}
use Rattle.mux_isolation.proofs.Solos.{alone, alone_row}

-- ---- the admission

abbrev pub AdmitFact : ℕ → List Row → Item → Type 0
AdmitFact k before (Admit j) = ((j == k) ≡ true) × (any_of (λ row. admits_client k row.item) before ≡ false)
AdmitFact k before item = Unit {0}

abbrev pub AdmitOnce : ℕ → List Row → Type 0
AdmitOnce k [] = Unit {0}
AdmitOnce k (row ∷ before) = AdmitFact k before row.item × AdmitOnce k before

pub admit-alone : (own : List Row) (row : Row) → is_admit (alone_row own row) ≡ is_admit row
admit-alone own row = by_item row.item row.fate
  where
    by_item : (item : Item) (fate : Fate) → is_admit (record { item = item_for own item; client = row.client; up = own_ups (own_number_of item) row.up; farewell = row.farewell; down = row.down; fate = fate }) ≡ is_admit (record row { item = item; fate = fate })
    by_item (Heard p) fate = refl
    by_item item fate = refl

-- a row that admits has an item that does
pub admit-item : (row : Row) (k : ℕ) (before : List Row) → AdmitFact k before row.item → admits_client k row.item ≡ false → is_admit row ≡ false
admit-item row k before fact none = by_item row.item row.fate fact none
  where
    by_item : (item : Item) (fate : Fate) → AdmitFact k before item → admits_client k item ≡ false → is_admit (record row { item = item; fate = fate }) ≡ false
    by_item (Admit j) fate fact none = absurd (let bad : true ≡ false = sym fact.0 ∙ none in cc)
    by_item item Refused fact none = refl
    by_item item fate fact none = refl

pub no-admits : (k : ℕ) (own : List Row) → AdmitOnce k own → any_of (λ row. admits_client k row.item) own ≡ false → any_of is_admit own ≡ false
no-admits k [] once none = refl
no-admits k (row ∷ own) once none =
    ap (λ b. b || any_of is_admit own) (admit-item row k own once.0 (or-left (admits_client k row.item) (any_of (λ r. admits_client k r.item) own) none))
    ∙ no-admits k own once.1 (or-right (admits_client k row.item) (any_of (λ r. admits_client k r.item) own) none)

pub alone-admits : (own : List Row) → any_of is_admit (alone own) ≡ any_of is_admit own
alone-admits [] = refl
alone-admits (row ∷ own) = ap (λ b. b || any_of is_admit (alone own)) (admit-alone own row) ∙ ap (λ b. is_admit row || b) (alone-admits own)

entered-none : (rows : List Row) → any_of is_admit rows ≡ false → admitted_clients rows ≡ []
entered-none [] none = refl
entered-none (row ∷ rows) none =
    ap (λ xs. xs ++ elim (is_admit row) as (λ _. List ℕ) [ true ↦ row.client ∷ [] | false ↦ [] ]) (entered-none rows (or-right (is_admit row) (any_of is_admit rows) none))
    ∙ ap (λ b. elim b as (λ _. List ℕ) [ true ↦ row.client ∷ [] | false ↦ [] ]) (or-left (is_admit row) (any_of is_admit rows) none)

pub matters-none : (rows : List Row) → any_of is_admit rows ≡ false → open_matters rows ≡ 0
matters-none rows none = ap (matters_of rows) (entered-none rows none)

pub any-part : (test : Row → Bool) (k : ℕ) (rows : List Row) → any_of test rows ≡ false → any_of test (rows_of k rows) ≡ false
any-part test k [] none = refl
any-part test k (row ∷ rows) none = by_case (any-part test k rows (or-right (test row) (any_of test rows) none)) (row.client == k) refl
  where
    by_case : any_of test (rows_of k rows) ≡ false → (b : Bool) → (row.client == k) ≡ b → any_of test (rows_of k (row ∷ rows)) ≡ false
    by_case ih true e = ap (any_of test) (filter-yes (λ (r : Row). r.client == k) row rows e) ∙ (ap (λ b. b || any_of test (rows_of k rows)) (or-left (test row) (any_of test rows) none) ∙ ih)
    by_case ih false e = ap (any_of test) (filter-no (λ (r : Row). r.client == k) row rows e) ∙ ih

pub ended-part : (k : ℕ) (rows : List Row) → is_run_over rows ≡ false → is_run_over (rows_of k rows) ≡ false
ended-part k rows none = any-part (λ row. is_end row.fate) k rows none

-- ---- look-ups alone

pub greeted-alone : (own : List Row) → client_has_greeted (alone own) ≡ client_has_greeted own
greeted-alone [] = refl
greeted-alone (row ∷ own) = ap (λ b. b || client_has_greeted (alone own)) (by_item row.item) ∙ ap (λ b. is_sends row.item || b) (greeted-alone own)
  where
    by_item : (item : Item) → is_sends (item_for own item) ≡ is_sends item
    by_item (Heard p) = refl
    by_item item = refl

pub proxy-alone : (own : List Row) → in_proxy (alone own) ≡ in_proxy own
proxy-alone [] = refl
proxy-alone (row ∷ own) = by_item row.item (proxy-alone own)
  where
    by_item : (item : Item) → in_proxy (alone own) ≡ in_proxy own → elim (item_for own item) as (λ _. Bool) [ Says k outgoing given ↦ proxies_by outgoing | _ ↦ in_proxy (alone own) ] ≡ elim item as (λ _. Bool) [ Says k outgoing given ↦ proxies_by outgoing | _ ↦ in_proxy own ]
    by_item (Heard p) ih = ih
    by_item (Says k outgoing given) ih = refl
    by_item item ih = ih

pub out-alone : (own : List Row) → is_out (alone own) ≡ is_out own
out-alone [] = refl
out-alone (row ∷ own) = ap (λ b. (b || is_refusal row.fate) || is_out (alone own)) (loses-alone own row) ∙ ap (λ b. (loses row || is_refusal row.fate) || b) (out-alone own)

-- ---- what is known of a row of a client

abbrev pub Unrefused : Item → Bool → Type 0
Unrefused (Admit j) admitted = admitted ≡ true
Unrefused item admitted = Unit {0}

pub record OwnFacts (policy : Policy) (pid k : ℕ) (own : List Row) (item : Item) (row : Row) : Type 0 where
  pub client : row.client ≡ k
  pub is : row.item ≡ item
  pub named : RowNamed own row
  pub small : SmallItem own item
  pub makes : makes_row (alone own) (item_for own item) ≡ true
  pub treats : Unrefused item (is_admit row) → treat policy pid (sent_number (own_number_of (item_for own item))) (alone own) (item_for own item) ≡ alone_row own row

-- what is accepted, after the end of the run too
pub own-took : (policy : Policy) (pid : ℕ) (before : List Row) → AreApart (channels_of before) → (k size : ℕ) → AllNamed (rows_of k before) → OwnFacts policy pid k (rows_of k before) (Took k size) (bare_row (Took k size) k silent)
own-took policy pid before good k size named = record {
  client = refl;
  is = refl;
  named = named-mute before good k (Took k size) [] refl (λ x. tt) refl refl refl [] tt _ _;
  small = tt;
  makes = refl;
  treats = λ admitted. refl;
}

module _ (policy : Policy) (pid pick : ℕ) (before : List Row) (good : AreApart (channels_of before)) (orderly : Orderly before) where
  makes-same : (k : ℕ) (item : Item) → (makes_row (alone (rows_of k before)) item ≡ not (is_out (rows_of k (alone (rows_of k before))))) → not (is_out (rows_of k before)) ≡ true → makes_row (alone (rows_of k before)) item ≡ true
  makes-same k item is yes_it = is ∙ (ap (λ rows. not (is_out rows)) (rows-all k (alone (rows_of k before)) (alone-all k (rows_of k before) (all-of k before))) ∙ (ap not (out-alone (rows_of k before)) ∙ yes_it))

  -- an outcome that is the same alone
  outcome-treats : (k : ℕ) (named : AllNamed (rows_of k before)) (small : AllSmall (rows_of k before)) (item : Item) (f : List Row → Outcome) (o : Outcome) → RowNamed (rows_of k before) (queued (all_recorded (bare_row item k o) (rows_of k before)) (bare_row item k o) (rows_of k before)) → f (alone (rows_of k before)) ≡ numbered (own_number_of item) o
      → row_of (item_for (rows_of k before) item) k (f (rows_of k (alone (rows_of k before)))) (rows_of k (alone (rows_of k before))) ≡ alone_row (rows_of k before) (row_of item k o (rows_of k before))
  outcome-treats k named small item f o row_named same =
      ap (λ rows. row_of (item_for (rows_of k before) item) k (f rows) rows) (rows-all k (alone (rows_of k before)) (alone-all k (rows_of k before) (all-of k before)))
      ∙ (ap (λ o. row_of (item_for (rows_of k before) item) k o (alone (rows_of k before))) same
      ∙ row-alone k (rows_of k before) item o (all-of k before) small (small-item before good k item) named row_named)

  own-admit : (k : ℕ) → AllNamed (rows_of k before) → AllSmall (rows_of k before) → AdmitOnce k (rows_of k before) → any_of (λ row. admits_client k row.item) before ≡ false → OwnFacts policy pid k (rows_of k before) (Admit k) (row_of (Admit k) k (admits before) (rows_of k before))
  own-admit k named small once none = record {
    client = client-of (Admit k) k (admits before) (rows_of k before);
    is = item-of (Admit k) k (admits before) (rows_of k before);
    named = row-parts (RowNamed (rows_of k before)) (Admit k) k (admits before) (rows_of k before) (λ fw parting down fate. row_named fw parting down fate);
    small = tt;
    makes = refl;
    treats = λ admitted. ap (λ o. row_of (Admit k) k o (rows_of k (alone (rows_of k before)))) (alone_admits ∙ sym (full_admits (nat_lt (open_matters before) 64) refl admitted)) ∙ outcome-treats k named small (Admit k) (λ rows. admits before) (admits before) (row_named [] tt _ _) refl;
  }
    where
      row_named : (fw : List (List ℕ)) → Every Quiet fw → (down : List (List ℕ)) (fate : Fate) → RowNamed (rows_of k before) (as_row (Admit k) k (admits before).sent fw down fate)
      row_named fw parting down fate = named-mute before good k (Admit k) (admits before).sent (admits-sent before) (λ x. tt) refl refl refl fw parting down fate

      alone_admits : admits (alone (rows_of k before)) ≡ records (frame_answer (Greets VERSION))
      alone_admits = ap (λ n. elim (nat_lt n 64) as (λ _. Outcome) [ true ↦ records (frame_answer (Greets VERSION)) | false ↦ record { sent = []; recorded = []; ends = Refused } ]) (matters-none (alone (rows_of k before)) (alone-admits (rows_of k before) ∙ no-admits k (rows_of k before) once (any-part (λ row. admits_client k row.item) k before none)))

      full_admits : (b : Bool) → nat_lt (open_matters before) 64 ≡ b → is_admit (row_of (Admit k) k (admits before) (rows_of k before)) ≡ true → admits before ≡ records (frame_answer (Greets VERSION))
      full_admits true e admitted = ap (λ b. elim b as (λ _. Outcome) [ true ↦ records (frame_answer (Greets VERSION)) | false ↦ record { sent = []; recorded = []; ends = Refused } ]) e
      full_admits false e admitted =
          let refused : false ≡ true = sym (ap (λ b. is_admit (row_of (Admit k) k (elim b as (λ _. Outcome) [ true ↦ records (frame_answer (Greets VERSION)) | false ↦ record { sent = []; recorded = []; ends = Refused } ]) (rows_of k before))) e) ∙ admitted in
          absurd (let h = refused in cc)

  own-gone : (k : ℕ) → AllNamed (rows_of k before) → AllSmall (rows_of k before) → not (is_out (rows_of k before)) ≡ true → OwnFacts policy pid k (rows_of k before) (Gone k) (row_of (Gone k) k silent (rows_of k before))
  own-gone k named small makes = record {
    client = client-of (Gone k) k silent (rows_of k before);
    is = item-of (Gone k) k silent (rows_of k before);
    named = row-parts (RowNamed (rows_of k before)) (Gone k) k silent (rows_of k before) (λ fw parting down fate. named-mute before good k (Gone k) [] refl (λ x. tt) refl refl refl fw parting down fate);
    small = tt;
    makes = makes-same k (Gone k) refl makes;
    treats = λ admitted. outcome-treats k named small (Gone k) (λ rows. silent) silent (named-mute before good k (Gone k) [] refl (λ x. tt) refl refl refl [] tt _ _) refl;
  }

  own-house : (k id : ℕ) (given : HouseReply) → AllNamed (rows_of k before) → AllSmall (rows_of k before) → not (is_out (rows_of k before)) ≡ true → OwnFacts policy pid k (rows_of k before) (HouseSays k id given) (row_of (HouseSays k id given) k (house_sends (rows_of k before) id given) (rows_of k before))
  own-house k id given named small makes = record {
    client = client-of (HouseSays k id given) k (house_sends (rows_of k before) id given) (rows_of k before);
    is = item-of (HouseSays k id given) k (house_sends (rows_of k before) id given) (rows_of k before);
    named = row-parts (RowNamed (rows_of k before)) (HouseSays k id given) k (house_sends (rows_of k before) id given) (rows_of k before) row_named;
    small = tt;
    makes = makes-same k (HouseSays k id given) refl makes;
    treats = λ admitted. outcome-treats k named small (HouseSays k id given) (λ rows. house_sends rows id given) (house_sends (rows_of k before) id given) (row_named [] tt _ _) (ap (λ b. elim b as (λ _. Outcome) [ true ↦ silent | false ↦ answers_ask true id (Some given) ]) (proxy-alone (rows_of k before)));
  }
    where
      row_named : (fw : List (List ℕ)) → Every Quiet fw → (down : List (List ℕ)) (fate : Fate) → RowNamed (rows_of k before) (as_row (HouseSays k id given) k (house_sends (rows_of k before) id given).sent fw down fate)
      row_named fw parting down fate = named-mute before good k (HouseSays k id given) (house_sends (rows_of k before) id given).sent (house-sent (rows_of k before) id given) (λ x. tt) refl refl refl fw parting down fate

  own-control : (k : ℕ) (body : List ℕ) (reply : Option HouseReply) → AllNamed (rows_of k before) → AllSmall (rows_of k before) → not (is_out (rows_of k before)) ≡ true → OwnFacts policy pid k (rows_of k before) (Says k (Body body) reply) (row_of (Says k (Body body) reply) k (sent_body pid k reply (client_has_greeted (rows_of k before)) body) (rows_of k before))
  own-control k body reply named small makes = record {
    client = client-of (Says k (Body body) reply) k (sent_body pid k reply (client_has_greeted (rows_of k before)) body) (rows_of k before);
    is = item-of (Says k (Body body) reply) k (sent_body pid k reply (client_has_greeted (rows_of k before)) body) (rows_of k before);
    named = row-parts (RowNamed (rows_of k before)) (Says k (Body body) reply) k (sent_body pid k reply (client_has_greeted (rows_of k before)) body) (rows_of k before) row_named;
    small = tt;
    makes = makes-same k (Says k (Body body) reply) refl makes;
    treats = λ admitted. outcome-treats k named small (Says k (Body body) reply) (λ rows. sent_body pid k reply (client_has_greeted rows) body) (sent_body pid k reply (client_has_greeted (rows_of k before)) body) (row_named [] tt _ _) (ap (λ g. sent_body pid k reply g body) (greeted-alone (rows_of k before)));
  }
    where
      row_named : (fw : List (List ℕ)) → Every Quiet fw → (down : List (List ℕ)) (fate : Fate) → RowNamed (rows_of k before) (as_row (Says k (Body body) reply) k (sent_body pid k reply (client_has_greeted (rows_of k before)) body).sent fw down fate)
      row_named fw parting down fate = named-mute before good k (Says k (Body body) reply) (sent_body pid k reply (client_has_greeted (rows_of k before)) body).sent (body-sent pid k reply (client_has_greeted (rows_of k before)) body) (λ x. tt) refl refl refl fw parting down fate

  own-bad : (k : ℕ) (fault : BadFrame) (reply : Option HouseReply) → AllNamed (rows_of k before) → AllSmall (rows_of k before) → not (is_out (rows_of k before)) ≡ true → OwnFacts policy pid k (rows_of k before) (Says k (BadFraming fault) reply) (row_of (Says k (BadFraming fault) reply) k (drops (why.BadFrame fault)) (rows_of k before))
  own-bad k fault reply named small makes = record {
    client = client-of (Says k (BadFraming fault) reply) k (drops (why.BadFrame fault)) (rows_of k before);
    is = item-of (Says k (BadFraming fault) reply) k (drops (why.BadFrame fault)) (rows_of k before);
    named = row-parts (RowNamed (rows_of k before)) (Says k (BadFraming fault) reply) k (drops (why.BadFrame fault)) (rows_of k before) (λ fw parting down fate. named-mute before good k (Says k (BadFraming fault) reply) [] refl (λ x. tt) refl refl refl fw parting down fate);
    small = tt;
    makes = makes-same k (Says k (BadFraming fault) reply) refl makes;
    treats = λ admitted. outcome-treats k named small (Says k (BadFraming fault) reply) (λ rows. drops (why.BadFrame fault)) (drops (why.BadFrame fault)) (named-mute before good k (Says k (BadFraming fault) reply) [] refl (λ x. tt) refl refl refl [] tt _ _) refl;
  }

  payload-said : (k : ℕ) (named : AllNamed (rows_of k before)) (small : AllSmall (rows_of k before)) (p : List ℕ) (reply : Option HouseReply) → AreBytes p → sent_payload policy k (alone (rows_of k before)) (sent_number (own_number_of (Says k (Payload p) reply))) p ≡ numbered (own_number_of (Says k (Payload p) reply)) (sent_payload policy k (rows_of k before) pick p)
  payload-said k named small p reply bytes = by_case (read_summary p) refl
    where
      by_case : (r : Result Summary Bad) → read_summary p ≡ r → (elim r as (λ _. Outcome) [ Err bad ↦ drops (why.BadMessage bad) | Ok m ↦ sent_summary policy k (alone (rows_of k before)) (sent_number (own_number_of (Says k (Payload p) reply))) p m ]) ≡ numbered (own_number_of (Says k (Payload p) reply)) (elim r as (λ _. Outcome) [ Err bad ↦ drops (why.BadMessage bad) | Ok m ↦ sent_summary policy k (rows_of k before) pick p m ])
      by_case (Err bad) reads = sym (ap (λ o. numbered o (drops (why.BadMessage bad))) (reading-err p bad summary_sender_of None reads))
      by_case (Ok m) reads =
          ap (λ o. sent_summary policy k (alone (rows_of k before)) (sent_number o) p m) (reading-ok p m summary_sender_of None reads)
          ∙ (message-said (rows_of k before) (alone (rows_of k before)) (alike before good orderly k named small) policy k pick p m (λ c owned. sent-again p m (sender-in p m c bytes reads owned) pick c)
          ∙ sym (ap (λ o. numbered o (sent_summary policy k (rows_of k before) pick p m)) (reading-ok p m summary_sender_of None reads)))

  own-proxy : (k : ℕ) (p : List ℕ) (reply : Option HouseReply) → AreBytes p → AllNamed (rows_of k before) → AllSmall (rows_of k before) → not (is_out (rows_of k before)) ≡ true → OwnFacts policy pid k (rows_of k before) (Says k (Payload p) reply) (row_of (Says k (Payload p) reply) k (sent_payload policy k (rows_of k before) pick p) (rows_of k before))
  own-proxy k p reply bytes named small makes = record {
    client = client-of (Says k (Payload p) reply) k (sent_payload policy k (rows_of k before) pick p) (rows_of k before);
    is = item-of (Says k (Payload p) reply) k (sent_payload policy k (rows_of k before) pick p) (rows_of k before);
    named = row-parts (RowNamed (rows_of k before)) (Says k (Payload p) reply) k (sent_payload policy k (rows_of k before) pick p) (rows_of k before) (λ fw parting down fate. named-said before good k p reply fw parting down fate policy pick bytes);
    small = tt;
    makes = makes-same k (Says k (Payload p) reply) refl makes;
    treats = λ admitted. outcome-treats k named small (Says k (Payload p) reply) (λ rows. sent_payload policy k rows (sent_number (own_number_of (Says k (Payload p) reply))) p) (sent_payload policy k (rows_of k before) pick p) (named-said before good k p reply [] tt _ _ policy pick bytes) (payload-said k named small p reply bytes);
  }

  own-heard : (k : ℕ) (p : List ℕ) → dest before p ≡ ToClient k → AllNamed (rows_of k before) → AllSmall (rows_of k before) → OwnFacts policy pid k (rows_of k before) (Heard p) (row_of (Heard p) k (received_for (rows_of k before) p) (rows_of k before))
  own-heard k p to named small = record {
    client = client-of (Heard p) k (received_for (rows_of k before) p) (rows_of k before);
    is = item-of (Heard p) k (received_for (rows_of k before) p) (rows_of k before);
    named = row-parts (RowNamed (rows_of k before)) (Heard p) k (received_for (rows_of k before) p) (rows_of k before) (named-heard before good k p to (received_for (rows_of k before) p).sent (quiet-heard (rows_of k before) p));
    small = small-item before good k (Heard p);
    makes = refl;
    treats = λ admitted. heard-treats before good orderly k named small policy pid 0 p to;
  }

  -- any row of the client
  module _ (k : ℕ) (real : k ≡ 0 → ⊥) (named : AllNamed (rows_of k before)) (small : AllSmall (rows_of k before)) (once : AdmitOnce k (rows_of k before)) where
    at-client : (item : Item) (row : Row) (j : ℕ) → row.client ≡ j → row.client ≡ k → (AllNamed (rows_of j before) → AllSmall (rows_of j before) → AdmitOnce j (rows_of j before) → OwnFacts policy pid j (rows_of j before) item row) → OwnFacts policy pid k (rows_of k before) item row
    at-client item row j is mine facts = subst (λ (i : ℕ). AllNamed (rows_of i before) → AllSmall (rows_of i before) → AdmitOnce i (rows_of i before) → OwnFacts policy pid i (rows_of i before) item row) (sym is ∙ mine) facts named small once

    not-zero : {A : Type 0} → 0 ≡ k → A
    not-zero e = absurd (real (sym e))

    by-dest : (p : List ℕ) (d : Dest) → dest before p ≡ d → (received_row before p d).client ≡ k → OwnFacts policy pid k (rows_of k before) (Heard p) (received_row before p d)
    by-dest p ToMaster e mine = not-zero mine
    by-dest p (ToClient j) e mine = at-client (Heard p) (row_of (Heard p) j (received_for (rows_of j before) p) (rows_of j before)) j (client-of (Heard p) j (received_for (rows_of j before) p) (rows_of j before)) mine (λ named small once. own-heard j p e named small)
    by-dest p Disconnects e mine = not-zero mine
    by-dest p (Breaks why) e mine = not-zero mine

    pub own-treat : (item : Item) → LawfulItem before item → makes_row before item ≡ true → (treat policy pid pick before item).client ≡ k → OwnFacts policy pid k (rows_of k before) item (treat policy pid pick before item)
    own-treat (Admit j) lawful makes mine = at-client (Admit j) _ j (client-of (Admit j) j (admits before) (rows_of j before)) mine (λ named small once. own-admit j named small once lawful)
    own-treat (Says j (Payload p) reply) lawful makes mine = at-client (Says j (Payload p) reply) _ j (client-of (Says j (Payload p) reply) j (sent_payload policy j (rows_of j before) pick p) (rows_of j before)) mine (λ named small once. own-proxy j p reply lawful.1 named small makes)
    own-treat (Says j (Body body) reply) lawful makes mine = at-client (Says j (Body body) reply) _ j (client-of (Says j (Body body) reply) j (sent_body pid j reply (client_has_greeted (rows_of j before)) body) (rows_of j before)) mine (λ named small once. own-control j body reply named small makes)
    own-treat (Says j (BadFraming fault) reply) lawful makes mine = at-client (Says j (BadFraming fault) reply) _ j (client-of (Says j (BadFraming fault) reply) j (drops (why.BadFrame fault)) (rows_of j before)) mine (λ named small once. own-bad j fault reply named small makes)
    own-treat (HouseSays j id given) lawful makes mine = at-client (HouseSays j id given) _ j (client-of (HouseSays j id given) j (house_sends (rows_of j before) id given) (rows_of j before)) mine (λ named small once. own-house j id given named small makes)
    own-treat (Gone j) lawful makes mine = at-client (Gone j) _ j (client-of (Gone j) j silent (rows_of j before)) mine (λ named small once. own-gone j named small makes)
    own-treat (Heard p) lawful makes mine = by-dest p (dest before p) refl mine
    own-treat (Took j size) lawful makes mine = at-client (Took j size) (bare_row (Took j size) j silent) j refl mine (λ named small once. own-took policy pid before good j size named)
    own-treat (BadServer fault) lawful makes mine = not-zero mine
    own-treat ServerEnd lawful makes mine = not-zero mine
    own-treat (ServerCut left) lawful makes mine = not-zero mine
    own-treat ServerFailed lawful makes mine = not-zero mine
    own-treat (RunEnd cause) lawful makes mine = cc
